use Rattle.std.proofs.Common.{arith, All}
use Rattle.form_ports.specs.Shelf.{contents_of, IsThere}
use Rattle.form_worked_requests.proofs.FileLaws.{All-item, All-whole}
use Rattle.form_worked_requests.proofs.files.has_all.Goals as goal

pub searching-preserved : goal.searching-preserved
searching-preserved g c =
    All-item (λ n. All (λ number. IsThere (contents_of (λ b. (goal.Blob-dyn g (b.vtable, b.value)).content b.value) c.args.shelf.now) number) n.state.files) _ _ _
    c.node-item.is c.searching-test.true c.searching.invariant
    (rw c.as_slice.ensures at (c.has_each.ensures c.if-not-has_each.false))

pub returns : goal.returns
returns g c = λ _.
    All-whole (λ n. All (λ number. IsThere (contents_of (λ b. (goal.Blob-dyn g (b.vtable, b.value)).content b.value) c.args.shelf.now) number) n.state.files) _ _
    (omega (arith, c.searching-test.false)) c.searching.invariant
