use Rattle.std.proofs.Common.{arith, refl}
use Rattle.form_encode.specs.Boundaries.{Occurs}
use Rattle.form_encode.proofs.BoundaryLaws.{not-free, All-more, All-whole}
use Rattle.form_encode.proofs.boundaries.is_free.Goals as goal

pub returns-then-occurs-clause-taken : goal.returns-then-occurs-clause-taken
returns-then-occurs-clause-taken c = λ _.
    not-free _ _ _ _ c.part-item.is c.searching-test.true (rw c.deref.ensures.value at (c.if-occurs.ensures.found refl))

pub searching-preserved : goal.searching-preserved
searching-preserved c =
    All-more (λ bytes. ¬ (Occurs bytes c.args.boundary.now)) (λ part. part.items) _ _ _ c.part-item.is c.searching-test.true c.searching.invariant
    (rw c.deref.ensures.value at (c.if-occurs.ensures.nowhere refl))

pub returns-clause-free : goal.returns-clause-free
returns-clause-free c = λ _. record {
  nowhere = All-whole (λ bytes. ¬ (Occurs bytes c.args.boundary.now)) (λ part. part.items) _ _ (omega (arith, c.searching-test.false)) c.searching.invariant;
}
