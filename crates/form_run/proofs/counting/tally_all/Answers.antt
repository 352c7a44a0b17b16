use Rattle.std.proofs.Common.{arith}
use Rattle.std.specs.Prelude.{string_bytes}
use Rattle.form_run.proofs.CountLaws.{changed_end, changed_more, lines_left, none_left, page_end, page_more, refused_end, refused_more}
use Rattle.form_run.proofs.counting.tally_all.Goals as goal

pub loop-line-preserved : goal.loop-line-preserved
loop-line-preserved g c =
    let split = lines_left string_bytes c.args.lines.now c.loop-line.line-index c.line-item.result c.loop-line-test.true c.line-item.is in
    let next = rw c.as_str.ensures.value at c.in_ok-tally.ensures.next in (
      refused_more _ _ _ _ _ split next _ _ _ c.loop-line.invariant.0 (rw c.as_str.ensures.value at c.in_ok-tally.ensures.refused),
      changed_more _ _ _ _ _ split next _ _ _ c.loop-line.invariant.1 (rw c.as_str.ensures.value at c.in_ok-tally.ensures.changed),
      page_more _ _ _ _ _ split next _ c.loop-line.invariant.2,
      omega (arith, c.loop-line.invariant.3, c.in_ok-tally.ensures.few),
      omega (arith, c.loop-line.invariant.4, c.in_ok-tally.ensures.fits),
    )

pub returns-clause-refused : goal.returns-clause-refused
returns-clause-refused g c = refused_end _ _ (none_left string_bytes c.args.lines.now c.loop-line.line-index (omega (arith, c.loop-line-test.false))) _ _ c.loop-line.invariant.0

pub returns-clause-changed : goal.returns-clause-changed
returns-clause-changed g c = changed_end _ _ (none_left string_bytes c.args.lines.now c.loop-line.line-index (omega (arith, c.loop-line-test.false))) _ _ c.loop-line.invariant.1

pub returns-clause-next : goal.returns-clause-next
returns-clause-next g c = page_end _ _ (none_left string_bytes c.args.lines.now c.loop-line.line-index (omega (arith, c.loop-line-test.false))) _ c.loop-line.invariant.2
