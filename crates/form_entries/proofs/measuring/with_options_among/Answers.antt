use Rattle.std.proofs.Common.{◌≡◌, ◌+◌, drop, sym, ap, ◌∙◌, arith}
use Rattle.std.specs.List.{flat_map}
use Rattle.form_entries.specs.Below.{entry_by, measured}
use Rattle.form_entries.specs.EntryList.{name_in}
use Rattle.form_entries.proofs.LengthLaws.{measured_end, measured_step}
use Rattle.form_entries.proofs.measuring.with_options_among.Goals as goal

pub loop-node-preserved : goal.loop-node-preserved
loop-node-preserved c =
    let g = entry_by c.args.page.now c.args.select.now.key (name_in c.args.select.now) in
    let i = c.loop-node.node-index in (
      ap (λ t. measured t (flat_map g (drop (i + 1) c.args.nodes.now))) c.with_option-total.ensures
          ∙ measured_step g c.args.nodes.now i c.node-item.result c.node-item.result c.loop-node.total c.loop-node-test.true c.node-item.is
          ∙ c.loop-node.invariant.0,
      omega arith,
    )

pub returns : goal.returns
returns c =
    let g = entry_by c.args.page.now c.args.select.now.key (name_in c.args.select.now) in
    measured_end g c.args.nodes.now c.loop-node.node-index c.loop-node.total (omega (arith, c.loop-node-test.false)) c.loop-node.invariant.1 ∙ c.loop-node.invariant.0
