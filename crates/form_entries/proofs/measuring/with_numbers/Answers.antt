use Rattle.std.proofs.Common.{◌≡◌, ◌+◌, drop, get_or, length, map, sym, ap, ◌∙◌, arith}
use Rattle.form_entries.specs.Below.{measured}
use Rattle.form_entries.specs.EntryList.{capped, file_entry}
use Rattle.form_entries.proofs.LengthLaws.{measured_map_end, measured_map_step}
use Rattle.form_entries.proofs.measuring.with_numbers.Goals as goal

pub loop-number-preserved : goal.loop-number-preserved
loop-number-preserved c =
    let f = file_entry c.args.page.now c.args.name.now in
    let i = c.loop-number.number-index in (
      ap (λ t. measured t (map f (drop (i + 1) c.args.numbers.now)))
          (c.with_text-total.ensures ∙ ap (λ t. capped (c.loop-number.total + (length c.args.name.now + length t))) c.name_of_file.ensures)
          ∙ measured_map_step f c.args.numbers.now i 0 c.loop-number.total c.loop-number-test.true
          ∙ c.loop-number.invariant.0,
      omega arith,
    )

pub returns : goal.returns
returns c =
    let f = file_entry c.args.page.now c.args.name.now in
    measured_map_end f c.args.numbers.now c.loop-number.number-index c.loop-number.total (omega (arith, c.loop-number-test.false)) c.loop-number.invariant.1 ∙ c.loop-number.invariant.0
