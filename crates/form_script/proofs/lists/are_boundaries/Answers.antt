use Rattle.std.proofs.Common.{◌≡◌, ◌∙◌, arith, nat_lt, sym, true}
use Rattle.std.specs.List.{count_by}
use Rattle.std.proofs.lemmas.Bool.Decides.{nat_tests}
use Rattle.form_script.specs.LineReading.{is_space}
use Rattle.form_script.proofs.PartLaws.{few_boundaries}
use Rattle.form_script.proofs.lists.are_boundaries.Goals as goal

pub returns : goal.returns
returns c =
    let few : nat_lt (count_by is_space c.args.text.now) 8 ≡ true = rw (← c.space_count.ensures) (grind (arith, nat_tests, c.if-space_count-ge-MOST_BOUNDARIES.false)) in
    c.are_all.ensures ∙ sym (few_boundaries c.args.text.now few)
