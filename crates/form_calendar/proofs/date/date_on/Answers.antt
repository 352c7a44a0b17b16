use Rattle.std.proofs.Common.{subst, sym, ◌∙◌, arith, w64, FitsSigned}
use Rattle.std.proofs.lemmas.Bool.{false≢true}
use Rattle.std.proofs.lemmas.Int.{to_z-of_z}
use Rattle.jiff_core.specs.Calendar.{IsEpochDay}
use Rattle.jiff_core.proofs.SignedLemmas.{signed_arith}
use Rattle.jiff_core.proofs.DateLemmas.{epoch_day_range, epoch_day_injective}
use Rattle.form_calendar.proofs.date.date_on.Goals as goal

pub returns-in_default-clause-none : goal.returns-in_default-clause-none
returns-in_default-clause-none c =
    let fits : FitsSigned w64 c.args.day = c.ranges.day in
    let succeeds = simp to_z-of_z at c.in_default.ensures.succeeds in
    λ d h e. false≢true (succeeds.1 (subst IsEpochDay e (epoch_day_range d)))

pub returns-then-date-lt1-clause-none : goal.returns-then-date-lt1-clause-none
returns-then-date-lt1-clause-none c =
    let fits : FitsSigned w64 c.args.day = c.ranges.day in
    let value = simp to_z-of_z at c.in-Ok.ensures.value in
    λ d h e. omega (arith, signed_arith, (epoch_day_injective c.in-Ok.date d (value ∙ sym e)).0)
