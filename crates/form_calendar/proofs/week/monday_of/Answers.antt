use Rattle.std.proofs.Common.{arith, pos, w8, w16}
use Rattle.std.proofs.lemmas.Int.{ints, to_z_pos}
use Rattle.std.proofs.lemmas.Bool.{false≢true}
use Rattle.form_calendar.specs.Week.{week_number_of}
use Rattle.form_calendar.proofs.ReadingLemmas.{none_if}
use Rattle.form_calendar.proofs.WeekLemmas.{week_number_of_some, week_number_date, weeks_bound, week_number_monday}
use Rattle.form_calendar.proofs.week.monday_of.Goals as goal

pub returns-then-year-eq0 : goal.returns-then-year-eq0
returns-then-year-eq0 c =
    none_if (week_number_of c.args.year c.args.week) (λ n e. omega (arith, week_number_of_some c.args.year c.args.week n e))

pub returns-then-week-gt53 : goal.returns-then-week-gt53
returns-then-week-gt53 c =
    none_if (week_number_of c.args.year c.args.week) (λ n e. omega (arith, week_number_of_some c.args.year c.args.week n e, weeks_bound (pos c.args.year)))

pub returns-in-Ok : goal.returns-in-Ok
returns-in-Ok c =
    let parts = c.in-Ok.ensures.value in
    week_number_monday c.args.year c.args.week c.in-Ok.monday (omega arith) c.requires.year_in (omega (arith, ints, parts)) (omega (arith, ints, parts)) parts.2 _ (omega (arith, ints, c.to_unix_epoch_day.ensures.value, c.to_unix_epoch_day.ensures.bound, c.to_date.ensures))

pub returns-in-Err : goal.returns-in-Err
returns-in-Err c =
    none_if (week_number_of c.args.year c.args.week) (λ n e.
    let date = week_number_date c.args.year c.args.week n c.requires.year_in e in
    false≢true (c.in-Err.ensures.succeeds.1 (rw (to_z_pos w16 c.args.year (omega arith), to_z_pos w8 c.args.week (omega arith)) date)))
