use Rattle.std.proofs.Common.{arith, pos, w8, w16}
use Rattle.std.proofs.lemmas.Int.{ints, to_z_pos}
use Rattle.std.proofs.lemmas.Bool.{false≢true}
use Rattle.jiff_core.proofs.CalendarLemmas.{days_in_month_bounds}
use Rattle.form_calendar.specs.Date.{day_number_of}
use Rattle.form_calendar.proofs.ReadingLemmas.{none_if}
use Rattle.form_calendar.proofs.DateLemmas.{day_number_of_some, day_number_is, day_number_date}
use Rattle.form_calendar.proofs.date.date_of.Goals as goal

pub returns-then-year-eq0 : goal.returns-then-year-eq0
returns-then-year-eq0 c =
    none_if (day_number_of c.args.year c.args.month c.args.day) (λ n e. omega (arith, day_number_of_some c.args.year c.args.month c.args.day n e))

pub returns-then-month-gt12 : goal.returns-then-month-gt12
returns-then-month-gt12 c =
    none_if (day_number_of c.args.year c.args.month c.args.day) (λ n e. omega (arith, day_number_of_some c.args.year c.args.month c.args.day n e))

pub returns-then-day-gt31 : goal.returns-then-day-gt31
returns-then-day-gt31 c =
    none_if (day_number_of c.args.year c.args.month c.args.day) (λ n e. omega (arith, day_number_of_some c.args.year c.args.month c.args.day n e, days_in_month_bounds (pos c.args.year) c.args.month))

pub returns-in-Ok : goal.returns-in-Ok
returns-in-Ok c =
    let ymd = c.in-Ok.ensures.value in
    day_number_is c.args.year c.args.month c.args.day c.in-Ok.date (omega arith) (omega (arith, ints, ymd)) (omega (arith, ints, ymd)) (omega (arith, ints, ymd))

pub returns-in-Err : goal.returns-in-Err
returns-in-Err c =
    none_if (day_number_of c.args.year c.args.month c.args.day) (λ n e.
    let date = day_number_date c.args.year c.args.month c.args.day n c.requires.year_in e in
    false≢true (c.in-Err.ensures.succeeds.1 (rw (to_z_pos w16 c.args.year (omega arith), to_z_pos w8 c.args.month (omega arith), to_z_pos w8 c.args.day (omega arith)) date)))
