-- A week has one text, which is found from the day number of its Monday.
use Rattle.std.proofs.Common.{◌≡◌, ℕ, ◌+◌, ◌-◌, ◌*◌, ◌/◌, ◌%◌, ◌^◌, ◌<◌, ◌≤◌, true, ◌&&◌, List, Some, None, refl, ap, sym, subst, ◌∙◌, arith, codes, eqb, leb, ℤ, pos, neg_ℤ, ◌+ℤ◌, ◌-ℤ◌, ◌<ℤ◌, ◌≤ℤ◌, unsigned_abs}
use Rattle.std.proofs.lemmas.Bool.{and_parts, eqb-true, eq-eqb, leb-true, le-leb}
use Rattle.std.proofs.lemmas.Option.{cond_some}
use Rattle.std.specs.Int.{IsInRange}
use Rattle.jiff_core.specs.Calendar.{iso_year_start, days_from_civil, weekday_number, IsBetween}
use Rattle.jiff_core.specs.IsoWeek.{days_from_iso}
use Rattle.jiff_core.specs.IsoWeekDate.{iso_epoch_day}
use Rattle.jiff_core.specs.Weekday.{monday_zero}
use Rattle.jiff_core.specs.declared.civil.iso_week_date.ISOWeekDate.{ISOWeekDate}
use Rattle.jiff_core.specs.declared.civil.weekday.Weekday.{Weekday}
use Rattle.jiff_core.specs.declared.civil.weekday.Weekday.TheVariants.{Monday, Tuesday, Wednesday, Thursday, Friday, Saturday, Sunday}
use Rattle.jiff_core.proofs.SignedLemmas.{signed_arith}
use Rattle.jiff_core.proofs.CalendarLemmas.{weekday_number-parts, weekday_number-add}
use Rattle.form_calendar.specs.Date.{day_of, clock_of}
use Rattle.form_calendar.specs.Week.{IsWeekText, IsValidWeek, weeks_of, monday_of, week_number, year_week_text, week_year_of_day, week_text_in, monday_text, week_text}
use Rattle.form_calendar.specs.Shortest.{IsShortest}
use Rattle.form_calendar.proofs.DigitLemmas.{writes_below, pair_writes, pair_only}
use Rattle.form_calendar.proofs.ReadingLemmas.{some_if, none_if, abs_back}
use Rattle.form_calendar.proofs.StringLaws.{StringLaws, one_text}
use Rattle.form_calendar.proofs.DateTexts.{last_begun_found, last_begun_is, abs_sub, day_and_clock, day_and_clock_once}
use Rattle.form_calendar.proofs.WeekLemmas.{weeks_same, weeks_bound, monday_before, week_found, week_again}

week_text_in_some : (y days : ℕ) (text : List ℕ) → week_text_in y days ≡ Some text → (1 ≤ y) × (days % 7 ≡ 0) × (days / 7 + 1 ≤ weeks_of (pos y)) × (year_week_text y (days / 7 + 1) ≡ text)
unfolding week_text_in
week_text_in_some y days text h =
    let last = leb (days / 7 + 1) (weeks_of (pos y)) in
    let c = cond_some (leb 1 y && (eqb (days % 7) 0 && last)) (year_week_text y (days / 7 + 1)) text h in
    let a = and_parts (leb 1 y) (eqb (days % 7) 0 && last) c.0 in
    let b = and_parts (eqb (days % 7) 0) last a.1 in
    (leb-true 1 y a.0, eqb-true (days % 7) 0 b.0, leb-true (days / 7 + 1) (weeks_of (pos y)) b.1, c.1)

year_found : (day : ℤ) → 1 ≤ week_year_of_day day → (week_year_of_day day ≤ 9999) × (iso_year_start (pos (week_year_of_day day)) ≤ℤ day)
unfolding week_year_of_day
year_found day h = last_begun_found (λ y. iso_year_start (pos y)) 9999 day h

-- the text of a day number is that of a week whose Monday is the day
pub monday_text_valid : (day : ℤ) (text : List ℕ) → monday_text day ≡ Some text → (y : ℕ) × (w : ℕ) × (1 ≤ y) × (y ≤ 9999) × IsInRange 1 (weeks_of (pos y)) w × (year_week_text y w ≡ text) × (monday_of (pos y) w ≡ day)
unfolding monday_text
monday_text_valid day text h =
    let y = week_year_of_day day in
    let days = unsigned_abs (day -ℤ iso_year_start (pos y)) in
    let p = week_text_in_some y days text h in
    let year = year_found day p.0 in
    let back = abs_sub day (iso_year_start (pos y)) year.1 in
    let whole : (days / 7 + 1 - 1) * 7 ≡ days = omega (arith, p.1) in
    (y, days / 7 + 1, p.0, year.0, (omega arith, p.2), p.3, ap (λ k. iso_year_start (pos y) +ℤ pos k) whole ∙ back)

year_is : (y w : ℕ) → 1 ≤ y → y ≤ 9999 → IsInRange 1 (weeks_of (pos y)) w → week_year_of_day (monday_of (pos y) w) ≡ y
unfolding week_year_of_day
year_is y w low high r =
    last_begun_is (λ k. iso_year_start (pos k)) 9999 y (monday_of (pos y) w) low high (omega (arith, signed_arith))
    (λ j g k. omega (arith, signed_arith, monday_before (pos y) (pos j) w (omega (arith, signed_arith), omega (arith, signed_arith)) (omega (arith, signed_arith), omega (arith, signed_arith)) (omega (arith, signed_arith)) r))

-- and a week has the text of its Monday's day number
pub monday_text_is : (y w : ℕ) → 1 ≤ y → y ≤ 9999 → IsInRange 1 (weeks_of (pos y)) w → monday_text (monday_of (pos y) w) ≡ Some (year_week_text y w)
unfolding monday_text week_text_in
monday_text_is y w low high r =
    let days : unsigned_abs (monday_of (pos y) w -ℤ iso_year_start (pos y)) ≡ (w - 1) * 7 = omega (arith, signed_arith, abs_sub (monday_of (pos y) w) (iso_year_start (pos y)) (omega (arith, signed_arith))) in
    let some = r.0 in
    let number : (w - 1) * 7 / 7 + 1 ≡ w = omega arith in
    let rest : (w - 1) * 7 % 7 ≡ 0 = omega arith in
    rw (year_is y w low high r, days, rest, number, le-leb 1 y low, le-leb w (weeks_of (pos y)) r.1) refl

-- the text of a number is valid
pub week_text_valid : (n : ℤ) (text : List ℕ) → week_text n ≡ Some text → IsValidWeek text n
unfolding week_text
week_text_valid n text h =
    let c = some_if (eqb (clock_of n) 0) (monday_text (day_of n)) text h in
    let midnight = eqb-true (clock_of n) 0 c.0 in
    let m = monday_text_valid (day_of n) text c.1 in
    let bound = weeks_bound (pos m.0) in
    let high = m.3 in
    let range = m.4 in
    record {
      year = m.0;
      week = m.1;
      spelled = subst (λ x. IsWeekText x m.0 m.1) m.5 (pair_writes 4 (codes "-W") m.0 m.1 (omega arith) (omega arith) (omega arith) (omega arith));
      from_year_one = m.2;
      week_in = m.4;
      number = (day_and_clock n).0 ∙ omega (arith, signed_arith, midnight, m.6);
    }

-- and a number has no other valid text
pub week_text_only : (text : List ℕ) (n : ℤ) → IsValidWeek text n → week_text n ≡ Some text
unfolding week_text
week_text_only text n v =
    let s = day_and_clock_once n (monday_of (pos v.year) v.week) 0 (omega (arith, signed_arith, v.number)) (omega arith) in
    let midnight : eqb (clock_of n) 0 ≡ true = eq-eqb (clock_of n) 0 s.1 in
    let below : v.year < 10 ^ 4 = writes_below 4 v.spelled.first_text v.year v.spelled.first_is in
    rw (midnight, s.0, monday_text_is v.year v.week v.from_year_one (omega arith) v.week_in) (ap Some (sym (pair_only 4 (codes "-W") text v.year v.week (omega arith) (omega arith) v.spelled)))

-- the laws of week strings
pub week_laws : StringLaws IsValidWeek (IsShortest IsValidWeek) week_number week_text
week_laws = one_text IsValidWeek week_number week_text week_found week_again week_text_valid week_text_only

-- a day number that no Monday of a week has has no text
pub monday_text_none : (day : ℤ) → ((y w : ℕ) → 1 ≤ y → y ≤ 9999 → IsInRange 1 (weeks_of (pos y)) w → monday_of (pos y) w ≡ day → ⊥) → None ≡ monday_text day
monday_text_none day h =
    none_if (monday_text day) (λ t e. let m = monday_text_valid day t e in h m.0 m.1 m.2 m.3 m.4 m.6)

weekday_short : (w : Weekday) → monday_zero w ≤ 6
weekday_short Monday = omega arith
weekday_short Tuesday = omega arith
weekday_short Wednesday = omega arith
weekday_short Thursday = omega arith
weekday_short Friday = omega arith
weekday_short Saturday = omega arith
weekday_short Sunday = omega arith

weekday_zero : (w : Weekday) → monday_zero w ≡ 0 → w ≡ Monday
weekday_zero Monday h = refl
weekday_zero Tuesday h = absurd (omega arith)
weekday_zero Wednesday h = absurd (omega arith)
weekday_zero Thursday h = absurd (omega arith)
weekday_zero Friday h = absurd (omega arith)
weekday_zero Saturday h = absurd (omega arith)
weekday_zero Sunday h = absurd (omega arith)

-- a week date lies before the start of each later year
week_before : (date : ISOWeekDate) (later : ℤ) → IsBetween (neg_ℤ (pos 9999)) (pos 10000) later → date.year <ℤ later → iso_epoch_day date <ℤ iso_year_start later
unfolding days_from_iso
week_before date later k lt =
    let weeks = weeks_same date.year date.year_in in
    let r : IsInRange 1 (weeks_of date.year) date.week = omega (arith, date.week_in) in
    let before = monday_before date.year later date.week date.year_in k lt r in
    let short = weekday_short date.weekday in
    omega (arith, signed_arith)

-- a week date of a year before the year 1 is no Monday of a week that has a text
pub early_no_text : (date : ISOWeekDate) (day : ℤ) → iso_epoch_day date ≡ day → date.year <ℤ pos 1 → None ≡ monday_text day
early_no_text date day e early =
    monday_text_none day (λ y w low high r m.
    omega (arith, signed_arith, week_before date (pos y) (omega (arith, signed_arith), omega (arith, signed_arith)) (omega (arith, signed_arith))))

-- Mondays have the weekday 0
monday_weekday : (y : ℤ) (w : ℕ) → (7 * ((w - 1) * 7) ≡ (w - 1) * 7 * 7) × (weekday_number (monday_of y w) ≡ 0)
monday_weekday y w = (omega arith, omega (arith, signed_arith, weekday_number-parts (monday_of y w), weekday_number-parts (days_from_civil y 1 4)))

week_weekday : (date : ISOWeekDate) → weekday_number (iso_epoch_day date) ≡ monday_zero date.weekday
unfolding days_from_iso
week_weekday date =
    let short = weekday_short date.weekday in
    omega (arith, signed_arith, weekday_number-add (monday_of date.year date.week) (iso_epoch_day date) (monday_zero date.weekday) (omega (arith, signed_arith)), (monday_weekday date.year date.week).1)

-- a week date that is no Monday has no text
pub later_no_text : (date : ISOWeekDate) (day : ℤ) → iso_epoch_day date ≡ day → (date.weekday ≡ Monday → ⊥) → None ≡ monday_text day
later_no_text date day e other =
    monday_text_none day (λ y w low high r m.
    other (weekday_zero date.weekday (sym (week_weekday date) ∙ ap weekday_number (e ∙ sym m) ∙ (monday_weekday (pos y) w).1)))

-- and one that is a Monday has the text of its year and week
pub monday_has_text : (date : ISOWeekDate) (day : ℤ) → iso_epoch_day date ≡ day → pos 1 ≤ℤ date.year → date.weekday ≡ Monday → Some (year_week_text (unsigned_abs date.year) date.week) ≡ monday_text day
unfolding days_from_iso
monday_has_text date day e some monday =
    let y = unsigned_abs date.year in
    let year = abs_back date.year some in
    let weeks = weeks_same date.year date.year_in in
    let r : IsInRange 1 (weeks_of (pos y)) date.week = subst (λ z. IsInRange 1 (weeks_of z) date.week) (sym year) (omega (arith, date.week_in)) in
    let zero : monday_zero date.weekday ≡ 0 = ap monday_zero monday in
    let same : monday_of (pos y) date.week ≡ day = rw year (omega (arith, signed_arith, e, zero)) in
    sym (ap monday_text (sym same) ∙ monday_text_is y date.week (omega (arith, signed_arith)) (omega (arith, signed_arith, date.year_in)) r)
