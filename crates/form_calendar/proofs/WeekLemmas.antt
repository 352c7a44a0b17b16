-- The weeks of a year, and a week string that is read from the left exactly as it is spelled.
use Rattle.std.proofs.Common.{◌≡◌, ℕ, ◌+◌, ◌-◌, ◌*◌, ◌%◌, ◌^◌, ◌<◌, ◌≤◌, Bool, true, false, ◌&&◌, ◌||◌, cond, List, Some, refl, ap, sym, ◌∙◌, arith, codes, rules, eqb, leb, ℤ, pos, neg_ℤ, ◌+ℤ◌, ◌*ℤ◌, ◌<ℤ◌, ◌≤ℤ◌, unsigned_abs}
use Rattle.std.proofs.lemmas.Bool.{and_parts, leb-true, le-leb}
use Rattle.std.proofs.lemmas.Bool.Decides.{nat_tests}
use Rattle.std.proofs.lemmas.Int.{by_lt_z}
use Rattle.std.proofs.lemmas.Option.{option_and_then_some, cond_some}
use Rattle.std.specs.Int.{IsInRange}
use Rattle.jiff_core.specs.Calendar.{day_count, days_from_civil, days_in_year, weekday_number, is_leap_year, iso_year_start, IsYear, IsBetween, IsEpochDay}
use Rattle.jiff_core.specs.declared.civil.iso_week_date.ISOWeekDate.{ISOWeekDate}
use Rattle.jiff_core.specs.IsoWeekDate.{iso_epoch_day}
use Rattle.jiff_core.specs.IsoWeek.{weeks_in_year, days_from_iso, IsIsoWeekDate}
use Rattle.jiff_core.specs.declared.civil.weekday.Weekday.TheVariants.{Monday}
use Rattle.jiff_core.proofs.SignedLemmas.{signed_arith, one_part}
use Rattle.jiff_core.proofs.CalendarLemmas.{days_from_civil-day_count, day_count-later_year, day_count-next_year, weekday_number-parts, days_in_year_bounds}
use Rattle.jiff_core.proofs.IsoWeekLemmas.{day_count-fourth, iso_year_start-day_count, weeks_in_year-next, iso_year_start_near, iso_year_start-min, iso_year_start-end}
use Rattle.form_calendar.specs.Reading.{whole_pair}
use Rattle.form_calendar.specs.Week.{IsValidWeek, weeks_of, monday_of, week_number_of, week_number}
use Rattle.form_calendar.proofs.DigitLemmas.{writes_below}
use Rattle.form_calendar.proofs.ReadingLemmas.{whole_pair_found, whole_pair_again}

-- a year of so many days that begins so many days after a Monday has this many weeks
weeks_from_first : (a b c d x y n w first : ℕ) (leap : Bool) → 366 ≤ x → n ≡ cond leap 366 365 → y ≡ x + n → a + 4_371_953 + (x + 3 - 366) % 7 ≡ b + (x + 3) → c + 4_371_953 + (y + 3 - 366) % 7 ≡ d + (y + 3) → c + b ≡ d + a + 7 * w → first ≡ (x - 366) % 7 → w ≡ cond (eqb first 3 || (eqb first 2 && leap)) 53 52
weeks_from_first a b c d x y n w first true low long next here there weeks day = grind (arith, nat_tests)
weeks_from_first a b c d x y n w first false low long next here there weeks day = grind (arith, nat_tests)

-- the weeks by the weekday of 1 January are those from the start of the ISO year to the next
pub weeks_same : (y : ℤ) → IsYear y → weeks_in_year y ≡ weeks_of y
unfolding weeks_of
weeks_same y h =
    let here : IsBetween (neg_ℤ (pos 9999)) (pos 10000) y = omega (arith, signed_arith) in
    let there : IsBetween (neg_ℤ (pos 9999)) (pos 10000) (y +ℤ pos 1) = omega (arith, signed_arith) in
    let a = rw (day_count-fourth y here).0 at (iso_year_start-day_count y here) in
    let b = rw (day_count-fourth _ there).0 at (iso_year_start-day_count _ there) in
    let year = day_count-next_year y (y +ℤ pos 1) (omega (arith, signed_arith)) refl in
    let weeks = (weeks_in_year-next y (y +ℤ pos 1) h refl).0 in
    let day : weekday_number (days_from_civil y 1 1) ≡ (day_count y 1 1 - 366) % 7 = omega (arith, weekday_number-parts (days_from_civil y 1 1), days_from_civil-day_count y 1 1, (day_count-fourth y here).1) in
    weeks_from_first _ _ _ _ _ _ (days_in_year y) (weeks_in_year y) _ (is_leap_year y) (day_count-fourth y here).1 refl year a b (omega (arith, signed_arith)) day

-- an earlier ISO year begins earlier
pub iso_year_start_lt : (y later : ℤ) → IsYear y → IsBetween (neg_ℤ (pos 9999)) (pos 10000) later → y <ℤ later → (iso_year_start y +ℤ pos 350) ≤ℤ iso_year_start later
iso_year_start_lt y later h k lt =
    let here : IsBetween (neg_ℤ (pos 9999)) (pos 10000) y = omega (arith, signed_arith) in
    let near = (iso_year_start_near y here).0 in
    let far = (iso_year_start_near later k).1 in
    let long = days_in_year_bounds y in
    let days = day_count-later_year y later (omega (arith, signed_arith)) lt in
    omega (arith, signed_arith, days_from_civil-day_count y 1 1, days_from_civil-day_count later 1 1)

-- a week of a year ends before a later year begins
pub monday_before : (y later : ℤ) (w : ℕ) → IsYear y → IsBetween (neg_ℤ (pos 9999)) (pos 10000) later → y <ℤ later → IsInRange 1 (weeks_of y) w → (monday_of y w +ℤ pos 7) ≤ℤ iso_year_start later
monday_before y later w h k lt r =
    let weeks = weeks_in_year-next y (y +ℤ pos 1) h refl in
    let same = weeks_same y h in
    let next : (iso_year_start (y +ℤ pos 1)) ≤ℤ iso_year_start later = by_lt_z (y +ℤ pos 1) later
    (λ less. omega (arith, signed_arith, iso_year_start_lt (y +ℤ pos 1) later (omega (arith, signed_arith)) k less))
    (λ more. let e : y +ℤ pos 1 ≡ later = omega (arith, signed_arith) in rw e (omega (arith, signed_arith))) in
    omega (arith, signed_arith, weeks.0)

-- each Monday of the years 1 to 9999 is a day of the library
pub monday_range : (y : ℤ) (w : ℕ) → pos 1 ≤ℤ y → y ≤ℤ pos 9999 → IsInRange 1 (weeks_of y) w → IsEpochDay (monday_of y w)
monday_range y w low high r =
    let year : IsYear y = (omega (arith, signed_arith), omega (arith, signed_arith)) in
    let first = iso_year_start_lt (neg_ℤ (pos 9999)) y (search rules) (omega (arith, signed_arith), omega (arith, signed_arith)) (omega (arith, signed_arith)) in
    let last = monday_before y (pos 10000) w year (search rules) (omega (arith, signed_arith)) r in
    (omega (arith, signed_arith, iso_year_start-min), omega (arith, signed_arith, iso_year_start-end))

pub week_number_of_some : (y w : ℕ) (n : ℤ) → week_number_of y w ≡ Some n → (1 ≤ y) × IsInRange 1 (weeks_of (pos y)) w × (n ≡ monday_of (pos y) w *ℤ pos 86_400_000)
unfolding week_number_of
week_number_of_some y w n h =
    let c = cond_some (leb 1 y && (leb 1 w && leb w (weeks_of (pos y)))) _ n h in
    let a = and_parts (leb 1 y) (leb 1 w && leb w (weeks_of (pos y))) c.0 in
    let b = and_parts (leb 1 w) (leb w (weeks_of (pos y))) a.1 in
    (leb-true 1 y a.0, (leb-true 1 w b.0, leb-true w (weeks_of (pos y)) b.1), sym c.1)

pub week_number_of_is : (y w : ℕ) → 1 ≤ y → IsInRange 1 (weeks_of (pos y)) w → week_number_of y w ≡ Some (monday_of (pos y) w *ℤ pos 86_400_000)
unfolding week_number_of
week_number_of_is y w h r = rw (le-leb 1 y h, le-leb 1 w r.0, le-leb w (weeks_of (pos y)) r.1) refl

-- a week that has a number is a week of the library
pub week_number_date : (y w : ℕ) (n : ℤ) → y < 10000 → week_number_of y w ≡ Some n → IsIsoWeekDate (pos y) (pos w) Monday
unfolding days_from_iso
week_number_date y w n below h =
    let p = week_number_of_some y w n h in
    let year : IsYear (pos y) = (omega (arith, signed_arith), omega (arith, signed_arith)) in
    let r = p.1 in
    let same = weeks_same (pos y) year in
    let day = monday_range (pos y) w (omega (arith, signed_arith, p.0)) (omega (arith, signed_arith)) r in
    let zero : (w - 1) * 7 + 0 ≡ (w - 1) * 7 = omega arith in
    (year, (omega (arith, signed_arith), omega (arith, signed_arith)), rw zero day)

-- what is read is a valid week string of that number
pub week_found : (text : List ℕ) (n : ℤ) → week_number text ≡ Some n → IsValidWeek text n
unfolding week_number
week_found text n h =
    option_and_then_some _ (whole_pair (codes "-W") text) n h (λ p e k.
    let parts = week_number_of_some p.0 p.1 n k in
    record {
      year = p.0;
      week = p.1;
      spelled = whole_pair_found (codes "-W") text p.0 p.1 e;
      from_year_one = parts.0;
      week_in = parts.1;
      number = parts.2;
    })

-- and a valid week string of a number is read as that number
pub week_again : (text : List ℕ) (n : ℤ) → IsValidWeek text n → week_number text ≡ Some n
unfolding week_number
week_again text n v =
    rw (whole_pair_again (codes "-W") text v.year v.week (λ r. refl) v.spelled)
    (week_number_of_is v.year v.week v.from_year_one v.week_in ∙ ap Some (sym v.number))

pub weeks_bound : (y : ℤ) → weeks_of y ≤ 53
unfolding weeks_of
weeks_bound y = grind (arith, nat_tests)

-- a week date on a Monday has the number of its year and week
pub week_number_monday : (y w : ℕ) (date : ISOWeekDate) → 1 ≤ y → y < 10000 → date.year ≡ pos y → date.week ≡ w → date.weekday ≡ Monday → (n : ℤ) → n ≡ iso_epoch_day date *ℤ pos 86_400_000 → Some n ≡ week_number_of y w
unfolding days_from_iso
week_number_monday y w date some below year week monday n e =
    let same = weeks_same (pos y) (omega (arith, signed_arith), omega (arith, signed_arith)) in
    let weeks = rw year at date.week_in in
    let r : IsInRange 1 (weeks_of (pos y)) w = omega (arith, weeks) in
    let zero : (w - 1) * 7 + 0 ≡ (w - 1) * 7 = omega arith in
    let day : iso_epoch_day date ≡ monday_of (pos y) w = rw (year, week, monday, zero) refl in
    ap Some (e ∙ ap (λ z. z *ℤ pos 86_400_000) day) ∙ sym (week_number_of_is y w some r)

-- the number of a valid text is small
pub week_bound : (text : List ℕ) (n : ℤ) → IsValidWeek text n → unsigned_abs n ≤ 10 ^ 15
week_bound text n v =
    let below : v.year < 10 ^ 4 = writes_below 4 v.spelled.first_text v.year v.spelled.first_is in
    let day = monday_range (pos v.year) v.week (omega (arith, signed_arith, v.from_year_one)) (omega (arith, signed_arith)) v.week_in in
    omega (arith, signed_arith, one_part n, v.number)
