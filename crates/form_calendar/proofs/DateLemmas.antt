-- A date string is read from the left exactly as it is spelled.
use Rattle.std.proofs.Common.{◌≡◌, ℕ, ◌^◌, ◌<◌, ◌≤◌, ◌++◌, ◌&&◌, List, [], ◌∷◌, length, take, Some, refl, ap, sym, subst, ◌∙◌, arith, codes, eqb, leb, append-nil, append_assoc, ℤ, pos, ◌*ℤ◌, ◌≤ℤ◌, unsigned_abs}
use Rattle.std.proofs.lemmas.Bool.{and_parts, leb-true, le-leb}
use Rattle.std.proofs.lemmas.Int.{ints}
use Rattle.std.proofs.lemmas.Option.{option_and_then_some, cond_some}
use Rattle.std.specs.Int.{IsInRange}
use Rattle.jiff_core.specs.declared.civil.date.Date.{Date}
use Rattle.jiff_core.specs.Date.{epoch_day}
use Rattle.jiff_core.specs.Calendar.{days_from_civil, days_in_month, IsDate}
use Rattle.jiff_core.proofs.SignedLemmas.{signed_arith, one_part}
use Rattle.jiff_core.proofs.DateLemmas.{epoch_day_range}
use Rattle.form_calendar.specs.Digits.{Writes}
use Rattle.form_calendar.specs.Reading.{number_at, behind, pair_at, date_at}
use Rattle.form_calendar.specs.Date.{IsDateText, IsValidDate, day_number_of, date_number}
use Rattle.form_calendar.specs.Month.{IsMonthText}
use Rattle.form_calendar.proofs.DigitLemmas.{writes_below}
use Rattle.form_calendar.proofs.ReadingLemmas.{some_if, some_map, abs_back, behind_reads, number_at_reads, number_at_again, pair_at_reads, pair_at_again, whole_front}

pub date_at_again : (front rest : List ℕ) (y m d : ℕ) → IsDateText front y m d → date_at (front ++ rest) ≡ Some ((y, m, d), rest)
unfolding date_at
date_at_again front rest y m d t =
    rw (t.spelled, append_assoc t.month_text (45 ∷ t.day_text) rest, pair_at_again 4 t.month_text (45 ∷ (t.day_text ++ rest)) y m (codes "-") (λ r. refl) t.month_is, number_at_again 2 t.day_text rest d t.day_is) refl

pub date_at_reads : (text rest : List ℕ) (y m d : ℕ) → date_at text ≡ Some ((y, m, d), rest) → (front : List ℕ) × IsDateText front y m d × (text ≡ front ++ rest)
unfolding date_at
date_at_reads text rest y m d h =
    option_and_then_some _ (pair_at 4 (codes "-") text) _ h (λ month e1 h1.
    option_and_then_some _ (behind (codes "-") month.1) _ h1 (λ r1 e2 h2.
    let last = some_map _ (number_at 2 r1) _ h2 in
    let day = last.0 in
    let w1 = pair_at_reads 4 (codes "-") text month.1 month.0.0 month.0.1 e1 in
    let w2 = number_at_reads 2 r1 day.1 day.0 last.1 in (
      w1.0 ++ (45 ∷ take 2 r1),
      record {
        month_text = w1.0;
        day_text = take 2 r1;
        spelled = refl;
        month_is = subst (λ (p : ℕ × ℕ). IsMonthText w1.0 p.0 p.1) (ap (λ p. (p.0.0, p.0.1)) last.2) w1.1;
        day_is = subst (Writes 2 (take 2 r1)) (ap (λ p. p.0.2) last.2) w2.0;
      },
      w1.2 ∙ ap (λ x. w1.0 ++ x) (behind_reads (codes "-") month.1 r1 e2 ∙ ap (λ x. codes "-" ++ x) (w2.1 ∙ ap (λ p. take 2 r1 ++ p.1) last.2)) ∙ sym (append_assoc w1.0 (45 ∷ take 2 r1) rest),
    )))

-- a year, month and day that have a number make a date
pub day_number_of_some : (y m d : ℕ) (n : ℤ) → day_number_of y m d ≡ Some n → (1 ≤ y) × IsInRange 1 12 m × IsInRange 1 (days_in_month (pos y) m) d × (n ≡ days_from_civil (pos y) m d)
unfolding day_number_of
day_number_of_some y m d n h =
    let t = leb d (days_in_month (pos y) m) in
    let c = cond_some (leb 1 y && (leb 1 m && (leb m 12 && (leb 1 d && t)))) _ n h in
    let a = and_parts (leb 1 y) (leb 1 m && (leb m 12 && (leb 1 d && t))) c.0 in
    let b = and_parts (leb 1 m) (leb m 12 && (leb 1 d && t)) a.1 in
    let e = and_parts (leb m 12) (leb 1 d && t) b.1 in
    let f = and_parts (leb 1 d) t e.1 in
    (leb-true 1 y a.0, (leb-true 1 m b.0, leb-true m 12 e.0), (leb-true 1 d f.0, leb-true d (days_in_month (pos y) m) f.1), sym c.1)

-- and a date has the number of its year, month and day
pub day_number_of_date : (date : Date) → pos 1 ≤ℤ date.year → day_number_of (unsigned_abs date.year) date.month date.day ≡ Some (epoch_day date)
unfolding day_number_of
day_number_of_date date h =
    rw (abs_back date.year h, le-leb 1 (unsigned_abs date.year) (omega (arith, ints, abs_back date.year h)), le-leb 1 date.month date.month_in.0, le-leb date.month 12 date.month_in.1, le-leb 1 date.day date.day_in.0, le-leb date.day (days_in_month date.year date.month) date.day_in.1) refl

-- what is read is a valid date string of that number
pub date_found : (text : List ℕ) (n : ℤ) → date_number text ≡ Some n → IsValidDate text n
unfolding date_number
date_found text n h =
    option_and_then_some _ (date_at text) n h (λ r e k.
    let t = some_if (eqb (length r.1) 0) _ n k in
    let day = some_map (λ (x : ℤ). x *ℤ pos 86_400_000) (day_number_of r.0.0 r.0.1 r.0.2) n t.1 in
    let front = date_at_reads text r.1 r.0.0 r.0.1 r.0.2 e in
    let parts = day_number_of_some r.0.0 r.0.1 r.0.2 day.0 day.1 in
    let below : r.0.0 < 10000 = writes_below 4 front.1.month_is.first_text r.0.0 front.1.month_is.first_is in
    record {
      date = record { year = pos r.0.0; month = r.0.1; day = r.0.2; year_in = omega (arith, ints); month_in = parts.1; day_in = parts.2 };
      from_year_one = omega (arith, ints, parts.0);
      spelled = subst (λ x. IsDateText x r.0.0 r.0.1 r.0.2) (whole_front text front.0 r.1 front.2 t.0) front.1;
      number = sym day.2 ∙ ap (λ x. x *ℤ pos 86_400_000) parts.3;
    })

-- and a valid date string of a number is read as that number
pub date_again : (text : List ℕ) (n : ℤ) → IsValidDate text n → date_number text ≡ Some n
unfolding date_number
date_again text n v =
    let e : date_at text ≡ Some ((unsigned_abs v.date.year, v.date.month, v.date.day), []) = ap date_at (sym (append-nil text)) ∙ date_at_again text [] _ _ _ v.spelled in
    rw (e, day_number_of_date v.date v.from_year_one) (ap Some (sym v.number))

-- the date that has a year, month and day has their number
pub day_number_is : (y m d : ℕ) (date : Date) → 1 ≤ y → date.year ≡ pos y → date.month ≡ m → date.day ≡ d → Some (epoch_day date) ≡ day_number_of y m d
day_number_is y m d date some year month day =
    sym (day_number_of_date date (omega (arith, ints, year))) ∙ ap (λ z. day_number_of (unsigned_abs z) date.month date.day) year
    ∙ ap (λ z. day_number_of y z date.day) month ∙ ap (day_number_of y m) day

-- a year, month and day that have a number are a date of the library
pub day_number_date : (y m d : ℕ) (n : ℤ) → y < 10000 → day_number_of y m d ≡ Some n → IsDate (pos y) (pos m) (pos d)
day_number_date y m d n below h =
    let p = day_number_of_some y m d n h in
    let month = p.1 in
    let day = p.2 in
    ((omega (arith, ints), omega (arith, ints)), (omega (arith, ints), omega (arith, ints)), (omega (arith, ints), omega (arith, ints)))

-- the number of a valid text is small
pub date_bound : (text : List ℕ) (n : ℤ) → IsValidDate text n → unsigned_abs n ≤ 10 ^ 15
date_bound text n v = omega (arith, signed_arith, one_part n, v.number, epoch_day_range v.date)
