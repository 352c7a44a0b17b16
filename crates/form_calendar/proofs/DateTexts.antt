-- A date has one text, which is found from its day number.
use Rattle.std.proofs.Common.{◌≡◌, inl, inr, ℕ, zero, suc, ◌+◌, ◌^◌, ◌<◌, ◌≤◌, ◌++◌, Bool, true, false, ◌&&◌, cond, int_lt, List, ◌∷◌, Some, None, refl, ap, sym, subst, ◌∙◌, arith, codes, eqb, leb, ℤ, pos, negsuc, ◌+ℤ◌, ◌-ℤ◌, ◌*ℤ◌, ◌<ℤ◌, ◌≤ℤ◌, unsigned_abs}
use Rattle.std.proofs.lemmas.Bool.{and_parts, cases_lt, eqb-true, eq-eqb, ne_eqb, leb-true, le-leb}
use Rattle.std.proofs.lemmas.Int.{ints}
use Rattle.std.proofs.lemmas.Option.{cond_some}
use Rattle.jiff_core.specs.declared.civil.date.Date.{Date}
use Rattle.jiff_core.specs.Date.{epoch_day}
use Rattle.jiff_core.specs.Calendar.{days_from_civil, days_in_month}
use Rattle.jiff_core.proofs.SignedLemmas.{signed_arith}
use Rattle.jiff_core.proofs.CalendarLemmas.{days_in_month_bounds}
use Rattle.jiff_core.proofs.DateLemmas.{epoch_day-lt, days_from_civil-day}
use Rattle.jiff_core.proofs.IsoWeekLemmas.{epoch_day-year}
use Rattle.form_calendar.specs.Digits.{padded, pair_text}
use Rattle.form_calendar.specs.Date.{IsDateText, IsValidDate, date_number, last_begun, civil_text, year_of_day, month_of_day, day_of_month, day_text_in, day_text, day_of, clock_of, date_text}
use Rattle.form_calendar.specs.Shortest.{IsShortest}
use Rattle.form_calendar.proofs.DigitLemmas.{writes_below, padded_writes, padded_only, pair_writes, pair_only}
use Rattle.form_calendar.proofs.ReadingLemmas.{some_if, abs_back, none_if}
use Rattle.form_calendar.proofs.StringLaws.{StringLaws, one_text}
use Rattle.form_calendar.proofs.DateLemmas.{date_found, date_again}

lt_true : (a b : ℤ) → int_lt a b ≡ true → a <ℤ b
lt_true a b h = grind (arith, ints)

lt_false : (a b : ℤ) → int_lt a b ≡ false → b ≤ℤ a
lt_false a b h = grind (arith, ints)

true_lt : (a b : ℤ) → a <ℤ b → int_lt a b ≡ true
true_lt a b h = grind (arith, ints)

false_lt : (a b : ℤ) → b ≤ℤ a → int_lt a b ≡ false
false_lt a b h = grind (arith, ints)

-- the last number that has begun has begun
pub last_begun_found : (first : ℕ → ℤ) (count : ℕ) (day : ℤ) → 1 ≤ last_begun first count day → (last_begun first count day ≤ count) × (first (last_begun first count day) ≤ℤ day)
unfolding last_begun
last_begun_found first zero day h = absurd (omega arith)
last_begun_found first (suc k) day h = go (int_lt day (first (suc k))) refl (last_begun_found first k day) h
  where
    go : (b : Bool) → int_lt day (first (suc k)) ≡ b → (1 ≤ last_begun first k day → (last_begun first k day ≤ k) × (first (last_begun first k day) ≤ℤ day)) → 1 ≤ cond b (last_begun first k day) (suc k) → (cond b (last_begun first k day) (suc k) ≤ suc k) × (first (cond b (last_begun first k day) (suc k)) ≤ℤ day)
    go true e back g = let r = back g in (omega (arith, r.0), r.1)
    go false e back g = (omega arith, lt_false day (first (suc k)) e)

-- it is the number that has begun while the later ones have not
pub last_begun_is : (first : ℕ → ℤ) (count k : ℕ) (day : ℤ) → 1 ≤ k → k ≤ count → first k ≤ℤ day → ((j : ℕ) → k < j → j ≤ count → day <ℤ first j) → last_begun first count day ≡ k
unfolding last_begun
last_begun_is first zero k day low high begun later = absurd (omega arith)
last_begun_is first (suc n) k day low high begun later = elim (cases_lt k (suc n)) [
  | inl lt ↦
      let t = true_lt day (first (suc n)) (later (suc n) lt (omega arith)) in
      let r = last_begun_is first n k day low (omega arith) begun (λ j g h. later j g (omega arith)) in
      rw t r
  | inr ge ↦
      let e : k ≡ suc n = omega arith in
      let f = false_lt day (first (suc n)) (subst (λ x. first x ≤ℤ day) e begun) in
      rw f (sym e)
]

-- and there is one where the first has begun
pub last_begun_some : (first : ℕ → ℤ) (count : ℕ) (day : ℤ) → 1 ≤ count → first 1 ≤ℤ day → 1 ≤ last_begun first count day
unfolding last_begun
last_begun_some first zero day h begun = absurd (omega arith)
last_begun_some first (suc zero) day h begun = let f = false_lt day (first 1) begun in rw f (omega arith)
last_begun_some first (suc (suc k)) day h begun = go (int_lt day (first (suc (suc k)))) refl (last_begun_some first (suc k) day (omega arith) begun)
  where
    go : (b : Bool) → int_lt day (first (suc (suc k))) ≡ b → 1 ≤ last_begun first (suc k) day → 1 ≤ cond b (last_begun first (suc k) day) (suc (suc k))
    go true e back = back
    go false e back = omega arith

abs_nonneg : (z : ℤ) → pos 0 ≤ℤ z → pos (unsigned_abs z) ≡ z
abs_nonneg (pos n) h = refl
abs_nonneg (negsuc n) h = absurd (omega (arith, ints))

-- what lies behind a number is its difference more
pub abs_sub : (a b : ℤ) → b ≤ℤ a → b +ℤ pos (unsigned_abs (a -ℤ b)) ≡ a
abs_sub a b h = omega (arith, signed_arith, abs_nonneg (a -ℤ b) (omega (arith, signed_arith)))

civil_writes : (y m d : ℕ) → y < 10000 → m < 100 → d < 100 → IsDateText (civil_text y m d) y m d
unfolding civil_text
civil_writes y m d year month day = record {
  month_text = pair_text 4 (codes "-") y m;
  day_text = padded 2 d;
  spelled = refl;
  month_is = pair_writes 4 (codes "-") y m (omega arith) year (omega arith) month;
  day_is = padded_writes 2 d (omega arith) day (omega arith);
}

civil_only : (text : List ℕ) (y m d : ℕ) → IsDateText text y m d → text ≡ civil_text y m d
unfolding civil_text
civil_only text y m d t =
    let year : y < 10 ^ 4 = writes_below 4 t.month_is.first_text y t.month_is.first_is in
    let day : d < 10 ^ 2 = writes_below 2 t.day_text d t.day_is in
    t.spelled ∙ ap (λ x. x ++ (45 ∷ t.day_text)) (pair_only 4 (codes "-") t.month_text y m (omega arith) (omega arith) t.month_is)
    ∙ ap (λ x. pair_text 4 (codes "-") y m ++ (45 ∷ x)) (padded_only 2 d t.day_text (omega arith) (omega arith) t.day_is)

day_text_in_some : (y m d : ℕ) (text : List ℕ) → day_text_in y m d ≡ Some text → (1 ≤ y) × (d ≤ days_in_month (pos y) m) × (civil_text y m d ≡ text)
unfolding day_text_in
day_text_in_some y m d text h =
    let c = cond_some (leb 1 y && leb d (days_in_month (pos y) m)) (civil_text y m d) text h in
    let a = and_parts (leb 1 y) (leb d (days_in_month (pos y) m)) c.0 in
    (leb-true 1 y a.0, leb-true d (days_in_month (pos y) m) a.1, c.1)

year_found : (day : ℤ) → 1 ≤ year_of_day day → (year_of_day day ≤ 9999) × (days_from_civil (pos (year_of_day day)) 1 1 ≤ℤ day)
unfolding year_of_day
year_found day h = last_begun_found (λ y. days_from_civil (pos y) 1 1) 9999 day h

month_found : (y : ℕ) (day : ℤ) → days_from_civil (pos y) 1 1 ≤ℤ day → (1 ≤ month_of_day y day) × (month_of_day y day ≤ 12) × (days_from_civil (pos y) (month_of_day y day) 1 ≤ℤ day)
unfolding month_of_day
month_found y day h =
    let some = last_begun_some (λ m. days_from_civil (pos y) m 1) 12 day (omega arith) h in
    let r = last_begun_found (λ m. days_from_civil (pos y) m 1) 12 day some in
    (some, r.0, r.1)

day_found : (y m : ℕ) (day : ℤ) → days_from_civil (pos y) m 1 ≤ℤ day → (1 ≤ day_of_month y m day) × (days_from_civil (pos y) m (day_of_month y m day) ≡ day)
unfolding day_of_month
day_found y m day h =
    let back = abs_sub day (days_from_civil (pos y) m 1) h in
    let d = unsigned_abs (day -ℤ days_from_civil (pos y) m 1) + 1 in
    (omega arith, omega (arith, signed_arith, back, days_from_civil-day (pos y) m 1 d (omega arith) (omega arith)))

-- the text of a day number is that of a date of that day
pub day_text_valid : (day : ℤ) (text : List ℕ) → day_text day ≡ Some text → (date : Date) × (pos 1 ≤ℤ date.year) × IsDateText text (unsigned_abs date.year) date.month date.day × (epoch_day date ≡ day)
unfolding day_text
day_text_valid day text h =
    let y = year_of_day day in
    let m = month_of_day y day in
    let d = day_of_month y m day in
    let p = day_text_in_some y m d text h in
    let year = year_found day p.0 in
    let month = month_found y day year.1 in
    let in_month = day_found y m day month.2 in
    let long = days_in_month_bounds (pos y) m in
    let low = p.0 in
    let last = p.1 in
    let high = year.0 in
    let twelve = month.1 in (
      record {
        year = pos y;
        month = m;
        day = d;
        year_in = (omega (arith, signed_arith), omega (arith, signed_arith));
        month_in = (month.0, month.1);
        day_in = (in_month.0, p.1);
      },
      omega (arith, signed_arith),
      subst (λ x. IsDateText x y m d) p.2 (civil_writes y m d (omega arith) (omega arith) (omega arith)),
      in_month.1,
    )

year_is : (date : Date) → pos 1 ≤ℤ date.year → year_of_day (epoch_day date) ≡ unsigned_abs date.year
unfolding year_of_day
year_is date h =
    let e = abs_back date.year h in
    last_begun_is (λ y. days_from_civil (pos y) 1 1) 9999 (unsigned_abs date.year) (epoch_day date) (omega (arith, signed_arith)) (omega (arith, signed_arith, date.year_in)) (rw e (epoch_day-year date _ refl).0)
    (λ j g k.
    let long = days_in_month_bounds (pos j) 1 in
    epoch_day-lt date (record {
      year = pos j;
      month = 1;
      day = 1;
      year_in = (omega (arith, signed_arith), omega (arith, signed_arith));
      month_in = (omega arith, omega arith);
      day_in = (omega arith, omega arith);
    }) (inl (omega (arith, signed_arith))))

month_is : (date : Date) (y : ℕ) → pos y ≡ date.year → month_of_day y (epoch_day date) ≡ date.month
unfolding month_of_day
month_is date y e =
    last_begun_is (λ m. days_from_civil (pos y) m 1) 12 date.month (epoch_day date) date.month_in.0 date.month_in.1 (rw e (omega (arith, signed_arith, days_from_civil-day date.year date.month date.day 1 date.day_in.0 (omega arith), date.day_in)))
    (λ j g k.
    let long = days_in_month_bounds date.year j in
    rw e (epoch_day-lt date (record {
      year = date.year;
      month = j;
      day = 1;
      year_in = date.year_in;
      month_in = (omega arith, k);
      day_in = (omega arith, omega arith);
    }) (inr (refl, inl g))))

day_is : (date : Date) (y : ℕ) → pos y ≡ date.year → day_of_month y date.month (epoch_day date) ≡ date.day
unfolding day_of_month
day_is date y e =
    let first = days_from_civil-day date.year date.month date.day 1 date.day_in.0 (omega arith) in
    let begun : days_from_civil date.year date.month 1 ≤ℤ epoch_day date = omega (arith, signed_arith, first, date.day_in) in
    rw e (omega (arith, signed_arith, first, date.day_in, abs_sub (epoch_day date) (days_from_civil date.year date.month 1) begun))

-- and a date of a day has the text of its day number
pub day_text_date : (date : Date) → pos 1 ≤ℤ date.year → day_text (epoch_day date) ≡ Some (civil_text (unsigned_abs date.year) date.month date.day)
unfolding day_text day_text_in
day_text_date date h =
    let e = abs_back date.year h in
    let y = unsigned_abs date.year in
    let last = subst (λ z. date.day ≤ days_in_month z date.month) (sym e) date.day_in.1 in
    rw (year_is date h, month_is date y e, day_is date y e, le-leb 1 y (omega (arith, signed_arith)), le-leb date.day (days_in_month (pos y) date.month) last) refl

-- a number of milliseconds is its day and the time from that day's midnight
pub day_and_clock : (n : ℤ) → (n ≡ day_of n *ℤ pos 86_400_000 +ℤ pos (clock_of n)) × (clock_of n < 86_400_000)
day_and_clock n = (omega (arith, signed_arith), omega (arith, signed_arith))

-- and no other day and time
pub day_and_clock_once : (n day : ℤ) (t : ℕ) → n ≡ day *ℤ pos 86_400_000 +ℤ pos t → t < 86_400_000 → (day_of n ≡ day) × (clock_of n ≡ t)
day_and_clock_once n day t e below = (omega (arith, signed_arith), omega (arith, signed_arith))

-- the text of a number is valid
pub date_text_valid : (n : ℤ) (text : List ℕ) → date_text n ≡ Some text → IsValidDate text n
unfolding date_text
date_text_valid n text h =
    let c = some_if (eqb (clock_of n) 0) (day_text (day_of n)) text h in
    let zero = eqb-true (clock_of n) 0 c.0 in
    let d = day_text_valid (day_of n) text c.1 in
    record {
      date = d.0;
      from_year_one = d.1;
      spelled = d.2;
      number = (day_and_clock n).0 ∙ omega (arith, signed_arith, zero, d.3);
    }

-- and a number has no other valid text
pub date_text_only : (text : List ℕ) (n : ℤ) → IsValidDate text n → date_text n ≡ Some text
unfolding date_text
date_text_only text n v =
    let s = day_and_clock_once n (epoch_day v.date) 0 (omega (arith, signed_arith, v.number)) (omega arith) in
    let zero : eqb (clock_of n) 0 ≡ true = eq-eqb (clock_of n) 0 s.1 in
    rw (zero, s.0, day_text_date v.date v.from_year_one) (ap Some (sym (civil_only text _ _ _ v.spelled)))

-- the laws of date strings
pub date_laws : StringLaws IsValidDate (IsShortest IsValidDate) date_number date_text
date_laws = one_text IsValidDate date_number date_text date_found date_again date_text_valid date_text_only

-- a day number that no date from the year 1 on has has no text
pub day_text_none : (day : ℤ) → ((date : Date) → pos 1 ≤ℤ date.year → epoch_day date ≡ day → ⊥) → None ≡ day_text day
day_text_none day h = none_if (day_text day) (λ t e. let d = day_text_valid day t e in h d.0 d.1 d.3)

-- a number has a text only at midnight, and there that of its day
pub date_text_later : (n : ℤ) → (clock_of n ≡ 0 → ⊥) → None ≡ date_text n
unfolding date_text
date_text_later n h = rw (ne_eqb (clock_of n) 0 h) refl

pub date_text_midnight : (n : ℤ) → clock_of n ≡ 0 → day_text (day_of n) ≡ date_text n
unfolding date_text
date_text_midnight n h = rw (eq-eqb (clock_of n) 0 h) refl
