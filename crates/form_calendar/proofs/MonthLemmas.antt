-- A month string is read from the left exactly as it is spelled.
use Rattle.std.proofs.Common.{◌≡◌, ℕ, ◌+◌, ◌-◌, ◌*◌, ◌/◌, ◌%◌, ◌^◌, ◌<◌, ◌≤◌, ◌&&◌, List, Some, None, refl, ap, sym, subst, ◌∙◌, arith, codes, leb, ltb, ℤ, pos, negsuc, neg_ℤ, ◌+ℤ◌, ◌<ℤ◌, unsigned_abs}
use Rattle.std.proofs.lemmas.Bool.{and_parts, leb-true, le-leb, ltb-true, lt-ltb}
use Rattle.std.proofs.lemmas.Option.{option_and_then_some, cond_some}
use Rattle.std.specs.Int.{IsInRange}
use Rattle.form_calendar.specs.Reading.{whole_pair}
use Rattle.form_calendar.specs.Month.{IsMonthText, IsValidMonth, months_from_1970, month_number_of, month_number, year_month_text, months_text, month_text}
use Rattle.form_calendar.specs.Shortest.{IsShortest}
use Rattle.jiff_core.proofs.SignedLemmas.{signed_arith, one_part}
use Rattle.form_calendar.proofs.DigitLemmas.{writes_below, pair_writes, pair_only}
use Rattle.form_calendar.proofs.ReadingLemmas.{none_if, whole_pair_found, whole_pair_again}
use Rattle.form_calendar.proofs.StringLaws.{StringLaws, one_text}

pub month_number_of_some : (y m : ℕ) (n : ℤ) → month_number_of y m ≡ Some n → (1 ≤ y) × IsInRange 1 12 m × (n ≡ months_from_1970 y m)
unfolding month_number_of
month_number_of_some y m n h =
    let c = cond_some (leb 1 y && (leb 1 m && leb m 12)) _ n h in
    let a = and_parts (leb 1 y) (leb 1 m && leb m 12) c.0 in
    let b = and_parts (leb 1 m) (leb m 12) a.1 in
    (leb-true 1 y a.0, (leb-true 1 m b.0, leb-true m 12 b.1), sym c.1)

pub month_number_of_is : (y m : ℕ) → 1 ≤ y → IsInRange 1 12 m → month_number_of y m ≡ Some (months_from_1970 y m)
unfolding month_number_of
month_number_of_is y m h r = rw (le-leb 1 y h, le-leb 1 m r.0, le-leb m 12 r.1) refl

-- what is read is a valid month string of that number
pub month_found : (text : List ℕ) (n : ℤ) → month_number text ≡ Some n → IsValidMonth text n
unfolding month_number
month_found text n h =
    option_and_then_some _ (whole_pair (codes "-") text) n h (λ p e k.
    let parts = month_number_of_some p.0 p.1 n k in
    record {
      year = p.0;
      month = p.1;
      spelled = whole_pair_found (codes "-") text p.0 p.1 e;
      from_year_one = parts.0;
      month_in = parts.1;
      number = parts.2;
    })

-- and a valid month string of a number is read as that number
pub month_again : (text : List ℕ) (n : ℤ) → IsValidMonth text n → month_number text ≡ Some n
unfolding month_number
month_again text n v =
    rw (whole_pair_again (codes "-") text v.year v.month (λ r. refl) v.spelled)
    (month_number_of_is v.year v.month v.from_year_one v.month_in ∙ ap Some (sym v.number))

months_valid : (z n : ℤ) (text : List ℕ) → z ≡ n +ℤ pos 23640 → months_text z ≡ Some text → IsValidMonth text n
unfolding months_text
months_valid (negsuc k) n text e h = cc
months_valid (pos k) n text e h =
    let t = cond_some (leb 12 k && ltb k 120000) (year_month_text (k / 12) (k % 12 + 1)) text h in
    let both = and_parts (leb 12 k) (ltb k 120000) t.0 in
    let low = leb-true 12 k both.0 in
    let high = ltb-true k 120000 both.1 in
    record {
      year = k / 12;
      month = k % 12 + 1;
      spelled = subst (λ x. IsMonthText x (k / 12) (k % 12 + 1)) t.1 (pair_writes 4 (codes "-") (k / 12) (k % 12 + 1) (omega arith) (omega arith) (omega arith) (omega arith));
      from_year_one = omega arith;
      month_in = (omega arith, omega arith);
      number = omega (arith, signed_arith);
    }

-- the text of a number of months is valid
pub month_text_valid : (n : ℤ) (text : List ℕ) → month_text n ≡ Some text → IsValidMonth text n
month_text_valid n text h = months_valid (n +ℤ pos 23640) n text refl h

months_is : (k : ℕ) → 12 ≤ k → k < 120000 → months_text (pos k) ≡ Some (year_month_text (k / 12) (k % 12 + 1))
unfolding months_text
months_is k low high = rw (le-leb 12 k low, lt-ltb k 120000 high) refl

-- and a number of months has no other valid text
pub month_text_only : (text : List ℕ) (n : ℤ) → IsValidMonth text n → month_text n ≡ Some text
month_text_only text n v =
    let m = v.month_in in
    let low = v.from_year_one in
    let below : v.year < 10000 = writes_below 4 v.spelled.first_text v.year v.spelled.first_is in
    let k = v.year * 12 + (v.month - 1) in
    let z : n +ℤ pos 23640 ≡ pos k = omega (arith, signed_arith, v.number) in
    let year : k / 12 ≡ v.year = omega arith in
    let month : k % 12 + 1 ≡ v.month = omega arith in
    ap months_text z ∙ months_is k (omega arith) (omega arith)
    ∙ ap Some (ap (λ x. year_month_text x (k % 12 + 1)) year ∙ ap (year_month_text v.year) month ∙ sym (pair_only 4 (codes "-") text v.year v.month (omega arith) (omega arith) v.spelled))

pub months_low : (n : ℤ) → n <ℤ neg_ℤ (pos 23628) → None ≡ month_text n
months_low n h =
    none_if (month_text n) (λ t e. let v = month_text_valid n t e in let m = v.month_in in omega (arith, signed_arith, v.number, v.from_year_one))

pub months_high : (n : ℤ) → pos 96359 <ℤ n → None ≡ month_text n
months_high n h =
    none_if (month_text n) (λ t e. let v = month_text_valid n t e in let m = v.month_in in omega (arith, signed_arith, v.number, writes_below 4 v.spelled.first_text v.year v.spelled.first_is))

pub month_text_at : (n : ℤ) (k : ℕ) → n +ℤ pos 23640 ≡ pos k → 12 ≤ k → k < 120000 → Some (year_month_text (k / 12) (k % 12 + 1)) ≡ month_text n
month_text_at n k e low high = sym (ap months_text e ∙ months_is k low high)

-- the number of a valid text is small
pub month_bound : (text : List ℕ) (n : ℤ) → IsValidMonth text n → unsigned_abs n ≤ 10 ^ 15
month_bound text n v =
    let m = v.month_in in
    let below : v.year < 10 ^ 4 = writes_below 4 v.spelled.first_text v.year v.spelled.first_is in
    omega (arith, signed_arith, one_part n, v.number)

-- the laws of month strings
pub month_laws : StringLaws IsValidMonth (IsShortest IsValidMonth) month_number month_text
month_laws = one_text IsValidMonth month_number month_text month_found month_again month_text_valid month_text_only
