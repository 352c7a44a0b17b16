-- A time string is read from the left exactly as it is spelled.
use Rattle.std.proofs.Common.{◌≡◌, inl, inr, ℕ, zero, suc, ◌+◌, ◌*◌, ◌^◌, ◌<◌, List, [], ◌∷◌, length, take, Some, None, refl, ap, sym, subst, ◌∙◌, arith, codes, eqb, ltb, ℤ, pos}
use Rattle.std.proofs.lemmas.Bool.{eqb-true, ne_eqb, ltb-false, le-ltb}
use Rattle.std.proofs.lemmas.Option.{option_and_then_some, none-some}
use Rattle.std.proofs.Math.Nat.{mul_assoc}
use Rattle.std.specs.Int.{IsInRange}
use Rattle.form_calendar.specs.Reading.{number_after, number_at, pair_at}
use Rattle.form_calendar.specs.Time.{IsFraction, IsSeconds, IsValidTime, clock_number, fraction_unit, fraction_number, seconds_number, clock_read, time_number}
use Rattle.form_calendar.proofs.ReadingLemmas.{some_if, some_unless, some_map, read_number, number_reads, number_at_reads, number_at_again, pair_at_reads, pair_at_again}

unit_none : (count : ℕ) → 3 < count → fraction_unit count ≡ None
unit_none count h = rw (ne_eqb count 1 (λ e. omega arith), ne_eqb count 2 (λ e. omega arith), ne_eqb count 3 (λ e. omega arith)) refl

unit_some : (count unit : ℕ) → fraction_unit count ≡ Some unit → IsInRange 1 3 count × (unit * 10 ^ count ≡ 1000)
unit_some zero u h = cc
unit_some (suc zero) u h = let e : 100 ≡ u = cc in ((omega arith, omega arith), rw (← e) refl)
unit_some (suc (suc zero)) u h = let e : 10 ≡ u = cc in ((omega arith, omega arith), rw (← e) refl)
unit_some (suc (suc (suc zero))) u h = let e : 1 ≡ u = cc in ((omega arith, omega arith), rw (← e) refl)
unit_some (suc (suc (suc (suc n)))) u h = absurd (none-some u (sym (unit_none (suc (suc (suc (suc n)))) (omega arith)) ∙ h))

unit_is : (count millisecond value : ℕ) → IsInRange 1 3 count → millisecond * 10 ^ count ≡ value * 1000 → (unit : ℕ) × (fraction_unit count ≡ Some unit) × (value * unit ≡ millisecond)
unit_is zero m v r h = absurd (omega arith)
unit_is (suc zero) m v r h = (100, refl, omega (arith, h))
unit_is (suc (suc zero)) m v r h = (10, refl, omega (arith, h))
unit_is (suc (suc (suc zero))) m v r h = (1, refl, omega (arith, h))
unit_is (suc (suc (suc (suc n)))) m v r h = absurd (omega arith)

pub fraction_found : (text : List ℕ) (m : ℕ) → fraction_number text ≡ Some m → IsFraction text m
unfolding fraction_number
fraction_found [] m h = let e : 0 ≡ m = cc in inl (refl, sym e)
fraction_found (x ∷ ds) m h =
    let t = some_if (eqb x 46) _ m h in
    option_and_then_some _ (fraction_unit (length ds)) m t.1 (λ unit e k.
    let last = some_map (λ (v : ℕ). v * unit) (number_after 0 ds) m k in
    let u = unit_some (length ds) unit e in
    let r = read_number ds 0 last.0 last.1 in
    inr (record {
      digits = ds;
      count = length ds;
      value = last.0;
      spelled = ap (λ b. b ∷ ds) (eqb-true x 46 t.0);
      digits_are = record { long = refl; digits = r.0; value = r.1 };
      count_in = u.0;
      means = ap (λ z. z * 10 ^ length ds) (sym last.2) ∙ mul_assoc last.0 unit (10 ^ length ds) ∙ ap (λ z. last.0 * z) u.1;
    }))

pub fraction_again : (text : List ℕ) (m : ℕ) → IsFraction text m → fraction_number text ≡ Some m
unfolding fraction_number
fraction_again text m (inl e) = rw (e.0, e.1) refl
fraction_again text m (inr f) =
    let u = unit_is f.count m f.value f.count_in f.means in
    rw (f.spelled, f.digits_are.long, u.1, number_reads f.digits 0 f.digits_are.digits, f.digits_are.value, u.2) refl

pub seconds_found : (text : List ℕ) (n : ℕ) → seconds_number text ≡ Some n → (s : ℕ) × (m : ℕ) × IsSeconds text s m × (n ≡ s * 1000 + m)
unfolding seconds_number
seconds_found [] n h = let e : 0 ≡ n = cc in (0, 0, inl (refl, (refl, refl)), sym e)
seconds_found (x ∷ rest) n h =
    let t = some_if (eqb x 58) _ n h in
    option_and_then_some _ (number_at 2 rest) n t.1 (λ second e k.
    let u = some_unless (ltb 59 second.0) _ n k in
    let last = some_map (λ (v : ℕ). second.0 * 1000 + v) (fraction_number second.1) n u.1 in
    let w = number_at_reads 2 rest second.1 second.0 e in (
      second.0,
      last.0,
      inr (record {
        second_text = take 2 rest;
        fraction_text = second.1;
        spelled = ap (λ b. b ∷ rest) (eqb-true x 58 t.0) ∙ ap (λ r. 58 ∷ r) w.1;
        second_is = w.0;
        second_in = ltb-false 59 second.0 u.0;
        fraction_is = fraction_found second.1 last.0 last.1;
      }),
      sym last.2,
    ))

pub seconds_again : (text : List ℕ) (s m : ℕ) → IsSeconds text s m → seconds_number text ≡ Some (s * 1000 + m)
unfolding seconds_number
seconds_again text s m (inl e) = rw (e.0, e.1.0, e.1.1) refl
seconds_again text s m (inr f) =
    rw (f.spelled, number_at_again 2 f.second_text f.fraction_text s f.second_is, le-ltb 59 s f.second_in, fraction_again f.fraction_text m f.fraction_is) refl

-- what is read is a valid time string of that number
pub clock_found : (text : List ℕ) (n : ℕ) → clock_read text ≡ Some n → IsValidTime text (pos n)
unfolding clock_read
clock_found text n h =
    option_and_then_some _ (pair_at 2 (codes ":") text) n h (λ r e k.
    let hour = some_unless (ltb 23 r.0.0) _ n k in
    let minute = some_unless (ltb 59 r.0.1) _ n hour.1 in
    let last = some_map (λ (v : ℕ). (r.0.0 * 60 + r.0.1) * 60000 + v) (seconds_number r.1) n minute.1 in
    let front = pair_at_reads 2 (codes ":") text r.1 r.0.0 r.0.1 e in
    let s = seconds_found r.1 last.0 last.1 in
    record {
      hour = r.0.0;
      minute = r.0.1;
      second = s.0;
      millisecond = s.1;
      minute_text = front.0;
      seconds_text = r.1;
      spelled = front.2;
      minute_is = front.1;
      hour_in = ltb-false 23 r.0.0 hour.0;
      minute_in = ltb-false 59 r.0.1 minute.0;
      seconds_are = s.2;
      number = ap pos (omega (arith, last.2, s.3));
    })

-- and a valid time string of a number is read as that number
pub time_again : (text : List ℕ) (n : ℤ) → IsValidTime text n → time_number text ≡ Some n
unfolding clock_read
time_again text n v =
    let total : (v.hour * 60 + v.minute) * 60000 + (v.second * 1000 + v.millisecond) ≡ clock_number v.hour v.minute v.second v.millisecond = omega arith in
    rw (v.spelled, pair_at_again 2 v.minute_text v.seconds_text v.hour v.minute (codes ":") (λ r. refl) v.minute_is, le-ltb 23 v.hour v.hour_in, le-ltb 59 v.minute v.minute_in, seconds_again v.seconds_text v.second v.millisecond v.seconds_are, total, v.number) refl

pub time_found : (text : List ℕ) (n : ℤ) → time_number text ≡ Some n → IsValidTime text n
time_found text n h =
    let r = some_map pos (clock_read text) n h in
    subst (IsValidTime text) r.2 (clock_found text r.0 r.1)
