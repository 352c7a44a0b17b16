-- The shortest time is valid, and no valid time of the number is shorter.
use Rattle.std.proofs.Common.{◌≡◌, inl, inr, ℕ, zero, suc, ◌+◌, ◌*◌, ◌/◌, ◌%◌, ◌^◌, ◌<◌, ◌≤◌, ◌++◌, List, [], ◌∷◌, length, Some, None, refl, ap, sym, subst, ◌∙◌, arith, codes, ltb, length-append, ℤ, pos, negsuc, unsigned_abs}
use Rattle.std.proofs.lemmas.Bool.{cases_eq, eq-eqb, ne_eqb, lt-ltb, ltb-true}
use Rattle.std.proofs.lemmas.Option.{cond_some, none-some}
use Rattle.std.specs.Int.{IsInRange}
use Rattle.form_calendar.specs.Digits.{padded, pair_text}
use Rattle.form_calendar.specs.Time.{IsSpelledFraction, IsFraction, IsSeconds, IsMinuteText, IsValidTime, clock_number, time_number, shortest_fraction, shortest_seconds, clock_text, time_text}
use Rattle.form_calendar.specs.Shortest.{IsShortest}
use Rattle.form_calendar.proofs.DigitLemmas.{writes_below, padded_writes, pair_writes}
use Rattle.form_calendar.proofs.StringLaws.{StringLaws}
use Rattle.form_calendar.proofs.TimeLemmas.{time_found, time_again}

-- the shortest seconds that are not left out
pub seconds_some : (k : ℕ) → (k ≡ 0 → ⊥) → shortest_seconds k ≡ 58 ∷ padded 2 (k / 1000) ++ shortest_fraction (k % 1000)
unfolding shortest_seconds
seconds_some k h = rw (ne_eqb k 0 h) refl

seconds_none : (k : ℕ) → k ≡ 0 → shortest_seconds k ≡ []
unfolding shortest_seconds
seconds_none k h = rw h refl

fraction_none : (m : ℕ) → m ≡ 0 → shortest_fraction m ≡ []
unfolding shortest_fraction
fraction_none m h = rw h refl

fraction_one : (m : ℕ) → (m ≡ 0 → ⊥) → m % 100 ≡ 0 → shortest_fraction m ≡ 46 ∷ padded 1 (m / 100)
unfolding shortest_fraction
fraction_one m some one = rw (ne_eqb m 0 some, eq-eqb (m % 100) 0 one) refl

fraction_two : (m : ℕ) → (m ≡ 0 → ⊥) → (m % 100 ≡ 0 → ⊥) → m % 10 ≡ 0 → shortest_fraction m ≡ 46 ∷ padded 2 (m / 10)
unfolding shortest_fraction
fraction_two m some one two = rw (ne_eqb m 0 some, ne_eqb (m % 100) 0 one, eq-eqb (m % 10) 0 two) refl

fraction_three : (m : ℕ) → (m ≡ 0 → ⊥) → (m % 100 ≡ 0 → ⊥) → (m % 10 ≡ 0 → ⊥) → shortest_fraction m ≡ 46 ∷ padded 3 m
unfolding shortest_fraction
fraction_three m some one two = rw (ne_eqb m 0 some, ne_eqb (m % 100) 0 one, ne_eqb (m % 10) 0 two) refl

-- the fraction with so many digits
spelled_fraction : (m count value : ℕ) → IsInRange 1 3 count → value < 10 ^ count → value < 1000 → m * 10 ^ count ≡ value * 1000 → IsFraction (46 ∷ padded count value) m
spelled_fraction m count value range small fits means = inr (record {
  digits = padded count value;
  count = count;
  value = value;
  spelled = refl;
  digits_are = padded_writes count value range.0 small (omega arith);
  count_in = range;
  means = means;
})

-- the shortest fraction writes the milliseconds
fraction_valid : (m : ℕ) → m < 1000 → IsFraction (shortest_fraction m) m
fraction_valid m h = elim (cases_eq m 0) [
  | inl e ↦ inl (fraction_none m e, e)
  | inr some ↦ elim (cases_eq (m % 100) 0) [
    | inl e ↦ subst (λ x. IsFraction x m) (sym (fraction_one m some e)) (spelled_fraction m 1 (m / 100) (omega arith, omega arith) (omega arith) (omega arith) (omega (arith, e)))
    | inr one ↦ elim (cases_eq (m % 10) 0) [
      | inl e ↦ subst (λ x. IsFraction x m) (sym (fraction_two m some one e)) (spelled_fraction m 2 (m / 10) (omega arith, omega arith) (omega arith) (omega arith) (omega (arith, e)))
      | inr two ↦ subst (λ x. IsFraction x m) (sym (fraction_three m some one two)) (spelled_fraction m 3 m (omega arith, omega arith) (omega arith) (omega arith) (omega arith))
    ]
  ]
]

padded_long : (width n : ℕ) → 0 < width → n < 10 ^ width → n < 1000 → length (padded width n) ≡ width
padded_long width n some small fits = (padded_writes width n some small (omega arith)).long

-- a fraction of so many digits is a multiple of their last place
multiple : (m count value : ℕ) → IsInRange 1 3 count → value < 10 ^ count → m * 10 ^ count ≡ value * 1000 → (m < 1000) × (count ≡ 1 → m % 100 ≡ 0) × (count ≡ 2 → m % 10 ≡ 0)
multiple m zero v r b h = absurd (omega arith)
multiple m (suc zero) v r b h = (omega (arith, h, b), λ e. omega (arith, h), λ e. absurd (omega arith))
multiple m (suc (suc zero)) v r b h = (omega (arith, h, b), λ e. absurd (omega arith), λ e. omega (arith, h))
multiple m (suc (suc (suc zero))) v r b h = (omega (arith, h, b), λ e. absurd (omega arith), λ e. absurd (omega arith))
multiple m (suc (suc (suc (suc n)))) v r b h = absurd (omega arith)

fraction_multiple : (text : List ℕ) (m : ℕ) (f : IsSpelledFraction text m) → (m < 1000) × (f.count ≡ 1 → m % 100 ≡ 0) × (f.count ≡ 2 → m % 10 ≡ 0) × (length text ≡ 1 + f.count)
fraction_multiple text m f =
    let r = multiple m f.count f.value f.count_in (writes_below f.count f.digits f.value f.digits_are) f.means in
    (r.0, r.1, r.2, ap length f.spelled ∙ omega (arith, f.digits_are.long))

fraction_below : (text : List ℕ) (m : ℕ) → IsFraction text m → m < 1000
fraction_below text m (inl e) = omega (arith, e.1)
fraction_below text m (inr f) = (fraction_multiple text m f).0

-- no fraction that writes the milliseconds is shorter
fraction_shortest : (text : List ℕ) (m : ℕ) → IsFraction text m → length (shortest_fraction m) ≤ length text
fraction_shortest text m (inl e) = rw (fraction_none m e.1) (omega arith)
fraction_shortest text m (inr f) =
    let r = fraction_multiple text m f in
    let below = r.0 in
    let range = f.count_in in
    elim (cases_eq m 0) [
      | inl e ↦ rw (fraction_none m e) (omega arith)
      | inr some ↦ elim (cases_eq (m % 100) 0) [
        | inl e ↦ rw (fraction_one m some e) (omega (arith, r.3, padded_long 1 (m / 100) (omega arith) (omega arith) (omega arith)))
        | inr one ↦ elim (cases_eq (m % 10) 0) [
          | inl e ↦
              let two : f.count ≡ 1 → ⊥ = λ x. one (r.1 x) in
              rw (fraction_two m some one e) (omega (arith, r.3, padded_long 2 (m / 10) (omega arith) (omega arith) (omega arith)))
          | inr two ↦
              let not_one : f.count ≡ 1 → ⊥ = λ x. one (r.1 x) in
              let not_two : f.count ≡ 2 → ⊥ = λ x. two (r.2 x) in
              rw (fraction_three m some one two) (omega (arith, r.3, padded_long 3 m (omega arith) (omega arith) (omega arith)))
        ]
      ]
    ]

-- the shortest seconds write the second and the milliseconds
seconds_valid : (k : ℕ) → k < 60000 → IsSeconds (shortest_seconds k) (k / 1000) (k % 1000)
seconds_valid k h = elim (cases_eq k 0) [
  | inl e ↦ inl (seconds_none k e, (omega (arith, e), omega (arith, e)))
  | inr some ↦ inr (record {
    second_text = padded 2 (k / 1000);
    fraction_text = shortest_fraction (k % 1000);
    spelled = seconds_some k some;
    second_is = padded_writes 2 (k / 1000) (omega arith) (omega arith) (omega arith);
    second_in = omega arith;
    fraction_is = fraction_valid (k % 1000) (omega arith);
  })
]

-- the second and millisecond of valid seconds are in their range
seconds_below : (text : List ℕ) (s m : ℕ) → IsSeconds text s m → (s ≤ 59) × (m < 1000)
seconds_below text s m (inl e) = (omega (arith, e.1.0), omega (arith, e.1.1))
seconds_below text s m (inr f) = (f.second_in, fraction_below f.fraction_text m f.fraction_is)

-- no seconds that write them are shorter
seconds_shortest : (text : List ℕ) (k s m : ℕ) → IsSeconds text s m → s * 1000 + m ≡ k → length (shortest_seconds k) ≤ length text
seconds_shortest text k s m (inl e) h = rw (seconds_none k (omega (arith, e.1.0, e.1.1))) (omega arith)
seconds_shortest text k s m (inr f) h =
    let below = fraction_below f.fraction_text m f.fraction_is in
    let long : length text ≡ 3 + length f.fraction_text = ap length f.spelled ∙ omega (arith, length-append f.second_text f.fraction_text, f.second_is.long) in
    elim (cases_eq k 0) [
      | inl e ↦ rw (seconds_none k e) (omega arith)
      | inr some ↦
          let same : k % 1000 ≡ m = omega (arith, h) in
          let first = padded_writes 2 (k / 1000) (omega arith) (omega (arith, f.second_in)) (omega (arith, f.second_in)) in
          let short = fraction_shortest f.fraction_text m f.fraction_is in
          rw (seconds_some k some, same) (omega (arith, long, short, first.long, length-append (padded 2 (k / 1000)) (shortest_fraction m)))
    ]

pos_same : (a b : ℕ) → pos a ≡ pos b → a ≡ b
pos_same a b h = cc

-- the shortest time is a valid time of its number
pub clock_text_valid : (n : ℕ) → n < 86_400_000 → IsValidTime (clock_text n) (pos n)
unfolding clock_text
clock_text_valid n h = record {
  hour = n / 3_600_000;
  minute = n / 60_000 % 60;
  second = n % 60_000 / 1000;
  millisecond = n % 60_000 % 1000;
  minute_text = pair_text 2 (codes ":") (n / 3_600_000) (n / 60_000 % 60);
  seconds_text = shortest_seconds (n % 60_000);
  spelled = refl;
  minute_is = pair_writes 2 (codes ":") (n / 3_600_000) (n / 60_000 % 60) (omega arith) (omega arith) (omega arith) (omega arith);
  hour_in = omega arith;
  minute_in = omega arith;
  seconds_are = seconds_valid (n % 60_000) (omega arith);
  number = ap pos (omega arith);
}

-- a valid time is one of a day
pub time_below : (text : List ℕ) (n : ℤ) → IsValidTime text n → (k : ℕ) × (k < 86_400_000) × (n ≡ pos k)
time_below text n v =
    let b = seconds_below v.seconds_text v.second v.millisecond v.seconds_are in
    (clock_number v.hour v.minute v.second v.millisecond, omega (arith, v.hour_in, v.minute_in, b.0, b.1), v.number)

minute_long : (text : List ℕ) (h m : ℕ) → IsMinuteText text h m → length text ≡ 5
minute_long text h m t =
    ap length t.spelled ∙ omega (arith, length-append t.first_text (58 ∷ t.second_text), t.first_is.long, t.second_is.long)

-- no valid time of the number is shorter
pub clock_text_least : (n : ℕ) (text : List ℕ) → n < 86_400_000 → IsValidTime text (pos n) → length (clock_text n) ≤ length text
unfolding clock_text
clock_text_least n text below v =
    let number : n ≡ clock_number v.hour v.minute v.second v.millisecond = pos_same n _ v.number in
    let b = seconds_below v.seconds_text v.second v.millisecond v.seconds_are in
    let rest : v.second * 1000 + v.millisecond ≡ n % 60_000 = omega (arith, number, b.0, b.1) in
    let short = seconds_shortest v.seconds_text (n % 60_000) v.second v.millisecond v.seconds_are rest in
    let front = pair_text 2 (codes ":") (n / 3_600_000) (n / 60_000 % 60) in
    let first = minute_long front _ _ (pair_writes 2 (codes ":") (n / 3_600_000) (n / 60_000 % 60) (omega arith) (omega arith) (omega arith) (omega arith)) in
    omega (arith, first, short, length-append front (shortest_seconds (n % 60_000)), ap length v.spelled, length-append v.minute_text v.seconds_text, minute_long v.minute_text v.hour v.minute v.minute_is)

time_text_is : (k : ℕ) → k < 86_400_000 → time_text (pos k) ≡ Some (clock_text k)
unfolding time_text
time_text_is k h = rw (lt-ltb k 86_400_000 h) refl

-- the text of a number is its shortest valid text
pub time_text_shortest : (n : ℤ) (text : List ℕ) → time_text n ≡ Some text → IsShortest IsValidTime text n
unfolding time_text
time_text_shortest (pos k) text h =
    let t = cond_some (ltb k 86_400_000) (clock_text k) text h in
    let below = ltb-true k 86_400_000 t.0 in
    record {
      valid = subst (λ x. IsValidTime x (pos k)) t.1 (clock_text_valid k below);
      shortest = λ other v. subst (λ x. length x ≤ length other) t.1 (clock_text_least k other below v);
    }
time_text_shortest (negsuc k) text h = absurd (none-some text h)

-- it is there wherever some valid text has the number
pub time_text_some : (text : List ℕ) (n : ℤ) → IsValidTime text n → (short : List ℕ) × (time_text n ≡ Some short)
time_text_some text n v =
    let b = time_below text n v in
    (clock_text b.0, ap time_text b.2 ∙ time_text_is b.0 b.1)

-- the number of a valid text is small
pub time_bound : (text : List ℕ) (n : ℤ) → IsValidTime text n → unsigned_abs n ≤ 10 ^ 15
time_bound text n v = let b = time_below text n v in subst (λ z. unsigned_abs z ≤ 10 ^ 15) (sym b.2) (omega (arith, b.1))

-- the laws of time strings
pub time_laws : StringLaws IsValidTime (IsShortest IsValidTime) time_number time_text
time_laws = record {
  found = time_found;
  again = time_again;
  best = time_text_shortest;
  back = λ n text h. time_again text n (time_text_shortest n text h).valid;
  there = time_text_some;
}
