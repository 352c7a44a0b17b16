-- What is printed has the printed form, and no other text has.
use Rattle.std.proofs.Common.{◌≡◌, ℕ, zero, suc, ◌+◌, ◌-◌, ◌*◌, ◌/◌, ◌%◌, ◌^◌, ◌<◌, ◌≤◌, ◌++◌, List, [], ◌∷◌, length, get_or, drop, false, Option, Some, None, IfOk, Result, Ok, Err, refl, ap, sym, subst, ◌∙◌, arith, eqb, append-nil, length-append, inl, inr, ◌⊎◌, ℤ, pos, negsuc, ◌<ℤ◌, unsigned_abs, lit<}
use Rattle.std.proofs.lemmas.Bool.{cases_lt}
use Rattle.std.proofs.lemmas.Bool.Decides.{nat_tests}
use Rattle.std.proofs.Math.Nat.{mul_assoc, mul_comm, add-mul, mul-le-mul_right}
use Rattle.std.proofs.lemmas.Nat.{pow-add}
use Rattle.std.proofs.lemmas.Int.{ints}
use Rattle.std.proofs.lemmas.Fmt.{decimal_is_IsNumeral_wide, decimal_digit, first_decimal, decimal-digits_value}
use Rattle.std.proofs.lemmas.Str.Parse.{IsNumeralModel}
use Rattle.std.specs.Fmt.{decimal}
use Rattle.std.specs.Char.{digit_value}
use Rattle.std.specs.Str.Parse.{AllDigits, digits_value_after, digits_value}
use Rattle.form_decimal.proofs.SpellingLemmas.{true_digit}
use Rattle.form_decimal.specs.declared.spelling.Sign.{Sign}
use Rattle.form_decimal.specs.declared.spelling.Sign.TheVariants.{Plus, Minus}
use Rattle.form_decimal.specs.Numeral.{Numeral, IsValidForm, Means, AreDigits, coefficient, signed, is_minus, raised_by, lowered_by, sign_text, point_text, exponent_text, places}
use Rattle.form_decimal.specs.Scaled.{Units}
use Rattle.form_decimal.specs.Printed.{IsPrinted, fraction_digits, fraction_of, printed}
use Rattle.form_decimal.proofs.ScalingLemmas.{pow-join, value-append, cancel, ten_pos, no_scale}
use Rattle.form_decimal.proofs.MeaningLemmas.{units_means, means_units, abs_signed}

-- nothing is left: no digit more
pub digits_end : (k rest : ℕ) → rest ≡ 0 → fraction_digits k rest ≡ []
unfolding fraction_digits
digits_end zero rest e = refl
digits_end (suc k) rest e = rw e refl

-- no place is left: no digit more
pub digits_out : (k rest : ℕ) → k ≡ 0 → fraction_digits k rest ≡ []
unfolding fraction_digits
digits_out k rest e = rw e refl

-- something is left: one digit more
digits_suc : (k rest : ℕ) → 0 < rest → fraction_digits (suc k) rest ≡ (48 + rest * 10 / 10 ^ 12) ∷ fraction_digits k (rest * 10 % 10 ^ 12)
unfolding fraction_digits
digits_suc k rest h = let e : eqb rest 0 ≡ false = grind (arith, nat_tests) in rw e refl

-- the same by the place that the loop has reached
pub digits_more : (k place rest : ℕ) → place < k → 0 < rest → fraction_digits (k - place) rest ≡ (48 + rest * 10 / 10 ^ 12) ∷ fraction_digits (k - (place + 1)) (rest * 10 % 10 ^ 12)
digits_more k place rest l h = let e : k - place ≡ suc (k - (place + 1)) = omega arith in rw e (digits_suc (k - (place + 1)) rest h)

-- a point stands before digits
pub digits_some : (k rest : ℕ) → 0 < k → 0 < rest → point_text (fraction_of (fraction_digits k rest)) ≡ 46 ∷ fraction_digits k rest
digits_some zero rest p h = absurd (omega arith)
digits_some (suc k) rest p h = rw (digits_suc k rest h) refl

-- the next digit is below 10
next_below : (rest : ℕ) → rest < 10 ^ 12 → rest * 10 / 10 ^ 12 < 10
next_below rest h = omega arith

-- a written digit has its value
digit_back : (d : ℕ) → d < 10 → digit_value (48 + d) ≡ d
digit_back d h = grind (arith, nat_tests)

-- a number is 0 or more
none_or_some : (n : ℕ) → (n ≡ 0) ⊎ (0 < n)
none_or_some zero = inl refl
none_or_some (suc n) = inr (omega arith)

-- they are digits
digits_are : (k rest : ℕ) → rest < 10 ^ 12 → AreDigits (fraction_digits k rest)
digits_are zero rest h = rw (digits_out zero rest refl) tt
digits_are (suc k) rest h = elim (none_or_some rest) [
  | inl e ↦ rw (digits_end (suc k) rest e) tt
  | inr e ↦ rw (digits_suc k rest e) (let d = next_below rest h in let b = digit_back (rest * 10 / 10 ^ 12) d in omega arith, digits_are k (rest * 10 % 10 ^ 12) (omega arith))
]

-- the rest behind a digit has one place less
scale_rest : (rest d r q p : ℕ) → rest * 10 ≡ d * 10 ^ 12 + r → rest * (10 * p) ≡ q * 10 ^ 12 → r * p ≡ (q - d * p) * 10 ^ 12
scale_rest rest d r q p e h =
    let left : rest * (10 * p) ≡ (rest * 10) * p = sym (mul_assoc rest 10 p) in
    let split : (rest * 10) * p ≡ (d * 10 ^ 12) * p + r * p = ap (λ x. x * p) e ∙ add-mul (d * 10 ^ 12) r p in
    let turn : (d * 10 ^ 12) * p ≡ (d * p) * 10 ^ 12 = mul_assoc d (10 ^ 12) p ∙ ap (λ x. d * x) (mul_comm (10 ^ 12) p) ∙ sym (mul_assoc d p (10 ^ 12)) in
    omega (arith, left, split, turn, h)

-- what digits write behind a, over the places that they take
fraction_value : (k rest a q : ℕ) → rest < 10 ^ 12 → rest * 10 ^ k ≡ q * 10 ^ 12 → digits_value_after 10 a (fraction_digits k rest) * 10 ^ 12 ≡ (a * 10 ^ 12 + rest) * 10 ^ length (fraction_digits k rest)
fraction_value zero rest a q b h = rw (digits_out zero rest refl) (omega arith)
fraction_value (suc k) rest a q b h = elim (none_or_some rest) [
  | inl e ↦ rw (digits_end (suc k) rest e) (omega arith)
  | inr e ↦
      let d = rest * 10 / 10 ^ 12 in
      let r = rest * 10 % 10 ^ 12 in
      let below : d < 10 = next_below rest b in
      let parts : rest * 10 ≡ d * 10 ^ 12 + r = omega arith in
      let one : suc k ≡ 1 + k = omega arith in
      let tens : 10 ^ (suc k) ≡ 10 * 10 ^ k = ap (λ x. 10 ^ x) one ∙ pow-add 10 1 k in
      let turn = scale_rest rest d r q (10 ^ k) parts (ap (λ x. rest * x) (sym tens) ∙ h) in
      let next = fraction_value k r (a * 10 + digit_value (48 + d)) (q - d * 10 ^ k) (omega arith) turn in
      let step : (a * 10 + digit_value (48 + d)) * 10 ^ 12 + r ≡ (a * 10 ^ 12 + rest) * 10 = omega (arith, digit_back d below) in
      let n = length (fraction_digits k r) in
      let longer : 1 + n ≡ suc n = omega arith in
      rw (digits_suc k rest e) (next ∙ ap (λ x. x * 10 ^ n) step ∙ pow-join (a * 10 ^ 12 + rest) 1 n ∙ ap (λ x. (a * 10 ^ 12 + rest) * 10 ^ x) longer)
]

-- the last digit is no zero
abbrev EndsPlain : List ℕ → Type 0
EndsPlain [] = Unit {0}
EndsPlain (d ∷ []) = 48 < d
EndsPlain (d ∷ e ∷ ds) = EndsPlain (e ∷ ds)

-- a digit before digits that end in no zero
ends_behind : (k x r q : ℕ) → r < 10 ^ 12 → r * 10 ^ k ≡ q * 10 ^ 12 → (r ≡ 0 → 48 < x) → EndsPlain (fraction_digits k r) → EndsPlain (x ∷ fraction_digits k r)
ends_behind zero x r q b t last rest = rw (digits_out zero r refl) (last (omega arith))
ends_behind (suc k) x r q b t last rest = elim (none_or_some r) [
  | inl z ↦ rw (digits_end (suc k) r z) (last z)
  | inr z ↦ rw (digits_suc k r z) (rw (digits_suc k r z) at rest)
]

-- digits of a fraction end in no zero
ends_plain : (k rest q : ℕ) → rest < 10 ^ 12 → rest * 10 ^ k ≡ q * 10 ^ 12 → EndsPlain (fraction_digits k rest)
ends_plain zero rest q b h = rw (digits_out zero rest refl) tt
ends_plain (suc k) rest q b h = elim (none_or_some rest) [
  | inl e ↦ rw (digits_end (suc k) rest e) tt
  | inr e ↦
      let d = rest * 10 / 10 ^ 12 in
      let r = rest * 10 % 10 ^ 12 in
      let parts : rest * 10 ≡ d * 10 ^ 12 + r = omega arith in
      let one : suc k ≡ 1 + k = omega arith in
      let tens : 10 ^ (suc k) ≡ 10 * 10 ^ k = ap (λ x. 10 ^ x) one ∙ pow-add 10 1 k in
      let turn = scale_rest rest d r q (10 ^ k) parts (ap (λ x. rest * x) (sym tens) ∙ h) in
      rw (digits_suc k rest e) (ends_behind k (48 + d) r (q - d * 10 ^ k) (omega arith) turn (λ z. omega (arith, parts, z)) (ends_plain k r (q - d * 10 ^ k) (omega arith) turn))
]

-- what ends in another digit does not end in a zero
ends_not : (xs ds : List ℕ) → EndsPlain xs → xs ≡ ds ++ (48 ∷ []) → ⊥
ends_not [] ds h e = absurd (omega (arith, ap length e, length-append ds (48 ∷ [])))
ends_not (x ∷ []) [] h e = let same : x ≡ 48 = ap (λ l. get_or l 0 0) e in absurd (omega (arith, same))
ends_not (x ∷ []) (d ∷ ds) h e = absurd (omega (arith, ap length e, length-append ds (48 ∷ [])))
ends_not (x ∷ y ∷ ys) [] h e = absurd (omega (arith, ap length e))
ends_not (x ∷ y ∷ ys) (d ∷ ds) h e = ends_not (y ∷ ys) ds h (ap (drop 1) e)

-- ---- what is printed has the form

-- the digits behind the point are the digits
places_of : (ds : List ℕ) → places (fraction_of ds) ≡ ds
places_of [] = refl
places_of (d ∷ ds) = refl

-- no point stands alone
fraction_some : (ds : List ℕ) → fraction_of ds ≡ Some [] → ⊥
fraction_some [] e = cc
fraction_some (d ∷ ds) e = cc

-- a whole number is written with no zero in front
no_zero_first : (n : ℕ) (ds : List ℕ) → n < 2 ^ 64 → decimal n ≡ 48 ∷ ds → ds ≡ []
no_zero_first zero ds h e = ap (drop 1) (sym e ∙ decimal_digit 0 (lit< tt))
no_zero_first (suc n) ds h e = absurd (omega (arith, first_decimal (suc n) (omega arith) h, ap (λ l. get_or l 0 0) e))

-- the numeral that is printed
abbrev printed_numeral : Option Sign → ℕ → Numeral
printed_numeral sign m = record { sign = sign; whole = decimal (m / 10 ^ 12); fraction = fraction_of (fraction_digits 12 (m % 10 ^ 12)); exponent = None }

-- it is valid
printed_form : (sign : Option Sign) (m : ℕ) → m ≤ 10 ^ 29 → (sign ≡ Some Plus → ⊥) → IsValidForm (printed_numeral sign m)
printed_form sign m b s =
    let whole = decimal_is_IsNumeral_wide (m / 10 ^ 12) (omega arith) in
    let f = fraction_digits 12 (m % 10 ^ 12) in
    record {
      form = record {
        whole = whole.0.1;
        fraction = subst AreDigits (sym (places_of f)) (digits_are 12 (m % 10 ^ 12) (omega arith));
        some_digit = omega (arith, whole.0.0);
        exponent = tt;
      };
      no_plus = s;
      places_behind_point = fraction_some f;
    }

-- it means the magnitude
printed_units : (sign : Option Sign) (m : ℕ) → m ≤ 10 ^ 29 → Units (printed_numeral sign m) m
printed_units sign m b =
    let w = m / 10 ^ 12 in
    let r = m % 10 ^ 12 in
    let f = fraction_digits 12 r in
    let value : digits_value 10 (decimal w ++ f) ≡ digits_value_after 10 w f = value-append (decimal w) f 0 ∙ ap (λ x. digits_value_after 10 x f) (decimal_is_IsNumeral_wide w (omega arith)).1 in
    let scaled = fraction_value 12 r w r (omega arith) refl in
    let parts : w * 10 ^ 12 + r ≡ m = omega arith in
    rw (places_of f) (b, ap (λ x. m * 10 ^ x) (omega arith) ∙ ap (λ x. x * 10 ^ length f) (sym parts) ∙ sym scaled ∙ ap (λ x. x * 10 ^ 12) (sym value))

-- a magnitude, printed
abbrev magnitude_text : ℕ → List ℕ
magnitude_text m = decimal (m / 10 ^ 12) ++ point_text (fraction_of (fraction_digits 12 (m % 10 ^ 12)))

-- a text that is spelled so is the printed form of what it means
printed_so : (sign : Option Sign) (m : ℕ) (n : ℤ) (text : List ℕ) → m ≤ 10 ^ 29 → n ≡ signed (is_minus sign) m → (sign ≡ Some Plus → ⊥) → (sign ≡ Some Minus → n <ℤ pos 0) → text ≡ sign_text sign ++ magnitude_text m → IsPrinted n text
printed_so sign m n text b is plus minus e =
    let f = fraction_digits 12 (m % 10 ^ 12) in
    record {
      reads_back = record {
        numeral = printed_numeral sign m;
        spelled = e ∙ ap (λ x. sign_text sign ++ (decimal (m / 10 ^ 12) ++ x)) (sym (append-nil (point_text (fraction_of f))));
        form = printed_form sign m b plus;
        means = subst (Means (printed_numeral sign m)) (sym is) (units_means (printed_numeral sign m) m (printed_units sign m b));
        fits = omega (arith, b, ap unsigned_abs is, abs_signed (is_minus sign) m);
      };
      no_exponent = refl;
      minus_if_negative = minus;
      some_whole = (decimal_is_IsNumeral_wide (m / 10 ^ 12) (omega arith)).0.0;
      no_zero_before = λ ds. no_zero_first (m / 10 ^ 12) ds (omega arith);
      no_zero_behind = λ ds g. ends_not f ds (ends_plain 12 (m % 10 ^ 12) (m % 10 ^ 12) (omega arith) refl) (sym (places_of f) ∙ g);
    }

-- what is printed has the printed form
pub printed_is : (n : ℤ) → unsigned_abs n ≤ 10 ^ 29 → IsPrinted n (printed n)
printed_is (pos m) h = printed_so None m (pos m) (printed (pos m)) h refl (λ e. cc) (λ e. cc) refl
printed_is (negsuc m) h = printed_so (Some Minus) (suc m) (negsuc m) (printed (negsuc m)) h refl (λ e. cc) (λ e. omega (arith, ints)) refl

-- ---- no other text has it

-- the digits of a printed form of magnitude m
record ArePlain (m : ℕ) (w f : List ℕ) : Type 0 where
  whole : AreDigits w
  fraction : AreDigits f
  some_whole : 0 < length w
  no_zero_before : (ds : List ℕ) → w ≡ 48 ∷ ds → ds ≡ []
  no_zero_behind : (ds : List ℕ) → f ≡ ds ++ (48 ∷ []) → ⊥
  value : m * 10 ^ length f ≡ digits_value_after 10 (digits_value 10 w) f * 10 ^ 12
  fits : m ≤ 10 ^ 29

-- the digits of a printed form are plain
plain_of : (n : ℤ) (text : List ℕ) (p : IsPrinted n text) → ArePlain (unsigned_abs n) p.reads_back.numeral.whole (places p.reads_back.numeral.fraction)
plain_of n text p =
    let v = p.reads_back in
    let u = means_units v.numeral n v.means v.fits in
    let m : unsigned_abs n ≡ u.0 = ap unsigned_abs u.1 ∙ abs_signed (is_minus v.numeral.sign) u.0 in
    let f = places v.numeral.fraction in
    let none : length f ≡ length f + lowered_by v.numeral.exponent = omega (arith, ap lowered_by p.no_exponent) in
    let raised : raised_by v.numeral.exponent + 12 ≡ 12 = omega (arith, ap raised_by p.no_exponent) in
    record {
      whole = v.form.form.whole;
      fraction = v.form.form.fraction;
      some_whole = p.some_whole;
      no_zero_before = p.no_zero_before;
      no_zero_behind = p.no_zero_behind;
      value = ap (λ x. x * 10 ^ length f) m ∙ ap (λ x. u.0 * 10 ^ x) none ∙ u.2.1 ∙ ap (λ x. coefficient v.numeral * 10 ^ x) raised
          ∙ ap (λ x. x * 10 ^ 12) (value-append v.numeral.whole f 0);
      fits = v.fits;
    }

-- digits that end in no zero write no multiple of ten
last_counts : (f : List ℕ) (a : ℕ) → AreDigits f → 0 < length f → ((ds : List ℕ) → f ≡ ds ++ (48 ∷ []) → ⊥) → 0 < digits_value_after 10 a f % 10
last_counts [] a p some h = absurd (omega arith)
last_counts (d ∷ []) a p some h =
    let is = true_digit d p.0 in
    elim (cases_lt 48 d) [
      | inl more ↦ let v : (a * 10 + digit_value d) % 10 ≡ digit_value d = omega (arith, is) in omega (arith, is, v)
      | inr less ↦ absurd (h [] (ap (λ x. x ∷ []) (let same : d ≡ 48 = omega (arith, is) in same)))
    ]
last_counts (d ∷ e ∷ es) a p some h = last_counts (e ∷ es) (a * 10 + digit_value d) p.1 (omega arith) (λ ds g. h (d ∷ ds) (ap (λ x. d ∷ x) g))

-- two factors change places
swap : (a p q : ℕ) → (a * p) * q ≡ (a * q) * p
swap a p q = mul_assoc a p q ∙ ap (λ x. a * x) (mul_comm p q) ∙ sym (mul_assoc a q p)

-- no fraction of the same number is longer
no_longer : (m : ℕ) (w f v g : List ℕ) → ArePlain m w f → ArePlain m v g → length f < length g → ⊥
no_longer m w f v g x y less =
    let a = digits_value_after 10 (digits_value 10 w) f in
    let b = digits_value_after 10 (digits_value 10 v) g in
    let k = length f in
    let l = length g in
    let e : (a * 10 ^ l) * 10 ^ 12 ≡ (b * 10 ^ k) * 10 ^ 12 =
    swap a (10 ^ l) (10 ^ 12) ∙ ap (λ z. z * 10 ^ l) (sym x.value) ∙ swap m (10 ^ k) (10 ^ l) ∙ ap (λ z. z * 10 ^ k) y.value ∙ swap b (10 ^ 12) (10 ^ k) in
    let one : b * 10 ^ 0 ≡ b = omega arith in
    no_scale b 0 l k a (omega arith) (last_counts g (digits_value 10 v) y.fraction (omega arith) y.no_zero_behind)
    (cancel (a * 10 ^ l) (b * 10 ^ k) (10 ^ 12) (ten_pos 12) e ∙ ap (λ z. z * 10 ^ k) (sym one))

-- as many digits that write one number are the same
same_digits : (xs ys : List ℕ) (a b : ℕ) → AreDigits xs → AreDigits ys → length xs ≡ length ys → digits_value_after 10 a xs ≡ digits_value_after 10 b ys → (a ≡ b) × (xs ≡ ys)
same_digits [] [] a b p q l e = (e, refl)
same_digits [] (y ∷ ys) a b p q l e = absurd (omega arith)
same_digits (x ∷ xs) [] a b p q l e = absurd (omega arith)
same_digits (x ∷ xs) (y ∷ ys) a b p q l e =
    let r = same_digits xs ys (a * 10 + digit_value x) (b * 10 + digit_value y) p.1 q.1 (omega arith) e in
    let i = true_digit x p.0 in
    let j = true_digit y q.0 in
    let same : x ≡ y = omega (arith, r.0, i, j) in
    (omega (arith, r.0, i, j), ap (λ z. z ∷ xs) same ∙ ap (λ z. y ∷ z) r.1)

-- digits behind a number write at least that number with as many zeros
value_least : (ds : List ℕ) (a : ℕ) → a * 10 ^ length ds ≤ digits_value_after 10 a ds
value_least [] a = omega arith
value_least (d ∷ ds) a =
    let more : (a * 10) * 10 ^ length ds ≤ (a * 10 + digit_value d) * 10 ^ length ds = mul-le-mul_right (10 ^ length ds) (omega arith) in
    let one : (a * 10) * 10 ^ length ds ≡ a * 10 ^ length (d ∷ ds) = pow-join a 1 (length ds) ∙ ap (λ x. a * 10 ^ x) (omega arith) in
    omega (arith, value_least ds (a * 10 + digit_value d), more, one)

-- the whole part of a printed form is below 2^64
whole_small : (m : ℕ) (w f : List ℕ) → ArePlain m w f → digits_value 10 w < 2 ^ 64
whole_small m w f x =
    let v = digits_value 10 w in
    let p = 10 ^ length f in
    elim (cases_lt v (2 ^ 64)) [
      | inl small ↦ small
      | inr large ↦
          let least = mul-le-mul_right (10 ^ 12) (value_least f v) in
          let up : (10 ^ 29 + 1) * p ≤ (v * 10 ^ 12) * p = mul-le-mul_right p (omega arith) in
          let fits : m * p ≤ 10 ^ 29 * p = mul-le-mul_right p x.fits in
          let one : (10 ^ 29 + 1) * p ≡ 10 ^ 29 * p + 1 * p = add-mul (10 ^ 29) 1 p in
          absurd (omega (arith, least, up, fits, one, x.value, swap v p (10 ^ 12), ten_pos (length f)))
    ]

-- digits with their value, as the standard library asks
digits_model : IsNumeralModel (AllDigits 10) (digits_value 10)
digits_model = record { from = λ ds p. p; to = λ ds p. p; same = λ ds p. refl }

-- the whole part is what is written for its value
whole_is : (m : ℕ) (w f : List ℕ) → ArePlain m w f → decimal (digits_value 10 w) ≡ w
whole_is m w f x = decimal-digits_value digits_model w x.whole x.some_whole (lead w x.no_zero_before) (whole_small m w f x)
  where
    lead : (w : List ℕ) → ((ds : List ℕ) → w ≡ 48 ∷ ds → ds ≡ []) → get_or w 0 0 ≡ 48 → length w ≡ 1
    lead [] h e = absurd (omega (arith, e))
    lead (d ∷ ds) h e = omega (arith, ap length (h ds (ap (λ x. x ∷ ds) e)))

-- the digits are determined
same_plain : (m : ℕ) (w f v g : List ℕ) → ArePlain m w f → ArePlain m v g → (w ≡ v) × (f ≡ g)
same_plain m w f v g x y =
    let a = digits_value_after 10 (digits_value 10 w) f in
    let b = digits_value_after 10 (digits_value 10 v) g in
    let long : length f ≡ length g = elim (cases_lt (length f) (length g)) [
      | inl less ↦ absurd (no_longer m w f v g x y less)
      | inr most ↦ elim (cases_lt (length g) (length f)) [ inl less ↦ absurd (no_longer m v g w f y x less) | inr least ↦ omega arith ]
    ] in
    let value : a ≡ b = cancel a b (10 ^ 12) (ten_pos 12) (sym x.value ∙ ap (λ z. m * 10 ^ z) long ∙ y.value) in
    let same = same_digits f g (digits_value 10 w) (digits_value 10 v) x.fraction y.fraction long value in
    (sym (whole_is m w f x) ∙ ap decimal same.0 ∙ whole_is m v g y, same.1)

-- the sign that a printed form has
abbrev sign_of : ℤ → Option Sign
sign_of (pos m) = None
sign_of (negsuc m) = Some Minus

-- a printed form has that sign
sign_is : (n : ℤ) (s : Option Sign) (m : ℕ) → (s ≡ Some Plus → ⊥) → (s ≡ Some Minus → n <ℤ pos 0) → n ≡ signed (is_minus s) m → s ≡ sign_of n
sign_is n (Some Plus) m plus minus e = absurd (plus refl)
sign_is (pos k) None m plus minus e = refl
sign_is (negsuc k) None m plus minus e = cc
sign_is (pos k) (Some Minus) m plus minus e = absurd (let below = minus refl in omega (arith, ints, below))
sign_is (negsuc k) (Some Minus) m plus minus e = refl

-- the same of a whole text
sign_printed : (n : ℤ) (text : List ℕ) (p : IsPrinted n text) → p.reads_back.numeral.sign ≡ sign_of n
sign_printed n text p =
    let v = p.reads_back in
    let u = means_units v.numeral n v.means v.fits in
    sign_is n v.numeral.sign u.0 v.form.no_plus p.minus_if_negative u.1

-- fractions with the same digits are one
same_fraction : (f g : Option (List ℕ)) → (f ≡ Some [] → ⊥) → (g ≡ Some [] → ⊥) → places f ≡ places g → f ≡ g
same_fraction None None x y e = refl
same_fraction (Some []) g x y e = absurd (x refl)
same_fraction f (Some []) x y e = absurd (y refl)
same_fraction None (Some (d ∷ ds)) x y e = cc
same_fraction (Some (d ∷ ds)) None x y e = cc
same_fraction (Some (d ∷ ds)) (Some (k ∷ ks)) x y e = ap Some e

-- a number has one printed form
pub printed_once : (n : ℤ) (s t : List ℕ) → IsPrinted n s → IsPrinted n t → s ≡ t
printed_once n s t p q =
    let a = p.reads_back.numeral in
    let b = q.reads_back.numeral in
    let same = same_plain (unsigned_abs n) a.whole (places a.fraction) b.whole (places b.fraction) (plain_of n s p) (plain_of n t q) in
    let f = same_fraction a.fraction b.fraction p.reads_back.form.places_behind_point q.reads_back.form.places_behind_point same.1 in
    p.reads_back.spelled
    ∙ ap (λ x. sign_text x ++ (a.whole ++ (point_text a.fraction ++ exponent_text a.exponent))) (sign_printed n s p ∙ sym (sign_printed n t q))
    ∙ ap (λ x. sign_text b.sign ++ (x ++ (point_text a.fraction ++ exponent_text a.exponent))) same.0
    ∙ ap (λ x. sign_text b.sign ++ (b.whole ++ (point_text x ++ exponent_text a.exponent))) f
    ∙ ap (λ x. sign_text b.sign ++ (b.whole ++ (point_text b.fraction ++ exponent_text x))) (p.no_exponent ∙ sym q.no_exponent)
    ∙ sym q.reads_back.spelled

-- what holds of the printed form holds of what is printed, where there was room
pub printed_if : {S E : Type 0} (P : List ℕ → Type 0) (bytes : S → List ℕ) (n : ℤ) (r : Result S E) → IfOk r (λ s. bytes s ≡ printed n) → P (printed n) → IfOk r (λ s. P (bytes s))
printed_if P bytes n (Ok s) h p = subst P (sym h) p
printed_if P bytes n (Err e) h p = tt
