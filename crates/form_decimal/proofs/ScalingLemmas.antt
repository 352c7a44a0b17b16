-- Powers of ten on both sides of an equation.
use Rattle.std.proofs.Common.{◌≡◌, ℕ, ◌+◌, ◌-◌, ◌*◌, ◌/◌, ◌%◌, ◌^◌, ◌<◌, ◌≤◌, refl, ap, sym, ◌∙◌, arith, lit<}
use Rattle.std.proofs.Common.{inl, inr, ◌++◌, take, drop, length, get_or, add-one}
use Rattle.std.proofs.lemmas.Bool.{cases_lt}
use Rattle.std.proofs.lemmas.List.{take-append-drop}
use Rattle.std.proofs.lemmas.Nat.{pow-add}
use Rattle.std.proofs.Common.{List, [], ◌∷◌, zero, suc, Bool, true, false, cond}
use Rattle.std.specs.Char.{digit_value}
use Rattle.std.specs.Str.Parse.{AllDigits, digits_value_after, digits_value}
use Rattle.form_decimal.specs.Numeral.{Numeral, coefficient, places}
use Rattle.form_decimal.specs.Scaled.{IsBig, IsCapped, IsUnits}
use Rattle.std.proofs.Math.Nat.{mul-div_cancel, one-le-pow, pow-le-pow_right, mul_assoc, mul-mod_left, mul-le-mul_right, mul-le-mul_left, le-mul_of_pos_right}

-- a power of ten is positive
pub ten_pos : (k : ℕ) → 0 < 10 ^ k
ten_pos k = one-le-pow k 10 (lit< tt)

-- a common factor is dropped
pub cancel : (a b p : ℕ) → 0 < p → a * p ≡ b * p → a ≡ b
cancel a b p h e = sym (mul-div_cancel a h) ∙ ap (λ x. x / p) e ∙ mul-div_cancel b h

-- zeros behind zeros
pub pow-join : (v z u : ℕ) → (v * 10 ^ z) * 10 ^ u ≡ v * 10 ^ (z + u)
pow-join v z u = mul_assoc v (10 ^ z) (10 ^ u) ∙ ap (λ x. v * x) (sym (pow-add 10 z u))

-- one more zero
pub step_ten : (v t : ℕ) → v * 10 ^ (t + 1) ≡ (v * 10 ^ t) * 10
step_ten v t = ap (λ x. v * x) (pow-add 10 t 1) ∙ sym (mul_assoc v (10 ^ t) 10)

-- too big already: too big with more zeros
pub more_turns : (v t b r : ℕ) → t < b → r ≡ v * 10 ^ t → 10 ^ 30 ≤ r * 10 → 10 ^ 30 ≤ v * 10 ^ b
more_turns v t b r less e h =
    let up : 10 ^ (t + 1) ≤ 10 ^ b = pow-le-pow_right {n = 10} (lit< tt) (omega arith) in
    omega (arith, step_ten v t, mul-le-mul_left v up)

-- m is v with k more zeros
pub scale_up : (v z f u k m : ℕ) → z + u ≡ k + f → m * 10 ^ f ≡ (v * 10 ^ z) * 10 ^ u → m ≡ v * 10 ^ k
scale_up v z f u k m e h =
    cancel m (v * 10 ^ k) (10 ^ f) (ten_pos f) (h ∙ pow-join v z u ∙ ap (λ x. v * 10 ^ x) e ∙ sym (pow-join v k f))

-- and the other way
pub scale_back : (v z f u k : ℕ) → z + u ≡ k + f → (v * 10 ^ k) * 10 ^ f ≡ (v * 10 ^ z) * 10 ^ u
scale_back v z f u k e = pow-join v k f ∙ ap (λ x. v * 10 ^ x) (sym e) ∙ sym (pow-join v z u)

-- a number that ends in no zero has no whole tenth
pub no_scale : (v z f u m : ℕ) → z + u < f → 0 < v % 10 → m * 10 ^ f ≡ (v * 10 ^ z) * 10 ^ u → ⊥
no_scale v z f u m less last h =
    let j = f - (z + u) - 1 in
    let split : f ≡ (j + 1) + (z + u) = omega arith in
    let e : v ≡ m * 10 ^ (j + 1) =
    cancel v (m * 10 ^ (j + 1)) (10 ^ (z + u)) (ten_pos (z + u)) (sym (pow-join v z u) ∙ sym h ∙ ap (λ x. m * 10 ^ x) split ∙ sym (pow-join m (j + 1) (z + u))) in
    let zero : v % 10 ≡ 0 = ap (λ x. x % 10) (e ∙ ap (λ x. m * x) (pow-add 10 j 1) ∙ sym (mul_assoc m (10 ^ j) 10)) ∙ mul-mod_left (m * 10 ^ j) 10 in
    omega arith

-- thirty zeros are too many
pub high : (v k : ℕ) → 30 ≤ k → 0 < v → 10 ^ 30 ≤ v * 10 ^ k
high v k h p =
    omega (arith, pow-le-pow_right {n = 10} (lit< tt) h, mul-le-mul_right {m = 1} {n = v} (10 ^ k) p)

-- ---- too many digits that count: the number is a multiple of a power of ten, and what is left ends in no zero and has more than 30 digits

-- one more digit keeps a number too long
pub big_more : (a d : ℕ) → d < 10 → IsBig a → IsBig (a * 10 + d)
big_more a d below h = elim (cases_lt 0 d) [
  | inl some ↦ record {
    v = a * 10 + d;
    z = 0;
    is = omega arith;
    long = omega (arith, h.is, h.long, le-mul_of_pos_right h.v (ten_pos h.z));
    last = omega arith;
  }
  | inr none ↦ record {
    v = h.v;
    z = h.z + 1;
    is = omega (arith, ap (λ x. x * 10) h.is, step_ten h.v h.z);
    long = h.long;
    last = h.last;
  }
]

-- and so do more digits
pub big_digits : (ds : List ℕ) (a : ℕ) → AllDigits 10 ds → IsBig a → IsBig (digits_value_after 10 a ds)
big_digits [] a p h = h
big_digits (d ∷ ds) a p h = big_digits ds _ p.1 (big_more a (digit_value d) p.0 h)

-- a number that is too long means no units, with any exponent
pub big_no_number : (a f u m : ℕ) → IsBig a → m * 10 ^ f ≡ a * 10 ^ u → m ≤ 10 ^ 29 → ⊥
big_no_number a f u m big h small =
    let e : m * 10 ^ f ≡ (big.v * 10 ^ big.z) * 10 ^ u = h ∙ ap (λ x. x * 10 ^ u) big.is in
    elim (cases_lt (big.z + u) f) [
      | inl less ↦ no_scale big.v big.z f u m less big.last e
      | inr whole ↦
          let k = big.z + u - f in
          let same : m ≡ big.v * 10 ^ k = scale_up big.v big.z f u k m (omega arith) e in
          let grows : big.v ≤ big.v * 10 ^ k = le-mul_of_pos_right big.v (ten_pos k) in
          omega (arith, big.long)
    ]

-- ---- digits

-- each character of digits is one
pub digit_at : (ds : List ℕ) (i : ℕ) → AllDigits 10 ds → i < length ds → digit_value (get_or ds i 0) < 10
digit_at [] i p h = absurd (omega arith)
digit_at (d ∷ ds) zero p h = p.0
digit_at (d ∷ ds) (suc i) p h = digit_at ds i p.1 (omega arith)

-- more digits make no number less
pub value_grows : (ds : List ℕ) (a : ℕ) → a ≤ digits_value_after 10 a ds
value_grows [] a = omega arith
value_grows (d ∷ ds) a = omega (arith, value_grows ds (a * 10 + digit_value d))

-- digits behind digits
pub value-append : (xs ys : List ℕ) (a : ℕ) → digits_value_after 10 a (xs ++ ys) ≡ digits_value_after 10 (digits_value_after 10 a xs) ys
value-append [] ys a = refl
value-append (x ∷ xs) ys a = value-append xs ys (a * 10 + digit_value x)

-- the coefficient is read in two parts
pub coefficient_is : (n : Numeral) (f : List ℕ) → f ≡ places n.fraction → coefficient n ≡ digits_value_after 10 (digits_value 10 n.whole) f
coefficient_is n f e = value-append n.whole (places n.fraction) 0 ∙ ap (digits_value_after 10 (digits_value 10 n.whole)) (sym e)

-- the first digits write no more than all
pub value-take-le : (ds : List ℕ) (i : ℕ) → digits_value_after 10 0 (take i ds) ≤ digits_value_after 10 0 ds
value-take-le ds i = omega (arith, value_grows (drop i ds) (digits_value_after 10 0 (take i ds)), value-append (take i ds) (drop i ds) 0, ap (digits_value_after 10 0) (take-append-drop i ds))

-- one digit more
value_suc : (ds : List ℕ) (i a : ℕ) → i < length ds → digits_value_after 10 a (take (suc i) ds) ≡ digits_value_after 10 a (take i ds) * 10 + digit_value (get_or ds i 0)
value_suc [] i a h = absurd (omega arith)
value_suc (d ∷ ds) zero a h = refl
value_suc (d ∷ ds) (suc i) a h = value_suc ds i (a * 10 + digit_value d) (omega arith)

-- the same by the place that a loop has reached
pub value_more : (ds : List ℕ) (i a : ℕ) → i < length ds → digits_value_after 10 a (take (i + 1) ds) ≡ digits_value_after 10 a (take i ds) * 10 + digit_value (get_or ds i 0)
value_more ds i a h = rw add-one (value_suc ds i a h)

-- too many digits up to some place are too many in the end
pub big_at : (ds : List ℕ) (i a : ℕ) → i < length ds → AllDigits 10 ds → IsBig (digits_value_after 10 a (take i ds) * 10 + digit_value (get_or ds i 0)) → IsBig (digits_value_after 10 a ds)
big_at [] i a h p b = absurd (omega arith)
big_at (d ∷ ds) zero a h p b = big_digits ds (a * 10 + digit_value d) p.1 b
big_at (d ∷ ds) (suc i) a h p b = big_at ds i (a * 10 + digit_value d) (omega arith) p.1 b

-- an exponent of more than 30 digits gives no number
pub too_far : (value zeros places whole by m : ℕ) (lowers : Bool) → 0 < value % 10 → zeros < 2 ^ 90 → places < 2 ^ 90 → IsCapped whole by → 10 ^ 30 ≤ by → IsUnits (value * 10 ^ zeros) places (cond lowers 0 whole) (cond lowers whole 0) m → ⊥
too_far value zeros places whole by m true last z p capped far h =
    let large : 10 ^ 30 ≤ whole = elim capped [ inl e ↦ omega arith | inr e ↦ omega arith ] in
    no_scale value zeros (places + whole) 12 m (omega arith) last h.1
too_far value zeros places whole by m false last z p capped far h =
    let large : 10 ^ 30 ≤ whole = elim capped [ inl e ↦ omega arith | inr e ↦ omega arith ] in
    let k = zeros + whole + 12 - places in
    let e = scale_up value zeros (places + 0) (whole + 12) k m (omega arith) h.1 in
    omega (arith, e, h.0, high value k (omega arith) (omega arith))
