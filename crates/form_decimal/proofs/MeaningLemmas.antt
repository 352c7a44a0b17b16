-- The number of a text as a function is the number that it means.
use Rattle.std.proofs.Common.{◌≡◌, ℕ, ◌+◌, ◌*◌, ◌/◌, ◌%◌, ◌^◌, ◌<◌, ◌≤◌, ◌++◌, zero, suc, Bool, true, false, ◌&&◌, not, List, [], ◌∷◌, length, Option, Some, None, IfSome, option_and_then, refl, ap, sym, subst, ◌∙◌, arith, eqb, append-nil, length-append, ℤ, pos, negsuc, ◌*ℤ◌, unsigned_abs}
use Rattle.std.specs.Prelude.{nat_le}
use Rattle.std.proofs.lemmas.Bool.{eqb-true, eq-eqb, and_parts}
use Rattle.std.proofs.lemmas.Int.{ints}
use Rattle.std.proofs.lemmas.Option.{option_and_then_some, same_Some}
use Rattle.std.proofs.Math.Nat.{mul-div_cancel, mul-mod_left, div-add-mod', le-mul_of_pos_right}
use Rattle.form_decimal.specs.declared.spelling.Sign.{Sign}
use Rattle.form_decimal.specs.declared.spelling.Sign.TheVariants.{Plus, Minus}
use Rattle.form_decimal.specs.Numeral.{Numeral, IsValidNumber, IsLenientNumber, IsLenientForm, IsLongest, Means, signed, is_minus, coefficient, raised_by, numeral_text, behind_whitespace}
use Rattle.form_decimal.specs.Spelling.{numeral_front, behind_made, is_valid, is_plus, is_bare}
use Rattle.form_decimal.specs.Scaled.{Units}
use Rattle.form_decimal.specs.Reading.{over, under, meant, meant_alone, meant_front, valid_number, lenient_number}
use Rattle.form_decimal.proofs.ScalingLemmas.{ten_pos}
use Rattle.form_decimal.proofs.SpellingLemmas.{some_if, front_found, front_again}
use Rattle.form_decimal.proofs.FoldLemmas.{le_true, true_le}

-- ---- the equation over signed numbers is one over magnitudes

-- a sign goes before a product
signed_times : (b : Bool) (m p : ℕ) → signed b m *ℤ pos p ≡ signed b (m * p)
signed_times false m p = refl
signed_times true zero p = omega (arith, ints)
signed_times true (suc m) p = omega (arith, ints)

-- a sign does not change the magnitude
pub abs_signed : (b : Bool) (m : ℕ) → unsigned_abs (signed b m) ≡ m
abs_signed true m = grind arith
abs_signed false m = refl

-- an equation of products with a sign is one of magnitudes
unsign : (b : Bool) (c : ℤ) (a p q : ℕ) → 0 < p → c *ℤ pos p ≡ signed b (a * q) → (m : ℕ) × (c ≡ signed b m) × (m * p ≡ a * q)
unsign false (pos k) a p q h e = (k, refl, omega (arith, ints, e))
unsign false (negsuc k) a p q h e = absurd (let g = le-mul_of_pos_right (suc k) h in omega (arith, ints, e, g))
unsign true (pos k) a p q h e =
    let g = le-mul_of_pos_right k h in
    let z : k ≡ 0 = omega (arith, ints, e, g) in
    (0, ap pos z, omega (arith, ints, e, ap (λ x. x * p) z))
unsign true (negsuc k) a p q h e = (suc k, refl, omega (arith, ints, e))

-- what a numeral means has a magnitude that is its units
pub means_units : (n : Numeral) (c : ℤ) → Means n c → unsigned_abs c ≤ 10 ^ 29 → (m : ℕ) × (c ≡ signed (is_minus n.sign) m) × Units n m
means_units n c h b =
    let u = unsign (is_minus n.sign) c (coefficient n) (under n) (10 ^ (raised_by n.exponent + 12)) (ten_pos _) (h ∙ signed_times (is_minus n.sign) (coefficient n) (10 ^ (raised_by n.exponent + 12))) in
    let m : unsigned_abs c ≡ u.0 = ap unsigned_abs u.1 ∙ abs_signed (is_minus n.sign) u.0 in
    (u.0, u.1, (omega (arith, m, b), u.2))

-- and units are what the numeral means
pub units_means : (n : Numeral) (m : ℕ) → Units n m → Means n (signed (is_minus n.sign) m)
units_means n m h =
    signed_times (is_minus n.sign) m (under n) ∙ ap (signed (is_minus n.sign)) h.1
    ∙ sym (signed_times (is_minus n.sign) (coefficient n) (10 ^ (raised_by n.exponent + 12)))

-- ---- the number of a numeral

-- what the function gives is the units of the numeral
meant_units : (n : Numeral) (c : ℤ) → meant n ≡ Some c → (m : ℕ) × (c ≡ signed (is_minus n.sign) m) × Units n m
unfolding meant
meant_units n c h =
    let t = some_if ((eqb (over n % under n) 0) && nat_le (over n / under n) (10 ^ 29)) (Some (signed (is_minus n.sign) (over n / under n))) c h in
    let s = and_parts (eqb (over n % under n) 0) (nat_le (over n / under n) (10 ^ 29)) t.0 in
    let none : over n % under n ≡ 0 = eqb-true (over n % under n) 0 s.0 in
    let whole : over n / under n * under n + over n % under n ≡ over n = div-add-mod' (over n) (under n) in
    (over n / under n, sym (same_Some (signed (is_minus n.sign) (over n / under n)) c t.1), (le_true _ _ s.1, omega (arith, none, whole)))

-- the units of the numeral are what the function gives
pub meant_some : (n : Numeral) (m : ℕ) → Units n m → meant n ≡ Some (signed (is_minus n.sign) m)
unfolding meant
meant_some n m h =
    let is : over n ≡ m * under n = sym h.1 in
    let quotient : over n / under n ≡ m = ap (λ x. x / under n) is ∙ mul-div_cancel m (ten_pos _) in
    let rest : over n % under n ≡ 0 = ap (λ x. x % under n) is ∙ mul-mod_left m (under n) in
    rw (rest, quotient, true_le m (10 ^ 29) h.0) refl

-- no units: the function gives nothing
pub meant_none : (n : Numeral) → ((m : ℕ) → Units n m → ⊥) → meant n ≡ None
meant_none n h = go (meant n) refl
  where
    go : (o : Option ℤ) → meant n ≡ o → o ≡ None
    go None e = refl
    go (Some c) e = let m = meant_units n c e in absurd (h m.0 m.2)

-- what the function gives is what the numeral means
meant_found : (n : Numeral) (c : ℤ) → meant n ≡ Some c → Means n c × (unsigned_abs c ≤ 10 ^ 29)
meant_found n c h =
    let m = meant_units n c h in
    let e : unsigned_abs c ≡ m.0 = ap unsigned_abs m.1 ∙ abs_signed (is_minus n.sign) m.0 in
    (subst (Means n) (sym m.1) (units_means n m.0 m.2), omega (arith, e, m.2.0))

-- and back
meant_again : (n : Numeral) (c : ℤ) → Means n c → unsigned_abs c ≤ 10 ^ 29 → meant n ≡ Some c
meant_again n c h b = let m = means_units n c h b in meant_some n m.0 m.2 ∙ ap Some (sym m.1)

-- ---- the number of a text

-- what passes the test has no `+`
plus_not : (s : Option Sign) → not (is_plus s) ≡ true → s ≡ Some Plus → ⊥
plus_not s t e = let bad : not (is_plus (Some Plus)) ≡ true = subst (λ x. not (is_plus x) ≡ true) e t in cc

-- what passes the test has digits behind a point
bare_not : (f : Option (List ℕ)) → not (is_bare f) ≡ true → f ≡ Some [] → ⊥
bare_not f t e = let bad : not (is_bare (Some [])) ≡ true = subst (λ x. not (is_bare x) ≡ true) e t in cc

-- no `+` passes the test
not_plus : (s : Option Sign) → (s ≡ Some Plus → ⊥) → not (is_plus s) ≡ true
not_plus None h = refl
not_plus (Some Minus) h = refl
not_plus (Some Plus) h = absurd (h refl)

-- digits behind a point pass the test
not_bare : (f : Option (List ℕ)) → (f ≡ Some [] → ⊥) → not (is_bare f) ≡ true
not_bare None h = refl
not_bare (Some []) h = absurd (h refl)
not_bare (Some (d ∷ ds)) h = refl

-- a list of length 0 is empty
empty : (t : List ℕ) → length t ≡ 0 → t ≡ []
empty [] h = refl
empty (x ∷ xs) h = absurd (omega arith)

-- what the reader gives is the number of a valid text
pub valid_found : (text : List ℕ) (c : ℤ) → valid_number text ≡ Some c → IsValidNumber text c
unfolding valid_number
valid_found text c h = option_and_then_some meant_alone (numeral_front text) c h (λ x e g.
    let f = front_found text x e in
    let t = some_if ((eqb (length x.1) 0) && is_valid x.0) (meant x.0) c g in
    let s = and_parts (eqb (length x.1) 0) (is_valid x.0) t.0 in
    let v = and_parts (not (is_plus x.0.sign)) (not (is_bare x.0.fraction)) s.1 in
    let m = meant_found x.0 c t.1 in
    record {
      numeral = x.0;
      spelled = f.1 ∙ ap (λ r. numeral_text x.0 ++ r) (empty x.1 (eqb-true (length x.1) 0 s.0)) ∙ append-nil (numeral_text x.0);
      form = record { form = f.0.form; no_plus = plus_not x.0.sign v.0; places_behind_point = bare_not x.0.fraction v.1 };
      means = m.0;
      fits = m.1;
    })

-- a numeral that takes the whole text is the longest one
whole_longest : (text : List ℕ) (n : Numeral) → IsLenientForm n → text ≡ numeral_text n → IsLongest n text
whole_longest text n h e = record {
  form = h;
  rest = [];
  spelled = e ∙ sym (append-nil (numeral_text n));
  longest = λ m r k g. omega (arith, length-append (numeral_text m) r, ap length g, ap length e);
}

-- and back
pub valid_again : (text : List ℕ) (c : ℤ) → IsValidNumber text c → valid_number text ≡ Some c
unfolding valid_number
valid_again text c h =
    let n = h.numeral in
    let a = front_again text n (whole_longest text n h.form.form h.spelled) in
    let f = front_found text (n, behind_made text) a in
    let none : length (behind_made text) ≡ 0 = omega (arith, length-append (numeral_text n) (behind_made text), ap length f.1, ap length h.spelled) in
    ap (option_and_then meant_alone) a
    ∙ rw (eq-eqb (length (behind_made text)) 0 none, not_plus n.sign h.form.no_plus, not_bare n.fraction h.form.places_behind_point) (meant_again n c h.means h.fits)

-- it is a decimal
pub valid_bound : (text : List ℕ) (c : ℤ) → valid_number text ≡ Some c → unsigned_abs c ≤ 10 ^ 29
valid_bound text c h = (valid_found text c h).fits

-- the same of the longest front
pub lenient_found : (text : List ℕ) (c : ℤ) → lenient_number text ≡ Some c → IsLenientNumber text c
unfolding lenient_number
lenient_found text c h = option_and_then_some meant_front (numeral_front (behind_whitespace text)) c h (λ x e g.
    let m = meant_found x.0 c g in
    record { numeral = x.0; longest = (front_found (behind_whitespace text) x e).0; means = m.0; fits = m.1 })

-- and back
pub lenient_again : (text : List ℕ) (c : ℤ) → IsLenientNumber text c → lenient_number text ≡ Some c
unfolding lenient_number
lenient_again text c h =
    ap (option_and_then meant_front) (front_again (behind_whitespace text) h.numeral h.longest) ∙ meant_again h.numeral c h.means h.fits

-- it is a decimal
pub lenient_bound : (text : List ℕ) (c : ℤ) → lenient_number text ≡ Some c → unsigned_abs c ≤ 10 ^ 29
lenient_bound text c h = (lenient_found text c h).fits

-- what a reader answers, where its function is found
pub found_if : {P : ℤ → Type 0} (o r : Option ℤ) → ((c : ℤ) → o ≡ Some c → P c) → r ≡ o → IfSome r P
found_if o None f e = tt
found_if o (Some c) f e = f c (sym e)
