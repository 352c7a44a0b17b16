-- A whole number of steps and the Euclidean remainder.
use Rattle.std.proofs.Common.{◌≡◌, ℕ, ◌-◌, ◌/◌, ◌%◌, ◌<◌, suc, refl, ap, sym, subst, ◌∙◌, arith, ℤ, pos, negsuc, ◌+ℤ◌, ◌-ℤ◌, ◌*ℤ◌, ◌≤ℤ◌}
use Rattle.std.proofs.Math.Nat.{div-add-mod', mod-lt, mod-eq_of_lt, mul-mod_left}
use Rattle.std.proofs.lemmas.Int.{ints, int_rem_euclid_is}
use Rattle.std.specs.Int.{int_rem_euclid}
use Rattle.std.proofs.Common.{IsTrue, eqb, of_z}
use Rattle.std.specs.Int.{w128}
use Rattle.std.proofs.lemmas.Bool.{eqb-true}
use Rattle.form_decimal.specs.Alignment.{IsAligned}

-- a number is a multiple of n and its Euclidean remainder
euclid : (z : ℤ) (n : ℕ) → 0 < n → (q : ℤ) × (z ≡ (q *ℤ pos n) +ℤ int_rem_euclid z (pos n))
euclid (pos a) n h = (pos (a / n), ap pos (sym (div-add-mod' a n)))
euclid (negsuc a) n h = (negsuc (a / n), omega (arith, ints, div-add-mod' a n, mod-lt a h))

-- no remainder: aligned
pub aligned_from_rem : (n base : ℤ) (s : ℕ) → 0 < s → int_rem_euclid (n -ℤ base) (pos s) ≡ pos 0 → IsAligned n base (pos s)
aligned_from_rem n base s h e =
    let q = euclid (n -ℤ base) s h in
    record { count = q.0; is = omega (arith, ints, q.1, e) }

-- a multiple has no remainder
rem_of_multiple : (q : ℤ) (s : ℕ) → 0 < s → int_rem_euclid (q *ℤ pos s) (pos s) ≡ pos 0
rem_of_multiple (pos c) s h = ap pos (mul-mod_left c s)
rem_of_multiple (negsuc c) s h = int_rem_euclid_is (negsuc c *ℤ pos s) (pos s) s (suc c) 0 h refl (omega (arith, ints)) ∙ ap pos (mod-eq_of_lt h)

-- aligned: no remainder
pub rem_from_aligned : (n base : ℤ) (s : ℕ) → 0 < s → IsAligned n base (pos s) → int_rem_euclid (n -ℤ base) (pos s) ≡ pos 0
rem_from_aligned n base s h a = ap (λ z. int_rem_euclid z (pos s)) a.is ∙ rem_of_multiple a.count s h

-- a Euclidean remainder is a natural number
rem_is_pos : (z : ℤ) (s : ℕ) → (m : ℕ) × (int_rem_euclid z (pos s) ≡ pos m)
rem_is_pos (pos a) s = (a % s, refl)
rem_is_pos (negsuc a) s = (s - 1 - a % s, refl)

-- the test of a remainder r
pub test_aligned : (n base step r : ℤ) → pos 1 ≤ℤ step → r ≡ int_rem_euclid (n -ℤ base) step → (IsTrue (eqb (of_z w128 r) 0) → IsAligned n base step) × (IsAligned n base step → IsTrue (eqb (of_z w128 r) 0))
test_aligned n base (pos s) r h e =
    let some : 0 < s = omega (arith, ints) in
    let m = rem_is_pos (n -ℤ base) s in
    let is : r ≡ pos m.0 = e ∙ m.1 in (
      λ t. aligned_from_rem n base s some (m.1 ∙ ap pos (eqb-true m.0 0 (subst (λ x. IsTrue (eqb (of_z w128 x) 0)) is t))),
      λ a. let zero : pos m.0 ≡ pos 0 = sym m.1 ∙ rem_from_aligned n base s some a in subst (λ x. IsTrue (eqb (of_z w128 x) 0)) (sym (is ∙ zero)) refl,
    )
test_aligned n base (negsuc s) r h e = absurd (omega (arith, ints))

-- a number less its remainder is aligned
pub aligned_below : (limit base step r result : ℤ) → pos 1 ≤ℤ step → r ≡ int_rem_euclid (limit -ℤ base) step → result ≡ limit -ℤ r → IsAligned result base step
aligned_below limit base (pos s) r result h e f =
    let q = euclid (limit -ℤ base) s (omega (arith, ints)) in
    record { count = q.0; is = omega (arith, ints, q.1, e, f) }
aligned_below limit base (negsuc s) r result h e f = absurd (omega (arith, ints))
