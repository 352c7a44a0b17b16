-- Between two aligned numbers there is a step at least.
use Rattle.std.proofs.Common.{◌≡◌, ℕ, ◌≤◌, zero, suc, refl, arith, ℤ, pos, negsuc, ◌+ℤ◌, ◌*ℤ◌, ◌≤ℤ◌, ◌<ℤ◌, unsigned_abs}
use Rattle.std.proofs.Math.Nat.{mul-le-mul_right}
use Rattle.std.proofs.lemmas.Int.{ints, by_lt_z}
use Rattle.form_decimal.specs.Alignment.{IsAligned}

-- one more step
times_suc : (q : ℤ) (s : ℕ) → (q +ℤ pos 1) *ℤ pos s ≡ (q *ℤ pos s) +ℤ pos s
times_suc (pos a) s = omega (arith, ints)
times_suc (negsuc zero) s = omega (arith, ints)
times_suc (negsuc (suc a)) s = let e : negsuc (suc a) +ℤ pos 1 ≡ negsuc a = omega (arith, ints) in rw e (omega (arith, ints))

-- more steps lead further
times_mono : (p q : ℤ) (s : ℕ) → p ≤ℤ q → (p *ℤ pos s) ≤ℤ (q *ℤ pos s)
times_mono (pos a) (pos b) s h = let l : a ≤ b = omega (arith, ints) in omega (arith, ints, mul-le-mul_right s l)
times_mono (pos a) (negsuc b) s h = absurd (omega (arith, ints))
times_mono (negsuc a) (pos b) s h = omega (arith, ints)
times_mono (negsuc a) (negsuc b) s h = let l : b ≤ a = omega (arith, ints) in omega (arith, ints, mul-le-mul_right s l)

-- an aligned number above another is a step above it at least
pub gap : (base a b : ℤ) (s : ℕ) → IsAligned a base (pos s) → IsAligned b base (pos s) → a <ℤ b → (a +ℤ pos s) ≤ℤ b
gap base a b s x y h = by_lt_z x.count y.count
    (λ l. let m = times_mono (x.count +ℤ pos 1) y.count s (omega (arith, ints)) in omega (arith, ints, m, times_suc x.count s, x.is, y.is))
    (λ l. let m = times_mono y.count x.count s l in absurd (omega (arith, ints, m, x.is, y.is)))

-- the magnitude of a number that is not negative
pub abs_up : (z : ℤ) → pos 0 ≤ℤ z → pos (unsigned_abs z) ≡ z
abs_up (pos a) h = refl
abs_up (negsuc a) h = absurd (omega (arith, ints))

-- the magnitude of a number that is not positive
pub abs_down : (z : ℤ) → z ≤ℤ pos 0 → pos (unsigned_abs z) +ℤ z ≡ pos 0
abs_down (pos a) h = omega (arith, ints)
abs_down (negsuc a) h = omega (arith, ints)
