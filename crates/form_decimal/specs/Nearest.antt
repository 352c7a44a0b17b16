-- Alignment and the nearest candidate as functions: the remainder of the steps, and a search through all numbers.
use Rattle.std.specs.Prelude.{ℕ, zero, suc, ◌+◌, ◌*◌, ◌^◌, ◌&&◌, ◌==◌, nat_le, not, Bool, true, Option, Some, None, ℤ, pos, ◌-ℤ◌, int_lt, unsigned_abs, if◌then◌else◌}
use Rattle.std.specs.Int.{int_rem_euclid}
use Rattle.form_decimal.specs.Alignment.{distance}

-- no rest is left (`aligned_found`, `aligned_again` of proofs/Laws: exactly where IsAligned)
unfoldable pub is_aligned : ℤ → ℤ → ℤ → Bool
is_aligned n base step = unsigned_abs (int_rem_euclid (n -ℤ base) step) == 0

abbrev pub is_up_to : Option ℤ → ℤ → Bool
is_up_to None c = true
is_up_to (Some h) c = not (int_lt h c)

abbrev pub is_candidate : ℤ → ℤ → ℤ → Option ℤ → ℤ → Bool
is_candidate base step low high c =
    is_aligned c base step
    && (not (int_lt c low) && (is_up_to high c && nat_le (unsigned_abs c) (10 ^ 29)))

-- all numbers of that magnitude, from the least one
abbrev pub nth : ℕ → ℤ
nth k = pos k -ℤ pos (10 ^ 29)

-- the new one where it is not further away
abbrev pub nearer_of : ℤ → Option ℤ → ℤ → ℤ
nearer_of n None c = c
nearer_of n (Some b) c = if nat_le (distance n c) (distance n b) then c else b

-- the nearest one of the first k that pass the test
unfoldable pub nearest_among : ℤ → (ℤ → Bool) → ℕ → Option ℤ
nearest_among n test zero = None
nearest_among n test (suc k) =
    if test (nth k) then Some (nearer_of n (nearest_among n test k) (nth k))
    else nearest_among n test k

-- the nearest candidate, or none (`nearest_is` of proofs/Laws: exactly IsNearestAligned)
unfoldable pub nearest_of : ℤ → ℤ → ℤ → ℤ → Option ℤ → Option ℤ
nearest_of n base step low high = nearest_among n (is_candidate base step low high) (2 * 10 ^ 29 + 1)
