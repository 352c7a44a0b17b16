-- A character has no more code units than bytes.
use Rattle.std.proofs.Common.{◌≡◌, ℕ, ◌<◌, ◌≤◌, inl, inr, length, arith}
use Rattle.std.proofs.Math.Utf8.{encode}
use Rattle.std.proofs.lemmas.Bool.{cases_lt}
use Rattle.std.proofs.lemmas.Bool.Decides.{nat_tests}
use Rattle.std.proofs.lemmas.Str.{length-encode, len_utf8_bounds}
use Rattle.std.specs.Char.{len_utf8}
use Rattle.form_text.specs.Utf16.{code_units}

-- the count of std is that of the definition, and fits
pub units_fit : (c units : ℕ) → (c < 0x1_0000 → units ≡ 1) → (0x1_0000 ≤ c → units ≡ 2) → (units ≡ code_units c) × (units ≤ length (encode c))
units_fit c units one two = (
  grind (arith, nat_tests),
  elim (cases_lt c 0x1_0000) [
    | inl h ↦ omega (arith, one h, length-encode c, len_utf8_bounds c)
    | inr h ↦ let four : len_utf8 c ≡ 4 = grind (arith, nat_tests) in omega (arith, two h, length-encode c, four)
  ],
)
