-- Where words and doctypes end.
use Rattle.std.proofs.Common.{◌≡◌, ℕ, ◌<◌, List, [], ◌∷◌, get_or, map, true, false, ap, arith, codes, nat_eq}
use Rattle.std.specs.Char.{to_ascii_lowercase}
use Rattle.std.specs.List.{starts_with}
use Rattle.std.specs.Str.{IsUtf8, IsCharBoundary}
use Rattle.std.proofs.lemmas.Bool.Decides.{nat_tests}
use Rattle.std.proofs.lemmas.Slice.Eq.{bytes_eq-Decides}
use Rattle.std.proofs.lemmas.Str.{IsCharBoundary-after_ascii}
use Rattle.form_markup.specs.Pieces.{is_before_end, is_doctype}

pub before_end_low : (b : ℕ) → is_before_end b ≡ false → b < 128
before_end_low b h = grind (arith, nat_tests)

pub low_letter : (b : ℕ) → to_ascii_lowercase b ≡ 101 → b < 128
low_letter b e = grind (arith, nat_tests)

pub doctype_boundary : (bs : List ℕ) → IsUtf8 bs → is_doctype bs ≡ true → IsCharBoundary bs 7
doctype_boundary (a ∷ b ∷ c ∷ d ∷ e ∷ f ∷ g ∷ rest) u h =
    let same : (let x : List ℕ = map to_ascii_lowercase (a ∷ b ∷ c ∷ d ∷ e ∷ f ∷ g ∷ []) in x) ≡ map to_ascii_lowercase (codes "doctype") = grind (arith, bytes_eq-Decides) in
    let last : to_ascii_lowercase g ≡ 101 = ap (λ (xs : List ℕ). get_or xs 6 0) same in
    IsCharBoundary-after_ascii (a ∷ b ∷ c ∷ d ∷ e ∷ f ∷ g ∷ rest) 6 u (omega arith) (low_letter g last)
doctype_boundary [] u h = absurd (cc)
doctype_boundary (a ∷ []) u h = absurd (grind (arith, nat_tests))
doctype_boundary (a ∷ b ∷ []) u h = absurd (grind (arith, nat_tests))
doctype_boundary (a ∷ b ∷ c ∷ []) u h = absurd (grind (arith, nat_tests))
doctype_boundary (a ∷ b ∷ c ∷ d ∷ []) u h = absurd (grind (arith, nat_tests))
doctype_boundary (a ∷ b ∷ c ∷ d ∷ e ∷ []) u h = absurd (grind (arith, nat_tests))
doctype_boundary (a ∷ b ∷ c ∷ d ∷ e ∷ f ∷ []) u h = absurd (grind (arith, nat_tests))

pub dashes_boundary : (bs : List ℕ) → IsUtf8 bs → starts_with nat_eq bs (codes "--") ≡ true → IsCharBoundary bs 2
dashes_boundary (a ∷ b ∷ rest) u h = IsCharBoundary-after_ascii (a ∷ b ∷ rest) 1 u (omega arith) (grind (arith, nat_tests))
dashes_boundary [] u h = absurd (cc)
dashes_boundary (a ∷ []) u h = absurd (grind (arith, nat_tests))
