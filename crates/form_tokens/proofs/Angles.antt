-- What is no end tag.
use Rattle.std.proofs.Common.{◌≡◌, ◌≢◌, ℕ, List, [], ◌∷◌, take, drop, get_or, map, Bool, true, false, refl, ap, arith, codes, ◌&&◌}
use Rattle.std.specs.Char.{to_ascii_lowercase}
use Rattle.std.specs.Str.{bytes_eq, str_eq_ignore_ascii_case}
use Rattle.std.proofs.lemmas.Bool.Decides.{nat_tests}
use Rattle.std.proofs.lemmas.Slice.Eq.{bytes_eq-Decides}
use Rattle.form_tokens.specs.Runs.{begins_so}
use Rattle.form_tokens.specs.Characters.{closes_textarea, ends_name}

lower_solidus : (b : ℕ) → to_ascii_lowercase b ≡ 47 → b ≡ 47
lower_solidus b e = grind (arith, nat_tests)

bytes_same : (xs ys : List ℕ) → bytes_eq xs ys ≡ true → xs ≡ ys
bytes_same xs ys h = grind (arith, bytes_eq-Decides)

-- an end tag has `/` in the second place
pub no_solidus : (text : List ℕ) → get_or text 1 0 ≢ 47 → closes_textarea text ≡ false
unfolding closes_textarea
no_solidus [] h = refl
no_solidus (a ∷ []) h = grind (arith, nat_tests)
no_solidus (a ∷ b ∷ rest) h = go (str_eq_ignore_ascii_case (take 10 (a ∷ b ∷ rest)) (codes "</textarea")) refl
  where
    go : (t : Bool) → str_eq_ignore_ascii_case (take 10 (a ∷ b ∷ rest)) (codes "</textarea") ≡ t → (t && begins_so ends_name (drop 10 (a ∷ b ∷ rest))) ≡ false
    go false is = refl
    go true is =
        let same : map to_ascii_lowercase (a ∷ b ∷ take 8 rest) ≡ map to_ascii_lowercase (codes "</textarea") = bytes_same _ _ is in
        let second : to_ascii_lowercase b ≡ 47 = ap (λ (xs : List ℕ). get_or xs 1 0) same in
        absurd (h (lower_solidus b second))

lower_angle : (b : ℕ) → to_ascii_lowercase b ≡ 60 → b ≡ 60
lower_angle b e = grind (arith, nat_tests)

-- an end tag has `<` in the first place
pub no_angle : (b : ℕ) (bs : List ℕ) → b ≢ 60 → closes_textarea (b ∷ bs) ≡ false
unfolding closes_textarea
no_angle b bs h = go (str_eq_ignore_ascii_case (take 10 (b ∷ bs)) (codes "</textarea")) refl
  where
    go : (t : Bool) → str_eq_ignore_ascii_case (take 10 (b ∷ bs)) (codes "</textarea") ≡ t → (t && begins_so ends_name (drop 10 (b ∷ bs))) ≡ false
    go false is = refl
    go true is =
        let same : map to_ascii_lowercase (b ∷ take 9 bs) ≡ map to_ascii_lowercase (codes "</textarea") = bytes_same _ _ is in
        let first : to_ascii_lowercase b ≡ 60 = ap (λ (xs : List ℕ). get_or xs 0 0) same in
        absurd (h (lower_angle b first))
