-- The name of a file behind the last `/` of its path.
use Rattle.std.proofs.Common.{◌≡◌, ◌≢◌, ℕ, suc, ◌<◌, List, [], ◌∷◌, ◌++◌, Bool, true, false, length, take, drop, get_or, ◌||◌, ◌==◌, refl, sym, ap, ◌∙◌, lit<, arith}
use Rattle.std.specs.List.{list_any}
use Rattle.std.specs.Str.{NoCharPasses}
use Rattle.std.specs.Str.Pattern.{RFindsChar, SplitsAroundMatch}
use Rattle.std.proofs.lemmas.Bool.{eqb-true}
use Rattle.std.proofs.lemmas.List.{take-append-drop}
use Rattle.std.proofs.lemmas.Str.Pattern.{NoCharPasses-char, drop_at_char}
use Rattle.form_input.specs.Words.{file_name, is_solidus}

-- ---- by the bytes

lacks_solidus : (text : List ℕ) → ((i : ℕ) → i < length text → get_or text i 0 ≢ 47) → list_any is_solidus text ≡ false
lacks_solidus [] other = refl
lacks_solidus (b ∷ bs) other = go (b == 47) refl (lacks_solidus bs (λ i lt. other (suc i) (omega arith)))
  where
    go : (v : Bool) → b == 47 ≡ v → list_any is_solidus bs ≡ false → v || list_any is_solidus bs ≡ false
    go true e rest = absurd (other 0 (omega arith) (eqb-true b 47 e))
    go false e rest = rest

has_solidus : (front name : List ℕ) → list_any is_solidus (front ++ 47 ∷ name) ≡ true
has_solidus [] name = refl
has_solidus (b ∷ bs) name = go (b == 47) (has_solidus bs name)
  where
    go : (v : Bool) → list_any is_solidus (bs ++ 47 ∷ name) ≡ true → v || list_any is_solidus (bs ++ 47 ∷ name) ≡ true
    go true rest = refl
    go false rest = rest

whole : (path : List ℕ) → list_any is_solidus path ≡ false → file_name path ≡ path
unfolding file_name
whole [] none = refl
whole (b ∷ bs) none = simp none

behind : (front name : List ℕ) → list_any is_solidus name ≡ false → file_name (front ++ 47 ∷ name) ≡ name
unfolding file_name
behind [] name none = whole name none
behind (b ∷ bs) name none = simp (has_solidus (b ∷ bs) name) (behind bs name none)

-- ---- by a search from the end

-- a path without a `/` is the name
pub file_name-whole : (path : List ℕ) → NoCharPasses (λ b. b == 47) path → path ≡ file_name path
file_name-whole path none = sym (whole path (lacks_solidus path (λ i lt. NoCharPasses-char 47 path i none (lit< tt) lt)))

-- what stands behind the last `/` is the name
pub file_name-behind : (path front name : List ℕ) → SplitsAroundMatch (RFindsChar 47) path front name → name ≡ file_name path
file_name-behind path front name split =
    let i : ℕ = split.0 in
    let j : ℕ = split.1 in
    let none : NoCharPasses (λ b. b == 47) (drop j path) = split.2.0 in
    let lacks : list_any is_solidus (drop j path) ≡ false = lacks_solidus (drop j path) (λ k lt. NoCharPasses-char 47 (drop j path) k none (lit< tt) lt) in
    let tail : drop i path ≡ 47 ∷ drop j path = drop_at_char 47 path i j split.2.1 (lit< tt) in
    let parts : path ≡ take i path ++ 47 ∷ drop j path = sym (take-append-drop i path) ∙ ap (λ l. take i path ++ l) tail in
    split.4 ∙ sym (ap file_name parts ∙ behind (take i path) (drop j path) lacks)
