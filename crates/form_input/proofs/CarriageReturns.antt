-- A line without the one carriage return at its end.
use Rattle.std.proofs.Common.{◌≡◌, ℕ, ◌+◌, ◌-◌, ◌<◌, List, [], ◌∷◌, ◌++◌, Bool, true, false, length, take, drop, get_or, if◌then◌else◌, ◌==◌, suc, refl, sym, ap, ◌∙◌, arith, length-append, drop-cons}
use Rattle.std.proofs.lemmas.Bool.{eqb-true}
use Rattle.std.proofs.lemmas.List.{take-append-drop}
use Rattle.std.proofs.Math.ListN.{drop_of_length-le}
use Rattle.std.proofs.Math.Seq.{get_or-append_seam, take-append_seam}
use Rattle.form_input.specs.Lines.{without_cr}

own_front : (front : List ℕ) → without_cr (front ++ 13 ∷ []) ≡ front
unfolding without_cr
own_front front =
    let n : length (front ++ 13 ∷ []) - 1 ≡ length front = omega (arith, length-append front (13 ∷ [])) in
    simp (n, get_or-append_seam, take-append_seam)

-- a line with one loses it
pub without_cr-stripped : (line front : List ℕ) → line ≡ front ++ 13 ∷ [] → front ≡ without_cr line
without_cr-stripped line front e = sym (ap without_cr e ∙ own_front front)

-- the last byte of a list
last_one : (xs : List ℕ) (n : ℕ) → length xs ≡ n + 1 → xs ≡ take n xs ++ get_or xs n 0 ∷ []
last_one xs n long =
    let below : n < length xs = omega arith in
    let over : length xs < suc n + 1 = omega arith in
    let tail : drop n xs ≡ get_or xs n 0 ∷ [] =
    drop-cons xs n 0 below ∙ ap (λ l. get_or xs n 0 ∷ l) (drop_of_length-le xs {i = suc n} (omega arith)) in
    sym (take-append-drop n xs) ∙ ap (λ l. take n xs ++ l) tail

-- and a line with none stays
pub without_cr-kept : (line : List ℕ) → ((front : List ℕ) → line ≡ front ++ 13 ∷ [] → ⊥) → line ≡ without_cr line
unfolding without_cr
without_cr-kept [] none = refl
without_cr-kept (b ∷ bs) none = go (b ∷ bs) (length bs) (omega arith) none (get_or (b ∷ bs) (length (b ∷ bs) - 1) 0 == 13) refl
  where
    go : (line : List ℕ) (n : ℕ) → length line ≡ n + 1 → ((front : List ℕ) → line ≡ front ++ 13 ∷ [] → ⊥) → (v : Bool) → get_or line (length line - 1) 0 == 13 ≡ v
        → line ≡ (if v then take (length line - 1) line else line)
    go line n long none false e = refl
    go line n long none true e =
        let at : length line - 1 ≡ n = omega arith in
        let thirteen : get_or line n 0 ≡ 13 = ap (λ k. get_or line k 0) (sym at) ∙ eqb-true (get_or line (length line - 1) 0) 13 e in
        absurd (none (take n line) (last_one line n long ∙ ap (λ b. take n line ++ b ∷ []) thirteen))
