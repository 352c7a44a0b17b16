-- Texts that grow item by item.
use Rattle.std.proofs.Common.{◌≡◌, ℕ, ◌+◌, ◌<◌, ◌≤◌, List, [], ◌∷◌, ◌++◌, take, get_or, length, sym, ap, ◌∙◌, append_assoc, append-nil}
use Rattle.std.specs.Prelude.{flat_map}
use Rattle.std.proofs.lemmas.Grind.{flat_map-append}
use Rattle.std.proofs.lemmas.List.{take_all, take_more}

-- one more text behind those of the items before
pub texts_more : {X : Type 0} (f : X → List ℕ) (xs : List X) (i : ℕ) (d : X) (head text line more : List ℕ) → i < length xs
    → text ≡ head ++ flat_map f (take i xs) → line ≡ f (get_or xs i d) → more ≡ text ++ line → more ≡ head ++ flat_map f (take (i + 1) xs)
texts_more f xs i d head text line more below so_far is pushed =
    pushed
    ∙ ap (λ t. t ++ line) so_far
    ∙ append_assoc head (flat_map f (take i xs)) line
    ∙ ap (λ l. head ++ (flat_map f (take i xs) ++ l)) (is ∙ sym (append-nil (f (get_or xs i d))))
    ∙ ap (λ t. head ++ t) (sym (flat_map-append f (take i xs) (get_or xs i d ∷ [])))
    ∙ ap (λ ys. head ++ flat_map f ys) (sym (take_more xs i d below))

-- all of them
pub texts_all : {X : Type 0} (f : X → List ℕ) (xs : List X) (i : ℕ) (head text : List ℕ) → length xs ≤ i → text ≡ head ++ flat_map f (take i xs) → text ≡ head ++ flat_map f xs
texts_all f xs i head text over so_far = so_far ∙ ap (λ ys. head ++ flat_map f ys) (take_all i xs over)
