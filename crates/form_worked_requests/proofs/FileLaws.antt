-- The files of a shelf, looked up at run time.
use Rattle.std.proofs.Common.{◌≡◌, ℕ, zero, suc, ◌+◌, ◌<◌, ◌≤◌, true, List, [], ◌∷◌, length, take, get_or, Option, Some, None, refl, sym, ap, subst, ◌∙◌, arith}
use Rattle.std.specs.Prelude.{All, is_some, slice_get, option_map}
use Rattle.std.proofs.lemmas.List.{take_all, take_more}
use Rattle.std.proofs.lemmas.List.Elements.{All-push}
use Rattle.form_ports.specs.Shelf.{IsFile, IsThere, at_number, contents_of}
use Rattle.form_ports.proofs.ShelfLaws.{slice_get-map, slice_get-within}

-- a place where a file stands
pub IsThere-at : {B : Type 0} (content : B → Option (List ℕ)) (shelf : List (Option B)) (number place : ℕ) (file : Option B)
    → number ≡ suc place → place < length shelf → file ≡ get_or shelf place file → is_some file ≡ true → IsThere (contents_of content shelf) number
unfolding contents_of at_number
IsThere-at content shelf number place None same inside at some = absurd (cc some)
IsThere-at content shelf number place (Some b) same inside at some =
    let there : slice_get (contents_of content shelf) place ≡ Some (Some (content b)) =
    slice_get-map (option_map content) shelf place ∙ ap (option_map (option_map content)) (slice_get-within shelf place (Some b) inside at) in
    let P : ℕ → Type 0 = λ n. IsThere (contents_of content shelf) n in
    subst P (sym same) (record { file = let Q : Option (Option (Option (List ℕ))) → Type 0 = IsFile in subst Q (sym there) tt })

-- one more
pub All-more : {X : Type 0} (P : X → Type 0) (xs : List X) (i : ℕ) (d : X) → i < length xs
    → All P (take i xs) → P (get_or xs i d) → All P (take (i + 1) xs)
All-more P xs i d h so_far here =
    let Q : List _ → Type 0 = All P in
    subst Q (sym (take_more xs i d h)) (All-push P (take i xs) (get_or xs i d) so_far here)

-- the same, where it has a name
pub All-item : {X : Type 0} (P : X → Type 0) (xs : List X) (i : ℕ) (x : X) → x ≡ get_or xs i x → i < length xs
    → All P (take i xs) → P x → All P (take (i + 1) xs)
All-item P xs i x at h so_far here = All-more P xs i x h so_far (subst P at here)

-- all
pub All-whole : {X : Type 0} (P : X → Type 0) (xs : List X) (i : ℕ) → length xs ≤ i → All P (take i xs) → All P xs
All-whole P xs i h so_far = let Q : List _ → Type 0 = All P in subst Q (take_all i xs h) so_far
