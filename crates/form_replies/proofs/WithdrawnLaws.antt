-- The shelf without a file.
use Rattle.std.proofs.Common.{◌≡◌, ℕ, zero, suc, ◌-◌, ◌≤◌, List, Option, Some, None, set, refl, ap, arith}
use Rattle.std.specs.Prelude.{option_map}
use Rattle.std.proofs.lemmas.List.{map-set}
use Rattle.form_ports.specs.Shelf.{contents_of}
use Rattle.form_replies.specs.Withdrawn.{without_all, without_number}

-- the place of a number that is there holds none then
pub set_without : {X : Type 0} (files : List (Option X)) (number : ℕ) → 1 ≤ number → set files (number - 1) None ≡ without_number files number
set_without files zero from_one = absurd (omega arith)
set_without files (suc place) from_one = let e : suc place - 1 ≡ place = omega arith in ap (λ at. set files at None) e

-- the contents without a file are those of the shelf without it
pub contents_without : {B : Type 0} (content : B → Option (List ℕ)) (shelf : List (Option B)) (number : Option ℕ)
    → contents_of content (without_all shelf number) ≡ without_all (contents_of content shelf) number
unfolding contents_of
contents_without content shelf None = refl
contents_without content shelf (Some zero) = refl
contents_without content shelf (Some (suc place)) = map-set (λ file. option_map content file) shelf place None
