-- The last option of a list that is selected, found on the way through the list.
use Rattle.std.proofs.Common.{◌≡◌, Bool, true, false, cond, List, [], ◌∷◌, ◌++◌, Option, Some, None, refl, sym, ap, ◌∙◌}
use Rattle.std.specs.Prelude.{reverse}
use Rattle.std.specs.List.{find}
use Rattle.std.specs.Option.{option_map}
use Rattle.std.proofs.lemmas.List.{reverse-append}
use Rattle.form_tree.specs.declared.node.Key.{Key}
use Rattle.form_tree.specs.Selects.{Marked}

-- the last that is selected, where that is the last before the list
abbrev pub latest : Option Key → List Marked → Option Key
latest last [] = last
latest last (o ∷ os) = latest (cond o.2 (Some o.0) last) os

-- the first of two, or the second where there is none
abbrev or_else : Option Key → Option Key → Option Key
or_else None k = k
or_else (Some j) k = Some j

abbrev pub last_of : List Marked → Option Key
last_of os = option_map (λ (o : Marked). o.0) (find (λ (o : Marked). o.2) (reverse os))

found_more : (os : List Marked) (o : Marked) → option_map (λ (o : Marked). o.0) (find (λ (o : Marked). o.2) (os ++ o ∷ [])) ≡ or_else (option_map (λ (o : Marked). o.0) (find (λ (o : Marked). o.2) os)) (cond o.2 (Some o.0) None)
found_more [] o = one o.2
  where
    one : (b : Bool) → option_map (λ (o : Marked). o.0) (cond b (Some o) None) ≡ cond b (Some o.0) None
    one true = refl
    one false = refl
found_more (x ∷ os) o = go (found_more os o) x.2
  where
    go : option_map (λ (o : Marked). o.0) (find (λ (o : Marked). o.2) (os ++ o ∷ [])) ≡ or_else (option_map (λ (o : Marked). o.0) (find (λ (o : Marked). o.2) os)) (cond o.2 (Some o.0) None) → (b : Bool)
        → option_map (λ (o : Marked). o.0) (cond b (Some x) (find (λ (o : Marked). o.2) (os ++ o ∷ []))) ≡ or_else (option_map (λ (o : Marked). o.0) (cond b (Some x) (find (λ (o : Marked). o.2) os))) (cond o.2 (Some o.0) None)
    go rest true = refl
    go rest false = rest

latest_or : (last : Option Key) (os : List Marked) → latest last os ≡ or_else (last_of os) last
latest_or last [] = refl
latest_or last (o ∷ os) =
    latest_or (cond o.2 (Some o.0) last) os
    ∙ go o.2 (last_of os)
    ∙ ap (λ (k : Option Key). or_else k last) (sym (ap (λ (xs : List Marked). option_map (λ (o : Marked). o.0) (find (λ (o : Marked). o.2) xs)) (reverse-append (o ∷ []) os) ∙ found_more (reverse os) o))
  where
    go : (b : Bool) (k : Option Key) → or_else k (cond b (Some o.0) last) ≡ or_else (or_else k (cond b (Some o.0) None)) last
    go true None = refl
    go false None = refl
    go b (Some j) = refl

pub latest_last : (os : List Marked) → latest None os ≡ last_of os
latest_last os = latest_or None os ∙ go (last_of os)
  where
    go : (k : Option Key) → or_else k None ≡ k
    go None = refl
    go (Some j) = refl
