-- What the reader of pages gives can be opened as a sound page.
use Rattle.std.proofs.Common.{◌≡◌, ℕ, zero, suc, ◌+◌, ◌-◌, ◌<◌, ◌≤◌, Bool, true, false, ◌⊎◌, inl, inr, List, [], ◌∷◌, ◌++◌, length, Option, Some, None, refl, sym, ap, ◌∙◌, subst, arith, append_assoc, append-nil, length-append, codes}
use Rattle.std.specs.Prelude.{reverse}
use Rattle.std.specs.List.{All, enumerate_from, slice_get, slice_index}
use Rattle.std.specs.Option.{option_map}
use Rattle.std.proofs.Math.Seq.{get_or-append_seam}
use Rattle.std.proofs.lemmas.Bool.Decides.{nat_tests}
use Rattle.std.proofs.lemmas.Bool.{cases_lt}
use Rattle.std.proofs.lemmas.List.{get_or_append_left, length-map, reverse-append}
use Rattle.std.proofs.lemmas.List.Elements.{All-get_or, All-cons, All-head, All-nil, All-tail}
use Rattle.std.proofs.lemmas.List.FromFn.{length-enumerate_from}
use Rattle.form_types.specs.TypeTable.{names_email}
use Rattle.form_tree.specs.declared.node.Key.{Key}
use Rattle.form_tree.specs.declared.node.Node.{Node}
use Rattle.form_tree.specs.declared.node.Raw.{Raw}
use Rattle.form_tree.specs.declared.node.Tag.{Tag}
use Rattle.form_tree.specs.declared.node.Tag.TheVariants as tags
use Rattle.form_tree.specs.Elements.{is_input_tag}
use Rattle.form_tree.specs.Ownership.{above, ancestors}
use Rattle.form_tree.specs.Tree.{Nodes, IsTreeOfRaws, attr_in, first_key, is_key, node_of_raw, nodes_of_raws, parent_of}
use Rattle.form_tree.proofs.Ancestors.{above_top}
use Rattle.form_tree.proofs.FirstKeys.{numbered}
use Rattle.form_markup.specs.Faults.{is_email}
use Rattle.form_markup.specs.Limits.{HoldsNoEmail, IsWithinLimits, depth_under, depths_behind, depths_of, parents_of}
use Rattle.form_markup.specs.declared.TheConstants.{MOST_DEPTH}
use Rattle.form_changes.specs.declared.TheConstants.{MOST_ATTRIBUTES}
use Rattle.form_acts.specs.Soundness.{IsAllowed, IsOpenable, most_depth, most_elements}

-- ---- how many are met on the way up is the depth

-- from the element of each place before the end, as many are met on the way up as it is deep
abbrev AreDepths : Nodes → List ℕ → Type 0
AreDepths turned depths = (place : ℕ) → place < length depths → length (above turned (Some (first_key place))) ≡ slice_index depths place

-- the next element, whose parent stands before it
depths_next : (turned : Nodes) (depths : List ℕ) (raw : Raw) → AreDepths turned depths → ((p : ℕ) → raw.parent ≡ Some p → p < length depths)
    → AreDepths (node_of_raw (length depths) raw ∷ turned) (depths ++ (depth_under depths raw.parent ∷ []))
depths_next turned depths raw are there place below = go (cases_lt place (length depths))
  where
    up : (o : Option ℕ) → ((p : ℕ) → o ≡ Some p → p < length depths) → suc (length (above turned (option_map first_key o))) ≡ depth_under depths o
    up None before = ap (λ (ns : Nodes). suc (length ns)) (above_top turned)
    up (Some p) before = ap suc (are p (before p refl))

    go : (place < length depths) ⊎ (length depths ≤ place) → length (above (node_of_raw (length depths) raw ∷ turned) (Some (first_key place))) ≡ slice_index (depths ++ (depth_under depths raw.parent ∷ [])) place
    go (inl l) =
        let apart : is_key (first_key place) (node_of_raw (length depths) raw) ≡ false = grind (arith, nat_tests) in
        rw apart (are place l ∙ sym (get_or_append_left depths (depth_under depths raw.parent ∷ []) 0 place l))
    go (inr g) =
        let size : length (depths ++ (depth_under depths raw.parent ∷ [])) ≡ length depths + 1 = length-append depths (depth_under depths raw.parent ∷ []) in
        let last : place ≡ length depths = omega arith in
        let here : is_key (first_key place) (node_of_raw (length depths) raw) ≡ true = grind (arith, nat_tests) in
        let seam : slice_index (depths ++ (depth_under depths raw.parent ∷ [])) (length depths) ≡ depth_under depths raw.parent = get_or-append_seam depths (depth_under depths raw.parent) [] 0 in
        rw here (up raw.parent there ∙ sym seam ∙ ap (slice_index (depths ++ (depth_under depths raw.parent ∷ []))) (sym last))

-- all elements behind those
depths_all : (raws : List Raw) (turned : Nodes) (depths : List ℕ) → AreDepths turned depths → ((i p : ℕ) → slice_get (parents_of raws) i ≡ Some (Some p) → p < length depths + i)
    → AreDepths (reverse (numbered (length depths) raws) ++ turned) (depths ++ depths_behind depths (parents_of raws))
depths_all [] turned depths are there = subst (AreDepths turned) (sym (append-nil depths)) are
depths_all (raw ∷ raws) turned depths are there =
    let deep : ℕ = depth_under depths raw.parent in
    let node : Node = node_of_raw (length depths) raw in
    let more : List ℕ = depths ++ (deep ∷ []) in
    let size : length more ≡ length depths + 1 = length-append depths (deep ∷ []) in
    let next = depths_next turned depths raw are (λ p is. let before = there 0 p (ap (λ (o : Option ℕ). Some o) is) in omega arith) in
    let rest = depths_all raws (node ∷ turned) more next (λ i p is. let before = there (suc i) p is in omega arith) in
    let shown : reverse (numbered (length more) raws) ++ (node ∷ turned) ≡ reverse (node ∷ numbered (length depths + 1) raws) ++ turned =
    rw (size, reverse-append (node ∷ []) (numbered (length depths + 1) raws), append_assoc (reverse (numbered (length depths + 1) raws)) (node ∷ []) turned) refl in
    subst (AreDepths (reverse (node ∷ numbered (length depths + 1) raws) ++ turned)) (append_assoc depths (deep ∷ []) (depths_behind more (parents_of raws)))
    (subst (λ (ns : Nodes). AreDepths ns (more ++ depths_behind more (parents_of raws))) shown rest)

-- an element lies one deeper than its parent
depth_at : (parents : List (Option ℕ)) (depths : List ℕ) (i p : ℕ) → slice_get parents i ≡ Some (Some p) → p < length depths + i
    → (length depths + i < length (depths ++ depths_behind depths parents)) × (slice_index (depths ++ depths_behind depths parents) (length depths + i) ≡ suc (slice_index (depths ++ depths_behind depths parents) p))
depth_at [] depths i p is below = absurd (cc)
depth_at (parent ∷ parents) depths zero p is below =
    let deep : ℕ = depth_under depths parent in
    let rest : List ℕ = depths_behind (depths ++ (deep ∷ [])) parents in
    let under : deep ≡ suc (slice_index depths p) = let same : parent ≡ Some p = cc in ap (depth_under depths) same in
    let seam : slice_index (depths ++ (deep ∷ rest)) (length depths) ≡ deep = get_or-append_seam depths deep rest 0 in
    let left : slice_index (depths ++ (deep ∷ rest)) p ≡ slice_index depths p = get_or_append_left depths (deep ∷ rest) 0 p (omega arith) in
    let size : length (depths ++ (deep ∷ rest)) ≡ length depths + suc (length rest) = length-append depths (deep ∷ rest) in
    let here : length depths + 0 ≡ length depths = omega arith in (
      omega arith,
      ap (slice_index (depths ++ (deep ∷ rest))) here ∙ seam ∙ under ∙ ap suc (sym left),
    )
depth_at (parent ∷ parents) depths (suc i) p is below =
    let deep : ℕ = depth_under depths parent in
    let more : List ℕ = depths ++ (deep ∷ []) in
    let size : length more ≡ length depths + 1 = length-append depths (deep ∷ []) in
    let step : length more + i ≡ length depths + suc i = omega arith in
    let later = depth_at parents more i p is (omega arith) in
    let joined : more ++ depths_behind more parents ≡ depths ++ (deep ∷ depths_behind more parents) = append_assoc depths (deep ∷ []) (depths_behind more parents) in
    let found : (length more + i < length (depths ++ (deep ∷ depths_behind more parents))) × (slice_index (depths ++ (deep ∷ depths_behind more parents)) (length more + i) ≡ suc (slice_index (depths ++ (deep ∷ depths_behind more parents)) p)) =
    subst (λ (all : List ℕ). (length more + i < length all) × (slice_index all (length more + i) ≡ suc (slice_index all p))) joined later in
    subst (λ (n : ℕ). (n < length (depths ++ (deep ∷ depths_behind more parents))) × (slice_index (depths ++ (deep ∷ depths_behind more parents)) n ≡ suc (slice_index (depths ++ (deep ∷ depths_behind more parents)) p))) step found

-- the parent of an element of the page is that of a raw
abbrev ParentFound : Nodes → List (Option ℕ) → Key → Type 0
ParentFound ns parents k = (parent_of ns k ≡ None) ⊎ ((i : ℕ) × (p : ℕ) × (slice_get parents i ≡ Some (Some p)) × (parent_of ns k ≡ Some (first_key p)))

parent_found : (n : ℕ) (raws : List Raw) (k : Key) → ParentFound (numbered n raws) (parents_of raws) k
parent_found n [] k = inl refl
parent_found n (raw ∷ raws) k = go (parent_found (n + 1) raws k) (is_key k (node_of_raw n raw)) refl
  where
    here : is_key k (node_of_raw n raw) ≡ true → (o : Option ℕ) → raw.parent ≡ o → ParentFound (numbered n (raw ∷ raws)) (parents_of (raw ∷ raws)) k
    here same None is = inl (rw (same, is) refl)
    here same (Some p) is = inr (0, p, ap (λ (o : Option ℕ). Some o) is, rw (same, is) refl)

    later : is_key k (node_of_raw n raw) ≡ false → ParentFound (numbered (n + 1) raws) (parents_of raws) k → ParentFound (numbered n (raw ∷ raws)) (parents_of (raw ∷ raws)) k
    later apart (inl none) = inl (rw apart none)
    later apart (inr found) = inr (suc found.0, found.1, found.2, rw apart found.3)

    go : ParentFound (numbered (n + 1) raws) (parents_of raws) k → (b : Bool) → is_key k (node_of_raw n raw) ≡ b → ParentFound (numbered n (raw ∷ raws)) (parents_of (raw ∷ raws)) k
    go found true same = here same raw.parent refl
    go found false apart = later apart found

shallow : (raws : List Raw) → IsTreeOfRaws raws → IsWithinLimits [] raws → (k : Key) → length (ancestors (nodes_of_raws raws) k) ≤ most_depth - 1
shallow raws tree limits k = go (parent_found 0 raws k)
  where
    ns : Nodes
    ns = nodes_of_raws raws

    at_top : length (above (reverse ns) None) ≤ most_depth - 1
    at_top = let none : length (above (reverse ns) None) ≡ 0 = ap (λ (xs : Nodes). length xs) (above_top (reverse ns)) in omega arith

    under : (i p : ℕ) → slice_get (parents_of raws) i ≡ Some (Some p) → length (above (reverse ns) (Some (first_key p))) ≤ most_depth - 1
    under i p is =
        let before : p < i = tree.in_order.before i p is in
        let deeper = depth_at (parents_of raws) [] i p is (omega arith) in
        let within : i < length (depths_of raws) = omega (arith, deeper.0) in
        let fits = All-get_or (λ (depth : ℕ). 0 + depth ≤ MOST_DEPTH) (depths_of raws) i 0 within limits.depth in
        let deep : slice_index (depths_of raws) i ≡ suc (slice_index (depths_of raws) p) = ap (slice_index (depths_of raws)) (let same : i ≡ 0 + i = omega arith in same) ∙ deeper.1 in
        let met = depths_all raws [] [] (λ place below. absurd (omega arith)) (λ j q at. let first = tree.in_order.before j q at in omega arith) p (omega arith) in
        let shown : length (above (reverse ns) (Some (first_key p))) ≡ slice_index (depths_of raws) p = subst (λ (xs : Nodes). length (above xs (Some (first_key p))) ≡ slice_index (depths_of raws) p) (append-nil (reverse ns)) met in
        omega arith

    go : ParentFound ns (parents_of raws) k → length (above (reverse ns) (parent_of ns k)) ≤ most_depth - 1
    go (inl none) = rw none at_top
    go (inr found) = rw found.3 (under found.0 found.1 found.2)

-- ---- each element

-- an input that is not of the type email
no_email : (raw : Raw) → is_email raw.tag raw.attrs ≡ false → is_input_tag raw.tag ≡ true → names_email (attr_in raw.attrs (codes "type")) ≡ false
no_email raw h input = go raw.tag h input
  where
    go : (tag : Tag) → is_email tag raw.attrs ≡ false → is_input_tag tag ≡ true → names_email (attr_in raw.attrs (codes "type")) ≡ false
    go tags.Input h input = h
    go tags.Form h input = absurd (cc)
    go tags.Fieldset h input = absurd (cc)
    go tags.Legend h input = absurd (cc)
    go tags.Select h input = absurd (cc)
    go tags.Optgroup h input = absurd (cc)
    go tags.Choice h input = absurd (cc)
    go tags.Textarea h input = absurd (cc)
    go tags.Button h input = absurd (cc)
    go tags.Datalist h input = absurd (cc)
    go tags.Other h input = absurd (cc)

all_allowed : (raws : List Raw) → All (λ (raw : Raw). length raw.attrs ≤ MOST_ATTRIBUTES) raws → HoldsNoEmail raws → All IsAllowed raws
all_allowed [] few email = All-nil IsAllowed
all_allowed (raw ∷ raws) few email =
    All-cons IsAllowed raw raws (record {
      attributes = All-head (λ (x : Raw). length x.attrs ≤ MOST_ATTRIBUTES) raw raws few;
      email = no_email raw (All-head (λ (x : Raw). is_email x.tag x.attrs ≡ false) raw raws email);
    })
    (all_allowed raws (All-tail (λ (x : Raw). length x.attrs ≤ MOST_ATTRIBUTES) raw raws few) (All-tail (λ (x : Raw). is_email x.tag x.attrs ≡ false) raw raws email))

-- ---- the law

pub openable_read : (raws : List Raw) → IsTreeOfRaws raws → IsWithinLimits [] raws → HoldsNoEmail raws → IsOpenable raws
openable_read raws tree limits email = record {
  tree = tree;
  elements = let size : length (nodes_of_raws raws) ≡ length raws = length-map (enumerate_from 0 raws) (λ (entry : ℕ × Raw). node_of_raw entry.0 entry.1) ∙ length-enumerate_from 0 raws in subst (λ (n : ℕ). n ≤ most_elements) (sym size) limits.elements;
  depth = shallow raws tree limits;
  allowed = all_allowed raws limits.attributes email;
}
