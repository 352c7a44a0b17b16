-- Opening changes states alone.
use Rattle.std.proofs.Common.{◌≡◌, ℕ, suc, ◌+◌, ◌<◌, ◌≤◌, Bool, true, false, cond, List, [], ◌∷◌, length, map, Option, Some, None, refl, sym, ap, ◌∙◌, subst, arith}
use Rattle.std.specs.List.{count_by, enumerate_from, filter}
use Rattle.std.proofs.lemmas.List.{length-map}
use Rattle.std.proofs.lemmas.List.Sums.{length-filter}
use Rattle.form_tree.specs.declared.node.Node.{Node}
use Rattle.form_tree.specs.declared.node.Raw.{Raw}
use Rattle.form_tree.specs.declared.node.State.{State}
use Rattle.form_tree.specs.Elements.{is_submittable, is_submittable_tag}
use Rattle.form_tree.specs.Tree.{Nodes, Tree, node_of_raw, nodes_of_raws, tree_of_raws}
use Rattle.form_page.specs.Opening.{is_outdone, opened_nodes, opened_tree, settled_radios_of, unchecked_if, with_first_states, with_settled_radios, with_settled_selects, with_state_if}
use Rattle.form_judge.specs.Beginning.{first_state}
use Rattle.form_select.specs.Settled.{settled_option}
use Rattle.form_page.proofs.EditLaws.{count_same, frame}

framed : (state : Option State) (n : Node) → frame (with_state_if state n) ≡ frame n
framed None n = refl
framed (Some state) n = refl

mapped : (f : Node → Option State) (ns : Nodes) → map frame (map (λ n. with_state_if (f n) n) ns) ≡ map frame ns
mapped f [] = refl
mapped f (n ∷ ns) = rw (framed (f n) n, mapped f ns) refl

radios : (all ns : Nodes) → map frame (settled_radios_of all ns) ≡ map frame ns
radios all [] = refl
radios all (n ∷ ns) = rw (framed (unchecked_if (is_outdone all n ns) n) n, radios all ns) refl

pub opened_frames : (ns : Nodes) → map frame (opened_nodes ns) ≡ map frame ns
unfolding opened_nodes
opened_frames ns =
    mapped (settled_option (with_settled_radios (with_first_states ns))) (with_settled_radios (with_first_states ns))
    ∙ radios (with_first_states ns) (with_first_states ns)
    ∙ mapped (λ n. Some (first_state n)) ns

kept_raws : (start : ℕ) (raws : List Raw) → length (filter is_submittable (map (λ (entry : ℕ × Raw). node_of_raw entry.0 entry.1) (enumerate_from start raws))) ≡ length (filter (λ (raw : Raw). is_submittable_tag raw.tag) raws)
kept_raws start [] = refl
kept_raws start (raw ∷ raws) = go (kept_raws (start + 1) raws) (is_submittable_tag raw.tag)
  where
    rest : Nodes
    rest = map (λ (entry : ℕ × Raw). node_of_raw entry.0 entry.1) (enumerate_from (start + 1) raws)

    go : length (filter is_submittable rest) ≡ length (filter (λ (raw : Raw). is_submittable_tag raw.tag) raws) → (b : Bool) → length (cond b (node_of_raw start raw ∷ filter is_submittable rest) (filter is_submittable rest)) ≡ length (cond b (raw ∷ filter (λ (raw : Raw). is_submittable_tag raw.tag) raws) (filter (λ (raw : Raw). is_submittable_tag raw.tag) raws))
    go same true = ap (λ m. suc m) same
    go same false = same

pub submittable_raws : (raws : List Raw) → count_by is_submittable (opened_nodes (nodes_of_raws raws)) ≡ count_by (λ raw. is_submittable_tag raw.tag) raws
submittable_raws raws =
    count_same (nodes_of_raws raws) (opened_nodes (nodes_of_raws raws)) (opened_frames (nodes_of_raws raws))
    ∙ sym (length-filter is_submittable (nodes_of_raws raws)) ∙ kept_raws 0 raws ∙ length-filter (λ (raw : Raw). is_submittable_tag raw.tag) raws

long : (start : ℕ) (raws : List Raw) → length (map (λ (entry : ℕ × Raw). node_of_raw entry.0 entry.1) (enumerate_from start raws)) ≡ length raws
long start [] = refl
long start (raw ∷ raws) = ap (λ m. suc m) (long (start + 1) raws)

pub opened_long : (raws : List Raw) → length (opened_nodes (nodes_of_raws raws)) ≡ length raws
opened_long raws =
    sym (length-map (opened_nodes (nodes_of_raws raws)) frame) ∙ ap length (opened_frames (nodes_of_raws raws)) ∙ length-map (nodes_of_raws raws) frame ∙ long 0 raws

-- the tree that opening makes, step by step
pub opened_made : (raws : List Raw) (tree first radio select : Tree) → tree ≡ tree_of_raws raws → first ≡ record tree { nodes = with_first_states tree.nodes } → radio ≡ record first { nodes = with_settled_radios first.nodes } → select ≡ record radio { nodes = with_settled_selects radio.nodes } → select ≡ opened_tree raws
unfolding opened_nodes
opened_made raws tree first radio select is one two three =
    three
    ∙ ap (λ (t : Tree). record t { nodes = with_settled_selects t.nodes })
    (two ∙ ap (λ (t : Tree). record t { nodes = with_settled_radios t.nodes }) (one ∙ ap (λ (t : Tree). record t { nodes = with_first_states t.nodes }) is))

pub opened_few : (raws : List Raw) (tree : Tree) (most : ℕ) → tree ≡ opened_tree raws → length raws < most → length tree.nodes < most
opened_few raws tree most is few =
    let same : length tree.nodes ≡ length raws = ap (λ (t : Tree). length t.nodes) is ∙ opened_long raws in
    omega (arith, same, few)

pub opened_bound : (raws : List Raw) (tree : Tree) (start after : ℕ) → tree ≡ opened_tree raws → after ≤ start + count_by is_submittable tree.nodes → after ≤ start + count_by (λ raw. is_submittable_tag raw.tag) raws
opened_bound raws tree start after is bound =
    subst (λ (n : ℕ). after ≤ start + n) (ap (λ (t : Tree). count_by is_submittable t.nodes) is ∙ submittable_raws raws) bound
