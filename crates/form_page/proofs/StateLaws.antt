-- States that are put into the elements of a page, place by place.
use Rattle.std.proofs.Common.{◌≡◌, ℕ, zero, suc, List, [], ◌∷◌, ◌++◌, length, map, set, Option, Some, None, IsSome, refl, sym, ap, ◌∙◌, subst, arith}
use Rattle.std.specs.List.{slice_get}
use Rattle.std.proofs.lemmas.Option.{none-some, same_Some, get_or_from_slice_get}
use Rattle.form_tree.specs.declared.node.Key.{Key}
use Rattle.form_tree.specs.declared.node.Node.{Node}
use Rattle.form_tree.specs.declared.node.State.{State}
use Rattle.form_tree.specs.Tree.{Nodes, IsTree, Tree, key_at, place_of, with_state}
use Rattle.form_tree.proofs.Laws.{at_place, key_found}
use Rattle.form_tree.proofs.Writes.{wrote}
use Rattle.form_page.specs.Opening.{is_outdone, settled_radios_of, unchecked_if, with_state_if}
use Rattle.form_page.specs.States.{outdone_of, unchecked_by, with_state_at, with_states}

none_left : (ns : Nodes) → with_states ns [] ≡ ns
none_left [] = refl
none_left (n ∷ ns) = refl

-- the last state goes to its place
pub with_states_last : (ns : Nodes) (states : List (Option State)) (state : Option State) → with_states ns (states ++ state ∷ []) ≡ with_states (with_state_at ns (length states) state) states
with_states_last [] states state = refl
with_states_last (n ∷ ns) [] state = ap (λ (rest : Nodes). with_state_if state n ∷ rest) (none_left ns)
with_states_last (n ∷ ns) (s ∷ states) state = ap (λ (rest : Nodes). with_state_if s n ∷ rest) (with_states_last ns states state)

pub without_state : (ns : Nodes) (place : ℕ) → with_state_at ns place None ≡ ns
without_state [] place = refl
without_state (n ∷ ns) zero = refl
without_state (n ∷ ns) (suc place) = ap (λ (rest : Nodes). n ∷ rest) (without_state ns place)

pub past_the_end : (ns : Nodes) (place : ℕ) (state : Option State) → None ≡ key_at ns place → with_state_at ns place state ≡ ns
past_the_end [] place state none = refl
past_the_end (n ∷ ns) zero state none = absurd (none-some n.key none)
past_the_end (n ∷ ns) (suc place) state none = ap (λ (rest : Nodes). n ∷ rest) (past_the_end ns place state none)

-- one element with another state
abbrev own : State → Node → Node
own state n = record n { state = state }

set_there : (ns : Nodes) (place : ℕ) (n : Node) (state : State) → slice_get ns place ≡ Some n → with_state_at ns place (Some state) ≡ set ns place (own state n)
set_there [] place n state found = refl
set_there (m ∷ ns) zero n state found = ap (λ (x : Node). own state x ∷ ns) (same_Some m n found)
set_there (m ∷ ns) (suc place) n state found = ap (λ (rest : Nodes). m ∷ rest) (set_there ns place n state found)

pub state_written : (ns : Nodes) → IsTree ns → (place : ℕ) (k : Key) (state : State) → Some k ≡ key_at ns place → with_state ns k state ≡ with_state_at ns place (Some state)
state_written ns tree place k state told =
    let met = key_found ns place k told in
    let n = met.0 in
    let placed = (at_place ns tree place n met.1).1 in
    sym (set_there ns place n state met.1
    ∙ wrote ns tree n.key place placed n (sym (get_or_from_slice_get ns place n n met.1)) (own state) (own state n) refl
    ∙ ap (λ (q : Key). with_state ns q state) met.2)

-- states that are made of the elements themselves
pub with_states_map : (f : Node → Option State) (ns : Nodes) → with_states ns (map f ns) ≡ map (λ n. with_state_if (f n) n) ns
with_states_map f [] = refl
with_states_map f (n ∷ ns) = ap (λ (rest : Nodes). with_state_if (f n) n ∷ rest) (with_states_map f ns)

-- the marked ones unchecked
pub radios_unchecked : (ns xs : Nodes) → with_states xs (unchecked_by xs (outdone_of ns xs)) ≡ settled_radios_of ns xs
radios_unchecked ns [] = refl
radios_unchecked ns (n ∷ xs) = ap (λ (rest : Nodes). with_state_if (unchecked_if (is_outdone ns n xs) n) n ∷ rest) (radios_unchecked ns xs)

-- a key that stands at a place has a place
pub key_placed : (ns : Nodes) → IsTree ns → (place : ℕ) (k : Key) → Some k ≡ key_at ns place → IsSome (place_of ns k)
key_placed ns tree place k told =
    let met = key_found ns place k told in
    let placed : place_of ns k ≡ Some place = ap (place_of ns) (sym met.2) ∙ (at_place ns tree place met.0 met.1).1 in
    subst (λ (o : Option ℕ). IsSome o) (sym placed) refl

-- ---- states that are left

pub put_step : (tree next : Tree) (states left : List (Option State)) (state : Option State) (place : ℕ) → states ≡ left ++ state ∷ [] → place ≡ length left → next ≡ record tree { nodes = with_state_at tree.nodes place state }
    → record next { nodes = with_states next.nodes left } ≡ record tree { nodes = with_states tree.nodes states }
put_step tree next states left state place pushed here made =
    ap (λ (t : Tree). record t { nodes = with_states t.nodes left }) made
    ∙ ap (λ (ns : Nodes). record tree { nodes = ns })
    (ap (λ (p : ℕ). with_states (with_state_at tree.nodes p state) left) here ∙ sym (with_states_last tree.nodes left state) ∙ ap (with_states tree.nodes) (sym pushed))

pub all_put : (tree : Tree) (states : List (Option State)) → length states ≡ 0 → tree ≡ record tree { nodes = with_states tree.nodes states }
all_put tree [] none = ap (λ (ns : Nodes). record tree { nodes = ns }) (sym (none_left tree.nodes))
all_put tree (s ∷ states) none = absurd (omega (arith, none))
