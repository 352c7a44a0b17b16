-- Lists of elements whose keys differ: the element at a place is the element of its key.
use Rattle.std.proofs.Common.{◌≡◌, ℕ, zero, suc, ◌<◌, Bool, true, false, cond, [], ◌∷◌, length, get_or, Some, refl, sym, arith}
use Rattle.form_tree.proofs.Laws.{key_same, same_key-refl}
use Rattle.form_tree.proofs.Places.{keys_apart}
use Rattle.form_tree.specs.Elements.{same_key}
use Rattle.form_tree.specs.Tree.{IsTree, Nodes, at_key}
use Rattle.form_tree.specs.declared.node.Node.{Node}

abbrev pub KeysDiffer : Nodes → Type 0
KeysDiffer t = (i j : ℕ) (d : Node) → i < j → j < length t → (get_or t i d).key ≡ (get_or t j d).key → ⊥

pub keys_differ : (t : Nodes) → IsTree t → KeysDiffer t
keys_differ t tree i j d lower below same = keys_apart t tree.shape i j d lower below same

pub behind : (n : Node) (t : Nodes) → KeysDiffer (n ∷ t) → KeysDiffer t
behind n t differ i j d lower below same = differ (suc i) (suc j) d (omega arith) (omega arith) same

-- the node at a place is the node of its key
pub at_place : (t : Nodes) → KeysDiffer t → (i : ℕ) (d : Node) → i < length t → at_key t (get_or t i d).key ≡ Some (get_or t i d)
at_place [] differ i d below = absurd (omega arith)
at_place (n ∷ t) differ zero d below = rw (same_key-refl n.key) refl
at_place (n ∷ t) differ (suc i) d below = go (at_place t (behind n t differ) i d (omega arith)) (same_key (get_or t i d).key n.key) refl
  where
    go : at_key t (get_or t i d).key ≡ Some (get_or t i d) → (b : Bool) → same_key (get_or t i d).key n.key ≡ b → cond b (Some n) (at_key t (get_or t i d).key) ≡ Some (get_or t i d)
    go more true e = absurd (differ 0 (suc i) d (omega arith) (omega arith) (sym (key_same _ _ e)))
    go more false e = more
