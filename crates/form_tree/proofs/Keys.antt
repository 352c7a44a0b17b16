-- Keys, and what stands at them.
use Rattle.std.proofs.Common.{◌≡◌, Bool, true, false, cond, List, [], ◌∷◌, Option, Some, None, refl, sym, ap, subst, arith}
use Rattle.std.specs.List.{find}
use Rattle.std.specs.Option.{option_map_or}
use Rattle.std.proofs.lemmas.Bool.{eqb-true, cond_both}
use Rattle.std.proofs.lemmas.Bool.Decides.{nat_tests}
use Rattle.std.proofs.lemmas.Option.{none-some, same_Some}
use Rattle.form_tree.specs.declared.node.Key.{Key}
use Rattle.form_tree.specs.declared.node.Node.{Node}
use Rattle.form_tree.specs.Tree.{Nodes, is_key, at_key}
use Rattle.form_tree.specs.Elements.{passes, same_key}
use Rattle.form_tree.proofs.Images.{KeepsElements}

pub key_same : (j k : Key) → same_key j k ≡ true → j ≡ k
key_same j k same = ap (λ n. record { 0 = n }) (eqb-true j.0 k.0 same)

pub same_key-refl : (k : Key) → same_key k k ≡ true
same_key-refl k = grind (arith, nat_tests)

pub same_key-sym : (j k : Key) → same_key j k ≡ same_key k j
same_key-sym j k = grind (arith, nat_tests)

-- what was found passes the test
pub found_passes : {X : Type 0} (p : X → Bool) (xs : List X) (x : X) → find p xs ≡ Some x → p x ≡ true
found_passes p [] x found = absurd (none-some x found)
found_passes {X} p (y ∷ xs) x found = go (found_passes p xs x) (p y) refl found
  where
    go : (find p xs ≡ Some x → p x ≡ true) → (b : Bool) → p y ≡ b → cond b (Some y) (find p xs) ≡ Some x → p x ≡ true
    go more true e h = subst (λ (z : X). p z ≡ true) (same_Some y x h) e
    go more false e h = more h

pub found_key : (t : Nodes) (k : Key) (n : Node) → at_key t k ≡ Some n → n.key ≡ k
found_key t k n found = sym (key_same k n.key (found_passes (is_key k) t n found))

-- a change where a test passes keeps what the change keeps
pub keeps_where : (test : Node → Bool) (f : Node → Node) → KeepsElements f → KeepsElements (λ n. cond (test n) (f n) n)
keeps_where test f keeps = record {
  key = λ n. cond_both (test n) (f n) n (λ m. m.key ≡ n.key) (λ _. keeps.key n) (λ _. refl);
  parent = λ n. cond_both (test n) (f n) n (λ m. m.parent ≡ n.parent) (λ _. keeps.parent n) (λ _. refl);
  tag = λ n. cond_both (test n) (f n) n (λ m. m.tag ≡ n.tag) (λ _. keeps.tag n) (λ _. refl);
  attrs = λ n. cond_both (test n) (f n) n (λ m. m.attrs ≡ n.attrs) (λ _. keeps.attrs n) (λ _. refl);
}

-- what passes at a key, with the element that is there
pub passes_there : (test : Node → Bool) (t : Nodes) (k : Key) → passes test t k ≡ true → (n : Node) × (at_key t k ≡ Some n) × (test n ≡ true)
passes_there test t k holds = go (at_key t k) refl holds
  where
    go : (o : Option Node) → at_key t k ≡ o → option_map_or test o false ≡ true → (n : Node) × (at_key t k ≡ Some n) × (test n ≡ true)
    go None found h = absurd (cc)
    go (Some n) found h = (n, found, h)

pub passes_found : (test : Node → Bool) (t : Nodes) (k : Key) (n : Node) → at_key t k ≡ Some n → passes test t k ≡ test n
passes_found test t k n found = ap (λ (o : Option Node). option_map_or test o false) found
