-- A mark that at most one of each group bears: checked in a radio button group, selected in a
-- select. What keeps it so, whatever the groups are.
use Rattle.std.proofs.Common.{◌≡◌, Bool, true, false, not, ◌&&◌, ◌||◌, cond, List, [], ◌∷◌, map, Option, Some, None, inl, inr, ◌⊎◌, refl, sym, ap, ◌∙◌, subst}
use Rattle.std.specs.List.{fold}
use Rattle.std.specs.Option.{option_map, option_map_or}
use Rattle.std.proofs.lemmas.Bool.{and_from, both_ways, not_from_false}
use Rattle.form_page.specs.Settling.{changed_but}
use Rattle.form_tree.proofs.Laws.{KeepsElements, at_key_map, found_key, keeps_where, key_same, passes_found, same_key-sym}
use Rattle.form_tree.specs.Elements.{is_among, passes, same_key}
use Rattle.form_tree.specs.Tree.{Nodes, at_key, is_key, with_node}
use Rattle.form_tree.specs.declared.node.Key.{Key}
use Rattle.form_tree.specs.declared.node.Node.{Node}

-- Of two that are in one group at most one is marked, but where one of them is spared.
abbrev pub OneMarkedBut : (Nodes → Key → Key → Bool) → (Node → Bool) → (Key → Bool) → Nodes → Type 0
OneMarkedBut shares mark spared t =
    (j k : Key) → shares t j k ≡ true → same_key j k ≡ false → passes mark t j ≡ true → passes mark t k ≡ true → (spared j || spared k) ≡ true

abbrev pub nobody : Key → Bool
nobody k = false

abbrev pub anybody : Key → Bool
anybody k = true

abbrev pub OneMarked : (Nodes → Key → Key → Bool) → (Node → Bool) → Nodes → Type 0
OneMarked shares mark t = OneMarkedBut shares mark nobody t

-- a relation that groups elements by what they are, and a change that takes the mark away
pub record IsMarking (shares : Nodes → Key → Key → Bool) (mark : Node → Bool) (clear : Node → Node) : Type 0 where
  pub symmetric : (t : Nodes) (j k : Key) → shares t j k ≡ true → shares t k j ≡ true
  pub kept : (f : Node → Node) → KeepsElements f → (t : Nodes) (j k : Key) → shares (map f t) j k ≡ shares t j k
  pub keeps : KeepsElements clear
  pub clears : (n : Node) → mark (clear n) ≡ false

module _ (shares : Nodes → Key → Key → Bool) (mark : Node → Bool) (clear : Node → Node) (marking : IsMarking shares mark clear) where
  -- a change that marks nobody keeps it
  pub fewer : (f : Node → Node) → KeepsElements f → ((n : Node) → mark (f n) ≡ true → mark n ≡ true) → (spared : Key → Bool) (t : Nodes) → OneMarkedBut shares mark spared t → OneMarkedBut shares mark spared (map f t)
  fewer f keeps less spared t one j k shared differ mj mk = one j k (sym (marking.kept f keeps t j k) ∙ shared) differ (was j mj) (was k mk)
    where
      was : (i : Key) → passes mark (map f t) i ≡ true → passes mark t i ≡ true
      was i holds = go (at_key t i) refl (sym (ap (λ (o : Option Node). option_map_or mark o false) (at_key_map f keeps t i)) ∙ holds)
        where
          go : (o : Option Node) → at_key t i ≡ o → option_map_or mark (option_map f o) false ≡ true → passes mark t i ≡ true
          go None found h = absurd (cc)
          go (Some n) found h = passes_found mark t i n found ∙ less n h

  -- who is marked after a change where a test passes was marked before, and fails the test
  still_marked : (test : Node → Bool) (t : Nodes) (j : Key) → passes mark (map (λ n. cond (test n) (clear n) n) t) j ≡ true → (n : Node) × (at_key t j ≡ Some n) × (mark n ≡ true) × (test n ≡ false)
  still_marked test t j holds = go (at_key t j) refl (sym (ap (λ (o : Option Node). option_map_or mark o false) (at_key_map (λ n. cond (test n) (clear n) n) (keeps_where test clear marking.keeps) t j)) ∙ holds)
    where
      here : (n : Node) (b : Bool) → test n ≡ b → mark (cond b (clear n) n) ≡ true → (mark n ≡ true) × (test n ≡ false)
      here n true passed h = absurd (both_ways (mark (clear n)) (marking.clears n) h)
      here n false failed h = (h, failed)

      go : (o : Option Node) → at_key t j ≡ o → option_map_or mark (option_map (λ n. cond (test n) (clear n) n) o) false ≡ true → (n : Node) × (at_key t j ≡ Some n) × (mark n ≡ true) × (test n ≡ false)
      go None found h = absurd (cc)
      go (Some n) found h = let parts = here n (test n) refl h in (n, found, parts.0, parts.1)

  -- the same of all of a group but one
  pub kept_marks : (group : Key → Bool) (k : Key) (t : Nodes) (j : Key) → passes mark (changed_but clear group k t) j ≡ true → (passes mark t j ≡ true) × ((group j && not (same_key k j)) ≡ false)
  kept_marks group k t j holds =
      let there = still_marked (λ n. group n.key && not (is_key k n)) t j holds in
      let at : there.0.key ≡ j = found_key t j there.0 there.1 in
      (passes_found mark t j there.0 there.1 ∙ there.2, subst (λ (i : Key). (group i && not (same_key k i)) ≡ false) at there.3)

  -- The one that is taken takes the mark from the others of its group: it is spared no more.
  pub taken : (t : Nodes) (k : Key) (ks : List Key) → OneMarkedBut shares mark (is_among (k ∷ ks)) t → OneMarkedBut shares mark (is_among ks) (changed_but clear (shares t k) k t)
  taken t k ks one j l shared differ mj ml =
      let before : shares t j l ≡ true = sym (marking.kept _ (keeps_where (λ n. shares t k n.key && not (is_key k n)) clear marking.keeps) t j l) ∙ shared in
      let kj = kept_marks (shares t k) k t j mj in
      let kl = kept_marks (shares t k) k t l ml in
      cases (same_key j k) refl (same_key l k) refl before kj.1 kl.1 (one j l before differ kj.0 kl.0)
    where
      -- the other of its group would have lost the mark
      lost : (i : Key) → shares t k i ≡ true → same_key k i ≡ false → (shares t k i && not (same_key k i)) ≡ false → ⊥
      lost i grouped other kept = both_ways _ kept (and_from _ _ grouped (not_from_false _ other))

      cases : (a : Bool) → same_key j k ≡ a → (b : Bool) → same_key l k ≡ b → shares t j l ≡ true → (shares t k j && not (same_key k j)) ≡ false → (shares t k l && not (same_key k l)) ≡ false → ((same_key j k || is_among ks j) || (same_key l k || is_among ks l)) ≡ true → (is_among ks j || is_among ks l) ≡ true
      cases true e b f both kj kl listed =
          let at : j ≡ k = key_same j k e in
          absurd (lost l (subst (λ (i : Key). shares t i l ≡ true) at both) (subst (λ (i : Key). same_key i l ≡ false) at differ) kl)
      cases false e true f both kj kl listed =
          let at : l ≡ k = key_same l k f in
          absurd (lost j (subst (λ (i : Key). shares t i j ≡ true) at (marking.symmetric t j l both)) (subst (λ (i : Key). same_key i j ≡ false) at (same_key-sym l j ∙ differ)) kj)
      cases false e false f both kj kl listed = rw (e, f) at listed

  -- one that is not marked need not be taken
  pub passed_by : (t : Nodes) (k : Key) (ks : List Key) → passes mark t k ≡ false → OneMarkedBut shares mark (is_among (k ∷ ks)) t → OneMarkedBut shares mark (is_among ks) t
  passed_by t k ks bare one j l shared differ mj ml = cases (same_key j k) refl (same_key l k) refl (one j l shared differ mj ml)
    where
      not_it : (i : Key) → same_key i k ≡ true → passes mark t i ≡ true → ⊥
      not_it i e m = both_ways (passes mark t k) bare (subst (λ (i : Key). passes mark t i ≡ true) (key_same i k e) m)

      cases : (a : Bool) → same_key j k ≡ a → (b : Bool) → same_key l k ≡ b → ((same_key j k || is_among ks j) || (same_key l k || is_among ks l)) ≡ true → (is_among ks j || is_among ks l) ≡ true
      cases true e b f listed = absurd (not_it j e mj)
      cases false e true f listed = absurd (not_it l f ml)
      cases false e false f listed = rw (e, f) at listed

  -- one key of a list
  abbrev pub step : Nodes → Key → Nodes
  step t k = cond (passes mark t k) (changed_but clear (shares t k) k t) t

  -- After all of a list were taken in order, at most one of each group is marked.
  pub settled : (t : Nodes) (ks : List Key) → OneMarkedBut shares mark (is_among ks) t → OneMarked shares mark (fold step t ks)
  settled t [] one = one
  settled t (k ∷ ks) one = settled (step t k) ks (go (passes mark t k) refl)
    where
      go : (b : Bool) → passes mark t k ≡ b → OneMarkedBut shares mark (is_among ks) (cond b (changed_but clear (shares t k) k t) t)
      go true e = taken t k ks one
      go false e = passed_by t k ks e one

  -- a change of one element marks no other
  pub elsewhere : (f : Node → Node) → KeepsElements f → (t : Nodes) (k i : Key) → same_key i k ≡ false → passes mark (with_node t k f) i ≡ true → passes mark t i ≡ true
  elsewhere f keeps t k i other m = go (at_key t i) refl (sym (ap (λ (o : Option Node). option_map_or mark o false) (at_key_map (λ n. cond (is_key k n) (f n) n) (keeps_where (is_key k) f keeps) t i)) ∙ m)
    where
      go : (o : Option Node) → at_key t i ≡ o → option_map_or mark (option_map (λ n. cond (is_key k n) (f n) n) o) false ≡ true → passes mark t i ≡ true
      go None found h = absurd (cc)
      go (Some n) found h =
          let apart : is_key k n ≡ false = same_key-sym k n.key ∙ subst (λ (x : Key). same_key x k ≡ false) (sym (found_key t i n found)) other in
          passes_found mark t i n found ∙ (rw apart at h)

  -- A change of one element, which may mark it: that one alone is spared.
  pub raised : (f : Node → Node) → KeepsElements f → (t : Nodes) (k : Key) → OneMarked shares mark t → OneMarkedBut shares mark (is_among (k ∷ [])) (with_node t k f)
  raised f keeps t k one j l shared differ mj ml =
      let before : shares t j l ≡ true = sym (marking.kept _ (keeps_where (is_key k) f keeps) t j l) ∙ shared in
      cases (same_key j k) refl (same_key l k) refl (one j l before differ)
    where
      cases : (a : Bool) → same_key j k ≡ a → (b : Bool) → same_key l k ≡ b → (passes mark t j ≡ true → passes mark t l ≡ true → false ≡ true) → ((same_key j k || false) || (same_key l k || false)) ≡ true
      cases true e b e' none = rw e refl
      cases false e true e' none = rw (e, e') refl
      cases false e false e' none = absurd (both_ways false refl (none (elsewhere f keeps t k j e mj) (elsewhere f keeps t k l e' ml)))

  -- a change of some elements marks no other
  elsewhere_of : (spared : Key → Bool) (f : Node → Node) → KeepsElements f → (t : Nodes) (i : Key) → spared i ≡ false → passes mark (map (λ n. cond (spared n.key) (f n) n) t) i ≡ true → passes mark t i ≡ true
  elsewhere_of spared f keeps t i other m = go (at_key t i) refl (sym (ap (λ (o : Option Node). option_map_or mark o false) (at_key_map (λ n. cond (spared n.key) (f n) n) (keeps_where (λ n. spared n.key) f keeps) t i)) ∙ m)
    where
      go : (o : Option Node) → at_key t i ≡ o → option_map_or mark (option_map (λ n. cond (spared n.key) (f n) n) o) false ≡ true → passes mark t i ≡ true
      go None found h = absurd (cc)
      go (Some n) found h =
          let apart : spared n.key ≡ false = subst (λ (x : Key). spared x ≡ false) (sym (found_key t i n found)) other in
          passes_found mark t i n found ∙ (rw apart at h)

  -- A change of some elements, which may mark them: those are spared.
  pub raised_where : (spared : Key → Bool) (f : Node → Node) → KeepsElements f → (t : Nodes) → OneMarked shares mark t → OneMarkedBut shares mark spared (map (λ n. cond (spared n.key) (f n) n) t)
  raised_where spared f keeps t one j l shared differ mj ml =
      let before : shares t j l ≡ true = sym (marking.kept _ (keeps_where (λ n. spared n.key) f keeps) t j l) ∙ shared in
      cases (spared j) refl (spared l) refl (one j l before differ)
    where
      cases : (a : Bool) → spared j ≡ a → (b : Bool) → spared l ≡ b → (passes mark t j ≡ true → passes mark t l ≡ true → false ≡ true) → (a || b) ≡ true
      cases true e b e' none = refl
      cases false e true e' none = refl
      cases false e false e' none = none (elsewhere_of spared f keeps t j e mj) (elsewhere_of spared f keeps t l e' ml)

  -- A change that marks nobody and makes new groups only of spared ones.
  pub regrouped : (t u : Nodes) (ks : List Key) → ((j l : Key) → shares u j l ≡ true → (shares t j l ≡ true) ⊎ ((is_among ks j || is_among ks l) ≡ true)) → ((i : Key) → passes mark u i ≡ true → passes mark t i ≡ true) → OneMarked shares mark t → OneMarkedBut shares mark (is_among ks) u
  regrouped t u ks moved less one j l shared differ mj ml = elim (moved j l shared) [
    | inl before ↦ absurd (both_ways false refl (one j l before differ (less j mj) (less l ml)))
    | inr listed ↦ listed
  ]
