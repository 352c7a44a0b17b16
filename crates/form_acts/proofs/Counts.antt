-- Of each group at most one is marked, counted: the same as said of each two of them.
use Rattle.std.proofs.Common.{◌≡◌, ℕ, suc, ◌+◌, ◌<◌, ◌≤◌, Bool, true, false, ◌&&◌, cond, [], ◌∷◌, length, get_or, Some, refl, sym, ◌∙◌, subst, arith}
use Rattle.std.specs.List.{count_by, filter, find}
use Rattle.std.proofs.lemmas.Bool.{and_parts, and_from, both_ways}
use Rattle.std.proofs.lemmas.List.Sums.{length-filter}
use Rattle.std.proofs.lemmas.Option.{none-some, same_Some}
use Rattle.form_drafts.proofs.KeyPlaces.{KeysDiffer, at_place, behind, keys_differ}
use Rattle.form_acts.proofs.Marks.{OneMarked}
use Rattle.form_tree.proofs.Laws.{found_key, key_same, passes_found, passes_there, same_key-refl}
use Rattle.form_tree.specs.Elements.{passes, same_key}
use Rattle.form_tree.specs.Tree.{IsTree, Nodes, at_key, is_key}
use Rattle.form_tree.specs.declared.node.Key.{Key}
use Rattle.form_tree.specs.declared.node.Node.{Node}

-- ---- counts behind a filter

-- how many pass both tests
abbrev both : (Node → Bool) → (Node → Bool) → Nodes → ℕ
both p q t = count_by q (filter p t)

count_cons : (q : Node → Bool) (n : Node) (t : Nodes) → count_by q (n ∷ t) ≡ cond (q n) 1 0 + count_by q t
count_cons q n t = sym (length-filter q (n ∷ t)) ∙ go (q n) (length-filter q t)
  where
    go : (b : Bool) → length (filter q t) ≡ count_by q t → length (cond b (n ∷ filter q t) (filter q t)) ≡ cond b 1 0 + count_by q t
    go true long = omega (arith, long)
    go false long = omega (arith, long)

both_cons : (p q : Node → Bool) (n : Node) (t : Nodes) → both p q (n ∷ t) ≡ cond (p n && q n) 1 0 + both p q t
both_cons p q n t = go (p n)
  where
    go : (b : Bool) → count_by q (cond b (n ∷ filter p t) (filter p t)) ≡ cond (b && q n) 1 0 + both p q t
    go true = count_cons q n (filter p t)
    go false = omega arith

-- none passes both
none_both : (p q : Node → Bool) (t : Nodes) → ((i : ℕ) (d : Node) → i < length t → (p (get_or t i d) && q (get_or t i d)) ≡ true → ⊥) → both p q t ≡ 0
none_both p q [] none = refl
none_both p q (n ∷ t) none = both_cons p q n t ∙ go (p n && q n) refl (none_both p q t (λ i d below. none (suc i) d (omega arith)))
  where
    go : (b : Bool) → (p n && q n) ≡ b → both p q t ≡ 0 → cond b 1 0 + both p q t ≡ 0
    go true e zero_left = absurd (none 0 n (omega arith) e)
    go false e zero_left = omega arith

-- at most one passes both, where no two with different keys do
pub at_most_one : (p q : Node → Bool) (t : Nodes) → KeysDiffer t → ((i j : ℕ) (d : Node) → i < length t → j < length t → (p (get_or t i d) && q (get_or t i d)) ≡ true → (p (get_or t j d) && q (get_or t j d)) ≡ true → (get_or t i d).key ≡ (get_or t j d).key) → count_by q (filter p t) ≤ 1
at_most_one p q [] differ same = omega arith
at_most_one p q (n ∷ t) differ same = subst (λ (c : ℕ). c ≤ 1) (sym (both_cons p q n t)) (go (p n && q n) refl (at_most_one p q t (behind n t differ) (λ i j d bi bj hi hj. same (suc i) (suc j) d (omega arith) (omega arith) hi hj)))
  where
    go : (b : Bool) → (p n && q n) ≡ b → both p q t ≤ 1 → cond b 1 0 + both p q t ≤ 1
    go true e more =
        let none : both p q t ≡ 0 = none_both p q t (λ i d below h. differ 0 (suc i) d (omega arith) (omega arith) (same 0 (suc i) d (omega arith) (omega arith) e h)) in
        omega (arith, none)
    go false e more = omega (arith, more)

-- one that is found passes
one_both : (r p q : Node → Bool) (t : Nodes) (n : Node) → find r t ≡ Some n → (p n && q n) ≡ true → 1 ≤ both p q t
one_both r p q [] n found h = absurd (none-some n found)
one_both r p q (m ∷ t) n found h = subst (λ (c : ℕ). 1 ≤ c) (sym (both_cons p q m t)) (go (λ f. one_both r p q t n f h) (r m) found)
  where
    go : (find r t ≡ Some n → 1 ≤ both p q t) → (b : Bool) → cond b (Some m) (find r t) ≡ Some n → 1 ≤ cond (p m && q m) 1 0 + both p q t
    go more true f = let here : (p m && q m) ≡ true = subst (λ (x : Node). (p x && q x) ≡ true) (sym (same_Some m n f)) h in rw here (omega arith)
    go more false f = omega (arith, more f)

-- two with different keys are two
two_both : (p q : Node → Bool) (t : Nodes) (j k : Key) (a b : Node) → same_key j k ≡ false → at_key t j ≡ Some a → at_key t k ≡ Some b → (p a && q a) ≡ true → (p b && q b) ≡ true → 2 ≤ both p q t
two_both p q [] j k a b apart fa fb ha hb = absurd (none-some a fa)
two_both p q (m ∷ t) j k a b apart fa fb ha hb =
    subst (λ (c : ℕ). 2 ≤ c) (sym (both_cons p q m t)) (go (λ x y. two_both p q t j k a b apart x y ha hb) (is_key j m) refl (is_key k m) refl fa fb)
  where
    go : (at_key t j ≡ Some a → at_key t k ≡ Some b → 2 ≤ both p q t) → (x : Bool) → is_key j m ≡ x → (y : Bool) → is_key k m ≡ y → cond x (Some m) (at_key t j) ≡ Some a → cond y (Some m) (at_key t k) ≡ Some b → 2 ≤ cond (p m && q m) 1 0 + both p q t
    go more true e true f ga gb =
        let one = key_same j m.key e in
        let two = key_same k m.key f in
        absurd (both_ways _ apart (subst (λ (i : Key). same_key j i ≡ true) (one ∙ sym two) (same_key-refl j)))
    go more true e false f ga gb =
        let here : (p m && q m) ≡ true = subst (λ (x : Node). (p x && q x) ≡ true) (sym (same_Some m a ga)) ha in
        rw here (omega (arith, one_both (is_key k) p q t b gb hb))
    go more false e true f ga gb =
        let here : (p m && q m) ≡ true = subst (λ (x : Node). (p x && q x) ≡ true) (sym (same_Some m b gb)) hb in
        rw here (omega (arith, one_both (is_key j) p q t a ga ha))
    go more false e false f ga gb = omega (arith, more ga gb)

-- ---- the two forms

-- from each two to the count, for a test of keys whose members share a group
pub counted : (shares : Nodes → Key → Key → Bool) (mark : Node → Bool) (t : Nodes) (group : Key → Bool) → IsTree t → ((j k : Key) → group j ≡ true → group k ≡ true → shares t j k ≡ true) → OneMarked shares mark t → count_by mark (filter (λ n. group n.key) t) ≤ 1
counted shares mark t group tree together one =
    at_most_one (λ n. group n.key) mark t (keys_differ t tree) (λ i j d bi bj hi hj.
    let a = and_parts (group (get_or t i d).key) (mark (get_or t i d)) hi in
    let b = and_parts (group (get_or t j d).key) (mark (get_or t j d)) hj in
    let ma = passes_found mark t _ _ (at_place t (keys_differ t tree) i d bi) ∙ a.1 in
    let mb = passes_found mark t _ _ (at_place t (keys_differ t tree) j d bj) ∙ b.1 in
    same (get_or t i d).key (get_or t j d).key a.0 b.0 ma mb)
  where
    same : (j k : Key) → group j ≡ true → group k ≡ true → passes mark t j ≡ true → passes mark t k ≡ true → j ≡ k
    same j k gj gk mj mk = go (same_key j k) refl
      where
        go : (b : Bool) → same_key j k ≡ b → j ≡ k
        go true e = key_same j k e
        go false e = absurd (both_ways false refl (one j k (together j k gj gk) e mj mk))

-- and back: two with different keys in one group are not both marked
pub not_both : (mark : Node → Bool) (t : Nodes) (group : Key → Bool) → count_by mark (filter (λ n. group n.key) t) ≤ 1 → (j k : Key) → group j ≡ true → group k ≡ true → same_key j k ≡ false → passes mark t j ≡ true → passes mark t k ≡ true → ⊥
not_both mark t group few j k gj gk apart mj mk =
    let a = passes_there mark t j mj in
    let b = passes_there mark t k mk in
    let ga = subst (λ (i : Key). group i ≡ true) (sym (found_key t j a.0 a.1)) gj in
    let gb = subst (λ (i : Key). group i ≡ true) (sym (found_key t k b.0 b.1)) gk in
    let two : 2 ≤ count_by mark (filter (λ n. group n.key) t) = two_both (λ n. group n.key) mark t j k a.0 b.0 apart a.1 b.1 (and_from _ _ ga a.2) (and_from _ _ gb b.2) in
    absurd (omega (arith, two, few))
