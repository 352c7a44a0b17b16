-- The elements of a list of keys changed, one after another, as one change of all elements.
use Rattle.std.proofs.Common.{◌≡◌, ℕ, zero, suc, ◌<◌, ◌==◌, Bool, true, false, not, ◌&&◌, ◌||◌, cond, List, [], ◌∷◌, length, map, get_or, Some, refl, sym, ap, ap₂, ◌∙◌, subst, arith}
use Rattle.std.specs.List.{filter, find, list_any}
use Rattle.std.specs.Option.{option_map}
use Rattle.std.specs.Prelude.{reverse}
use Rattle.std.proofs.lemmas.Bool.{both_ways, cond_both, or_left, or_right}
use Rattle.std.proofs.lemmas.List.{map-append, reverse-append}
use Rattle.form_tree.proofs.Laws.{key_same, same_key-refl, same_key-sym}
use Rattle.form_tree.specs.declared.node.Key.{Key}
use Rattle.form_tree.specs.declared.node.Node.{Node}
use Rattle.form_tree.specs.Elements.{is_among, same_key}
use Rattle.form_tree.specs.Tree.{Nodes, is_key, with_node}
use Rattle.form_page.specs.Settling.{changed_but}
use Rattle.form_drafts.proofs.DraftLaws.{all_same}
use Rattle.form_changes.specs.Changing.{without_file_number}
use Rattle.form_drafts.specs.Drafts.{keys_but, with_each}

abbrev keys : Nodes → List Key
keys ns = map (λ n. n.key) ns

map_map : (f g : Node → Node) (ns : Nodes) → map g (map f ns) ≡ map (λ n. g (f n)) ns
map_map f g [] = refl
map_map f g (n ∷ ns) = ap (λ (rest : Nodes). g (f n) ∷ rest) (map_map f g ns)

-- a change that keeps keys, and of which a second time makes no more
pub record IsOnce (f : Node → Node) : Type 0 where
  pub key : (n : Node) → (f n).key ≡ n.key
  pub again : (n : Node) → f (f n) ≡ f n

module _ (f : Node → Node) (once : IsOnce f) where
  none_made : (ns : Nodes) → ns ≡ map (λ n. cond false (f n) n) ns
  none_made [] = refl
  none_made (n ∷ ns) = ap (λ (rest : Nodes). n ∷ rest) (none_made ns)

  -- each of the keys changed is all changed whose key is among them
  pub each_made : (ns : Nodes) (ks : List Key) → with_each f ns ks ≡ map (λ n. cond (is_among ks n.key) (f n) n) ns
  each_made ns [] = none_made ns
  each_made ns (k ∷ ks) =
      each_made (with_node ns k f) ks
      ∙ map_map (λ n. cond (is_key k n) (f n) n) (λ n. cond (is_among ks n.key) (f n) n) ns
      ∙ all_same (λ n. cond (is_among ks (cond (is_key k n) (f n) n).key) (f (cond (is_key k n) (f n) n)) (cond (is_key k n) (f n) n)) (λ n. cond (is_among (k ∷ ks) n.key) (f n) n) ns (λ i d below. one (get_or ns i d))
    where
      one : (n : Node) → cond (is_among ks (cond (is_key k n) (f n) n).key) (f (cond (is_key k n) (f n) n)) (cond (is_key k n) (f n) n) ≡ cond (same_key n.key k || is_among ks n.key) (f n) n
      one n = go (is_key k n) (sym (same_key-sym k n.key))
        where
          go : (b : Bool) → same_key n.key k ≡ b → cond (is_among ks (cond b (f n) n).key) (f (cond b (f n) n)) (cond b (f n) n) ≡ cond (same_key n.key k || is_among ks n.key) (f n) n
          go true e = rw e (cond_both (is_among ks (f n).key) (f (f n)) (f n) (λ (m : Node). m ≡ f n) (λ _. once.again n) (λ _. refl))
          go false e = rw e refl

-- ---- the keys of the elements that pass

-- whoever is among them passes
among_passes : (g : Key → Bool) (ns : Nodes) (j : Key) → is_among (keys (filter (λ n. g n.key) ns)) j ≡ true → g j ≡ true
among_passes g [] j among = absurd (cc)
among_passes g (n ∷ ns) j among = go (among_passes g ns j) (g n.key) refl among
  where
    go : (is_among (keys (filter (λ m. g m.key) ns)) j ≡ true → g j ≡ true) → (b : Bool) → g n.key ≡ b → is_among (keys (cond b (n ∷ filter (λ m. g m.key) ns) (filter (λ m. g m.key) ns))) j ≡ true → g j ≡ true
    go more false e h = more h
    go more true e h = here (same_key j n.key) refl h
      where
        here : (c : Bool) → same_key j n.key ≡ c → (c || is_among (keys (filter (λ m. g m.key) ns)) j) ≡ true → g j ≡ true
        here true same h = ap g (key_same j n.key same) ∙ e
        here false same h = more h

-- and who passes is among them
passes_among : (g : Key → Bool) (ns : Nodes) (i : ℕ) (d : Node) → i < length ns → g (get_or ns i d).key ≡ true → is_among (keys (filter (λ n. g n.key) ns)) (get_or ns i d).key ≡ true
passes_among g [] i d below holds = absurd (omega arith)
passes_among g (n ∷ ns) zero d below holds = rw holds (or_left _ _ (same_key-refl n.key))
passes_among g (n ∷ ns) (suc i) d below holds = go (passes_among g ns i d (omega arith) holds) (g n.key)
  where
    go : is_among (keys (filter (λ m. g m.key) ns)) (get_or ns i d).key ≡ true → (b : Bool) → is_among (keys (cond b (n ∷ filter (λ m. g m.key) ns) (filter (λ m. g m.key) ns))) (get_or ns i d).key ≡ true
    go more true = or_right _ _ more
    go more false = more

pub among_is : (g : Key → Bool) (ns : Nodes) (i : ℕ) (d : Node) → i < length ns → is_among (keys (filter (λ n. g n.key) ns)) (get_or ns i d).key ≡ g (get_or ns i d).key
among_is g ns i d below = go (g (get_or ns i d).key) refl (is_among (keys (filter (λ n. g n.key) ns)) (get_or ns i d).key) refl
  where
    go : (a : Bool) → g (get_or ns i d).key ≡ a → (b : Bool) → is_among (keys (filter (λ n. g n.key) ns)) (get_or ns i d).key ≡ b → b ≡ a
    go true e b h = sym h ∙ passes_among g ns i d below e
    go false e true h = absurd (both_ways _ e (among_passes g ns (get_or ns i d).key h))
    go false e false h = refl

among_but : (k : Key) (ks : List Key) (j : Key) → is_among (keys_but k ks) j ≡ (is_among ks j && not (same_key k j))
among_but k [] j = refl
among_but k (i ∷ ks) j = go (among_but k ks j) (same_key k i) refl (same_key j i) refl
  where
    go : is_among (keys_but k ks) j ≡ (is_among ks j && not (same_key k j)) → (a : Bool) → same_key k i ≡ a → (b : Bool) → same_key j i ≡ b → is_among (cond (not a) (i ∷ keys_but k ks) (keys_but k ks)) j ≡ ((b || is_among ks j) && not (same_key k j))
    go more true e true h =
        let same : same_key k j ≡ true = subst (λ (x : Key). same_key k x ≡ true) (sym (key_same j i h)) e in
        more ∙ rw same (none (is_among ks j))
      where
        none : (b : Bool) → (b && false) ≡ false
        none true = refl
        none false = refl
    go more true e false h = more
    go more false e true h =
        let apart : same_key k j ≡ false = subst (λ (x : Key). same_key k x ≡ false) (sym (key_same j i h)) e in
        rw (h, apart) refl
    go more false e false h = rw h more

module _ (f : Node → Node) (once : IsOnce f) (g : Key → Bool) (ns : Nodes) where
  -- all that pass
  pub passing_made : with_each f ns (keys (filter (λ n. g n.key) ns)) ≡ map (λ n. cond (g n.key) (f n) n) ns
  passing_made =
      each_made f once ns (keys (filter (λ n. g n.key) ns))
      ∙ all_same (λ n. cond (is_among (keys (filter (λ m. g m.key) ns)) n.key) (f n) n) (λ n. cond (g n.key) (f n) n) ns
      (λ i d below. ap (λ (b : Bool). cond b (f (get_or ns i d)) (get_or ns i d)) (among_is g ns i d below))

  -- all that pass but one
  pub others_made : (k : Key) → with_each f ns (keys_but k (keys (filter (λ n. g n.key) ns))) ≡ changed_but f g k ns
  others_made k =
      each_made f once ns (keys_but k (keys (filter (λ n. g n.key) ns)))
      ∙ all_same (λ n. cond (is_among (keys_but k (keys (filter (λ m. g m.key) ns))) n.key) (f n) n) (λ n. cond (g n.key && not (is_key k n)) (f n) n) ns
      (λ i d below. ap (λ (b : Bool). cond b (f (get_or ns i d)) (get_or ns i d)) (among_but k (keys (filter (λ m. g m.key) ns)) (get_or ns i d).key ∙ ap (λ (b : Bool). b && not (is_key k (get_or ns i d))) (among_is g ns i d below)))

-- a set of nobody
pub nobody_changed : (f : Node → Node) (g : Key → Bool) (k : Key) (ns : Nodes) → ((j : Key) → g j ≡ false) → changed_but f g k ns ≡ ns
nobody_changed f g k [] none = refl
nobody_changed f g k (n ∷ ns) none = ap₂ (λ (m : Node) (rest : Nodes). m ∷ rest) (ap (λ (b : Bool). cond (b && not (is_key k n)) (f n) n) (none n.key)) (nobody_changed f g k ns none)

-- sets of the same keys
pub same_group : (f : Node → Node) (g h : Key → Bool) (k : Key) (ns : Nodes) → ((j : Key) → g j ≡ h j) → changed_but f g k ns ≡ changed_but f h k ns
same_group f g h k [] same = refl
same_group f g h k (n ∷ ns) same = ap₂ (λ (m : Node) (rest : Nodes). m ∷ rest) (ap (λ (b : Bool). cond (b && not (is_key k n)) (f n) n) (same n.key)) (same_group f g h k ns same)

-- ---- a file that is withdrawn

numbers_again : (file : ℕ) (xs : List ℕ) → filter (λ number. not (number == file)) (filter (λ number. not (number == file)) xs) ≡ filter (λ number. not (number == file)) xs
numbers_again file [] = refl
numbers_again file (x ∷ xs) = go (numbers_again file xs) (x == file) refl
  where
    go : filter (λ number. not (number == file)) (filter (λ number. not (number == file)) xs) ≡ filter (λ number. not (number == file)) xs → (b : Bool) → (x == file) ≡ b → filter (λ number. not (number == file)) (cond (not b) (x ∷ filter (λ number. not (number == file)) xs) (filter (λ number. not (number == file)) xs)) ≡ cond (not b) (x ∷ filter (λ number. not (number == file)) xs) (filter (λ number. not (number == file)) xs)
    go more true e = more
    go more false e = rw e (ap (λ (rest : List ℕ). x ∷ rest) more)

pub withdraw_once : (file : ℕ) → IsOnce (without_file_number file)
withdraw_once file = record {
  key = λ n. refl;
  again = λ n. ap (λ (fs : List ℕ). record n { state = record n.state { files = fs } }) (numbers_again file n.state.files);
}

-- without a file that is not among them they stay
pub numbers_stay : (file : ℕ) (xs : List ℕ) → list_any (λ number. number == file) xs ≡ false → filter (λ number. not (number == file)) xs ≡ xs
numbers_stay file [] none = refl
numbers_stay file (x ∷ xs) none = go (numbers_stay file xs) (x == file) none
  where
    go : (list_any (λ number. number == file) xs ≡ false → filter (λ number. not (number == file)) xs ≡ xs) → (b : Bool) → (b || list_any (λ number. number == file) xs) ≡ false → cond (not b) (x ∷ filter (λ number. not (number == file)) xs) (filter (λ number. not (number == file)) xs) ≡ x ∷ xs
    go more true h = absurd (cc)
    go more false h = ap (λ (rest : List ℕ). x ∷ rest) (more h)

-- ---- what is found by key

pub find_mapped : {X Y : Type 0} (p : Y → Bool) (f : X → Y) (xs : List X) → find p (map f xs) ≡ option_map f (find (λ x. p (f x)) xs)
find_mapped p f [] = refl
find_mapped {X} {Y} p f (x ∷ xs) = go (find_mapped p f xs) (p (f x))
  where
    go : find p (map f xs) ≡ option_map f (find (λ y. p (f y)) xs) → (b : Bool) → cond b (Some (f x)) (find p (map f xs)) ≡ option_map f (cond b (Some x) (find (λ y. p (f y)) xs))
    go more true = refl
    go more false = more

pub map_reverse : {X Y : Type 0} (f : X → Y) (xs : List X) → reverse (map f xs) ≡ map f (reverse xs)
map_reverse f [] = refl
map_reverse f (x ∷ xs) =
    rw (reverse-append (f x ∷ []) (map f xs), reverse-append (x ∷ []) xs, map-append f (reverse xs) (x ∷ []), map_reverse f xs) refl

-- two tests that agree on a list
pub find_same : (p q : Node → Bool) (xs : Nodes) → ((i : ℕ) (d : Node) → i < length xs → p (get_or xs i d) ≡ q (get_or xs i d)) → find p xs ≡ find q xs
find_same p q [] same = refl
find_same p q (x ∷ xs) same = go (find_same p q xs (λ i d below. same (suc i) d (omega arith))) (p x) (q x) (same 0 x (omega arith))
  where
    go : find p xs ≡ find q xs → (a b : Bool) → a ≡ b → cond a (Some x) (find p xs) ≡ cond b (Some x) (find q xs)
    go more true true e = refl
    go more false false e = more
    go more true false e = absurd (cc)
    go more false true e = absurd (cc)
