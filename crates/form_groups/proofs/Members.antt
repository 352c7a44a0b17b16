-- Lists of members.
use Rattle.std.proofs.Common.{◌≡◌, ℕ, zero, suc, ◌<◌, Bool, true, false, not, cond, List, [], ◌∷◌, ◌++◌, length, map, take, drop, get_or, set, filter, refl, ap, arith}
use Rattle.std.proofs.lemmas.Bool.{cond_both}
use Rattle.form_tree.specs.declared.node.Key.{Key}
use Rattle.form_tree.specs.Elements.{same_key}
use Rattle.form_groups.specs.declared.group.Member.{Member}
use Rattle.form_groups.specs.Groups.{has_key, keys_of, marked, marked_if, without}

-- the keys of the members that stay
pub keys-without : (k : Key) (ms : List Member) → filter (λ j. not (same_key k j)) (keys_of ms) ≡ keys_of (without k ms)
keys-without k [] = refl
keys-without k (m ∷ ms) = go (not (same_key k m.key)) (keys-without k ms)
  where
    go : (b : Bool) → filter (λ j. not (same_key k j)) (keys_of ms) ≡ keys_of (without k ms)
        → cond b (m.key ∷ filter (λ j. not (same_key k j)) (keys_of ms)) (filter (λ j. not (same_key k j)) (keys_of ms)) ≡ keys_of (cond b (m ∷ without k ms) (without k ms))
    go true same = ap (λ l. m.key ∷ l) same
    go false same = same

-- other marks leave the keys
pub keys-marked : (k : Key) (required checked : Bool) (ms : List Member) → keys_of (marked k required checked ms) ≡ keys_of ms
keys-marked k required checked [] = refl
keys-marked k required checked (m ∷ ms) =
    let same : (marked_if k required checked m).key ≡ m.key = cond_both (has_key k m) _ _ (λ (n : Member). n.key ≡ m.key) (λ _. refl) (λ _. refl) in
    rw (same, keys-marked k required checked ms) refl

-- one more element is changed
pub changed_more : {X : Type 0} (f : X → X) (xs ys : List X) (i : ℕ) (d : X) → i < length ys → ys ≡ take i (map f xs) ++ drop i xs → set ys i (f (get_or ys i d)) ≡ take (suc i) (map f xs) ++ drop (suc i) xs
changed_more f [] [] i d below has = absurd (omega arith)
changed_more f [] (y ∷ ys) zero d below has = absurd (cc)
changed_more f [] (y ∷ ys) (suc i) d below has = absurd (cc)
changed_more f (z ∷ xs) [] i d below has = absurd (omega arith)
changed_more f (z ∷ xs) (y ∷ ys) zero d below has = cc
changed_more f (z ∷ xs) (y ∷ ys) (suc i) d below has =
    let shown : y ∷ ys ≡ f z ∷ (take i (map f xs) ++ drop i xs) = has in
    let head : y ≡ f z = cc in
    let tail : ys ≡ take i (map f xs) ++ drop i xs = cc in
    rw head (ap (λ l. f z ∷ l) (changed_more f xs ys i d (omega arith) tail))
