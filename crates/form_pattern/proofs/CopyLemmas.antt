-- A tree of copies matches what a quantifier says.
use Rattle.std.proofs.Common.{◌≡◌, ℕ, zero, suc, ◌+◌, ◌-◌, ◌≤◌, Bool, true, false, inl, inr, List, refl, sym, subst, arith, add-one, zero-add, suc-add}
use Rattle.form_pattern.specs.declared.tokens.High.{High}
use Rattle.form_pattern.specs.declared.tokens.High.TheVariants.{Times, Endless, Sign}
use Rattle.form_pattern.specs.Matching.{Turns, IsUpTo, Rounds, last, more, Holds, Matches}
use Rattle.form_pattern.specs.Pieces.{Tree, many_tree, after_tree, copies, maybe, at_least, repeated}

abbrev pub Pairs : Type 1
Pairs = ℕ → ℕ → Type 0

module _ (R : Pairs) where
  one_more : (n i j : ℕ) → (e : j ≡ i) → Turns n R j j → Turns n R i j
  one_more n i j e t = subst (λ k. Turns n R k j) e t

  turns_join : (n m i k j : ℕ) → Turns n R i k → Turns m R k j → Turns (n + m) R i j
  turns_join zero m i k j e t = rw zero-add (subst (λ p. Turns m R p j) e t)
  turns_join (suc n) m i k j h t = rw suc-add (h.0, h.1, turns_join n m h.0 k j h.2 t)

  turns_split : (n m i j : ℕ) → Turns (n + m) R i j → (k : ℕ) × Turns n R i k × Turns m R k j
  turns_split zero m i j t = (i, refl, rw zero-add at t)
  turns_split (suc n) m i j t = let h : (k : ℕ) × R i k × Turns (n + m) R k j = rw suc-add at t in let rest = turns_split n m h.0 j h.2 in (rest.0, (h.0, h.1, rest.1), rest.2)

  rounds_turns : (j i : ℕ) → Rounds R j i → (n : ℕ) × Turns (suc n) R i j
  rounds_turns j i (last _ r) = (zero, (j, r, refl))
  rounds_turns j i (more _ k r rest) = let t = rounds_turns j k rest in (suc t.0, (k, r, t.1))

  turns_rounds : (n i j : ℕ) → Turns (suc n) R i j → Rounds R j i
  turns_rounds zero i j t = last i (subst (R i) (sym t.2) t.1)
  turns_rounds (suc n) i j t = more i t.0 t.1 (turns_rounds n t.0 j t.2)

pub turns_map : (R S : Pairs) → ((i j : ℕ) → R i j → S i j) → (n i j : ℕ) → Turns n R i j → Turns n S i j
turns_map R S f zero i j t = t
turns_map R S f (suc n) i j t = (t.0, f i t.0 t.1, turns_map R S f n t.0 j t.2)

-- one stretch more at the end
turns_snoc : (R : Pairs) (n i k j : ℕ) → Turns n R i k → R k j → Turns (suc n) R i j
turns_snoc R n i k j t r = subst (λ m. Turns m R i j) (add-one n) (turns_join R n 1 i k j t (j, r, refl))

turns_last : (R : Pairs) (n i j : ℕ) → Turns (suc n) R i j → (k : ℕ) × Turns n R i k × R k j
turns_last R n i j t = let h = turns_split R n 1 i j (subst (λ m. Turns m R i j) (sym (add-one n)) t) in (h.0, h.1, subst (R h.0) (sym h.2.2) h.2.1)

module _ (has : ℕ → ℕ → Bool) (s : List ℕ) where
  after_to : (b a : Tree) (i j : ℕ) → Matches has s (after_tree b a) i j → (k : ℕ) × Matches has s b i k × Matches has s a k j
  after_to Tree.nothing a i j m = (i, refl, m)
  after_to Tree.start a i j m = m
  after_to Tree.finish a i j m = m
  after_to (Tree.one left) a i j m = m
  after_to (Tree.next v x y) a i j m = m
  after_to (Tree.either x y) a i j m = m
  after_to (Tree.many v x) a i j m = m
  after_to (Tree.ahead v x) a i j m = m

  after_from : (b a : Tree) (i k j : ℕ) → Matches has s b i k → Matches has s a k j → Matches has s (after_tree b a) i j
  after_from Tree.nothing a i k j e m = subst (λ p. Matches has s a p j) e m
  after_from Tree.start a i k j l m = (k, l, m)
  after_from Tree.finish a i k j l m = (k, l, m)
  after_from (Tree.one left) a i k j l m = (k, l, m)
  after_from (Tree.next v x y) a i k j l m = (k, l, m)
  after_from (Tree.either x y) a i k j l m = (k, l, m)
  after_from (Tree.many v x) a i k j l m = (k, l, m)
  after_from (Tree.ahead v x) a i k j l m = (k, l, m)

  copies_to : (a b : Tree) (n i j : ℕ) → Matches has s (copies n a b) i j → (k : ℕ) × Matches has s b i k × Turns n (Matches has s a) k j
  copies_to a b zero i j m = (j, m, refl)
  copies_to a b (suc n) i j m = let l = after_to (copies n a b) a i j m in let h = copies_to a b n i l.0 l.1 in (h.0, h.1, turns_snoc (Matches has s a) n h.0 l.0 j h.2 l.2)

  copies_from : (a b : Tree) (n i k j : ℕ) → Matches has s b i k → Turns n (Matches has s a) k j → Matches has s (copies n a b) i j
  copies_from a b zero i k j m e = subst (λ p. Matches has s b i p) (sym e) m
  copies_from a b (suc n) i k j m t = let h = turns_last (Matches has s a) n k j t in after_from (copies n a b) a i h.0 j (copies_from a b n i k h.0 m h.1) h.2

module _ (has : ℕ → ℕ → Bool) (s : List ℕ) (a : Tree) where
  alone_to : (n i j : ℕ) → Matches has s (copies n a Tree.nothing) i j → Turns n (Matches has s a) i j
  alone_to n i j m = let h = copies_to has s a Tree.nothing n i j m in subst (λ k. Turns n (Matches has s a) k j) h.1 h.2

  alone_from : (n i j : ℕ) → Turns n (Matches has s a) i j → Matches has s (copies n a Tree.nothing) i j
  alone_from n i j t = copies_from has s a Tree.nothing n i i j refl t

  maybe_to : (n i j : ℕ) → Turns n (Matches has s (maybe a)) i j → (m : ℕ) × (m ≤ n) × Turns m (Matches has s a) i j
  maybe_to zero i j e = (zero, omega arith, e)
  maybe_to (suc n) i j (k, inl h, t) = let rest = maybe_to n k j t in (suc rest.0, omega (arith, rest.1), (k, h, rest.2))
  maybe_to (suc n) i j (k, inr e, t) = let rest = maybe_to n k j t in (rest.0, omega (arith, rest.1), subst (λ p. Turns rest.0 (Matches has s a) p j) e rest.2)

  maybe_from : (n m i j : ℕ) → m ≤ n → Turns m (Matches has s a) i j → Turns n (Matches has s (maybe a)) i j
  maybe_from zero zero i j le t = t
  maybe_from zero (suc m) i j le t = absurd (omega arith)
  maybe_from (suc n) zero i j le t = (i, inr refl, maybe_from n zero i j (omega arith) t)
  maybe_from (suc n) (suc m) i j le t = (t.0, inl t.1, maybe_from n m t.0 j (omega arith) t.2)

  at_least_to : (low i j : ℕ) → Matches has s (at_least low a) i j → (n : ℕ) × (low ≤ n) × Turns n (Matches has s a) i j
  at_least_to zero i j (inl r) = let t = rounds_turns (Matches has s a) j i r in (suc t.0, omega arith, t.1)
  at_least_to zero i j (inr e) = (zero, omega arith, e)
  at_least_to (suc low) i j m =
      let l = after_to has s (copies low a Tree.nothing) (many_tree a) i j m in
      let h = alone_to low i l.0 l.1 in
      let t = rounds_turns (Matches has s a) j l.0 l.2 in
      (low + suc t.0, omega arith, turns_join (Matches has s a) low (suc t.0) i l.0 j h t.1)

  at_least_from : (low n i j : ℕ) → low ≤ n → Turns n (Matches has s a) i j → Matches has s (at_least low a) i j
  at_least_from zero zero i j le t = inr t
  at_least_from zero (suc n) i j le t = inl (turns_rounds (Matches has s a) n i j t)
  at_least_from (suc low) n i j le t =
      let size : n ≡ low + suc (n - suc low) = omega arith in
      let h = turns_split (Matches has s a) low (suc (n - suc low)) i j (subst (λ m. Turns m (Matches has s a) i j) size t) in
      after_from has s (copies low a Tree.nothing) (many_tree a) i h.0 j (alone_from low i h.0 h.1) (turns_rounds (Matches has s a) (n - suc low) h.0 j h.2)

  pub repeated_to : (low : ℕ) (high : High) (i j : ℕ) → IsUpTo low high → Matches has s (repeated low high a) i j → (n : ℕ) × (low ≤ n) × IsUpTo n high × Turns n (Matches has s a) i j
  unfolding repeated
  repeated_to low Endless i j fits m = let h = at_least_to low i j m in (h.0, h.1, tt, h.2)
  repeated_to low Sign i j fits m = let h = at_least_to low i j m in (h.0, h.1, tt, h.2)
  repeated_to low (Times high) i j fits m =
      let h = copies_to has s (maybe a) (copies low a Tree.nothing) (high - low) i j m in
      let t = maybe_to (high - low) h.0 j h.2 in
      (low + t.0, omega arith, omega (arith, t.1), turns_join (Matches has s a) low t.0 i h.0 j (alone_to low i h.0 h.1) t.2)

  pub repeated_from : (low : ℕ) (high : High) (n i j : ℕ) → low ≤ n → IsUpTo n high → Turns n (Matches has s a) i j → Matches has s (repeated low high a) i j
  unfolding repeated
  repeated_from low Endless n i j le up t = at_least_from low n i j le t
  repeated_from low Sign n i j le up t = at_least_from low n i j le t
  repeated_from low (Times high) n i j le up t =
      let size : n ≡ low + (n - low) = omega arith in
      let h = turns_split (Matches has s a) low (n - low) i j (subst (λ m. Turns m (Matches has s a) i j) size t) in
      copies_from has s (maybe a) (copies low a Tree.nothing) (high - low) i h.0 j (alone_from low i h.0 h.1) (maybe_from (high - low) (n - low) h.0 j (omega arith) h.2)

pub holds_map : (absent : Bool) (A B : Type 0) → (A → B) → (B → A) → Holds absent A → Holds absent B
holds_map true A B f g h = λ b. h (g b)
holds_map false A B f g h = f h
