-- Ways from a place to the end: by the empty stretch, or by a character at least.
use Rattle.std.proofs.Common.{◌≡◌, ℕ, ◌<◌, ◌≤◌, Bool, true, ◌&&◌, ◌||◌, ◌⊎◌, inl, inr, ⊎_elim, List, length, slice_get, Option, Some, None, refl, sym, ◌∙◌, subst, arith}
use mathlib.Core.Bool.{false≢true}
use Rattle.std.proofs.lemmas.Option.{slice_get_within, slice_get-get_or, none-some}
use Rattle.form_pattern.specs.declared.nodes.Seen.{Seen}
use Rattle.form_pattern.specs.Pieces.{Tree}
use Rattle.form_pattern.specs.Matching.{passes, Rounds, last, more, Matches}
use Rattle.form_pattern.specs.Steps.{goes}
use Rattle.form_pattern.proofs.TellLemmas.{Tells, tells_map, tells_and, tells_or}

pub same_or_below : (a b : ℕ) → a ≤ b → (b ≡ a) ⊎ (a < b)
same_or_below a b le = grind arith

abbrev pub Pairs : Type 1
Pairs = ℕ → ℕ → Type 0

-- from i to a place where K holds
abbrev pub Back : Pairs → (ℕ → Type 0) → ℕ → Type 0
Back R K i = (j : ℕ) × R i j × K j

-- the same by a character at least
abbrev pub Later : Pairs → (ℕ → Type 0) → ℕ → Type 0
Later R K i = (j : ℕ) × (i < j) × R i j × K j

-- behind a round: K, or more rounds before it
abbrev pub After : Pairs → (ℕ → Type 0) → ℕ → Type 0
After R K i = K i ⊎ Back (λ i j. Rounds R j i) K i

abbrev pub Within : List ℕ → ℕ → Type 0
Within s i = i ≤ length s

-- what is seen at a place is true
abbrev pub Sees : Pairs → (ℕ → Type 0) → ℕ → Seen → Type 0
Sees R K i v = Tells v.empty (R i i) × Tells v.on (Later R K i)

pub rounds_forward : (R : Pairs) → ((i j : ℕ) → R i j → i ≤ j) → (j i : ℕ) → Rounds R j i → i ≤ j
rounds_forward R each j i (last _ r) = each i j r
rounds_forward R each j i (more _ k r rest) = let one = each i k r in let two = rounds_forward R each j k rest in omega arith

rounds_inside : (s : List ℕ) (R : Pairs) → ((i j : ℕ) → R i j → i ≤ length s → j ≤ length s) → (j i : ℕ) → Rounds R j i → i ≤ length s → j ≤ length s
rounds_inside s R each j i (last _ r) low = each i j r low
rounds_inside s R each j i (more _ k r rest) low = rounds_inside s R each j k rest (each i k r low)

pub past : (s : List ℕ) (i : ℕ) → slice_get s i ≡ None → i ≤ length s → i ≡ length s
past s i e within = go (same_or_below i (length s) within)
  where
    go : (length s ≡ i) ⊎ (i < length s) → i ≡ length s
    go (inl e) = sym e
    go (inr low) = absurd (none-some _ (sym e ∙ slice_get-get_or s i 0 low))

module _ (has : ℕ → ℕ → Bool) where
  pub forward : (s : List ℕ) (t : Tree) (i j : ℕ) → Matches has s t i j → i ≤ j
  forward s Tree.nothing i j m = omega arith
  forward s (Tree.one left) i j m = omega arith
  forward s Tree.start i j m = omega arith
  forward s Tree.finish i j m = omega arith
  forward s (Tree.next behind a b) i j m = let one = forward s a i m.0 m.1 in let two = forward s b m.0 j m.2 in omega arith
  forward s (Tree.either a b) i j m = ⊎_elim (forward s a i j) (forward s b i j) m
  forward s (Tree.many round a) i j m = rounds_forward (Matches has s a) (forward s a) j i m
  forward s (Tree.ahead absent a) i j m = omega arith

  in_within : (s : List ℕ) (i left : ℕ) → passes (has left) (slice_get s i) ≡ true → i < length s
  in_within s i left is = go (slice_get s i) refl is
    where
      go : (o : Option ℕ) → slice_get s i ≡ o → passes (has left) o ≡ true → i < length s
      go None e h = absurd (false≢true h)
      go (Some c) e h = slice_get_within s i c e

  pub inside : (s : List ℕ) (t : Tree) (i j : ℕ) → Matches has s t i j → i ≤ length s → j ≤ length s
  inside s Tree.nothing i j m low = omega arith
  inside s (Tree.one left) i j m below = omega (arith, in_within s i left m.1)
  inside s Tree.start i j m low = omega arith
  inside s Tree.finish i j m low = omega arith
  inside s (Tree.next behind a b) i j m low = inside s b m.0 j m.2 (inside s a i m.0 m.1 low)
  inside s (Tree.either a b) i j m low = ⊎_elim (λ h. inside s a i j h low) (λ h. inside s b i j h low) m
  inside s (Tree.many round a) i j m low = rounds_inside s (Matches has s a) (inside s a) j i m low
  inside s (Tree.ahead absent a) i j m low = omega arith

module _ (R : Pairs) (on : (i j : ℕ) → R i j → i ≤ j) where
  -- empty rounds lead nowhere
  pub rounds_here : (i j : ℕ) → j ≡ i → Rounds R j i → R i i
  rounds_here i j e (last _ r) = subst (R i) e r
  rounds_here i j e (more _ k r rest) =
      let one = on i k r in
      let two = rounds_forward R on j k rest in
      let same : k ≡ i = omega arith in
      subst (R i) same r

  -- the first round that reads
  pub first_round : (K : ℕ → Type 0) (j i : ℕ) → i < j → Rounds R j i → K j → Later R (After R K) i
  first_round K j i lt (last _ r) k = (j, lt, r, inl k)
  first_round K j i lt (more _ m r rest) k = go (same_or_below i m (on i m r)) (λ low. first_round K j m low rest k)
    where
      go : (m ≡ i) ⊎ (i < m) → (m < j → Later R (After R K) m) → Later R (After R K) i
      go (inl e) deeper = subst (Later R (After R K)) e (deeper (omega arith))
      go (inr low) deeper = (m, low, r, inr (j, rest, k))

  pub many_later : (K : ℕ → Type 0) (i : ℕ) → Later R (After R K) i → Later (λ i j. Rounds R j i) K i
  many_later K i (m, low, r, inl k) = (m, low, last i r, k)
  many_later K i (m, low, r, inr b) = let two = rounds_forward R on b.0 m b.1 in (b.0, omega arith, more i m r b.1, b.2)

  -- a way on is a way on by nothing, or by a character at least
  back_parts : (K : ℕ → Type 0) (i : ℕ) → Back R K i → (R i i × K i) ⊎ Later R K i
  back_parts K i b = go (same_or_below i b.0 (on i b.0 b.1))
    where
      go : (b.0 ≡ i) ⊎ (i < b.0) → (R i i × K i) ⊎ Later R K i
      go (inl e) = inl (subst (R i) e b.1, subst K e b.2)
      go (inr lt) = inr (b.0, lt, b.1, b.2)

  back_whole : (K : ℕ → Type 0) (i : ℕ) → (R i i × K i) ⊎ Later R K i → Back R K i
  back_whole K i (inl h) = (i, h.0, h.1)
  back_whole K i (inr h) = (h.0, h.2, h.3)

  pub goes_tells : (K : ℕ → Type 0) (i : ℕ) (v : Seen) (k : Bool) → Sees R K i v → Tells k (K i) → Tells (goes v k) (Back R K i)
  goes_tells K i v k sees here = tells_map (tells_or (v.empty && k) v.on (tells_and v.empty k sees.0 here) sees.1) (back_whole K i) (back_parts K i)

  -- K, or another round that leads to it
  pub again_tells : (K : ℕ → Type 0) (i : ℕ) (k round : Bool) → Tells k (K i) → Tells round (Later R (After R K) i) → Tells (k || round) (After R K i)
  again_tells K i k round here sees = tells_map {A = K i ⊎ Later R (After R K) i} {B = After R K i} (tells_or k round here sees) whole parts
    where
      whole : K i ⊎ Later R (After R K) i → After R K i
      whole (inl h) = inl h
      whole (inr l) = let m = many_later K i l in inr (m.0, m.2, m.3)

      reads : (b : Back (λ i j. Rounds R j i) K i) → (b.0 ≡ i) ⊎ (i < b.0) → K i ⊎ Later R (After R K) i
      reads b (inl e) = inl (subst K e b.2)
      reads b (inr lt) = inr (first_round K b.0 i lt b.1 b.2)

      parts : After R K i → K i ⊎ Later R (After R K) i
      parts (inl h) = inl h
      parts (inr b) = reads b (same_or_below i b.0 (rounds_forward R on b.0 i b.1))

module _ (A B : Pairs) (K : ℕ → Type 0) (i : ℕ) where
  -- through a sequence
  pub next_void : ((i j : ℕ) → A i j → i ≤ j) → ((i j : ℕ) → B i j → i ≤ j) → (a b : Bool) → Tells a (A i i) → Tells b (B i i) → Tells (a && b) ((k : ℕ) × A i k × B k i)
  next_void onA onB a b ta tb = tells_map (tells_and a b ta tb) (λ h. (i, h.0, h.1))
      (λ m. let one = onA i m.0 m.1 in let two = onB m.0 i m.2 in let e : m.0 ≡ i = omega arith in (subst (A i) e m.1, subst (λ k. B k i) e m.2))

  pub next_some : ((i j : ℕ) → A i j → i ≤ j) → ((i j : ℕ) → B i j → i ≤ j) → (a b c : Bool) → Tells a (A i i) → Tells b (Later A (Back B K) i) → Tells c (Later B K i) → Tells (b || (a && c)) (Later (λ i j. (k : ℕ) × A i k × B k j) K i)
  next_some onA onB a b c ta tb tc = tells_map (tells_or b (a && c) tb (tells_and a c ta tc)) whole (λ l. parts l (same_or_below i l.2.0 (onA i l.2.0 l.2.1)))
    where
      whole : Later A (Back B K) i ⊎ (A i i × Later B K i) → Later (λ i j. (k : ℕ) × A i k × B k j) K i
      whole (inl l) = let two = onB l.0 l.3.0 l.3.1 in (l.3.0, omega arith, (l.0, l.2, l.3.1), l.3.2)
      whole (inr h) = (h.1.0, h.1.1, (i, h.0, h.1.2), h.1.3)

      parts : (l : Later (λ i j. (k : ℕ) × A i k × B k j) K i) → (l.2.0 ≡ i) ⊎ (i < l.2.0) → Later A (Back B K) i ⊎ (A i i × Later B K i)
      parts l (inl e) = inr (subst (A i) e l.2.1, (l.0, l.1, subst (λ k. B k l.0) e l.2.2, l.3))
      parts l (inr lt) = inl (l.2.0, lt, l.2.1, (l.0, l.2.2, l.3))

  -- through one of two
  pub either_some : (a b : Bool) → Tells a (Later A K i) → Tells b (Later B K i) → Tells (a || b) (Later (λ i j. A i j ⊎ B i j) K i)
  either_some a b ta tb = tells_map (tells_or a b ta tb) whole (λ l. parts l l.2)
    where
      whole : Later A K i ⊎ Later B K i → Later (λ i j. A i j ⊎ B i j) K i
      whole (inl l) = (l.0, l.1, inl l.2, l.3)
      whole (inr l) = (l.0, l.1, inr l.2, l.3)

      parts : (l : Later (λ i j. A i j ⊎ B i j) K i) → A i l.0 ⊎ B i l.0 → Later A K i ⊎ Later B K i
      parts l (inl h) = inl (l.0, l.1, h, l.3)
      parts l (inr h) = inr (l.0, l.1, h, l.3)
