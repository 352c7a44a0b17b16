-- What is noted in a tree tells from where the end can be reached.
use Rattle.std.proofs.Common.{◌≡◌, ℕ, suc, ◌≤◌, Bool, true, false, ◌&&◌, ◌||◌, ◌⊎◌, inl, inr, List, length, nat_eq, slice_get, Option, Some, None, refl, sym, ap, ◌∙◌, ap₂, subst, arith}
use mathlib.Core.Bool.{false≢true}
use Rattle.std.proofs.lemmas.Bool.{and_parts}
use Rattle.std.proofs.lemmas.Bool.Decides.{nat_tests}
use Rattle.std.proofs.lemmas.Option.{slice_get_within}
use Rattle.form_pattern.specs.Pieces.{Tree, unseen}
use Rattle.form_pattern.specs.Matching.{passes, last, Holds, Matches}
use Rattle.form_pattern.specs.Steps.{bare, goes, flip, see, step, is_end}
use Rattle.form_pattern.proofs.TellLemmas.{Tells, tells_map, tells_no, tells_yes, tells_and, tells_or, tells_not}
use Rattle.form_pattern.proofs.WayLemmas.{Back, Later, After, Within, Sees, forward, inside, past, rounds_here, first_round, many_later, goes_tells, again_tells, next_void, next_some, either_some}

module _ (has : ℕ → ℕ → Bool) where
  -- each note is right at place i, where K holds at the places from where the end can be reached behind the tree
  abbrev pub Right : List ℕ → (ℕ → Type 0) → ℕ → Tree → Type 0
  Right s K i Tree.nothing = Unit {0}
  Right s K i (Tree.one left) = Unit {0}
  Right s K i Tree.start = Unit {0}
  Right s K i Tree.finish = Unit {0}
  Right s K i (Tree.next behind a b) = Sees (Matches has s (bare b)) K i behind × Right s (Back (Matches has s (bare b)) K) i a × Right s K i b
  Right s K i (Tree.either a b) = Right s K i a × Right s K i b
  Right s K i (Tree.many round a) = Tells round (Later (Matches has s (bare a)) (After (Matches has s (bare a)) K) i) × Right s (After (Matches has s (bare a)) K) i a
  Right s K i (Tree.ahead absent a) = Right s (Within s) i a

  -- no character stands at place i, or the notes of the place behind are right
  abbrev pub Ready : List ℕ → (ℕ → Type 0) → ℕ → Bool → Tree → Type 0
  Ready s K i k t = (slice_get s i ≡ None) ⊎ ((suc i ≤ length s) × Right s K (suc i) t × Tells k (K (suc i)))

  first_tells : (i : ℕ) → Tells (nat_eq i 0) (i ≡ 0)
  first_tells i = (λ e. grind (arith, nat_tests), λ e. grind (arith, nat_tests))

  end_tells : (s : List ℕ) (i : ℕ) → i ≤ length s → Tells (is_end (slice_get s i)) (i ≡ length s)
  end_tells s i within = go (slice_get s i) refl
    where
      go : (o : Option ℕ) → slice_get s i ≡ o → Tells (is_end o) (i ≡ length s)
      go None e = tells_yes (past s i e within)
      go (Some c) e = tells_no (λ at. let low = slice_get_within s i c e in omega arith)

  through_one : (s : List ℕ) (K : ℕ → Type 0) (i left : ℕ) (k : Bool) → Ready s K i k (Tree.one left) → Tells (k && passes (has left) (slice_get s i)) (Later (Matches has s (Tree.one left)) K i)
  through_one s K i left k (inl nothing) =
      let no : passes (has left) (slice_get s i) ≡ false = ap (passes (has left)) nothing in (
        λ e. absurd (false≢true (sym no ∙ (and_parts k (passes (has left) (slice_get s i)) e).1)),
        λ l. absurd (false≢true (sym no ∙ l.2.1)),
      )
  through_one s K i left k (inr ready) =
      tells_map (tells_and k (passes (has left) (slice_get s i)) ready.2 (λ e. e, λ e. e))
      (λ h. (suc i, omega arith, (omega arith, h.1), h.0))
      (λ l. let e : l.0 ≡ suc i = omega arith in (subst K e l.3, l.2.1))

  holds_tells : (absent b : Bool) (A : Type 0) → Tells b A → Tells (flip absent b) (Holds absent A)
  holds_tells true b A t = tells_not b t
  holds_tells false b A t = t

  pub shape_kept : (first : Bool) (here : Option ℕ) (k : Bool) (t : Tree) → bare (step has first here k t) ≡ bare t
  shape_kept first here k Tree.nothing = refl
  shape_kept first here k (Tree.one left) = refl
  shape_kept first here k Tree.start = refl
  shape_kept first here k Tree.finish = refl
  shape_kept first here k (Tree.next behind a b) = ap₂ (Tree.next unseen) (shape_kept first here (goes behind k) a) (shape_kept first here k b)
  shape_kept first here k (Tree.either a b) = ap₂ Tree.either (shape_kept first here k a) (shape_kept first here k b)
  shape_kept first here k (Tree.many round a) = ap (Tree.many false) (shape_kept first here (k || round) a)
  shape_kept first here k (Tree.ahead absent a) = ap (Tree.ahead absent) (shape_kept first here true a)

  -- what the second part of a sequence, and what another round, must be ready for
  ready_behind : (s : List ℕ) (i : ℕ) (a b : Tree) (K : ℕ → Type 0) (k : Bool) (behind : _) → Ready s K i k (Tree.next behind a b) → Ready s K i k b
  ready_behind s i a b K k behind (inl none) = inl none
  ready_behind s i a b K k behind (inr ready) = inr (ready.0, ready.1.2, ready.2)

  ready_before : (s : List ℕ) (i : ℕ) (a b : Tree) (K : ℕ → Type 0) (k : Bool) (behind : _) → Ready s K i k (Tree.next behind a b) → Ready s (Back (Matches has s (bare b)) K) i (goes behind k) a
  ready_before s i a b K k behind (inl none) = inl none
  ready_before s i a b K k behind (inr ready) = inr (ready.0, ready.1.1, goes_tells (Matches has s (bare b)) (forward has s (bare b)) K (suc i) behind k ready.1.0 ready.2)

  ready_first : (s : List ℕ) (i : ℕ) (a b : Tree) (K : ℕ → Type 0) (k : Bool) → Ready s K i k (Tree.either a b) → Ready s K i k a
  ready_first s i a b K k (inl none) = inl none
  ready_first s i a b K k (inr ready) = inr (ready.0, ready.1.0, ready.2)

  ready_second : (s : List ℕ) (i : ℕ) (a b : Tree) (K : ℕ → Type 0) (k : Bool) → Ready s K i k (Tree.either a b) → Ready s K i k b
  ready_second s i a b K k (inl none) = inl none
  ready_second s i a b K k (inr ready) = inr (ready.0, ready.1.1, ready.2)

  ready_round : (s : List ℕ) (i : ℕ) (a : Tree) (K : ℕ → Type 0) (k round : Bool) → Ready s K i k (Tree.many round a) → Ready s (After (Matches has s (bare a)) K) i (k || round) a
  ready_round s i a K k round (inl none) = inl none
  ready_round s i a K k round (inr ready) = inr (ready.0, ready.1.1, again_tells (Matches has s (bare a)) (forward has s (bare a)) K (suc i) k round ready.2 ready.1.0)

  ready_ahead : (s : List ℕ) (i : ℕ) (a : Tree) (absent : Bool) (K : ℕ → Type 0) (k : Bool) → Ready s K i k (Tree.ahead absent a) → Ready s (Within s) i true a
  ready_ahead s i a absent K k (inl none) = inl none
  ready_ahead s i a absent K k (inr ready) = inr (ready.0, ready.1, tells_yes ready.0)

  module _ (s : List ℕ) (i : ℕ) (within : i ≤ length s) where
    abbrev At : (ℕ → Type 0) → Bool → Tree → Type 0
    At K k t = Sees (Matches has s (bare t)) K i (see has (nat_eq i 0) (slice_get s i) k t) × Right s K i (step has (nat_eq i 0) (slice_get s i) k t)

    -- what is seen at a place is true there, and so are the new notes
    pub stepped : (t : Tree) (K : ℕ → Type 0) (k : Bool) → Ready s K i k t → At K k t
    stepped Tree.nothing K k r = ((tells_yes refl, tells_no (λ l. omega (arith, l.1, l.2))), tt)
    stepped (Tree.one left) K k r = ((tells_no (λ h. omega (arith, h.0)), through_one s K i left k r), tt)
    stepped Tree.start K k r = ((tells_map (first_tells i) (λ e. (refl, e)) (λ h. h.1), tells_no (λ l. omega (arith, l.1, l.2.0))), tt)
    stepped Tree.finish K k r = ((tells_map (end_tells s i within) (λ e. (refl, e)) (λ h. h.1), tells_no (λ l. omega (arith, l.1, l.2.0))), tt)
    stepped (Tree.next behind a b) K k r =
        let A = Matches has s (bare a) in
        let B = Matches has s (bare b) in
        let va = see has (nat_eq i 0) (slice_get s i) (goes behind k) a in
        let vb = see has (nat_eq i 0) (slice_get s i) k b in
        let one = stepped a (Back B K) (goes behind k) (ready_before s i a b K k behind r) in
        let two = stepped b K k (ready_behind s i a b K k behind r) in
        let notes = subst (λ sh. Sees (Matches has s sh) K i vb × Right s (Back (Matches has s sh) K) i (step has (nat_eq i 0) (slice_get s i) (goes behind k) a)) (sym (shape_kept (nat_eq i 0) (slice_get s i) k b)) (two.0, one.1) in (
          (
            next_void A B K i (forward has s (bare a)) (forward has s (bare b)) va.empty vb.empty one.0.0 two.0.0,
            next_some A B K i (forward has s (bare a)) (forward has s (bare b)) va.empty va.on vb.on one.0.0 one.0.1 two.0.1,
          ),
          (notes.0, notes.1, two.1),
        )
    stepped (Tree.either a b) K k r =
        let va = see has (nat_eq i 0) (slice_get s i) k a in
        let vb = see has (nat_eq i 0) (slice_get s i) k b in
        let one = stepped a K k (ready_first s i a b K k r) in
        let two = stepped b K k (ready_second s i a b K k r) in
        ((tells_or va.empty vb.empty one.0.0 two.0.0, either_some (Matches has s (bare a)) (Matches has s (bare b)) K i va.on vb.on one.0.1 two.0.1), (one.1, two.1))
    stepped (Tree.many round a) K k r =
        let A = Matches has s (bare a) in
        let on = forward has s (bare a) in
        let va = see has (nat_eq i 0) (slice_get s i) (k || round) a in
        let one = stepped a (After A K) (k || round) (ready_round s i a K k round r) in
        let notes = subst (λ sh. Tells va.on (Later (Matches has s sh) (After (Matches has s sh) K) i) × Right s (After (Matches has s sh) K) i (step has (nat_eq i 0) (slice_get s i) (k || round) a)) (sym (shape_kept (nat_eq i 0) (slice_get s i) (k || round) a)) (one.0.1, one.1) in
        ((tells_map one.0.0 (last i) (rounds_here A on i i refl), tells_map one.0.1 (many_later A on K i) (λ l. first_round A on K l.0 i l.1 l.2 l.3)), notes)
    stepped (Tree.ahead absent a) K k r =
        let A = Matches has s (bare a) in
        let va = see has (nat_eq i 0) (slice_get s i) true a in
        let one = stepped a (Within s) true (ready_ahead s i a absent K k r) in
        let way = goes_tells A (forward has s (bare a)) (Within s) i va true one.0 (tells_yes within) in
        let found = tells_map {A = Back A (Within s) i} {B = (k : ℕ) × A i k} way (λ b. (b.0, b.1)) (λ m. (m.0, m.1, inside has s (bare a) i m.0 m.1 within)) in
        ((tells_map (holds_tells absent (goes va true) ((k : ℕ) × A i k) found) (λ h. (refl, h)) (λ h. h.1), tells_no (λ l. omega (arith, l.1, l.2.0))), one.1)
