-- Which stretches of a text a pattern matches, and which its tree does.
use Rattle.std.specs.Prelude.{◌≡◌, ℕ, zero, suc, ◌+◌, ◌≤◌, Bool, true, false, ◌⊎◌, List, length, Option, Some, None, slice_get}
use Rattle.form_pattern.specs.declared.tokens.High.{High}
use Rattle.form_pattern.specs.declared.tokens.High.TheVariants.{Times, Endless, Sign}
use Rattle.form_pattern.specs.Membership.{chars_have}
use Rattle.form_pattern.specs.Pattern.{Pattern}
use Rattle.form_pattern.specs.Pieces.{Tree}

-- the test of the character at a place, if one is there
abbrev pub passes : (ℕ → Bool) → Option ℕ → Bool
passes test None = false
passes test (Some c) = test c

-- n stretches of R lead from i to j
abbrev pub Turns : ℕ → (ℕ → ℕ → Type 0) → ℕ → ℕ → Type 0
Turns zero R i j = j ≡ i
Turns (suc n) R i j = (k : ℕ) × R i k × Turns n R k j

-- so many are within a greatest count
abbrev pub IsUpTo : ℕ → High → Type 0
IsUpTo n (Times high) = n ≤ high
IsUpTo n Endless = Unit {0}
IsUpTo n Sign = Unit {0}

abbrev pub Holds : Bool → Type 0 → Type 0
Holds true A = A → ⊥
Holds false A = A

abbrev pub Means : List ℕ → Pattern → ℕ → ℕ → Type 0
Means s Pattern.nothing i j = j ≡ i
Means s Pattern.start i j = (j ≡ i) × (i ≡ 0)
Means s Pattern.finish i j = (j ≡ i) × (i ≡ length s)
Means s (Pattern.one cs) i j = (j ≡ i + 1) × (passes (chars_have cs) (slice_get s i) ≡ true)
Means s (Pattern.next a b) i j = (k : ℕ) × Means s a i k × Means s b k j
Means s (Pattern.either a b) i j = Means s a i j ⊎ Means s b i j
Means s (Pattern.repeat low high a) i j = (n : ℕ) × (low ≤ n) × IsUpTo n high × Turns n (Means s a) i j
Means s (Pattern.ahead absent a) i j = (j ≡ i) × Holds absent ((k : ℕ) × Means s a i k)

-- one or more stretches of R lead from i to j
pub data Rounds (R : ℕ → ℕ → Type 0) (j : ℕ) : ℕ → Type 0 where
  last : (i : ℕ) → R i j → Rounds R j i
  more : (i k : ℕ) → R i k → Rounds R j k → Rounds R j i

-- the same of a tree, where the characters of its leaves are known by their places
abbrev pub Matches : (ℕ → ℕ → Bool) → List ℕ → Tree → ℕ → ℕ → Type 0
Matches has s Tree.nothing i j = j ≡ i
Matches has s Tree.start i j = (j ≡ i) × (i ≡ 0)
Matches has s Tree.finish i j = (j ≡ i) × (i ≡ length s)
Matches has s (Tree.one left) i j = (j ≡ i + 1) × (passes (has left) (slice_get s i) ≡ true)
Matches has s (Tree.next behind a b) i j = (k : ℕ) × Matches has s a i k × Matches has s b k j
Matches has s (Tree.either a b) i j = Matches has s a i j ⊎ Matches has s b i j
Matches has s (Tree.many round a) i j = Rounds (Matches has s a) j i
Matches has s (Tree.ahead absent a) i j = (j ≡ i) × Holds absent ((k : ℕ) × Matches has s a i k)
