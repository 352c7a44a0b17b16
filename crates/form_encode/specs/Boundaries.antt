-- Which boundary a multipart body may have (RFC 2046, "Common Syntax": its delimiter occurs in no part).
use Rattle.std.specs.Prelude.{◌≡◌, ℕ, zero, suc, ◌+◌, ◌<◌, Bool, false, not, ◌||◌, List, ◌++◌, length, take, codes, Option, MatchOption, All, Some, slice_get}
use Rattle.std.specs.List.{list_any, position}
use Rattle.memchr.specs.Find.{OccursAt, occurs_at}

-- the most bytes of a boundary (RFC 2046, "Common Syntax")
abbrev pub longest_boundary : ℕ
longest_boundary = 70

-- a boundary as it stands before a part
abbrev pub delimiter : List ℕ → List ℕ
delimiter boundary = codes "--" ++ boundary

-- the boundary's delimiter stands somewhere in the bytes
pub record Occurs (bytes boundary : List ℕ) : Type 0 where
  pub place : ℕ
  pub here : OccursAt bytes (delimiter boundary) place

-- it stands in no part
pub record IsFree (parts : List (List ℕ)) (boundary : List ℕ) : Type 0 where
  pub nowhere : All (λ bytes. ¬ (Occurs bytes boundary)) parts

-- the number of the first boundary that is free, or none where none is
abbrev pub IsFirstFree : List (List ℕ) → List (List ℕ) → Option ℕ → Type 0
IsFirstFree bounds parts answer =
    MatchOption answer (All (λ boundary. ¬ (IsFree parts boundary)) bounds)
    (λ i. (i < length bounds) × ((boundary : List ℕ) → slice_get bounds i ≡ Some boundary → IsFree parts boundary)
    × All (λ boundary. ¬ (IsFree parts boundary)) (take i bounds))

-- ---- the same as functions (the laws `has_delimiter-true`, `is_free-not_taken` and `first_free-only` of proofs/Laws)

-- the needle stands at a place below this one
unfoldable pub occurs_below : List ℕ → List ℕ → ℕ → Bool
occurs_below bytes needle zero = false
occurs_below bytes needle (suc place) = occurs_below bytes needle place || occurs_at bytes needle place

-- the boundary's delimiter stands somewhere in the bytes
abbrev pub has_delimiter : List ℕ → List ℕ → Bool
has_delimiter bytes boundary = occurs_below bytes (delimiter boundary) (length bytes + 1)

-- it stands in a part
unfoldable pub is_taken : List (List ℕ) → List ℕ → Bool
is_taken parts boundary = list_any (λ bytes. has_delimiter bytes boundary) parts

-- the number of the first boundary that stands in no part, or none
unfoldable pub first_free : List (List ℕ) → List (List ℕ) → Option ℕ
first_free bounds parts = position (λ boundary. not (is_taken parts boundary)) bounds
