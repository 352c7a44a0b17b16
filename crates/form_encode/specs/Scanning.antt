-- What a scan over the bytes of parts keeps, and for which parts it stands.
use Rattle.std.specs.Prelude.{◌≡◌, ◌≢◌, ℕ, ◌+◌, ◌-◌, ◌<◌, ◌≤◌, Bool, true, not, ◌||◌, List, [], ◌∷◌, ◌++◌, length, map, drop, slice_index}
use Rattle.memchr.specs.Find.{OccursAt, Nowhere}
use Rattle.form_encode.specs.declared.scanning.Mark.{Mark}
use Rattle.form_encode.specs.Boundaries.{delimiter, has_delimiter, is_taken, longest_boundary, occurs_below}

-- ---- what a scan stands for

-- The bytes of the open part that a delimiter may begin in and not end in: one less than the bytes of
-- the longest delimiter.
abbrev pub overlap : ℕ
overlap = longest_boundary + 1

-- the last bytes, at most so many
unfoldable pub last_bytes : ℕ → List ℕ → List ℕ
last_bytes most bytes = drop (length bytes - most) bytes

-- a boundary, and whether its delimiter stands in one of these parts
abbrev pub mark_of : List (List ℕ) → List ℕ → Mark
mark_of parts boundary = record { boundary = boundary; taken = is_taken parts boundary }

abbrev pub is_untaken : Mark → Bool
is_untaken mark = not mark.taken

-- what is kept: of each boundary whether it is taken, and the last bytes of the open part
pub record Scanned : Type 0 where
  pub marks : List Mark
  pub tail : List ℕ

-- The scan looks for these boundaries; it was fed these parts that are ended, and of the open part
-- these bytes.
pub record StandsFor (scan : Scanned) (bounds ended : List (List ℕ)) (part : List ℕ) : Type 0 where
  pub marks : scan.marks ≡ map (mark_of (ended ++ part ∷ [])) bounds
  pub tail : scan.tail ≡ last_bytes overlap part

-- ---- runs of dashes

-- the two dashes that every delimiter begins with
abbrev pub two_dashes : List ℕ
two_dashes = 45 ∷ 45 ∷ []

-- From `start` to `end` stand two dashes or more, no other behind them, and no two dashes stand from
-- `from` on before them.
pub record IsRun (bytes : List ℕ) (from start end : ℕ) : Type 0 where
  pub low : from ≤ start
  pub long : start + 2 ≤ end
  pub high : end ≤ length bytes
  pub before : Nowhere (OccursAt bytes two_dashes) from start
  pub dashes : (k : ℕ) → start ≤ k → k < end → slice_index bytes k ≡ 45
  pub other : end < length bytes → slice_index bytes end ≢ 45

-- the mark after a delimiter was looked for at the places below this one
abbrev pub seen_below : List ℕ → ℕ → Mark → Mark
seen_below bytes place mark = record mark { taken = mark.taken || occurs_below bytes (delimiter mark.boundary) place }

-- the boundary is marked where its delimiter stands below this place
abbrev pub HasSeen : List ℕ → ℕ → Mark → Type 0
HasSeen bytes place mark = occurs_below bytes (delimiter mark.boundary) place ≡ true → mark.taken ≡ true

-- the mark after a delimiter was looked for in all the bytes
abbrev pub seen_in : List ℕ → Mark → Mark
seen_in bytes mark = record mark { taken = mark.taken || has_delimiter bytes mark.boundary }
