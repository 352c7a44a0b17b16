-- What the reader keeps of the attributes of a tag.
use Rattle.std.specs.List.{list_any}
use Rattle.std.specs.Prelude.{Bool, List, Ok, Result, [], false, if◌then◌else◌, nat_le, true, ℕ, ◌++◌, ◌+◌, ◌||◌, ◌∷◌}
use Rattle.form_tree.specs.Tree.{is_named}
use Rattle.form_tokens.specs.Attributes.{attributes_at, is_long}
use Rattle.form_tokens.specs.Readers.{◌>>=◌}
use Rattle.form_tokens.specs.declared.TheConstants.{MOST_ATTRIBUTES}
use Rattle.form_tokens.specs.declared.attributes.Attributes.{Attributes}
use Rattle.form_tokens.specs.declared.fault.Fault.{Fault}

abbrev pub attributes : List (List ℕ × List ℕ) → ℕ → Bool → Attributes
attributes kept count oversized = record { kept = kept; count = count; oversized = oversized }

abbrev pub no_attributes : Attributes
no_attributes = attributes [] 0 false

-- with an attribute of a name that is not kept yet
abbrev pub kept_with : List (List ℕ × List ℕ) → List ℕ × List ℕ → List (List ℕ × List ℕ)
kept_with kept attr = if list_any (is_named attr.0) kept then kept else kept ++ (attr ∷ [])

-- after one more attribute
abbrev pub added : Attributes → List ℕ × List ℕ → Attributes
added a attr =
    if a.oversized then a
    else (if nat_le MOST_ATTRIBUTES a.count || is_long attr then attributes a.kept a.count true
    else attributes (kept_with a.kept attr) (a.count + 1) false)

abbrev pub all_added : Attributes → List (List ℕ × List ℕ) → Attributes
all_added a [] = a
all_added a (attr ∷ attrs) = all_added (added a attr) attrs

-- what is kept of attributes as they are written
abbrev pub kept_of : List (List ℕ × List ℕ) → Attributes
kept_of attrs = all_added no_attributes attrs

-- what is kept of all attributes at the front
abbrev pub kept_at : List ℕ → Result (Attributes × List ℕ) Fault
kept_at text = attributes_at text >>= λ xs. Ok (kept_of xs.0, xs.1)
