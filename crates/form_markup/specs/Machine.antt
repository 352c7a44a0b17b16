-- What the reader has read, one piece after another.
use Rattle.std.specs.Prelude.{ℕ, string_bytes, map, zero, suc, List, [], ◌∷◌, ◌++◌, Option, Some, None, length, Result, Ok, Err}
use Rattle.form_markup.specs.Contents.{Tagged, Piece, Start, Void, Oversized, End, Characters, Ignored, raw_of}
use Rattle.form_markup.specs.Names.{tag_named}
use Rattle.form_markup.specs.Faults.{Outer, fault_of, tags_round}
use Rattle.form_tokens.specs.Readers.{◌>>=◌}
use Rattle.form_markup.specs.Pieces.{piece_in}
use Rattle.form_tokens.specs.declared.fault.Fault.{Fault}
use Rattle.form_markup.specs.declared.machine.Machine.{Machine}
use Rattle.form_markup.specs.declared.machine.Open.{Open}
use Rattle.form_markup.specs.declared.piece.Found.{Found}
use Rattle.form_markup.specs.declared.piece.Found.TheVariants as found
use Rattle.form_markup.specs.declared.piece.Head.{Head}
use Rattle.form_tree.specs.declared.node.Raw.{Raw}
use Rattle.form_tree.specs.declared.node.Tag.{Tag}

-- ---- the pieces that the reader finds

abbrev pub tagged_of : Head → Tagged
tagged_of head = record { name = head.name.now; attrs = head.attrs }

abbrev pub piece_of : Found → Piece
piece_of (found.Start head) = Start (tagged_of head)
piece_of (found.Void head) = Void (tagged_of head)
piece_of found.Oversized = Oversized
piece_of (found.End name) = End name.now
piece_of found.Ignored = Ignored

-- ---- the open elements and the elements so far

-- an open element: the place of the element, what it is, its name, and its text so far
pub record Level : Type 0 where
  pub place : ℕ
  pub tag : Tag
  pub name : List ℕ
  pub text : List ℕ

-- what was read: the open elements, the innermost first, and the elements, of which the open ones have no text yet
pub record State : Type 0 where
  pub levels : List Level
  pub raws : List Raw

abbrev pub level_of : Open → Level
level_of o = record { place = o.place; tag = o.tag; name = o.name.now; text = string_bytes o.text }

abbrev pub levels_of : List Open → List Level
levels_of os = map level_of os

abbrev pub state : List Level → List Raw → State
state levels raws = record { levels = levels; raws = raws }

abbrev pub state_of : Machine → State
state_of m = state (levels_of m.stack) m.raws

abbrev pub outer_of_level : Level → Outer
outer_of_level o = record { tag = o.tag; name = o.name }

abbrev pub outers_of : List Level → List Outer
outers_of os = map outer_of_level os

-- the open elements of the text, the innermost first
abbrev pub outers_in : Machine → List Outer
outers_in m = outers_of (levels_of m.stack)

-- the tags of the elements round the next piece, the innermost first
abbrev pub round_of : List Tag → Machine → List Tag
round_of around m = tags_round around (outers_of (levels_of m.stack))

abbrev pub parent_of : List Level → Option ℕ
parent_of [] = None
parent_of (o ∷ os) = Some o.place

-- the element at the place has this text
abbrev pub with_text : ℕ → List ℕ → List Raw → List Raw
with_text n text [] = []
with_text zero text (r ∷ rs) = record r { text = text } ∷ rs
with_text (suc n) text (r ∷ rs) = r ∷ with_text n text rs

abbrev pub with_more : List ℕ → Level → Level
with_more bytes o = record { place = o.place; tag = o.tag; name = o.name; text = o.text ++ bytes }

abbrev pub more_text : List ℕ → List Level → List Level
more_text bytes [] = []
more_text bytes (o ∷ os) = with_more bytes o ∷ os

abbrev pub closed : List Level → List Raw → State
closed [] raws = state [] raws
closed (o ∷ os) raws = state os (with_text o.place o.text raws)

-- an element that is open now, without text yet
abbrev pub opened : ℕ → Tag → List ℕ → Level
opened place tag name = record { place = place; tag = tag; name = name; text = [] }

abbrev pub level : List Raw → Tagged → Level
level raws tagged = opened (length raws) (tag_named tagged.name) tagged.name

abbrev pub with_raw : List Level → List Raw → Tagged → List Raw
with_raw levels raws tagged = raws ++ (raw_of (parent_of levels) tagged [] ∷ [])

-- what was read after a piece
abbrev pub after : State → Piece → State
after m (Start tagged) = state (level m.raws tagged ∷ m.levels) (with_raw m.levels m.raws tagged)
after m (Void tagged) = state m.levels (with_raw m.levels m.raws tagged)
after m Oversized = m
after m (End end) = closed m.levels m.raws
after m (Characters bytes) = state (more_text bytes m.levels) m.raws
after m Ignored = m

abbrev pub after_all : State → List Piece → State
after_all m [] = m
after_all m (piece ∷ pieces) = after_all (after m piece) pieces

-- what is read behind a piece and its fault
abbrev pub judged : Option Fault → State → List ℕ → Result (State × List ℕ) Fault
judged None m rest = Ok (m, rest)
judged (Some kind) m rest = Err kind

-- the piece at the front of the text is taken
unfoldable pub turn : List Tag → State → List ℕ → Result (State × List ℕ) Fault
turn around m text =
    piece_in (outers_of m.levels) text
    >>= λ x. judged (fault_of around (outers_of m.levels) (length m.raws) x.0) (after m x.0) x.1
