-- Contents, their pieces and their elements.
use Rattle.std.specs.Prelude.{ℕ, suc, ◌+◌, List, [], ◌∷◌, ◌++◌, Option, Some}
use Rattle.form_markup.specs.Names.{tag_named}
use Rattle.form_tree.specs.declared.node.Raw.{Raw}

-- a start tag, or the tag of a void element: the element's name as it is written, and its attributes
pub record Tagged : Type 0 where
  pub name : List ℕ
  pub attrs : List (List ℕ × List ℕ)

-- A piece is a start tag, a void element's tag, such a tag past a limit of its own, an end tag, characters or a
-- reference, decoded, or a comment or doctype.
pub data Piece : Type 0 where
  Start : (tagged : Tagged) → Piece
  Void : (tagged : Tagged) → Piece
  Oversized : Piece
  End : (name : List ℕ) → Piece
  Characters : (bytes : List ℕ) → Piece
  Ignored : Piece

-- Contents are none, or one content and the contents after it. A content is characters, a comment or doctype, a void
-- element, or an element with its own contents and its end tag, whose name may be written in another case.
pub data Contents : Type 0 where
  Nothing : Contents
  Shown : (bytes : List ℕ) → (after : Contents) → Contents
  Hidden : (after : Contents) → Contents
  Empty : (tagged : Tagged) → (after : Contents) → Contents
  Element : (tagged : Tagged) → (inside : Contents) → (end : List ℕ) → (after : Contents) → Contents

abbrev pub pieces_of : Contents → List Piece
pieces_of Nothing = []
pieces_of (Shown bytes after) = Characters bytes ∷ pieces_of after
pieces_of (Hidden after) = Ignored ∷ pieces_of after
pieces_of (Empty tagged after) = Void tagged ∷ pieces_of after
pieces_of (Element tagged inside end after) = Start tagged ∷ (pieces_of inside ++ (End end ∷ pieces_of after))

-- the text that stands directly in the contents
abbrev pub text_of : Contents → List ℕ
text_of Nothing = []
text_of (Shown bytes after) = bytes ++ text_of after
text_of (Hidden after) = text_of after
text_of (Empty tagged after) = text_of after
text_of (Element tagged inside end after) = text_of after

-- how many elements there are
abbrev pub count_of : Contents → ℕ
count_of Nothing = 0
count_of (Shown bytes after) = count_of after
count_of (Hidden after) = count_of after
count_of (Empty tagged after) = suc (count_of after)
count_of (Element tagged inside end after) = suc (count_of inside + count_of after)

-- an element: the place of its parent, its tag and its text
abbrev pub raw_of : Option ℕ → Tagged → List ℕ → Raw
raw_of parent tagged text = record { parent = parent; tag = tag_named tagged.name; attrs = tagged.attrs; text = text }

-- the elements in order, of which the first has this place
abbrev pub raws_of : Option ℕ → ℕ → Contents → List Raw
raws_of parent place Nothing = []
raws_of parent place (Shown bytes after) = raws_of parent place after
raws_of parent place (Hidden after) = raws_of parent place after
raws_of parent place (Empty tagged after) = raw_of parent tagged [] ∷ raws_of parent (suc place) after
raws_of parent place (Element tagged inside end after) =
    raw_of parent tagged (text_of inside)
    ∷ (raws_of (Some place) (suc place) inside ++ raws_of parent (suc place + count_of inside) after)
