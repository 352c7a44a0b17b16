-- What a text spells, and its first fault.
use Rattle.std.specs.Prelude.{◌≡◌, ℕ, ◌+◌, List, [], ◌∷◌, Option, Some, None, Result, Ok, Err, length}
use Rattle.form_tree.specs.declared.node.Raw.{Raw}
use Rattle.form_tree.specs.declared.node.Tag.{Tag}
use Rattle.form_markup.specs.Contents.{Contents, Piece, pieces_of, raws_of}
use Rattle.form_markup.specs.Faults.{Outer, IsFine, fault_of, opens, opens_all, counts_all}
use Rattle.form_markup.specs.Pieces.{piece_in}
use Rattle.form_tokens.specs.declared.fault.Fault.{Fault}
use Rattle.form_tokens.specs.declared.fault.Fault.TheVariants as faults
use Rattle.form_markup.specs.declared.fault.PageFault.{PageFault}
use Rattle.form_markup.specs.declared.fault.PageFault.TheVariants as pages
use Rattle.form_tokens.specs.declared.fault.Stop.{Stop}
use Rattle.form_tokens.specs.declared.fault.Stop.TheVariants as stops

-- The pieces stand one after another at the front of the text, and the rest behind them.
abbrev pub IsCut : List Outer → List Piece → List ℕ → List ℕ → Type 0
IsCut outers [] text rest = text ≡ rest
IsCut outers (piece ∷ pieces) text rest =
    (between : List ℕ) × (piece_in outers text ≡ Ok (piece, between)) × IsCut (opens outers piece) pieces between rest

-- The text is the pieces of contents, none with a fault, and the elements are theirs.
pub record Spells (around : List Tag) (text : List ℕ) (raws : List Raw) : Type 0 where
  pub contents : Contents
  pub cut : IsCut [] (pieces_of contents) text []
  pub fine : IsFine around [] 0 (pieces_of contents)
  pub elements : raws ≡ raws_of None 0 contents

-- the fault of what is read at a place
abbrev pub kind_in : List Tag → List Outer → ℕ → Result (Piece × List ℕ) Fault → Option Fault
kind_in around outers n (Err kind) = Some kind
kind_in around outers n (Ok x) = fault_of around outers n x.0

-- the fault that begins here, behind pieces that leave these elements open; at the text's end none may be open
abbrev pub kind_at : List Tag → List Outer → ℕ → List ℕ → Option Fault
kind_at around [] n [] = None
kind_at around (outer ∷ outers) n [] = Some faults.Nesting
kind_at around outers n (b ∷ bs) = kind_in around outers n (piece_in outers (b ∷ bs))

-- Pieces without a fault stand before the place, and there the fault begins.
pub record IsFault (around : List Tag) (text : List ℕ) (kind : Fault) (place : ℕ) : Type 0 where
  pub before : List Piece
  pub rest : List ℕ
  pub cut : IsCut [] before text rest
  pub fine : IsFine around [] 0 before
  pub here : kind_at around (opens_all [] before) (counts_all 0 before) rest ≡ Some kind
  pub stands : place + length rest ≡ length text

-- the fault of a page
abbrev pub page_fault : Stop → ℕ → PageFault
page_fault stops.Memory place = pages.Memory
page_fault (stops.At faults.Lexical) place = pages.Lexical place
page_fault (stops.At faults.Limit) place = pages.Limit place
page_fault (stops.At faults.Element) place = pages.Element place
page_fault (stops.At faults.Email) place = pages.Email place
page_fault (stops.At faults.Nesting) place = pages.Nesting place

-- The text has this fault; of memory nothing is said.
abbrev pub IsPageFault : List Tag → List ℕ → PageFault → Type 0
IsPageFault around text pages.Memory = Unit {0}
IsPageFault around text (pages.Lexical place) = IsFault around text faults.Lexical place
IsPageFault around text (pages.Limit place) = IsFault around text faults.Limit place
IsPageFault around text (pages.Element place) = IsFault around text faults.Element place
IsPageFault around text (pages.Email place) = IsFault around text faults.Email place
IsPageFault around text (pages.Nesting place) = IsFault around text faults.Nesting place

-- What a text gives: what it spells, or its fault; or there was no memory.
abbrev pub IsRead : List Tag → List ℕ → Result (List Raw) PageFault → Type 0
IsRead around text (Ok raws) = Spells around text raws
IsRead around text (Err fault) = IsPageFault around text fault

-- what a call that reads gave, seen by the view, is these elements, or there was no memory
abbrev pub GivesRaws : {X : Type 0} → (X → List Raw) → List Raw → Result X PageFault → Type 0
GivesRaws view raws (Ok given) = view given ≡ raws
GivesRaws view raws (Err fault) = fault ≡ pages.Memory
