-- What was written of a request whose body is gathered into pieces, and why its sending stopped.
use Rattle.std.specs.Prelude.{◌≡◌, ◌≢◌, ℕ, ◌*◌, List, [], ◌++◌, length, Option, Some, None, Contains}
use Rattle.std.specs.Io.KnownBytes.{append_known}
use Rattle.form_ports.specs.Written.{WrotePart}
use Rattle.form_ports.specs.Shelf.{at_number, told, HasTold, FileRose, SomeRose}
use Rattle.form_submit.specs.declared.request.Piece.{Piece}
use Rattle.form_submit.specs.declared.request.Piece.TheVariants as piece
use Rattle.form_submit.specs.declared.request.Request.{Request}
use Rattle.form_submit.specs.declared.request.SendFault.{SendFault}
use Rattle.form_submit.specs.declared.request.SendFault.TheVariants as fault
use Rattle.form_submit.specs.PrintedRequest.{piece_size, printed_data, printed_body, printed_request, IsPart, IsBody, file_numbers}

-- ---- what was written of a request

-- the whole request was printed
pub record WroteRequest (contents : List (Option (Option (List ℕ)))) (request : Request)
    (written now : Option (List ℕ)) : Type 0 where
  pub body : List ℕ
  pub is_body : IsBody contents request.body body
  pub lines : now ≡ append_known written (printed_request request body)

-- a front of the printed request was written
pub record WroteRequestPart (contents : List (Option (Option (List ℕ)))) (request : Request)
    (written now : Option (List ℕ)) : Type 0 where
  pub body : List ℕ
  pub is_body : IsBody contents request.body body
  pub lines : WrotePart written now (printed_request request body)

-- the whole body was printed
pub record WroteBody (contents : List (Option (Option (List ℕ)))) (pieces : List Piece)
    (written now : Option (List ℕ)) : Type 0 where
  pub body : List ℕ
  pub is_body : IsBody contents pieces body
  pub lines : now ≡ append_known written (printed_body body)

-- a front of the body's lines was written
pub record WroteBodyPart (contents : List (Option (Option (List ℕ)))) (pieces : List Piece)
    (written now : Option (List ℕ)) : Type 0 where
  pub body : List ℕ
  pub is_body : IsBody contents pieces body
  pub lines : WrotePart written now (printed_body body)

-- ---- why the sending stopped

-- a file of the body tells no content, and gave another number of bytes than its piece's size
pub record IsChanged (contents : List (Option (Option (List ℕ)))) (positions : List (Option ℕ)) (pieces : List Piece)
    (a b : ℕ) : Type 0 where
  pub number : ℕ
  pub named : Contains pieces (piece.File number a)
  pub untold : told contents number ≡ None
  pub stands : at_number positions number ≡ Some (Some b)
  pub differs : a ≢ b

-- of a body: the sink's count rose, the count of a file that a piece names rose, or such a file changed
abbrev pub BodyCause : SendFault → List (Option (Option (List ℕ))) → List (Option ℕ) → List Piece → Type 0
    → List (Option ℕ) → List (Option ℕ) → Type 0
BodyCause fault.Sink contents positions pieces sink_rose before now = sink_rose
BodyCause fault.Blob contents positions pieces sink_rose before now = SomeRose (file_numbers pieces) before now
BodyCause (fault.Changed a b) contents positions pieces sink_rose before now = IsChanged contents positions pieces a b

-- of one file: a count rose, or the file tells nothing and has not its size
abbrev pub FileCause : SendFault → Option (List ℕ) → ℕ → ℕ → Type 0 → Type 0 → Type 0
FileCause fault.Sink content size position sink_rose blob_rose = sink_rose
FileCause fault.Blob content size position sink_rose blob_rose = blob_rose
FileCause (fault.Changed a b) content size position sink_rose blob_rose =
    (a ≡ size) × (b ≡ position) × (a ≢ b) × (content ≡ None)

-- the same, of the file of that number
abbrev pub NumberCause : SendFault → Option (List ℕ) → ℕ → ℕ → List (Option ℕ) → Type 0
    → List (Option ℕ) → List (Option ℕ) → Type 0
NumberCause fault.Sink content number size positions sink_rose before now = sink_rose
NumberCause fault.Blob content number size positions sink_rose before now = FileRose number before now
NumberCause (fault.Changed a b) content number size positions sink_rose before now =
    (a ≡ size) × (at_number positions number ≡ Some (Some b)) × (a ≢ b) × (content ≡ None)

-- ---- bytes that are gathered into pieces

-- what came of a body and is not written yet: the lines of whole pieces, and then bytes that are not printed yet
pub record Gathered : Type 0 where
  pub lines : List ℕ
  pub bytes : List ℕ

abbrev pub nothing : Gathered
nothing = record { lines = []; bytes = [] }

-- Behind the bytes that were kept came these. Whole pieces at the front of all of them were printed, behind the lines
-- that were kept, and the other bytes are kept. A front of these lines was written, and the other lines are kept.
pub record Gathers (written now : Option (List ℕ)) (kept : Gathered) (more : List ℕ) (left : Gathered) : Type 0 where
  pub printed : List ℕ
  pub pieces : ℕ
  pub front : List ℕ
  pub whole : kept.bytes ++ more ≡ printed ++ left.bytes
  pub size : length printed ≡ pieces * piece_size
  pub lines : kept.lines ++ printed_data printed ≡ front ++ left.lines
  pub wrote : now ≡ append_known written front

-- a front of such lines was written
pub record GathersPart (written now : Option (List ℕ)) (kept : Gathered) (more : List ℕ) : Type 0 where
  pub printed : List ℕ
  pub rest : List ℕ
  pub pieces : ℕ
  pub whole : kept.bytes ++ more ≡ printed ++ rest
  pub size : length printed ≡ pieces * piece_size
  pub wrote : WrotePart written now (kept.lines ++ printed_data printed)

-- all bytes of a file of this size were gathered
pub record FileGathers (content : Option (List ℕ)) (size : ℕ) (written now : Option (List ℕ))
    (kept left : Gathered) : Type 0 where
  pub bytes : List ℕ
  pub is_told : HasTold content bytes
  pub is_size : length bytes ≡ size
  pub gathers : Gathers written now kept bytes left

-- a front of the lines of such a file was written
pub record FilePart (content : Option (List ℕ)) (size : ℕ) (written now : Option (List ℕ)) (kept : Gathered) : Type 0 where
  pub bytes : List ℕ
  pub is_told : HasTold content bytes
  pub is_size : length bytes ≡ size
  pub gathers : GathersPart written now kept bytes

-- a piece of a body was gathered
pub record PieceGathers (contents : List (Option (Option (List ℕ)))) (one : Piece) (written now : Option (List ℕ))
    (kept left : Gathered) : Type 0 where
  pub bytes : List ℕ
  pub is_part : IsPart contents one bytes
  pub gathers : Gathers written now kept bytes left

-- a front of its lines was written
pub record PiecePart (contents : List (Option (Option (List ℕ)))) (one : Piece) (written now : Option (List ℕ))
    (kept : Gathered) : Type 0 where
  pub bytes : List ℕ
  pub is_part : IsPart contents one bytes
  pub gathers : GathersPart written now kept bytes
