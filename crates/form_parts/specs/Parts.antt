-- The parts of a multipart body, and what is known once they were read.
use Rattle.std.specs.Prelude.{◌≡◌, ℕ, ◌+◌, ◌<◌, ◌≤◌, List, [], ◌∷◌, ◌++◌, length, map, flat_map, sum, Contains, Option, Some, None, IfSome}
use Rattle.std.specs.List.{AllZip, zip}
use Rattle.form_text.specs.LineEnds.{with_crlf}
use Rattle.form_ports.specs.Shelf.{at_number, told, HasTold, LastSizes, Passes, total}
use Rattle.form_encode.specs.declared.entry.Entry.{Entry}
use Rattle.form_encode.specs.declared.entry.Given.{Given}
use Rattle.form_encode.specs.declared.entry.Given.TheVariants.{Text, File}
use Rattle.form_encode.specs.Boundaries.{first_free}
use Rattle.form_encode.specs.Scanning.{Scanned, StandsFor}
use Rattle.form_parts.specs.declared.parts.Parts.{Parts}

-- ---- the parts

-- the number of a value's file, where it has one
abbrev pub given_number : Given → List ℕ
given_number (Text text) = []
given_number (File None name) = []
given_number (File (Some number) name) = number ∷ []

abbrev pub file_number : Entry → List ℕ
file_number entry = given_number entry.value

-- the numbers of the files that entries name, in entry order
unfoldable pub file_numbers : List Entry → List ℕ
file_numbers entries = flat_map file_number entries

-- these are the bytes of a value's part: a text with its line ends made CR LF, what the file tells, none of the empty
-- file
abbrev pub IsGivenPart : List (Option (Option (List ℕ))) → Given → List ℕ → Type 0
IsGivenPart contents (Text text) part = part ≡ with_crlf text
IsGivenPart contents (File None name) part = part ≡ []
IsGivenPart contents (File (Some number) name) part = HasTold (told contents number) part

abbrev pub IsPart : List (Option (Option (List ℕ))) → Entry → List ℕ → Type 0
IsPart contents entry part = IsGivenPart contents entry.value part

-- the part, where it is a file's
abbrev pub given_file : Given → List ℕ → List (List ℕ)
given_file (Text text) part = []
given_file (File None name) part = []
given_file (File (Some number) name) part = part ∷ []

abbrev pub file_part : Entry × List ℕ → List (List ℕ)
file_part pair = given_file pair.0.value pair.1

-- the parts that are files', in entry order
unfoldable pub file_parts : List Entry → List (List ℕ) → List (List ℕ)
file_parts entries parts = flat_map file_part (zip entries parts)

-- ---- what is known of them

-- The entries have these parts, one each: of these sizes, of which the first free boundary is the answer's, and whose
-- files have at most so many bytes together. Each file stands where its last reading ended.
pub record HasParts (contents : List (Option (Option (List ℕ)))) (positions : List (Option ℕ)) (entries : List Entry)
    (bounds : List (List ℕ)) (most : ℕ) (answer : Parts) : Type 0 where
  pub parts : List (List ℕ)
  pub each : AllZip (IsPart contents) entries parts
  pub sizes : answer.sizes ≡ map (λ part. length part) parts
  pub boundary : answer.boundary ≡ first_free bounds parts
  pub few : total (file_parts entries parts) ≤ most
  pub last : LastSizes positions (file_numbers entries) (map (λ part. length part) (file_parts entries parts))

-- Reading stopped at the byte that passes what these files may have together, and no file behind was touched.
pub record StopsPast {B : Type 0} (contents : List (Option (Option (List ℕ)))) (positions : List (Option ℕ))
    (numbers : List ℕ) (most : ℕ) (old new : List (Option B)) : Type 0 where
  pub passes : Passes contents positions numbers most
  pub one_byte : sum passes.sizes ≡ most + 1
  pub others : (k : ℕ) → ¬ (Contains passes.front k) → at_number new k ≡ at_number old k

-- the file of the one number has more bytes than may be, and it was read one byte past that
pub record FileLonger (contents : List (Option (Option (List ℕ)))) (positions : List (Option ℕ)) (numbers : List ℕ)
    (most : ℕ) : Type 0 where
  pub number : ℕ
  pub only : numbers ≡ number ∷ []
  pub longer : IfSome (told contents number) (λ all. most < length all)
  pub stands : at_number positions number ≡ Some (Some (most + 1))

-- how many bytes of a value's part are a file's
abbrev pub file_size : Given → ℕ → ℕ
file_size (Text text) size = 0
file_size (File None name) size = 0
file_size (File (Some number) name) size = size

-- ---- what a scan was fed

-- these bytes of the open part
pub record Fed (old new : Scanned) (bytes : List ℕ) : Type 0 where
  pub stands : (bounds ended : List (List ℕ)) (part : List ℕ) → StandsFor old bounds ended part
      → StandsFor new bounds ended (part ++ bytes)

-- these parts, each of them ended
pub record FedParts (old new : Scanned) (parts : List (List ℕ)) : Type 0 where
  pub stands : (bounds ended : List (List ℕ)) → StandsFor old bounds ended [] → StandsFor new bounds (ended ++ parts) []

-- all bytes of a file
pub record FedFile (content : Option (List ℕ)) (size : ℕ) (old new : Scanned) : Type 0 where
  pub bytes : List ℕ
  pub is_told : HasTold content bytes
  pub is_size : length bytes ≡ size
  pub fed : Fed old new bytes

-- a text, with its line ends made CR LF
pub record FedText (text : List ℕ) (size : ℕ) (old new : Scanned) : Type 0 where
  pub is_size : length (with_crlf text) ≡ size
  pub fed : Fed old new (with_crlf text)

-- the part of a value, of which at most so many bytes are a file's
pub record FedPart (contents : List (Option (Option (List ℕ)))) (positions : List (Option ℕ)) (value : Given)
    (most size : ℕ) (old new : Scanned) : Type 0 where
  pub part : List ℕ
  pub is_part : IsGivenPart contents value part
  pub is_size : length part ≡ size
  pub few : file_size value size ≤ most
  pub last : LastSizes positions (given_number value) (map (λ part. length part) (given_file value part))
  pub fed : Fed old new part

-- the parts of these entries
pub record FedEntries (contents : List (Option (Option (List ℕ)))) (positions : List (Option ℕ)) (entries : List Entry)
    (most : ℕ) (sizes : List ℕ) (old new : Scanned) : Type 0 where
  pub parts : List (List ℕ)
  pub each : AllZip (IsPart contents) entries parts
  pub is_size : sizes ≡ map (λ part. length part) parts
  pub few : total (file_parts entries parts) ≤ most
  pub last : LastSizes positions (file_numbers entries) (map (λ part. length part) (file_parts entries parts))
  pub fed : FedParts old new parts
