-- Multipart bodies (HTML, "Multipart form data"; RFC 7578).
use Rattle.std.specs.Prelude.{ℕ, Bool, ◌==◌, ◌||◌, List, [], ◌∷◌, ◌++◌, codes, if◌then◌else◌}
use Rattle.std.specs.List.{flat_map}
use Rattle.form_text.specs.Bytes.{line_feed, carriage_return, quote}
use Rattle.form_text.specs.LineEnds.{with_crlf}
use Rattle.form_encode.specs.PlainText.{crlf}
use Rattle.form_encode.specs.Boundaries.{delimiter}
use Rattle.form_encode.specs.declared.entry.Entry.{Entry}
use Rattle.form_encode.specs.declared.entry.Given.{Given}
use Rattle.form_encode.specs.declared.entry.Given.TheVariants.{Text, File}

-- LF, CR and `"` have an escape in a name
abbrev pub has_escape : ℕ → Bool
has_escape b = (b == line_feed) || ((b == carriage_return) || (b == quote))

abbrev pub escaped_byte : ℕ → List ℕ
escaped_byte b =
    if b == line_feed then codes "%0A"
    else (if b == carriage_return then codes "%0D" else (if b == quote then codes "%22" else b ∷ []))

abbrev pub escaped : List ℕ → List ℕ
escaped text = flat_map escaped_byte text

-- a parameter of that name with an escaped text
unfoldable pub parameter : List ℕ → List ℕ → List ℕ
parameter name text = codes "; " ++ (name ++ (codes "=\"" ++ (escaped text ++ codes "\"")))

-- the parameter of a file's name
abbrev pub file_name_parameter : Given → List ℕ
file_name_parameter (Text text) = []
file_name_parameter (File number name) = parameter (codes "filename") name

-- the line of a file's type
abbrev pub type_line : Given → List ℕ
type_line (Text text) = []
type_line (File number name) = codes "Content-Type: application/octet-stream" ++ crlf

-- how the line begins that says which control the part is of
unfoldable pub disposition_start : List ℕ
disposition_start = codes "Content-Disposition: form-data"

-- that line
unfoldable pub disposition : List ℕ → Given → List ℕ
disposition name value =
    disposition_start ++ (parameter (codes "name") name ++ (file_name_parameter value ++ codes "\r\n"))

-- what stands before the bytes of an entry: the delimiter's line, the header lines, an empty line
unfoldable pub head_with : List ℕ → Given → List ℕ → List ℕ
head_with name value boundary =
    delimiter boundary ++ (codes "\r\n" ++ (disposition name value ++ (type_line value ++ codes "\r\n")))

abbrev pub head_of : Entry → List ℕ → List ℕ
head_of entry boundary = head_with (with_crlf entry.name) entry.value boundary

-- what stands behind the bytes of the last entry
abbrev pub closing_line : List ℕ → List ℕ
closing_line boundary = delimiter boundary ++ (codes "--" ++ crlf)

-- the part of an entry with these bytes
abbrev pub part_of : List ℕ → Entry × List ℕ → List ℕ
part_of boundary part = head_of part.0 boundary ++ (part.1 ++ crlf)

-- the body of entries with their bytes
abbrev pub multipart_body : List ℕ → List (Entry × List ℕ) → List ℕ
multipart_body boundary parts = flat_map (part_of boundary) parts ++ closing_line boundary
