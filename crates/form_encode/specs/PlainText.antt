-- Plain-text bodies (HTML, "Plain text form data").
use Rattle.std.specs.Prelude.{ℕ, List, [], ◌∷◌, ◌++◌}
use Rattle.std.specs.List.{flat_map}
use Rattle.form_text.specs.Bytes.{line_feed, carriage_return}
use Rattle.form_urlencoded.specs.Form.{equals_sign}
use Rattle.form_encode.specs.declared.entry.Pair.{Pair}

-- what ends a line of a body
abbrev pub crlf : List ℕ
crlf = carriage_return ∷ line_feed ∷ []

-- `name=value`, and the end of a line
abbrev pub plain_line : Pair → List ℕ
plain_line pair = pair.name ++ (equals_sign ∷ (pair.value ++ crlf))

-- the lines of all pairs
abbrev pub plain_text : List Pair → List ℕ
plain_text pairs = flat_map plain_line pairs
