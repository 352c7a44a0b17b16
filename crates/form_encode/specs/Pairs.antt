-- Converting an entry list to a list of name-value pairs (HTML, section of that name).
use Rattle.std.specs.Prelude.{ℕ, List, map}
use Rattle.form_text.specs.LineEnds.{with_crlf}
use Rattle.form_encode.specs.declared.entry.Entry.{Entry}
use Rattle.form_encode.specs.declared.entry.Given.{Given}
use Rattle.form_encode.specs.declared.entry.Given.TheVariants.{Text, File}
use Rattle.form_encode.specs.declared.entry.Pair.{Pair}

-- a text with each line end made CR LF; of a file its name, as it is
abbrev pub value_text : Given → List ℕ
value_text (Text text) = with_crlf text
value_text (File number name) = name

-- the pair of an entry
abbrev pub pair_of : Entry → Pair
pair_of entry = record { name = with_crlf entry.name; value = value_text entry.value }

-- the pairs of an entry list
abbrev pub pairs_of : List Entry → List Pair
pairs_of entries = map pair_of entries
