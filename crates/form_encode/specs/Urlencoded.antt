-- Form-urlencoded texts (URL Standard, "application/x-www-form-urlencoded serializing").
use Rattle.std.specs.Prelude.{ℕ, List, map}
use Rattle.std.specs.List.{join_with_byte}
use Rattle.form_urlencoded.specs.Form.{ampersand, serialize_pair}
use Rattle.form_encode.specs.declared.entry.Pair.{Pair}

-- `name=value`, each of the two with its bytes escaped
abbrev pub field : Pair → List ℕ
field pair = serialize_pair (pair.name, pair.value)

-- the fields of the pairs, with `&` between each two
abbrev pub urlencoded_text : List Pair → List ℕ
urlencoded_text pairs = join_with_byte ampersand (map field pairs)
