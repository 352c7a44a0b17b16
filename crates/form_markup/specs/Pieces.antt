-- The pieces of a text: what begins at a place decides the kind of its piece. Each reader gives what it reads at the
-- front of a text and what stands behind it.
use Rattle.std.specs.Prelude.{ℕ, suc, ◌==◌, ◌&&◌, not, nat_eq, Bool, false, List, [], ◌∷◌, take, drop, Option, Some, None, option_map, Result, Ok, Err, codes, if◌then◌else◌}
use Rattle.std.specs.Char.{is_ascii_alphabetic}
use Rattle.std.specs.List.{prefix_len, starts_with}
use Rattle.std.specs.Str.{str_eq_ignore_ascii_case}
use Rattle.form_text.specs.Bytes.{line_feed}
use Rattle.form_tokens.specs.Bytes.{exclamation_mark, greater_than, less_than, solidus}
use Rattle.form_tokens.specs.Readers.{◌>>=◌}
use Rattle.form_tokens.specs.Runs.{begins, begins_so, behind, behind_space, run_at}
use Rattle.form_tokens.specs.Characters.{chunk_at, closes_textarea}
use Rattle.form_tokens.specs.Attributes.{attributes_at, firsts_behind, is_oversized}
use Rattle.form_tokens.specs.declared.fault.Fault.{Fault}
use Rattle.form_tokens.specs.declared.fault.Fault.TheVariants.{Lexical}
use Rattle.form_tokens.specs.declared.class.Class.TheVariants as classes
use Rattle.form_tokens.specs.declared.chunk.Context.{Context}
use Rattle.form_tokens.specs.declared.chunk.Context.TheVariants as contexts
use Rattle.form_markup.specs.Names.{is_among, void_names}
use Rattle.form_markup.specs.Contents.{Piece, Start, Void, Oversized, End, Characters, Ignored}
use Rattle.form_markup.specs.Faults.{Outer}

abbrev pub is_void : List ℕ → Bool
is_void name = is_among void_names name

-- the piece of a tag that begins an element
abbrev pub tag_piece : List ℕ → List (List ℕ × List ℕ) → Piece
tag_piece name attrs =
    if is_oversized attrs then Oversized
    else (if is_void name then Void (record { name = name; attrs = firsts_behind [] attrs })
    else Start (record { name = name; attrs = firsts_behind [] attrs }))

-- `>`, or `/>` where the element is void
unfoldable pub tag_end : List ℕ → List ℕ → Result (List ℕ) Fault
tag_end name text =
    if is_void name && begins solidus text then behind solidus text >>= behind greater_than
    else behind greater_than text

abbrev pub is_textarea : List ℕ → Bool
is_textarea name = str_eq_ignore_ascii_case name (codes "textarea")

-- behind the start tag of a textarea one LF is dropped
abbrev pub behind_tag : List ℕ → List ℕ → List ℕ
behind_tag name rest = if is_textarea name && begins line_feed rest then drop 1 rest else rest

-- what stands behind `<`
unfoldable pub start_at : List ℕ → Result (Piece × List ℕ) Fault
start_at text = do
  name ← run_at classes.Name text
  attrs ← attributes_at name.1
  rest ← tag_end name.0 (behind_space attrs.1)
  Ok (tag_piece name.0 attrs.0, behind_tag name.0 rest)

-- what stands behind `</`
unfoldable pub end_at : List ℕ → Result (Piece × List ℕ) Fault
end_at text = do
  name ← run_at classes.Name text
  rest ← behind greater_than (behind_space name.1)
  Ok (End name.0, rest)

-- ---- comments and doctypes

abbrev pub comment_end : List ℕ
comment_end = codes "-->"

-- how many bytes there are to behind the first `-->`
abbrev pub comment_len : List ℕ → Option ℕ
comment_len [] = None
comment_len (b ∷ bs) = if starts_with nat_eq (b ∷ bs) comment_end then Some 3 else option_map suc (comment_len bs)

-- what stands behind so many bytes
abbrev pub behind_ignored : List ℕ → Option ℕ → Result (Piece × List ℕ) Fault
behind_ignored text None = Err Lexical
behind_ignored text (Some n) = Ok (Ignored, drop n text)

-- what stands behind `<!--`
unfoldable pub comment_at : List ℕ → Result (Piece × List ℕ) Fault
comment_at text =
    if begins greater_than text then Err Lexical
    else (if starts_with nat_eq text (codes "->") then Err Lexical else behind_ignored text (comment_len text))

abbrev pub is_before_end : ℕ → Bool
is_before_end b = not (b == greater_than)

-- what stands behind `<!doctype`: up to and with the next `>`
unfoldable pub doctype_at : List ℕ → Result (Piece × List ℕ) Fault
doctype_at text = behind greater_than (drop (prefix_len is_before_end text) text) >>= λ rest. Ok (Ignored, rest)

abbrev pub is_doctype : List ℕ → Bool
is_doctype text = str_eq_ignore_ascii_case (take 7 text) (codes "doctype")

-- what stands behind `<!`
unfoldable pub ignored_at : List ℕ → Result (Piece × List ℕ) Fault
ignored_at text =
    if starts_with nat_eq text (codes "--") then comment_at (drop 2 text)
    else (if is_doctype text then doctype_at (drop 7 text) else Err Lexical)

-- ---- pieces

-- what stands behind `</`, where a letter must stand
abbrev pub end_tag_at : List ℕ → Result (Piece × List ℕ) Fault
end_tag_at text = if begins_so is_ascii_alphabetic text then end_at text else Err Lexical

-- what stands behind `<`
unfoldable pub tag_at : List ℕ → Result (Piece × List ℕ) Fault
tag_at text =
    if begins exclamation_mark text then behind exclamation_mark text >>= ignored_at
    else (if begins solidus text then (behind solidus text >>= end_tag_at)
    else (if begins_so is_ascii_alphabetic text then start_at text else Err Lexical))

unfoldable pub characters_at : Context → List ℕ → Result (Piece × List ℕ) Fault
characters_at place text = chunk_at place text >>= λ x. Ok (Characters x.0, x.1)

-- the piece at the front of the text, outside a textarea
unfoldable pub piece_at : List ℕ → Result (Piece × List ℕ) Fault
piece_at text = if begins less_than text then behind less_than text >>= tag_at else characters_at contexts.Content text

-- the piece at the front of a textarea's text: characters, references and the end tag alone
unfoldable pub raw_at : List ℕ → Result (Piece × List ℕ) Fault
raw_at text = if closes_textarea text then behind less_than text >>= tag_at else characters_at contexts.Textarea text

-- the innermost open element of the text is a textarea
abbrev pub is_in_textarea : List Outer → Bool
is_in_textarea [] = false
is_in_textarea (outer ∷ outers) = is_textarea outer.name

-- the piece at the front, behind pieces that leave these elements open
abbrev pub piece_in : List Outer → List ℕ → Result (Piece × List ℕ) Fault
piece_in outers text = if is_in_textarea outers then raw_at text else piece_at text
