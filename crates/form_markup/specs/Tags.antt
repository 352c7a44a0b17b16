-- The piece of a tag, of what is kept of its attributes.
use Rattle.std.specs.Prelude.{ℕ, List, Result, Ok, if◌then◌else◌}
use Rattle.form_markup.specs.Contents.{Piece, Start, Void, Oversized}
use Rattle.form_tokens.specs.Readers.{◌>>=◌}
use Rattle.form_tokens.specs.Runs.{behind_space, run_at}
use Rattle.form_markup.specs.Pieces.{behind_tag, is_void, tag_end}
use Rattle.form_tokens.specs.Kept.{kept_at}
use Rattle.form_tokens.specs.declared.fault.Fault.{Fault}
use Rattle.form_tokens.specs.declared.class.Class.TheVariants as classes
use Rattle.form_tokens.specs.declared.attributes.Attributes.{Attributes}

abbrev pub tag_kept : List ℕ → Attributes → Piece
tag_kept name a =
    if a.oversized then Oversized
    else (if is_void name then Void (record { name = name; attrs = a.kept })
    else Start (record { name = name; attrs = a.kept }))

-- what stands behind `<`
unfoldable pub start_kept : List ℕ → Result (Piece × List ℕ) Fault
start_kept text = do
  name ← run_at classes.Name text
  attrs ← kept_at name.1
  rest ← tag_end name.0 (behind_space attrs.1)
  Ok (tag_kept name.0 attrs.0, behind_tag name.0 rest)
