-- One turn of the reader, by what stands at the front of the text.
use Rattle.std.specs.Prelude.{ℕ, List, Result, Ok, length, if◌then◌else◌}
use Rattle.form_tree.specs.declared.node.Tag.{Tag}
use Rattle.form_tokens.specs.Bytes.{less_than}
use Rattle.form_tokens.specs.Characters.{chunk_at, closes_textarea}
use Rattle.form_tokens.specs.Readers.{◌>>=◌}
use Rattle.form_tokens.specs.Runs.{begins, behind}
use Rattle.form_tokens.specs.declared.chunk.Context.{Context}
use Rattle.form_tokens.specs.declared.chunk.Context.TheVariants as contexts
use Rattle.form_tokens.specs.declared.fault.Fault.{Fault}
use Rattle.form_markup.specs.Faults.{fault_of}
use Rattle.form_markup.specs.Machine.{State, after, judged, more_text, outers_of, state}
use Rattle.form_markup.specs.Pieces.{tag_at}

-- the tag, comment or doctype at the front is taken
unfoldable pub tag_turn : List Tag → State → List ℕ → Result (State × List ℕ) Fault
tag_turn around m text =
    behind less_than text >>= tag_at
    >>= λ x. judged (fault_of around (outers_of m.levels) (length m.raws) x.0) (after m x.0) x.1

-- the characters or the reference at the front are taken
unfoldable pub text_turn : Context → State → List ℕ → Result (State × List ℕ) Fault
text_turn place m text = chunk_at place text >>= λ x. Ok (state (more_text x.0 m.levels) m.raws, x.1)

-- a turn where no textarea is open
abbrev pub outside_turn : List Tag → State → List ℕ → Result (State × List ℕ) Fault
outside_turn around m text =
    if begins less_than text then tag_turn around m text else text_turn contexts.Content m text

-- a turn in a textarea
abbrev pub inside_turn : List Tag → State → List ℕ → Result (State × List ℕ) Fault
inside_turn around m text =
    if closes_textarea text then tag_turn around m text else text_turn contexts.Textarea m text
