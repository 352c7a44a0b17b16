-- A turn is that of what stands at the front of the text.
use Rattle.std.proofs.Common.{◌≡◌, ℕ, List, Bool, true, false, Result, Ok, Err, length, refl, sym, ap, ◌∙◌, if◌then◌else◌}
use Rattle.form_tree.specs.declared.node.Tag.{Tag}
use Rattle.form_tokens.specs.Bytes.{less_than}
use Rattle.form_tokens.specs.Characters.{chunk_at, closes_textarea}
use Rattle.form_tokens.specs.Readers.{◌>>=◌}
use Rattle.form_tokens.specs.Runs.{begins, behind}
use Rattle.form_tokens.specs.declared.chunk.Context.{Context}
use Rattle.form_tokens.specs.declared.chunk.Context.TheVariants as contexts
use Rattle.form_tokens.specs.declared.fault.Fault.{Fault}
use Rattle.form_markup.specs.Contents.{Piece, Characters}
use Rattle.form_markup.specs.Faults.{fault_of}
use Rattle.form_markup.specs.Machine.{State, after, judged, more_text, outers_of, state, turn}
use Rattle.form_markup.specs.Pieces.{characters_at, is_in_textarea, piece_at, raw_at, tag_at}
use Rattle.form_markup.specs.Turns.{inside_turn, outside_turn, tag_turn, text_turn}

-- what is read is judged and taken
abbrev pub taken : List Tag → State → Piece × List ℕ → Result (State × List ℕ) Fault
taken around m x = judged (fault_of around (outers_of m.levels) (length m.raws) x.0) (after m x.0) x.1

-- characters have no fault
pub text_law : (around : List Tag) (place : Context) (m : State) (text : List ℕ) → (characters_at place text >>= taken around m) ≡ text_turn place m text
unfolding characters_at text_turn
text_law around place m text = go (chunk_at place text)
  where
    go : (r : Result (List ℕ × List ℕ) Fault)
        → (r >>= (λ x. let y : Piece × List ℕ = (Characters x.0, x.1) in Ok y) >>= taken around m) ≡ (r >>= λ x. let y : State × List ℕ = (state (more_text x.0 m.levels) m.raws, x.1) in Ok y)
    go (Ok x) = refl
    go (Err kind) = refl

pub outside_law : (around : List Tag) (m : State) (text : List ℕ) → (piece_at text >>= taken around m) ≡ outside_turn around m text
unfolding piece_at tag_turn
outside_law around m text = go (begins less_than text) (text_law around contexts.Content m text)
  where
    go : (b : Bool) → (characters_at contexts.Content text >>= taken around m) ≡ text_turn contexts.Content m text
        → ((if b then behind less_than text >>= tag_at else characters_at contexts.Content text) >>= taken around m) ≡ (if b then (behind less_than text >>= tag_at >>= taken around m) else text_turn contexts.Content m text)
    go true e = refl
    go false e = e

pub inside_law : (around : List Tag) (m : State) (text : List ℕ) → (raw_at text >>= taken around m) ≡ inside_turn around m text
unfolding raw_at tag_turn
inside_law around m text = go (closes_textarea text) (text_law around contexts.Textarea m text)
  where
    go : (b : Bool) → (characters_at contexts.Textarea text >>= taken around m) ≡ text_turn contexts.Textarea m text
        → ((if b then behind less_than text >>= tag_at else characters_at contexts.Textarea text) >>= taken around m) ≡ (if b then (behind less_than text >>= tag_at >>= taken around m) else text_turn contexts.Textarea m text)
    go true e = refl
    go false e = e

-- a turn in a textarea, and elsewhere
pub turn_inside : (around : List Tag) (m : State) (text : List ℕ) → is_in_textarea (outers_of m.levels) ≡ true → inside_turn around m text ≡ turn around m text
unfolding turn
turn_inside around m text e =
    let f : Bool → Result (State × List ℕ) Fault = λ b. (if b then raw_at text else piece_at text) >>= taken around m in
    sym (inside_law around m text) ∙ sym (ap f e)

pub turn_outside : (around : List Tag) (m : State) (text : List ℕ) → is_in_textarea (outers_of m.levels) ≡ false → outside_turn around m text ≡ turn around m text
unfolding turn
turn_outside around m text e =
    let f : Bool → Result (State × List ℕ) Fault = λ b. (if b then raw_at text else piece_at text) >>= taken around m in
    sym (outside_law around m text) ∙ sym (ap f e)
