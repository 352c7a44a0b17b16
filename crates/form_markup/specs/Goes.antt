-- How the code goes on, a tag or all characters at a time; no part of what a text spells.
use Rattle.std.specs.Prelude.{◌≡◌, ℕ, ◌-◌, ◌<◌, ◌≤◌, Err, List, false, length, true}
use Rattle.form_tree.specs.declared.node.Raw.{Raw}
use Rattle.form_tree.specs.declared.node.Tag.{Tag}
use Rattle.form_tokens.specs.declared.chunk.Context.{Context}
use Rattle.form_tokens.specs.declared.chunk.Context.TheVariants as contexts
use Rattle.form_tokens.specs.declared.fault.Halt.{Halt}
use Rattle.form_markup.specs.Answer.{Answers, answer_of, rest_answer}
use Rattle.form_markup.specs.Machine.{State, outers_of}
use Rattle.form_markup.specs.Pieces.{is_in_textarea}
use Rattle.form_markup.specs.Spelling.{page_fault}

-- the answer of the rest is that of the text
pub record Answering (around : List Tag) (text : List ℕ) (m : State) (rest : List ℕ) : Type 0 where
  pub fuel : ℕ
  pub enough : length rest ≤ fuel
  pub same : rest_answer fuel around (length text) m rest ≡ answer_of around text

-- Reading goes on from one place to a later one: the answer is the same.
abbrev pub GoesTo : List Tag → State → List ℕ → State → List ℕ → Type 0
GoesTo around m text next rest =
    (length rest < length text) × ((whole : List ℕ) → Answering around whole m text → Answering around whole next rest)

-- Reading halts behind a place: with the answer's fault, or there was no memory.
abbrev pub HaltsWith : List Tag → State → List ℕ → Halt → Type 0
HaltsWith around m text halt =
    (whole : List ℕ) → Answering around whole m text
    → Answers {X = List Raw} (λ raws. raws) (answer_of around whole) (Err (page_fault halt.stop (length whole - halt.left)))

-- what the next characters are: those of a textarea where one is the innermost open element, and else contents
abbrev pub Suits : Context → State → Type 0
Suits contexts.Content m = is_in_textarea (outers_of m.levels) ≡ false
Suits contexts.Textarea m = is_in_textarea (outers_of m.levels) ≡ true
Suits contexts.Value m = ⊥
