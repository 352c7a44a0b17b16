-- Lines read from the left, as functions on lists (the laws of proofs/LineLaws).
use Rattle.std.specs.List.{count_by}
use Rattle.std.specs.Prelude.{Bool, List, None, Option, Some, [], if◌then◌else◌, length, nat_le, nat_lt, ℕ, ◌==◌, ◌∷◌}
use Rattle.std.specs.Str.{bytes_eq}
use Rattle.form_changes.specs.declared.act.Act.TheVariants as acts
use Rattle.form_text.specs.Bytes.{space}
use Rattle.form_tree.specs.declared.node.Key.{Key}
use Rattle.form_script.specs.Lines.{key_command, longest_line, mark_command, most_boundaries, text_command, verb_text}
use Rattle.form_script.specs.Reading.{boundary_of, cut, key_of, literal_text, mark_of, name_of, number_of, positive_of, ◌>>=◌}
use Rattle.form_script.specs.declared.command.Command.TheVariants as commands
use Rattle.form_script.specs.declared.command.Command.{Command}
use Rattle.form_script.specs.declared.verb.KeyVerb.TheVariants as key_verbs
use Rattle.form_script.specs.declared.verb.MarkVerb.TheVariants as mark_verbs
use Rattle.form_script.specs.declared.verb.TextVerb.TheVariants as text_verbs
use Rattle.form_script.specs.declared.verb.Verb.TheVariants as verbs
use Rattle.form_script.specs.declared.verb.Verb.{Verb}

-- all verbs
abbrev pub all_verbs : List Verb
all_verbs =
    verbs.Key key_verbs.Check ∷ verbs.Key key_verbs.Uncheck ∷ verbs.Key key_verbs.Pick ∷ verbs.Key key_verbs.Reset
    ∷ verbs.Key key_verbs.Click ∷ verbs.Key key_verbs.Enter ∷ verbs.Key key_verbs.Submit ∷ verbs.Key key_verbs.Show
    ∷ verbs.Text text_verbs.User ∷ verbs.Text text_verbs.Set ∷ verbs.Text text_verbs.Text
    ∷ verbs.Text text_verbs.Custom ∷ verbs.Mark mark_verbs.SetChecked ∷ verbs.Mark mark_verbs.SetSelected
    ∷ verbs.Attr ∷ verbs.Unattr ∷ verbs.Choose ∷ verbs.Withdraw ∷ verbs.ClickAt ∷ verbs.RequestSubmit
    ∷ verbs.Boundary ∷ []

-- the first of these with that text
abbrev pub verb_in : List Verb → List ℕ → Option Verb
verb_in [] word = None
verb_in (verb ∷ rest) word = if bytes_eq word (verb_text verb) then Some verb else verb_in rest word

unfoldable pub verb_of : List ℕ → Option Verb
verb_of word = verb_in all_verbs word

-- two parts with one space between them
abbrev pub pair_at : {A B : Type 0} → (List ℕ → Option A) → (List ℕ → Option B) → List ℕ → Option (A × B)
pair_at first second text = cut space text >>= λ parts. first parts.0 >>= λ x. second parts.1 >>= λ y. Some (x, y)

-- the words of a text, with one space between each and the next
abbrev pub onto_first : ℕ → List (List ℕ) → List (List ℕ)
onto_first b [] = []
onto_first b (word ∷ words) = (b ∷ word) ∷ words

abbrev pub words_of : List ℕ → List (List ℕ)
words_of [] = [] ∷ []
words_of (b ∷ bs) = if b == space then [] ∷ words_of bs else onto_first b (words_of bs)

-- what all of the words spell
abbrev pub all_of : {A : Type 0} → (List ℕ → Option A) → List (List ℕ) → Option (List A)
all_of read [] = Some []
all_of read (word ∷ words) = read word >>= λ x. all_of read words >>= λ xs. Some (x ∷ xs)

abbrev pub positives_of : List ℕ → Option (List ℕ)
positives_of text = all_of positive_of (words_of text)

abbrev pub is_space : ℕ → Bool
is_space b = b == space

abbrev pub boundaries_of : List ℕ → Option (List (List ℕ))
boundaries_of text =
    if nat_lt (count_by is_space text) most_boundaries then all_of boundary_of (words_of text) else None

-- a key alone, or a key and numbers
abbrev pub choice_by : List ℕ → Option (List ℕ × List ℕ) → Option (Key × List ℕ)
choice_by text None = key_of text >>= λ key. Some (key, [])
choice_by text (Some parts) = key_of parts.0 >>= λ key. positives_of parts.1 >>= λ files. Some (key, files)

-- a key alone, or two keys
abbrev pub submission_by : List ℕ → Option (List ℕ × List ℕ) → Option (Key × Option Key)
submission_by text None = key_of text >>= λ form. Some (form, None)
submission_by text (Some parts) = key_of parts.0 >>= λ form. key_of parts.1 >>= λ key. Some (form, Some key)

abbrev pub parts_of : Verb → List ℕ → Option Command
parts_of (verbs.Key verb) text = key_of text >>= λ key. Some (key_command verb key)
parts_of (verbs.Text verb) text = pair_at key_of literal_text text >>= λ x. Some (text_command verb x.0 x.1)
parts_of (verbs.Mark verb) text = pair_at key_of mark_of text >>= λ x. Some (mark_command verb x.0 x.1)
parts_of verbs.Attr text =
    pair_at key_of (pair_at name_of literal_text) text
    >>= λ x. Some (commands.Act (acts.Attr x.0 x.1.0 (Some x.1.1)))
parts_of verbs.Unattr text = pair_at key_of name_of text >>= λ x. Some (commands.Act (acts.Attr x.0 x.1 None))
parts_of verbs.Choose text = choice_by text (cut space text) >>= λ x. Some (commands.Act (acts.Choose x.0 x.1))
parts_of verbs.Withdraw text = positive_of text >>= λ file. Some (commands.Act (acts.Withdraw file))
parts_of verbs.ClickAt text =
    pair_at key_of (pair_at number_of number_of) text >>= λ x. Some (commands.ClickAt x.0 x.1.0 x.1.1)
parts_of verbs.RequestSubmit text =
    submission_by text (cut space text) >>= λ x. Some (commands.RequestSubmit x.0 x.1)
parts_of verbs.Boundary text = boundaries_of text >>= λ boundaries. Some (commands.Boundary boundaries)

-- the command of a line
unfoldable pub command_of : List ℕ → Option Command
command_of line =
    if nat_le (length line) longest_line then (cut space line >>= λ x. verb_of x.0 >>= λ verb. parts_of verb x.1)
    else None
