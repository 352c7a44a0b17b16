-- Which command a line of a script spells.
use Rattle.std.specs.Prelude.{Bool, List, None, Option, Some, [], codes, false, length, true, ℕ, ◌++◌, ◌∷◌, ◌≡◌, ◌≤◌, ◌⊎◌}
use Rattle.form_changes.specs.declared.act.Act.TheVariants as acts
use Rattle.form_text.specs.Bytes.{space}
use Rattle.form_tree.specs.declared.node.Key.{Key}
use Rattle.form_script.specs.Quoted.{IsQuoted}
use Rattle.form_script.specs.Words.{IsBoundary, IsKey, IsMark, IsName, IsNumber, IsPositive}
use Rattle.form_script.specs.declared.command.Command.TheVariants as commands
use Rattle.form_script.specs.declared.command.Command.{Command}
use Rattle.form_script.specs.declared.verb.KeyVerb.TheVariants as key_verbs
use Rattle.form_script.specs.declared.verb.KeyVerb.{KeyVerb}
use Rattle.form_script.specs.declared.verb.MarkVerb.TheVariants as mark_verbs
use Rattle.form_script.specs.declared.verb.MarkVerb.{MarkVerb}
use Rattle.form_script.specs.declared.verb.TextVerb.TheVariants as text_verbs
use Rattle.form_script.specs.declared.verb.TextVerb.{TextVerb}
use Rattle.form_script.specs.declared.verb.Verb.TheVariants as verbs
use Rattle.form_script.specs.declared.verb.Verb.{Verb}

-- the most bytes of a line, without its end
abbrev pub longest_line : ℕ
longest_line = 1_048_576

-- the most boundaries
abbrev pub most_boundaries : ℕ
most_boundaries = 8

-- ---- the first word

abbrev pub key_verb_text : KeyVerb → List ℕ
key_verb_text key_verbs.Check = codes "check"
key_verb_text key_verbs.Uncheck = codes "uncheck"
key_verb_text key_verbs.Pick = codes "pick"
key_verb_text key_verbs.Reset = codes "reset"
key_verb_text key_verbs.Click = codes "click"
key_verb_text key_verbs.Enter = codes "enter"
key_verb_text key_verbs.Submit = codes "submit"
key_verb_text key_verbs.Show = codes "show"

abbrev pub text_verb_text : TextVerb → List ℕ
text_verb_text text_verbs.User = codes "user"
text_verb_text text_verbs.Set = codes "set"
text_verb_text text_verbs.Text = codes "text"
text_verb_text text_verbs.Custom = codes "custom"

abbrev pub mark_verb_text : MarkVerb → List ℕ
mark_verb_text mark_verbs.SetChecked = codes "setchecked"
mark_verb_text mark_verbs.SetSelected = codes "setselected"

abbrev pub verb_text : Verb → List ℕ
verb_text (verbs.Key verb) = key_verb_text verb
verb_text (verbs.Text verb) = text_verb_text verb
verb_text (verbs.Mark verb) = mark_verb_text verb
verb_text verbs.Attr = codes "attr"
verb_text verbs.Unattr = codes "unattr"
verb_text verbs.Choose = codes "choose"
verb_text verbs.Withdraw = codes "withdraw"
verb_text verbs.ClickAt = codes "clickat"
verb_text verbs.RequestSubmit = codes "requestsubmit"
verb_text verbs.Boundary = codes "boundary"

-- ---- the commands of the verbs that stand before like parts

abbrev pub key_command : KeyVerb → Key → Command
key_command key_verbs.Check key = commands.Act (acts.Check key true)
key_command key_verbs.Uncheck key = commands.Act (acts.Check key false)
key_command key_verbs.Pick key = commands.Act (acts.Pick key)
key_command key_verbs.Reset key = commands.Act (acts.Reset key)
key_command key_verbs.Click key = commands.Click key
key_command key_verbs.Enter key = commands.Enter key
key_command key_verbs.Submit key = commands.Submit key
key_command key_verbs.Show key = commands.Show key

abbrev pub text_command : TextVerb → Key → List ℕ → Command
text_command text_verbs.User key text = commands.Act (acts.User key text)
text_command text_verbs.Set key text = commands.Act (acts.Set key text)
text_command text_verbs.Text key text = commands.Act (acts.Text key text)
text_command text_verbs.Custom key text = commands.Act (acts.Custom key text)

abbrev pub mark_command : MarkVerb → Key → Bool → Command
mark_command mark_verbs.SetChecked key mark = commands.Act (acts.SetChecked key mark)
mark_command mark_verbs.SetSelected key mark = commands.Act (acts.SetSelected key mark)

-- ---- what stands behind the first word and one space

-- two parts with one space between them
pub record ArePair {A B : Type 0} (P : List ℕ → A → Type 0) (Q : List ℕ → B → Type 0) (text : List ℕ) (x : A) (y : B) : Type 0 where
  pub first : List ℕ
  pub second : List ℕ
  pub text_is : text ≡ first ++ (space ∷ second)
  pub first_is : P first x
  pub second_is : Q second y

-- parts with one space before each
abbrev pub AreSpaced : {A : Type 0} → (List ℕ → A → Type 0) → List ℕ → List A → Type 0
AreSpaced P text [] = text ≡ []
AreSpaced P text (x ∷ xs) =
    (part : List ℕ) × (rest : List ℕ) × (text ≡ space ∷ (part ++ rest)) × P part x × AreSpaced P rest xs

-- a key, and parts with one space before each
pub record AreKeyed {A : Type 0} (P : List ℕ → A → Type 0) (text : List ℕ) (key : Key) (xs : List A) : Type 0 where
  pub first : List ℕ
  pub rest : List ℕ
  pub text_is : text ≡ first ++ rest
  pub key_is : IsKey first key
  pub rest_is : AreSpaced P rest xs

-- a name and a text
abbrev pub IsAttribute : List ℕ → List ℕ × List ℕ → Type 0
IsAttribute text attribute = ArePair IsName IsQuoted text attribute.0 attribute.1

-- two numbers
abbrev pub IsPlace : List ℕ → ℕ × ℕ → Type 0
IsPlace text place = ArePair IsNumber IsNumber text place.0 place.1

-- a key, or two
pub record IsSubmission (text : List ℕ) (form : Key) (submitter : Option Key) : Type 0 where
  pub keys : (IsKey text form × (submitter ≡ None))
      ⊎ ((key : Key) × ArePair IsKey IsKey text form key × (submitter ≡ Some key))

-- the parts behind a verb, by the verb
abbrev pub SpellsParts : Verb → List ℕ → Command → Type 0
SpellsParts (verbs.Key verb) parts command = (key : Key) × IsKey parts key × (command ≡ key_command verb key)
SpellsParts (verbs.Text verb) parts command =
    (key : Key) × (text : List ℕ) × ArePair IsKey IsQuoted parts key text × (command ≡ text_command verb key text)
SpellsParts (verbs.Mark verb) parts command =
    (key : Key) × (mark : Bool) × ArePair IsKey IsMark parts key mark × (command ≡ mark_command verb key mark)
SpellsParts verbs.Attr parts command =
    (key : Key) × (attribute : List ℕ × List ℕ) × ArePair IsKey IsAttribute parts key attribute
    × (command ≡ commands.Act (acts.Attr key attribute.0 (Some attribute.1)))
SpellsParts verbs.Unattr parts command =
    (key : Key) × (name : List ℕ) × ArePair IsKey IsName parts key name
    × (command ≡ commands.Act (acts.Attr key name None))
SpellsParts verbs.Choose parts command =
    (key : Key) × (files : List ℕ) × AreKeyed IsPositive parts key files × (command ≡ commands.Act (acts.Choose key files))
SpellsParts verbs.Withdraw parts command =
    (file : ℕ) × IsPositive parts file × (command ≡ commands.Act (acts.Withdraw file))
SpellsParts verbs.ClickAt parts command =
    (key : Key) × (place : ℕ × ℕ) × ArePair IsKey IsPlace parts key place
    × (command ≡ commands.ClickAt key place.0 place.1)
SpellsParts verbs.RequestSubmit parts command =
    (form : Key) × (submitter : Option Key) × IsSubmission parts form submitter
    × (command ≡ commands.RequestSubmit form submitter)
SpellsParts verbs.Boundary parts command =
    (boundaries : List (List ℕ)) × AreSpaced IsBoundary (space ∷ parts) boundaries × (length boundaries ≤ most_boundaries)
    × (command ≡ commands.Boundary boundaries)

-- The line spells the command: a word, one space and the parts, in at most so many bytes.
pub record Spells (line : List ℕ) (command : Command) : Type 0 where
  pub verb : Verb
  pub parts : List ℕ
  pub line_is : line ≡ verb_text verb ++ (space ∷ parts)
  pub parts_are : SpellsParts verb parts command
  pub short : length line ≤ longest_line
