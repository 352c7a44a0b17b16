-- Printed forms: the words of flags, and what is seen of an element.
use Rattle.std.specs.Fmt.{decimal}
use Rattle.std.specs.Option.{option_map}
use Rattle.std.specs.Prelude.{Bool, List, Option, [], codes, filter, if◌then◌else◌, map, ℕ, ◌++◌, ◌∷◌}
use Rattle.form_judge.specs.declared.flags.Flags.{Flags}
use Rattle.form_page.specs.Page.{Page}
use Rattle.form_page.specs.Views.{View, view_of}
use Rattle.form_text.specs.Bytes.{line_feed}
use Rattle.form_tree.specs.Elements.{is_option, passes}
use Rattle.form_tree.specs.declared.node.Key.{Key}
use Rattle.form_script.specs.Bytes.{comma, commercial_at}
use Rattle.form_script.specs.Quoted.{quoted}

-- texts with a byte between each and the next
abbrev pub separated : ℕ → List (List ℕ) → List ℕ
separated mark [] = []
separated mark (text ∷ []) = text
separated mark (text ∷ next ∷ texts) = text ++ (mark ∷ separated mark (next ∷ texts))

-- the ten flags in the order in which they are printed, each with its word (HTML, `ValidityState`)
abbrev pub flag_table : Flags → List (Bool × List ℕ)
flag_table flags =
    (flags.value_missing, codes "valueMissing")
    ∷ (flags.type_mismatch, codes "typeMismatch")
    ∷ (flags.pattern_mismatch, codes "patternMismatch")
    ∷ (flags.too_long, codes "tooLong")
    ∷ (flags.too_short, codes "tooShort")
    ∷ (flags.range_underflow, codes "rangeUnderflow")
    ∷ (flags.range_overflow, codes "rangeOverflow")
    ∷ (flags.step_mismatch, codes "stepMismatch")
    ∷ (flags.bad_input, codes "badInput")
    ∷ (flags.custom_error, codes "customError")
    ∷ []

-- the words of the flags that hold
abbrev pub holding : List (Bool × List ℕ) → List (List ℕ)
holding table = map (λ row. row.1) (filter (λ row. row.0) table)

-- `-` for no words, and else the words, separated by commas
abbrev pub words_or_dash : List (List ℕ) → List ℕ
words_or_dash [] = codes "-"
words_or_dash (word ∷ words) = separated comma (word ∷ words)

-- The flags that hold, by their words.
abbrev pub flag_words : Flags → List ℕ
flag_words flags = words_or_dash (holding (flag_table flags))

abbrev pub yes_or_no : Bool → List ℕ
yes_or_no b = if b then codes "yes" else codes "no"

-- a key: `@` and its number
abbrev pub key_text : Key → List ℕ
key_text key = commercial_at ∷ decimal key.0

-- the key and the value of an element
abbrev pub value_part : Key → List ℕ → List ℕ
value_part key value = key_text key ++ (codes " value=" ++ quoted value)

-- a name, and `yes` or `no`
abbrev pub mark_part : List ℕ → Bool → List ℕ
mark_part name mark = name ++ yes_or_no mark

-- whether a submittable element is checked, and whether it is a candidate
abbrev pub marks_part : Bool → Bool → List ℕ
marks_part checked candidate = mark_part (codes " checked=") checked ++ mark_part (codes " candidate=") candidate

abbrev pub flags_part : Flags → List ℕ
flags_part flags = codes " flags=" ++ (flag_words flags ++ (line_feed ∷ []))

-- the view of a submittable element
abbrev pub control_line : Key → View → List ℕ
control_line key view =
    value_part key view.value ++ (marks_part view.checked view.candidate ++ flags_part view.flags)

-- the view of an option
abbrev pub option_line : Key → View → List ℕ
option_line key view =
    value_part key view.value ++ (mark_part (codes " selected=") view.selected ++ (line_feed ∷ []))

-- the key is that of an option
abbrev pub is_option_key : Page → Key → Bool
is_option_key page key = passes is_option page.tree.nodes key

-- The line of what is seen of the element of a key; no other element has one.
abbrev pub view_line : Page → Key → Option (List ℕ)
view_line page key =
    option_map (λ view. if is_option_key page key then option_line key view else control_line key view)
    (view_of page key)
