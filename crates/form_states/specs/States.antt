-- What each state of an input does with texts, numbers and limits: one record a state (HTML, "States
-- of the type attribute": the value sanitization algorithm, the conversions of a string to a number
-- and of a number to a string, the default minimum, maximum and step base).
use Rattle.std.specs.Prelude.{◌≡◌, ℕ, Bool, true, false, List, Option, Some, None, option_map, option_and_then, ℤ, pos, negsuc}
use Rattle.form_types.specs.declared.kind.Kind.{Kind}
use Rattle.form_types.specs.declared.kind.Kind.TheVariants as kinds
use Rattle.form_text.specs.LineEnds.{without_newlines}
use Rattle.form_text.specs.Whitespace.{stripped}
use Rattle.form_decimal.specs.Numeral.{IsValidNumber}
use Rattle.form_decimal.specs.Reading.{valid_number}
use Rattle.form_decimal.specs.Printed.{IsPrinted}
use Rattle.form_calendar.specs.Date.{IsValidDate, date_number, date_text}
use Rattle.form_calendar.specs.Month.{IsValidMonth, month_number, month_text}
use Rattle.form_calendar.specs.Week.{IsValidWeek, week_number, week_text}
use Rattle.form_calendar.specs.Time.{IsValidTime, time_number, time_text}
use Rattle.form_calendar.specs.LocalDateTime.{IsValidLocal, local_number, local_text}
use Rattle.form_calendar.specs.Shortest.{IsShortest, IsShortestLocal}
use Rattle.form_states.specs.declared.limits.Limits.{Limits}
use Rattle.form_states.specs.Numbers.{in_units, IsWhole, whole_of, decimal_text}
use Rattle.form_states.specs.Range.{IsRangeSanitised, range_sanitised}
use Rattle.form_states.specs.Sanitised.{kept_if_number, color_sanitised, local_sanitised, IsKeptIfValid, IsNormalised}

-- a state: which texts are its valid strings and have which number, and the number that is read;
-- which text stands for a number, and the text that is written; what may come of a text by value
-- sanitization, and what is made of it; whether `min`, `max` and `value` are read by the rules for
-- parsing floating-point number values; the default minimum, maximum and step base
pub record StateRules : Type 1 where
  pub means : List ℕ → ℤ → Type 0
  pub read : List ℕ → Option ℤ
  pub stands : List ℕ → ℤ → Type 0
  pub written : ℤ → Option (List ℕ)
  pub becomes : Limits → List ℕ → List ℕ → Type 0
  pub made : Limits → List ℕ → List ℕ
  pub lenient : Bool
  pub minimum : Option ℤ
  pub maximum : Option ℤ
  pub base : ℤ

-- a state without numbers
abbrev pub of_text : (List ℕ → List ℕ) → StateRules
of_text made = record {
  means = λ text n. ⊥;
  read = λ text. None;
  stands = λ text n. ⊥;
  written = λ n. None;
  becomes = λ limits text result. result ≡ made text;
  made = λ limits text. made text;
  lenient = false;
  minimum = None;
  maximum = None;
  base = pos 0;
}

-- a state of valid strings whose numbers are whole; another text becomes empty
abbrev pub of_whole : (List ℕ → ℤ → Type 0) → (List ℕ → Option ℤ) → (ℤ → Option (List ℕ)) → ℤ
    → StateRules
of_whole IsValid read written base = record {
  means = λ text n. IsWhole (IsValid text) n;
  read = λ text. option_map in_units (read text);
  stands = λ text n. IsWhole (IsShortest IsValid text) n;
  written = λ n. option_and_then written (whole_of n);
  becomes = λ limits text result. IsKeptIfValid (λ t n. IsWhole (IsValid t) n) text result;
  made = λ limits text. kept_if_number (option_map in_units (read text)) text;
  lenient = false;
  minimum = None;
  maximum = None;
  base = base;
}

-- a valid string becomes its normalised form, and another text becomes empty
abbrev pub of_local : StateRules
of_local = record {
  means = λ text n. IsWhole (IsValidLocal text) n;
  read = λ text. option_map in_units (local_number text);
  stands = λ text n. IsWhole (IsShortestLocal text) n;
  written = λ n. option_and_then local_text (whole_of n);
  becomes = λ limits text result. IsNormalised text result;
  made = λ limits text. local_sanitised text;
  lenient = false;
  minimum = None;
  maximum = None;
  base = pos 0;
}

-- a valid number stays, and another text becomes empty
abbrev pub of_number : StateRules
of_number = record {
  means = λ text n. IsValidNumber text n;
  read = λ text. valid_number text;
  stands = λ text n. IsPrinted n text;
  written = λ n. decimal_text n;
  becomes = λ limits text result. IsKeptIfValid (λ t n. IsValidNumber t n) text result;
  made = λ limits text. kept_if_number (valid_number text) text;
  lenient = true;
  minimum = None;
  maximum = None;
  base = pos 0;
}

-- there is always a number, by four steps
abbrev pub of_range : StateRules
of_range = record {
  means = λ text n. IsValidNumber text n;
  read = λ text. valid_number text;
  stands = λ text n. IsPrinted n text;
  written = λ n. decimal_text n;
  becomes = λ limits text result. IsRangeSanitised limits text result;
  made = λ limits text. range_sanitised limits text;
  lenient = true;
  minimum = Some (pos 0);
  maximum = Some (in_units (pos 100));
  base = pos 0;
}

-- the table; the step base of week is the Monday before 1970-01-01
abbrev pub rules_of : Kind → StateRules
rules_of kinds.Hidden = of_text (λ text. text)
rules_of kinds.Text = of_text without_newlines
rules_of kinds.Search = of_text without_newlines
rules_of kinds.Tel = of_text without_newlines
rules_of kinds.Url = of_text (λ text. stripped (without_newlines text))
rules_of kinds.Password = of_text without_newlines
rules_of kinds.Date = of_whole IsValidDate date_number date_text (pos 0)
rules_of kinds.Month = of_whole IsValidMonth month_number month_text (pos 0)
rules_of kinds.Week = of_whole IsValidWeek week_number week_text (in_units (negsuc 259_199_999))
rules_of kinds.Time = of_whole IsValidTime time_number time_text (pos 0)
rules_of kinds.Local = of_local
rules_of kinds.Number = of_number
rules_of kinds.Range = of_range
rules_of kinds.Color = of_text color_sanitised
rules_of kinds.Checkbox = of_text (λ text. text)
rules_of kinds.Radio = of_text (λ text. text)
rules_of kinds.File = of_text (λ text. text)
rules_of kinds.Submit = of_text (λ text. text)
rules_of kinds.Image = of_text (λ text. text)
rules_of kinds.Reset = of_text (λ text. text)
rules_of kinds.Button = of_text (λ text. text)

-- the text is a valid string of the state with that number: milliseconds in date, week, time and
-- datetime-local, months in month, and the number itself in number and range
abbrev pub HasNumber : Kind → List ℕ → ℤ → Type 0
HasNumber kind = (rules_of kind).means

-- the number of a text in a state, where it has one
abbrev pub number_of : Kind → List ℕ → Option ℤ
number_of kind = (rules_of kind).read

-- the text that stands for a number: the shortest valid string in the date and time states, and the
-- printed form in number and range
abbrev pub IsTextFor : Kind → List ℕ → ℤ → Type 0
IsTextFor kind = (rules_of kind).stands

-- that text, where a valid string of the state has the number
abbrev pub text_for : Kind → ℤ → Option (List ℕ)
text_for kind = (rules_of kind).written

-- value sanitization in every state: what may come of a text
abbrev pub IsSanitised : Kind → Limits → List ℕ → List ℕ → Type 0
IsSanitised kind = (rules_of kind).becomes

-- the same as a function
abbrev pub sanitised : Kind → Limits → List ℕ → List ℕ
sanitised kind = (rules_of kind).made

-- a state without numbers and without limits of its own, which makes that of a text
abbrev pub IsTextState : Kind → (List ℕ → List ℕ) → Type 0
IsTextState kind made =
    ((limits : Limits) (text : List ℕ) → sanitised kind limits text ≡ made text)
    × ((text : List ℕ) → number_of kind text ≡ None) × ((n : ℤ) → text_for kind n ≡ None)
    × ((rules_of kind).lenient ≡ false) × ((rules_of kind).minimum ≡ None)
    × ((rules_of kind).maximum ≡ None) × ((rules_of kind).base ≡ pos 0)
