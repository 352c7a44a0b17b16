-- A literal's inside, taken run by run.
use Rattle.std.specs.Char.{encode_utf8}
use Rattle.std.specs.Prelude.{List, None, Some, length, option_map, ℕ, ◌++◌, ◌<◌, ◌≡◌}
use Rattle.form_script.specs.Reading.{text_in}
use Rattle.form_script.specs.declared.literal.Step.TheVariants as steps
use Rattle.form_script.specs.declared.literal.Step.{Step}

-- the text of an inside, by its first step
abbrev pub Begins : List ℕ → Step → Type 0
Begins inside (steps.Last plain) = text_in inside ≡ Some plain.now
Begins inside (steps.Escape plain c rest) =
    text_in inside ≡ option_map (λ text. plain.now ++ (encode_utf8 c ++ text)) (text_in rest.now)
Begins inside steps.Wrong = text_in inside ≡ None

-- what stands behind an escape is shorter
abbrev pub IsShorter : List ℕ → Step → Type 0
IsShorter inside (steps.Escape plain c rest) = length rest.now < length inside
IsShorter inside step = Unit {0}
