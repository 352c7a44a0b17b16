-- A boundary, byte by byte: what may stand behind so many bytes of it.
use Rattle.std.specs.List.{list_all}
use Rattle.std.specs.Prelude.{Bool, List, None, Option, Some, false, if◌then◌else◌, is_some, length, nat_le, ℕ, ◌+◌, ◌==◌}
use Rattle.form_script.specs.Reading.{◌>>=◌}
use Rattle.form_script.specs.Words.{is_name_byte, longest_boundary}

abbrev pub fits : ℕ → List ℕ → Bool
fits before text =
    if before + length text == 0 then false
    else (if nat_le (before + length text) longest_boundary then list_all is_name_byte text else false)

abbrev pub fit_if : ℕ → List ℕ → Option (List ℕ)
fit_if before text = if fits before text then Some text else None

-- a text, of which it is said whether it fits
abbrev pub some_fits : ℕ → Option (List ℕ) → Bool
some_fits before text = is_some (text >>= fit_if before)

-- a boundary may go on with these bytes and a character
abbrev pub begins_boundary : ℕ → List ℕ → ℕ → Bool
begins_boundary before plain c =
    if nat_le ((before + length plain) + 1) longest_boundary
    then (if is_name_byte c then list_all is_name_byte plain else false) else false
