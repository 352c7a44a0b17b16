-- What single characters mean in a pattern.
use Rattle.std.specs.Prelude.{ℕ, ◌==◌, nat_le, nat_lt, ◌&&◌, ◌||◌, Bool, true, false, List, [], ◌∷◌, Option, Some, None, codes, not, if◌then◌else◌}
use Rattle.std.specs.List.{list_any}
use Rattle.form_pattern.specs.declared.characters.Set.TheVariants.{Digit, Word, Space}
use Rattle.form_pattern.specs.declared.characters.Letter.{Letter}
use Rattle.form_pattern.specs.declared.characters.Letter.TheVariants as letter

abbrev pub is_one_of : ℕ → List ℕ → Bool
is_one_of c cs = list_any (λ x. x == c) cs

-- a character that has a meaning of its own outside of classes, or is `/`
unfoldable pub is_syntax : ℕ → Bool
is_syntax c = is_one_of c (codes "^$\\.*+?()[]{}|/")

-- a character that may be escaped inside a class alone
unfoldable pub is_class_sign : ℕ → Bool
is_class_sign c = is_one_of c (codes "&-!#%,:;<=>@`~")

-- what a character begins behind `\`
unfoldable pub escape_letter : ℕ → Letter
escape_letter c =
    if c == 116 then letter.Character 9
    else if c == 110 then letter.Character 10
    else if c == 114 then letter.Character 13
    else if c == 118 then letter.Character 11
    else if c == 102 then letter.Character 12
    else if c == 48 then letter.Null
    else if c == 120 then letter.Byte
    else if c == 117 then letter.Unicode
    else if c == 100 then letter.Set false Digit
    else if c == 68 then letter.Set true Digit
    else if c == 119 then letter.Set false Word
    else if c == 87 then letter.Set true Word
    else if c == 115 then letter.Set false Space
    else if c == 83 then letter.Set true Space
    else if is_syntax c then letter.Character c
    else if is_class_sign c then letter.InClass c
    else letter.Other

-- a character that may stand in a class as it is
unfoldable pub is_member : ℕ → Bool
is_member c = not (is_one_of c (codes "()[]{}/-\\|"))

-- a character that may not, where it stands twice in a row
unfoldable pub is_doubled : ℕ → Bool
is_doubled c = is_one_of c (codes "&!#$%*+,.:;<=>?@^`~")

-- a character that stands for itself outside of classes
unfoldable pub is_plain : ℕ → Bool
is_plain c = not (is_one_of c (codes "^$\\.*+?()[]{}|"))

-- a code of a character: none of the surrogates
abbrev pub is_scalar : ℕ → Bool
is_scalar n = nat_lt n 0xD800 || (nat_le 0xE000 n && nat_le n 0x10_FFFF)

-- the text begins with the character
abbrev pub begins : ℕ → List ℕ → Bool
begins c [] = false
begins c (x ∷ xs) = x == c

-- what is behind the character, where the text begins with it
abbrev pub after : ℕ → List ℕ → Option (List ℕ)
after c [] = None
after c (x ∷ xs) = if x == c then Some xs else None
