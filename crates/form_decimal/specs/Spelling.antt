-- How the longest numeral at the front of a text is read from the left.
use Rattle.std.specs.Prelude.{ℕ, ◌+◌, ◌&&◌, ◌||◌, ◌==◌, nat_lt, not, Bool, true, false, List, [], ◌∷◌, length, take, drop, Option, Some, None, is_some, if◌then◌else◌}
use Rattle.std.specs.Char.{is_ascii_digit}
use Rattle.std.specs.List.{prefix_len}
use Rattle.form_decimal.specs.Bytes.{hyphen, plus_sign, dot, upper_e, lower_e}
use Rattle.form_decimal.specs.declared.spelling.Sign.{Sign}
use Rattle.form_decimal.specs.declared.spelling.Sign.TheVariants.{Plus, Minus}
use Rattle.form_decimal.specs.Numeral.{Numeral, Exponent, places}

abbrev pub begins : ℕ → List ℕ → Bool
begins b [] = false
begins b (x ∷ xs) = x == b

-- how many digits stand at the front
abbrev pub digit_len : List ℕ → ℕ
digit_len text = prefix_len is_ascii_digit text

abbrev pub digits_front : List ℕ → List ℕ
digits_front text = take (digit_len text) text

abbrev pub behind_digits : List ℕ → List ℕ
behind_digits text = drop (digit_len text) text

-- the sign in front
abbrev pub sign_at : List ℕ → Option Sign
sign_at text = if begins hyphen text then Some Minus else (if begins plus_sign text then Some Plus else None)

abbrev pub behind_sign : List ℕ → List ℕ
behind_sign text = if is_some (sign_at text) then drop 1 text else text

-- whether a point stands in front that counts: digits stand before it or behind it
abbrev pub has_point : Bool → List ℕ → Bool
has_point some text = begins dot text && (some || nat_lt 0 (digit_len (drop 1 text)))

abbrev pub point_at : Bool → List ℕ → Option (List ℕ)
point_at some text = if has_point some text then Some (digits_front (drop 1 text)) else None

abbrev pub behind_point : Bool → List ℕ → List ℕ
behind_point some text = if has_point some text then behind_digits (drop 1 text) else text

-- whether an exponent with a digit stands in front
abbrev pub has_exponent : List ℕ → Bool
has_exponent text = (begins upper_e text || begins lower_e text) && nat_lt 0 (digit_len (behind_sign (drop 1 text)))

abbrev pub exponent_at : List ℕ → Option Exponent
exponent_at text =
    if has_exponent text then Some (record {
      capital = begins upper_e text;
      sign = sign_at (drop 1 text);
      digits = digits_front (behind_sign (drop 1 text));
    }) else None

abbrev pub behind_exponent : List ℕ → List ℕ
behind_exponent text = if has_exponent text then behind_digits (behind_sign (drop 1 text)) else text

-- of a text behind its sign: whether it has digits before a point, the fraction, what is behind
-- it, and whether it has a digit
abbrev pub whole_some : List ℕ → Bool
whole_some u = nat_lt 0 (digit_len u)

abbrev pub fraction_front : List ℕ → Option (List ℕ)
fraction_front u = point_at (whole_some u) (behind_digits u)

abbrev pub tail_front : List ℕ → List ℕ
tail_front u = behind_point (whole_some u) (behind_digits u)

abbrev pub has_digit : List ℕ → Bool
has_digit u = nat_lt 0 (digit_len u + length (places (fraction_front u)))

abbrev pub made : List ℕ → Numeral
made text = record {
  sign = sign_at text;
  whole = digits_front (behind_sign text);
  fraction = fraction_front (behind_sign text);
  exponent = exponent_at (tail_front (behind_sign text));
}

abbrev pub behind_made : List ℕ → List ℕ
behind_made text = behind_exponent (tail_front (behind_sign text))

-- the longest numeral in front, and what stands behind it
abbrev pub numeral_front : List ℕ → Option (Numeral × List ℕ)
numeral_front text = if has_digit (behind_sign text) then Some (made text, behind_made text) else None

-- no `+`, and digits behind each point
abbrev pub is_plus : Option Sign → Bool
is_plus (Some Plus) = true
is_plus _ = false

abbrev pub is_bare : Option (List ℕ) → Bool
is_bare (Some []) = true
is_bare _ = false

abbrev pub is_valid : Numeral → Bool
is_valid n = not (is_plus n.sign) && not (is_bare n.fraction)
