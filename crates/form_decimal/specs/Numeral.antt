-- Numerals, and the numbers that they mean.
use Rattle.std.specs.Prelude.{◌≡◌, ℕ, ◌+◌, ◌^◌, ◌<◌, ◌≤◌, Bool, true, false, List, [], ◌∷◌, ◌++◌, length, drop, Option, Some, None, ℤ, pos, neg_ℤ, ◌*ℤ◌, unsigned_abs, if◌then◌else◌}
use Rattle.std.specs.Char.{is_ascii_whitespace}
use Rattle.std.specs.List.{prefix_len}
use Rattle.std.specs.Str.Parse.{digits_value, AllDigits}
use Rattle.form_decimal.specs.Bytes.{hyphen, plus_sign, dot, upper_e, lower_e}
use Rattle.form_decimal.specs.declared.spelling.Sign.{Sign}
use Rattle.form_decimal.specs.declared.spelling.Sign.TheVariants.{Plus, Minus}

-- an exponent as it is spelled: `E` or `e`, a sign or none, and digits
pub record Exponent : Type 0 where
  pub capital : Bool
  pub sign : Option Sign
  pub digits : List ℕ

-- a numeral as it is spelled: a sign or none, digits, a point with the digits behind it, and an exponent
pub record Numeral : Type 0 where
  pub sign : Option Sign
  pub whole : List ℕ
  pub fraction : Option (List ℕ)
  pub exponent : Option Exponent

abbrev pub sign_text : Option Sign → List ℕ
sign_text None = []
sign_text (Some Minus) = hyphen ∷ []
sign_text (Some Plus) = plus_sign ∷ []

abbrev pub point_text : Option (List ℕ) → List ℕ
point_text None = []
point_text (Some ds) = dot ∷ ds

abbrev pub mark_text : Bool → List ℕ
mark_text true = upper_e ∷ []
mark_text false = lower_e ∷ []

abbrev pub exponent_text : Option Exponent → List ℕ
exponent_text None = []
exponent_text (Some e) = mark_text e.capital ++ (sign_text e.sign ++ e.digits)

abbrev pub numeral_text : Numeral → List ℕ
numeral_text n = sign_text n.sign ++ (n.whole ++ (point_text n.fraction ++ exponent_text n.exponent))

-- the digits behind the point
abbrev pub places : Option (List ℕ) → List ℕ
places None = []
places (Some ds) = ds

abbrev pub AreDigits : List ℕ → Type 0
AreDigits ds = AllDigits 10 ds

abbrev pub IsExponent : Option Exponent → Type 0
IsExponent None = Unit {0}
IsExponent (Some e) = AreDigits e.digits × (0 < length e.digits)

-- The form of a lenient numeral: a digit stands before or behind the point, and one at least in an exponent
-- (HTML, "Rules for parsing floating-point number values").
pub record IsLenientForm (n : Numeral) : Type 0 where
  pub whole : AreDigits n.whole
  pub fraction : AreDigits (places n.fraction)
  pub some_digit : 0 < length n.whole + length (places n.fraction)
  pub exponent : IsExponent n.exponent

-- The form of a valid numeral: besides, no `+` stands in front, and digits stand behind a point
-- (HTML, "Valid floating-point number").
pub record IsValidForm (n : Numeral) : Type 0 where
  pub form : IsLenientForm n
  pub no_plus : n.sign ≡ Some Plus → ⊥
  pub places_behind_point : n.fraction ≡ Some [] → ⊥

-- the whole number that the digits spell without the point
abbrev pub coefficient : Numeral → ℕ
coefficient n = digits_value 10 (n.whole ++ places n.fraction)

abbrev pub is_minus : Option Sign → Bool
is_minus (Some Minus) = true
is_minus _ = false

abbrev pub signed : Bool → ℕ → ℤ
signed true m = neg_ℤ (pos m)
signed false m = pos m

-- the exponent where it has no `-`, and where it has one; the other is 0
abbrev pub raised_by : Option Exponent → ℕ
raised_by None = 0
raised_by (Some e) = if is_minus e.sign then 0 else digits_value 10 e.digits

abbrev pub lowered_by : Option Exponent → ℕ
lowered_by None = 0
lowered_by (Some e) = if is_minus e.sign then digits_value 10 e.digits else 0

-- The numeral means c units of 10^-12: c = a * 10^(exponent - places + 12) with its signed coefficient a.
-- Both sides are multiplied, so that no power is negative; the numbers have any size.
abbrev pub Means : Numeral → ℤ → Type 0
Means n c =
    c *ℤ pos (10 ^ (length (places n.fraction) + lowered_by n.exponent))
    ≡ signed (is_minus n.sign) (coefficient n) *ℤ pos (10 ^ (raised_by n.exponent + 12))

-- The text is a valid number of c units. Its value is exact, and at most 10^17 in magnitude.
pub record IsValidNumber (text : List ℕ) (c : ℤ) : Type 0 where
  pub numeral : Numeral
  pub spelled : text ≡ numeral_text numeral
  pub form : IsValidForm numeral
  pub means : Means numeral c
  pub fits : unsigned_abs c ≤ 10 ^ 29

-- the text begins with this numeral, and with none of the form that is longer
pub record IsLongest (n : Numeral) (text : List ℕ) : Type 0 where
  pub form : IsLenientForm n
  pub rest : List ℕ
  pub spelled : text ≡ numeral_text n ++ rest
  pub longest : (m : Numeral) (r : List ℕ) → IsLenientForm m → text ≡ numeral_text m ++ r
      → length (numeral_text m) ≤ length (numeral_text n)

-- what stands behind the ASCII whitespace at the front
abbrev pub behind_whitespace : List ℕ → List ℕ
behind_whitespace text = drop (prefix_len is_ascii_whitespace text) text

-- The longest numeral at the front, behind ASCII whitespace, means c units.
pub record IsLenientNumber (text : List ℕ) (c : ℤ) : Type 0 where
  pub numeral : Numeral
  pub longest : IsLongest numeral (behind_whitespace text)
  pub means : Means numeral c
  pub fits : unsigned_abs c ≤ 10 ^ 29
