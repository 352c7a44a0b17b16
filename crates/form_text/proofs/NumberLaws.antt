-- A number that is kept up to a greatest one, digit by digit.
use Rattle.std.proofs.Common.{◌≡◌, ℕ, ◌+◌, ◌*◌, ◌-◌, ◌^◌, ◌<◌, ◌≤◌, Bool, true, false, cond, eqb, List, [], ◌∷◌, length, take, get_or, min, Option, Some, None, inl, inr, refl, sym, ap, ◌∙◌, arith}
use Rattle.std.specs.Char.{is_ascii_digit, digit_value}
use Rattle.std.specs.List.{prefix_len, take_while}
use Rattle.std.specs.Option.{option_map, unwrap_or}
use Rattle.std.specs.Str.Parse.{digits_value}
use Rattle.std.proofs.lemmas.Bool.{cases_lt, ne_eqb, both_ways}
use Rattle.std.proofs.lemmas.Bool.Decides.{nat_tests}
use Rattle.std.proofs.lemmas.Int.Digits.{digits_value_more}
use Rattle.std.proofs.lemmas.List.{length-take-le}
use Rattle.std.proofs.lemmas.List.Sums.{prefix_len_passes, prefix_len_stops}
use Rattle.form_text.specs.Integers.{leading_number, most}

-- the number of the first digits, kept up to the greatest; none before the first
abbrev pub kept_number : List ℕ → Option ℕ
kept_number digits = cond (eqb (length digits) 0) None (Some (min (digits_value 10 digits) most))

-- as a number it is 0 before the first digit
unwrap_kept : (digits : List ℕ) → unwrap_or (kept_number digits) 0 ≡ min (digits_value 10 digits) most
unwrap_kept [] = refl
unwrap_kept (d ∷ digits) = grind (arith, nat_tests)

-- a kept number and one more digit
push_kept : (value digit number : ℕ) → number ≡ min value 4294967295 → min (min (number * 10) 4294967295 + digit) 4294967295 ≡ min (value * 10 + digit) 4294967295
push_kept value digit number before = omega arith

-- the value of a digit
digit_is : (byte : ℕ) → is_ascii_digit byte ≡ true → byte - 48 ≡ digit_value byte
digit_is byte digit = grind (arith, nat_tests)

-- each digit is read behind those before it
pub kept_more : (text : List ℕ) (i byte number : ℕ) → i < length text → byte ≡ get_or text i 0 → is_ascii_digit byte ≡ true
    → number ≡ unwrap_or (kept_number (take i text)) 0
    → Some (min (min (number * 10) (2 ^ 32 - 1) + (byte - 48)) (2 ^ 32 - 1)) ≡ kept_number (take (i + 1) text)
kept_more text i byte number below is digit before =
    let long : length (take (i + 1) text) ≡ i + 1 = length-take-le (i + 1) text (omega arith) in
    let some : eqb (length (take (i + 1) text)) 0 ≡ false = ne_eqb _ 0 (λ e. omega arith) in
    let value : digits_value 10 (take (i + 1) text) ≡ digits_value 10 (take i text) * 10 + (byte - 48) =
    digits_value_more 10 text i below ∙ ap (λ d. digits_value 10 (take i text) * 10 + d) (ap digit_value (sym is) ∙ sym (digit_is byte digit)) in
    let now : number ≡ min (digits_value 10 (take i text)) 4294967295 = before ∙ unwrap_kept (take i text) in
    rw (some, value) (ap (λ (n : ℕ). Some n) (push_kept _ _ _ now))

-- at a digit there is one more
pub digits_more : (text : List ℕ) (i byte : ℕ) → i < length text → byte ≡ get_or text i 0 → is_ascii_digit byte ≡ true → i ≤ prefix_len is_ascii_digit text → i + 1 ≤ prefix_len is_ascii_digit text
digits_more text i byte below is digit low = elim (cases_lt i (prefix_len is_ascii_digit text)) [
  | inl less ↦ omega arith
  | inr all ↦
      let here : i ≡ prefix_len is_ascii_digit text = omega arith in
      let stops : is_ascii_digit (get_or text i 0) ≡ false = rw here (prefix_len_stops is_ascii_digit text 0 (omega arith)) in
      absurd (both_ways _ stops (ap is_ascii_digit (sym is) ∙ digit))
]

-- at another byte there is none
pub digits_end : (text : List ℕ) (i byte : ℕ) → byte ≡ get_or text i 0 → is_ascii_digit byte ≡ false → prefix_len is_ascii_digit text ≤ i
digits_end text i byte is other = elim (cases_lt i (prefix_len is_ascii_digit text)) [
  | inl less ↦ absurd (both_ways _ (ap is_ascii_digit (sym is) ∙ other) (prefix_len_passes is_ascii_digit text i 0 less))
  | inr all ↦ all
]

-- where the digits end, those read are all that lead
pub kept_all : (text : List ℕ) (i : ℕ) → i ≤ prefix_len is_ascii_digit text → prefix_len is_ascii_digit text ≤ i → kept_number (take i text) ≡ option_map (λ n. min n most) (leading_number text)
kept_all text i low high =
    let here : i ≡ prefix_len is_ascii_digit text = omega arith in
    ap (λ n. kept_number (take n text)) here ∙ mapped (eqb (length (take_while is_ascii_digit text)) 0) (digits_value 10 (take_while is_ascii_digit text))
  where
    mapped : (none : Bool) (n : ℕ) → cond none None (Some (min n most)) ≡ option_map (λ n. min n most) (cond none None (Some n))
    mapped true n = refl
    mapped false n = refl
