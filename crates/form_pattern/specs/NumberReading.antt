-- How numbers at the front of a text are read from the left.
use Rattle.std.specs.Prelude.{ℕ, ◌+◌, ◌*◌, nat_le, List, [], ◌∷◌, Option, Some, None, if◌then◌else◌}
use Rattle.std.specs.Option.{option_and_then}
use Rattle.std.specs.Char.{digit_value, is_digit}

-- a digit is there: go on with what is behind it, if the number is not above the most
unfoldable pub number_after : ℕ → ℕ → ℕ → List ℕ → Option (ℕ × List ℕ)
number_after base most n [] = Some (n, [])
number_after base most n (c ∷ cs) =
    if is_digit c base then (if nat_le (n * base + digit_value c) most then number_after base most (n * base + digit_value c) cs else None)
    else Some (n, c ∷ cs)

abbrev pub number : ℕ → ℕ → List ℕ → Option (ℕ × List ℕ)
number base most [] = None
number base most (c ∷ cs) = if is_digit c base then number_after base most 0 (c ∷ cs) else None

abbrev pub hex : List ℕ → Option (ℕ × List ℕ)
hex [] = None
hex (c ∷ cs) = if is_digit c 16 then Some (digit_value c, cs) else None

abbrev pub joined : ℕ → (List ℕ → Option (ℕ × List ℕ)) → ℕ × List ℕ → Option (ℕ × List ℕ)
joined factor read r = option_and_then (λ q. Some (r.0 * factor + q.0, q.1)) (read r.1)

unfoldable pub two_hex : List ℕ → Option (ℕ × List ℕ)
two_hex text = option_and_then (joined 16 hex) (hex text)

unfoldable pub four_hex : List ℕ → Option (ℕ × List ℕ)
four_hex text = option_and_then (joined 256 two_hex) (two_hex text)
