-- What the holes of a format write.
use Rattle.std.proofs.Common.{◌≡◌, ℕ, ◌^◌, ◌-◌, ◌++◌, false, List, [], length, replicate, ℤ, Option, Some, None, option_map, Result, Ok, Err, IfOk, OnOk, IfSome, IfNone, String, string_bytes, ap, sym, subst, ◌∙◌, arith, append-nil, append_assoc}
use Rattle.std.specs.Fmt.{decimal, padded_integral, format_spec, char_count}
use Rattle.form_calendar.specs.Digits.{padded, pair_text}

-- `{:02}` and its kin write a number with zeros in front up to the width
pub hole_padded : (width n : ℕ) → padded_integral (format_spec 32 0 4 width (2 ^ 64 - 1)) false [] (decimal n) ≡ padded width n
unfolding padded padded_integral char_count
hole_padded width n =
    let e : width - length (decimal n) - 0 - 0 ≡ width - length (decimal n) = omega arith in
    ap (λ x. replicate (width - length (decimal n) - 0 - 0) 48 ++ x) (append-nil (decimal n)) ∙ ap (λ k. replicate k 48 ++ decimal n) e

-- what stands behind two numbers stands behind the second
pub pair_and_more : (count : ℕ) (separator rest : List ℕ) (a b : ℕ) → pair_text count separator a b ++ rest ≡ padded count a ++ (separator ++ (padded 2 b ++ rest))
unfolding pair_text
pair_and_more count separator rest a b =
    append_assoc (padded count a) (separator ++ padded 2 b) rest ∙ ap (λ x. padded count a ++ x) (append_assoc separator (padded 2 b) rest)

pub ruleset date_holes = (hole_padded, pair_and_more)

-- the printed text, by another name
pub printed_as : {A E : Type 0} (r : Result (Option (String A)) E) (o p : Option (List ℕ)) → IfOk r (λ t. option_map string_bytes t ≡ o) → o ≡ p → IfOk r (λ t. option_map string_bytes t ≡ p)
printed_as r o p h e = subst (λ x. IfOk r (λ t. option_map string_bytes t ≡ x)) e h

-- what is appended twice is appended at once
pub appended_both : {A E : Type 0} (r : Result A E) (old mid new front more whole : List ℕ) → OnOk r (new ≡ mid ++ more) → mid ≡ old ++ front → front ++ more ≡ whole → OnOk r (new ≡ old ++ whole)
appended_both (Err e) old mid new front more whole h e1 e2 = tt
appended_both (Ok x) old mid new front more whole h e1 e2 =
    h ∙ ap (λ z. z ++ more) e1 ∙ append_assoc old front more ∙ ap (λ z. old ++ z) e2
