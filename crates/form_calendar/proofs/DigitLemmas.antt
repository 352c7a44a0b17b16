-- Numbers in so many digits: they are bounded, and have one text each.
use Rattle.std.proofs.Common.{◌≡◌, ℕ, zero, suc, ◌+◌, ◌-◌, ◌*◌, ◌^◌, ◌<◌, ◌++◌, List, [], ◌∷◌, length, replicate, refl, ap, sym, subst, ◌∙◌, arith}
use Rattle.std.proofs.lemmas.Bool.Decides.{nat_tests}
use Rattle.std.proofs.lemmas.Fmt.{decimal_is_IsNumeral, length-decimal-le}
use Rattle.std.proofs.lemmas.Int.Digits.{digits_value-lt}
use Rattle.std.specs.Char.{digit_value}
use Rattle.std.specs.Fmt.{decimal}
use Rattle.std.specs.Str.Parse.{AllDigits, digits_value, digits_value_after}
use Rattle.form_calendar.specs.Digits.{Writes, IsPair, padded, pair_text}

-- a number in so many digits is below that power of ten
pub writes_below : (count : ℕ) (text : List ℕ) (n : ℕ) → Writes count text n → n < 10 ^ count
writes_below count text n w =
    subst (λ x. x < 10 ^ count) w.value (subst (λ k. digits_value 10 text < 10 ^ k) w.long (digits_value-lt 10 text w.digits))

same_digit : (c d : ℕ) → digit_value c < 10 → digit_value d < 10 → digit_value c ≡ digit_value d → c ≡ d
same_digit c d g h e = grind (arith, nat_tests)

-- texts of digits of one length that write one number are one text, also behind other digits
same_text : (ds es : List ℕ) (a b : ℕ) → length ds ≡ length es → AllDigits 10 ds → AllDigits 10 es → digits_value_after 10 a ds ≡ digits_value_after 10 b es → (a ≡ b) × (ds ≡ es)
same_text [] [] a b l g h e = (e, refl)
same_text [] (y ∷ ys) a b l g h e = absurd (omega arith)
same_text (x ∷ xs) [] a b l g h e = absurd (omega arith)
same_text (x ∷ xs) (y ∷ ys) a b l g h e =
    let r = same_text xs ys (a * 10 + digit_value x) (b * 10 + digit_value y) (omega arith) g.1 h.1 e in
    let first = g.0 in
    let second = h.0 in
    let front : a ≡ b = omega (arith, r.0) in
    let last : digit_value x ≡ digit_value y = omega (arith, r.0) in
    let c = same_digit x y first second last in
    let rest = r.1 in
    (front, cc)

-- so many digits write a number in one way
pub writes_once : (count : ℕ) (s t : List ℕ) (n : ℕ) → Writes count s n → Writes count t n → s ≡ t
writes_once count s t n v w = (same_text s t 0 0 (v.long ∙ sym w.long) v.digits w.digits (v.value ∙ sym w.value)).1

zeros : (k : ℕ) (ds : List ℕ) → AllDigits 10 ds → AllDigits 10 (replicate k 48 ++ ds) × (digits_value 10 (replicate k 48 ++ ds) ≡ digits_value 10 ds) × (length (replicate k 48 ++ ds) ≡ k + length ds)
zeros zero ds h = (h, refl, omega arith)
zeros (suc k) ds h =
    let r = zeros k ds h in
    let d : digit_value 48 < 10 = grind (arith, nat_tests) in
    ((d, r.0), r.1, omega (arith, r.2))

-- a number with zeros in front is written in that many digits
pub padded_writes : (width n : ℕ) → 0 < width → n < 10 ^ width → n < 2 ^ 64 → Writes width (padded width n) n
unfolding padded
padded_writes width n some small fits =
    let d = decimal_is_IsNumeral n fits in
    let short = length-decimal-le width n some small fits in
    let z = zeros (width - length (decimal n)) (decimal n) d.0.1 in
    record { long = omega (arith, z.2, short); digits = z.0; value = z.1 ∙ d.1 }

-- and every text in that many digits is that one
pub padded_only : (width n : ℕ) (text : List ℕ) → 0 < width → n < 2 ^ 64 → Writes width text n → text ≡ padded width n
padded_only width n text some fits w =
    writes_once width text (padded width n) n w (padded_writes width n some (writes_below width text n w) fits)

-- two numbers with a separator between them are read back from their text
pub pair_writes : (count : ℕ) (separator : List ℕ) (a b : ℕ) → 0 < count → a < 10 ^ count → a < 2 ^ 64 → b < 100 → IsPair count separator (pair_text count separator a b) a b
unfolding pair_text
pair_writes count separator a b some first fits second = record {
  first_text = padded count a;
  second_text = padded 2 b;
  spelled = refl;
  first_is = padded_writes count a some first fits;
  second_is = padded_writes 2 b (omega arith) second (omega arith);
}

-- and have that text alone
pub pair_only : (count : ℕ) (separator text : List ℕ) (a b : ℕ) → 0 < count → a < 2 ^ 64 → IsPair count separator text a b → text ≡ pair_text count separator a b
unfolding pair_text
pair_only count separator text a b some fits t =
    let below : b < 10 ^ 2 = writes_below 2 t.second_text b t.second_is in
    t.spelled ∙ ap (λ x. x ++ (separator ++ t.second_text)) (padded_only count a t.first_text some fits t.first_is)
    ∙ ap (λ x. padded count a ++ (separator ++ x)) (padded_only 2 b t.second_text (omega arith) (omega arith) t.second_is)
