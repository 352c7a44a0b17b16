-- Runs of digits are numerals, and the first byte of a kind ends a run.
use Rattle.std.proofs.Common.{◌≡◌, ℕ, zero, suc, ◌+◌, ◌<◌, ◌≤◌, List, [], ◌∷◌, take, drop, length, length-take, slice_index, nat_lt, Result, Ok, Err, if◌then◌else◌, Bool, true, false, not, cond, ◌==◌, ◌||◌, ◌∙◌, refl, sym, ap, subst, arith}
use Rattle.std.specs.Char.{digit_value}
use Rattle.std.specs.List.{prefix_len}
use Rattle.std.specs.Str.Parse.{AllDigits, IsNumeral}
use Rattle.std.proofs.lemmas.Bool.{ltb-true}
use Rattle.std.proofs.lemmas.List.Sums.{prefix_len-le-length}
use Rattle.std.proofs.lemmas.Bool.Decides.{nat_tests}
use Rattle.form_tokens.specs.Runs.{in_class, is_other, run_at, run_len}
use Rattle.form_tokens.specs.declared.fault.Fault.{Fault}
use Rattle.form_tokens.specs.declared.fault.Fault.TheVariants.{Lexical}
use Rattle.form_tokens.specs.declared.class.Class.{Class}
use Rattle.form_tokens.specs.declared.class.Class.TheVariants as classes

pub all_digits : (radix : ℕ) (p : ℕ → Bool) → ((b : ℕ) → p b ≡ true → digit_value b < radix) → (bs : List ℕ) → AllDigits radix (take (prefix_len p bs) bs)
all_digits radix p low [] = tt
all_digits radix p low (b ∷ bs) = go (p b) refl (all_digits radix p low bs)
  where
    go : (t : Bool) → p b ≡ t → AllDigits radix (take (prefix_len p bs) bs) → AllDigits radix (take (cond t (1 + prefix_len p bs) 0) (b ∷ bs))
    go true e h = subst (λ n. AllDigits radix (take n (b ∷ bs))) (let s : suc (prefix_len p bs) ≡ 1 + prefix_len p bs = omega arith in s) (low b e, h)
    go false e h = tt

pub digit_below : (b : ℕ) → in_class classes.Digit b ≡ true → digit_value b < 10
digit_below b h = grind (arith, nat_tests)

pub hexadecimal_below : (b : ℕ) → in_class classes.Hexadecimal b ≡ true → digit_value b < 16
hexadecimal_below b h = grind (arith, nat_tests)

pub front_before : (test : ℕ → Bool) (hay : List ℕ) (k : ℕ) → ((i : ℕ) → i < k → test (slice_index hay i) ≡ true → ⊥) → (k < length hay → test (slice_index hay k) ≡ true) → k ≤ length hay → k ≡ prefix_len (λ b. not (test b)) hay
front_before test [] k none here le = omega arith
front_before test (x ∷ xs) zero none here le = ap (λ b. cond (not b) (1 + prefix_len (λ b. not (test b)) xs) 0) (sym (here (omega arith)))
front_before test (x ∷ xs) (suc k) none here le = go (test x) refl (front_before test xs k (λ i lt. none (suc i) (omega arith)) (λ lt. here (omega arith)) (omega arith))
  where
    go : (b : Bool) → test x ≡ b → k ≡ prefix_len (λ c. not (test c)) xs → suc k ≡ cond (not b) (1 + prefix_len (λ c. not (test c)) xs) 0
    go true e h = absurd (none 0 (omega arith) e)
    go false e h = omega arith

pub run_numeral : (radix : ℕ) (class : Class) → ((b : ℕ) → in_class class b ≡ true → digit_value b < radix) → (text digits rest : List ℕ) → run_at class text ≡ Ok (digits, rest) → IsNumeral radix digits
unfolding run_at
run_numeral radix class low text digits rest e = go (nat_lt 0 (run_len class text)) refl e
  where
    read : Bool → Result (List ℕ × List ℕ) Fault
    read t = if t then Ok (take (run_len class text) text, drop (run_len class text) text) else Err Lexical

    go : (t : Bool) → nat_lt 0 (run_len class text) ≡ t → read t ≡ Ok (digits, rest) → IsNumeral radix digits
    go true i h =
        let pair : (let x : List ℕ × List ℕ = (take (run_len class text) text, drop (run_len class text) text) in x) ≡ (digits, rest) = cc in
        subst (IsNumeral radix) (ap (λ (x : List ℕ × List ℕ). x.0) pair)
        (omega (arith, length-take (run_len class text) text, ltb-true 0 (run_len class text) i, prefix_len-le-length (in_class class) text), all_digits radix (in_class class) low text)
    go false i h = absurd (cc)

-- before the quote, and there before U+0000
pub quoted_both : (quote : ℕ) (xs : List ℕ) → prefix_len (is_other 0) (take (prefix_len (is_other quote) xs) xs) ≡ run_len (classes.Quoted quote) xs
quoted_both quote [] = refl
quoted_both quote (x ∷ xs) = go (x == quote) (x == 0) refl (quoted_both quote xs)
  where
    go : (q z : Bool) → x == 0 ≡ z → prefix_len (is_other 0) (take (prefix_len (is_other quote) xs) xs) ≡ run_len (classes.Quoted quote) xs
        → prefix_len (is_other 0) (take (cond (not q) (1 + prefix_len (is_other quote) xs) 0) (x ∷ xs)) ≡ cond (not (q || z)) (1 + run_len (classes.Quoted quote) xs) 0
    go true z e h = refl
    go false z e h =
        let n : ℕ = prefix_len (is_other quote) xs in
        let more : suc n ≡ 1 + n = omega arith in
        subst (λ k. prefix_len (is_other 0) (take k (x ∷ xs)) ≡ cond (not z) (1 + run_len (classes.Quoted quote) xs) 0) more
        (ap (λ t. cond (not t) (1 + prefix_len (is_other 0) (take n xs)) 0) e ∙ ap (λ k. cond (not z) (1 + k) 0) h)
