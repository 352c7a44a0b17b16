-- Where the text may be cut.
use Rattle.std.proofs.Common.{◌≡◌, ℕ, ◌+◌, ◌<◌, ◌≤◌, List, [], ◌∷◌, drop, length, get_or, Bool, true, false, refl, sym, subst, arith, zero, suc, inl, inr, ◌⊎◌, if◌then◌else◌, ◌==◌, not}
use Rattle.std.specs.List.{prefix_len}
use Rattle.std.specs.Str.{IsUtf8, IsCharBoundary}
use Rattle.std.proofs.lemmas.Bool.{cases_lt}
use Rattle.std.proofs.lemmas.Bool.Decides.{nat_tests}
use Rattle.std.proofs.lemmas.List.Sums.{prefix_len_passes, prefix_len_stops, prefix_len-le-length}
use Rattle.std.proofs.lemmas.Str.{IsCharBoundary-start, IsCharBoundary-end, IsCharBoundary-before_ascii, IsCharBoundary-after_ascii}
use Rattle.form_tokens.specs.Runs.{IsLow, in_class, run_len, begins}
use Rattle.form_tokens.specs.Characters.{begins_shown, is_shown_angle, shown_len}
use Rattle.form_tokens.specs.References.{begins_reference}
use Rattle.form_tokens.specs.declared.class.Class.{Class}
use Rattle.form_tokens.specs.declared.class.Class.TheVariants as classes
use Rattle.form_tokens.specs.declared.chunk.Context.{Context}
use Rattle.form_tokens.proofs.Shorter.{shown_within}

-- behind a run of ASCII bytes
pub after_run : (p : ℕ → Bool) → ((b : ℕ) → p b ≡ true → b < 128) → (bs : List ℕ) → IsUtf8 bs → (n : ℕ) → n ≡ prefix_len p bs → IsCharBoundary bs n
after_run p low bs u zero e = IsCharBoundary-start bs u
after_run p low bs u (suc n) e =
    let within : n < prefix_len p bs = omega arith in
    let passes : get_or bs n 0 < 128 = low (get_or bs n 0) (prefix_len_passes p bs n 0 within) in
    let inside : n < length bs = omega (arith, prefix_len-le-length p bs) in
    let step : n + 1 ≡ suc n = omega arith in
    subst (IsCharBoundary bs) step (IsCharBoundary-after_ascii bs n u inside passes)

-- before an ASCII byte, or at the end
pub before_stop : (p : ℕ → Bool) → ((b : ℕ) → p b ≡ false → b < 128) → (bs : List ℕ) (n : ℕ) → n ≡ prefix_len p bs → IsCharBoundary bs n
before_stop p low bs n e = at_end_or (cases_lt n (length bs))
  where
    at_end_or : (n < length bs) ⊎ (length bs ≤ n) → IsCharBoundary bs n
    at_end_or (inl lt) = IsCharBoundary-before_ascii bs n lt (low (get_or bs n 0) (subst (λ k. p (get_or bs k 0) ≡ false) (sym e) (prefix_len_stops p bs 0 (subst (λ k. k < length bs) e lt))))
    at_end_or (inr ge) = let whole : length bs ≡ n = omega (arith, prefix_len-le-length p bs) in subst (IsCharBoundary bs) whole (IsCharBoundary-end bs)

pub space_low : (b : ℕ) → in_class classes.Space b ≡ true → b < 128
space_low b h = grind (arith, nat_tests)

pub name_low : (b : ℕ) → in_class classes.Name b ≡ true → b < 128
name_low b h = grind (arith, nat_tests)

pub attribute_low : (b : ℕ) → in_class classes.AttributeName b ≡ false → b < 128
attribute_low b h = grind (arith, nat_tests)

pub unquoted_low : (b : ℕ) → in_class classes.Unquoted b ≡ false → b < 128
unquoted_low b h = grind (arith, nat_tests)

pub quoted_low : (quote : ℕ) → quote < 128 → (b : ℕ) → in_class (classes.Quoted quote) b ≡ false → b < 128
quoted_low quote low b h = grind (arith, nat_tests)

pub alphanumeric_low : (b : ℕ) → in_class classes.Alphanumeric b ≡ true → b < 128
alphanumeric_low b h = grind (arith, nat_tests)

pub digit_low : (b : ℕ) → in_class classes.Digit b ≡ true → b < 128
digit_low b h = grind (arith, nat_tests)

pub hexadecimal_low : (b : ℕ) → in_class classes.Hexadecimal b ≡ true → b < 128
hexadecimal_low b h = grind (arith, nat_tests)

-- behind a run of a class
pub class_boundary : (class : Class) → IsLow class → (bs : List ℕ) → IsUtf8 bs → (n : ℕ) → n ≡ run_len class bs → IsCharBoundary bs n
class_boundary classes.Space low = after_run (in_class classes.Space) space_low
class_boundary classes.Name low = after_run (in_class classes.Name) name_low
class_boundary classes.AttributeName low = λ bs u. before_stop (in_class classes.AttributeName) attribute_low bs
class_boundary classes.Unquoted low = λ bs u. before_stop (in_class classes.Unquoted) unquoted_low bs
class_boundary (classes.Quoted quote) low = λ bs u. before_stop (in_class (classes.Quoted quote)) (quoted_low quote low) bs
class_boundary classes.Alphanumeric low = after_run (in_class classes.Alphanumeric) alphanumeric_low
class_boundary classes.Digit low = after_run (in_class classes.Digit) digit_low
class_boundary classes.Hexadecimal low = after_run (in_class classes.Hexadecimal) hexadecimal_low

-- behind an ASCII byte
pub after_first : (b : ℕ) (bs : List ℕ) → IsUtf8 bs → b < 128 → begins b bs ≡ true → IsCharBoundary bs 1
after_first b [] u low h = absurd (cc)
after_first b (x ∷ xs) u low h =
    let is : x ≡ b = grind (arith, nat_tests) in
    IsCharBoundary-after_ascii (x ∷ xs) 0 u (omega arith) (subst (λ k. k < 128) (sym is) low)

-- what ends characters is ASCII
pub shown_stop : (place : Context) (b : ℕ) (bs : List ℕ) → begins_shown place (b ∷ bs) ≡ false → b < 128
shown_stop place b bs h = go (b == 38) refl (b == 60) refl (b == 0) refl h
  where
    go : (x : Bool) → b == 38 ≡ x → (y : Bool) → b == 60 ≡ y → (z : Bool) → b == 0 ≡ z
        → (if x then not (begins_reference bs) else (if y then is_shown_angle place (b ∷ bs) else not z)) ≡ false → b < 128
    go true e y f z g h = grind (arith, nat_tests)
    go false e true f z g h = grind (arith, nat_tests)
    go false e false f true g h = grind (arith, nat_tests)
    go false e false f false g h = absurd (cc)

pub shown_ends : (place : Context) (text : List ℕ) → shown_len place text < length text → get_or text (shown_len place text) 0 < 128
shown_ends place [] lt = absurd (omega arith)
shown_ends place (b ∷ bs) lt = go (shown_ends place bs) (begins_shown place (b ∷ bs)) refl lt
  where
    go : (shown_len place bs < length bs → get_or bs (shown_len place bs) 0 < 128) → (t : Bool) → begins_shown place (b ∷ bs) ≡ t
        → (if t then suc (shown_len place bs) else 0) < suc (length bs) → get_or (b ∷ bs) (if t then suc (shown_len place bs) else 0) 0 < 128
    go again true e l = again (omega arith)
    go again false e l = shown_stop place b bs e

pub shown_boundary : (place : Context) (bs : List ℕ) (n : ℕ) → n ≡ shown_len place bs → IsCharBoundary bs n
shown_boundary place bs n e = at_end_or (cases_lt n (length bs))
  where
    at_end_or : (n < length bs) ⊎ (length bs ≤ n) → IsCharBoundary bs n
    at_end_or (inl lt) = IsCharBoundary-before_ascii bs n lt (subst (λ k. get_or bs k 0 < 128) (sym e) (shown_ends place bs (subst (λ k. k < length bs) e lt)))
    at_end_or (inr ge) = let whole : length bs ≡ n = omega (arith, shown_within place bs) in subst (IsCharBoundary bs) whole (IsCharBoundary-end bs)

-- before an ASCII byte
pub before_byte : (b : ℕ) (bs : List ℕ) (k : ℕ) → b < 128 → begins b (drop k bs) ≡ true → IsCharBoundary bs k
before_byte b bs k low e =
    let there = at k bs e in
    IsCharBoundary-before_ascii bs k there.0 (subst (λ x. x < 128) (sym there.1) low)
  where
    at : (k : ℕ) (bs : List ℕ) → begins b (drop k bs) ≡ true → (k < length bs) × (get_or bs k 0 ≡ b)
    at zero [] e = absurd (cc)
    at (suc k) [] e = absurd (cc)
    at zero (x ∷ xs) e = (omega arith, grind (arith, nat_tests))
    at (suc k) (x ∷ xs) e = let more = at k xs e in (omega (arith, more.0), more.1)
