-- What is spelled as a token is read so.
use Rattle.std.proofs.Common.{◌≡◌, ℕ, ◌==◌, ◌<◌, ◌≤◌, nat_lt, Bool, true, false, List, [], ◌∷◌, ◌++◌, Some, refl, sym, ap, ◌∙◌, subst, arith, true≢false}
use Rattle.std.proofs.lemmas.Bool.{eqb-true}
use Rattle.std.specs.Char.{digit_value}
use Rattle.std.specs.Str.Parse.{IsNumeral}
use Rattle.form_pattern.specs.declared.tokens.High.{High}
use Rattle.form_pattern.specs.declared.tokens.High.TheVariants.{Times, Endless}
use Rattle.form_pattern.specs.declared.characters.Set.{Set}
use Rattle.form_pattern.specs.declared.classes.Class.{Class}
use Rattle.form_pattern.specs.declared.tokens.Chars.TheVariants as chars_of
use Rattle.form_pattern.specs.declared.tokens.Token.{Token}
use Rattle.form_pattern.specs.declared.tokens.Token.TheVariants.{Open, Quantifier}
use Rattle.form_pattern.specs.declared.tokens.Token.TheVariants as token_of
use Rattle.form_pattern.specs.declared.tokens.TheConstants.{MOST}
use Rattle.form_pattern.specs.Characters.{is_plain, begins}
use Rattle.form_pattern.specs.NumberReading.{number}
use Rattle.form_pattern.specs.Reading.{escape, opening, lazily, upper_bound, bounds, escaped, small_token, read_token}
use Rattle.form_pattern.specs.Spelling.{IsNumber, IsEscape, IsSetEscape, named, IsClass, IsQuantifier, star, plus, question, exactly, at_least, between, IsToken, start, finish, bar, close, group, group_alone, ahead, not_ahead, greedy, lazy, any, plain, escape as one_escape, set_escape as a_set, class}
use Rattle.form_pattern.proofs.NumberLemmas.{number_reads}
use Rattle.form_pattern.proofs.EscapeLemmas.{escape_reads, set_reads}
use Rattle.form_pattern.proofs.ClassLemmas.{none_after, class_reads, no_set}

-- a character that passes a test is another than one that does not
other_by : (p : ℕ → Bool) (c k : ℕ) → p c ≡ true → p k ≡ false → (c == k) ≡ false
other_by p c k holds fails = go (c == k) refl
  where
    go : (b : Bool) → (c == k) ≡ b → b ≡ false
    go true e = absurd (true≢false (sym holds ∙ ap p (eqb-true c k e) ∙ fails))
    go false e = refl

number_begins : (base most : ℕ) (text : List ℕ) (n : ℕ) (rest : List ℕ) → IsNumber base most text n rest → (x : ℕ) × (xs : List ℕ) × (text ≡ x ∷ xs) × (digit_value x < base)
number_begins base most text n rest is = go is.digits is.spelled is.numeral
  where
    go : (ds : List ℕ) → text ≡ ds ++ rest → IsNumeral base ds → (x : ℕ) × (xs : List ℕ) × (text ≡ x ∷ xs) × (digit_value x < base)
    go [] e d = absurd (omega (arith, d.0))
    go (x ∷ xs) e d = (x, xs ++ rest, e, d.1.0)

not_end : (x : ℕ) → digit_value x < 10 → (x == 125) ≡ false
not_end x d = go (x == 125) refl
  where
    go : (b : Bool) → (x == 125) ≡ b → b ≡ false
    go true e = absurd (omega (arith, subst (λ y. digit_value y < 10) (eqb-true x 125 e) d))
    go false e = refl

upper_reads : (low : ℕ) (mid : List ℕ) (high : ℕ) (rest : List ℕ) → IsNumber 10 MOST mid high (125 ∷ rest) → low ≤ high → upper_bound low mid ≡ Some (lazily low (Times high) rest)
unfolding upper_bound
upper_reads low mid high rest d le =
    let b = number_begins 10 MOST mid high (125 ∷ rest) d in
    let below : nat_lt high low ≡ false = grind arith in
    rw b.2 (rw (not_end b.0 b.3, sym (ap (number 10 MOST) b.2) ∙ number_reads 10 MOST mid high (125 ∷ rest) (omega arith) refl d, below) refl)

bounds_exactly : (text : List ℕ) (n : ℕ) (rest : List ℕ) → IsNumber 10 MOST text n (125 ∷ rest) → bounds text ≡ Some (lazily n (Times n) rest)
unfolding bounds
bounds_exactly text n rest d = rw (number_reads 10 MOST text n (125 ∷ rest) (omega arith) refl d) refl

bounds_at_least : (text : List ℕ) (n : ℕ) (rest : List ℕ) → IsNumber 10 MOST text n (44 ∷ 125 ∷ rest) → bounds text ≡ Some (lazily n Endless rest)
unfolding bounds upper_bound
bounds_at_least text n rest d = rw (number_reads 10 MOST text n (44 ∷ 125 ∷ rest) (omega arith) refl d) refl

bounds_between : (text : List ℕ) (n : ℕ) (mid : List ℕ) (m : ℕ) (rest : List ℕ) → IsNumber 10 MOST text n (44 ∷ mid) → IsNumber 10 MOST mid m (125 ∷ rest) → n ≤ m → bounds text ≡ Some (lazily n (Times m) rest)
unfolding bounds
bounds_between text n mid m rest d e le = rw (number_reads 10 MOST text n (44 ∷ mid) (omega arith) refl d) (upper_reads n mid m rest e le)

quantifier_reads : (text : List ℕ) (low : ℕ) (high : High) (rest : List ℕ) → IsQuantifier text low high rest → read_token text ≡ Some (lazily low high rest)
unfolding read_token small_token is_plain
quantifier_reads _ _ _ _ (star rest) = refl
quantifier_reads _ _ _ _ (plus rest) = refl
quantifier_reads _ _ _ _ (question rest) = refl
quantifier_reads _ _ _ _ (exactly text n rest d) = bounds_exactly text n rest d
quantifier_reads _ _ _ _ (at_least text n rest d) = bounds_at_least text n rest d
quantifier_reads _ _ _ _ (between text n mid m rest d e le) = bounds_between text n mid m rest d e le

not_lazy : (low : ℕ) (high : High) (rest : List ℕ) → begins 63 rest ≡ false → lazily low high rest ≡ (Quantifier low high, rest)
unfolding lazily
not_lazy low high rest e = rw (none_after 63 rest e) refl

is_lazy : (low : ℕ) (high : High) (rest : List ℕ) → lazily low high (63 ∷ rest) ≡ (Quantifier low high, rest)
unfolding lazily
is_lazy low high rest = refl

opening_reads : (rest : List ℕ) → begins 63 rest ≡ false → opening rest ≡ Some (Open, rest)
unfolding opening
opening_reads [] e = refl
opening_reads (c ∷ []) e = rw e refl
opening_reads (c ∷ d ∷ cs) e = rw e refl

escaped_reads : (text : List ℕ) (c : ℕ) (rest : List ℕ) → IsEscape false text c rest → escaped text ≡ Some (token_of.Chars (chars_of.One c), rest)
unfolding escaped
escaped_reads text c rest e =
    let r = escape_reads false text c rest e in
    let inner : escape false r.inner ≡ Some (c, rest) = r.read in
    rw (no_set false text c rest e) (rw r.begun (rw inner refl))

set_escaped : (text : List ℕ) (absent : Bool) (s : Set) (rest : List ℕ) → IsSetEscape text absent s rest → escaped text ≡ Some (token_of.Chars (chars_of.Set absent s), rest)
unfolding escaped
set_escaped text absent s rest e = rw (set_reads text absent s rest e) refl

-- behind a backslash an escape is read
backslash : (inner : List ℕ) → read_token (92 ∷ inner) ≡ escaped (92 ∷ inner)
unfolding read_token small_token is_plain
backslash inner = refl

set_slash : (text : List ℕ) (absent : Bool) (s : Set) (rest : List ℕ) → IsSetEscape text absent s rest → (inner : List ℕ) × (text ≡ 92 ∷ inner)
set_slash _ _ _ _ (named l absent s rest e) = (l ∷ rest, refl)

slash_reads : (text inner : List ℕ) → text ≡ 92 ∷ inner → read_token text ≡ escaped text
slash_reads text inner e = ap read_token e ∙ backslash inner ∙ sym (ap escaped e)

plain_bracket : is_plain 91 ≡ false
unfolding is_plain
plain_bracket = refl

plain_reads : (c : ℕ) (rest : List ℕ) → is_plain c ≡ true → read_token (c ∷ rest) ≡ Some (token_of.Chars (chars_of.One c), rest)
unfolding read_token small_token
plain_reads c rest e = rw (other_by is_plain c 91 e plain_bracket, e) refl

class_token : (text : List ℕ) (k : Class) (rest : List ℕ) → IsClass text k rest → read_token text ≡ Some (token_of.Chars (chars_of.Class k), rest)
unfolding read_token
class_token text k rest is = let r = class_reads text k rest is in rw r.1 (rw r.2 refl)

group_reads : (rest : List ℕ) → begins 63 rest ≡ false → read_token (40 ∷ rest) ≡ Some (Open, rest)
unfolding read_token small_token is_plain
group_reads rest e = opening_reads rest e

pub token_reads : (text : List ℕ) (t : Token) (rest : List ℕ) → IsToken text t rest → read_token text ≡ Some (t, rest)
unfolding read_token small_token is_plain opening
token_reads _ _ _ (start rest) = refl
token_reads _ _ _ (finish rest) = refl
token_reads _ _ _ (bar rest) = refl
token_reads _ _ _ (close rest) = refl
token_reads _ _ _ (group rest e) = group_reads rest e
token_reads _ _ _ (group_alone rest) = refl
token_reads _ _ _ (ahead rest) = refl
token_reads _ _ _ (not_ahead rest) = refl
token_reads _ _ _ (greedy text low high rest q e) = quantifier_reads text low high rest q ∙ ap Some (not_lazy low high rest e)
token_reads _ _ _ (lazy text low high rest q) = quantifier_reads text low high (63 ∷ rest) q ∙ ap Some (is_lazy low high rest)
token_reads _ _ _ (any rest) = refl
token_reads _ _ _ (plain c rest e) = plain_reads c rest e
token_reads _ _ _ (one_escape text c rest e) = let r = escape_reads false text c rest e in slash_reads text r.inner r.begun ∙ escaped_reads text c rest e
token_reads _ _ _ (a_set text absent s rest e) = let r = set_slash text absent s rest e in slash_reads text r.0 r.1 ∙ set_escaped text absent s rest e
token_reads _ _ _ (class text k rest e) = class_token text k rest e
