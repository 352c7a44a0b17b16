-- What is read of an escape is spelled so, and what is spelled so is read.
use Rattle.std.proofs.Common.{◌≡◌, ℕ, ◌==◌, ◌<◌, nat_lt, Bool, true, false, cond, List, [], ◌∷◌, ◌++◌, length, Some, None, refl, sym, ap, ◌∙◌, subst, arith}
use Rattle.std.proofs.lemmas.Option.{option_and_then_some, some_pair_parts, none-some}
use Rattle.std.proofs.lemmas.Bool.{lt-ltb, eqb-true}
use Rattle.std.specs.Option.{option_and_then}
use Rattle.std.specs.Char.{digit_value, is_ascii_digit}
use Rattle.std.specs.Str.Parse.{AllDigits, digits_value}
use Rattle.form_pattern.specs.declared.characters.Set.{Set}
use Rattle.form_pattern.specs.declared.characters.Letter.{Letter}
use Rattle.form_pattern.specs.declared.characters.Letter.TheVariants.{Character, InClass, Null, Byte, Unicode, Other}
use Rattle.form_pattern.specs.declared.characters.Letter.TheVariants as letter
use Rattle.form_pattern.specs.Characters.{escape_letter, is_scalar}
use Rattle.form_pattern.specs.NumberReading.{number, two_hex, four_hex}
use Rattle.form_pattern.specs.Reading.{scalar_of, null, braces_closed, braced, unicode, byte, behind_letter, escape, set_of, set_escape}
use Rattle.form_pattern.specs.Spelling.{IsNumber, IsHex, IsEscape, by_letter, in_class_alone, null_alone, null_before, two_digits, four_digits, in_braces, IsSetEscape, named}
use Rattle.form_pattern.proofs.NumberLemmas.{either_way, if_some, at_sign, number_spelled, number_reads, two_spelled, two_reads, four_spelled, four_reads}

scalar_spelled : {P : Type 0} (r : ℕ × List ℕ) (c : ℕ) (rest : List ℕ) → scalar_of r ≡ Some (c, rest) → (is_scalar r.0 ≡ true → r ≡ (c, rest) → P) → P
scalar_spelled r c rest h f = if_some (is_scalar r.0) (Some r) (c, rest) h (λ s e. f s cc)

-- ---- found: what is read is spelled

byte_spelled : (b : Bool) (l : ℕ) (text : List ℕ) (c : ℕ) (rest : List ℕ) → escape_letter l ≡ Byte → byte text ≡ Some (c, rest) → IsEscape b (92 ∷ l ∷ text) c rest
unfolding byte
byte_spelled b l text c rest is h =
    option_and_then_some scalar_of (two_hex text) (c, rest) h (λ r e k. scalar_spelled r c rest k (λ s same. two_digits l c text rest is (two_spelled text c rest (e ∙ ap Some same))))

closed_spelled : {P : Type 0} (n : ℕ) (text : List ℕ) (c : ℕ) (rest : List ℕ) → braces_closed n text ≡ Some (c, rest) → (text ≡ 125 ∷ rest → n ≡ c → is_scalar c ≡ true → P) → P
closed_spelled n [] c rest h f = absurd (none-some (c, rest) h)
closed_spelled n (x ∷ xs) c rest h f =
    if_some (x == 125) _ (c, rest) h (λ e k. scalar_spelled (n, xs) c rest k (λ s same. f (ap (λ y. y ∷ xs) (eqb-true x 125 e) ∙ ap (λ r. 125 ∷ r.1) same) (ap (λ r. r.0) same) (subst (λ y. is_scalar y ≡ true) (ap (λ r. r.0) same) s)))

braced_spelled : (b : Bool) (l : ℕ) (text : List ℕ) (c : ℕ) (rest : List ℕ) → escape_letter l ≡ Unicode → braced text ≡ Some (c, rest) → IsEscape b (92 ∷ l ∷ 123 ∷ text) c rest
unfolding braced
braced_spelled b l text c rest is h =
    option_and_then_some _ (number 16 0x10_FFFF text) (c, rest) h (λ r e k. closed_spelled r.0 r.1 c rest k (λ behind same s.
    in_braces l c text rest is (number_spelled 16 0x10_FFFF text c (125 ∷ rest) (e ∙ ap (λ xs. Some (r.0, xs)) behind ∙ ap (λ n. Some (n, 125 ∷ rest)) same)) s))

unicode_spelled : (b : Bool) (l : ℕ) (text : List ℕ) (c : ℕ) (rest : List ℕ) → escape_letter l ≡ Unicode → unicode text ≡ Some (c, rest) → IsEscape b (92 ∷ l ∷ text) c rest
unfolding unicode
unicode_spelled b l [] c rest is h = absurd (none-some (c, rest) h)
unicode_spelled b l (x ∷ xs) c rest is h =
    at_sign x 123 _ _ (c, rest) h
    (λ e k. subst (λ y. IsEscape b (92 ∷ l ∷ y ∷ xs) c rest) (sym e) (braced_spelled b l xs c rest is k))
    (λ k. option_and_then_some scalar_of (four_hex (x ∷ xs)) (c, rest) k (λ r e g. scalar_spelled r c rest g (λ s same.
    four_digits l c (x ∷ xs) rest is (four_spelled (x ∷ xs) c rest (e ∙ ap Some same)) (subst (λ y. is_scalar y ≡ true) (ap (λ r. r.0) same) s))))

null_spelled : (b : Bool) (l : ℕ) (text : List ℕ) (c : ℕ) (rest : List ℕ) → escape_letter l ≡ Null → null text ≡ Some (c, rest) → IsEscape b (92 ∷ l ∷ text) c rest
null_spelled b l [] c rest is h = let e = some_pair_parts 0 c [] rest h in subst (λ y. IsEscape b (92 ∷ l ∷ []) y rest) e.0 (subst (λ ys. IsEscape b (92 ∷ l ∷ []) 0 ys) e.1 (null_alone l is))
null_spelled b l (x ∷ xs) c rest is h =
    either_way (is_ascii_digit x) None (Some (0, x ∷ xs)) (c, rest) h (λ d k. absurd (none-some (c, rest) k)) (λ d k.
    let e = some_pair_parts 0 c (x ∷ xs) rest k in
    subst (λ y. IsEscape b (92 ∷ l ∷ x ∷ xs) y rest) e.0 (subst (λ ys. IsEscape b (92 ∷ l ∷ x ∷ xs) 0 ys) e.1 (null_before l x xs is d)))

pub escape_spelled : (b : Bool) (text : List ℕ) (c : ℕ) (rest : List ℕ) → escape b text ≡ Some (c, rest) → IsEscape b (92 ∷ text) c rest
unfolding escape
escape_spelled b [] c rest h = absurd (none-some (c, rest) h)
escape_spelled b (l ∷ text) c rest h = go (escape_letter l) refl h
  where
    go : (k : Letter) → escape_letter l ≡ k → behind_letter b k text ≡ Some (c, rest) → IsEscape b (92 ∷ l ∷ text) c rest
    go (Character x) is g = let e = some_pair_parts x c text rest g in subst (λ ys. IsEscape b (92 ∷ l ∷ text) c ys) e.1 (by_letter l c text (is ∙ ap Character e.0))
    go (InClass x) is g = if_some b (Some (x, text)) (c, rest) g (λ inside k. let e = some_pair_parts x c text rest k in subst (λ ys. IsEscape b (92 ∷ l ∷ text) c ys) e.1 (in_class_alone l c text inside (is ∙ ap InClass e.0)))
    go Null is g = null_spelled b l text c rest is g
    go Byte is g = byte_spelled b l text c rest is g
    go Unicode is g = unicode_spelled b l text c rest is g
    go (letter.Set absent set) is g = absurd (none-some (c, rest) g)
    go Other is g = absurd (none-some (c, rest) g)

pub set_spelled : (text : List ℕ) (absent : Bool) (set : Set) (rest : List ℕ) → set_escape text ≡ Some ((absent, set), rest) → IsSetEscape text absent set rest
unfolding set_escape
set_spelled [] absent set rest h = absurd (none-some ((absent, set), rest) h)
set_spelled (c ∷ []) absent set rest h = absurd (none-some ((absent, set), rest) h)
set_spelled (c ∷ l ∷ text) absent set rest h = if_some (c == 92) _ ((absent, set), rest) h (λ e g. subst (λ y. IsSetEscape (y ∷ l ∷ text) absent set rest) (sym (eqb-true c 92 e)) (go (escape_letter l) refl g))
  where
    go : (k : Letter) → escape_letter l ≡ k → set_of k text ≡ Some ((absent, set), rest) → IsSetEscape (92 ∷ l ∷ text) absent set rest
    go (Character x) is g = absurd (none-some ((absent, set), rest) g)
    go (InClass x) is g = absurd (none-some ((absent, set), rest) g)
    go Null is g = absurd (none-some ((absent, set), rest) g)
    go Byte is g = absurd (none-some ((absent, set), rest) g)
    go Unicode is g = absurd (none-some ((absent, set), rest) g)
    go Other is g = absurd (none-some ((absent, set), rest) g)
    go (letter.Set a s) is g =
        let e = some_pair_parts (a, s) (absent, set) text rest g in
        subst (λ ys. IsSetEscape (92 ∷ l ∷ text) absent set ys) e.1 (named l absent set text (is ∙ ap (λ r. letter.Set r.0 r.1) e.0))

-- ---- only: what is spelled is read

-- two hexadecimal digits are the number of a character
two_scalar : (text : List ℕ) (c : ℕ) (rest : List ℕ) → IsHex 2 text c rest → is_scalar c ≡ true
two_scalar text c rest is = go is.digits is.counted is.hexadecimal is.value
  where
    go : (ds : List ℕ) → length ds ≡ 2 → AllDigits 16 ds → c ≡ digits_value 16 ds → is_scalar c ≡ true
    go [] n all e = absurd (omega arith)
    go (a ∷ []) n all e = absurd (omega arith)
    go (a ∷ b ∷ []) n all e =
        let small : nat_lt c 0xD800 ≡ true = lt-ltb _ _ (omega (arith, e, all.0, all.1.0)) in
        rw small refl
    go (a ∷ b ∷ d ∷ ds) n all e = absurd (omega arith)

-- hexadecimal digits do not begin with `{`
not_brace : (a : ℕ) → digit_value a < 16 → (a == 123) ≡ false
not_brace a d = go (a == 123) refl
  where
    go : (b : Bool) → (a == 123) ≡ b → b ≡ false
    go true e = absurd (omega (arith, subst (λ x. digit_value x < 16) (eqb-true a 123 e) d))
    go false e = refl

four_unicode : (text : List ℕ) (c : ℕ) (rest : List ℕ) → IsHex 4 text c rest → is_scalar c ≡ true → unicode text ≡ Some (c, rest)
unfolding unicode
four_unicode text c rest is s = go text is.digits is.spelled is.counted is.hexadecimal (four_reads text c rest is)
  where
    go : (t : List ℕ) (ds : List ℕ) → t ≡ ds ++ rest → length ds ≡ 4 → AllDigits 16 ds → four_hex t ≡ Some (c, rest) → unicode t ≡ Some (c, rest)
    go t [] e n all h = absurd (omega arith)
    go [] (d ∷ ds) e n all h = absurd (cc)
    go (x ∷ xs) (d ∷ ds) e n all h =
        let first : x ≡ d = cc in
        let other : (x == 123) ≡ false = not_brace x (subst (λ y. digit_value y < 16) (sym first) all.0) in
        rw (other, h, s) refl

braced_unicode : (text : List ℕ) (c : ℕ) (rest : List ℕ) → IsNumber 16 0x10_FFFF text c (125 ∷ rest) → is_scalar c ≡ true → unicode (123 ∷ text) ≡ Some (c, rest)
unfolding unicode braced
braced_unicode text c rest is s = rw (number_reads 16 0x10_FFFF text c (125 ∷ rest) (omega arith) refl is, s) refl

-- what an escape begins with, and what is read behind it
pub record IsRead (b : Bool) (text : List ℕ) (c : ℕ) (rest : List ℕ) : Type 0 where
  pub inner : List ℕ
  pub begun : text ≡ 92 ∷ inner
  pub read : escape b inner ≡ Some (c, rest)

pub escape_reads : (b : Bool) (text : List ℕ) (c : ℕ) (rest : List ℕ) → IsEscape b text c rest → IsRead b text c rest
unfolding escape byte
escape_reads b _ _ _ (by_letter l c rest is) = record { inner = l ∷ rest; begun = refl; read = ap (λ k. behind_letter b k rest) is }
escape_reads b _ _ _ (in_class_alone l c rest inside is) = record { inner = l ∷ rest; begun = refl; read = ap (λ k. behind_letter b k rest) is ∙ ap (λ x. cond x (Some (c, rest)) None) inside }
escape_reads b _ _ _ (null_alone l is) = record { inner = l ∷ []; begun = refl; read = ap (λ k. behind_letter b k []) is }
escape_reads b _ _ _ (null_before l x xs is d) = record { inner = l ∷ x ∷ xs; begun = refl; read = ap (λ k. behind_letter b k (x ∷ xs)) is ∙ ap (λ y. cond y None (Some (0, x ∷ xs))) d }
escape_reads b _ _ _ (two_digits l c inner rest is digits) =
    record { inner = l ∷ inner; begun = refl; read = ap (λ k. behind_letter b k inner) is ∙ ap (option_and_then scalar_of) (two_reads inner c rest digits) ∙ ap (λ y. cond y (Some (c, rest)) None) (two_scalar inner c rest digits) }
escape_reads b _ _ _ (four_digits l c inner rest is digits s) = record { inner = l ∷ inner; begun = refl; read = ap (λ k. behind_letter b k inner) is ∙ four_unicode inner c rest digits s }
escape_reads b _ _ _ (in_braces l c inner rest is digits s) = record { inner = l ∷ 123 ∷ inner; begun = refl; read = ap (λ k. behind_letter b k (123 ∷ inner)) is ∙ braced_unicode inner c rest digits s }

pub set_reads : (text : List ℕ) (absent : Bool) (set : Set) (rest : List ℕ) → IsSetEscape text absent set rest → set_escape text ≡ Some ((absent, set), rest)
unfolding set_escape
set_reads _ _ _ _ (named l absent set rest is) = ap (λ k. set_of k rest) is
