-- What is read at the front of a text is the longest numeral there.
use Rattle.std.proofs.Common.{◌≡◌, ℕ, ◌+◌, ◌-◌, ◌<◌, ◌≤◌, ◌++◌, Bool, true, false, ◌||◌, cond, List, [], ◌∷◌, suc, length, take, drop, Option, Some, None, is_some, refl, ap, sym, subst, ◌∙◌, arith, eqb, ltb, append-nil, append_assoc, inl, inr, ◌⊎◌, length-append}
use Rattle.std.specs.Char.{digit_value, is_ascii_digit}
use Rattle.std.specs.Str.Parse.{AllDigits}
use Rattle.std.proofs.lemmas.Bool.{eqb-true, ltb-true, lt-ltb, and_parts}
use Rattle.std.proofs.lemmas.Bool.Decides.{nat_tests}
use Rattle.std.proofs.lemmas.List.{take-append-drop, take_at, drop_at, length-take-le}
use Rattle.std.proofs.lemmas.Option.{same_Some}
use Rattle.form_decimal.specs.declared.spelling.Sign.{Sign}
use Rattle.form_decimal.specs.declared.spelling.Sign.TheVariants.{Plus, Minus}
use Rattle.form_decimal.specs.Numeral.{Numeral, Exponent, numeral_text, exponent_text, mark_text, sign_text, point_text, places, AreDigits, IsExponent, IsLenientForm, IsLongest}
use Rattle.form_decimal.specs.Spelling.{begins, digit_len, digits_front, behind_digits, sign_at, behind_sign, has_point, point_at, behind_point, has_exponent, exponent_at, behind_exponent, whole_some, fraction_front, tail_front, has_digit, made, behind_made, numeral_front}

-- a value under a test: the test holds
pub some_if : {A : Type 0} (b : Bool) (o : Option A) (y : A) → cond b o None ≡ Some y → (b ≡ true) × (o ≡ Some y)
some_if true o y h = (refl, h)
some_if false o y h = cc

-- a byte that is a digit
digit_true : (c : ℕ) → is_ascii_digit c ≡ true → digit_value c < 10
digit_true c h = grind (arith, nat_tests)

-- a byte that has the value of one
pub true_digit : (c : ℕ) → digit_value c < 10 → (is_ascii_digit c ≡ true) × (digit_value c ≡ c - 48) × (48 ≤ c) × (c < 58)
true_digit c h = (grind (arith, nat_tests), grind (arith, nat_tests), grind (arith, nat_tests), grind (arith, nat_tests))

-- ---- the digits at the front

-- the digits at the front are digits
pub digits_front-are : (xs : List ℕ) → AreDigits (digits_front xs)
digits_front-are [] = tt
digits_front-are (x ∷ xs) = go (is_ascii_digit x) refl (digits_front-are xs)
  where
    go : (b : Bool) → is_ascii_digit x ≡ b → AreDigits (digits_front xs) → AllDigits 10 (take (cond b (1 + digit_len xs) 0) (x ∷ xs))
    go true e rest = let n : 1 + digit_len xs ≡ suc (digit_len xs) = omega arith in rw n (digit_true x e, rest)
    go false e rest = tt

-- no digit stands in front
abbrev pub NoDigit : List ℕ → Type 0
NoDigit [] = Unit {0}
NoDigit (x ∷ xs) = is_ascii_digit x ≡ false

-- digits before something else are all the digits at the front
pub digit_len-append : (ds r : List ℕ) → AreDigits ds → NoDigit r → digit_len (ds ++ r) ≡ length ds
digit_len-append [] [] p n = refl
digit_len-append [] (x ∷ xs) p n = ap (λ b. cond b (1 + digit_len xs) 0) n
digit_len-append (d ∷ ds) r p n =
    ap (λ b. cond b (1 + digit_len (ds ++ r)) 0) (true_digit d p.0).0 ∙ omega (arith, digit_len-append ds r p.1 n)

-- and are cut off there
pub digits_front-append : (ds r : List ℕ) → AreDigits ds → NoDigit r → (digits_front (ds ++ r) ≡ ds) × (behind_digits (ds ++ r) ≡ r)
digits_front-append ds r p n =
    let e = digit_len-append ds r p n in
    (rw e (take_at ds r (length ds) refl), rw e (drop_at ds r (length ds) refl))

-- a text that begins with a byte
pub begins_is : (b : ℕ) (text : List ℕ) → begins b text ≡ true → text ≡ b ∷ drop 1 text
begins_is b [] h = cc
begins_is b (x ∷ xs) h = ap (λ y. y ∷ xs) (eqb-true x b h)

-- the sign and what is behind it are the text
pub sign_found : (text : List ℕ) → text ≡ sign_text (sign_at text) ++ behind_sign text
sign_found text = go (begins 45 text) refl (begins 43 text) refl
  where
    go : (m : Bool) → begins 45 text ≡ m → (p : Bool) → begins 43 text ≡ p → text ≡ sign_text (cond m (Some Minus) (cond p (Some Plus) None)) ++ cond (is_some (cond m (Some Minus) (cond p (Some Plus) None))) (drop 1 text) text
    go true e p f = begins_is 45 text e
    go false e true f = begins_is 43 text f
    go false e false f = refl

-- the mark of an exponent and what is behind it are the text
pub mark_found : (text : List ℕ) → (begins 69 text || begins 101 text) ≡ true → text ≡ mark_text (begins 69 text) ++ drop 1 text
mark_found text h = go (begins 69 text) refl h
  where
    go : (m : Bool) → begins 69 text ≡ m → (m || begins 101 text) ≡ true → text ≡ mark_text m ++ drop 1 text
    go true e g = begins_is 69 text e
    go false e g = begins_is 101 text g

-- no more digits than characters
pub digit_len-le : (xs : List ℕ) → digit_len xs ≤ length xs
digit_len-le [] = omega arith
digit_len-le (x ∷ xs) = go (is_ascii_digit x) (digit_len-le xs)
  where
    go : (b : Bool) → digit_len xs ≤ length xs → cond b (1 + digit_len xs) 0 ≤ length (x ∷ xs)
    go true h = omega arith
    go false h = omega arith

-- the digits at the front are so many
pub length-digits_front : (xs : List ℕ) → length (digits_front xs) ≡ digit_len xs
length-digits_front xs = length-take-le (digit_len xs) xs (digit_len-le xs)

-- ---- what is found is spelled so

-- the fraction and what is behind it are the text
point_found : (some : Bool) (t : List ℕ) → (t ≡ point_text (point_at some t) ++ behind_point some t) × AreDigits (places (point_at some t))
point_found some t = go (has_point some t) refl
  where
    go : (b : Bool) → has_point some t ≡ b → (t ≡ point_text (cond b (Some (digits_front (drop 1 t))) None) ++ cond b (behind_digits (drop 1 t)) t) × AreDigits (places (cond b (Some (digits_front (drop 1 t))) None))
    go true e =
        let p = and_parts (begins 46 t) (some || ltb 0 (digit_len (drop 1 t))) e in
        (begins_is 46 t p.0 ∙ ap (λ x. 46 ∷ x) (sym (take-append-drop (digit_len (drop 1 t)) (drop 1 t))), digits_front-are (drop 1 t))
    go false e = (refl, tt)

-- brackets of three pieces and a rest
regroup : (a b c d : List ℕ) → a ++ (b ++ (c ++ d)) ≡ (a ++ (b ++ c)) ++ d
regroup a b c d = simp append_assoc

-- an exponent in front of a rest
record Found (t : List ℕ) (e : Option Exponent) (rest : List ℕ) : Type 0 where
  spelled : t ≡ exponent_text e ++ rest
  is : IsExponent e

-- the exponent and what is behind it are the text
exponent_found : (t : List ℕ) → Found t (exponent_at t) (behind_exponent t)
exponent_found t = go (has_exponent t) refl
  where
    r : List ℕ
    r = drop 1 t

    ds : List ℕ
    ds = behind_sign r

    go : (b : Bool) → has_exponent t ≡ b → Found t (cond b (Some (record { capital = begins 69 t; sign = sign_at r; digits = digits_front ds })) None) (cond b (behind_digits ds) t)
    go true e =
        let h = and_parts (begins 69 t || begins 101 t) (ltb 0 (digit_len ds)) e in
        record {
          spelled = mark_found t h.0 ∙ ap (λ x. mark_text (begins 69 t) ++ x) (sign_found r)
              ∙ ap (λ x. mark_text (begins 69 t) ++ (sign_text (sign_at r) ++ x)) (sym (take-append-drop (digit_len ds) ds))
              ∙ regroup (mark_text (begins 69 t)) (sign_text (sign_at r)) (digits_front ds) (behind_digits ds);
          is = (digits_front-are ds, omega (arith, ltb-true 0 (digit_len ds) h.1, length-digits_front ds));
        }
    go false e = record { spelled = refl; is = tt }

-- ---- nothing longer stands there

-- at least the digits that stand in front are read
digit_len-least : (ds r : List ℕ) → AreDigits ds → length ds ≤ digit_len (ds ++ r)
digit_len-least [] r p = omega arith
digit_len-least (d ∷ ds) r p = rw ((true_digit d p.0).0) (omega (arith, digit_len-least ds r p.1))

-- digits are no sign
no_sign_front : (ds r : List ℕ) → AreDigits ds → 0 < length ds → sign_at (ds ++ r) ≡ None
no_sign_front [] r p h = absurd (omega arith)
no_sign_front (d ∷ ds) r p h =
    let t = true_digit d p.0 in
    let a : eqb d 45 ≡ false = grind (arith, nat_tests) in
    let b : eqb d 43 ≡ false = grind (arith, nat_tests) in
    rw (a, b) refl

-- the exponent in front of more text: its digits may go on there
signed_least : (sign : Option Sign) (ds r : List ℕ) → AreDigits ds → 0 < length ds → (sign_at (sign_text sign ++ (ds ++ r)) ≡ sign) × (behind_sign (sign_text sign ++ (ds ++ r)) ≡ ds ++ r)
signed_least None ds r p h = (no_sign_front ds r p h, rw (no_sign_front ds r p h) refl)
signed_least (Some Minus) ds r p h = (refl, refl)
signed_least (Some Plus) ds r p h = (refl, refl)

-- an exponent of these parts
abbrev exponent_make : Bool → Option Sign → List ℕ → Option Exponent
exponent_make capital sign ds = Some (record { capital = capital; sign = sign; digits = ds })

-- an exponent in front is read with all digits that follow
marked_least : (capital : Bool) (sign : Option Sign) (ds r : List ℕ) → AreDigits ds → 0 < length ds → exponent_at (exponent_text (exponent_make capital sign ds) ++ r) ≡ exponent_make capital sign (digits_front (ds ++ r))
marked_least capital sign ds r p h =
    ap exponent_at (sym (regroup (mark_text capital) (sign_text sign) ds r)) ∙ go capital
  where
    s : (sign_at (sign_text sign ++ (ds ++ r)) ≡ sign) × (behind_sign (sign_text sign ++ (ds ++ r)) ≡ ds ++ r)
    s = signed_least sign ds r p h

    some : ltb 0 (digit_len (ds ++ r)) ≡ true
    some = lt-ltb 0 (digit_len (ds ++ r)) (omega (arith, digit_len-least ds r p))

    go : (c : Bool) → exponent_at (mark_text c ++ (sign_text sign ++ (ds ++ r))) ≡ exponent_make c sign (digits_front (ds ++ r))
    go true = rw (s.1, s.0, some) refl
    go false = rw (s.1, s.0, some) refl

-- how long an exponent is
length_power : (capital : Bool) (sign : Option Sign) (ds : List ℕ) → length (exponent_text (exponent_make capital sign ds)) ≡ 1 + length (sign_text sign) + length ds
length_power true sign ds = omega (arith, length-append (sign_text sign) ds)
length_power false sign ds = omega (arith, length-append (sign_text sign) ds)

-- so at least that exponent is read
exponent_least : (e : Option Exponent) (r : List ℕ) → IsExponent e → length (exponent_text e) ≤ length (exponent_text (exponent_at (exponent_text e ++ r)))
exponent_least None r h = omega arith
exponent_least (Some e) r h =
    rw (marked_least e.capital e.sign e.digits r h.0 h.1)
    (omega (arith, length_power e.capital e.sign e.digits, length_power e.capital e.sign (digits_front (e.digits ++ r)), digit_len-least e.digits r h.0, length-digits_front (e.digits ++ r)))

-- an exponent begins neither with a digit nor with a point
exponent_first : (e : Exponent) (r : List ℕ) → NoDigit (exponent_text (Some e) ++ r) × (begins 46 (exponent_text (Some e) ++ r) ≡ false)
exponent_first e r = go e.capital (sign_text e.sign ++ e.digits)
  where
    go : (c : Bool) (x : List ℕ) → NoDigit ((mark_text c ++ x) ++ r) × (begins 46 ((mark_text c ++ x) ++ r) ≡ false)
    go true x = (refl, refl)
    go false x = (refl, refl)

-- a digit before the point or behind it makes the point count
has_some : (some : Bool) (n m : ℕ) → (some ≡ true) ⊎ (0 < n) → n ≤ m → (some || ltb 0 m) ≡ true
has_some true n m h l = refl
has_some false n m h l = elim h [ inl e ↦ cc | inr e ↦ lt-ltb 0 m (omega arith) ]

-- how long a fraction with an exponent is
abbrev Length : Option (List ℕ) → Option Exponent → ℕ
Length f e = length (point_text f) + length (exponent_text e)

-- how much of that is read
abbrev LengthAt : Bool → List ℕ → ℕ
LengthAt some t = Length (point_at some t) (exponent_at (behind_point some t))

-- at least the fraction and the exponent that stand in front are read
tail_least : (some : Bool) (f : Option (List ℕ)) (e : Option Exponent) (r : List ℕ) → AreDigits (places f) → IsExponent e → (some ≡ true) ⊎ (0 < length (places f)) → (Length f e ≤ LengthAt some (point_text f ++ (exponent_text e ++ r))) × (length (places f) ≤ length (places (point_at some (point_text f ++ (exponent_text e ++ r)))))
tail_least some None None r p q h = (omega arith, omega arith)
tail_least some None (Some e) r p q h = rw ((exponent_first e r).1) (omega (arith, exponent_least (Some e) r q), omega arith)
tail_least some (Some ds) None r p q h =
    let l = digit_len-least ds r p in
    let t : (some || ltb 0 (digit_len (ds ++ r))) ≡ true = has_some some (length ds) (digit_len (ds ++ r)) h l in
    rw t (omega (arith, length-digits_front (ds ++ r)), omega (arith, length-digits_front (ds ++ r)))
tail_least some (Some ds) (Some e) r p q h =
    let rest = exponent_text (Some e) ++ r in
    let l = digit_len-least ds rest p in
    let t : (some || ltb 0 (digit_len (ds ++ rest))) ≡ true = has_some some (length ds) (digit_len (ds ++ rest)) h l in
    let a = digits_front-append ds rest p (exponent_first e r).0 in
    rw (t, a.0, a.1) (omega (arith, exponent_least (Some e) r q), omega arith)

-- a text of the form begins with its sign
unsigned_begin : (q : Numeral) (r : List ℕ) → IsLenientForm q → sign_at (q.whole ++ (point_text q.fraction ++ (exponent_text q.exponent ++ r))) ≡ None
unsigned_begin q r h = go q.whole q.fraction h.whole h.some_digit
  where
    go : (w : List ℕ) (f : Option (List ℕ)) → AreDigits w → 0 < length w + length (places f) → sign_at (w ++ (point_text f ++ (exponent_text q.exponent ++ r))) ≡ None
    go (d ∷ ds) f p n = no_sign_front (d ∷ ds) (point_text f ++ (exponent_text q.exponent ++ r)) p (omega arith)
    go [] None p n = absurd (omega arith)
    go [] (Some ds) p n = refl

-- exactly the sign that stands in front is read
sign_least : (s : Option Sign) (u : List ℕ) → sign_at u ≡ None → (sign_at (sign_text s ++ u) ≡ s) × (behind_sign (sign_text s ++ u) ≡ u)
sign_least None u h = (h, rw h refl)
sign_least (Some Minus) u h = (refl, refl)
sign_least (Some Plus) u h = (refl, refl)

-- at least these parts are read behind the sign
record AtLeast (w : List ℕ) (f : Option (List ℕ)) (e : Option Exponent) (u : List ℕ) : Type 0 where
  long : length w + Length f e ≤ length (digits_front u) + Length (fraction_front u) (exponent_at (tail_front u))
  digit : 0 < digit_len u + length (places (fraction_front u))

-- the digits of the whole part are all of the digits at the front, where something of the number follows them
exact_least : (w : List ℕ) (f : Option (List ℕ)) (e : Option Exponent) (r : List ℕ) → AreDigits w → AreDigits (places f) → IsExponent e → 0 < length w + length (places f) → NoDigit (point_text f ++ (exponent_text e ++ r)) → AtLeast w f e (w ++ (point_text f ++ (exponent_text e ++ r)))
exact_least w f e r pw pf pe n nd =
    let rest = point_text f ++ (exponent_text e ++ r) in
    let a = digits_front-append w rest pw nd in
    let l = digit_len-append w rest pw nd in
    let some = whole_some (w ++ rest) in
    let t = tail_least some f e r pf pe (digits w l n) in
    let g : LengthAt some (behind_digits (w ++ rest)) ≡ LengthAt some rest = ap (LengthAt some) a.1 in
    let k : length (places (point_at some (behind_digits (w ++ rest)))) ≡ length (places (point_at some rest)) = ap (λ x. length (places (point_at some x))) a.1 in
    record {
      long = omega (arith, t.0, g, ap length a.0);
      digit = omega (arith, t.1, k, l);
    }
  where
    digits : (v : List ℕ) → digit_len (w ++ (point_text f ++ (exponent_text e ++ r))) ≡ length v → 0 < length v + length (places f) → (whole_some (w ++ (point_text f ++ (exponent_text e ++ r))) ≡ true) ⊎ (0 < length (places f))
    digits [] l m = inr (omega arith)
    digits (d ∷ ds) l m = inl (lt-ltb 0 (digit_len (w ++ (point_text f ++ (exponent_text e ++ r)))) (omega arith))

-- so they are read, with or without a point
whole_least : (w : List ℕ) (f : Option (List ℕ)) (e : Option Exponent) (r : List ℕ) → AreDigits w → AreDigits (places f) → IsExponent e → 0 < length w + length (places f) → AtLeast w f e (w ++ (point_text f ++ (exponent_text e ++ r)))
whole_least w None None r pw pf pe n =
    let l = digit_len-least w r pw in
    record {
      long = omega (arith, l, length-digits_front (w ++ r));
      digit = omega (arith, l);
    }
whole_least w None (Some e) r pw pf pe n = exact_least w None (Some e) r pw pf pe n (exponent_first e r).0
whole_least w (Some ds) e r pw pf pe n = exact_least w (Some ds) e r pw pf pe n refl

-- how long a numeral is
text_length : (s : Option Sign) (w : List ℕ) (f : Option (List ℕ)) (e : Option Exponent) → length (sign_text s ++ (w ++ (point_text f ++ exponent_text e))) ≡ length (sign_text s) + (length w + Length f e)
text_length s w f e = omega (arith, length-append (sign_text s) (w ++ (point_text f ++ exponent_text e)), length-append w (point_text f ++ exponent_text e), length-append (point_text f) (exponent_text e))

-- a numeral in front of a rest, piece by piece
open_text : (q : Numeral) (r : List ℕ) → numeral_text q ++ r ≡ sign_text q.sign ++ (q.whole ++ (point_text q.fraction ++ (exponent_text q.exponent ++ r)))
open_text q r = simp append_assoc

-- no numeral in front is longer than the one that is read
pub nothing_longer : (text : List ℕ) (q : Numeral) (r : List ℕ) → IsLenientForm q → text ≡ numeral_text q ++ r → (length (numeral_text q) ≤ length (numeral_text (made text))) × (has_digit (behind_sign text) ≡ true)
nothing_longer text q r h e =
    let u = q.whole ++ (point_text q.fraction ++ (exponent_text q.exponent ++ r)) in
    let is : text ≡ sign_text q.sign ++ u = e ∙ open_text q r in
    let s = sign_least q.sign u (unsigned_begin q r h) in
    let sign : sign_at text ≡ q.sign = ap sign_at is ∙ s.0 in
    let behind_is : behind_sign text ≡ u = ap behind_sign is ∙ s.1 in
    let w = subst (AtLeast q.whole q.fraction q.exponent) (sym behind_is) (whole_least q.whole q.fraction q.exponent r h.whole h.fraction h.exponent h.some_digit) in
    let m = made text in
    (omega (arith, w.long, text_length q.sign q.whole q.fraction q.exponent, text_length m.sign m.whole m.fraction m.exponent, ap (λ x. length (sign_text x)) sign), lt-ltb 0 _ w.digit)

-- what is read is the longest numeral in front
pub front_longest : (text : List ℕ) → has_digit (behind_sign text) ≡ true → IsLongest (made text) text × (text ≡ numeral_text (made text) ++ behind_made text)
front_longest text h =
    let u = behind_sign text in
    let p = point_found (whole_some u) (behind_digits u) in
    let e = exponent_found (tail_front u) in
    let spelled : text ≡ numeral_text (made text) ++ behind_made text = sign_found text ∙ ap (λ x. sign_text (sign_at text) ++ x)
    (sym (take-append-drop (digit_len u) u) ∙ ap (λ x. digits_front u ++ x) (p.0 ∙ ap (λ x. point_text (fraction_front u) ++ x) e.spelled))
    ∙ sym (open_text (made text) (behind_made text)) in (
      record {
        form = record {
          whole = digits_front-are u;
          fraction = p.1;
          some_digit = omega (arith, ltb-true 0 (digit_len u + length (places (fraction_front u))) h, length-digits_front u);
          exponent = e.is;
        };
        rest = behind_made text;
        spelled = spelled;
        longest = λ q r k g. (nothing_longer text q r k g).0;
      },
      spelled,
    )

-- ---- a numeral is read again from its own text

-- an exponent begins neither with a digit nor with a point
exponent_begin : (e : Option Exponent) → NoDigit (exponent_text e) × (begins 46 (exponent_text e) ≡ false)
exponent_begin None = (tt, refl)
exponent_begin (Some e) = go e.capital (sign_text e.sign ++ e.digits)
  where
    go : (c : Bool) (r : List ℕ) → NoDigit (mark_text c ++ r) × (begins 46 (mark_text c ++ r) ≡ false)
    go true r = (refl, refl)
    go false r = (refl, refl)

-- an exponent is read again from its own text
exponent_again : (e : Option Exponent) → IsExponent e → exponent_at (exponent_text e) ≡ e
exponent_again None h = refl
exponent_again (Some e) h =
    ap exponent_at (sym (append-nil (exponent_text (Some e)))) ∙ marked_least e.capital e.sign e.digits [] h.0 h.1
    ∙ ap (λ d. Some (record { capital = e.capital; sign = e.sign; digits = d })) (digits_front-append e.digits [] h.0 tt).0

-- and a fraction
point_again : (some : Bool) (f : Option (List ℕ)) (e : Option Exponent) → AreDigits (places f) → (some ≡ true) ⊎ (0 < length (places f)) → (point_at some (point_text f ++ exponent_text e) ≡ f) × (behind_point some (point_text f ++ exponent_text e) ≡ exponent_text e)
point_again some None e p h = rw ((exponent_begin e).1) (refl, refl)
point_again some (Some ds) e p h =
    let l = digit_len-least ds (exponent_text e) p in
    let t : (some || ltb 0 (digit_len (ds ++ exponent_text e))) ≡ true = has_some some (length ds) (digit_len (ds ++ exponent_text e)) h l in
    let a = digits_front-append ds (exponent_text e) p (exponent_begin e).0 in
    rw t (ap Some a.0, a.1)

-- no digit follows the whole part
no_digit_behind : (f : Option (List ℕ)) (e : Option Exponent) → NoDigit (point_text f ++ exponent_text e)
no_digit_behind None e = (exponent_begin e).0
no_digit_behind (Some ds) e = refl

-- a numeral of these parts
abbrev numeral_make : Option Sign → List ℕ → Option (List ℕ) → Option Exponent → Numeral
numeral_make s w f e = record { sign = s; whole = w; fraction = f; exponent = e }

-- the parts behind the sign are read again
whole_again : (w : List ℕ) (f : Option (List ℕ)) (e : Option Exponent) → AreDigits w → AreDigits (places f) → 0 < length w + length (places f) → IsExponent e → (s : Option Sign) → numeral_make s (digits_front (w ++ (point_text f ++ exponent_text e))) (fraction_front (w ++ (point_text f ++ exponent_text e))) (exponent_at (tail_front (w ++ (point_text f ++ exponent_text e)))) ≡ numeral_make s w f e
whole_again w f e pw pf n pe s =
    let rest = point_text f ++ exponent_text e in
    let u = w ++ rest in
    let a = digits_front-append w rest pw (no_digit_behind f e) in
    let l = digit_len-append w rest pw (no_digit_behind f e) in
    let g = point_again (whole_some u) f e pf (digits w l n) in
    ap (λ x. numeral_make s x (fraction_front u) (exponent_at (tail_front u))) a.0
    ∙ ap (λ x. numeral_make s w (point_at (whole_some u) x) (exponent_at (behind_point (whole_some u) x))) a.1
    ∙ ap (λ x. numeral_make s w x (exponent_at (behind_point (whole_some u) rest))) g.0
    ∙ ap (λ x. numeral_make s w f (exponent_at x)) g.1
    ∙ ap (λ x. numeral_make s w f x) (exponent_again e pe)
  where
    digits : (v : List ℕ) → digit_len (w ++ (point_text f ++ exponent_text e)) ≡ length v → 0 < length v + length (places f) → (whole_some (w ++ (point_text f ++ exponent_text e)) ≡ true) ⊎ (0 < length (places f))
    digits [] l m = inr (omega arith)
    digits (d ∷ ds) l m = inl (lt-ltb 0 (digit_len (w ++ (point_text f ++ exponent_text e))) (omega arith))

-- a numeral is read again from its own text
made_again : (q : Numeral) → IsLenientForm q → made (numeral_text q) ≡ q
made_again q h =
    let u = q.whole ++ (point_text q.fraction ++ exponent_text q.exponent) in
    let none : sign_at u ≡ None = ap (λ x. sign_at (q.whole ++ (point_text q.fraction ++ x))) (sym (append-nil (exponent_text q.exponent))) ∙ unsigned_begin q [] h in
    let s = sign_least q.sign u none in
    ap (λ x. numeral_make x (digits_front (behind_sign (numeral_text q))) (fraction_front (behind_sign (numeral_text q))) (exponent_at (tail_front (behind_sign (numeral_text q))))) s.0
    ∙ ap (λ x. numeral_make q.sign (digits_front x) (fraction_front x) (exponent_at (tail_front x))) s.1
    ∙ whole_again q.whole q.fraction q.exponent h.whole h.fraction h.some_digit h.exponent q.sign

-- two fronts of one text that are equally long are one
same_front : (a b x y : List ℕ) → a ++ x ≡ b ++ y → length a ≡ length b → a ≡ b
same_front a b x y e l = sym (take_at a x (length a) refl) ∙ ap (take (length a)) e ∙ ap (λ n. take n (b ++ y)) l ∙ take_at b y (length b) refl

-- no other parts are the longest
pub longest_once : (text : List ℕ) (p q : Numeral) → IsLongest p text → IsLongest q text → p ≡ q
longest_once text p q h k =
    let a = h.longest q k.rest k.form k.spelled in
    let b = k.longest p h.rest h.form h.spelled in
    let e = same_front (numeral_text p) (numeral_text q) h.rest k.rest (sym h.spelled ∙ k.spelled) (omega arith) in
    sym (made_again p h.form) ∙ ap made e ∙ made_again q k.form

-- what is read in front is the longest numeral there, with what stands behind it
pub front_found : (text : List ℕ) (x : Numeral × List ℕ) → numeral_front text ≡ Some x → IsLongest x.0 text × (text ≡ numeral_text x.0 ++ x.1)
front_found text x h =
    let t = some_if (has_digit (behind_sign text)) (Some (made text, behind_made text)) x h in
    subst (λ y. IsLongest y.0 text × (text ≡ numeral_text y.0 ++ y.1)) (same_Some (made text, behind_made text) x t.1) (front_longest text t.0)

-- and the longest numeral in front is read
pub front_again : (text : List ℕ) (q : Numeral) → IsLongest q text → numeral_front text ≡ Some (q, behind_made text)
front_again text q k =
    let t = (nothing_longer text q k.rest k.form k.spelled).1 in
    let same = longest_once text (made text) q (front_longest text t).0 k in
    ap (λ b. cond b (Some (made text, behind_made text)) None) t ∙ ap (λ x. Some (x, behind_made text)) same
