-- The parts of a text are read from the left exactly as they are spelled.
use Rattle.std.proofs.Common.{◌≡◌, ℕ, ◌+◌, ◌-◌, ◌*◌, ◌<◌, ◌++◌, Bool, true, false, cond, List, [], ◌∷◌, length, take, drop, Option, Some, None, option_map, IfSome, refl, ap, sym, subst, ◌∙◌, arith, eqb, ltb, nat_eq, length-append, append-nil, append_assoc, ℤ, pos, negsuc, ◌≤ℤ◌, unsigned_abs}
use Rattle.std.proofs.lemmas.Bool.{ltb-false, le-ltb, eqb-true}
use Rattle.std.proofs.lemmas.Int.{ints}
use Rattle.std.proofs.lemmas.List.{take-append-drop, length-take-le, take_at, drop_at, nil_from_length}
use Rattle.std.proofs.lemmas.Option.{option_and_then_some, cond_some}
use Rattle.std.specs.Cmp.Lexicographic.{pointwise, same_text}
use Rattle.std.specs.Char.{digit_value, is_ascii_digit}
use Rattle.std.specs.Str.Parse.{AllDigits, digits_value_after}
use Rattle.std.proofs.lemmas.Bool.Decides.{nat_tests}
use Rattle.form_calendar.specs.Digits.{Writes, IsPair}
use Rattle.form_calendar.specs.Reading.{number_after, number_at, behind, pair_at, whole_pair}

digit_true : (c : ℕ) → is_ascii_digit c ≡ true → (digit_value c < 10) × (digit_value c ≡ c - 48)
digit_true c h = (grind (arith, nat_tests), grind (arith, nat_tests))

true_digit : (c : ℕ) → digit_value c < 10 → (is_ascii_digit c ≡ true) × (digit_value c ≡ c - 48)
true_digit c h = (grind (arith, nat_tests), grind (arith, nat_tests))

pub some_if : {A : Type 0} (b : Bool) (o : Option A) (y : A) → cond b o None ≡ Some y → (b ≡ true) × (o ≡ Some y)
some_if true o y h = (refl, h)
some_if false o y h = cc

pub some_unless : {A : Type 0} (b : Bool) (o : Option A) (y : A) → cond b None o ≡ Some y → (b ≡ false) × (o ≡ Some y)
some_unless true o y h = cc
some_unless false o y h = (refl, h)

pub some_map : {A B : Type 0} (f : A → B) (o : Option A) (y : B) → option_map f o ≡ Some y → (x : A) × (o ≡ Some x) × (f x ≡ y)
some_map f None y h = cc
some_map f (Some x) y h = (x, refl, cc)

-- what has no value is None
pub none_if : {A : Type 0} (o : Option A) → ((x : A) → o ≡ Some x → ⊥) → None ≡ o
none_if None h = refl
none_if (Some x) h = absurd (h x refl)

pub abs_back : (z : ℤ) → pos 1 ≤ℤ z → pos (unsigned_abs z) ≡ z
abs_back (pos n) h = refl
abs_back (negsuc n) h = absurd (omega (arith, ints))

pub read_number : (ds : List ℕ) (a n : ℕ) → number_after a ds ≡ Some n → AllDigits 10 ds × (digits_value_after 10 a ds ≡ n)
read_number [] a n h = (tt, cc)
read_number (d ∷ ds) a n h =
    let t = some_if (is_ascii_digit d) (number_after (a * 10 + (d - 48)) ds) n h in
    let v = digit_true d t.0 in
    let r = read_number ds (a * 10 + (d - 48)) n t.1 in
    ((v.0, r.0), ap (λ x. digits_value_after 10 (a * 10 + x) ds) v.1 ∙ r.1)

pub number_reads : (ds : List ℕ) (a : ℕ) → AllDigits 10 ds → number_after a ds ≡ Some (digits_value_after 10 a ds)
number_reads [] a h = refl
number_reads (d ∷ ds) a h =
    let t = true_digit d h.0 in
    ap (λ b. cond b (number_after (a * 10 + (d - 48)) ds) None) t.0 ∙ number_reads ds (a * 10 + (d - 48)) h.1
    ∙ ap (λ x. Some (digits_value_after 10 (a * 10 + x) ds)) (sym t.1)

pub behind_reads : (front text rest : List ℕ) → behind front text ≡ Some rest → text ≡ front ++ rest
behind_reads front text rest h =
    let t = cond_some (pointwise nat_eq (take (length front) text) front) (drop (length front) text) rest h in
    sym (take-append-drop (length front) text) ∙ ap (λ x. x ++ drop (length front) text) (same_text (take (length front) text) front (sym t.0)) ∙ ap (λ x. front ++ x) t.1

pub number_at_reads : (count : ℕ) (text rest : List ℕ) (n : ℕ) → number_at count text ≡ Some (n, rest) → Writes count (take count text) n × (text ≡ take count text ++ rest)
number_at_reads count text rest n h =
    let a = some_unless (ltb (length text) count) _ (n, rest) h in
    let b = some_map (λ (v : ℕ). (v, drop count text)) (number_after 0 (take count text)) (n, rest) a.1 in
    let r = read_number (take count text) 0 b.0 b.1 in (
      record {
        long = length-take-le count text (ltb-false (length text) count a.0);
        digits = r.0;
        value = r.1 ∙ ap (λ p. p.0) b.2;
      },
      sym (take-append-drop count text) ∙ ap (λ p. take count text ++ p.1) b.2,
    )

pub number_at_again : (count : ℕ) (ds rest : List ℕ) (n : ℕ) → Writes count ds n → number_at count (ds ++ rest) ≡ Some (n, rest)
number_at_again count ds rest n w =
    let long : ltb (length (ds ++ rest)) count ≡ false = le-ltb (length (ds ++ rest)) count (omega (arith, w.long, length-append ds rest)) in
    rw (long, take_at ds rest count w.long, drop_at ds rest count w.long, number_reads ds 0 w.digits) (ap (λ v. Some (v, rest)) w.value)

pub pair_at_again : (count : ℕ) (front rest : List ℕ) (a b : ℕ) → (separator : List ℕ) → ((r : List ℕ) → behind separator (separator ++ r) ≡ Some r) → IsPair count separator front a b → pair_at count separator (front ++ rest) ≡ Some ((a, b), rest)
unfolding pair_at
pair_at_again count front rest a b separator again t =
    rw (t.spelled, append_assoc t.first_text (separator ++ t.second_text) rest, append_assoc separator t.second_text rest, number_at_again count t.first_text (separator ++ (t.second_text ++ rest)) a t.first_is, again (t.second_text ++ rest), number_at_again 2 t.second_text rest b t.second_is) refl

pub pair_at_reads : (count : ℕ) (separator text rest : List ℕ) (a b : ℕ) → pair_at count separator text ≡ Some ((a, b), rest) → (front : List ℕ) × IsPair count separator front a b × (text ≡ front ++ rest)
unfolding pair_at
pair_at_reads count separator text rest a b h =
    option_and_then_some _ (number_at count text) _ h (λ first e1 h1.
    option_and_then_some _ (behind separator first.1) _ h1 (λ r1 e2 h2.
    let last = some_map _ (number_at 2 r1) _ h2 in
    let second = last.0 in
    let w1 = number_at_reads count text first.1 first.0 e1 in
    let w2 = number_at_reads 2 r1 second.1 second.0 last.1 in (
      take count text ++ (separator ++ take 2 r1),
      record {
        first_text = take count text;
        second_text = take 2 r1;
        spelled = refl;
        first_is = subst (Writes count (take count text)) (ap (λ p. p.0.0) last.2) w1.0;
        second_is = subst (Writes 2 (take 2 r1)) (ap (λ p. p.0.1) last.2) w2.0;
      },
      w1.1 ∙ ap (λ x. take count text ++ x) (behind_reads separator first.1 r1 e2 ∙ ap (λ x. separator ++ x) (w2.1 ∙ ap (λ p. take 2 r1 ++ p.1) last.2) ∙ sym (append_assoc separator (take 2 r1) rest)) ∙ sym (append_assoc (take count text) (separator ++ take 2 r1) rest),
    )))

-- a text that stops where its front does is its front
pub whole_front : (text front rest : List ℕ) → text ≡ front ++ rest → eqb (length rest) 0 ≡ true → front ≡ text
whole_front text front rest e h =
    sym (e ∙ ap (λ x. front ++ x) (nil_from_length rest (eqb-true (length rest) 0 h)) ∙ append-nil front)

-- a whole text that is read as two numbers is spelled so
pub whole_pair_found : (separator text : List ℕ) (a b : ℕ) → whole_pair separator text ≡ Some (a, b) → IsPair 4 separator text a b
unfolding whole_pair
whole_pair_found separator text a b h =
    option_and_then_some _ (pair_at 4 separator text) (a, b) h (λ r e k.
    let t = cond_some (eqb (length r.1) 0) r.0 (a, b) k in
    let first = ap (λ (p : ℕ × ℕ). p.0) t.1 in
    let second = ap (λ (p : ℕ × ℕ). p.1) t.1 in
    let front = pair_at_reads 4 separator text r.1 r.0.0 r.0.1 e in
    subst (λ x. IsPair 4 separator x a b) (whole_front text front.0 r.1 front.2 t.0)
    (subst (λ y. IsPair 4 separator front.0 a y) second (subst (λ x. IsPair 4 separator front.0 x r.0.1) first front.1)))

-- and a text that is spelled so is read
pub whole_pair_again : (separator text : List ℕ) (a b : ℕ) → ((r : List ℕ) → behind separator (separator ++ r) ≡ Some r) → IsPair 4 separator text a b → whole_pair separator text ≡ Some (a, b)
unfolding whole_pair
whole_pair_again separator text a b again t =
    let e : pair_at 4 separator text ≡ Some ((a, b), []) = ap (pair_at 4 separator) (sym (append-nil text)) ∙ pair_at_again 4 text [] a b separator again t in
    rw e refl
