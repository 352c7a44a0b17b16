-- The laws of the numbers of the states and of the texts that stand for them.
use Rattle.std.proofs.Common.{◌≡◌, ℕ, ◌+◌, ◌-◌, ◌*◌, ◌/◌, ◌%◌, ◌^◌, suc, cond, List, Option, Some, None, refl, ap, sym, subst, ◌∙◌, arith, ℤ, pos, negsuc, neg_ℤ, unsigned_abs}
use Rattle.std.specs.Prelude.{◌==◌, nat_le, option_map, option_and_then}
use Rattle.std.proofs.lemmas.Bool.{eqb-true, eq-eqb, le-leb, leb-true}
use Rattle.std.proofs.lemmas.Option.{option_and_then_some, same_Some}
use Rattle.form_types.specs.declared.kind.Kind.{Kind}
use Rattle.form_types.specs.declared.kind.Kind.TheVariants as kinds
use Rattle.form_decimal.specs.Numeral.{IsValidNumber}
use Rattle.form_decimal.specs.Reading.{valid_number}
use Rattle.form_decimal.specs.Printed.{IsPrinted, printed}
use Rattle.form_decimal.proofs.Laws.{valid_found, valid_again, valid_bound, printed_again, printed_is}
use Rattle.form_text.proofs.Laws.{some_if, some_map}
use Rattle.form_calendar.specs.Date.{IsValidDate, date_number, date_text}
use Rattle.form_calendar.specs.Month.{IsValidMonth, month_number, month_text}
use Rattle.form_calendar.specs.Week.{IsValidWeek, week_number, week_text}
use Rattle.form_calendar.specs.Time.{IsValidTime, time_number, time_text}
use Rattle.form_calendar.specs.LocalDateTime.{IsValidLocal, local_number, local_text}
use Rattle.form_calendar.specs.Shortest.{IsShortest, IsShortestLocal}
use Rattle.form_calendar.proofs.Laws.{StringLaws, date_laws, month_laws, week_laws, time_laws, local_laws}
use Rattle.form_states.specs.Numbers.{IsDecimal, in_units, IsWhole, whole_of, decimal_text}
use Rattle.form_states.specs.States.{HasNumber, number_of, IsTextFor, text_for}

-- ---- whole numbers

whole_pos : (k a : ℕ) → k ≡ a * 1000000000000 → (k % 1000000000000 ≡ 0) × (k / 1000000000000 ≡ a)
whole_pos k a h = (omega arith, omega arith)

whole_neg : (k a : ℕ) → suc k ≡ suc a * 1000000000000
    → (1000000000000 - 1 - k % 1000000000000 ≡ 0) × (k / 1000000000000 ≡ a)
whole_neg k a h = (omega arith, omega arith)

whole_if : (r : ℕ) (d m : ℤ) → r ≡ 0 → d ≡ m → cond (r == 0) (Some d) None ≡ Some m
whole_if r d m h e = rw (eq-eqb r 0 h) (ap Some e)

neg_units : (a : ℕ) → in_units (negsuc a) ≡ negsuc (a * 1000000000000 + 999999999999)
neg_units a =
    let e : suc a * 1000000000000 ≡ suc (a * 1000000000000 + 999999999999) = omega arith in
    ap (λ j. neg_ℤ (pos j)) e

-- a whole number in units is found again
pub whole_again : (m : ℤ) → whole_of (in_units m) ≡ Some m
unfolding whole_of
whole_again (pos a) =
    let w = whole_pos (a * 1000000000000) a refl in
    whole_if (a * 1000000000000 % 1000000000000) (pos (a * 1000000000000 / 1000000000000)) (pos a) w.0 (ap pos w.1)
whole_again (negsuc a) =
    let k : ℕ = a * 1000000000000 + 999999999999 in
    let w = whole_neg k a (omega arith) in
    ap whole_of (neg_units a)
    ∙ whole_if (1000000000000 - 1 - k % 1000000000000) (negsuc (k / 1000000000000)) (negsuc a) w.0 (ap negsuc w.1)

-- and what is found is it
pub whole_found : (n m : ℤ) → whole_of n ≡ Some m → n ≡ in_units m
unfolding whole_of
whole_found (pos k) m h =
    let p = some_if (k % 1000000000000 == 0) (Some (pos (k / 1000000000000))) m h in
    let e : k % 1000000000000 ≡ 0 = eqb-true (k % 1000000000000) 0 p.0 in
    let f : k ≡ k / 1000000000000 * 1000000000000 = omega arith in
    ap pos f ∙ ap in_units (same_Some (pos (k / 1000000000000)) m p.1)
whole_found (negsuc k) m h =
    let p = some_if (1000000000000 - 1 - k % 1000000000000 == 0) (Some (negsuc (k / 1000000000000))) m h in
    let e : 1000000000000 - 1 - k % 1000000000000 ≡ 0 = eqb-true (1000000000000 - 1 - k % 1000000000000) 0 p.0 in
    let f : k ≡ k / 1000000000000 * 1000000000000 + 999999999999 = omega arith in
    ap negsuc f ∙ sym (neg_units (k / 1000000000000)) ∙ ap in_units (same_Some (negsuc (k / 1000000000000)) m p.1)

-- strings whose numbers are whole have the same laws with their numbers in units
whole_laws : (IsValid IsBest : List ℕ → ℤ → Type 0) (read : List ℕ → Option ℤ) (write : ℤ → Option (List ℕ))
    → StringLaws IsValid IsBest read write
    → StringLaws (λ t n. IsWhole (IsValid t) n) (λ t n. IsWhole (IsBest t) n) (λ t. option_map in_units (read t))
    (λ n. option_and_then write (whole_of n))
whole_laws IsValid IsBest read write laws = record {
  found = λ t n h. let p = some_map in_units (read t) n h in (p.0, laws.found t p.0 p.1, sym p.2);
  again = λ t n h. ap (option_map in_units) (laws.again t h.0 h.1) ∙ ap Some (sym h.2);
  best = λ n t h. option_and_then_some write (whole_of n) t h
      (λ (m : ℤ) (e : whole_of n ≡ Some m) (f : write m ≡ Some t). (m, laws.best m t f, whole_found n m e));
  back = λ n t h. option_and_then_some write (whole_of n) t h
      (λ (m : ℤ) (e : whole_of n ≡ Some m) (f : write m ≡ Some t).
      ap (option_map in_units) (laws.back m t f) ∙ ap Some (sym (whole_found n m e)));
  there = λ t n h.
      let s = laws.there t h.0 h.1 in
      (s.0, ap (λ x. option_and_then write (whole_of x)) h.2 ∙ ap (option_and_then write) (whole_again h.0) ∙ s.1);
}

-- ---- decimals

decimal_there : (n : ℤ) → IsDecimal n → decimal_text n ≡ Some (printed n)
decimal_there n h = ap (λ b. cond b (Some (printed n)) None) (le-leb (unsigned_abs n) (10 ^ 29) h)

decimal_if : (n : ℤ) (t : List ℕ) → decimal_text n ≡ Some t → IsDecimal n × (printed n ≡ t)
decimal_if n t h =
    let p = some_if (nat_le (unsigned_abs n) (10 ^ 29)) (Some (printed n)) t h in
    (leb-true (unsigned_abs n) (10 ^ 29) p.0, same_Some (printed n) t p.1)

decimal_laws : StringLaws IsValidNumber (λ t n. IsPrinted n t) valid_number decimal_text
decimal_laws = record {
  found = valid_found;
  again = valid_again;
  best = λ n t h. let p = decimal_if n t h in subst (IsPrinted n) p.1 (printed_is n p.0);
  back = λ n t h. let p = decimal_if n t h in subst (λ x. valid_number x ≡ Some n) p.1 (printed_again n p.0);
  there = λ t n h. (printed n, decimal_there n (valid_bound t n (valid_again t n h)));
}

-- ---- each state

no_laws : StringLaws (λ t n. ⊥) (λ t n. ⊥) (λ t. None) (λ n. None)
no_laws = record {
  found = λ t n h. cc;
  again = λ t n h. absurd h;
  best = λ n t h. cc;
  back = λ n t h. cc;
  there = λ t n h. absurd h;
}

laws_of : (kind : Kind) → StringLaws (HasNumber kind) (IsTextFor kind) (number_of kind) (text_for kind)
laws_of kinds.Date = whole_laws IsValidDate (IsShortest IsValidDate) date_number date_text date_laws
laws_of kinds.Month = whole_laws IsValidMonth (IsShortest IsValidMonth) month_number month_text month_laws
laws_of kinds.Week = whole_laws IsValidWeek (IsShortest IsValidWeek) week_number week_text week_laws
laws_of kinds.Time = whole_laws IsValidTime (IsShortest IsValidTime) time_number time_text time_laws
laws_of kinds.Local = whole_laws IsValidLocal IsShortestLocal local_number local_text local_laws
laws_of kinds.Number = decimal_laws
laws_of kinds.Range = decimal_laws
laws_of kind = no_laws

-- the function gives a number exactly where the text has it
pub number_found : (kind : Kind) (text : List ℕ) (n : ℤ) → number_of kind text ≡ Some n → HasNumber kind text n
number_found kind = (laws_of kind).found

pub number_again : (kind : Kind) (text : List ℕ) (n : ℤ) → HasNumber kind text n → number_of kind text ≡ Some n
number_again kind = (laws_of kind).again

-- the text of a number stands for it, and reads back as it
pub text_is : (kind : Kind) (n : ℤ) (text : List ℕ) → text_for kind n ≡ Some text → IsTextFor kind text n
text_is kind = (laws_of kind).best

pub text_back : (kind : Kind) (n : ℤ) (text : List ℕ) → text_for kind n ≡ Some text → number_of kind text ≡ Some n
text_back kind = (laws_of kind).back

-- and there is a text wherever a valid text has the number
pub text_there : (kind : Kind) (text : List ℕ) (n : ℤ) → number_of kind text ≡ Some n
    → (s : List ℕ) × (text_for kind n ≡ Some s)
text_there kind text n h = (laws_of kind).there text n (number_found kind text n h)
