-- Words that are the decimal digits of a number.
use Rattle.std.proofs.Common.{◌≡◌, ℕ, zero, suc, ◌+◌, ◌<◌, ◌≤◌, ◌^◌, List, Bool, true, false, Some, None, Result, Ok, ◌&&◌, if◌then◌else◌, refl, sym, ap, ◌∙◌, nat_le, lit<, arith}
use Rattle.std.specs.Fmt.{decimal}
use Rattle.std.specs.List.{find, range_with_len}
use Rattle.std.specs.Prelude.{bytes_eq}
use Rattle.std.specs.Str.Parse.{ParsesUnsigned, digits_value}
use Rattle.std.proofs.lemmas.Bool.{and_parts, le-leb, leb-true}
use Rattle.std.proofs.lemmas.Fmt.{decimal_is_IsNumeral, parse-decimal}
use Rattle.std.proofs.lemmas.Slice.Eq.{bytes_eq-Decides}
use Rattle.form_generator.specs.Limits.{most_generated}
use Rattle.form_input.specs.Words.{generated_count}

-- ---- a search through numbers

module _ (P : ℕ → Bool) where
  -- the one number that passes is found
  found : (b x : ℕ) → P x ≡ true → ((y : ℕ) → y < b → P y ≡ true → y ≡ x) → (a n : ℕ) → a + n ≡ b → a ≤ x → x < b → find P (range_with_len a n) ≡ Some x
  found b x here only a zero to from below = absurd (omega arith)
  found b x here only a (suc n) to from below = go (P a) refl (found b x here only (a + 1) n (omega arith))
    where
      go : (v : Bool) → P a ≡ v → (a + 1 ≤ x → x < b → find P (range_with_len (a + 1) n) ≡ Some x) → (if v then Some a else find P (range_with_len (a + 1) n)) ≡ Some x
      go true e again = ap Some (only a (omega arith) e)
      go false e again =
          let other : a ≡ x → ⊥ = λ (s : a ≡ x). let t : P a ≡ P x = ap P s in absurd (cc) in
          again (omega (arith, other)) below

  -- where none passes nothing is found
  none : (b a n : ℕ) → a + n ≡ b → ((y : ℕ) → a ≤ y → y < b → P y ≡ true → ⊥) → find P (range_with_len a n) ≡ None
  none b a zero to refused = refl
  none b a (suc n) to refused = go (P a) refl (none b (a + 1) n (omega arith) (λ y from below. refused y (omega arith) below))
    where
      go : (v : Bool) → P a ≡ v → find P (range_with_len (a + 1) n) ≡ None → (if v then Some a else find P (range_with_len (a + 1) n)) ≡ None
      go true e rest = absurd (refused a (omega arith) (omega arith) e)
      go false e rest = rest

  -- what is found passes, and is one of the numbers
  pub find-within : (a n x : ℕ) → find P (range_with_len a n) ≡ Some x → (P x ≡ true) × (a ≤ x) × (x < a + n)
  find-within a zero x h = absurd (cc)
  find-within a (suc n) x h = go (P a) refl (find-within (a + 1) n x) h
    where
      go : (v : Bool) → P a ≡ v → (find P (range_with_len (a + 1) n) ≡ Some x → (P x ≡ true) × (a + 1 ≤ x) × (x < a + 1 + n)) → (if v then Some a else find P (range_with_len (a + 1) n)) ≡ Some x → (P x ≡ true) × (a ≤ x) × (x < a + suc n)
      go true e again f = let same : a ≡ x = cc in (ap P (sym same) ∙ e, omega arith, omega arith)
      go false e again f = let further = again f in (further.0, omega (arith, further.1), omega (arith, further.2))

-- ---- how a number is written

-- two numbers are not written the same
decimal_one : (x y : ℕ) → x < 2 ^ 64 → y < 2 ^ 64 → decimal x ≡ decimal y → x ≡ y
decimal_one x y small also same = sym (decimal_is_IsNumeral x small).1 ∙ ap (digits_value 10) same ∙ (decimal_is_IsNumeral y also).1

spelled : (word : List ℕ) (n : ℕ) → bytes_eq word (decimal n) ≡ true → word ≡ decimal n
spelled word n e = (bytes_eq-Decides word (decimal n)).0 e

-- ---- the word of a number

-- the word is how that number of controls is written
abbrev pub is_written : List ℕ → ℕ → Bool
is_written word count = nat_le 1 count && (nat_le count most_generated && bytes_eq word (decimal count))

module _ (word : List ℕ) where
  module _ (most : ℕ) (small : most < 2 ^ 32) where
    found_in : (count : ℕ) → 1 ≤ count → count ≤ most → bytes_eq word (decimal count) ≡ true → find (λ n. bytes_eq word (decimal n)) (range_with_len 1 most) ≡ Some count
    found_in count from to here =
        found (λ n. bytes_eq word (decimal n)) (1 + most) count here
        (λ y below also. decimal_one y count (omega arith) (omega arith) (sym (spelled word y also) ∙ spelled word count here))
        1 most refl from (omega arith)

    not_in : {E : Type 0} (r : Result ℕ E) → ParsesUnsigned 32 10 word r → ((count : ℕ) → r ≡ Ok count → 1 ≤ count → count ≤ most → bytes_eq word (decimal count) ≡ true → ⊥) → find (λ n. bytes_eq word (decimal n)) (range_with_len 1 most) ≡ None
    not_in r parses refused =
        none (λ n. bytes_eq word (decimal n)) (1 + most) 1 most refl
        (λ y from below here. refused y (parse-decimal 32 y word r (omega arith) (omega arith) (spelled word y here) parses) from (omega arith) here)

  pub count-found : (count : ℕ) → is_written word count ≡ true → Some count ≡ generated_count word
  unfolding generated_count
  count-found count e =
      let p = and_parts (nat_le 1 count) (nat_le count most_generated && bytes_eq word (decimal count)) e in
      let q = and_parts (nat_le count most_generated) (bytes_eq word (decimal count)) p.1 in
      sym (found_in most_generated (lit< tt) count (leb-true 1 count p.0) (leb-true count most_generated q.0) q.1)

  pub count-none : {E : Type 0} (r : Result ℕ E) → ParsesUnsigned 32 10 word r → ((count : ℕ) → r ≡ Ok count → is_written word count ≡ false) → None ≡ generated_count word
  unfolding generated_count
  count-none r parses other =
      sym (not_in most_generated (lit< tt) r parses (λ count is from to here.
      let no : is_written word count ≡ false = other count is in
      let yes : is_written word count ≡ true = simp (le-leb 1 count from, le-leb count most_generated to, here) in
      absurd (cc)))

  -- a word that is a number is one of those that may be
  pub generated_count-within : (n : ℕ) → generated_count word ≡ Some n → (1 ≤ n) × (n ≤ most_generated)
  unfolding generated_count
  generated_count-within n h =
      let w = find-within (λ k. bytes_eq word (decimal k)) 1 most_generated n h in
      (w.1, omega (arith, w.2))
