-- What is made number by number.
use Rattle.std.proofs.Common.{◌≡◌, ℕ, ◌+◌, zero, suc, List, [], ◌∷◌, ◌++◌, ap, sym, ◌∙◌, append_assoc, append-nil, arith}
use Rattle.std.specs.Prelude.{flat_map}
use Rattle.std.specs.List.{range_with_len}
use Rattle.std.proofs.lemmas.Grind.{flat_map-append}
use Rattle.form_generator.specs.Generator.{numbers_to}

-- the last of so many numbers
last : (a n j : ℕ) → a + n ≡ j → range_with_len a (suc n) ≡ range_with_len a n ++ j ∷ []
last a zero j e = let same : a ≡ j = omega arith in ap (λ k. k ∷ []) same
last a (suc n) j e = ap (λ l. a ∷ l) (last (a + 1) n j (omega arith))

numbers_more : (n : ℕ) → numbers_to (n + 1) ≡ numbers_to n ++ (n + 1) ∷ []
numbers_more n =
    let on : n + 1 ≡ suc n = omega arith in ap (range_with_len 1) on ∙ last 1 n (n + 1) (omega arith)

module _ {X : Type 0} (f : ℕ → List X) where
  flat_map-numbers_more : (n : ℕ) → flat_map f (numbers_to (n + 1)) ≡ flat_map f (numbers_to n) ++ f (n + 1)
  flat_map-numbers_more n =
      ap (flat_map f) (numbers_more n)
      ∙ flat_map-append f (numbers_to n) ((n + 1) ∷ [])
      ∙ ap (λ l. flat_map f (numbers_to n) ++ l) (append-nil (f (n + 1)))

  -- one number more, behind what was there
  pub more-behind : (start before now : List X) (n : ℕ) → before ≡ start ++ flat_map f (numbers_to n) → now ≡ before ++ f (n + 1) → now ≡ start ++ flat_map f (numbers_to (n + 1))
  more-behind start before now n so_far here =
      here
      ∙ ap (λ l. l ++ f (n + 1)) so_far
      ∙ append_assoc start (flat_map f (numbers_to n)) (f (n + 1))
      ∙ ap (λ l. start ++ l) (sym (flat_map-numbers_more n))
