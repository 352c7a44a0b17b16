-- The first place at which a test passes, element by element.
use Rattle.std.proofs.Common.{◌≡◌, ℕ, suc, Bool, true, false, not, List, ◌∷◌, length, cond, one-add, Option, Some, None, inl, inr, refl, arith, ltb}
use Rattle.std.specs.List.{position, prefix_len}
use Rattle.std.specs.Option.{option_map}
use Rattle.std.proofs.lemmas.Bool.{cases_lt}
use Rattle.std.proofs.lemmas.Bool.Decides.{nat_tests}

place_step : (b : Bool) (n m : ℕ) → cond (ltb (cond (not b) (suc n) 0) (suc m)) (Some (cond (not b) (suc n) 0)) None ≡ cond b (Some 0) (option_map suc (cond (ltb n m) (Some n) None))
place_step true n m = grind (arith, nat_tests)
place_step false n m = elim (cases_lt n m) [ inl lt ↦ grind (arith, nat_tests) | inr ge ↦ grind (arith, nat_tests) ]

-- the first element passes, or the place is one behind that in the rest
pub position-cons : {X : Type 0} (p : X → Bool) (x : X) (xs : List X) → position p (x ∷ xs) ≡ cond (p x) (Some 0) (option_map suc (position p xs))
position-cons p x xs = simp one-add (place_step (p x) (prefix_len (λ y. not (p y)) xs) (length xs))

-- at place 0 the first element passes
pub zero_hit : (b : Bool) (o : Option ℕ) → cond b (Some 0) (option_map suc o) ≡ Some 0 → b ≡ true
zero_hit true o found = refl
zero_hit false None found = cc
zero_hit false (Some n) found = grind arith

-- at a later place it does not
pub suc_miss : (b : Bool) (o : Option ℕ) (i : ℕ) → cond b (Some 0) (option_map suc o) ≡ Some (suc i) → (b ≡ false) × (o ≡ Some i)
suc_miss true o i found = grind arith
suc_miss false None i found = grind arith
suc_miss false (Some n) i found = (refl, grind arith)

-- and where there is no place
pub none_miss : (b : Bool) (o : Option ℕ) → cond b (Some 0) (option_map suc o) ≡ None → (b ≡ false) × (o ≡ None)
none_miss true o found = grind arith
none_miss false None found = (refl, refl)
none_miss false (Some n) found = grind arith
