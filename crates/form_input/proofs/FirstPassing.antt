-- The first element that passes a test, behind elements that do not.
use Rattle.std.proofs.Common.{◌≡◌, List, [], ◌∷◌, ◌++◌, Bool, true, false, length, refl, arith}
use Rattle.std.specs.List.{list_any, position_or_len, before_first, after_first}
use Rattle.std.proofs.lemmas.Bool.{or_parts}
use Rattle.std.proofs.Math.Seq.{take-append_seam, drop-append-add}
use Rattle.std.proofs.Math.ListN.{drop_of_length-le}

module _ {X : Type 0} (p : X → Bool) where
  pub position-front : (front : List X) (x : X) (rest : List X) → list_any p front ≡ false → p x ≡ true → position_or_len p (front ++ x ∷ rest) ≡ length front
  position-front [] x rest none here = simp here
  position-front (y ∷ front) x rest none here =
      let parts = or_parts (p y) (list_any p front) none in
      let further = position-front front x rest parts.1 here in
      simp parts.0 (omega (arith, further))

  pub before-front : (front : List X) (x : X) (rest : List X) → list_any p front ≡ false → p x ≡ true → before_first p (front ++ x ∷ rest) ≡ front
  before-front front x rest none here = rw (position-front front x rest none here) (take-append_seam front (x ∷ rest))

  pub after-front : (front : List X) (x : X) (rest : List X) → list_any p front ≡ false → p x ≡ true → after_first p (front ++ x ∷ rest) ≡ rest
  after-front front x rest none here = rw (position-front front x rest none here) (drop-append-add front (x ∷ rest) 1)

  position-none : (xs : List X) → list_any p xs ≡ false → position_or_len p xs ≡ length xs
  position-none [] none = refl
  position-none (y ∷ xs) none =
      let parts = or_parts (p y) (list_any p xs) none in
      let further = position-none xs parts.1 in
      simp parts.0 (omega (arith, further))

  -- where none passes nothing stands behind it
  pub after-none : (xs : List X) → list_any p xs ≡ false → after_first p xs ≡ []
  after-none xs none = rw (position-none xs none) (drop_of_length-le xs (omega arith))
