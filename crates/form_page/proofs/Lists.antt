-- What is told of the elements of a list, from its last on and from its first.
use Rattle.std.proofs.Common.{◌≡◌, ℕ, zero, suc, ◌<◌, Bool, true, false, ◌||◌, List, [], ◌∷◌, ◌++◌, length, drop, take, get_or, refl, sym, ap, arith}
use Rattle.std.specs.List.{list_any}
use Rattle.std.proofs.lemmas.Bool.{or_right}

-- what passes one test passes the other
pub any_more : {X : Type 0} (p q : X → Bool) → ((x : X) → p x ≡ true → q x ≡ true) → (xs : List X) → list_any p xs ≡ true → list_any q xs ≡ true
any_more p q more [] h = h
any_more p q more (x ∷ xs) h = go (any_more p q more xs) (p x) refl h
  where
    go : (list_any p xs ≡ true → list_any q xs ≡ true) → (b : Bool) → p x ≡ b → (b || list_any p xs) ≡ true → (q x || list_any q xs) ≡ true
    go rest true e h = rw (more x e) refl
    go rest false e h = or_right (q x) (list_any q xs) (rest h)

-- what stands from a place on
pub drop_here : {X : Type 0} (xs : List X) (i : ℕ) (d x : X) → i < length xs → x ≡ get_or xs i d → drop i xs ≡ x ∷ drop (suc i) xs
drop_here [] i d x lt is = absurd (omega arith)
drop_here (y ∷ ys) zero d x lt is = ap (λ z. z ∷ ys) (sym is)
drop_here (y ∷ ys) (suc i) d x lt is = drop_here ys i d x (omega arith) is

-- a list put in the place of another one that is as long
pub spliced : {A : Type 0} (n : ℕ) (new old : List A) → n ≡ length old → length new ≡ length old → take n (new ++ drop (length new) old) ≡ new
spliced zero [] [] long same = refl
spliced (suc n) [] [] long same = refl
spliced n [] (y ∷ ys) long same = absurd (omega (arith, same))
spliced n (x ∷ xs) [] long same = absurd (omega (arith, same))
spliced zero (x ∷ xs) (y ∷ ys) long same = absurd (omega (arith, long))
spliced (suc n) (x ∷ xs) (y ∷ ys) long same = ap (λ zs. x ∷ zs) (spliced n xs ys (omega (arith, long)) (omega (arith, same)))
