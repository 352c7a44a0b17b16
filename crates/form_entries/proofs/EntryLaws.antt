-- Lists by place.
use Rattle.std.proofs.Common.{add-one, ◌≡◌, ℕ, zero, suc, ◌+◌, ◌<◌, List, [], ◌∷◌, length, drop, get_or, sym, ap, arith}

-- what stands from a place on
pub drop_here : {X : Type 0} (xs : List X) (i : ℕ) (d x : X) → i < length xs → x ≡ get_or xs i d → drop i xs ≡ x ∷ drop (i + 1) xs
drop_here {X = X} xs i d x lt is = rw add-one (go xs i lt is)
  where
    go : (xs : List X) (i : ℕ) → i < length xs → x ≡ get_or xs i d → drop i xs ≡ x ∷ drop (suc i) xs
    go [] i lt is = absurd (omega arith)
    go (y ∷ ys) zero lt is = ap (λ z. z ∷ ys) (sym is)
    go (y ∷ ys) (suc i) lt is = go ys i (omega arith) is
