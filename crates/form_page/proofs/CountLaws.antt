-- How many pass a test, as far as a place.
use Rattle.std.proofs.Common.{◌≡◌, ℕ, zero, suc, ◌+◌, ◌<◌, ◌≤◌, Bool, true, false, cond, List, [], ◌∷◌, ◌++◌, add-one, length, map, take, get_or, set, Some, refl, sym, ap, ◌∙◌, arith}
use Rattle.std.specs.List.{count_by, filter, slice_get}
use Rattle.std.proofs.lemmas.List.{map-append}
use Rattle.std.proofs.Math.Seq.{take-suc}
use Rattle.std.proofs.lemmas.List.Sums.{count_by_more_no, count_by_more_yes, length-filter}
use Rattle.std.proofs.lemmas.Option.{get_or_from_slice_get, slice_get_within}

pub one_more_counted : {X : Type 0} (p : X → Bool) (xs : List X) (i : ℕ) (m : X) → slice_get xs i ≡ Some m → count_by p (take (i + 1) xs) ≡ count_by p (take i xs) + cond (p m) 1 0
one_more_counted p xs i m there = go (p m) refl
  where
    here : get_or xs i m ≡ m
    here = get_or_from_slice_get xs i m m there

    go : (b : Bool) → p m ≡ b → count_by p (take (i + 1) xs) ≡ count_by p (take i xs) + cond b 1 0
    go true e = let law = count_by_more_yes p xs i m (slice_get_within xs i m there) (ap p here ∙ e) in omega (arith, law)
    go false e = let law = count_by_more_no p xs i m (slice_get_within xs i m there) (ap p here ∙ e) in omega (arith, law)

front_shorter : {X : Type 0} (p : X → Bool) (xs : List X) (i : ℕ) → length (filter p (take i xs)) ≤ length (filter p xs)
front_shorter p xs zero = omega arith
front_shorter p [] (suc i) = omega arith
front_shorter p (x ∷ xs) (suc i) = go (front_shorter p xs i) (p x)
  where
    go : length (filter p (take i xs)) ≤ length (filter p xs) → (b : Bool) → length (cond b (x ∷ filter p (take i xs)) (filter p (take i xs))) ≤ length (cond b (x ∷ filter p xs) (filter p xs))
    go rest true = omega (arith, rest)
    go rest false = rest

pub front_counted : {X : Type 0} (p : X → Bool) (xs : List X) (i : ℕ) → count_by p (take i xs) ≤ count_by p xs
front_counted p xs i =
    let short = front_shorter p xs i in
    let one = length-filter p (take i xs) in
    let all = length-filter p xs in
    omega (arith, short, one, all)

-- a count that rose at each place as the elements pass stays within
pub ticks_within : {X : Type 0} (p : X → Bool) (xs : List X) (i : ℕ) (m : X) (start before after : ℕ) → slice_get xs i ≡ Some m → before ≤ start + count_by p (take i xs) → after ≡ before + cond (p m) 1 0 → after ≤ start + count_by p (take (i + 1) xs)
ticks_within p xs i m start before after there so_far tick = let law = one_more_counted p xs i m there in omega (arith, law, so_far, tick)

pub ticks_in_all : {X : Type 0} (p : X → Bool) (xs : List X) (i : ℕ) (m : X) (start before after : ℕ) → slice_get xs i ≡ Some m → before ≤ start + count_by p (take i xs) → after ≡ before + cond (p m) 1 0 → after ≤ start + count_by p xs
ticks_in_all p xs i m start before after there so_far tick =
    let next = ticks_within p xs i m start before after there so_far tick in
    let all = front_counted p xs (i + 1) in
    omega (arith, next, all)

-- one more image is put last
pub map_more : {X Y : Type 0} (f : X → Y) (xs : List X) (i : ℕ) (x : X) (ys more : List Y) (y : Y) → i < length xs → x ≡ get_or xs i x → ys ≡ map f (take i xs) → more ≡ ys ++ y ∷ [] → y ≡ f x → more ≡ map f (take (i + 1) xs)
map_more f xs i x ys more y below read so_far pushed is =
    pushed ∙ ap (λ zs. zs ++ y ∷ []) so_far ∙ ap (λ z. map f (take i xs) ++ z ∷ []) (is ∙ ap f read)
    ∙ sym (map-append f (take i xs) (get_or xs i x ∷ []))
    ∙ ap (map f) (sym (take-suc xs i x below)) ∙ ap (λ n. map f (take n xs)) (sym (add-one i))

-- what is put back changes nothing
pub set_same : {X : Type 0} (xs : List X) (i : ℕ) (d x : X) → x ≡ get_or xs i d → set xs i x ≡ xs
set_same [] i d x is = refl
set_same (y ∷ xs) zero d x is = ap (λ z. z ∷ xs) is
set_same (y ∷ xs) (suc i) d x is = ap (λ zs. y ∷ zs) (set_same xs i d x is)
