-- A delimiter that stands nowhere, and a boundary that is taken.
use Rattle.std.proofs.Common.{Vec, Global, ◌≡◌, ℕ, ◌+◌, ◌<◌, ◌≤◌, List, length, get_or, map, take, [], ◌∷◌, ◌++◌, Some, sym, ap, subst, ◌∙◌, arith}
use Rattle.std.specs.Prelude.{All, slice_get}
use Rattle.std.proofs.lemmas.List.{get_or-map, length-map, take_more, take_all}
use Rattle.std.proofs.lemmas.List.Elements.{All-push}
use Rattle.std.proofs.lemmas.Option.{get_or_from_slice_get}
use Rattle.memchr.specs.Find.{OccursAt, Nowhere}
use Rattle.form_encode.specs.Boundaries.{delimiter, Occurs, IsFree}

pub not-occurs : (bytes needle boundary : List ℕ) → needle ≡ delimiter boundary → Nowhere (OccursAt bytes needle) 0 (length bytes + 1)
    → ¬ (Occurs bytes boundary)
not-occurs bytes needle boundary same nowhere found =
    let P : List ℕ → Type 0 = λ n. OccursAt bytes n found.place in
    let here = subst P (sym same) found.here in
    nowhere found.place (omega arith) (omega (arith, here.fits)) here

get_or_map : {X Y : Type 0} (f : X → Y) (xs : List X) (i : ℕ) (x : X) → i < length xs → x ≡ get_or xs i x → f x ≡ get_or (map f xs) i (f x)
get_or_map f xs i x h at = ap f at ∙ sym (get_or-map f xs i x (f x) h)

-- one more item passes
pub All-more : {X Y : Type 0} (P : Y → Type 0) (f : X → Y) (xs : List X) (i : ℕ) (x : X) → x ≡ get_or xs i x → i < length xs
    → All P (take i (map f xs)) → P (f x) → All P (take (i + 1) (map f xs))
All-more {X} {Y} P f xs i x at h so_far here =
    let Q : List Y → Type 0 = λ ys. All P ys in
    subst Q (ap (λ y. take i (map f xs) ++ y ∷ []) (get_or_map f xs i x h at) ∙ sym (take_more (map f xs) i (f x) (omega (arith, h, length-map xs f))))
    (All-push P (take i (map f xs)) (f x) so_far here)

-- all items pass
pub All-whole : {X Y : Type 0} (P : Y → Type 0) (f : X → Y) (xs : List X) (i : ℕ) → length xs ≤ i → All P (take i (map f xs)) → All P (map f xs)
All-whole {X} {Y} P f xs i all so_far =
    let Q : List Y → Type 0 = λ ys. All P ys in subst Q (take_all i (map f xs) (omega (arith, all, length-map xs f))) so_far

-- what stands at the place of an item
pub item-at : {X Y : Type 0} (P : Y → Type 0) (f : X → Y) (xs : List X) (i : ℕ) (x : X) → x ≡ get_or xs i x → i < length xs → P (f x)
    → (y : Y) → slice_get (map f xs) i ≡ Some y → P y
item-at P f xs i x at h here y is =
    let e : f x ≡ y = get_or_map f xs i x h at ∙ get_or_from_slice_get (map f xs) i y (f x) is in subst P e here

pub not-free : (parts : List (Vec ℕ Global)) (i : ℕ) (part : Vec ℕ Global) (boundary : List ℕ) → part ≡ get_or parts i part → i < length parts
    → Occurs part.items boundary → ¬ (IsFree (map (λ part. part.items) parts) boundary)
not-free parts i part boundary at h found free =
    let P : List ℕ → Type 0 = λ b. Occurs b boundary in
    free.nowhere i part.items (omega (arith, h, length-map parts (λ part. part.items)))
    (subst P (get_or_map (λ part. part.items) parts i part h at) found)

-- the items that are mapped are as many
pub within-map : {X Y : Type 0} (f : X → Y) (xs : List X) (i : ℕ) → i < length xs → i < length (map f xs)
within-map f xs i h = omega (arith, h, length-map xs f)
