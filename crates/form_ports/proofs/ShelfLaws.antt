-- A shelf whose file of one number was read.
use Rattle.std.proofs.Common.{◌≡◌, ◌≢◌, ℕ, zero, suc, ◌+◌, ◌-◌, ◌<◌, ◌≤◌, List, [], ◌∷◌, length, get_or, set, Some, None, Ok, Err, refl, sym, ap, subst, ◌∙◌, arith, ◌++◌, append_assoc, append-nil}
use Rattle.std.specs.Prelude.{Result, IfOk, OnOk, Option, option_map, slice_get, map, Contains, sum}
use Rattle.std.specs.List.{AllZip}
use Rattle.std.proofs.lemmas.List.{map-set}
use Rattle.std.proofs.lemmas.List.Elements.{Contains-append_left, Contains-append_right, Contains-get_or}
use Rattle.std.proofs.Math.Seq.{map-set_same}
use Rattle.std.proofs.lemmas.List.Sums.{fold-append}
use Rattle.form_ports.specs.Ports.{Rose}
use Rattle.form_ports.specs.Shelf.{contents_of, numbers_of, at_number, IsFile, IsThere, told, told_in, NoneFell, FileRose, EachLater, EachLast, LastSizes}

-- ---- places and numbers

pub slice_get-within : {X : Type 0} (xs : List X) (i : ℕ) (x : X) → i < length xs → x ≡ get_or xs i x → slice_get xs i ≡ Some x
slice_get-within [] i x h e = absurd (omega arith)
slice_get-within (y ∷ xs) zero x h e = ap Some (sym e)
slice_get-within (y ∷ xs) (suc i) x h e = slice_get-within xs i x (omega arith) e

pub slice_get-set_other : {X : Type 0} (xs : List X) (i k : ℕ) (x : X) → k ≢ i → slice_get (set xs i x) k ≡ slice_get xs k
slice_get-set_other [] i k x h = refl
slice_get-set_other (y ∷ xs) zero zero x h = absurd (h refl)
slice_get-set_other (y ∷ xs) zero (suc k) x h = refl
slice_get-set_other (y ∷ xs) (suc i) zero x h = refl
slice_get-set_other (y ∷ xs) (suc i) (suc k) x h = slice_get-set_other xs i k x (λ e. h (ap suc e))

pub slice_get-map : {X Y : Type 0} (f : X → Y) (xs : List X) (i : ℕ) → slice_get (map f xs) i ≡ option_map f (slice_get xs i)
slice_get-map f [] i = refl
slice_get-map f (x ∷ xs) zero = refl
slice_get-map f (x ∷ xs) (suc i) = slice_get-map f xs i

-- a number's place
pub at_number-place : {X : Type 0} (xs : List X) (n : ℕ) → 1 ≤ n → at_number xs n ≡ slice_get xs (n - 1)
unfolding at_number
at_number-place xs zero h = absurd (omega arith)
at_number-place xs (suc n) h = let e : suc n - 1 ≡ n = omega arith in ap (slice_get xs) (sym e)

-- a file that is there has a number from 1
pub IsThere-from_one : (contents : List (Option (Option (List ℕ)))) (n : ℕ) → IsThere contents n → 1 ≤ n
unfolding at_number
IsThere-from_one contents zero there = absurd there.file
IsThere-from_one contents (suc n) there = omega arith

IsFile-within : {B : Type 0} (content : B → Option (List ℕ)) (shelf : List (Option B)) (place : ℕ)
    → IsFile (slice_get (map (λ file. option_map content file) shelf) place) → place < length shelf
IsFile-within content [] place there = absurd there
IsFile-within content (x ∷ shelf) zero there = omega arith
IsFile-within content (x ∷ shelf) (suc place) there = let h = IsFile-within content shelf place there in omega (arith, h)

-- and a place on the shelf
pub IsThere-within : {B : Type 0} (content : B → Option (List ℕ)) (shelf : List (Option B)) (n : ℕ)
    → IsThere (contents_of content shelf) n → n - 1 < length shelf
unfolding contents_of at_number
IsThere-within content shelf zero there = absurd there.file
IsThere-within content shelf (suc n) there = let h = IsFile-within content shelf n there.file in omega (arith, h)

-- the place of a number holds what was found there
pub found-at : {B : Type 0} (content : B → Option (List ℕ)) (shelf : List (Option B)) (n : ℕ) (x y : Option B)
    → IsThere (contents_of content shelf) n → x ≡ get_or shelf (n - 1) x → x ≡ y → at_number shelf n ≡ Some y
found-at content shelf n x y there at is =
    at_number-place shelf n (IsThere-from_one (contents_of content shelf) n there)
    ∙ slice_get-within shelf (n - 1) x (IsThere-within content shelf n there) at ∙ ap Some is

at_number-map : {X Y : Type 0} (f : X → Y) (xs : List X) (n : ℕ) → at_number (map f xs) n ≡ option_map f (at_number xs n)
unfolding at_number
at_number-map f xs zero = refl
at_number-map f xs (suc n) = slice_get-map f xs n

-- where nothing stands no file is there
pub IsThere-not_none : {B : Type 0} (content : B → Option (List ℕ)) (shelf : List (Option B)) (n : ℕ)
    → IsThere (contents_of content shelf) n → at_number shelf n ≡ Some None → ⊥
unfolding contents_of
IsThere-not_none content shelf n there is =
    let P : Option (Option (Option (List ℕ))) → Type 0 = IsFile in
    subst P (at_number-map (option_map content) shelf n ∙ ap (option_map (option_map content)) is) there.file

-- the contents stay
pub contents_of-set : {B : Type 0} (content : B → Option (List ℕ)) (shelf : List (Option B)) (place : ℕ) (x : Option B) (old new : B)
    → x ≡ get_or shelf place x → x ≡ Some old → content new ≡ content old
    → contents_of content (set shelf place (Some new)) ≡ contents_of content shelf
unfolding contents_of
contents_of-set content shelf place x old new at is same =
    map-set_same (option_map content) shelf place (Some new) x (ap Some same ∙ ap (option_map content) (sym is ∙ at))

-- ---- counts

EachLater-refl : (counts : List (Option ℕ)) → EachLater counts counts
EachLater-refl [] = tt
EachLater-refl (Some n ∷ counts) = (omega arith, EachLater-refl counts)
EachLater-refl (None ∷ counts) = EachLater-refl counts

EachLater-trans : (xs ys zs : List (Option ℕ)) → EachLater xs ys → EachLater ys zs → EachLater xs zs
EachLater-trans [] [] [] p q = tt
EachLater-trans [] [] (z ∷ zs) p q = absurd q
EachLater-trans [] (y ∷ ys) zs p q = absurd p
EachLater-trans (Some x ∷ xs) [] zs p q = absurd p
EachLater-trans (Some x ∷ xs) (None ∷ ys) zs p q = absurd p
EachLater-trans (Some x ∷ xs) (Some y ∷ ys) [] p q = absurd q
EachLater-trans (Some x ∷ xs) (Some y ∷ ys) (None ∷ zs) p q = absurd q
EachLater-trans (Some x ∷ xs) (Some y ∷ ys) (Some z ∷ zs) p q = (omega (arith, p.0, q.0), EachLater-trans xs ys zs p.1 q.1)
EachLater-trans (None ∷ xs) [] zs p q = absurd p
EachLater-trans (None ∷ xs) (Some y ∷ ys) zs p q = absurd p
EachLater-trans (None ∷ xs) (None ∷ ys) [] p q = absurd q
EachLater-trans (None ∷ xs) (None ∷ ys) (Some z ∷ zs) p q = absurd q
EachLater-trans (None ∷ xs) (None ∷ ys) (None ∷ zs) p q = EachLater-trans xs ys zs p q

EachLater-set : (counts : List (Option ℕ)) (place old new : ℕ) → slice_get counts place ≡ Some (Some old) → old ≤ new
    → EachLater counts (set counts place (Some new))
EachLater-set [] place old new is later = tt
EachLater-set (x ∷ xs) zero old new is later =
    let P : Option (Option ℕ) → Type 0 = λ y. CountAt y (Some new) xs in subst P (sym is) (later, EachLater-refl xs)
  where
    CountAt : Option (Option ℕ) → Option ℕ → List (Option ℕ) → Type 0
    CountAt (Some y) z xs = EachLater (y ∷ xs) (z ∷ xs)
    CountAt None z xs = ⊥
EachLater-set (Some n ∷ xs) (suc place) old new is later = (omega arith, EachLater-set xs place old new is later)
EachLater-set (None ∷ xs) (suc place) old new is later = EachLater-set xs place old new is later

pub NoneFell-trans : (xs ys zs : List (Option ℕ)) → NoneFell xs ys → NoneFell ys zs → NoneFell xs zs
NoneFell-trans xs ys zs p q = record { each = EachLater-trans xs ys zs p.each q.each }

pub NoneFell-same : (xs : List (Option ℕ)) → NoneFell xs xs
NoneFell-same xs = record { each = EachLater-refl xs }

-- no count falls
pub NoneFell-set : {B : Type 0} (faults : B → ℕ) (shelf : List (Option B)) (n : ℕ) (old new : B) → 1 ≤ n
    → at_number shelf n ≡ Some (Some old) → faults old ≤ faults new
    → NoneFell (numbers_of faults shelf) (numbers_of faults (set shelf (n - 1) (Some new)))
unfolding numbers_of
NoneFell-set faults shelf n old new from_one is later =
    let P : List (Option ℕ) → Type 0 = λ cs. NoneFell (map (option_map faults) shelf) cs in
    let e = sym (map-set (option_map faults) shelf (n - 1) (Some new)) in
    subst P e (record {
      each = EachLater-set (map (option_map faults) shelf) (n - 1) (faults old) (faults new)
          (slice_get-map (option_map faults) shelf (n - 1)
          ∙ ap (option_map (option_map faults)) (sym (at_number-place shelf n from_one) ∙ is)) later;
    })

-- ---- what is told

-- what is told of the file of a number
pub told-at : {B : Type 0} (content : B → Option (List ℕ)) (shelf : List (Option B)) (n : ℕ) (old : B)
    → at_number shelf n ≡ Some (Some old) → told (contents_of content shelf) n ≡ content old
unfolding contents_of told
told-at content shelf n old is =
    ap told_in (at_number-map (option_map content) shelf n ∙ ap (option_map (option_map content)) is)

-- every other number keeps its file
pub at_number-set_other : {X : Type 0} (xs : List X) (n k : ℕ) (x : X) → 1 ≤ n → k ≢ n → at_number (set xs (n - 1) x) k ≡ at_number xs k
unfolding at_number
at_number-set_other xs n zero x from_one h = refl
at_number-set_other xs n (suc k) x from_one h =
    slice_get-set_other xs (n - 1) k x (λ e. h (omega (arith, e, from_one)))

slice_get-set : {X : Type 0} (xs : List X) (i : ℕ) (old new : X) → slice_get xs i ≡ Some old → slice_get (set xs i new) i ≡ Some new
slice_get-set [] i old new is = absurd (cc is)
slice_get-set (x ∷ xs) zero old new is = refl
slice_get-set (x ∷ xs) (suc i) old new is = slice_get-set xs i old new is

at_number-set : {X : Type 0} (xs : List X) (n : ℕ) (old new : X) → at_number xs n ≡ Some old → at_number (set xs (n - 1) new) n ≡ Some new
unfolding at_number
at_number-set xs zero old new is = absurd (cc is)
at_number-set xs (suc n) old new is = let e : suc n - 1 ≡ n = omega arith in rw e (slice_get-set xs n old new is)

-- the number of the file that was put back
pub number-set : {B : Type 0} (number : B → ℕ) (shelf : List (Option B)) (n : ℕ) (old new : B) {value : ℕ}
    → at_number shelf n ≡ Some (Some old) → number new ≡ value
    → at_number (numbers_of number (set shelf (n - 1) (Some new))) n ≡ Some (Some value)
unfolding numbers_of
number-set number shelf n old new is value_is =
    at_number-map (option_map number) (set shelf (n - 1) (Some new)) n
    ∙ ap (option_map (option_map number)) (at_number-set shelf n (Some old) (Some new) is) ∙ ap (λ v. Some (Some v)) value_is

-- the same, where the number is one of a result
pub number-set_ok : {B V E : Type 0} (number : B → ℕ) (shelf : List (Option B)) (n : ℕ) (old new : B) (value : V → ℕ) (r : Result V E)
    → at_number shelf n ≡ Some (Some old) → IfOk r (λ v. number new ≡ value v)
    → IfOk r (λ v. at_number (numbers_of number (set shelf (n - 1) (Some new))) n ≡ Some (Some (value v)))
number-set_ok number shelf n old new value (Ok v) is stands = number-set number shelf n old new is stands
number-set_ok number shelf n old new value (Err e) is stands = tt

pub number-set_done : {B V E : Type 0} (number : B → ℕ) (shelf : List (Option B)) (n value : ℕ) (old new : B) (r : Result V E)
    → at_number shelf n ≡ Some (Some old) → OnOk r (number new ≡ value)
    → OnOk r (at_number (numbers_of number (set shelf (n - 1) (Some new))) n ≡ Some (Some value))
number-set_done number shelf n value old new (Ok v) is stands = number-set number shelf n old new is stands
number-set_done number shelf n value old new (Err e) is stands = tt

-- ---- counts that rose

-- the file's count rose
pub FileRose-set : {B : Type 0} (faults : B → ℕ) (shelf : List (Option B)) (n : ℕ) (old new : B)
    → at_number shelf n ≡ Some (Some old) → Rose (faults old) (faults new)
    → FileRose n (numbers_of faults shelf) (numbers_of faults (set shelf (n - 1) (Some new)))
unfolding numbers_of
FileRose-set faults shelf n old new is rose = record {
  before = faults old;
  now = faults new;
  was = at_number-map (option_map faults) shelf n ∙ ap (option_map (option_map faults)) is;
  is = number-set faults shelf n old new is refl;
  rose = rose;
}

-- a count that did not fall was there, and was no higher
earlier : (old new : List (Option ℕ)) (place now : ℕ) → EachLater old new → slice_get new place ≡ Some (Some now)
    → (before : ℕ) × (slice_get old place ≡ Some (Some before)) × (before ≤ now)
earlier [] [] place now later is = absurd (cc is)
earlier [] (y ∷ new) place now later is = absurd later
earlier (Some x ∷ old) [] place now later is = absurd later
earlier (None ∷ old) [] place now later is = absurd later
earlier (Some x ∷ old) (None ∷ new) place now later is = absurd later
earlier (None ∷ old) (Some y ∷ new) place now later is = absurd later
earlier (Some x ∷ old) (Some y ∷ new) zero now later is =
    let e : y ≡ now = cc is in (x, refl, omega (arith, later.0, e))
earlier (None ∷ old) (None ∷ new) zero now later is = absurd (cc is)
earlier (Some x ∷ old) (Some y ∷ new) (suc place) now later is = earlier old new place now later.1 is
earlier (None ∷ old) (None ∷ new) (suc place) now later is = earlier old new place now later is

earlier-number : (old new : List (Option ℕ)) (n now : ℕ) → NoneFell old new → at_number new n ≡ Some (Some now)
    → (before : ℕ) × (at_number old n ≡ Some (Some before)) × (before ≤ now)
unfolding at_number
earlier-number old new zero now later is = absurd (cc is)
earlier-number old new (suc place) now later is = earlier old new place now later.each is

-- what rose later rose
pub FileRose-later : (first old new : List (Option ℕ)) (n : ℕ) → NoneFell first old → FileRose n old new → FileRose n first new
FileRose-later first old new n later rose =
    let was = earlier-number first old n rose.before later rose.was in
    record {
      before = was.0;
      now = rose.now;
      was = was.1;
      is = rose.is;
      rose = omega (arith, was.2, rose.rose);
    }

-- one error, in another result
pub Err-again : {X Y E : Type 0} (x y : E) → (let r : Result X E = Err x in r ≡ Err y) → (let r : Result Y E = Err x in r ≡ Err y)
Err-again {X} {Y} {E} x y same = ap again same
  where
    again : Result X E → Result Y E
    again (Ok v) = Err x
    again (Err e) = Err e

-- ---- one number after the other

-- what is told of a number that was not read stays
number-kept : {B : Type 0} (number : B → ℕ) (old new : List (Option B)) (k : ℕ) → at_number new k ≡ at_number old k
    → at_number (numbers_of number new) k ≡ at_number (numbers_of number old) k
unfolding numbers_of
number-kept number old new k same =
    at_number-map (option_map number) new k ∙ ap (option_map (option_map number)) same
    ∙ sym (at_number-map (option_map number) old k)

pub AllZip-append : {X Y : Type 0} (R : X → Y → Type 0) (xs vs : List X) (ys ws : List Y) → AllZip R xs ys → AllZip R vs ws
    → AllZip R (xs ++ vs) (ys ++ ws)
AllZip-append R [] vs [] ws first second = second
AllZip-append R [] vs (y ∷ ys) ws first second = absurd first
AllZip-append R (x ∷ xs) vs [] ws first second = absurd first
AllZip-append R (x ∷ xs) vs (y ∷ ys) ws first second = (first.0, AllZip-append R xs vs ys ws first.1 second)

EachLast-append : (old new : List (Option ℕ)) (numbers sizes later later_sizes : List ℕ) → EachLast old numbers sizes
    → ((k : ℕ) → ¬ (Contains later k) → at_number new k ≡ at_number old k) → EachLast new later later_sizes
    → EachLast new (numbers ++ later) (sizes ++ later_sizes)
EachLast-append old new [] [] later later_sizes so_far others here = here
EachLast-append old new [] (s ∷ sizes) later later_sizes so_far others here = absurd so_far
EachLast-append old new (m ∷ numbers) [] later later_sizes so_far others here = absurd so_far
EachLast-append old new (m ∷ numbers) (s ∷ sizes) later later_sizes so_far others here = (
  λ last. others m (λ named. last (Contains-append_right numbers later m named))
      ∙ so_far.0 (λ named. last (Contains-append_left numbers later m named)),
  EachLast-append old new numbers sizes later later_sizes so_far.1 others here,
)

-- no file stands anywhere
pub LastSizes-none : (positions : List (Option ℕ)) → LastSizes positions [] []
LastSizes-none positions = record { each = tt }

-- one file stands at its size
pub LastSizes-one : (positions : List (Option ℕ)) (n size : ℕ) → at_number positions n ≡ Some (Some size)
    → LastSizes positions (n ∷ []) (size ∷ [])
LastSizes-one positions n size here = record { each = (λ last. here, tt) }

-- later files were read, and no other
pub LastSizes-append : {B : Type 0} (position : B → ℕ) (old new : List (Option B))
    (numbers sizes later later_sizes : List ℕ) → LastSizes (numbers_of position old) numbers sizes
    → ((k : ℕ) → ¬ (Contains later k) → at_number new k ≡ at_number old k)
    → LastSizes (numbers_of position new) later later_sizes
    → LastSizes (numbers_of position new) (numbers ++ later) (sizes ++ later_sizes)
LastSizes-append position old new numbers sizes later later_sizes so_far others here = record {
  each = EachLast-append (numbers_of position old) (numbers_of position new) numbers sizes later later_sizes
      so_far.each (λ k apart. number-kept position old new k (others k apart)) here.each;
}

-- another number than the one
pub other-one : (n k : ℕ) → ¬ (Contains (n ∷ []) k) → k ≢ n
other-one n k apart e =
    apart (let P : ℕ → Type 0 = λ m. Contains (n ∷ []) m in subst P (sym e) (Contains-get_or (n ∷ []) 0 n (omega arith)))

sum-push : (sizes : List ℕ) (size : ℕ) → sum (sizes ++ size ∷ []) ≡ sum sizes + size
sum-push sizes size = fold-append (λ a b. a + b) 0 sizes (size ∷ [])

pub sum-append : (xs ys : List ℕ) → sum (xs ++ ys) ≡ sum xs + sum ys
sum-append xs [] = let e : sum [] ≡ 0 = refl in rw (append-nil xs) (omega (arith, e))
sum-append xs (y ∷ ys) =
    let split : xs ++ y ∷ ys ≡ (xs ++ y ∷ []) ++ ys = sym (append_assoc xs (y ∷ []) ys) in
    let rest = sum-append (xs ++ y ∷ []) ys in
    let grown = sum-push xs y in
    let first = sum-append (y ∷ []) ys in
    let one : sum (y ∷ []) ≡ 0 + y = refl in
    rw split (omega (arith, rest, grown, first, one))
