-- What is marked, run by run and piece by piece.
use Rattle.std.proofs.Common.{◌≡◌, ◌≢◌, ℕ, zero, suc, ◌+◌, ◌-◌, ◌<◌, ◌≤◌, nat_le, Bool, true, false, ◌||◌, List, [], ◌∷◌, ◌++◌, length, map, take, drop, get_or, set, refl, sym, ap, ◌∙◌}
use Rattle.std.proofs.Common.{subst, arith, length-drop, length-take-le, get_or-drop, append_assoc, drop-drop}
use Rattle.std.specs.Prelude.{All}
use Rattle.std.specs.Str.{bytes_eq}
use Rattle.std.proofs.lemmas.Bool.{false≢true, leb-false, leb-true}
use mathlib.Core.Bool.{true≢false}
use Rattle.std.proofs.lemmas.List.{drop_more, length-map, get_or-append_right, get_or-map, map-append, take_more}
use Rattle.std.proofs.lemmas.Slice.Eq.{bytes_eq-Decides}
use Rattle.std.proofs.Math.Seq.{set-append_seam}
use Rattle.memchr.specs.Find.{FindsNeedle, IsFirst, NoneBefore, Nowhere, OccursAt}
use Rattle.form_encode.specs.declared.scanning.Mark.{Mark}
use Rattle.form_encode.specs.Boundaries.{delimiter, has_delimiter, occurs_below}
use Rattle.form_encode.specs.Scanning.{HasSeen, IsRun, seen_below, seen_in, two_dashes}
use Rattle.form_encode.proofs.ScanLaws.{HasDashes, begins_long, begins_rest, below_at, below_some, ends_found, none_left, or_left, or_right, run_step}

-- ---- lists

map_same : {X Y : Type 0} (f g : X → Y) → ((x : X) → f x ≡ g x) → (xs : List X) → map f xs ≡ map g xs
map_same f g same [] = refl
map_same f g same (x ∷ xs) = ap (λ y. y ∷ map f xs) (same x) ∙ ap (λ ys. g x ∷ ys) (map_same f g same xs)

map_twice : {X Y Z : Type 0} (f : Y → Z) (g : X → Y) (xs : List X) → map f (map g xs) ≡ map (λ x. f (g x)) xs
map_twice f g [] = refl
map_twice f g (x ∷ xs) = ap (λ ys. f (g x) ∷ ys) (map_twice f g xs)

-- one more item is changed
pub set_turn : {X : Type 0} (f : X → X) (first now : List X) (i : ℕ) (x y : X) → i < length first → now ≡ map f (take i first) ++ drop i first
    → x ≡ get_or now i x → y ≡ f x → set now i y ≡ map f (take (i + 1) first) ++ drop (i + 1) first
set_turn {X} f first now i x y inside is here changed =
    let size : length (map f (take i first)) ≡ i = length-map (take i first) f ∙ length-take-le i first (omega (arith, inside)) in
    let item : get_or first i x ≡ x =
    ap (λ n. get_or first n x) (zero_more i)
    ∙ sym (ap (λ xs. get_or xs i x) is ∙ get_or-append_right (map f (take i first)) (drop i first) i i x size (omega arith) ∙ get_or-drop i first (i - i) x)
    ∙ sym here in
    let rest : drop i first ≡ x ∷ drop (i + 1) first = drop_more first i x inside ∙ ap (λ a. a ∷ drop (i + 1) first) item in
    let front : map f (take (i + 1) first) ≡ map f (take i first) ++ f x ∷ [] =
    ap (map f) (take_more first i x inside ∙ ap (λ a. take i first ++ a ∷ []) item) ∙ map-append f (take i first) (x ∷ []) in
    ap (λ a. set now i a) changed ∙ ap (λ xs. set xs i (f x)) (is ∙ ap (λ xs. map f (take i first) ++ xs) rest)
    ∙ ap (λ n. set (map f (take i first) ++ x ∷ drop (i + 1) first) n (f x)) (sym size)
    ∙ set-append_seam (map f (take i first)) x (drop (i + 1) first) (f x)
    ∙ sym (append_assoc (map f (take i first)) (f x ∷ []) (drop (i + 1) first)) ∙ ap (λ xs. xs ++ drop (i + 1) first) (sym front)
  where
    zero_more : (n : ℕ) → n ≡ n + (n - n)
    zero_more n = omega arith

-- ---- where two dashes stand behind a place

shifted : (bytes needle : List ℕ) (from k : ℕ) → OccursAt (drop from bytes) needle k → from ≤ length bytes → OccursAt bytes needle (from + k)
shifted bytes needle from k h low = record {
  fits = omega (arith, h.fits, low, length-drop from bytes);
  reads = λ j l. ap (λ n. get_or bytes n 0) (omega arith) ∙ sym (get_or-drop from bytes (k + j) 0) ∙ h.reads j l;
}

back_shifted : (bytes needle : List ℕ) (from k : ℕ) → from ≤ k → from ≤ length bytes → OccursAt bytes needle k → OccursAt (drop from bytes) needle (k - from)
back_shifted bytes needle from k low within h = record {
  fits = omega (arith, h.fits, low, within, length-drop from bytes);
  reads = λ j l. get_or-drop from bytes ((k - from) + j) 0 ∙ ap (λ n. get_or bytes n 0) (omega (arith, low)) ∙ h.reads j l;
}

pub run_none : (bytes : List ℕ) (from : ℕ) → from ≤ length bytes → Nowhere (OccursAt (drop from bytes) two_dashes) 0 (length (drop from bytes) + 1)
    → Nowhere (OccursAt bytes two_dashes) from (length bytes + 1)
run_none bytes from within nowhere k low high h =
    nowhere (k - from) (omega arith) (omega (arith, low, high, within, length-drop from bytes)) (back_shifted bytes two_dashes from k low within h)

-- the first two dashes, and where the dashes end
pub run_found : (bytes : List ℕ) (from place end : ℕ) → from ≤ length bytes
    → NoneBefore (OccursAt (drop from bytes) two_dashes) 0 (length (drop from bytes) + 1) place × OccursAt (drop from bytes) two_dashes place
    → from + place ≤ end → end ≤ length bytes → ((k : ℕ) → from + place ≤ k → k < end → get_or bytes k 0 ≡ 45) → (end < length bytes → get_or bytes end 0 ≢ 45)
    → IsRun bytes from (from + place) end
run_found bytes from place end within found low high dashes other = record {
  low = omega arith;
  long = long (nat_le (from + place + 2) end) refl;
  high = high;
  before = λ k least most h. found.0.before (k - from) (omega arith) (omega (arith, least, most)) (back_shifted bytes two_dashes from k least within h);
  dashes = dashes;
  other = other;
}
  where
    here : OccursAt bytes two_dashes (from + place)
    here = shifted bytes two_dashes from place found.1 within

    dash : (j : ℕ) → j < 2 → get_or bytes (from + place + j) 0 ≡ 45
    dash zero l = here.reads 0 l
    dash (suc zero) l = here.reads 1 l
    dash (suc (suc j)) l = absurd (omega (arith, l))

    long : (b : Bool) → nat_le (from + place + 2) end ≡ b → from + place + 2 ≤ end
    long true e = leb-true _ _ e
    long false e =
        let short : end < from + place + 2 = leb-false _ _ e in
        let at : from + place + (end - (from + place)) ≡ end = omega (arith, low) in
        absurd (other (omega (arith, short, here.fits)) (ap (λ n. get_or bytes n 0) (sym at) ∙ dash (end - (from + place)) (omega (arith, short, low))))

-- ---- one boundary

-- whether it begins in the run, by what `starts_with` says of its rest
pub rest_true : (needle bytes : List ℕ) (answer : Bool) → answer ≡ bytes_eq needle (take (length needle) bytes) → answer ≡ true → take (length needle) bytes ≡ needle
rest_true needle bytes answer is holds = sym ((bytes_eq-Decides needle (take (length needle) bytes)).0 (sym is ∙ holds))

pub rest_from : (needle bytes : List ℕ) (answer : Bool) → answer ≡ bytes_eq needle (take (length needle) bytes) → take (length needle) bytes ≡ needle → answer ≡ true
rest_from needle bytes answer is same = is ∙ (bytes_eq-Decides needle (take (length needle) bytes)).1 (sym same)

module _ (bytes boundary : List ℕ) (from start end own : ℕ) (run : IsRun bytes from start end) (dashes : HasDashes boundary own)
    (answer : Bool) (is : answer ≡ bytes_eq (drop own boundary) (take (length (drop own boundary)) (drop end bytes))) where
  rest_size : length (drop own boundary) ≡ length boundary - own
  rest_size = length-drop own boundary

  pub rest_found : own + 2 ≤ end - start → length (drop own boundary) ≤ length (drop end bytes) → answer ≡ true → occurs_below bytes (delimiter boundary) end ≡ true
  rest_found long room holds =
      ends_found bytes boundary from start end own run dashes long (omega (arith, room, rest_size, length-drop end bytes))
      (ap (λ n. take n (drop end bytes)) (sym rest_size) ∙ rest_true (drop own boundary) (drop end bytes) answer is holds)

  pub rest_nowhere : answer ≡ false → Nowhere (OccursAt bytes (delimiter boundary)) start end
  rest_nowhere fails k low high h =
      false≢true (sym fails ∙ rest_from (drop own boundary) (drop end bytes) answer is
      (ap (λ n. take n (drop end bytes)) rest_size ∙ begins_rest bytes boundary from start end own run dashes k low high h))

pub short_nowhere : (bytes boundary : List ℕ) (from start end own : ℕ) → IsRun bytes from start end → HasDashes boundary own → end - start < own + 2
    → Nowhere (OccursAt bytes (delimiter boundary)) start end
short_nowhere bytes boundary from start end own run dashes short k low high h =
    omega (arith, short, low, begins_long bytes boundary from start end own run dashes k low high h)

-- ---- one mark

pub seen_taken : (bytes : List ℕ) (place : ℕ) (mark : Mark) → mark.taken ≡ true → mark ≡ seen_below bytes place mark
seen_taken bytes place mark taken = ap (λ b. record mark { taken = b }) (taken ∙ sym (or_left _ _ taken))

pub seen_not : (bytes : List ℕ) (from start end : ℕ) (mark : Mark) → IsRun bytes from start end → HasSeen bytes from mark → mark.taken ≡ false
    → Nowhere (OccursAt bytes (delimiter mark.boundary)) start end → mark ≡ seen_below bytes end mark
seen_not bytes from start end mark run seen free nowhere =
    ap (λ b. record mark { taken = b }) (free ∙ sym (ap (λ b. b || occurs_below bytes (delimiter mark.boundary) end) free ∙ none))
  where
    before : (b : Bool) → occurs_below bytes (delimiter mark.boundary) from ≡ b → b ≡ false
    before true e = absurd (true≢false (sym (seen e) ∙ free))
    before false e = refl

    none : occurs_below bytes (delimiter mark.boundary) end ≡ false
    none = run_step bytes mark.boundary from start end false run (λ e. absurd (false≢true e)) (λ e. nowhere)
        ∙ ap (λ b. b || false) (before (occurs_below bytes (delimiter mark.boundary) from) refl)

-- ---- all marks

pub seen_zero : (bytes : List ℕ) (marks : List Mark) → marks ≡ map (seen_below bytes 0) marks
unfolding occurs_below
seen_zero bytes [] = refl
seen_zero bytes (mark ∷ marks) = ap (λ m. m ∷ marks) (ap (λ b. record mark { taken = b }) (nothing mark.taken)) ∙ ap (λ ms. seen_below bytes 0 mark ∷ ms) (seen_zero bytes marks)
  where
    nothing : (b : Bool) → b ≡ (b || false)
    nothing true = refl
    nothing false = refl

pub all_seen : (bytes : List ℕ) (place : ℕ) (first now : List Mark) → now ≡ map (seen_below bytes place) first → All (HasSeen bytes place) now
all_seen bytes place first now is k d inside h =
    subst (λ ms. (get_or ms k d).taken ≡ true) (sym is) (taken (subst (λ ms. occurs_below bytes (delimiter (get_or ms k d).boundary) place ≡ true) is h))
  where
    within : k < length first
    within = omega (arith, inside, ap length is, length-map first (seen_below bytes place))

    item : get_or (map (seen_below bytes place) first) k d ≡ seen_below bytes place (get_or first k d)
    item = get_or-map (seen_below bytes place) first k d d within

    taken : occurs_below bytes (delimiter (get_or (map (seen_below bytes place) first) k d).boundary) place ≡ true → (get_or (map (seen_below bytes place) first) k d).taken ≡ true
    taken e = ap (λ (m : Mark). m.taken) item ∙ or_right _ _ (ap (λ (m : Mark). occurs_below bytes (delimiter m.boundary) place) (sym item) ∙ e)

-- what is seen below a place is seen below a later one
pub seen_later : (bytes : List ℕ) (from end : ℕ) (first now new : List Mark) → from ≤ end → now ≡ map (seen_below bytes from) first → new ≡ map (seen_below bytes end) now
    → new ≡ map (seen_below bytes end) first
seen_later bytes from end first now new low was is =
    is ∙ ap (map (seen_below bytes end)) was ∙ map_twice (seen_below bytes end) (seen_below bytes from) first
    ∙ map_same (λ m. seen_below bytes end (seen_below bytes from m)) (seen_below bytes end) (λ m. ap (λ b. record m { taken = b }) (both m.taken (delimiter m.boundary))) first
  where
    later : (needle : List ℕ) → occurs_below bytes needle from ≡ true → occurs_below bytes needle end ≡ true
    later needle e = let r = below_some bytes needle from e in below_at bytes needle end r.0 (omega (arith, r.1, low)) r.2

    both : (taken : Bool) (needle : List ℕ) → ((taken || occurs_below bytes needle from) || occurs_below bytes needle end) ≡ (taken || occurs_below bytes needle end)
    both true needle = refl
    both false needle = go (occurs_below bytes needle from) refl
      where
        go : (b : Bool) → occurs_below bytes needle from ≡ b → (b || occurs_below bytes needle end) ≡ occurs_below bytes needle end
        go true e = sym (later needle e)
        go false e = refl

-- and all of them where no two dashes are left
pub seen_all : (bytes : List ℕ) (from : ℕ) (first now : List Mark) → from ≤ length bytes → now ≡ map (seen_below bytes from) first
    → Nowhere (OccursAt bytes two_dashes) from (length bytes + 1) → now ≡ map (seen_in bytes) first
seen_all bytes from first now low is nowhere =
    is ∙ map_same (seen_below bytes from) (seen_in bytes)
    (λ m. ap (λ b. record m { taken = m.taken || b }) (none_left bytes m.boundary from (omega (arith, low)) nowhere)) first

-- ---- the same as the code asks it

-- over the text of the boundary, what stands behind its dashes, and what stands behind the run
module _ (bytes boundary text : List ℕ) (from start end own : ℕ) (same : text ≡ boundary) (run : IsRun bytes from start end)
    (high : own ≤ length text) (front : (k : ℕ) → k < own → get_or text k 0 ≡ 45) (other : own < length text → get_or text own 0 ≢ 45) where
  dashes_of : HasDashes boundary own
  dashes_of = subst (λ xs. HasDashes xs own) same (record { high = high; dashes = front; other = other })

  pub short_of : end - start < own + 2 → Nowhere (OccursAt bytes (delimiter boundary)) start end
  short_of short = short_nowhere bytes boundary from start end own run dashes_of short

  module _ (left needle : List ℕ) (answer : Bool) (left_is : left ≡ drop end bytes) (needle_is : needle ≡ drop own text)
      (is : answer ≡ bytes_eq needle (take (length needle) left)) where
    asked : answer ≡ bytes_eq (drop own boundary) (take (length (drop own boundary)) (drop end bytes))
    asked =
        is ∙ ap (λ xs. bytes_eq needle (take (length needle) xs)) left_is
        ∙ ap (λ xs. bytes_eq xs (take (length xs) (drop end bytes))) (needle_is ∙ ap (drop own) same)

    pub found_of : own + 2 ≤ end - start → (answer ≡ true → length needle ≤ length left) → answer ≡ true → occurs_below bytes (delimiter boundary) end ≡ true
    found_of long room holds =
        rest_found bytes boundary from start end own run dashes_of answer asked long
        (omega (arith, room holds, ap length left_is, ap length needle_is, ap (λ xs. length (drop own xs)) same)) holds

    pub nowhere_of : answer ≡ false → Nowhere (OccursAt bytes (delimiter boundary)) start end
    nowhere_of fails = rest_nowhere bytes boundary from start end own run dashes_of answer asked fails
