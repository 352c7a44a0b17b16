-- The elements that are read stand in tree order, within the limits of number and depth.
use Rattle.std.proofs.Common.{◌≡◌, ℕ, zero, suc, ◌+◌, ◌<◌, ◌≤◌, nat_le, ◌||◌, List, [], ◌∷◌, ◌++◌, length, Option, Some, None, Bool, true, false, refl, sym, ap, subst, ◌∙◌, arith, append_assoc, append-nil, length-append, if◌then◌else◌, inl, inr, ◌⊎◌}
use Rattle.std.specs.List.{All, slice_get, slice_index}
use Rattle.std.proofs.lemmas.Bool.{cases_lt}
use Rattle.std.proofs.lemmas.Bool.Decides.{nat_tests}
use Rattle.std.proofs.lemmas.List.Elements.{All-append, All-cons, All-nil}
use Rattle.std.proofs.Math.Seq.{get_or-append_seam}
use Rattle.std.proofs.lemmas.List.{get_or_append_left}
use Rattle.std.proofs.lemmas.Option.{slice_get_within}
use Rattle.form_tree.specs.Tree.{IsInTreeOrder}
use Rattle.form_tree.specs.declared.node.Raw.{Raw}
use Rattle.form_tree.specs.declared.node.Tag.{Tag}
use Rattle.form_markup.specs.Contents.{Tagged, Piece, Start, Void, Oversized, End, Characters, Ignored, raw_of}
use Rattle.form_markup.specs.Faults.{Outer, opens, fault_of, element_fault, is_email, is_misplaced, is_over_limit, is_refused, tags_round, IsFine}
use Rattle.form_markup.specs.Limits.{depth_under, depths_behind, parents_of}
use Rattle.form_markup.specs.Machine.{Level, State, state, level, outers_of, parent_of, with_text, more_text, after, after_all}
use Rattle.form_markup.specs.Names.{tag_named}
use Rattle.form_markup.specs.declared.TheConstants.{MOST_DEPTH, MOST_ELEMENTS}
use Rattle.form_tokens.specs.declared.fault.Fault.TheVariants as faults
use Rattle.form_markup.proofs.Once.{fresh, outers_after}
use Rattle.form_markup.proofs.Going.{count_after}

abbrev pub Parents : Type 0
Parents = List (Option ℕ)

-- ---- one more parent

pub get_left : (ps : Parents) (p : Option ℕ) (i : ℕ) → i < length ps → slice_get (ps ++ (p ∷ [])) i ≡ slice_get ps i
get_left [] p i lt = absurd (omega arith)
get_left (q ∷ ps) p zero lt = refl
get_left (q ∷ ps) p (suc i) lt = get_left ps p i (omega arith)

pub get_last : (ps : Parents) (p : Option ℕ) → slice_get (ps ++ (p ∷ [])) (length ps) ≡ Some p
get_last [] p = refl
get_last (q ∷ ps) p = get_last ps p

pub size_more : (ps : Parents) (p : Option ℕ) → length (ps ++ (p ∷ [])) ≡ suc (length ps)
size_more ps p = length-append ps (p ∷ []) ∙ (let one : length ps + 1 ≡ suc (length ps) = omega arith in one)

-- what stands behind the place is below it
abbrev pub Under : Parents → ℕ → Type 0
Under ps p = (k : ℕ) → p < k → k < length ps → (q : ℕ) × (p ≤ q) × (slice_get ps k ≡ Some (Some q))

-- the parent of the next element is an open one, or there is none
abbrev pub IsNext : Parents → Option ℕ → Type 0
IsNext ps None = Unit {0}
IsNext ps (Some p) = (p < length ps) × Under ps p

pub under_more : (ps : Parents) (p q : ℕ) → Under ps p → p ≤ q → Under (ps ++ (Some q ∷ [])) p
under_more ps p q u le k lt inside = go (cases_lt k (length ps))
  where
    go : (k < length ps) ⊎ (length ps ≤ k) → (r : ℕ) × (p ≤ r) × (slice_get (ps ++ (Some q ∷ [])) k ≡ Some (Some r))
    go (inl l) = let old = u k lt l in (old.0, old.1, get_left ps (Some q) k l ∙ old.2)
    go (inr g) =
        let here : length ps ≡ k = omega (arith, size_more ps (Some q)) in
        (q, le, subst (λ i. slice_get (ps ++ (Some q ∷ [])) i ≡ Some (Some q)) here (get_last ps (Some q)))

pub order_more : (ps : Parents) (p : Option ℕ) → IsInTreeOrder ps → IsNext ps p → IsInTreeOrder (ps ++ (p ∷ []))
order_more ps p order next = record {
  before = λ i q e. before i q e (cases_lt i (length ps));
  no_gap = λ i q between e lt l. no_gap i q between e lt l (cases_lt i (length ps));
}
  where
    last : (i : ℕ) (q : ℕ) → slice_get (ps ++ (p ∷ [])) i ≡ Some (Some q) → length ps ≤ i → (i ≡ length ps) × (p ≡ Some q)
    last i q e g =
        let within : i < length (ps ++ (p ∷ [])) = slice_get_within (ps ++ (p ∷ [])) i (Some q) e in
        let is : i ≡ length ps = omega (arith, size_more ps p) in
        let same : Some p ≡ Some (Some q) = sym (get_last ps p) ∙ (ap (λ j. slice_get (ps ++ (p ∷ [])) j) (sym is) ∙ e) in
        (is, cc)

    before : (i q : ℕ) → slice_get (ps ++ (p ∷ [])) i ≡ Some (Some q) → (i < length ps) ⊎ (length ps ≤ i) → q < i
    before i q e (inl l) = order.before i q (sym (get_left ps p i l) ∙ e)
    before i q e (inr g) =
        let at = last i q e g in
        let n : IsNext ps (Some q) = subst (IsNext ps) at.1 next in
        let is : i ≡ length ps = at.0 in
        omega (arith, n.0)

    no_gap : (i q between : ℕ) → slice_get (ps ++ (p ∷ [])) i ≡ Some (Some q) → q < between → between < i → (i < length ps) ⊎ (length ps ≤ i) → (r : ℕ) × (q ≤ r) × (slice_get (ps ++ (p ∷ [])) between ≡ Some (Some r))
    no_gap i q between e lt l (inl h) =
        let old = order.no_gap i q between (sym (get_left ps p i h) ∙ e) lt l in
        (old.0, old.1, get_left ps p between (omega arith) ∙ old.2)
    no_gap i q between e lt l (inr g) =
        let at = last i q e g in
        let n : IsNext ps (Some q) = subst (IsNext ps) at.1 next in
        let is : i ≡ length ps = at.0 in
        let old = n.1 between lt (omega arith) in
        (old.0, old.1, get_left ps p between (omega arith) ∙ old.2)

-- ---- the open elements

-- the innermost open element stands at the place or before it
abbrev pub TopBy : ℕ → List Level → Type 0
TopBy n [] = Unit {0}
TopBy n (o ∷ os) = o.place ≤ n

-- each open element is there, what stands behind it is below it, and those round it stand before it
abbrev pub Chain : Parents → List Level → Type 0
Chain ps [] = Unit {0}
Chain ps (o ∷ os) = (o.place < length ps) × Under ps o.place × TopBy o.place os × Chain ps os

pub top_by : (m n : ℕ) (os : List Level) → TopBy m os → m ≤ n → TopBy n os
top_by m n [] h le = tt
top_by m n (o ∷ os) h le = omega arith

pub chain_more : (ps : Parents) (q : ℕ) (os : List Level) → Chain ps os → TopBy q os → Chain (ps ++ (Some q ∷ [])) os
chain_more ps q [] h t = tt
chain_more ps q (o ∷ os) h t = (omega (arith, h.0, size_more ps (Some q)), under_more ps o.place q h.1 t, h.2, chain_more ps q os h.3 (top_by o.place q os h.2 t))

pub chain_next : (ps : Parents) (os : List Level) → Chain ps os → Chain (ps ++ (parent_of os ∷ [])) os
chain_next ps [] h = tt
chain_next ps (o ∷ os) h = chain_more ps o.place (o ∷ os) h (let le : o.place ≤ o.place = omega arith in le)

pub next_of : (ps : Parents) (os : List Level) → Chain ps os → IsNext ps (parent_of os)
next_of ps [] h = tt
next_of ps (o ∷ os) h = (h.0, h.1)

pub top_of : (ps : Parents) (os : List Level) → Chain ps os → TopBy (length ps) os
top_of ps [] h = tt
top_of ps (o ∷ os) h = omega (arith, h.0)

pub chain_text : (ps : Parents) (bytes : List ℕ) (os : List Level) → Chain ps os → Chain ps (more_text bytes os)
chain_text ps bytes [] h = tt
chain_text ps bytes (o ∷ os) h = h

-- ---- depths

pub depths_more : (before : List ℕ) (ps : Parents) (p : Option ℕ) → depths_behind before (ps ++ (p ∷ [])) ≡ depths_behind before ps ++ (depth_under (before ++ depths_behind before ps) p ∷ [])
depths_more before [] p = ap (λ (ds : List ℕ). depth_under ds p ∷ []) (sym (append-nil before))
depths_more before (q ∷ ps) p =
    let d : ℕ = depth_under before q in
    ap (λ (ds : List ℕ). d ∷ ds) (depths_more (before ++ (d ∷ [])) ps p
    ∙ ap (λ (ds : List ℕ). depths_behind (before ++ (d ∷ [])) ps ++ (depth_under ds p ∷ [])) (append_assoc before (d ∷ []) (depths_behind (before ++ (d ∷ [])) ps)))

pub depths_size : (before : List ℕ) (ps : Parents) → length (depths_behind before ps) ≡ length ps
depths_size before [] = refl
depths_size before (q ∷ ps) = ap suc (depths_size (before ++ (depth_under before q ∷ [])) ps)

-- each open element lies as deep as there are open ones up to it
abbrev pub Heights : List ℕ → List Level → Type 0
Heights ds [] = Unit {0}
Heights ds (o ∷ os) = (o.place < length ds) × (slice_index ds o.place ≡ suc (length os)) × Heights ds os

pub heights_more : (ds : List ℕ) (d : ℕ) (os : List Level) → Heights ds os → Heights (ds ++ (d ∷ [])) os
heights_more ds d [] h = tt
heights_more ds d (o ∷ os) h = (omega (arith, h.0, length-append ds (d ∷ [])), get_or_append_left ds (d ∷ []) 0 o.place h.0 ∙ h.1, heights_more ds d os h.2)

pub heights_text : (ds : List ℕ) (bytes : List ℕ) (os : List Level) → Heights ds os → Heights ds (more_text bytes os)
heights_text ds bytes [] h = tt
heights_text ds bytes (o ∷ os) h = h

pub depth_next : (ds : List ℕ) (os : List Level) → Heights ds os → depth_under ds (parent_of os) ≡ suc (length os)
depth_next ds [] h = refl
depth_next ds (o ∷ os) h = ap suc h.1

-- ---- what was read

pub parents_push : (raws : List Raw) (r : Raw) → parents_of (raws ++ (r ∷ [])) ≡ parents_of raws ++ (r.parent ∷ [])
parents_push [] r = refl
parents_push (x ∷ xs) r = ap (λ (ps : Parents). x.parent ∷ ps) (parents_push xs r)

pub parents_text : (n : ℕ) (text : List ℕ) (raws : List Raw) → parents_of (with_text n text raws) ≡ parents_of raws
parents_text n text [] = refl
parents_text zero text (x ∷ xs) = refl
parents_text (suc n) text (x ∷ xs) = ap (λ (ps : Parents). x.parent ∷ ps) (parents_text n text xs)

pub parents_size : (raws : List Raw) → length (parents_of raws) ≡ length raws
parents_size [] = refl
parents_size (x ∷ xs) = ap suc (parents_size xs)

abbrev pub IsShallow : List Tag → ℕ → Type 0
IsShallow around depth = length around + depth ≤ MOST_DEPTH

pub record IsTidy (around : List Tag) (ps : Parents) (levels : List Level) : Type 0 where
  pub order : IsInTreeOrder ps
  pub chain : Chain ps levels
  pub heights : Heights (depths_behind [] ps) levels
  pub depth : All (IsShallow around) (depths_behind [] ps)
  pub few : length ps ≤ MOST_ELEMENTS

pub limit_off : (around : List Tag) (outers : List Outer) (n : ℕ) → is_over_limit around outers n ≡ false → (n < MOST_ELEMENTS) × (length around + length outers < MOST_DEPTH)
limit_off around outers n e = go (nat_le MOST_ELEMENTS n) refl (nat_le MOST_DEPTH (length around + length outers)) refl e
  where
    go : (x : Bool) → nat_le MOST_ELEMENTS n ≡ x → (y : Bool) → nat_le MOST_DEPTH (length around + length outers) ≡ y → (x || y) ≡ false → (n < MOST_ELEMENTS) × (length around + length outers < MOST_DEPTH)
    go true i y j h = absurd (cc)
    go false i true j h = absurd (cc)
    go false i false j h = (grind (arith, nat_tests), grind (arith, nat_tests))

pub in_limit : (around : List Tag) (outers : List Outer) (n : ℕ) (tagged : Tagged) → element_fault around outers n tagged ≡ None → is_over_limit around outers n ≡ false
unfolding element_fault
in_limit around outers n tagged e = go (is_over_limit around outers n) refl e
  where
    go : (x : Bool) → is_over_limit around outers n ≡ x
        → (if x then Some faults.Limit else (if is_refused tagged.name then Some faults.Element else (if is_email (tag_named tagged.name) tagged.attrs then Some faults.Email else (if is_misplaced (tag_named tagged.name) tagged.name (tags_round around outers) then Some faults.Nesting else None)))) ≡ None
        → is_over_limit around outers n ≡ false
    go true i h = absurd (cc)
    go false i h = i

pub outers_size : (os : List Level) → length (outers_of os) ≡ length os
outers_size [] = refl
outers_size (o ∷ os) = ap suc (outers_size os)

-- an element more, which is not open
pub tidy_more : (around : List Tag) (ps : Parents) (os : List Level) → IsTidy around ps os → length ps < MOST_ELEMENTS → length around + length os < MOST_DEPTH → IsTidy around (ps ++ (parent_of os ∷ [])) os
tidy_more around ps os t few shallow =
    let d : ℕ = depth_under (depths_behind [] ps) (parent_of os) in
    let deep : d ≡ suc (length os) = depth_next (depths_behind [] ps) os t.heights in
    let ds : depths_behind [] (ps ++ (parent_of os ∷ [])) ≡ depths_behind [] ps ++ (d ∷ []) = depths_more [] ps (parent_of os) in
    record {
      order = order_more ps (parent_of os) t.order (next_of ps os t.chain);
      chain = chain_next ps os t.chain;
      heights = subst (λ (xs : List ℕ). Heights xs os) (sym ds) (heights_more (depths_behind [] ps) d os t.heights);
      depth = subst (All (IsShallow around)) (sym ds) (All-append (IsShallow around) (depths_behind [] ps) (d ∷ []) t.depth
          (All-cons (IsShallow around) d [] (let ok : length around + d ≤ MOST_DEPTH = omega (arith, deep) in ok) (All-nil (IsShallow around))));
      few = omega (arith, size_more ps (parent_of os));
    }

-- and one that is open from now on
pub tidy_open : (around : List Tag) (ps : Parents) (os : List Level) (o : Level) → o.place ≡ length ps → IsTidy around ps os → IsTidy around (ps ++ (parent_of os ∷ [])) os → IsTidy around (ps ++ (parent_of os ∷ [])) (o ∷ os)
tidy_open around ps os o at was t =
    let d : ℕ = depth_under (depths_behind [] ps) (parent_of os) in
    let deep : d ≡ suc (length os) = depth_next (depths_behind [] ps) os was.heights in
    let ds : depths_behind [] (ps ++ (parent_of os ∷ [])) ≡ depths_behind [] ps ++ (d ∷ []) = depths_more [] ps (parent_of os) in
    let size : length (depths_behind [] ps) ≡ o.place = depths_size [] ps ∙ sym at in
    let here : slice_index (depths_behind [] ps ++ (d ∷ [])) o.place ≡ suc (length os) =
    ap (λ k. slice_index (depths_behind [] ps ++ (d ∷ [])) k) (sym size) ∙ (get_or-append_seam (depths_behind [] ps) d [] 0 ∙ deep) in
    record {
      order = t.order;
      chain = (omega (arith, at, size_more ps (parent_of os)), (λ k lt inside. absurd (omega (arith, at, size_more ps (parent_of os)))), subst (λ n. TopBy n os) (sym at) (top_of ps os was.chain), t.chain);
      heights = (omega (arith, at, depths_size [] (ps ++ (parent_of os ∷ [])), size_more ps (parent_of os)), ap (λ (xs : List ℕ). slice_index xs o.place) ds ∙ here, t.heights);
      depth = t.depth;
      few = t.few;
    }

abbrev pub Tidy : List Tag → State → Type 0
Tidy around m = IsTidy around (parents_of m.raws) m.levels

pub tidy_raw : (around : List Tag) (os : List Level) (raws : List Raw) (tagged : Tagged) → Tidy around (state os raws) → element_fault around (outers_of os) (length raws) tagged ≡ None → IsTidy around (parents_of raws ++ (parent_of os ∷ [])) os
tidy_raw around os raws tagged t e =
    let off = limit_off around (outers_of os) (length raws) (in_limit around (outers_of os) (length raws) tagged e) in
    tidy_more around (parents_of raws) os t (omega (arith, off.0, parents_size raws)) (omega (arith, off.1, outers_size os))

pub tidy_after : (around : List Tag) (os : List Level) (raws : List Raw) (p : Piece) → Tidy around (state os raws) → fault_of around (outers_of os) (length raws) p ≡ None → Tidy around (after (state os raws) p)
tidy_after around os raws (Start tagged) t e =
    let more = tidy_raw around os raws tagged t e in
    subst (λ (ps : Parents). IsTidy around ps (level raws tagged ∷ os)) (sym (parents_push raws (raw_of (parent_of os) tagged [])))
    (tidy_open around (parents_of raws) os (level raws tagged) (sym (parents_size raws)) t more)
tidy_after around os raws (Void tagged) t e =
    subst (λ (ps : Parents). IsTidy around ps os) (sym (parents_push raws (raw_of (parent_of os) tagged []))) (tidy_raw around os raws tagged t e)
tidy_after around os raws Oversized t e = t
tidy_after around [] raws (End end) t e = t
tidy_after around (o ∷ os) raws (End end) t e =
    subst (λ (ps : Parents). IsTidy around ps os) (sym (parents_text o.place o.text raws))
    (record { order = t.order; chain = t.chain.3; heights = t.heights.2; depth = t.depth; few = t.few })
tidy_after around os raws (Characters bytes) t e =
    record { order = t.order; chain = chain_text (parents_of raws) bytes os t.chain; heights = heights_text (depths_behind [] (parents_of raws)) bytes os t.heights; depth = t.depth; few = t.few }
tidy_after around os raws Ignored t e = t

pub tidy_all : (around : List Tag) (m : State) (ps : List Piece) → Tidy around m → IsFine around (outers_of m.levels) (length m.raws) ps → Tidy around (after_all m ps)
tidy_all around m [] t fine = t
tidy_all around m (p ∷ ps) t fine =
    tidy_all around (after m p) ps (tidy_after around m.levels m.raws p t fine.0)
    (subst (λ (outers : List Outer). IsFine around outers (length (after m p).raws) ps) (sym (outers_after m.levels m.raws p))
    (subst (λ n. IsFine around (opens (outers_of m.levels) p) n ps) (sym (count_after m.levels m.raws p)) fine.1))

pub tidy_fresh : (around : List Tag) → Tidy around fresh
tidy_fresh around = record {
  order = record { before = λ i p e. absurd (cc); no_gap = λ i p between e lt l. absurd (cc) };
  chain = tt;
  heights = tt;
  depth = All-nil (IsShallow around);
  few = omega arith;
}
