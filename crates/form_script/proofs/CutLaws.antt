-- Texts that are cut at a byte.
use Rattle.std.proofs.Common.{◌≡◌, ◌≢◌, ℕ, suc, ◌<◌, Bool, true, false, List, [], ◌∷◌, ◌++◌, length, get_or, Option, Some, None, option_map, MatchOption, Bor, refl, sym, ap, subst, ◌∙◌, arith, if◌then◌else◌, ◌==◌}
use Rattle.std.proofs.lemmas.Bool.{eqb-true, eqb-false}
use Rattle.std.proofs.lemmas.Str.Pattern.{IsSplitOnceResult, split_parts}
use Rattle.form_script.specs.Reading.{before_last, cut}

abbrev pub Parts : Type 0
Parts = List ℕ × List ℕ

abbrev onto : ℕ → Parts → Parts
onto b parts = (b ∷ parts.0, parts.1)

-- a text without the byte is not cut
pub cut_none : (mark : ℕ) (text : List ℕ) → ((i : ℕ) → i < length text → get_or text i 0 ≢ mark) → cut mark text ≡ None
cut_none mark [] lacks = refl
cut_none mark (b ∷ bs) lacks = go (b == mark) refl (cut_none mark bs (λ i lt. lacks (suc i) (omega arith)))
  where
    go : (t : Bool) → b == mark ≡ t → cut mark bs ≡ None → (if t then Some ([], bs) else option_map (onto b) (cut mark bs)) ≡ None
    go true e h = absurd (lacks 0 (omega arith) (eqb-true b mark e))
    go false e h = ap (option_map (onto b)) h

-- and a text is cut at its first
pub cut_here : (mark : ℕ) (front rest : List ℕ) → cut mark front ≡ None → cut mark (front ++ (mark ∷ rest)) ≡ Some (front, rest)
cut_here mark [] rest lacks = go (mark == mark) refl
  where
    go : (t : Bool) → mark == mark ≡ t → (if t then Some ([], rest) else option_map (onto mark) (cut mark rest)) ≡ Some ([], rest)
    go true e = refl
    go false e = absurd (eqb-false mark mark e refl)
cut_here mark (b ∷ bs) rest lacks = go (b == mark) refl (cut mark bs) refl (cut_here mark bs rest) lacks
  where
    go : (t : Bool) → b == mark ≡ t → (o : Option Parts) → cut mark bs ≡ o → (cut mark bs ≡ None → cut mark (bs ++ (mark ∷ rest)) ≡ Some (bs, rest))
        → (if t then Some ([], bs) else option_map (onto b) o) ≡ None
        → (if t then Some ([], bs ++ (mark ∷ rest)) else option_map (onto b) (cut mark (bs ++ (mark ∷ rest)))) ≡ Some (b ∷ bs, rest)
    go true e o f again h = absurd (cc)
    go false e (Some x) f again h = absurd (cc)
    go false e None f again h = ap (option_map (onto b)) (again f)

-- what is cut stood there, and the front has none
pub cut_found : (mark : ℕ) (text front rest : List ℕ) → cut mark text ≡ Some (front, rest) → (text ≡ front ++ (mark ∷ rest)) × (cut mark front ≡ None)
cut_found mark [] front rest h = absurd (cc)
cut_found mark (b ∷ bs) front rest h = go (b == mark) refl (cut mark bs) refl (cut_found mark bs) h
  where
    Found : List ℕ → Parts → Type 0
    Found text parts = (text ≡ parts.0 ++ (mark ∷ parts.1)) × (cut mark parts.0 ≡ None)

    same : (x y : Parts) → x ≡ y → (text : List ℕ) → Found text x → Found text y
    same x y e text = subst (Found text) e

    some : (x y : Parts) → (let o : Option Parts = Some x in o) ≡ Some y → x ≡ y
    some x y e = cc

    more : (t : Bool) → b == mark ≡ t → t ≡ false → (xs : List ℕ) → cut mark xs ≡ None → (if t then Some ([], xs) else option_map (onto b) (cut mark xs)) ≡ None
    more true e f xs lacks = absurd (cc)
    more false e f xs lacks = ap (option_map (onto b)) lacks

    go : (t : Bool) → b == mark ≡ t → (o : Option Parts) → cut mark bs ≡ o
        → ((f r : List ℕ) → cut mark bs ≡ Some (f, r) → (bs ≡ f ++ (mark ∷ r)) × (cut mark f ≡ None))
        → (if t then Some ([], bs) else option_map (onto b) o) ≡ Some (front, rest) → Found (b ∷ bs) (front, rest)
    go true e o f again h = same ([], bs) (front, rest) (some ([], bs) (front, rest) h) (b ∷ bs) (ap (λ x. x ∷ bs) (eqb-true b mark e), refl)
    go false e None f again h = absurd (cc)
    go false e (Some x) f again h =
        let found : (bs ≡ x.0 ++ (mark ∷ x.1)) × (cut mark x.0 ≡ None) = again x.0 x.1 f in
        same (b ∷ x.0, x.1) (front, rest) (some (b ∷ x.0, x.1) (front, rest) h) (b ∷ bs) (ap (λ xs. b ∷ xs) found.0, more (b == mark) refl e x.0 found.1)

-- a text that is not cut does not begin with the byte
pub none_first : (mark b : ℕ) (bs : List ℕ) → cut mark (b ∷ bs) ≡ None → ((b == mark) ≡ false) × (cut mark bs ≡ None)
none_first mark b bs h = go (b == mark) refl (cut mark bs) refl h
  where
    go : (t : Bool) → b == mark ≡ t → (o : Option Parts) → cut mark bs ≡ o → (if t then Some ([], bs) else option_map (onto b) o) ≡ None → ((b == mark) ≡ false) × (cut mark bs ≡ None)
    go true e o f h = absurd (cc)
    go false e None f h = (e, f)
    go false e (Some x) f h = absurd (cc)

pub first_none : (mark b : ℕ) (bs : List ℕ) → (b == mark) ≡ false → cut mark bs ≡ None → cut mark (b ∷ bs) ≡ None
first_none mark b bs e lacks = go (b == mark) e
  where
    go : (t : Bool) → t ≡ false → (if t then Some ([], bs) else option_map (onto b) (cut mark bs)) ≡ None
    go true f = absurd (cc)
    go false f = ap (option_map (onto b)) lacks

-- `split_once` cuts
pub split_cuts : (mark : ℕ) (text : List ℕ) (r : Option (Bor (List ℕ) × Bor (List ℕ))) → IsSplitOnceResult mark text r → mark < 128 → option_map (λ parts. (parts.0.now, parts.1.now)) r ≡ cut mark text
split_cuts mark text None h low = sym (cut_none mark text (split_parts mark text None h low))
split_cuts mark text (Some x) h low =
    let parts : (text ≡ x.0.now ++ (mark ∷ x.1.now)) × ((i : ℕ) → i < length x.0.now → get_or x.0.now i 0 ≢ mark) = split_parts mark text (Some x) h low in
    sym (ap (cut mark) parts.0 ∙ cut_here mark x.0.now x.1.now (cut_none mark x.0.now parts.1))

-- what stands before a last byte
pub last_here : (mark : ℕ) (front : List ℕ) → before_last mark (front ++ (mark ∷ [])) ≡ Some front
last_here mark [] = go (mark == mark) refl
  where
    go : (t : Bool) → mark == mark ≡ t → (if t then Some [] else None) ≡ Some (let none : List ℕ = [] in none)
    go true e = refl
    go false e = absurd (eqb-false mark mark e refl)
last_here mark (b ∷ []) = ap (option_map (λ front. b ∷ front)) (last_here mark [])
last_here mark (b ∷ c ∷ bs) = ap (option_map (λ front. b ∷ front)) (last_here mark (c ∷ bs))

pub last_found : (mark : ℕ) (text front : List ℕ) → before_last mark text ≡ Some front → text ≡ front ++ (mark ∷ [])
last_found mark [] front h = absurd (cc)
last_found mark (b ∷ []) front h = go (b == mark) refl h
  where
    go : (t : Bool) → b == mark ≡ t → (if t then Some [] else None) ≡ Some front → b ∷ [] ≡ front ++ (mark ∷ [])
    go true e h = let none : [] ≡ front = cc in ap (λ x. x ∷ []) (eqb-true b mark e) ∙ ap (λ xs. xs ++ (mark ∷ [])) none
    go false e h = absurd (cc)
last_found mark (b ∷ c ∷ bs) front h = go (before_last mark (c ∷ bs)) refl (last_found mark (c ∷ bs)) h
  where
    go : (o : Option (List ℕ)) → before_last mark (c ∷ bs) ≡ o → ((f : List ℕ) → before_last mark (c ∷ bs) ≡ Some f → c ∷ bs ≡ f ++ (mark ∷ []))
        → option_map (λ front. b ∷ front) o ≡ Some front → b ∷ c ∷ bs ≡ front ++ (mark ∷ [])
    go None e again h = absurd (cc)
    go (Some f) e again h = let is : b ∷ f ≡ front = cc in ap (λ xs. b ∷ xs) (again f e) ∙ ap (λ xs. xs ++ (mark ∷ [])) is

-- a text without that last byte
pub last_none : (mark : ℕ) (text : List ℕ) → ((front : List ℕ) → text ≢ front ++ (mark ∷ [])) → before_last mark text ≡ None
last_none mark text lacks = go (before_last mark text) refl
  where
    go : (o : Option (List ℕ)) → before_last mark text ≡ o → o ≡ None
    go None e = refl
    go (Some front) e = absurd (lacks front (last_found mark text front e))

-- `strip_suffix` gives it
pub suffix_strips : (mark : ℕ) (text : List ℕ) (r : Option (Bor (List ℕ))) → MatchOption r ((front : List ℕ) → text ≢ front ++ (mark ∷ [])) (λ x. text ≡ x.now ++ (mark ∷ [])) → option_map (λ front. front.now) r ≡ before_last mark text
suffix_strips mark text None h = sym (last_none mark text h)
suffix_strips mark text (Some x) h = sym (ap (before_last mark) h ∙ last_here mark x.now)
