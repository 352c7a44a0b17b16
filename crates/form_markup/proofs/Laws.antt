-- The reader goes over the pieces of contents as over their elements.
use Rattle.std.proofs.Common.{◌≡◌, ℕ, suc, ◌+◌, List, [], ◌∷◌, ◌++◌, Option, Some, length, refl, sym, ap, ◌∙◌, append_assoc, append-nil, length-append, arith, add-one}
use Rattle.form_markup.specs.Contents.{Piece, End, Contents, Nothing, Shown, Hidden, Empty, Element, pieces_of, text_of, count_of, raw_of, raws_of}
use Rattle.form_markup.specs.Machine.{Level, State, state, level, parent_of, with_text, more_text, after, after_all}
use Rattle.form_tree.specs.declared.node.Raw.{Raw}

pub set_seam : (xs : List Raw) (r : Raw) (ys : List Raw) (text : List ℕ) → with_text (length xs) text (xs ++ (r ∷ ys)) ≡ xs ++ ((record r { text = text }) ∷ ys)
set_seam [] r ys text = refl
set_seam (x ∷ xs) r ys text = ap (λ zs. x ∷ zs) (set_seam xs r ys text)

pub closing : (xs : List Raw) (r : Raw) (ys : List Raw) (text : List ℕ) → with_text (length xs) text ((xs ++ (r ∷ [])) ++ ys) ≡ xs ++ ((record r { text = text }) ∷ ys)
closing xs r ys text = rw append_assoc (set_seam xs r ys text)

pub after_all-append : (m : State) (ps qs : List Piece) → after_all m (ps ++ qs) ≡ after_all (after_all m ps) qs
after_all-append m [] qs = refl
after_all-append m (p ∷ ps) qs = after_all-append (after m p) ps qs

pub more_none : (s : List Level) → more_text [] s ≡ s
more_none [] = refl
more_none (o ∷ os) = ap (λ (t : List ℕ). (let p : Level = record { place = o.place; tag = o.tag; name = o.name; text = t } in p) ∷ os) (append-nil o.text)

pub more_more : (a b : List ℕ) (s : List Level) → more_text b (more_text a s) ≡ more_text (a ++ b) s
more_more a b [] = refl
more_more a b (o ∷ os) = ap (λ (t : List ℕ). (let p : Level = record { place = o.place; tag = o.tag; name = o.name; text = t } in p) ∷ os) (append_assoc o.text a b)

pub parent_more : (a : List ℕ) (s : List Level) → parent_of (more_text a s) ≡ parent_of s
parent_more a [] = refl
parent_more a (o ∷ os) = refl

pub length-raws_of : (parent : Option ℕ) (place : ℕ) (c : Contents) → length (raws_of parent place c) ≡ count_of c
length-raws_of parent place Nothing = refl
length-raws_of parent place (Shown bytes c) = length-raws_of parent place c
length-raws_of parent place (Hidden c) = length-raws_of parent place c
length-raws_of parent place (Empty tagged c) = ap suc (length-raws_of parent (suc place) c)
length-raws_of parent place (Element tagged inside end c) =
    ap suc (length-append (raws_of (Some place) (suc place) inside) (raws_of parent (suc place + count_of inside) c)
    ∙ (ap (λ n. n + length (raws_of parent (suc place + count_of inside) c)) (length-raws_of (Some place) (suc place) inside)
    ∙ ap (λ n. count_of inside + n) (length-raws_of parent (suc place + count_of inside) c)))

-- Over contents the reader adds their text to the innermost element, and their elements.
pub over_contents : (s : List Level) (raws : List Raw) (c : Contents) → after_all (state s raws) (pieces_of c) ≡ state (more_text (text_of c) s) (raws ++ raws_of (parent_of s) (length raws) c)
over_contents s raws Nothing = sym (ap (λ (t : List Level). state t (raws ++ [])) (more_none s) ∙ ap (state s) (append-nil raws))
over_contents s raws (Shown bytes c) =
    over_contents (more_text bytes s) raws c
    ∙ (ap (λ (t : List Level). state t (raws ++ raws_of (parent_of (more_text bytes s)) (length raws) c)) (more_more bytes (text_of c) s)
    ∙ ap (λ (p : Option ℕ). state (more_text (bytes ++ text_of c) s) (raws ++ raws_of p (length raws) c)) (parent_more bytes s))
over_contents s raws (Hidden c) = over_contents s raws c
over_contents s raws (Empty tagged c) =
    let r : Raw = raw_of (parent_of s) tagged [] in
    let size : length (raws ++ (r ∷ [])) ≡ suc (length raws) = length-append raws (r ∷ []) ∙ add-one (length raws) in
    over_contents s (raws ++ (r ∷ [])) c
    ∙ ap (state (more_text (text_of c) s)) (append_assoc raws (r ∷ []) (raws_of (parent_of s) (length (raws ++ (r ∷ []))) c) ∙ ap (λ n. raws ++ (r ∷ raws_of (parent_of s) n c)) size)
over_contents s raws (Element tagged inside end c) =
    let r : Raw = raw_of (parent_of s) tagged [] in
    let o : Level = level raws tagged in
    let filled : Raw = raw_of (parent_of s) tagged (text_of inside) in
    let size : length (raws ++ (r ∷ [])) ≡ suc (length raws) = length-append raws (r ∷ []) ∙ add-one (length raws) in
    let inner : List Raw = raws_of (Some (length raws)) (suc (length raws)) inside in
    let within : after_all (state (o ∷ s) (raws ++ (r ∷ []))) (pieces_of inside) ≡ state (more_text (text_of inside) (o ∷ s)) ((raws ++ (r ∷ [])) ++ inner) =
    over_contents (o ∷ s) (raws ++ (r ∷ [])) inside ∙ ap (λ n. state (more_text (text_of inside) (o ∷ s)) ((raws ++ (r ∷ [])) ++ raws_of (Some (length raws)) n inside)) size in
    let shut : after (state (more_text (text_of inside) (o ∷ s)) ((raws ++ (r ∷ [])) ++ inner)) (End end) ≡ state s (raws ++ (filled ∷ inner)) =
    ap (state s) (closing raws r inner (text_of inside)) in
    let grown : length (raws ++ (filled ∷ inner)) ≡ suc (length raws) + count_of inside =
    length-append raws (filled ∷ inner) ∙ omega (arith, length-raws_of (Some (length raws)) (suc (length raws)) inside) in
    after_all-append (state (o ∷ s) (raws ++ (r ∷ []))) (pieces_of inside) (End end ∷ pieces_of c)
    ∙ (ap (λ (m : State). after_all (after m (End end)) (pieces_of c)) within
    ∙ (ap (λ (m : State). after_all m (pieces_of c)) shut
    ∙ (over_contents s (raws ++ (filled ∷ inner)) c
    ∙ ap (state (more_text (text_of c) s)) (append_assoc raws (filled ∷ inner) (raws_of (parent_of s) (length (raws ++ (filled ∷ inner))) c) ∙ ap (λ n. raws ++ (filled ∷ (inner ++ raws_of (parent_of s) n c))) grown))))
