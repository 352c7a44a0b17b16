-- The open elements, and an element's text.
use Rattle.std.proofs.Common.{◌≡◌, ℕ, zero, suc, ◌+◌, ◌<◌, ◌≤◌, List, [], ◌∷◌, ◌++◌, length, get_or, set, map, reverse, Bool, true, false, ◌||◌, refl, sym, ap, ◌∙◌, append_assoc, append-nil, arith}
use Rattle.std.specs.List.{list_any}
use Rattle.std.proofs.lemmas.List.{reverse-append}
use Rattle.std.proofs.lemmas.List.Folds.{list_any-append}
use Rattle.std.proofs.lemmas.List.Sorted.{list_any-IsPermutation, IsPermutation-reverse}
use Rattle.form_tree.specs.declared.node.Raw.{Raw}
use Rattle.form_tree.specs.declared.node.Tag.{Tag}
use Rattle.form_markup.specs.Faults.{tags_round}
use Rattle.form_markup.specs.Machine.{Level, level_of, levels_of, more_text, outers_of, with_more, with_text}
use Rattle.form_markup.specs.declared.machine.Open.{Open}

pub length_outers : (s : List Open) → length (outers_of (levels_of s)) ≡ length s
length_outers [] = refl
length_outers (o ∷ os) = ap suc (length_outers os)

any_tags : (test : Tag → Bool) (s : List Open) → list_any (λ o. test o.tag) s ≡ list_any test (map (λ outer. outer.tag) (outers_of (levels_of s)))
any_tags test [] = refl
any_tags test (o ∷ os) = ap (λ b. test o.tag || b) (any_tags test os)

-- the order of the open elements does not count
pub any_reversed : (test : Tag → Bool) (s : List Open) → list_any (λ o. test o.tag) s ≡ list_any (λ o. test o.tag) (reverse s)
any_reversed test s = list_any-IsPermutation (λ o. test o.tag) s (reverse s) (IsPermutation-reverse s)

any_round : (test : Tag → Bool) (around : List Tag) (s : List Open) → (list_any (λ o. test o.tag) (reverse s) || list_any test around) ≡ list_any test (tags_round around (outers_of (levels_of s)))
any_round test around s =
    ap (λ b. b || list_any test around) (sym (any_reversed test s) ∙ any_tags test s)
    ∙ (ap (λ b. list_any test (map (λ outer. outer.tag) (outers_of (levels_of s))) || b) (list_any-IsPermutation test around (reverse around) (IsPermutation-reverse around))
    ∙ sym (list_any-append test (map (λ outer. outer.tag) (outers_of (levels_of s))) (reverse around)))

pub text_within : (i : ℕ) (text : List ℕ) (xs : List Raw) (r : Raw) → r ≡ get_or xs i r → i < length xs → set xs i (record r { text = text }) ≡ with_text i text xs
text_within i text [] r e lt = absurd (omega arith)
text_within zero text (x ∷ xs) r e lt = ap (λ (y : Raw). (let z : Raw = record y { text = text } in z) ∷ xs) e
text_within (suc i) text (x ∷ xs) r e lt = ap (λ zs. x ∷ zs) (text_within i text xs r e (omega arith))

pub text_past : (i : ℕ) (text : List ℕ) (xs : List Raw) → length xs ≤ i → xs ≡ with_text i text xs
text_past i text [] ge = refl
text_past zero text (x ∷ xs) ge = absurd (omega arith)
text_past (suc i) text (x ∷ xs) ge = ap (λ zs. x ∷ zs) (text_past i text xs (omega arith))

-- an open element passes the test, or else one of those round the text
pub any_then : (test : Tag → Bool) (around : List Tag) (s : List Open) (r : Bool) → r ≡ list_any (λ o. test o.tag) (reverse s) → r ≡ true → r ≡ list_any test (tags_round around (outers_of (levels_of s)))
any_then test around s r e t =
    let one : list_any (λ o. test o.tag) (reverse s) ≡ true = sym e ∙ t in
    t ∙ (sym (ap (λ b. b || list_any test around) one) ∙ any_round test around s)

pub any_else : (test : Tag → Bool) (around : List Tag) (s : List Open) (r q : Bool) → r ≡ list_any (λ o. test o.tag) (reverse s) → r ≡ false → q ≡ list_any test around → q ≡ list_any test (tags_round around (outers_of (levels_of s)))
any_else test around s r q e f h =
    let none : list_any (λ o. test o.tag) (reverse s) ≡ false = sym e ∙ f in
    h ∙ (sym (ap (λ b. b || list_any test around) none) ∙ any_round test around s)

-- the last of a list, and another in its place
pub last_split : (xs : List Open) (n : ℕ) (o new : Open) → n < length xs → length xs ≤ n + 1 → o ≡ get_or xs n o → (ys : List Open) × (xs ≡ ys ++ (o ∷ [])) × (set xs n new ≡ ys ++ (new ∷ []))
last_split [] n o new lt le e = absurd (omega arith)
last_split (x ∷ []) zero o new lt le e = ([], ap (λ y. y ∷ []) (sym e), refl)
last_split (x ∷ y ∷ ys) zero o new lt le e = absurd (omega arith)
last_split (x ∷ xs) (suc n) o new lt le e =
    let more = last_split xs n o new (omega arith) (omega arith) e in
    (x ∷ more.0, ap (λ zs. x ∷ zs) more.1, ap (λ zs. x ∷ zs) more.2)

-- more text of the last that was pushed
pub more_last : (bytes : List ℕ) (xs : List Open) (n : ℕ) (o new : Open) → n < length xs → length xs ≤ n + 1 → o ≡ get_or xs n o → level_of new ≡ with_more bytes (level_of o) → levels_of (reverse (set xs n new)) ≡ more_text bytes (levels_of (reverse xs))
more_last bytes xs n o new lt le e m =
    let split = last_split xs n o new lt le e in
    let before : reverse xs ≡ o ∷ reverse split.0 = ap reverse split.1 ∙ reverse-append split.0 (o ∷ []) in
    let behind : reverse (set xs n new) ≡ new ∷ reverse split.0 = ap reverse split.2 ∙ reverse-append split.0 (new ∷ []) in
    ap levels_of behind ∙ (ap (λ (l : Level). l ∷ levels_of (reverse split.0)) m ∙ sym (ap (λ (os : List Open). more_text bytes (levels_of os)) before))

-- no more text, and more text twice
pub more_none : (s : List Level) → more_text [] s ≡ s
more_none [] = refl
more_none (o ∷ os) = ap (λ (t : List ℕ). (let l : Level = record { place = o.place; tag = o.tag; name = o.name; text = t } in l) ∷ os) (append-nil o.text)

pub more_twice : (xs ys : List ℕ) (s : List Level) → more_text ys (more_text xs s) ≡ more_text (xs ++ ys) s
more_twice xs ys [] = refl
more_twice xs ys (o ∷ os) = ap (λ (t : List ℕ). (let l : Level = record { place = o.place; tag = o.tag; name = o.name; text = t } in l) ∷ os) (append_assoc o.text xs ys)

pub outers_more : (xs : List ℕ) (s : List Level) → outers_of (more_text xs s) ≡ outers_of s
outers_more xs [] = refl
outers_more xs (o ∷ os) = refl
