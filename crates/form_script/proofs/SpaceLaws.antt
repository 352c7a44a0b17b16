-- Where spaces stand: none in the literal of a boundary, and one less than there are words.
use Rattle.std.proofs.Common.{◌≡◌, ℕ, suc, ◌+◌, ◌<◌, ◌≤◌, Bool, true, false, cond, List, [], ◌∷◌, ◌++◌, length, Option, Some, None, inl, inr, refl, sym, ap, subst, ◌∙◌, arith, ◌&&◌, nat_lt, if◌then◌else◌, ◌==◌}
use Rattle.std.specs.Char.{digit_value}
use Rattle.std.specs.List.{AllByRecursion, count_by, flat_map, list_all}
use Rattle.std.specs.Str.Parse.{AllDigits}
use Rattle.std.proofs.lemmas.Bool.Decides.{nat_tests}
use Rattle.std.proofs.lemmas.List.Folds.{list_all-append}
use Rattle.std.proofs.lemmas.List.Recursion.{is_count_by}
use Rattle.form_script.specs.LineReading.{all_of, is_space, onto_first, words_of}
use Rattle.form_script.specs.Quoted.{Escape, IsEscape, IsPiece, Itself, Piece, meaning, named_escape, spelling}
use Rattle.form_script.specs.Reading.{◌>>=◌, cut}
use Rattle.form_script.specs.Words.{IsBoundary, is_name_byte}
use Rattle.form_script.proofs.CutLaws.{first_none, none_first}

-- ---- a boundary's literal

none_joined : (xs ys : List ℕ) → cut 32 xs ≡ None → cut 32 ys ≡ None → cut 32 (xs ++ ys) ≡ None
none_joined [] ys h k = k
none_joined (x ∷ xs) ys h k = let p = none_first 32 x xs h in first_none 32 x (xs ++ ys) p.0 (none_joined xs ys p.1 k)

digit_other : (b : ℕ) → digit_value b < 16 → (b == 32) ≡ false
digit_other b h = grind (arith, nat_tests)

digits_whole : (digits : List ℕ) → AllDigits 16 digits → cut 32 digits ≡ None
digits_whole [] h = refl
digits_whole (b ∷ bs) h = first_none 32 b bs (digit_other b h.0) (digits_whole bs h.1)

letter_other : (letter c : ℕ) → named_escape letter ≡ Some c → (letter == 32) ≡ false
letter_other letter c h = go (letter == 32) refl
  where
    go : (t : Bool) → letter == 32 ≡ t → t ≡ false
    go false e = refl
    go true e = let is : letter ≡ 32 = grind (arith, nat_tests) in absurd (let gone : named_escape 32 ≡ Some c = subst (λ l. named_escape l ≡ Some c) is h in cc)

escape_whole : (spelled : List ℕ) (c : ℕ) → IsEscape spelled c → cut 32 spelled ≡ None
escape_whole spelled c (inl named) = ap (cut 32) named.spelled_so ∙ first_none 32 named.letter [] (letter_other named.letter c named.named) refl
escape_whole spelled c (inr number) =
    ap (cut 32) number.spelled_so
    ∙ first_none 32 117 (123 ∷ (number.digits ++ (125 ∷ []))) refl (first_none 32 123 (number.digits ++ (125 ∷ [])) refl (none_joined number.digits (125 ∷ []) (digits_whole number.digits number.number.numeral.1) refl))

name_other : (b : ℕ) → is_name_byte b ≡ true → (b == 32) ≡ false
name_other b h = grind (arith, nat_tests)

both : (a b : Bool) → (a && b) ≡ true → (a ≡ true) × (b ≡ true)
both true b h = (refl, h)
both false b h = absurd (cc)

pieces_whole : (pieces : List Piece) → AllByRecursion IsPiece pieces → list_all is_name_byte (flat_map meaning pieces) ≡ true → cut 32 (flat_map spelling pieces) ≡ None
pieces_whole [] h names = refl
pieces_whole (Itself b ∷ pieces) h names =
    let parts = both (is_name_byte b) (list_all is_name_byte (flat_map meaning pieces)) names in
    first_none 32 b (flat_map spelling pieces) (name_other b parts.0) (pieces_whole pieces h.1 parts.1)
pieces_whole (Escape spelled c ∷ pieces) h names =
    let piece : Piece = Escape spelled c in
    let parts = both (list_all is_name_byte (meaning piece)) (list_all is_name_byte (flat_map meaning pieces)) (sym (list_all-append is_name_byte (meaning piece) (flat_map meaning pieces)) ∙ names) in
    first_none 32 92 (spelled ++ flat_map spelling pieces) refl (none_joined spelled (flat_map spelling pieces) (escape_whole spelled c h.0) (pieces_whole pieces h.1 parts.1))

pub boundary_whole : (literal boundary : List ℕ) → IsBoundary literal boundary → cut 32 literal ≡ None
boundary_whole literal boundary h =
    let inside = h.quoted.inside_is in
    let names : list_all is_name_byte (flat_map meaning inside.pieces) ≡ true = subst (λ t. list_all is_name_byte t ≡ true) inside.meant h.name_bytes in
    let whole : cut 32 h.quoted.inside ≡ None = ap (cut 32) inside.spelled_so ∙ pieces_whole inside.pieces inside.are_pieces names in
    ap (cut 32) h.quoted.literal_is ∙ first_none 32 34 (h.quoted.inside ++ (34 ∷ [])) refl (none_joined h.quoted.inside (34 ∷ []) whole refl)

-- ---- how many words there are

abbrev spaces : List ℕ → ℕ
spaces [] = 0
spaces (b ∷ bs) = cond (is_space b) (1 + spaces bs) (spaces bs)

spaces_counted : (text : List ℕ) → spaces text ≡ count_by is_space text
spaces_counted text = is_count_by spaces is_space refl (λ b bs. refl) text

word_count : (text : List ℕ) → length (words_of text) ≡ 1 + spaces text
word_count [] = refl
word_count (b ∷ bs) = go (b == 32) (words_of bs) (word_count bs)
  where
    longer : (ws : List (List ℕ)) → length ws ≡ 1 + spaces bs → length (onto_first b ws) ≡ 1 + spaces bs
    longer [] e = absurd (omega (arith, e))
    longer (w ∷ ws) e = e

    go : (t : Bool) (ws : List (List ℕ)) → length ws ≡ 1 + spaces bs → length (if t then [] ∷ ws else onto_first b ws) ≡ 1 + cond t (1 + spaces bs) (spaces bs)
    go true ws e = omega (arith, e)
    go false ws e = longer ws e

all_count : {A : Type 0} (read : List ℕ → Option A) (words : List (List ℕ)) (xs : List A) → all_of read words ≡ Some xs → length xs ≡ length words
all_count read [] xs h = let is : [] ≡ xs = cc in sym (ap length is)
all_count {A} read (word ∷ words) xs h = go (read word) (all_of read words) refl (all_count read words) h
  where
    go : (o : Option A) (os : Option (List A)) → all_of read words ≡ os → ((ys : List A) → all_of read words ≡ Some ys → length ys ≡ length words)
        → (o >>= λ x. os >>= λ ys. Some (x ∷ ys)) ≡ Some xs → length xs ≡ suc (length words)
    go None os e again h = absurd (cc)
    go (Some x) None e again h = absurd (cc)
    go (Some x) (Some ys) e again h = let is : x ∷ ys ≡ xs = cc in sym (ap length is) ∙ ap suc (again ys e)

pub few_spaces : {A : Type 0} (read : List ℕ → Option A) (text : List ℕ) (xs : List A) → all_of read (words_of text) ≡ Some xs → length xs ≤ 8 → nat_lt (count_by is_space text) 8 ≡ true
few_spaces read text xs h le =
    let e : 1 + spaces text ≡ length xs = sym (all_count read (words_of text) xs h ∙ word_count text) in
    let below : spaces text < 8 = omega (arith, e, le) in
    let counted : count_by is_space text < 8 = subst (λ n. n < 8) (spaces_counted text) below in
    grind (arith, nat_tests)

pub many_words : {A : Type 0} (read : List ℕ → Option A) (text : List ℕ) (xs : List A) → all_of read (words_of text) ≡ Some xs → nat_lt (count_by is_space text) 8 ≡ true → length xs ≤ 8
many_words read text xs h few =
    let e : 1 + spaces text ≡ length xs = sym (all_count read (words_of text) xs h ∙ word_count text) in
    let counted : count_by is_space text < 8 = grind (arith, nat_tests) in
    let below : spaces text < 8 = subst (λ n. n < 8) (sym (spaces_counted text)) counted in
    omega (arith, e, below)
