-- Words of other lengths.
use Rattle.std.proofs.Common.{◌≡◌, ℕ, ◌<◌, ◌≤◌, nat_le, ◌||◌, ◌&&◌, List, [], ◌∷◌, length, if◌then◌else◌, Bool, true, false, refl, sym, ap, ◌∙◌, arith}
use Rattle.form_tree.specs.declared.node.Tag.{Tag}
use Rattle.form_tree.specs.declared.node.Tag.TheVariants as tags
use Rattle.form_markup.specs.Names.{is_among, refused_names, tag_in, tag_named, tag_table, void_names}
use Rattle.std.specs.Str.{str_eq_ignore_ascii_case, str_to_ascii_lowercase}
use Rattle.std.specs.Char.{to_ascii_lowercase}
use Rattle.std.proofs.lemmas.Bool.Decides.{nat_tests}
use Rattle.std.proofs.lemmas.List.{length-map}
use Rattle.std.proofs.lemmas.Slice.Eq.{bytes_eq-Decides}

-- a text of another length is another word
pub other_word : (a b : List ℕ) → (length a ≡ length b → ⊥) → str_eq_ignore_ascii_case a b ≡ false
other_word a b other = go (str_eq_ignore_ascii_case a b) refl
  where
    go : (t : Bool) → str_eq_ignore_ascii_case a b ≡ t → t ≡ false
    go false e = refl
    go true e =
        let same : str_to_ascii_lowercase a ≡ str_to_ascii_lowercase b = grind (arith, bytes_eq-Decides) in
        absurd (other (sym (length-map a to_ascii_lowercase) ∙ (ap (λ (xs : List ℕ). length xs) same ∙ length-map b to_ascii_lowercase)))

-- no word is shorter
abbrev all_long : ℕ → List (List ℕ) → Bool
all_long n [] = true
all_long n (word ∷ words) = nat_le n (length word) && all_long n words

-- a name that is shorter than each of the words is none of them
short_none : (n : ℕ) (name : List ℕ) (words : List (List ℕ)) → length name < n → all_long n words ≡ true → is_among words name ≡ false
short_none n name [] short long = refl
short_none n name (word ∷ words) short long = go (short_none n name words short) (nat_le n (length word)) refl long
  where
    go : (all_long n words ≡ true → is_among words name ≡ false) → (t : Bool) → nat_le n (length word) ≡ t → (t && all_long n words) ≡ true → is_among (word ∷ words) name ≡ false
    go others true is h =
        let least : n ≤ length word = grind (arith, nat_tests) in
        ap (λ b. b || is_among words name) (other_word name word (λ e. absurd (omega (arith, least, short)))) ∙ others h
    go others false is h = absurd (cc)

pub short_allowed : (name : List ℕ) → length name < 3 → is_among refused_names name ≡ false
short_allowed name short = short_none 3 name refused_names short refl

pub short_closed : (name : List ℕ) → length name < 2 → is_among void_names name ≡ false
short_closed name short = short_none 2 name void_names short refl

-- no word of a row is shorter
abbrev all_long_rows : ℕ → List (List ℕ × Tag) → Bool
all_long_rows n [] = true
all_long_rows n (row ∷ rows) = nat_le n (length row.0) && all_long_rows n rows

short_in : (n : ℕ) (name : List ℕ) (rows : List (List ℕ × Tag)) → length name < n → all_long_rows n rows ≡ true → tag_in name rows ≡ tags.Other
unfolding tag_in
short_in n name [] short long = refl
short_in n name (row ∷ rows) short long = go (short_in n name rows short) (nat_le n (length row.0)) refl long
  where
    go : (all_long_rows n rows ≡ true → tag_in name rows ≡ tags.Other) → (t : Bool) → nat_le n (length row.0) ≡ t → (t && all_long_rows n rows) ≡ true
        → (if str_eq_ignore_ascii_case name row.0 then row.1 else tag_in name rows) ≡ tags.Other
    go others true is h =
        let least : n ≤ length row.0 = grind (arith, nat_tests) in
        ap (λ b. if b then row.1 else tag_in name rows) (other_word name row.0 (λ e. absurd (omega (arith, least, short)))) ∙ others h
    go others false is h = absurd (cc)

pub short_other : (name : List ℕ) → length name < 4 → tag_named name ≡ tags.Other
short_other name short = short_in 4 name tag_table short refl
