-- The words of a text, one after another, and how they are written.
use Rattle.std.proofs.Common.{◌≡◌, ℕ, ◌<◌, ◌≤◌, true, false, cond, List, [], ◌∷◌, ◌++◌, length, get_or, inl, inr, refl, sym, ap, ◌∙◌, arith, subst, append_assoc, append-nil}
use Rattle.std.proofs.Math.Utf8.{encode}
use Rattle.std.specs.Char.{is_ascii_whitespace}
use Rattle.std.specs.List.{All, AllPass, flat_map, join_with_byte}
use Rattle.std.specs.Str.{NoCharPasses, NonePass, encode_utf8_all}
use Rattle.std.proofs.lemmas.Bool.{cases_lt}
use Rattle.std.proofs.lemmas.Bool.Decides.{nat_tests}
use Rattle.std.proofs.lemmas.List.Elements.{All-head, All-tail, All-nil, All-append, All-from_get_or}
use Rattle.std.proofs.lemmas.List.Splits.{slice_split_none, slice_split_at}
use Rattle.std.proofs.lemmas.Str.{inside_one}
use Rattle.form_text.specs.Whitespace.{words, is_not_empty, written_word}

-- whitespace before the words is no word
pub words_behind : (gap text : List ℕ) → AllPass is_ascii_whitespace gap → words (gap ++ text) ≡ words text
words_behind [] text all = refl
words_behind (b ∷ gap) text all =
    let here = All-head (λ b. is_ascii_whitespace b ≡ true) b gap all in
    rw here (words_behind gap text (All-tail (λ b. is_ascii_whitespace b ≡ true) b gap all))

-- whitespace alone has no words
pub words_none : (text : List ℕ) → AllPass is_ascii_whitespace text → words text ≡ []
words_none text all = ap words (sym (append-nil text)) ∙ words_behind text [] all

-- a byte of a character that is no whitespace is none
byte_other : (c : ℕ) → is_ascii_whitespace c ≡ false → All (λ b. is_ascii_whitespace b ≡ false) (encode c)
byte_other c other = All-from_get_or (λ b. is_ascii_whitespace b ≡ false) (encode c) 0 (λ k below.
    elim (cases_lt (get_or (encode c) k 0) 128) [
      | inl ascii ↦ rw (← inside_one c [] (encode c) k (sym (append-nil (encode c))) below ascii) other
      | inr high ↦ grind (arith, nat_tests)
    ])

-- so a text without whitespace characters has no whitespace bytes
bytes_other : (cs : List ℕ) → NonePass is_ascii_whitespace cs → All (λ b. is_ascii_whitespace b ≡ false) (encode_utf8_all cs)
bytes_other [] none = All-nil (λ b. is_ascii_whitespace b ≡ false)
bytes_other (c ∷ cs) none = All-append (λ b. is_ascii_whitespace b ≡ false) (encode c) (encode_utf8_all cs) (byte_other c none.0) (bytes_other cs none.1)

pub no_whitespace : (word : List ℕ) → NoCharPasses is_ascii_whitespace word → All (λ b. is_ascii_whitespace b ≡ false) word
no_whitespace word none = subst (All (λ b. is_ascii_whitespace b ≡ false)) none.1 (bytes_other none.0 none.2)

not_empty : (word : List ℕ) → 0 < length word → is_not_empty word ≡ true
not_empty [] some = absurd (omega arith)
not_empty (b ∷ word) some = refl

-- the first word, and those behind the whitespace that ends it
pub words_first : (word sep text : List ℕ) → 0 < length word → All (λ b. is_ascii_whitespace b ≡ false) word → AllPass is_ascii_whitespace sep → length sep ≤ 1 → (length sep ≡ 0 → length text ≡ 0)
    → words (word ++ (sep ++ text)) ≡ word ∷ words text
words_first word [] [] some other spaces short ended =
    rw (append-nil word, slice_split_none is_ascii_whitespace word other, not_empty word some) refl
words_first word [] (b ∷ text) some other spaces short ended = absurd (omega (arith, ended refl))
words_first word (s ∷ []) text some other spaces short ended =
    rw (slice_split_at is_ascii_whitespace word s text other (All-head (λ b. is_ascii_whitespace b ≡ true) s [] spaces), not_empty word some) refl
words_first word (s ∷ t ∷ sep) text some other spaces short ended = absurd (omega arith)

-- one step of the words: whitespace, a word, and the rest
pub words_step : (all gap word sep text : List ℕ) → all ≡ gap ++ (word ++ (sep ++ text)) → AllPass is_ascii_whitespace gap → 0 < length word → NoCharPasses is_ascii_whitespace word
    → AllPass is_ascii_whitespace sep → length sep ≤ 1 → (length sep ≡ 0 → length text ≡ 0) → words all ≡ word ∷ words text
words_step all gap word sep text is gap_spaces some other spaces short ended =
    ap words is ∙ words_behind gap (word ++ (sep ++ text)) gap_spaces ∙ words_first word sep text some (no_whitespace word other) spaces short ended

-- the words with a space before each where something is written already
abbrev pub written : List ℕ → List (List ℕ) → List ℕ
written out ws = cond (is_not_empty out) (out ++ flat_map (λ w. 32 ∷ w) ws) (join_with_byte 32 ws)

-- words with a space between each two
joined : (word : List ℕ) (ws : List (List ℕ)) → join_with_byte 32 (word ∷ ws) ≡ word ++ flat_map (λ w. 32 ∷ w) ws
joined word [] = sym (append-nil word)
joined word (w ∷ ws) = ap (λ rest. word ++ (32 ∷ rest)) (joined w ws)

-- one more word is written
pub written_more : (out word : List ℕ) (ws : List (List ℕ)) → 0 < length word → written (written_word out word) ws ≡ written out (word ∷ ws)
written_more [] [] ws some = absurd (omega arith)
written_more [] (b ∷ word) ws some = sym (joined (b ∷ word) ws)
written_more (b ∷ out) word ws some = append_assoc ((b ∷ out) ++ 32 ∷ []) word _ ∙ append_assoc (b ∷ out) (32 ∷ []) _

-- all are written
pub written_all : (out : List ℕ) → written out [] ≡ out
written_all [] = refl
written_all (b ∷ out) = append-nil (b ∷ out)
