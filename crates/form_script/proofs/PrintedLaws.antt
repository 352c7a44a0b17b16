-- Words that are added one by one stand separated.
use Rattle.std.proofs.Common.{◌≡◌, ℕ, ◌<◌, Bool, true, false, List, [], ◌∷◌, ◌++◌, length, length-append, refl, sym, ap, ◌∙◌, arith, append_assoc, append-nil, if◌then◌else◌, ◌==◌}
use Rattle.std.specs.List.{AllByRecursion, flat_map}
use Rattle.std.proofs.lemmas.Bool.Decides.{nat_tests}
use Rattle.form_judge.specs.declared.flags.Flags.{Flags}
use Rattle.form_script.specs.Adding.{dashed, with_word, with_words}
use Rattle.form_script.specs.Printed.{flag_table, flag_words, holding, separated, words_or_dash}

abbrev pub Row : Type 0
Row = Bool × List ℕ

-- each word has a byte
abbrev pub HaveWords : List Row → Type 0
HaveWords table = AllByRecursion (λ row. 0 < length row.1) table

abbrev behind_comma : List ℕ → List ℕ
behind_comma word = 44 ∷ word

separated_more : (word : List ℕ) (words : List (List ℕ)) → word ++ flat_map behind_comma words ≡ separated 44 (word ∷ words)
separated_more word [] = append-nil word
separated_more word (next ∷ words) = ap (λ x. word ++ (44 ∷ x)) (separated_more next words)

-- a word behind others
word_added : (word words : List ℕ) → 0 < length words → with_word true word words ≡ words ++ (44 ∷ word)
word_added word words some = go (length words == 0) refl
  where
    go : (t : Bool) → length words == 0 ≡ t → (if t then words ++ word else (words ++ (44 ∷ [])) ++ word) ≡ words ++ (44 ∷ word)
    go true e = absurd (grind (arith, nat_tests))
    go false e = append_assoc words (44 ∷ []) word

added_behind : (table : List Row) (words : List ℕ) → 0 < length words → with_words table words ≡ words ++ flat_map behind_comma (holding table)
added_behind [] words some = sym (append-nil words)
added_behind (row ∷ table) words some = go row.0 refl (added_behind table)
  where
    go : (t : Bool) → row.0 ≡ t → ((ws : List ℕ) → 0 < length ws → with_words table ws ≡ ws ++ flat_map behind_comma (holding table))
        → with_words table (with_word row.0 row.1 words) ≡ words ++ flat_map behind_comma (holding (row ∷ table))
    go true e again =
        let longer : 0 < length (words ++ (44 ∷ row.1)) = omega (arith, length-append words (44 ∷ row.1)) in
        rw e (ap (with_words table) (word_added row.1 words some) ∙ again (words ++ (44 ∷ row.1)) longer ∙ append_assoc words (44 ∷ row.1) (flat_map behind_comma (holding table)))
    go false e again = rw e (again words some)

added : (table : List Row) → HaveWords table → with_words table [] ≡ separated 44 (holding table)
added [] have = refl
added (row ∷ table) have = go row.0 refl (added table have.1)
  where
    go : (t : Bool) → row.0 ≡ t → with_words table [] ≡ separated 44 (holding table) → with_words table (with_word row.0 row.1 []) ≡ separated 44 (holding (row ∷ table))
    go true e again = rw e (added_behind table row.1 have.0 ∙ separated_more row.1 (holding table))
    go false e again = rw e again

separated_some : (word : List ℕ) (words : List (List ℕ)) → 0 < length word → 0 < length (separated 44 (word ∷ words))
separated_some word [] some = some
separated_some word (next ∷ words) some = omega (arith, length-append word (44 ∷ separated 44 (next ∷ words)))

not_dashed : (words : List ℕ) → 0 < length words → dashed words ≡ words
not_dashed words some = go (length words == 0) refl
  where
    go : (t : Bool) → length words == 0 ≡ t → (if t then words ++ (45 ∷ []) else words) ≡ words
    go true e = absurd (grind (arith, nat_tests))
    go false e = refl

dash : (table : List Row) → HaveWords table → dashed (separated 44 (holding table)) ≡ words_or_dash (holding table)
dash [] have = refl
dash (row ∷ table) have = go row.0 refl (dash table have.1)
  where
    go : (t : Bool) → row.0 ≡ t → dashed (separated 44 (holding table)) ≡ words_or_dash (holding table) → dashed (separated 44 (holding (row ∷ table))) ≡ words_or_dash (holding (row ∷ table))
    go true e again = rw e (not_dashed (separated 44 (row.1 ∷ holding table)) (separated_some row.1 (holding table) have.0))
    go false e again = rw e again

some_words : (flags : Flags) → HaveWords (flag_table flags)
some_words flags = (omega arith, (omega arith, (omega arith, (omega arith, (omega arith, (omega arith, (omega arith, (omega arith, (omega arith, (omega arith, tt))))))))))

-- the words of the flags that hold, or a dash
pub flags_added : (flags : Flags) → dashed (with_words (flag_table flags) []) ≡ flag_words flags
flags_added flags = ap dashed (added (flag_table flags) (some_words flags)) ∙ dash (flag_table flags) (some_words flags)
