-- A text is written anew line by line: its first line, the line end, and what stands behind that.
use Rattle.std.proofs.Common.{◌≡◌, ◌≢◌, ℕ, zero, suc, ◌+◌, ◌<◌, Bool, true, false, cond, eqb, List, [], ◌∷◌, ◌++◌, length, take, drop, get_or, Some, None, inl, inr, refl, sym, ap, ◌∙◌, arith, add-one}
use Rattle.std.specs.List.{flat_map, position}
use Rattle.std.proofs.lemmas.Bool.{eqb-true, cases_Bool, or_parts}
use Rattle.std.proofs.lemmas.Bool.Decides.{nat_tests}
use Rattle.std.proofs.lemmas.List.Quantifiers.{position-Some}
use Rattle.form_text.proofs.PlaceLaws.{position-cons, zero_hit, suc_miss, none_miss}
use Rattle.form_text.specs.LineEnds.{is_newline, without_newlines, begins_with_lf, with_lf, with_line_ends, behind_newline}

-- a byte that is no newline stays
kept : (end : List ℕ) (b : ℕ) (rest : List ℕ) → is_newline b ≡ false → with_line_ends end (b ∷ rest) ≡ b ∷ with_line_ends end rest
kept end b rest other = let parts = or_parts (eqb b 10) (eqb b 13) other in simp (parts.0, parts.1)

-- a CR becomes `end`, with the LF that follows it
ended_cr : (end : List ℕ) (b : ℕ) (rest : List ℕ) → eqb b 13 ≡ true → with_line_ends end (b ∷ rest) ≡ end ++ with_line_ends end (behind_newline b rest)
ended_cr end b [] cr = simp cr
ended_cr end b (x ∷ xs) cr = elim (cases_Bool (eqb x 10)) [
  | inl lf ↦ let other : eqb x 13 ≡ false = grind (arith, nat_tests) in simp (cr, lf, other)
  | inr other ↦ simp (cr, other)
]

-- a line end becomes `end`
ended : (end : List ℕ) (b : ℕ) (rest : List ℕ) → is_newline b ≡ true → with_line_ends end (b ∷ rest) ≡ end ++ with_line_ends end (behind_newline b rest)
ended end b rest newline = elim (cases_Bool (eqb b 13)) [
  | inl cr ↦ ended_cr end b rest cr
  | inr other ↦ let lf : eqb b 10 ≡ true = grind (arith, nat_tests) in simp (other, lf)
]

-- a text without newlines stays
pub no_line_end : (end text : List ℕ) → position is_newline text ≡ None → with_line_ends end text ≡ text
no_line_end end [] none = refl
no_line_end end (b ∷ text) none =
    let miss = none_miss _ _ (sym (position-cons is_newline b text) ∙ none) in
    kept end b text miss.0 ∙ ap (λ rest. b ∷ rest) (no_line_end end text miss.1)

first_line_suc : (end text : List ℕ) (at : ℕ) → position is_newline text ≡ Some at → with_line_ends end text ≡ take at text ++ (end ++ with_line_ends end (behind_newline (get_or text at 0) (drop (suc at) text)))
first_line_suc end [] at found = grind arith
first_line_suc end (b ∷ text) zero found = ended end b text (zero_hit _ _ (sym (position-cons is_newline b text) ∙ found))
first_line_suc end (b ∷ text) (suc at) found =
    let miss = suc_miss _ _ _ (sym (position-cons is_newline b text) ∙ found) in
    kept end b text miss.0 ∙ ap (λ rest. b ∷ rest) (first_line_suc end text at miss.1)

-- the text up to its first newline, the line end, and the rest
pub first_line : (end text : List ℕ) (at : ℕ) → position is_newline text ≡ Some at → with_line_ends end text ≡ take at text ++ (end ++ with_line_ends end (behind_newline (get_or text at 0) (drop (at + 1) text)))
first_line end text at found = rw (add-one) (first_line_suc end text at found)

-- the newline that was found is an ASCII byte of the text
pub newline_here : (text : List ℕ) (at : ℕ) → position is_newline text ≡ Some at → (at < length text) × (get_or text at 0 < 128)
newline_here text at found =
    let here = position-Some is_newline text at 0 found in
    let newline : is_newline (get_or text at 0) ≡ true = here.1 in
    (here.0, grind (arith, nat_tests))

-- with nothing for each line end a text has no newlines
pub ends_removed : (text : List ℕ) → with_line_ends [] text ≡ without_newlines text
ends_removed [] = refl
ends_removed (b ∷ rest) = go (eqb b 13) refl (eqb b 10) refl (begins_with_lf rest) refl (ends_removed rest)
  where
    go : (cr : Bool) → eqb b 13 ≡ cr → (lf : Bool) → eqb b 10 ≡ lf → (follows : Bool) → begins_with_lf rest ≡ follows → with_line_ends [] rest ≡ without_newlines rest → with_line_ends [] (b ∷ rest) ≡ without_newlines (b ∷ rest)
    go true cr true lf true follows before = simp (cr, lf, follows) before
    go true cr true lf false follows before = simp (cr, lf, follows) before
    go true cr false lf true follows before = simp (cr, lf, follows) before
    go true cr false lf false follows before = simp (cr, lf, follows) before
    go false cr true lf follows _ before = simp (cr, lf) before
    go false cr false lf follows _ before = simp (cr, lf) (ap (λ text. b ∷ text) before)

-- with LF for each line end a text is normalised
pub ends_lf : (text : List ℕ) → with_line_ends (10 ∷ []) text ≡ with_lf text
ends_lf text = same (with_lf text)
  where
    one : (b : ℕ) (t : Bool) → eqb b 10 ≡ t → (ys zs : List ℕ) → ys ≡ zs → cond t (10 ∷ []) (b ∷ []) ++ ys ≡ b ∷ zs
    one b true is ys zs e = rw (eqb-true b 10 is, e) refl
    one b false is ys zs e = rw e refl

    same : (ys : List ℕ) → flat_map (λ b. cond (eqb b 10) (10 ∷ []) (b ∷ [])) ys ≡ ys
    same [] = refl
    same (b ∷ ys) = one b (eqb b 10) refl _ ys (same ys)

-- behind a CR that no LF follows
pub behind_other : (newline : ℕ) (rest : List ℕ) → newline ≡ 13 → ((behind : List ℕ) → rest ≢ 10 ∷ behind) → rest ≡ behind_newline newline rest
behind_other newline [] cr other = rw cr refl
behind_other newline (b ∷ rest) cr other = elim (cases_Bool (eqb b 10)) [
  | inl lf ↦ absurd (other rest (ap (λ c. c ∷ rest) (eqb-true b 10 lf)))
  | inr no_lf ↦ simp (cr, no_lf)
]
