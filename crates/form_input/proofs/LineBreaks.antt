-- The first line of a text.
use Rattle.std.proofs.Common.{◌≡◌, ℕ, ◌+◌, ◌<◌, List, [], ◌∷◌, length, take, drop, refl, sym, ap, ◌∙◌, Bool, true, false, eqb, nat_eq, arith, add-one}
use Rattle.std.proofs.Math.Numerals.{one-add}
use Rattle.std.specs.List.{position_or_len, before_first, after_first}
use Rattle.form_input.specs.Lines.{lines_of, onto_first}

abbrev pub breaks : ℕ → Bool
breaks b = nat_eq b 10

-- the first line ends at the first line feed
pub first_line-break : (bs : List ℕ) → position_or_len breaks bs < length bs
    → lines_of bs ≡ take (position_or_len breaks bs) bs ∷ lines_of (drop (position_or_len breaks bs + 1) bs)
unfolding lines_of
first_line-break [] h = absurd (omega arith)
first_line-break (b ∷ bs) h = first_cons b bs (breaks b) refl (first_line-break bs) h
  where
    first_cons : (b : ℕ) (bs : List ℕ) (v : Bool) → breaks b ≡ v
        → (position_or_len breaks bs < length bs → lines_of bs ≡ take (position_or_len breaks bs) bs ∷ lines_of (drop (position_or_len breaks bs + 1) bs))
        → position_or_len breaks (b ∷ bs) < length (b ∷ bs)
        → lines_of (b ∷ bs) ≡ take (position_or_len breaks (b ∷ bs)) (b ∷ bs) ∷ lines_of (drop (position_or_len breaks (b ∷ bs) + 1) (b ∷ bs))
    first_cons b bs true e ih h = simp e
    first_cons b bs false e ih h =
        let n = simp e at h in
        let below : position_or_len breaks bs < length bs = omega (arith, n) in
        let rest = simp add-one at (ih below) in
        simp (e, one-add, add-one) (ap (onto_first b) rest)

-- without a line feed all is one line
pub first_line-whole : (b : ℕ) (bs : List ℕ) → position_or_len breaks (b ∷ bs) ≡ length (b ∷ bs) → lines_of (b ∷ bs) ≡ (b ∷ bs) ∷ []
unfolding lines_of
first_line-whole b [] h = whole_cons b (breaks b) refl h
  where
    whole_cons : (b : ℕ) (v : Bool) → breaks b ≡ v → position_or_len breaks (b ∷ []) ≡ 1 → lines_of (b ∷ []) ≡ (b ∷ []) ∷ []
    whole_cons b true e h = let n = simp e at h in absurd (omega (arith, n))
    whole_cons b false e h = simp e
first_line-whole b (c ∷ bs) h = more_cons b c bs (breaks b) refl (first_line-whole c bs) h
  where
    more_cons : (b c : ℕ) (bs : List ℕ) (v : Bool) → breaks b ≡ v
        → (position_or_len breaks (c ∷ bs) ≡ length (c ∷ bs) → lines_of (c ∷ bs) ≡ (c ∷ bs) ∷ [])
        → position_or_len breaks (b ∷ c ∷ bs) ≡ length (b ∷ c ∷ bs)
        → lines_of (b ∷ c ∷ bs) ≡ (b ∷ c ∷ bs) ∷ []
    more_cons b c bs true e ih h = let n = simp e at h in absurd (omega (arith, n))
    more_cons b c bs false e ih h =
        let n = simp e at h in
        let same : position_or_len breaks (c ∷ bs) ≡ length (c ∷ bs) = omega (arith, n) in
        simp e (ap (onto_first b) (ih same))

-- what a split at the first line feed gives
pub lines_of-split : (text line rest : List ℕ)
    → (line ≡ before_first breaks text) × (rest ≡ after_first breaks text) × (position_or_len breaks text < length text)
    → lines_of text ≡ line ∷ lines_of rest
lines_of-split text line rest h = first_line-break text h.2 ∙ ap (λ l. l ∷ lines_of (after_first breaks text)) (sym h.0) ∙ ap (λ r. line ∷ lines_of r) (sym h.1)

-- what no split gives
pub lines_of-no_split : (text : List ℕ) → eqb (length text) 0 ≡ false → position_or_len breaks text ≡ length text
    → lines_of text ≡ text ∷ lines_of []
unfolding lines_of
lines_of-no_split [] e h = cc
lines_of-no_split (b ∷ bs) e h = first_line-whole b bs h
