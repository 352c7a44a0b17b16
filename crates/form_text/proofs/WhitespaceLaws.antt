-- What stripping leaves is stripped, and has no newline where the text had none.
use Rattle.std.proofs.Common.{◌≡◌, ℕ, zero, suc, ◌+◌, ◌-◌, ◌<◌, Bool, true, false, not, cond, List, [], ◌∷◌, length, take, drop, get_or, reverse, inl, inr, refl, sym, ap, ◌∙◌, subst, arith}
use Rattle.std.specs.Char.{is_ascii_whitespace}
use Rattle.std.specs.List.{All, filter, prefix_len, suffix_len}
use Rattle.std.proofs.lemmas.Bool.{cases_lt}
use Rattle.std.proofs.lemmas.List.{get_or-reverse, length-reverse, take_all}
use Rattle.std.proofs.lemmas.List.Elements.{All-head, All-tail, All-take, All-drop, filter_passes}
use Rattle.std.proofs.lemmas.List.Sums.{prefix_len-drop_no, prefix_len-drop_all, prefix_len_stops, suffix_len-take_no}
use Rattle.form_text.specs.LineEnds.{is_newline, without_newlines}
use Rattle.form_text.specs.Whitespace.{without_leading_whitespace, without_trailing_whitespace, stripped}

-- a filter that every element passes leaves the list
pub filter_all : {X : Type 0} (p : X → Bool) (xs : List X) → All (λ x. p x ≡ true) xs → filter p xs ≡ xs
filter_all p [] all = refl
filter_all p (x ∷ xs) all = rw (All-head (λ x. p x ≡ true) x xs all) (ap (λ ys. x ∷ ys) (filter_all p xs (All-tail (λ x. p x ≡ true) x xs all)))

-- a text without newlines has none
pub without_newlines_again : (text : List ℕ) → without_newlines (without_newlines text) ≡ without_newlines text
without_newlines_again text = filter_all (λ b. not (is_newline b)) _ (filter_passes (λ b. not (is_newline b)) text)

-- stripping keeps a text without newlines
pub stripped_keeps_none : (text : List ℕ) → without_newlines text ≡ text → without_newlines (stripped text) ≡ stripped text
stripped_keeps_none text none =
    let kept = λ (b : ℕ). not (is_newline b) in
    let all : All (λ b. kept b ≡ true) text = subst (All (λ b. kept b ≡ true)) none (filter_passes kept text) in
    filter_all kept _ (All-take (λ b. kept b ≡ true) _ _ (All-drop (λ b. kept b ≡ true) _ text all))

-- nothing leads what is left
leading_none : (text : List ℕ) → prefix_len is_ascii_whitespace (without_leading_whitespace text) ≡ 0
leading_none text = elim (cases_lt (prefix_len is_ascii_whitespace text) (length text)) [
  | inl below ↦ prefix_len-drop_no is_ascii_whitespace text _ 0 below (prefix_len_stops is_ascii_whitespace text 0 below)
  | inr past ↦ prefix_len-drop_all is_ascii_whitespace text _ past
]

-- nothing trails what is left
trailing_none : (text : List ℕ) → suffix_len is_ascii_whitespace (without_trailing_whitespace text) ≡ 0
trailing_none text =
    let n = length text - suffix_len is_ascii_whitespace text in
    elim (cases_lt (suffix_len is_ascii_whitespace text) (length text)) [
      | inl below ↦
          let inside : suffix_len is_ascii_whitespace text < length (reverse text) = rw (length-reverse text) below in
          let stops = prefix_len_stops is_ascii_whitespace (reverse text) 0 inside in
          let here : get_or (reverse text) (suffix_len is_ascii_whitespace text) 0 ≡ get_or text (n - 1) 0 =
          (let same : length text - 1 - suffix_len is_ascii_whitespace text ≡ n - 1 = omega arith in
          get_or-reverse text _ 0 below ∙ ap (λ i. get_or text i 0) same) in
          suffix_len-take_no is_ascii_whitespace text n 0 (omega arith) (omega arith) (rw (sym here) stops)
      | inr past ↦ let none : n ≡ 0 = omega arith in ap (λ i. suffix_len is_ascii_whitespace (take i text)) none
    ]

-- a front of a text leads with no more whitespace than the text
leading_front : (text : List ℕ) (n : ℕ) → prefix_len is_ascii_whitespace text ≡ 0 → prefix_len is_ascii_whitespace (take n text) ≡ 0
leading_front [] zero none = refl
leading_front [] (suc n) none = refl
leading_front (b ∷ text) zero none = refl
leading_front (b ∷ text) (suc n) none = first (is_ascii_whitespace b) _ _ none
  where
    first : (t : Bool) (m k : ℕ) → cond t (1 + m) 0 ≡ 0 → cond t (1 + k) 0 ≡ 0
    first true m k none = absurd (omega arith)
    first false m k none = refl

-- a stripped text is stripped
pub stripped_again : (text : List ℕ) → stripped (stripped text) ≡ stripped text
stripped_again text =
    let front = leading_front (without_leading_whitespace text) (length (without_leading_whitespace text) - suffix_len is_ascii_whitespace (without_leading_whitespace text)) (leading_none text) in
    let back = trailing_none (without_leading_whitespace text) in
    let led : without_leading_whitespace (stripped text) ≡ stripped text = ap (λ i. drop i (stripped text)) front in
    ap without_trailing_whitespace led ∙ ap (λ i. take (length (stripped text) - i) (stripped text)) back ∙ take_all _ (stripped text) (omega arith)
