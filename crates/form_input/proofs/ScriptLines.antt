-- The lines before the one that ends the page.
use Rattle.std.proofs.Common.{◌≡◌, ℕ, ◌⊎◌, ◌<◌, ◌-◌, List, [], ◌∷◌, ◌++◌, true, false, length, take, refl, sym, ap, subst, ◌∙◌, append_assoc, append-nil, length-append, inl, inr, arith}
use Rattle.std.specs.Prelude.{flat_map, IsUtf8}
use Rattle.std.specs.Str.{IsCharBoundary}
use Rattle.std.specs.List.{list_any, before_first, after_first}
use Rattle.std.proofs.lemmas.Grind.{flat_map-append}
use Rattle.std.proofs.lemmas.List.Folds.{list_any-append}
use Rattle.std.proofs.lemmas.Str.{IsCharBoundary-at_seam}
use Rattle.std.proofs.Math.Seq.{take-append_seam}
use Rattle.form_input.specs.Lines.{lines_of, with_end, line_then}
use Rattle.form_input.specs.Input.{is_script_line, page_text, command_lines}
use Rattle.form_input.proofs.FirstPassing.{before-front, after-front, after-none}

-- the lines in front of the rest, of which none ends the page
pub record Passed (text rest : List ℕ) : Type 0 where
  pub front : List (List ℕ)
  pub lines : lines_of text ≡ front ++ lines_of rest
  pub none : list_any is_script_line front ≡ false
  pub bytes : (text ≡ flat_map with_end front ++ rest) ⊎ (rest ≡ [])

pub passed-start : (text : List ℕ) → Passed text text
passed-start text = record { front = []; lines = refl; none = refl; bytes = inl refl }

-- one more line
pub passed-more : (text rest line after : List ℕ) → Passed text rest → lines_of rest ≡ line ∷ lines_of after → is_script_line line ≡ false → (rest ≡ line_then line after) ⊎ (after ≡ []) → length after < length rest → Passed text after
passed-more text rest line after so_far split other spelled shorter = record {
  front = so_far.front ++ line ∷ [];
  lines = so_far.lines ∙ ap (λ ls. so_far.front ++ ls) split ∙ sym (append_assoc so_far.front (line ∷ []) (lines_of after));
  none = list_any-append is_script_line so_far.front (line ∷ []) ∙ simp (so_far.none, other);
  bytes = go so_far.bytes spelled;
}
  where
    go : (text ≡ flat_map with_end so_far.front ++ rest) ⊎ (rest ≡ []) → (rest ≡ line_then line after) ⊎ (after ≡ []) → (text ≡ flat_map with_end (so_far.front ++ line ∷ []) ++ after) ⊎ (after ≡ [])
    go whole (inr nothing) = inr nothing
    go (inr nothing) (inl here) = absurd (omega (arith, shorter, ap length nothing))
    go (inl whole) (inl here) = inl (whole ∙ ap (λ r. flat_map with_end so_far.front ++ r) here
        ∙ ap (λ r. flat_map with_end so_far.front ++ r) (sym (append_assoc line (10 ∷ []) after))
        ∙ sym (append_assoc (flat_map with_end so_far.front) (with_end line) after)
        ∙ ap (λ f. f ++ after) (sym (flat_map-append with_end so_far.front (line ∷ []) ∙ ap (λ l. flat_map with_end so_far.front ++ l) (append-nil (with_end line)))))

-- the text is the lines so far and the rest
seam : (text rest : List ℕ) (n : ℕ) → (so_far : Passed text rest) → n < length rest → text ≡ flat_map with_end so_far.front ++ rest
seam text rest n so_far some = go so_far.bytes
  where
    go : (text ≡ flat_map with_end so_far.front ++ rest) ⊎ (rest ≡ []) → text ≡ flat_map with_end so_far.front ++ rest
    go (inl whole) = whole
    go (inr nothing) = absurd (omega (arith, some, ap length nothing))

front_length : (text front rest : List ℕ) → text ≡ front ++ rest → length text - length rest ≡ length front
front_length text front rest whole = omega (arith, ap length whole, length-append front rest)

-- the text may be cut before the rest
pub cut-before : (text rest : List ℕ) (n : ℕ) → Passed text rest → n < length rest → IsUtf8 rest → IsCharBoundary text (length text - length rest)
cut-before text rest n so_far some utf8 =
    let whole = seam text rest n so_far some in
    subst (IsCharBoundary text) (sym (front_length text (flat_map with_end so_far.front) rest whole))
    (IsCharBoundary-at_seam text (flat_map with_end so_far.front) rest whole utf8)

module _ (text rest line after : List ℕ) (so_far : Passed text rest) (split : lines_of rest ≡ line ∷ lines_of after) (ends : is_script_line line ≡ true) (shorter : length after < length rest) where
  all_lines : lines_of text ≡ so_far.front ++ line ∷ lines_of after
  all_lines = so_far.lines ∙ ap (λ ls. so_far.front ++ ls) split

  -- the page ends before this line
  pub page-found : take (length text - length rest) text ≡ page_text text
  unfolding page_text
  page-found =
      let whole = seam text rest (length after) so_far shorter in
      let there : list_any is_script_line (lines_of text) ≡ true =
      ap (list_any is_script_line) all_lines ∙ list_any-append is_script_line so_far.front (line ∷ lines_of after) ∙ simp (so_far.none, ends) in
      let cut : take (length text - length rest) text ≡ flat_map with_end so_far.front =
      ap (λ n. take n text) (front_length text (flat_map with_end so_far.front) rest whole)
      ∙ ap (take (length (flat_map with_end so_far.front))) whole
      ∙ take-append_seam (flat_map with_end so_far.front) rest in
      let front : before_first is_script_line (lines_of text) ≡ so_far.front =
      ap (before_first is_script_line) all_lines ∙ before-front is_script_line so_far.front line (lines_of after) so_far.none ends in
      cut ∙ sym (simp (there, front))

  -- the commands stand behind this line
  pub commands-found : lines_of after ≡ command_lines text
  unfolding command_lines
  commands-found = sym (ap (after_first is_script_line) all_lines ∙ after-front is_script_line so_far.front line (lines_of after) so_far.none ends)

module _ (text rest : List ℕ) (so_far : Passed text rest) (over : rest ≡ []) where
  no_line : list_any is_script_line (lines_of text) ≡ false
  unfolding lines_of
  no_line =
      let all : lines_of text ≡ so_far.front = so_far.lines ∙ ap (λ r. so_far.front ++ lines_of r) over ∙ append-nil so_far.front in
      ap (list_any is_script_line) all ∙ so_far.none

  -- without such a line all is the page
  pub page-all : text ≡ page_text text
  unfolding page_text
  page-all = sym (simp no_line)

  -- and there is no command
  pub commands-none : lines_of [] ≡ command_lines text
  unfolding command_lines lines_of
  commands-none = sym (after-none is_script_line (lines_of text) no_line)
