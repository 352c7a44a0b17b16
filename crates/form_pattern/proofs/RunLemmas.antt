-- From the end of a text to its front, a character at a time.
use Rattle.std.proofs.Common.{inl, inr, ◌≡◌, ℕ, suc, ◌≤◌, Bool, true, false, List, [], ◌∷◌, ◌++◌, length, nat_eq, slice_get, Option, Some, None, refl, sym, ap, ◌∙◌, subst, arith, append_assoc, append-nil, add-one, ◌+◌, ◌==◌, IsUtf8, encode_utf8}
use Rattle.std.specs.Str.{chars}
use Rattle.std.specs.Char.{IsScalar}
use Rattle.std.proofs.lemmas.Str.{chars-nil, encodes-chars, length-le-encodes, chars-append, chars_from_encodes, IsUtf8-encode}
use Rattle.std.proofs.lemmas.Bool.Decides.{nat_tests}
use lib.Utf8.{encodes}
use Rattle.std.proofs.lemmas.List.{length-append}
use Rattle.std.proofs.lemmas.Option.{slice_get_past}
use Rattle.form_pattern.specs.Pieces.{Tree}
use Rattle.form_pattern.specs.Matching.{Matches}
use Rattle.form_pattern.specs.Steps.{bare, goes, see, step}
use Rattle.form_pattern.proofs.TellLemmas.{Tells, tells_map, tells_no, tells_yes}
use Rattle.form_pattern.proofs.WayLemmas.{Back, forward, goes_tells}
use Rattle.form_pattern.proofs.NoteLemmas.{Right, Ready, stepped, shape_kept}

abbrev pub Whole : List ℕ → ℕ → Type 0
Whole s j = j ≡ length s

module _ (has : ℕ → ℕ → Bool) where
  -- the notes and the answer, when the characters behind `front` are read; `end` says that there are none
  pub record Stands (s : List ℕ) (shape : Tree) (front : List ℕ) (t : Tree) (answer end : Bool) : Type 0 where
    pub back : List ℕ
    pub parts : s ≡ front ++ back
    pub same : bare t ≡ shape
    pub right : Right has s (Whole s) (length front) t
    pub tells : Tells answer (Back (Matches has s shape) (Whole s) (length front))
    pub ends : Tells end (Whole s (length front))

  -- one place
  at_place : (s : List ℕ) (shape : Tree) (i : ℕ) (here : Option ℕ) (t : Tree) (k end : Bool) → i ≤ length s → slice_get s i ≡ here → bare t ≡ shape → Ready has s (Whole s) i k t → Tells end (Whole s i) →
      Right has s (Whole s) i (step has (nat_eq i 0) here k t) × Tells (goes (see has (nat_eq i 0) here k t) end) (Back (Matches has s shape) (Whole s) i)
  at_place s shape i here t k end within is same ready tells =
      let v = stepped has s i within t (Whole s) k ready in
      let way = goes_tells (Matches has s (bare t)) (forward has s (bare t)) (Whole s) i (see has (nat_eq i 0) (slice_get s i) k t) end v.0 tells in
      (subst (λ h. Right has s (Whole s) i (step has (nat_eq i 0) h k t)) is v.1, subst (λ h. Tells (goes (see has (nat_eq i 0) h k t) end) (Back (Matches has s shape) (Whole s) i)) is (subst (λ sh. Tells (goes (see has (nat_eq i 0) (slice_get s i) k t) end) (Back (Matches has s sh) (Whole s) i)) same way))

  get_behind : (front back : List ℕ) (c : ℕ) → slice_get (front ++ c ∷ back) (length front) ≡ Some c
  get_behind [] back c = refl
  get_behind (x ∷ front) back c = get_behind front back c

  -- behind the last character, whatever was noted before
  pub stands_first : (s : List ℕ) (t : Tree) → Stands s (bare t) s (step has (nat_eq (length s) 0) None false t) (goes (see has (nat_eq (length s) 0) None false t) true) true
  stands_first s t =
      let nothing = slice_get_past s (length s) (omega arith) in
      let place = at_place s (bare t) (length s) None t false true (omega arith) nothing refl (inl nothing) (tells_yes refl) in
      record { back = []; parts = sym (append-nil s); same = shape_kept has (nat_eq (length s) 0) None false t; right = place.0; tells = place.1; ends = tells_yes refl }

  pub stands_next : (s : List ℕ) (shape : Tree) (front : List ℕ) (c : ℕ) (t : Tree) (answer end : Bool) → Stands s shape (front ++ c ∷ []) t answer end → Stands s shape front (step has (nat_eq (length front) 0) (Some c) end t) (goes (see has (nat_eq (length front) 0) (Some c) end t) false) false
  stands_next s shape front c t answer end st =
      let split : s ≡ front ++ c ∷ st.back = st.parts ∙ append_assoc front (c ∷ []) st.back in
      let long : length s ≡ length front + suc (length st.back) = rw split (length-append front (c ∷ st.back)) in
      let here : slice_get s (length front) ≡ Some c = rw split (get_behind front st.back c) in
      let up : length (front ++ c ∷ []) ≡ suc (length front) = length-append front (c ∷ []) ∙ add-one (length front) in
      let right : Right has s (Whole s) (suc (length front)) t = subst (λ i. Right has s (Whole s) i t) up st.right in
      let ends : Tells end (Whole s (suc (length front))) = subst (λ i. Tells end (Whole s i)) up st.ends in
      let place = at_place s shape (length front) (Some c) t end false (omega arith) here st.same (inr (omega arith, right, ends)) (tells_no (λ e. omega arith)) in
      record { back = c ∷ st.back; parts = split; same = shape_kept has (nat_eq (length front) 0) (Some c) end t ∙ st.same; right = place.0; tells = place.1; ends = tells_no (λ e. omega arith) }

  pub stands_last : (s : List ℕ) (shape : Tree) (t : Tree) (answer end : Bool) → Stands s shape [] t answer end → Tells answer (Matches has s shape 0 (length s))
  stands_last s shape t answer end st = tells_map st.tells (λ b. subst (Matches has s shape 0) b.2 b.1) (λ m. (length s, m, refl))

-- the bytes and the characters of a text are empty together
pub empty_same : (bs : List ℕ) → IsUtf8 bs → (length bs == 0) ≡ nat_eq (length (chars bs)) 0
empty_same bs u = go (chars bs) (encodes-chars bs u)
  where
    go : (cs : List ℕ) → encodes cs ≡ bs → (length bs == 0) ≡ nat_eq (length cs) 0
    go [] e = rw (← e) refl
    go (c ∷ cs) e = let long = length-le-encodes (c ∷ cs) in let same = ap length e in grind (arith, nat_tests)

pub last_char : (xs bs : List ℕ) (c : ℕ) → IsUtf8 xs → IsScalar c → bs ≡ xs ++ encode_utf8 c → chars bs ≡ chars xs ++ c ∷ []
last_char xs bs c u sc e = ap chars e ∙ chars-append xs (encode_utf8 c) u ∙ ap (λ ys. chars xs ++ ys) (sym (chars_from_encodes (c ∷ []) (encode_utf8 c) (IsUtf8-encode c sc) (append-nil (encode_utf8 c))))

pub nil_chars : (bs : List ℕ) → length bs ≡ 0 → chars bs ≡ []
nil_chars [] e = chars-nil
nil_chars (b ∷ bs) e = absurd (omega arith)
