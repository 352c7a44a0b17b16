-- The delimiter of a boundary in bytes that were fed in two pieces, and the last bytes of both.
use Rattle.std.proofs.Math.Seq.{drop-append-add, take-append_seam}
use Rattle.std.specs.List.{copy_within}
use Rattle.std.proofs.Common.{◌≡◌, ℕ, ◌+◌, ◌-◌, ◌<◌, ◌≤◌, nat_lt, Bool, true, false, ◌||◌, List, [], ◌++◌, length, take, drop, get_or, min, refl, sym, ap, ◌∙◌, subst, arith}
use Rattle.std.proofs.Common.{length-append, length-drop, length-take-le, take-append-drop, append_assoc}
use Rattle.std.proofs.lemmas.Bool.{false≢true, ltb-true, ltb-false}
use Rattle.std.proofs.lemmas.List.{drop-take, get_or_append_left, get_or-append-add, append-nil, length-take, take_min}
use Rattle.memchr.specs.Find.{OccursAt}
use Rattle.form_encode.specs.Boundaries.{delimiter, has_delimiter, longest_boundary, occurs_below}
use Rattle.form_encode.specs.Scanning.{last_bytes, overlap}
use Rattle.form_encode.proofs.ScanLaws.{below_at, below_some, or_left, or_right, same_truth}

or_either : {P : Type 0} (x y : Bool) → (x || y) ≡ true → (x ≡ true → P) → (y ≡ true → P) → P
or_either true y h f g = f refl
or_either false y h f g = g h

-- ---- a part of the bytes

module _ (xs ys zs needle : List ℕ) where
  -- what stands in a part stands in the whole
  within : (k : ℕ) → OccursAt ys needle k → OccursAt (xs ++ (ys ++ zs)) needle (length xs + k)
  within k h = record {
    fits = omega (arith, h.fits, length-append xs (ys ++ zs), length-append ys zs);
    reads = λ j l.
        let at : length xs + k + j ≡ length xs + (k + j) = omega arith in
        ap (λ n. get_or (xs ++ (ys ++ zs)) n 0) at ∙ get_or-append-add xs (ys ++ zs) (k + j) 0
        ∙ get_or_append_left ys zs 0 (k + j) (omega (arith, l, h.fits)) ∙ h.reads j l;
  }

  -- and back, where it begins and ends in the part
  back_within : (k : ℕ) → k + length needle ≤ length ys → OccursAt (xs ++ (ys ++ zs)) needle (length xs + k) → OccursAt ys needle k
  back_within k fits h = record {
    fits = fits;
    reads = λ j l.
        let at : length xs + k + j ≡ length xs + (k + j) = omega arith in
        sym (get_or_append_left ys zs 0 (k + j) (omega (arith, l, fits))) ∙ sym (get_or-append-add xs (ys ++ zs) (k + j) 0)
        ∙ ap (λ n. get_or (xs ++ (ys ++ zs)) n 0) (sym at) ∙ h.reads j l;
  }

  -- a delimiter of the part is one of the whole
  part_whole : (whole : List ℕ) → whole ≡ xs ++ (ys ++ zs) → occurs_below ys needle (length ys + 1) ≡ true → occurs_below whole needle (length whole + 1) ≡ true
  part_whole whole is h =
      let r = below_some ys needle (length ys + 1) h in
      let size : length whole ≡ length xs + (length ys + length zs) = ap length is ∙ length-append xs (ys ++ zs) ∙ ap (λ n. length xs + n) (length-append ys zs) in
      below_at whole needle (length whole + 1) (length xs + r.0) (omega (arith, r.1, size))
      (subst (λ all. OccursAt all needle (length xs + r.0)) (sym is) (within r.0 r.2))

-- ---- two pieces

module _ (first second boundary : List ℕ) (short : length boundary ≤ longest_boundary) where
  abbrev needle : List ℕ
  needle = delimiter boundary

  abbrev begun : ℕ
  begun = length first - overlap

  abbrev tail : List ℕ
  tail = drop begun first

  abbrev over : List ℕ
  over = tail ++ take overlap second

  of_second : first ++ second ≡ first ++ (second ++ [])
  of_second = ap (λ rest. first ++ rest) (sym (append-nil second))

  of_seam : first ++ second ≡ take begun first ++ (over ++ drop overlap second)
  of_seam =
      ap (λ front. front ++ second) (sym (take-append-drop begun first)) ∙ append_assoc (take begun first) tail second
      ∙ ap (λ rest. take begun first ++ rest)
      (ap (λ rest. tail ++ rest) (sym (take-append-drop overlap second)) ∙ sym (append_assoc tail (take overlap second) (drop overlap second)))

  size : length (first ++ second) ≡ length first + length second
  size = length-append first second

  seam_size : length over ≡ (length first - begun) + min overlap (length second)
  seam_size = length-append tail (take overlap second) ∙ ap (λ n. n + length (take overlap second)) (length-drop begun first) ∙ ap (λ n. (length first - begun) + n) (length-take overlap second)

  front_size : length (take begun first) ≡ begun
  front_size = length-take-le begun first (omega arith)

  in_first : (k : ℕ) → OccursAt (first ++ second) needle k → k + length needle ≤ length first → has_delimiter first boundary ≡ true
  in_first k h fits =
      let at : k ≡ 0 + k = omega arith in
      below_at first needle (length first + 1) k (omega (arith, fits)) (back_within [] first second needle k fits (subst (OccursAt (first ++ second) needle) at h))

  in_second : (k : ℕ) → OccursAt (first ++ second) needle k → length first ≤ k → has_delimiter second boundary ≡ true
  in_second k h low =
      let at : k ≡ length first + (k - length first) = omega (arith, low) in
      below_at second needle (length second + 1) (k - length first) (omega (arith, low, h.fits, size))
      (back_within first second [] needle (k - length first) (omega (arith, low, h.fits, size))
      (subst (λ n. OccursAt (first ++ (second ++ [])) needle n) at (subst (λ all. OccursAt all needle k) of_second h)))

  in_seam : (k : ℕ) → OccursAt (first ++ second) needle k → k < length first → length first < k + length needle → has_delimiter over boundary ≡ true
  in_seam k h below past =
      let low : begun ≤ k = omega (arith, below, past, short) in
      let at : k ≡ length (take begun first) + (k - begun) = omega (arith, low, front_size) in
      let fits : (k - begun) + length needle ≤ length over = omega (arith, low, below, short, h.fits, size, seam_size) in
      below_at over needle (length over + 1) (k - begun) (omega (arith, fits))
      (back_within (take begun first) over (drop overlap second) needle (k - begun) fits
      (subst (λ n. OccursAt (take begun first ++ (over ++ drop overlap second)) needle n) at (subst (λ all. OccursAt all needle k) of_seam h)))

  -- a delimiter stands in the first, over the seam, or in the second
  some : has_delimiter (first ++ second) boundary ≡ true → ((has_delimiter first boundary || has_delimiter over boundary) || has_delimiter second boundary) ≡ true
  some h = go (nat_lt place.0 (length first)) refl
    where
      place : (k : ℕ) × (k < length (first ++ second) + 1) × OccursAt (first ++ second) needle k
      place = below_some (first ++ second) needle (length (first ++ second) + 1) h

      inner : place.0 < length first → (b : Bool) → nat_lt (length first) (place.0 + length needle) ≡ b
          → ((has_delimiter first boundary || has_delimiter over boundary) || has_delimiter second boundary) ≡ true
      inner below true e = or_left _ _ (or_right _ _ (in_seam place.0 place.2 below (ltb-true _ _ e)))
      inner below false e = or_left _ _ (or_left _ _ (in_first place.0 place.2 (ltb-false _ _ e)))

      go : (b : Bool) → nat_lt place.0 (length first) ≡ b → ((has_delimiter first boundary || has_delimiter over boundary) || has_delimiter second boundary) ≡ true
      go true e = inner (ltb-true _ _ e) (nat_lt (length first) (place.0 + length needle)) refl
      go false e = or_right _ _ (in_second place.0 place.2 (ltb-false _ _ e))

  -- and is then one of both together
  back : ((has_delimiter first boundary || has_delimiter over boundary) || has_delimiter second boundary) ≡ true → has_delimiter (first ++ second) boundary ≡ true
  back h = or_either _ _ h (λ front. or_either _ _ front
      (part_whole [] first second needle (first ++ second) refl)
      (part_whole (take begun first) over (drop overlap second) needle (first ++ second) of_seam))
      (part_whole first second [] needle (first ++ second) of_second)

  pub seam : has_delimiter (first ++ second) boundary ≡ ((has_delimiter first boundary || has_delimiter (last_bytes overlap first ++ take overlap second) boundary) || has_delimiter second boundary)
  unfolding last_bytes
  seam = same_truth _ _ some back

-- ---- the last bytes

-- of two pieces: those of the last bytes of the first and of the second
pub last_bytes-more : (most : ℕ) (first second : List ℕ) → last_bytes most (first ++ second) ≡ last_bytes most (last_bytes most first ++ second)
unfolding last_bytes
last_bytes-more most first second =
    let begun : ℕ = length first - most in
    let front : length (take begun first) ≡ begun = length-take-le begun first (omega arith) in
    let whole : first ++ second ≡ take begun first ++ (drop begun first ++ second) =
    ap (λ xs. xs ++ second) (sym (take-append-drop begun first)) ∙ append_assoc (take begun first) (drop begun first) second in
    let kept : length (drop begun first ++ second) ≡ (length first - begun) + length second =
    length-append (drop begun first) second ∙ ap (λ n. n + length second) (length-drop begun first) in
    let at : length (first ++ second) - most ≡ length (take begun first) + (length (drop begun first ++ second) - most) =
    omega (arith, front, kept, length-append first second) in
    ap (λ n. drop n (first ++ second)) at
    ∙ ap (drop (length (take begun first) + (length (drop begun first ++ second) - most))) whole
    ∙ drop-append-add (take begun first) (drop begun first ++ second) (length (drop begun first ++ second) - most)

-- of a long second piece: its own
pub last_bytes-long : (most : ℕ) (first second : List ℕ) → most ≤ length second → last_bytes most (first ++ second) ≡ last_bytes most second
unfolding last_bytes
last_bytes-long most first second long =
    let at : length (first ++ second) - most ≡ length first + (length second - most) = omega (arith, long, length-append first second) in
    ap (λ n. drop n (first ++ second)) at ∙ drop-append-add first second (length second - most)

-- of what was joined in the room, put to its front
pub last_bytes-within : (most joined first count : ℕ) (room new : List ℕ) → joined ≤ length room → first ≡ joined - most → count ≡ joined - first → new ≡ copy_within room first joined 0
    → take count new ≡ last_bytes most (take joined room)
unfolding last_bytes
last_bytes-within most joined first count room new inside from to is =
    let size : length (take joined room) ≡ joined = length-take-le joined room inside in
    let part : length (take (joined - first) (drop first room)) ≡ joined - first =
    length-take-le (joined - first) (drop first room) (omega (arith, inside, length-drop first room)) in
    ap (take count) is ∙ ap (λ n. take n (take (joined - first) (drop first room) ++ drop (0 + (joined - first)) room)) (to ∙ sym part)
    ∙ take-append_seam (take (joined - first) (drop first room)) (drop (0 + (joined - first)) room)
    ∙ sym (drop-take first (joined - first) room) ∙ ap (λ n. drop first (take n room)) (omega (arith, from)) ∙ ap (λ n. drop n (take joined room)) (from ∙ ap (λ n. n - most) (sym size))

-- what stands in the room when the first bytes of a piece are put behind the kept ones
pub joined-front : (room new piece begin : List ℕ) (kept more : ℕ) → more ≡ min (length piece) overlap → begin ≡ take more piece → take (kept + length begin) new ≡ take kept room ++ begin
    → take (kept + more) new ≡ take kept room ++ take overlap piece
joined-front room new piece begin kept more few is put =
    let size : length begin ≡ more = ap length is ∙ length-take more piece ∙ omega (arith, few) in
    let turned : more ≡ min overlap (length piece) = omega (arith, few) in
    ap (λ n. take (kept + n) new) (sym size) ∙ put ∙ ap (λ xs. take kept room ++ xs) (is ∙ ap (λ n. take n piece) turned ∙ take_min overlap piece)
