-- Where the delimiter of a boundary stands: by runs of dashes, and over two pieces.
use Rattle.std.proofs.Common.{◌≡◌, ◌≢◌, ℕ, zero, suc, ◌+◌, ◌-◌, ◌<◌, ◌≤◌, nat_lt, nat_le, Bool, true, false, ◌||◌, List, [], ◌∷◌, ◌++◌, length, take, drop, get_or, refl, sym, ap, ◌∙◌}
use Rattle.std.proofs.Common.{subst, arith, length-drop, length-take-le, get_or-take, get_or-drop, ext_get_or}
use Rattle.std.proofs.lemmas.Bool.{false≢true, ltb-true, ltb-false, le-leb, leb-true}
use Rattle.std.proofs.lemmas.List.{drop_all, get_or-replicate}
use Rattle.std.specs.Prelude.{replicate}
use Rattle.memchr.specs.Find.{OccursAt, Nowhere, occurs_at}
use Rattle.memchr.proofs.lemmas.MatchLemmas.{occurs_at-true, OccursAt-true}
use Rattle.form_encode.specs.Boundaries.{delimiter, has_delimiter, occurs_below}
use Rattle.form_encode.specs.Scanning.{IsRun, two_dashes}

-- ---- tests

pub or_right : (x y : Bool) → y ≡ true → (x || y) ≡ true
or_right true y e = refl
or_right false y e = e

pub or_left : (x y : Bool) → x ≡ true → (x || y) ≡ true
or_left true y e = refl
or_left false y e = absurd (false≢true e)

-- two tests that hold together are the same
pub same_truth : (a b : Bool) → (a ≡ true → b ≡ true) → (b ≡ true → a ≡ true) → a ≡ b
same_truth true b f g = sym (f refl)
same_truth false true f g = absurd (false≢true (g refl))
same_truth false false f g = refl

-- ---- places below a place

pub below_at : (bytes needle : List ℕ) (n k : ℕ) → k < n → OccursAt bytes needle k → occurs_below bytes needle n ≡ true
unfolding occurs_below
below_at bytes needle zero k l h = absurd (omega (arith, l))
below_at bytes needle (suc n) k l h = go (λ less. below_at bytes needle n k less h) (nat_lt k n) refl
  where
    go : (k < n → occurs_below bytes needle n ≡ true) → (b : Bool) → nat_lt k n ≡ b → (occurs_below bytes needle n || occurs_at bytes needle n) ≡ true
    go below true e = or_left _ _ (below (ltb-true k n e))
    go below false e = let same : k ≡ n = omega (arith, l, ltb-false k n e) in or_right _ _ (subst (λ j. occurs_at bytes needle j ≡ true) same (occurs_at-true bytes needle k h))

pub below_some : (bytes needle : List ℕ) (n : ℕ) → occurs_below bytes needle n ≡ true → (k : ℕ) × (k < n) × OccursAt bytes needle k
unfolding occurs_below
below_some bytes needle zero h = absurd (false≢true h)
below_some bytes needle (suc n) h = go (below_some bytes needle n) (occurs_below bytes needle n) refl h
  where
    go : (occurs_below bytes needle n ≡ true → (k : ℕ) × (k < n) × OccursAt bytes needle k) → (b : Bool) → occurs_below bytes needle n ≡ b → (b || occurs_at bytes needle n) ≡ true
        → (k : ℕ) × (k < suc n) × OccursAt bytes needle k
    go below true e t = let r = below e in (r.0, omega (arith, r.1), r.2)
    go below false e t = (n, omega arith, OccursAt-true bytes needle n t)

-- ---- a run of dashes

-- where a delimiter stands, two dashes stand
delimiter_begins : (bytes boundary : List ℕ) (k : ℕ) → OccursAt bytes (delimiter boundary) k → OccursAt bytes two_dashes k
delimiter_begins bytes boundary k h = record {
  fits = omega (arith, h.fits);
  reads = λ j l. h.reads j (omega arith) ∙ first j l;
}
  where
    first : (j : ℕ) → j < 2 → get_or (delimiter boundary) j 0 ≡ get_or two_dashes j 0
    first zero l = refl
    first (suc zero) l = refl
    first (suc (suc j)) l = absurd (omega (arith, l))

-- the delimiter stands below the end of a run where it stands before the run, or begins in it
pub run_step : (bytes boundary : List ℕ) (from start end : ℕ) (ends : Bool) → IsRun bytes from start end
    → (ends ≡ true → occurs_below bytes (delimiter boundary) end ≡ true)
    → (ends ≡ false → Nowhere (OccursAt bytes (delimiter boundary)) start end)
    → occurs_below bytes (delimiter boundary) end ≡ (occurs_below bytes (delimiter boundary) from || ends)
run_step bytes boundary from start end ends run found nowhere = same_truth _ _ there back
  where
    N : List ℕ
    N = delimiter boundary

    there : occurs_below bytes N end ≡ true → (occurs_below bytes N from || ends) ≡ true
    there h = go ends refl
      where
        place : (k : ℕ) × (k < end) × OccursAt bytes N k
        place = below_some bytes N end h

        early : ends ≡ false → (b : Bool) → nat_lt place.0 from ≡ b → occurs_below bytes N from ≡ true
        early e true l = below_at bytes N from place.0 (ltb-true _ _ l) place.2
        early e false l = absurd (late e (nat_lt place.0 start) refl (ltb-false _ _ l))
          where
            late : ends ≡ false → (b : Bool) → nat_lt place.0 start ≡ b → from ≤ place.0 → ⊥
            late e true l low = run.before place.0 low (ltb-true _ _ l) (delimiter_begins bytes boundary place.0 place.2)
            late e false l low = nowhere e place.0 (ltb-false _ _ l) place.1 place.2

        go : (b : Bool) → ends ≡ b → (occurs_below bytes N from || b) ≡ true
        go true e = or_right _ _ refl
        go false e = or_left _ _ (early e (nat_lt place.0 from) refl)

    back : (occurs_below bytes N from || ends) ≡ true → occurs_below bytes N end ≡ true
    back h = go (occurs_below bytes N from) refl h
      where
        go : (b : Bool) → occurs_below bytes N from ≡ b → (b || ends) ≡ true → occurs_below bytes N end ≡ true
        go true e t = let r = below_some bytes N from e in below_at bytes N end r.0 (omega (arith, r.1, run.low, run.long)) r.2
        go false e t = found t

-- where no two dashes are left, no delimiter is
pub none_left : (bytes boundary : List ℕ) (from : ℕ) → from ≤ length bytes + 1 → Nowhere (OccursAt bytes two_dashes) from (length bytes + 1)
    → occurs_below bytes (delimiter boundary) from ≡ has_delimiter bytes boundary
none_left bytes boundary from low nowhere = same_truth _ _ there back
  where
    N : List ℕ
    N = delimiter boundary

    there : occurs_below bytes N from ≡ true → occurs_below bytes N (length bytes + 1) ≡ true
    there h = let r = below_some bytes N from h in below_at bytes N (length bytes + 1) r.0 (omega (arith, r.1, low)) r.2

    back : occurs_below bytes N (length bytes + 1) ≡ true → occurs_below bytes N from ≡ true
    back h = go (nat_lt place.0 from) refl
      where
        place : (k : ℕ) × (k < length bytes + 1) × OccursAt bytes N k
        place = below_some bytes N (length bytes + 1) h

        go : (b : Bool) → nat_lt place.0 from ≡ b → occurs_below bytes N from ≡ true
        go true e = below_at bytes N from place.0 (ltb-true _ _ e) place.2
        go false e = absurd (nowhere place.0 (ltb-false _ _ e) place.1 (delimiter_begins bytes boundary place.0 place.2))

-- ---- one boundary at a run

-- The boundary begins with `own` dashes and no more.
pub record HasDashes (boundary : List ℕ) (own : ℕ) : Type 0 where
  pub high : own ≤ length boundary
  pub dashes : (k : ℕ) → k < own → get_or boundary k 0 ≡ 45
  pub other : own < length boundary → get_or boundary own 0 ≢ 45

-- the front of a delimiter is dashes
front_dash : (boundary : List ℕ) (own : ℕ) → HasDashes boundary own → (j : ℕ) → j < own + 2 → get_or (delimiter boundary) j 0 ≡ 45
front_dash boundary own h zero l = refl
front_dash boundary own h (suc zero) l = refl
front_dash boundary own h (suc (suc j)) l = h.dashes j (omega (arith, l))

-- what stands behind the two dashes
behind_dashes : (boundary : List ℕ) (j : ℕ) → get_or (delimiter boundary) (j + 2) 0 ≡ get_or boundary j 0
behind_dashes boundary j = ap (λ n. get_or (delimiter boundary) n 0) two
  where
    two : j + 2 ≡ suc (suc j)
    two = omega arith

module _ (bytes boundary : List ℕ) (from start end own : ℕ) (run : IsRun bytes from start end) (dashes : HasDashes boundary own) where
  -- the run is long enough, and the rest of the boundary stands behind it
  pub ends_found : own + 2 ≤ end - start → length boundary - own ≤ length bytes - end → take (length boundary - own) (drop end bytes) ≡ drop own boundary
      → occurs_below bytes (delimiter boundary) end ≡ true
  ends_found long room same = below_at bytes (delimiter boundary) end (end - (own + 2)) (omega (arith, long)) (record {
    fits = omega (arith, long, room, run.high, dashes.high);
    reads = reads;
  })
    where
      reads : (j : ℕ) → j < length (delimiter boundary) → get_or bytes (end - (own + 2) + j) 0 ≡ get_or (delimiter boundary) j 0
      reads j l = go (nat_lt j (own + 2)) refl
        where
          go : (b : Bool) → nat_lt j (own + 2) ≡ b → get_or bytes (end - (own + 2) + j) 0 ≡ get_or (delimiter boundary) j 0
          go true e =
              run.dashes (end - (own + 2) + j) (omega (arith, long)) (omega (arith, long, ltb-true _ _ e))
              ∙ sym (front_dash boundary own dashes j (ltb-true _ _ e))
          go false e =
              let low : own + 2 ≤ j = ltb-false _ _ e in
              let i : ℕ = j - (own + 2) in
              let at : end - (own + 2) + j ≡ end + i = omega (arith, low, long) in
              let behind : j ≡ (own + i) + 2 = omega (arith, low) in
              let inside : i < length boundary - own = omega (arith, low, l) in
              ap (λ n. get_or bytes n 0) at ∙ sym (get_or-drop end bytes i 0) ∙ sym (get_or-take (length boundary - own) (drop end bytes) i 0 inside)
              ∙ ap (λ xs. get_or xs i 0) same ∙ get_or-drop own boundary i 0 ∙ sym (behind_dashes boundary (own + i)) ∙ ap (λ n. get_or (delimiter boundary) n 0) (sym behind)

  -- a delimiter that begins in the run ends so
  pub begins_long : (k : ℕ) → start ≤ k → k < end → OccursAt bytes (delimiter boundary) k → k + (own + 2) ≤ end
  begins_long k low high h = go (nat_le (k + (own + 2)) end) refl
    where
      go : (b : Bool) → nat_le (k + (own + 2)) end ≡ b → k + (own + 2) ≤ end
      go true e = leb-true _ _ e
      go false e = absurd (run.other inside dash)
        where
          past : end < k + (own + 2)
          past = cases_past (nat_lt end (k + (own + 2))) refl
            where
              cases_past : (b : Bool) → nat_lt end (k + (own + 2)) ≡ b → end < k + (own + 2)
              cases_past true l = ltb-true _ _ l
              cases_past false l = absurd (false≢true (sym e ∙ le-leb _ _ (ltb-false _ _ l)))

          inside : end < length bytes
          inside = omega (arith, past, h.fits, dashes.high)

          dash : get_or bytes end 0 ≡ 45
          dash = let at : end ≡ k + (end - k) = omega (arith, high) in
              ap (λ n. get_or bytes n 0) at ∙ h.reads (end - k) (omega (arith, past, dashes.high)) ∙ front_dash boundary own dashes (end - k) (omega (arith, past))

  pub begins_last : (k : ℕ) → start ≤ k → k < end → OccursAt bytes (delimiter boundary) k → own < length boundary → k + (own + 2) ≡ end
  begins_last k low high h more = go (nat_lt (k + (own + 2)) end) refl
    where
      go : (b : Bool) → nat_lt (k + (own + 2)) end ≡ b → k + (own + 2) ≡ end
      go true e = absurd (dashes.other more (sym (behind_dashes boundary own) ∙ sym (h.reads (own + 2) (omega (arith, more))) ∙ run.dashes (k + (own + 2)) (omega (arith, low)) (ltb-true _ _ e)))
      go false e = omega (arith, ltb-false _ _ e, begins_long k low high h)

  -- so the rest of the boundary stands behind the run
  pub begins_rest : (k : ℕ) → start ≤ k → k < end → OccursAt bytes (delimiter boundary) k → take (length boundary - own) (drop end bytes) ≡ drop own boundary
  begins_rest k low high h = go (nat_lt own (length boundary)) refl
    where
      go : (b : Bool) → nat_lt own (length boundary) ≡ b → take (length boundary - own) (drop end bytes) ≡ drop own boundary
      go true e =
          let last : k + (own + 2) ≡ end = begins_last k low high h (ltb-true _ _ e) in
          let fits : length boundary - own ≤ length (drop end bytes) = omega (arith, h.fits, last, length-drop end bytes) in
          let size : length (take (length boundary - own) (drop end bytes)) ≡ length boundary - own = length-take-le (length boundary - own) (drop end bytes) fits in
          ext_get_or 0 (take (length boundary - own) (drop end bytes)) (drop own boundary) (size ∙ sym (length-drop own boundary)) (λ i l. same i last (omega (arith, l, size)))
        where
          same : (i : ℕ) → k + (own + 2) ≡ end → i < length boundary - own → get_or (take (length boundary - own) (drop end bytes)) i 0 ≡ get_or (drop own boundary) i 0
          same i last l =
              let at : end + i ≡ k + ((own + i) + 2) = omega (arith, last) in
              get_or-take (length boundary - own) (drop end bytes) i 0 l ∙ get_or-drop end bytes i 0
              ∙ ap (λ n. get_or bytes n 0) at ∙ h.reads ((own + i) + 2) (omega (arith, l))
              ∙ behind_dashes boundary (own + i) ∙ sym (get_or-drop own boundary i 0)
      go false e =
          let all : length boundary - own ≡ 0 = omega (arith, ltb-false _ _ e) in
          ap (λ n. take n (drop end bytes)) all ∙ sym (drop_all own boundary (ltb-false _ _ e))

-- ---- dashes in blocks

-- a block of dashes behind dashes
pub block_dashes : (bytes : List ℕ) (start at size : ℕ) → ((k : ℕ) → start ≤ k → k < at → get_or bytes k 0 ≡ 45) → take size (drop at bytes) ≡ replicate size 45
    → (k : ℕ) → start ≤ k → k < at + size → get_or bytes k 0 ≡ 45
block_dashes bytes start at size before block k low high = go (nat_lt k at) refl
  where
    go : (b : Bool) → nat_lt k at ≡ b → get_or bytes k 0 ≡ 45
    go true e = before k low (ltb-true _ _ e)
    go false e =
        let inside : k - at < size = omega (arith, high, ltb-false _ _ e) in
        let place : at + (k - at) ≡ k = omega (arith, ltb-false _ _ e) in
        ap (λ n. get_or bytes n 0) (sym place) ∙ sym (get_or-drop at bytes (k - at) 0) ∙ sym (get_or-take size (drop at bytes) (k - at) 0 inside)
        ∙ ap (λ xs. get_or xs (k - at) 0) block ∙ get_or-replicate size (k - at) 45 0 inside
