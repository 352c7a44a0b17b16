-- The first boundary that is free, as a relation and as a function.
use Rattle.std.proofs.Common.{◌≡◌, ℕ, zero, suc, ◌+◌, ◌<◌, ◌≤◌, nat_lt, Bool, true, false, not, List, [], ◌∷◌, length, take, get_or, Option, Some, None, refl, sym, ap, ◌∙◌, subst, arith}
use Rattle.std.proofs.Common.{length-take-le, get_or-take}
use Rattle.std.specs.Prelude.{All, slice_get, MatchOption}
use Rattle.std.specs.List.{Any, list_any, position}
use Rattle.std.specs.Option.{option_map}
use Rattle.std.proofs.Common.{cond, inl, inr}
use Rattle.form_text.proofs.Laws.{position-cons}
use Rattle.std.proofs.lemmas.Bool.{false≢true, ltb-true, ltb-false}
use Rattle.std.proofs.lemmas.List.Folds.{Any-from_list_any, list_any-from_Any}
use Rattle.std.proofs.lemmas.Option.{same_Some, slice_get-get_or}
use Rattle.memchr.specs.Find.{OccursAt}
use Rattle.form_encode.specs.Boundaries.{IsFirstFree, IsFree, Occurs, delimiter, first_free, has_delimiter, is_taken, occurs_below}
use Rattle.form_encode.proofs.ScanLaws.{below_at, below_some}

-- the test says what the relation says
pub has_delimiter-true : (bytes boundary : List ℕ) → Occurs bytes boundary → has_delimiter bytes boundary ≡ true
has_delimiter-true bytes boundary o = below_at bytes (delimiter boundary) (length bytes + 1) o.place (omega (arith, o.here.fits)) o.here

pub Occurs-from : (bytes boundary : List ℕ) → has_delimiter bytes boundary ≡ true → Occurs bytes boundary
Occurs-from bytes boundary h = let r = below_some bytes (delimiter boundary) (length bytes + 1) h in record { place = r.0; here = r.2 }

pub is_free-not_taken : (parts : List (List ℕ)) (boundary : List ℕ) → IsFree parts boundary → is_taken parts boundary ≡ false
unfolding is_taken
is_free-not_taken parts boundary free = go (is_taken parts boundary) refl
  where
    go : (b : Bool) → list_any (λ bytes. has_delimiter bytes boundary) parts ≡ b → b ≡ false
    go true e =
        let some = Any-from_list_any (λ bytes. has_delimiter bytes boundary) parts e in
        absurd (subst (λ bytes. ¬ (Occurs bytes boundary)) some.3 (free.nowhere some.0 some.1 some.2) (Occurs-from some.1 boundary some.4))
    go false e = refl

pub not_taken-is_free : (parts : List (List ℕ)) (boundary : List ℕ) → is_taken parts boundary ≡ false → IsFree parts boundary
unfolding is_taken
not_taken-is_free parts boundary e = record {
  nowhere = λ k d inside found. false≢true (sym e ∙ list_any-from_Any (λ bytes. has_delimiter bytes boundary) parts
      (k, get_or parts k d, inside, own parts k d inside, has_delimiter-true (get_or parts k d) boundary found));
}
  where
    own : (xs : List (List ℕ)) (k : ℕ) (d : List ℕ) → k < length xs → get_or xs k (get_or xs k d) ≡ get_or xs k d
    own [] k d l = absurd (omega (arith, l))
    own (x ∷ xs) zero d l = refl
    own (x ∷ xs) (suc k) d l = own xs k d (omega (arith, l))

-- ---- the first one

module _ (parts : List (List ℕ)) where
  taken_not_free : (boundary : List ℕ) → is_taken parts boundary ≡ true → ¬ (IsFree parts boundary)
  taken_not_free boundary taken free = false≢true (sym (is_free-not_taken parts boundary free) ∙ taken)

  free_first : (boundary : List ℕ) (bounds : List (List ℕ)) → IsFree parts boundary → IsFirstFree (boundary ∷ bounds) parts (Some 0)
  free_first boundary bounds free = (
    omega arith,
    λ b is. subst (IsFree parts) (same_Some _ _ is) free,
    λ k d inside. absurd (omega (arith, inside)),
  )

  free_later : (boundary : List ℕ) (bounds : List (List ℕ)) (answer : Option ℕ) → ¬ (IsFree parts boundary)
      → IsFirstFree bounds parts answer → IsFirstFree (boundary ∷ bounds) parts (option_map suc answer)
  free_later boundary bounds None taken rest = λ k d inside. each k d inside
    where
      each : (k : ℕ) (d : List ℕ) → k < suc (length bounds) → ¬ (IsFree parts (get_or (boundary ∷ bounds) k d))
      each zero d inside = taken
      each (suc k) d inside = rest k d (omega (arith, inside))
  free_later boundary bounds (Some i) taken rest = (
    omega (arith, rest.0),
    λ b is. rest.1 b is,
    λ k d inside. each k d inside,
  )
    where
      each : (k : ℕ) (d : List ℕ) → k < suc (length (take i bounds)) → ¬ (IsFree parts (get_or (boundary ∷ take i bounds) k d))
      each zero d inside = taken
      each (suc k) d inside = rest.2 k d (omega (arith, inside))

  pub first_free-rule : (bounds : List (List ℕ)) → IsFirstFree bounds parts (first_free bounds parts)
  unfolding first_free
  first_free-rule [] = λ k d inside. absurd (omega (arith, inside))
  first_free-rule (boundary ∷ bounds) =
      subst (IsFirstFree (boundary ∷ bounds) parts) (sym (position-cons (λ b. not (is_taken parts b)) boundary bounds))
      (go (first_free-rule bounds) (is_taken parts boundary) refl)
    where
      go : IsFirstFree bounds parts (position (λ b. not (is_taken parts b)) bounds) → (b : Bool) → is_taken parts boundary ≡ b
          → IsFirstFree (boundary ∷ bounds) parts (cond (not b) (Some 0) (option_map suc (position (λ b. not (is_taken parts b)) bounds)))
      go rest true e = free_later boundary bounds (position (λ b. not (is_taken parts b)) bounds) (taken_not_free boundary e) rest
      go rest false e = free_first boundary bounds (not_taken-is_free parts boundary e)

  -- there is one answer at most
  at_place : (bounds : List (List ℕ)) (i : ℕ) → i < length bounds → slice_get bounds i ≡ Some (get_or bounds i [])
  at_place bounds i inside = slice_get-get_or bounds i [] inside

  same_first : (bounds : List (List ℕ)) (a b : Option ℕ) → IsFirstFree bounds parts a → IsFirstFree bounds parts b → a ≡ b
  same_first bounds None None h k = refl
  same_first bounds None (Some j) h k = absurd (h j [] k.0 (k.1 (get_or bounds j []) (at_place bounds j k.0)))
  same_first bounds (Some i) None h k = absurd (k i [] h.0 (h.1 (get_or bounds i []) (at_place bounds i h.0)))
  same_first bounds (Some i) (Some j) h k = ap Some (go (nat_lt i j) refl (nat_lt j i) refl)
    where
      earlier : (a b : ℕ) → a < b → b < length bounds → IsFree parts (get_or bounds a []) → All (λ boundary. ¬ (IsFree parts boundary)) (take b bounds) → ⊥
      earlier a b less inside free none =
          none a [] (omega (arith, less, inside, length-take-le b bounds (omega (arith, inside)))) (subst (IsFree parts) (sym (get_or-take b bounds a [] less)) free)

      go : (p : Bool) → nat_lt i j ≡ p → (q : Bool) → nat_lt j i ≡ q → i ≡ j
      go true e q f = absurd (earlier i j (ltb-true _ _ e) k.0 (h.1 (get_or bounds i []) (at_place bounds i h.0)) k.2)
      go false e true f = absurd (earlier j i (ltb-true _ _ f) h.0 (k.1 (get_or bounds j []) (at_place bounds j k.0)) h.2)
      go false e false f = omega (arith, ltb-false _ _ e, ltb-false _ _ f)

  -- the relation and the function agree
  pub first_free-only : (bounds : List (List ℕ)) (answer : Option ℕ) → IsFirstFree bounds parts answer → answer ≡ first_free bounds parts
  first_free-only bounds answer h = same_first bounds answer (first_free bounds parts) h (first_free-rule bounds)
