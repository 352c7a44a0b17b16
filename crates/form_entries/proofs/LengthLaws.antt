-- The bytes of entries, added one after the other, up to the greatest number of 64 bits.
use Rattle.std.proofs.Common.{◌≡◌, ℕ, ◌+◌, ◌<◌, ◌≤◌, List, [], ◌∷◌, ◌++◌, length, map, drop, get_or, refl, sym, ap, ◌∙◌, arith}
use Rattle.std.specs.Prelude.{min}
use Rattle.std.specs.List.{flat_map, sum_by}
use Rattle.std.proofs.lemmas.List.{drop_all}
use Rattle.std.proofs.lemmas.List.Sums.{sum_by-append, sum_by-cons}
use Rattle.form_encode.specs.declared.entry.Entry.{Entry}
use Rattle.form_entries.specs.Below.{measured}
use Rattle.form_entries.specs.EntryList.{capped, entries_length, entry_length}
use Rattle.form_entries.proofs.EntryLaws.{drop_here}

capped_twice : (t a b : ℕ) → capped (capped (t + a) + b) ≡ capped (t + (a + b))
capped_twice t a b = omega arith

pub measured_none : (t : ℕ) → t ≤ 18_446_744_073_709_551_615 → measured t [] ≡ t
measured_none t low = omega arith

pub measured_append : (t : ℕ) (xs ys : List Entry) → measured (measured t xs) ys ≡ measured t (xs ++ ys)
measured_append t xs ys = capped_twice t (entries_length xs) (entries_length ys) ∙ ap (λ n. capped (t + n)) (sym (sum_by-append entry_length xs ys))

-- with what the next element gives, the rest gives the same
pub measured_step : {X : Type 0} (g : X → List Entry) (xs : List X) (i : ℕ) (d x : X) (t : ℕ) → i < length xs → x ≡ get_or xs i d
    → measured (measured t (g x)) (flat_map g (drop (i + 1) xs)) ≡ measured t (flat_map g (drop i xs))
measured_step g xs i d x t lt is = measured_append t (g x) (flat_map g (drop (i + 1) xs)) ∙ ap (λ ys. measured t (flat_map g ys)) (sym (drop_here xs i d x lt is))

-- where no element is left, the number stays
pub measured_end : {X : Type 0} (g : X → List Entry) (xs : List X) (i t : ℕ) → length xs ≤ i → t ≤ 18_446_744_073_709_551_615
    → t ≡ measured t (flat_map g (drop i xs))
measured_end g xs i t past low = sym (measured_none t low) ∙ ap (λ ys. measured t (flat_map g ys)) (sym (drop_all i xs past))

-- the same where each element gives one entry
pub measured_map_step : (f : ℕ → Entry) (xs : List ℕ) (i d t : ℕ) → i < length xs
    → measured (capped (t + entry_length (f (get_or xs i d)))) (map f (drop (i + 1) xs)) ≡ measured t (map f (drop i xs))
measured_map_step f xs i d t lt =
    ap (λ n. measured n (map f (drop (i + 1) xs))) (sym (one t (f (get_or xs i d))))
    ∙ measured_append t (f (get_or xs i d) ∷ []) (map f (drop (i + 1) xs))
    ∙ ap (λ ys. measured t (map f ys)) (sym (drop_here xs i d (get_or xs i d) lt refl))
  where
    one : (t : ℕ) (e : Entry) → measured t (e ∷ []) ≡ capped (t + entry_length e)
    one t e =
        let none : sum_by entry_length [] ≡ 0 = refl in
        let alone : sum_by entry_length (e ∷ []) ≡ entry_length e = omega (arith, none, sum_by-cons entry_length e []) in
        ap (λ n. capped (t + n)) alone

pub measured_map_end : (f : ℕ → Entry) (xs : List ℕ) (i t : ℕ) → length xs ≤ i → t ≤ 18_446_744_073_709_551_615
    → t ≡ measured t (map f (drop i xs))
measured_map_end f xs i t past low = sym (measured_none t low) ∙ ap (λ ys. measured t (map f ys)) (sym (drop_all i xs past))
