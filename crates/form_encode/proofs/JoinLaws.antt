-- Fields that are joined one after the other.
use Rattle.std.proofs.Common.{◌≡◌, ℕ, ◌+◌, ◌<◌, Bool, true, List, [], ◌∷◌, ◌++◌, length, take, get_or, map, refl, sym, ap, subst, ◌∙◌, arith, append_assoc, length-append, ltb, cond}
use Rattle.std.specs.List.{join_with_byte}
use Rattle.std.proofs.lemmas.List.{take_more, map-append}
use Rattle.std.proofs.lemmas.Bool.Decides.{nat_tests}
use Rattle.form_urlencoded.specs.Form.{append_pair, byte_serialize, separator, is_nonempty, ampersand, serialize_pair}
use Rattle.form_encode.specs.declared.entry.Pair.{Pair}
use Rattle.form_encode.specs.Urlencoded.{field, urlencoded_text}

-- one more piece behind some
join_more : (c : ℕ) (x : List ℕ) (xs : List (List ℕ)) (y : List ℕ)
    → join_with_byte c (x ∷ (xs ++ y ∷ [])) ≡ join_with_byte c (x ∷ xs) ++ (c ∷ y)
join_more c x [] y = refl
join_more c x (z ∷ xs) y =
    ap (λ rest. x ++ (c ∷ rest)) (join_more c z xs y) ∙ sym (append_assoc x (c ∷ join_with_byte c (z ∷ xs)) (c ∷ y))

-- where the first piece has bytes, the whole has
join_some : (c : ℕ) (x : List ℕ) (xs : List (List ℕ)) → 0 < length x → 0 < length (join_with_byte c (x ∷ xs))
join_some c x [] some = some
join_some c x (y ∷ xs) some = omega (arith, some, length-append x (c ∷ join_with_byte c (y ∷ xs)))

-- a field has its `=`
field_some : (pair : Pair) → 0 < length (field pair)
field_some pair =
    omega (
      arith,
      length-append (byte_serialize pair.name ++ (61 ∷ [])) (byte_serialize pair.value),
      length-append (byte_serialize pair.name) (61 ∷ []),
    )

-- behind a form that has bytes stands a separator
separated : (form : List ℕ) → 0 < length form → separator form ≡ ampersand ∷ []
separated form some = let there : is_nonempty form ≡ true = grind (arith, nat_tests) in simp there

-- one more pair behind some
append_more : (pairs : List Pair) (pair : Pair)
    → append_pair (urlencoded_text pairs) pair.name pair.value ≡ urlencoded_text (pairs ++ pair ∷ [])
append_more [] pair = refl
append_more (first ∷ pairs) pair =
    let form = urlencoded_text (first ∷ pairs) in
    let there = separated form (join_some ampersand (field first) (map field pairs) (field_some first)) in
    ap (λ s. form ++ s ++ field pair) there
    ∙ append_assoc form (ampersand ∷ []) (field pair)
    ∙ sym (join_more ampersand (field first) (map field pairs) (field pair))
    ∙ ap (λ fields. join_with_byte ampersand (field first ∷ fields)) (sym (map-append field pairs (pair ∷ [])))

-- the pairs up to the next one
pub append_next : (pairs : List Pair) (i : ℕ) (pair : Pair) → pair ≡ get_or pairs i pair → i < length pairs
    → append_pair (urlencoded_text (take i pairs)) pair.name pair.value ≡ urlencoded_text (take (i + 1) pairs)
append_next pairs i pair at h =
    append_more (take i pairs) pair
    ∙ ap urlencoded_text (ap (λ p. take i pairs ++ p ∷ []) at ∙ sym (take_more pairs i pair h))
