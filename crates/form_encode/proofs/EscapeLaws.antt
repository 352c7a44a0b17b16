-- A name is escaped up to the first byte that has an escape, and behind it.
use Rattle.std.proofs.Common.{◌≡◌, ℕ, zero, suc, ◌+◌, ◌<◌, Bool, true, false, cond, eqb, Option, option_map, List, [], ◌∷◌, ◌++◌, length, take, drop, get_or, Some, None, sym, refl, ap}
use Rattle.std.proofs.Common.{◌∙◌, arith, add-one}
use Rattle.std.specs.List.{position}
use Rattle.std.proofs.lemmas.Bool.{or_parts}
use Rattle.std.proofs.lemmas.Bool.Decides.{nat_tests}
use Rattle.std.proofs.lemmas.List.Quantifiers.{position-Some}
use Rattle.form_text.proofs.Laws.{position-cons}
use Rattle.form_encode.specs.Multipart.{escaped, escaped_byte, has_escape}

-- a first place that is not 0 is behind an element that fails
later : (b : Bool) (o : Option ℕ) (i : ℕ) → cond b (Some 0) (option_map suc o) ≡ Some (suc i) → (b ≡ false) × (o ≡ Some i)
later true o i found = grind arith
later false None i found = grind arith
later false (Some n) i found = (refl, grind arith)

-- where there is no place, the first element fails too
nowhere : (b : Bool) (o : Option ℕ) → cond b (Some 0) (option_map suc o) ≡ None → (b ≡ false) × (o ≡ None)
nowhere true o found = grind arith
nowhere false None found = (refl, refl)
nowhere false (Some n) found = grind arith

-- a byte that has no escape stays
kept : (b : ℕ) (rest : List ℕ) → has_escape b ≡ false → escaped (b ∷ rest) ≡ b ∷ escaped rest
kept b rest other =
    let parts = or_parts _ _ other in
    let lf : eqb b 10 ≡ false = parts.0 in
    let more = or_parts _ _ parts.1 in
    let cr : eqb b 13 ≡ false = more.0 in
    let quoted : eqb b 34 ≡ false = more.1 in
    simp (lf, cr, quoted)

-- a name without such bytes stays
pub escaped_none : (name : List ℕ) → position has_escape name ≡ None → escaped name ≡ name
escaped_none [] none = refl
escaped_none (b ∷ name) none =
    let miss = nowhere _ _ (sym (position-cons has_escape b name) ∙ none) in
    kept b name miss.0 ∙ ap (λ rest. b ∷ rest) (escaped_none name miss.1)

escaped_suc : (name : List ℕ) (at : ℕ) → position has_escape name ≡ Some at
    → escaped name ≡ take at name ++ (escaped_byte (get_or name at 0) ++ escaped (drop (suc at) name))
escaped_suc [] at found = grind arith
escaped_suc (b ∷ name) zero found = refl
escaped_suc (b ∷ name) (suc at) found =
    let miss = later _ _ _ (sym (position-cons has_escape b name) ∙ found) in
    kept b name miss.0 ∙ ap (λ rest. b ∷ rest) (escaped_suc name at miss.1)

-- the name up to its first such byte, that byte's escape, and the rest
pub escaped_at : (name : List ℕ) (at : ℕ) → position has_escape name ≡ Some at
    → escaped name ≡ take at name ++ (escaped_byte (get_or name at 0) ++ escaped (drop (at + 1) name))
escaped_at name at found = rw (add-one) (escaped_suc name at found)

-- the byte that was found has an escape, and is an ASCII byte of the name
pub escape_here : (name : List ℕ) (at : ℕ) → position has_escape name ≡ Some at
    → (at < length name) × (get_or name at 0 < 128) × (has_escape (get_or name at 0) ≡ true)
escape_here name at found =
    let here = position-Some has_escape name at 0 found in
    let special : has_escape (get_or name at 0) ≡ true = here.1 in
    (here.0, grind (arith, nat_tests), special)
