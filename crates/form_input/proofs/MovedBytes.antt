-- Bytes that move in several calls are the bytes of each, one after the other.
use Rattle.std.proofs.Common.{◌≡◌, ℕ, ◌+◌, ◌≤◌, List, ◌++◌, length, take, drop, sym, ap, subst, ◌∙◌, Some, None, arith, length-append, IfSome}
use Rattle.std.specs.Prelude.{Option}
use Rattle.std.specs.Io.KnownBytes.{prepend_known}
use Rattle.std.proofs.Math.Seq.{take-add}
use Rattle.form_ports.proofs.Laws.{prepend_known-prepend}
use Rattle.form_input.specs.Moved.{Gave}

-- one more read
pub Gave-more : (held mid left : Option (List ℕ)) (before between now : ℕ) (bytes more : List ℕ)
    → Gave held mid before between bytes → mid ≡ prepend_known more left → now ≡ between + length more
    → Gave held left before now (bytes ++ more)
Gave-more held mid left before between now bytes more so_far here count = record {
  held_is = so_far.held_is ∙ ap (prepend_known bytes) here ∙ prepend_known-prepend bytes more left;
  count_is = omega (arith, so_far.count_is, length-append bytes more);
}

-- one more read, behind what was read so far
pub Gave-behind : (held mid left : Option (List ℕ)) (before between now : ℕ) (old grown new : List ℕ) (done count : ℕ) → Gave held mid before between (take done old) → take done grown ≡ take done old → take done new ≡ take done grown → mid ≡ prepend_known (take count (drop done new)) left → now ≡ between + length (take count (drop done new)) → Gave held left before now (take (done + count) new)
Gave-behind held mid left before between now old grown new done count so_far kept same here counted =
    let P : List ℕ → Type 0 = λ bytes. Gave held left before now bytes in
    let e : take (done + count) new ≡ take done old ++ take count (drop done new) =
    take-add done count new ∙ ap (λ f. f ++ take count (drop done new)) (same ∙ kept) in
    subst P (sym e) (Gave-more held mid left before between now (take done old) (take count (drop done new)) so_far here counted)

-- what a source gave is a front of what it held
pub Gave-longer : (held left : Option (List ℕ)) (before now n : ℕ) (bytes : List ℕ) → Gave held left before now bytes → n ≤ length bytes → IfSome held (λ input. n ≤ length input)
Gave-longer held None before now n bytes gave long = let P : Option (List ℕ) → Type 0 = λ h. IfSome h (λ input. n ≤ length input) in subst P (sym gave.held_is) tt
Gave-longer held (Some rest) before now n bytes gave long =
    let P : Option (List ℕ) → Type 0 = λ h. IfSome h (λ input. n ≤ length input) in
    let within : n ≤ length (bytes ++ rest) = omega (arith, long, length-append bytes rest) in
    subst P (sym gave.held_is) within
