-- The pieces of a printed body.
use Rattle.std.proofs.Common.{◌≡◌, ℕ, zero, suc, ◌*◌, ◌<◌, List, [], ◌∷◌, ◌++◌, length, take, drop, refl, sym, ap, subst, ◌∙◌, arith, append_assoc, length-append, take-append-drop}
use Rattle.std.proofs.lemmas.List.{length-take-le, length-drop}
use Rattle.std.proofs.Math.Seq.{take-append_seam, drop-append_seam}
use Rattle.std.specs.Int.{div_ceil}
use Rattle.form_submit.specs.PrintedRequest.{data_lines, piece_size, pieces_of, printed_data}

pub printed_data-none : printed_data [] ≡ []
unfolding printed_data pieces_of
printed_data-none = refl

-- a whole piece at the front is the first
pieces_of-whole : (front more : List ℕ) → length front ≡ piece_size → pieces_of (front ++ more) ≡ front ∷ pieces_of more
unfolding pieces_of
pieces_of-whole front more size =
    let count : div_ceil (length (front ++ more)) piece_size ≡ suc (div_ceil (length more) piece_size) =
    omega (arith, size, length-append front more) in
    let first : take piece_size (front ++ more) ≡ front = let P : ℕ → Type 0 = λ n. take n (front ++ more) ≡ front in subst P size (take-append_seam front more) in
    let rest : drop piece_size (front ++ more) ≡ more = let P : ℕ → Type 0 = λ n. drop n (front ++ more) ≡ more in subst P size (drop-append_seam front more) in
    rw (count, first, rest) refl

printed_data-whole : (front more : List ℕ) → length front ≡ piece_size → printed_data (front ++ more) ≡ data_lines front ++ printed_data more
unfolding printed_data
printed_data-whole front more size = rw (pieces_of-whole front more size) refl

-- whole pieces are printed, and then the rest
pub printed_data-append : (pieces : ℕ) (printed more : List ℕ) → length printed ≡ pieces * piece_size
    → printed_data (printed ++ more) ≡ printed_data printed ++ printed_data more
printed_data-append zero [] more size = ap (λ d. d ++ printed_data more) (sym printed_data-none)
printed_data-append zero (b ∷ printed) more size = absurd (omega (arith, size))
printed_data-append (suc pieces) printed more size =
    let front = take piece_size printed in
    let back = drop piece_size printed in
    let split : printed ≡ front ++ back = sym (take-append-drop piece_size printed) in
    let first : length front ≡ piece_size = length-take-le piece_size printed (omega (arith, size)) in
    let others : length back ≡ pieces * piece_size = omega (arith, size, length-drop piece_size printed) in
    ap (λ p. printed_data (p ++ more)) split ∙ ap printed_data (append_assoc front back more)
    ∙ printed_data-whole front (back ++ more) first
    ∙ ap (λ d. data_lines front ++ d) (printed_data-append pieces back more others)
    ∙ sym (append_assoc (data_lines front) (printed_data back) (printed_data more))
    ∙ ap (λ d. d ++ printed_data more) (sym (printed_data-whole front back first) ∙ ap printed_data (sym split))

-- ---- one piece after the other

-- the first piece of what is left, and then the others
pieces_of-next : (bytes : List ℕ) → 0 < length bytes → pieces_of bytes ≡ take piece_size bytes ∷ pieces_of (drop piece_size bytes)
unfolding pieces_of
pieces_of-next bytes some =
    let count : div_ceil (length bytes) piece_size ≡ suc (div_ceil (length (drop piece_size bytes)) piece_size) =
    omega (arith, some, length-drop piece_size bytes) in
    rw count refl

pub printed_data-next : (bytes : List ℕ) → 0 < length bytes
    → printed_data bytes ≡ data_lines (take piece_size bytes) ++ printed_data (drop piece_size bytes)
unfolding printed_data
printed_data-next bytes some = rw (pieces_of-next bytes some) refl
