-- The lines of a piece, and how much room they take.
use Rattle.std.proofs.Common.{◌≡◌, ℕ, ◌+◌, ◌<◌, ◌≤◌, List, [], ◌∷◌, ◌++◌, length, drop, codes, sym, ap, ◌∙◌, arith, lit<, append-nil, length-append}
use Rattle.std.proofs.lemmas.Fmt.{length-decimal-le}
use Rattle.std.proofs.lemmas.List.{drop_all, take_all}
use Rattle.std.specs.Fmt.{decimal}
use Rattle.form_submit.specs.PrintedRequest.{data_lines, piece_size, printed_data}
use Rattle.form_submit.specs.Room.{end_size, frame_size, last_size, lines_size}
use Rattle.form_submit.proofs.BodyLaws.{printed_data-none, printed_data-next}

-- ---- how long the lines are

-- those of a piece
data_lines-length : (bytes : List ℕ) → length (data_lines bytes) ≡ length bytes + length (decimal (length bytes)) + 7
data_lines-length bytes =
    let number = decimal (length bytes) in
    omega (
      arith,
      length-append (codes "data ") (number ++ (codes "\n" ++ (bytes ++ codes "\n"))),
      length-append number (codes "\n" ++ (bytes ++ codes "\n")),
      length-append (codes "\n") (bytes ++ codes "\n"),
      length-append bytes (codes "\n"),
    )

data_lines-le : (bytes : List ℕ) → length bytes ≤ piece_size → length (data_lines bytes) ≤ piece_size + frame_size
data_lines-le bytes fits =
    let number = length-decimal-le 4 (length bytes) (lit< tt) (omega (arith, fits)) (omega (arith, fits)) in
    omega (arith, data_lines-length bytes, fits, number)

-- there is room for them
pub piece-fits : (lines bytes : List ℕ) → length lines + last_size ≤ lines_size → length bytes ≤ piece_size
    → length lines + length (data_lines bytes) ≤ lines_size
piece-fits lines bytes room fits = omega (arith, room, data_lines-le bytes fits)

-- and then for the body's end
pub piece-end : (lines bytes grown : List ℕ) → length lines + last_size ≤ lines_size → length bytes ≤ piece_size
    → grown ≡ lines ++ data_lines bytes → length grown + end_size ≤ lines_size
piece-end lines bytes grown room fits put =
    omega (arith, room, data_lines-le bytes fits, ap (λ l. length l) put, length-append lines (data_lines bytes))

-- also without them
pub none-end : (lines : List ℕ) → length lines + last_size ≤ lines_size → length lines + end_size ≤ lines_size
none-end lines room = omega (arith, room)

-- ---- bytes that are one piece, or none

pub printed_data-one : (bytes : List ℕ) → 0 < length bytes → length bytes ≤ piece_size → data_lines bytes ≡ printed_data bytes
printed_data-one bytes some fits = sym (
    printed_data-next bytes some
    ∙ ap (λ b. data_lines b ++ printed_data (drop piece_size bytes)) (take_all piece_size bytes fits)
    ∙ ap (λ b. data_lines bytes ++ printed_data b) (drop_all piece_size bytes fits)
    ∙ ap (λ d. data_lines bytes ++ d) printed_data-none
    ∙ append-nil (data_lines bytes)
    )

-- of no bytes there are no lines
pub printed_data-zero : (lines bytes : List ℕ) → length bytes ≤ 0 → lines ≡ lines ++ printed_data bytes
printed_data-zero lines [] none = sym (ap (λ d. lines ++ d) printed_data-none ∙ append-nil lines)
printed_data-zero lines (b ∷ bytes) none = absurd (omega (arith, none))
