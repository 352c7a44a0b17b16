-- How much of a body is kept before it is written.
use Rattle.std.specs.Prelude.{ℕ, ◌+◌, ◌*◌}
use Rattle.form_submit.specs.PrintedRequest.{piece_size}

-- how many printed pieces are written at once
abbrev pub batch_pieces : ℕ
batch_pieces = 64

-- how many bytes stand around those of a whole piece, where it is printed
abbrev pub frame_size : ℕ
frame_size = 11

-- how many bytes the line at the end of a body has
abbrev pub end_size : ℕ
end_size = 4

-- how many bytes the lines of a whole piece have, with that line
abbrev pub last_size : ℕ
last_size = piece_size + frame_size + end_size

-- how many bytes those of the pieces that are written at once have, with that line
abbrev pub lines_size : ℕ
lines_size = batch_pieces * (piece_size + frame_size) + end_size
