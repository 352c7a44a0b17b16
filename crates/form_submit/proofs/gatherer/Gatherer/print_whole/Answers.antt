use Rattle.std.proofs.Common.{arith, ap, length}
use Rattle.form_submit.proofs.GatherLaws.{Gathers-none, Gathers-whole, GathersPart-whole}
use Rattle.form_submit.proofs.gatherer.Gatherer.print_whole.Goals as goal

pub returns-then-piece-lt-PIECE_SIZE-clause-gathers : goal.returns-then-piece-lt-PIECE_SIZE-clause-gathers
returns-then-piece-lt-PIECE_SIZE-clause-gathers g c = Gathers-none _ _

pub returns-then-piece-lt-PIECE_SIZE-clause-part : goal.returns-then-piece-lt-PIECE_SIZE-clause-part
returns-then-piece-lt-PIECE_SIZE-clause-part g c = GathersPart-whole _ _ _ _ _ (Gathers-none _ _)

pub returns-clause-gathers : goal.returns-clause-gathers
returns-clause-gathers g c =
    Gathers-whole _ _ _ _ _ c.in_ok-make_room.ensures.gathers c.in_ok-make_room.ensures.bytes
    (omega (arith, c.if-piece-lt-PIECE_SIZE.false, c.bytes-piece.ensures.room, ap (λ b. length b) c.bytes-piece.ensures.bytes))
    c.print_piece.ensures.bytes c.print_piece.ensures.lines
