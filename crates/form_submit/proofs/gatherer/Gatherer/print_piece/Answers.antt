use Rattle.std.proofs.Common.{◌≤◌, ◌+◌, ◌++◌, ap, arith, length, subst, sym, ◌∙◌}
use Rattle.std.proofs.lemmas.List.{length-take}
use Rattle.form_submit.specs.Room.{last_size, lines_size}
use Rattle.form_submit.specs.Sending.{Gathered}
use Rattle.form_submit.proofs.LinesLaws.{piece-fits, piece-end, none-end, printed_data-one, printed_data-zero}
use Rattle.form_submit.proofs.gatherer.Gatherer.print_piece.Goals as goal

pub push_piece-requires : goal.push_piece-requires
push_piece-requires c = record {
  room = piece-fits _ _ (subst (λ (s : Gathered). length s.lines + last_size ≤ lines_size) (sym c.self.view_is) c.requires.room)
      (omega (arith, c.self.invariant, length-take c.self.inside.kept c.self.inside.room));
}

pub returns-then-piece-gt0-clause-lines : goal.returns-then-piece-gt0-clause-lines
returns-then-piece-gt0-clause-lines c =
    rw (← c.self.view_is) (c.push_piece.ensures ∙ ap (λ d. c.self.inside.lines ++ d) (printed_data-one _ c.if-piece-gt0.true
    (omega (arith, c.self.invariant, length-take c.self.inside.kept c.self.inside.room))))

pub returns-then-piece-gt0-clause-end : goal.returns-then-piece-gt0-clause-end
returns-then-piece-gt0-clause-end c =
    piece-end _ _ _ (subst (λ (s : Gathered). length s.lines + last_size ≤ lines_size) (sym c.self.view_is) c.requires.room)
    (omega (arith, c.self.invariant, length-take c.self.inside.kept c.self.inside.room)) c.push_piece.ensures

pub returns-else-piece-gt0-clause-lines : goal.returns-else-piece-gt0-clause-lines
returns-else-piece-gt0-clause-lines c = rw (← c.self.view_is) (printed_data-zero _ _ c.if-piece-gt0.false)

pub returns-else-piece-gt0-clause-end : goal.returns-else-piece-gt0-clause-end
returns-else-piece-gt0-clause-end c = none-end _ c.requires.room
