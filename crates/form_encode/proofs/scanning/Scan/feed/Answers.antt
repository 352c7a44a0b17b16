use Rattle.std.proofs.Common.{sym, subst, take, ap, ◌∙◌}
use Rattle.std.specs.Prelude.{All}
use Rattle.form_encode.specs.Scanning.{StandsFor, last_bytes, overlap}
use Rattle.form_encode.proofs.FedLaws.{fed, is_short, short_seen}
use Rattle.form_encode.proofs.scanning.Scan.feed.Goals as goal

pub invariant_of-self : goal.invariant_of-self
invariant_of-self c = (
  c.keep_last-self-inside.ensures.few,
  subst (All is_short) (sym c.see-2.ensures) (short_seen _ _ (subst (All is_short) (sym c.see.ensures) (short_seen _ _ c.self.invariant.1))),
)

pub returns : goal.returns
returns c = λ bounds ended part stood.
    fed bounds ended part c.args.piece.now c.front.result.now c.self.inside.marks.items c.see.new.marks.items c.see-2.new.marks.items
    (take c.self.inside.kept c.self.inside.room) (take c.keep_last-self-inside.result c.keep_last-self-inside.new.room) c.self.invariant.1
    (c.front.ensures ∙ c.join-joined.ensures.joined) c.see.ensures c.see-2.ensures c.keep_last-self-inside.ensures.long
    (λ few. c.keep_last-self-inside.ensures.short few ∙ ap (last_bytes overlap) (sym c.front.ensures))
    (subst (λ s. StandsFor s bounds ended part) (sym c.self.view_is) stood)
