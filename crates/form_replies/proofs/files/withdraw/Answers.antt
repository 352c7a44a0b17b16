use Rattle.std.proofs.Common.{ap, sym, ◌∙◌}
use Rattle.form_ports.proofs.Laws.{IsThere-from_one, IsThere-within}
use Rattle.form_replies.specs.Withdrawn.{without_all}
use Rattle.form_replies.proofs.WithdrawnLaws.{set_without}
use Rattle.form_replies.proofs.files.withdraw.Goals as goal

pub overflow_sub-number : goal.overflow_sub-number
overflow_sub-number g c = IsThere-from_one _ _ (rw c.in-Some.is at c.requires)

pub index_mut-requires : goal.index_mut-requires
index_mut-requires g c = rw c.args.shelf.now.ok.0 (IsThere-within _ _ _ (rw c.in-Some.is at c.requires))

pub returns-in-Some : goal.returns-in-Some
returns-in-Some g c =
    set_without _ _ (IsThere-from_one _ _ (rw c.in-Some.is at c.requires)) ∙ ap (without_all c.args.shelf.now.items) (sym c.in-Some.is)
