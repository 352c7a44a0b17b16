use Rattle.std.proofs.Common.{[], arith, length, subst, sym, ◌≤◌}
use Rattle.std.specs.Prelude.{All, string_bytes}
use Rattle.std.proofs.lemmas.List.Elements.{All-cons, All-nil}
use Rattle.form_encode.specs.Boundaries.{longest_boundary}
use Rattle.form_acts.specs.Soundness.{IsSound}
use Rattle.form_acts.proofs.Laws.{opened_sound}
use Rattle.form_run.specs.Session.{first_boundary}
use Rattle.form_run.proofs.CountLaws.{of_images, openable_few}
use Rattle.form_run.proofs.session.Session.open.Goals as goal

pub from_raws-requires-clause-few : goal.from_raws-requires-clause-few
from_raws-requires-clause-few g c = rw c.args.raws.ok.0 (openable_few _ c.requires)

pub invariant_of-result : goal.invariant_of-result
invariant_of-result g c = (
  subst IsSound (sym c.in_ok-page.ensures.ok) (opened_sound _ _ c.requires),
  of_images (λ boundary. length boundary ≤ longest_boundary) string_bytes _
      (subst (All (λ boundary. length boundary ≤ longest_boundary)) (sym c.in_ok-bounds.ensures)
      (All-cons (λ boundary. length boundary ≤ longest_boundary) first_boundary [] (omega arith) (All-nil (λ boundary. length boundary ≤ longest_boundary)))),
)
