use Rattle.std.proofs.Common.{length, subst, sym, ◌≤◌}
use Rattle.std.specs.Prelude.{All, string_bytes}
use Rattle.form_encode.specs.Boundaries.{longest_boundary}
use Rattle.form_run.proofs.CountLaws.{of_images}
use Rattle.form_run.proofs.session.Session.set_boundaries.Goals as goal

pub invariant_of-self : goal.invariant_of-self
invariant_of-self c = (
  c.self.invariant.0,
  of_images (λ boundary. length boundary ≤ longest_boundary) string_bytes _
      (subst (All (λ boundary. length boundary ≤ longest_boundary)) (sym c.in_ok-self-inside.ensures) c.requires),
)
