use Rattle.std.proofs.Common.{◌∙◌, List, Option, ap, is_some, ℕ}
use Rattle.form_script.specs.Reading.{◌>>=◌, boundary_if, boundary_of, literal_text, text_in}
use Rattle.form_script.proofs.FittingLaws.{fits_whole}
use Rattle.form_script.proofs.boundary.is_boundary_literal.Goals as goal

pub returns-in-Some : goal.returns-in-Some
unfolding boundary_of literal_text
returns-in-Some c =
    c.is_boundary_inside.ensures ∙ fits_whole (text_in c.in-Some.inside.now)
    ∙ ap (λ (o : Option (List ℕ)). is_some ((o >>= text_in) >>= boundary_if)) c.in-Some.ensures
