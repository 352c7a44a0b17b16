use Rattle.std.proofs.Common.{ap, ◌∙◌}
use Rattle.std.specs.List.{position}
use Rattle.form_encode.specs.Scanning.{Scanned, is_untaken}
use Rattle.form_encode.proofs.FedLaws.{free_of, free_rule}
use Rattle.form_encode.proofs.scanning.Scan.free.Goals as goal

pub returns-clause-rule : goal.returns-clause-rule
returns-clause-rule c = λ bounds ended part stood.
    free_rule c.args.self.now bounds ended part c.first_untaken.result
    (c.first_untaken.ensures ∙ ap (position is_untaken) c.as_slice.ensures.value ∙ ap (λ (s : Scanned). position is_untaken s.marks) c.self.view_is) stood

pub returns-clause-value : goal.returns-clause-value
returns-clause-value c = λ bounds ended part stood.
    c.first_untaken.ensures ∙ ap (position is_untaken) c.as_slice.ensures.value ∙ ap (λ (s : Scanned). position is_untaken s.marks) c.self.view_is
    ∙ free_of c.args.self.now bounds ended part stood
