use Rattle.std.proofs.Common.{map, subst}
use Rattle.std.specs.Prelude.{string_bytes}
use Rattle.form_run.specs.Chosen.{OthersStay, named_in}
use Rattle.form_run.specs.Session.{Session}
use Rattle.form_run.proofs.ChosenLaws.{submitted_stay}
use Rattle.form_run.proofs.session.Session.submit.Goals as goal

pub returns-clause-others : goal.returns-clause-others
returns-clause-others g c =
    let session : Session = record { base = c.self.inside.base; page = c.self.inside.page; bounds = map string_bytes c.self.inside.bounds.items } in
    subst (λ (s : Session). OthersStay (named_in s.page) c.args.shelf.now.items c.submit.new.shelf.items) c.self.view_is
    (submitted_stay session c.args.s c.args.shelf.now.items c.submit.new.shelf.items c.submit.ensures.others)
