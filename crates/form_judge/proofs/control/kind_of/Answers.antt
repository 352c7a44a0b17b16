use Rattle.std.proofs.Common.{refl}
use Rattle.std.specs.Prelude.{codes}
use Rattle.form_tree.specs.Tree.{attr_in}
use Rattle.form_judge.proofs.KindLaws.{email_is_text}
use Rattle.form_judge.proofs.control.kind_of.Goals as goal

pub returns-in-Err : goal.returns-in-Err
returns-in-Err c = email_is_text (attr_in c.args.node.now.attrs (codes "type")) (rw c.attr.ensures at c.in-Err.ensures.email.0 refl)
