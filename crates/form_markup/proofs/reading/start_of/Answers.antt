use Rattle.std.proofs.Common.{subst}
use Rattle.form_tokens.specs.Readers.{Gives}
use Rattle.form_markup.specs.Machine.{piece_of}
use Rattle.form_markup.proofs.Tags.{start_law}
use Rattle.form_markup.proofs.reading.start_of.Goals as goal

pub returns : goal.returns
returns c = subst (Gives (λ x. (piece_of x.0, x.1.now)) c.start_kept.result) (start_law c.args.text.now) c.start_kept.ensures
