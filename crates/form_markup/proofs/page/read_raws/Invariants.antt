use Rattle.std.proofs.Common.{length}
use denote.Shadow.{shadow}
use denote.Text.{Utf8}
use Rattle.form_markup.specs.Goes.{Answering}
use Rattle.form_markup.specs.Machine.{state_of}
use Rattle.form_markup.proofs.page.read_raws.Given as goal

abbrev pub invariant-pieces : goal.invariant-pieces
invariant-pieces l = Answering l.around l.text (state_of l.machine) l.rest × shadow (Utf8 l.rest)

abbrev pub decreases-pieces : goal.decreases-pieces
decreases-pieces l = length l.rest
