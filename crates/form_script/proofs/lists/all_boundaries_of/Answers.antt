use Rattle.std.proofs.Common.{rules, sym}
use Rattle.form_script.specs.LineReading.{all_of, words_of}
use Rattle.form_script.specs.Reading.{boundary_of}
use Rattle.form_script.proofs.LineLaws.{failed_last, failed_on, read_last, read_on, rest_short}
use Rattle.form_script.proofs.lists.all_boundaries_of.Goals as goal

pub words-smaller : goal.words-smaller
words-smaller c = rest_short c.words.rest.now c.in-Some.word.now c.in-Some.behind.now c.in-Some.ensures

pub words-preserved : goal.words-preserved
words-preserved c = (search rules, read_on boundary_of (all_of boundary_of (words_of c.args.text.now)) c.words.boundaries _ c.words.rest.now c.in-Some.word.now c.in-Some.behind.now c.in-Ok.boundary c.words.invariant.1 c.in-Some.ensures (sym c.in-Ok.ensures) c.in_ok-push-in-Ok.ensures.ok)

pub returns-in-Err : goal.returns-in-Err
returns-in-Err c = failed_on boundary_of c.in-Err.fault (all_of boundary_of (words_of c.args.text.now)) c.words.boundaries c.words.rest.now c.in-Some.word.now c.in-Some.behind.now c.words.invariant.1 c.in-Some.ensures c.in-Err.ensures

pub returns-in-Ok-boundary_of : goal.returns-in-Ok-boundary_of
returns-in-Ok-boundary_of c = read_last boundary_of (all_of boundary_of (words_of c.args.text.now)) c.words.boundaries _ c.words.rest.now c.in-Ok-boundary_of.boundary c.words.invariant.1 c.in-None.ensures (sym c.in-Ok-boundary_of.ensures) c.in_ok-push-in-Ok-boundary_of.ensures.ok

pub returns-in-Err-boundary_of : goal.returns-in-Err-boundary_of
returns-in-Err-boundary_of c = failed_last boundary_of c.in-Err-boundary_of.fault (all_of boundary_of (words_of c.args.text.now)) c.words.boundaries c.words.rest.now c.words.invariant.1 c.in-None.ensures c.in-Err-boundary_of.ensures
