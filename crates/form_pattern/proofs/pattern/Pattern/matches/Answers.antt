use Rattle.std.specs.Str.{chars}
use Rattle.std.proofs.lemmas.Str.{scalars-chars}
use Rattle.form_pattern.specs.Steps.{bare}
use Rattle.form_pattern.specs.Pieces.{tree_of}
use Rattle.form_pattern.proofs.WholeLemmas.{whole_answer, known_chars}
use Rattle.form_pattern.proofs.DecidingLemmas.{whole_truth}
use Rattle.form_pattern.proofs.pattern.Pattern.matches.Goals as goal

pub returns-clause-answer : goal.returns-clause-answer
returns-clause-answer c =
    let known = known_chars (chars c.args.value.now) (scalars-chars c.args.value.now c.utf8.value) in
    rw (← c.self.view_is) (whole_answer c.self.inside.tables.items (bare (tree_of c.self.inside.node)) c.self.inside.characters (chars c.args.value.now) c.whole.result known c.self.invariant (rw c.as_slice.ensures.value at c.whole.ensures.answer))

pub returns-clause-value : goal.returns-clause-value
returns-clause-value c =
    let known = known_chars (chars c.args.value.now) (scalars-chars c.args.value.now c.utf8.value) in
    rw (← c.self.view_is) (whole_truth c.self.inside.tables.items (bare (tree_of c.self.inside.node)) c.self.inside.characters (chars c.args.value.now) c.whole.result known c.self.invariant (rw c.as_slice.ensures.value at c.whole.ensures.answer))
