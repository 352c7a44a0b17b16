use Rattle.std.proofs.Common.{◌≡◌, drop}
use Rattle.form_owner.specs.Owners.{answer_of}
use Rattle.form_owner.proofs.owners.find_answer.Given as goal

-- no answer that is passed is of the key
abbrev pub invariant-loop-answer : goal.invariant-loop-answer
invariant-loop-answer l = answer_of (drop l.answer-index l.answers) l.key ≡ answer_of l.answers l.key
