use Rattle.form_markup.proofs.AnswerLaws.{answer_never, answer_read}
use Rattle.form_markup.proofs.Once.{once, one_fault, apart}
use Rattle.form_markup.proofs.page.one_answer.Goals as goal

pub returns-clause-list : goal.returns-clause-list
returns-clause-list c = once

pub returns-clause-fault : goal.returns-clause-fault
returns-clause-fault c = one_fault

pub returns-clause-apart : goal.returns-clause-apart
returns-clause-apart c = apart

pub returns-clause-answer : goal.returns-clause-answer
returns-clause-answer c = answer_read

pub returns-clause-never : goal.returns-clause-never
returns-clause-never c = answer_never
