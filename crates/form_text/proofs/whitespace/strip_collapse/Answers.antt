use Rattle.std.proofs.Common.{ap, sym, ◌∙◌, string_bytes}
use Rattle.std.specs.Str.Iter.{split_ascii_whitespace_text}
use Rattle.form_text.proofs.WordLaws.{words_step, words_none, written, written_more, written_all}
use Rattle.form_text.proofs.whitespace.strip_collapse.Goals as goal

pub loop-word-preserved : goal.loop-word-preserved
loop-word-preserved c =
    let step = c.in-Some.ensures.steps in
    let parts = step.3 in
    let first = words_step (split_ascii_whitespace_text c.loop-word.word-iterator) parts.0 c.in-Some.word.now parts.1 (split_ascii_whitespace_text c.next.new.self) parts.2 parts.3 step.0 step.1 parts.4.0 parts.4.1 parts.4.2 in
    rw c.in_ok-push_word.ensures
    (written_more (string_bytes c.loop-word.out) c.in-Some.word.now _ step.0 ∙ ap (written (string_bytes c.loop-word.out)) (sym first) ∙ c.loop-word.invariant)

pub returns : goal.returns
returns c =
    let none = words_none (split_ascii_whitespace_text c.loop-word.word-iterator) c.in-None.ensures.steps.0 in
    sym (written_all (string_bytes c.loop-word.out)) ∙ ap (written (string_bytes c.loop-word.out)) (sym none) ∙ c.loop-word.invariant
