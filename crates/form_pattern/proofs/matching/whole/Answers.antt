use Rattle.std.proofs.Common.{rules, IsUtf8}
use Rattle.std.specs.Char.{IsScalar}
use Rattle.std.specs.Str.{chars}
use Rattle.form_pattern.specs.Pieces.{tree_of}
use Rattle.form_pattern.specs.Steps.{bare, table_has}
use Rattle.form_pattern.proofs.RunLemmas.{stands_first, stands_next, stands_last, empty_same, last_char, nil_chars}
use Rattle.form_pattern.proofs.matching.whole.Goals as goal

pub loop-c-init : goal.loop-c-init
loop-c-init c =
    let utf8 = c.utf8.value in
    rw (c.chars-rest.ensures.rest, c.goes-answer.ensures, c.place.ensures.seen, c.place.ensures.notes, c.is_empty.ensures, empty_same c.args.value.now utf8) (stands_first (table_has c.args.tables.now) (chars c.args.value.now) (tree_of c.args.node.now))

pub loop-c-preserved : goal.loop-c-preserved
loop-c-preserved c =
    let front = c.next_back.new.self.rest.now in
    let utf8 : IsUtf8 front = rw (← c.as_str.ensures) c.as_str.utf8 in
    let scalar : IsScalar c.in-Some.c = search rules in
    let read = last_char front c.loop-c.rest.rest.now c.in-Some.c utf8 scalar c.in-Some.ensures.steps in
    let before = rw read at c.loop-c.invariant in
    rw (c.goes-answer-in-Some.ensures, c.place-in-Some.ensures.seen, c.place-in-Some.ensures.notes, c.is_empty-first.ensures, c.as_str.ensures, empty_same front utf8) (stands_next (table_has c.args.tables.now) (chars c.args.value.now) (bare (tree_of c.args.node.now)) (chars front) c.in-Some.c (tree_of c.loop-c.node) c.loop-c.answer c.loop-c.end before)

pub returns-clause-answer : goal.returns-clause-answer
returns-clause-answer c =
    let nothing = nil_chars c.loop-c.rest.rest.now c.in_default.ensures.steps.0 in
    stands_last (table_has c.args.tables.now) (chars c.args.value.now) (bare (tree_of c.args.node.now)) (tree_of c.loop-c.node) c.loop-c.answer c.loop-c.end (rw nothing at c.loop-c.invariant)
