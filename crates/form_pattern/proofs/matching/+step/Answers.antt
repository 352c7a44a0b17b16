use Rattle.std.specs.Box.{with_value}
use Rattle.std.proofs.Common.{sym}
use Rattle.form_pattern.specs.Pieces.{tree_of}
use Rattle.form_pattern.specs.Steps.{see, table_has}
use Rattle.form_pattern.proofs.NodeLemmas.{lone, tree-Either, tree-Ahead, step-Next, step-Many, seen-Next, seen-Either, seen-Many, seen-Ahead}
use Rattle.form_pattern.proofs.matching.+step.Goals as goal

pub returns-in-Some-clause-seen : goal.returns-in-Some-clause-seen
returns-in-Some-clause-seen t c =
    seen-Next (table_has c.args.tables.now) c.args.first c.args.here c.args.k c.args.node.now c.in-Next.a c.in-Next.b c.in-Next.behind c.in-Some.seen c.see_next-in-Some.result c.step.result c.args.then c.in-Next.is
    (lone c.in-Some.seen (see (table_has c.args.tables.now) c.args.first c.args.here c.args.k (tree_of c.in-Next.b.value)) (simp (c.in-Some.ensures.seen, c.deref.ensures)))
    c.see_next-in-Some.ensures
    (simp (c.step.ensures.seen, c.goes-before.ensures, c.deref_mut.ensures.value))

pub returns-in-Some-clause-notes : goal.returns-in-Some-clause-notes
returns-in-Some-clause-notes t c =
    step-Next (table_has c.args.tables.now) c.args.first c.args.here c.args.k c.args.node.now c.in-Next.a c.in-Next.b (with_value c.in-Next.a c.step.new.node) c.in-Next.b c.in-Next.behind c.in-Some.seen c.in-Next.is
    (simp (c.step.ensures.notes, c.goes-before.ensures, c.deref_mut.ensures.value))
    (sym (rw c.deref.ensures at c.in-Some.ensures.same))
    (lone c.in-Some.seen (see (table_has c.args.tables.now) c.args.first c.args.here c.args.k (tree_of c.in-Next.b.value)) (simp (c.in-Some.ensures.seen, c.deref.ensures)))

pub returns-in_default-clause-seen : goal.returns-in_default-clause-seen
returns-in_default-clause-seen t c =
    seen-Next (table_has c.args.tables.now) c.args.first c.args.here c.args.k c.args.node.now c.in-Next.a c.in-Next.b c.in-Next.behind c.step-b.result c.see_next-in-Next.result c.step-in-Next.result c.args.then c.in-Next.is
    (simp (c.step-b.ensures.seen, c.still-in-Next.ensures, c.deref_mut-in-Next.ensures.value))
    c.see_next-in-Next.ensures
    (simp (c.step-in-Next.ensures.seen, c.goes-before.ensures, c.deref_mut-in-Next-2.ensures.value))

pub returns-in_default-clause-notes : goal.returns-in_default-clause-notes
returns-in_default-clause-notes t c =
    step-Next (table_has c.args.tables.now) c.args.first c.args.here c.args.k c.args.node.now c.in-Next.a c.in-Next.b (with_value c.in-Next.a c.step-in-Next.new.node) (with_value c.in-Next.b c.step-b.new.node) c.in-Next.behind c.step-b.result c.in-Next.is
    (simp (c.step-in-Next.ensures.notes, c.goes-before.ensures, c.deref_mut-in-Next-2.ensures.value))
    (simp (c.step-b.ensures.notes, c.deref_mut-in-Next.ensures.value))
    (simp (c.step-b.ensures.seen, c.still-in-Next.ensures, c.deref_mut-in-Next.ensures.value))

pub returns-in-Either-clause-seen : goal.returns-in-Either-clause-seen
returns-in-Either-clause-seen t c =
    seen-Either (table_has c.args.tables.now) c.args.first c.args.here c.args.k c.args.node.now c.in-Either.a c.in-Either.b c.step-a.result c.step-b-in-Either.result c.see_either.result c.see_next-in-Either.result c.args.then c.in-Either.is
    (simp (c.step-a.ensures.seen, c.still-in-Either.ensures, c.deref_mut-in-Either.ensures.value))
    (simp (c.step-b-in-Either.ensures.seen, c.still-in-Either-2.ensures, c.deref_mut-in-Either-2.ensures.value))
    c.see_either.ensures
    c.see_next-in-Either.ensures

pub returns-in-Either-clause-notes : goal.returns-in-Either-clause-notes
returns-in-Either-clause-notes t c = simp (c.in-Either.is, tree-Either, c.step-a.ensures.notes, c.step-b-in-Either.ensures.notes, c.deref_mut-in-Either.ensures.value, c.deref_mut-in-Either-2.ensures.value)

pub returns-in-Many-clause-seen : goal.returns-in-Many-clause-seen
returns-in-Many-clause-seen t c =
    seen-Many (table_has c.args.tables.now) c.args.first c.args.here c.args.k c.args.node.now c.in-Many.a c.in-Many.round c.step-a-in-Many.result c.see_next-in-Many.result c.args.then c.in-Many.is
    (simp (c.step-a-in-Many.ensures.seen, c.still-in-Many.ensures, c.either.ensures, c.deref_mut-in-Many.ensures.value))
    c.see_next-in-Many.ensures

pub returns-in-Many-clause-notes : goal.returns-in-Many-clause-notes
returns-in-Many-clause-notes t c =
    step-Many (table_has c.args.tables.now) c.args.first c.args.here c.args.k c.args.node.now c.in-Many.a (with_value c.in-Many.a c.step-a-in-Many.new.node) c.in-Many.round c.step-a-in-Many.result c.in-Many.is
    (simp (c.step-a-in-Many.ensures.notes, c.either.ensures, c.deref_mut-in-Many.ensures.value))
    (simp (c.step-a-in-Many.ensures.seen, c.still-in-Many.ensures, c.either.ensures, c.deref_mut-in-Many.ensures.value))

pub returns-in-Ahead-clause-seen : goal.returns-in-Ahead-clause-seen
returns-in-Ahead-clause-seen t c =
    seen-Ahead (table_has c.args.tables.now) c.args.first c.args.here c.args.k c.args.node.now c.in-Ahead.absent c.in-Ahead.a c.goes.result c.flip.result c.step-a-in-Ahead.result c.see_next-in-Ahead.result c.args.then c.in-Ahead.is
    (simp (c.step-a-in-Ahead.ensures.seen, c.still-in-Ahead.ensures, c.deref_mut-in-Ahead.ensures.value))
    c.goes.ensures
    c.flip.ensures
    (simp (c.see_next-in-Ahead.ensures, c.still-in-Ahead-2.ensures))

pub returns-in-Ahead-clause-notes : goal.returns-in-Ahead-clause-notes
returns-in-Ahead-clause-notes t c = simp (c.in-Ahead.is, tree-Ahead, c.step-a-in-Ahead.ensures.notes, c.deref_mut-in-Ahead.ensures.value)
