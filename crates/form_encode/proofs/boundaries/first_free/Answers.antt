use Rattle.std.proofs.Common.{arith, refl, map, string_bytes}
use Rattle.form_encode.specs.Boundaries.{IsFree}
use Rattle.form_encode.proofs.BoundaryLaws.{All-more, All-whole, item-at, within-map}
use Rattle.form_encode.proofs.boundaries.first_free.Goals as goal

pub choosing-preserved : goal.choosing-preserved
choosing-preserved c =
    All-more (λ boundary. ¬ (IsFree (map (λ part. part.items) c.args.parts.now) boundary)) string_bytes _ _ _ c.index-bounds-i.is
    c.choosing-test.true c.choosing.invariant (rw c.as_str.ensures.value at (c.if-is_free.ensures.taken refl))

pub returns : goal.returns
returns c =
    All-whole (λ boundary. ¬ (IsFree (map (λ part. part.items) c.args.parts.now) boundary)) string_bytes _ _
    (omega (arith, c.choosing-test.false)) c.choosing.invariant

pub returns-then-is_free : goal.returns-then-is_free
returns-then-is_free c = (
  within-map _ _ _ c.choosing-test.true,
  item-at (λ boundary. IsFree (map (λ part. part.items) c.args.parts.now) boundary) string_bytes _ _ _ c.index-bounds-i.is
      c.choosing-test.true (rw c.as_str.ensures.value at (c.if-is_free.ensures.free refl)),
  c.choosing.invariant,
)
