use Rattle.std.proofs.Common.{refl, ◌≡◌, rules, arith}
use Rattle.form_encode.proofs.MarkLaws.{seen_not, seen_taken}
use Rattle.form_encode.proofs.scanning.see_boundary.Goals as goal
use Rattle.form_encode.proofs.scanning.see_boundary.Goals.{else-not-mark-via-then-not-mark+else-begins_in, else-not-mark-via-else-not-mark}

pub returns-else-not-mark : goal.returns-else-not-mark
returns-else-not-mark c = elim c.else-not-mark.branch [
  | else-not-mark-via-then-not-mark+else-begins_in w ↦
      seen_not _ _ _ _ _ c.requires.run c.requires.seen (grind (arith, w.if-not-mark.true)) (rw w.as_str.ensures at (w.begins_in.ensures.nowhere w.if-begins_in.false))
  | else-not-mark-via-else-not-mark w ↦ seen_taken _ _ _ (grind (arith, w.if-not-mark.false))
]
