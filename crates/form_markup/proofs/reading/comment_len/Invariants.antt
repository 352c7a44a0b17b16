use Rattle.std.proofs.Common.{◌+◌, ◌-◌, ◌≤◌, length}
use Rattle.form_markup.proofs.Comments.{NoneBy}
use Rattle.form_markup.proofs.reading.comment_len.Given as goal

abbrev pub invariant-ends : goal.invariant-ends
invariant-ends l = (l.done ≤ length l.bytes + 1) × NoneBy l.bytes l.done

abbrev pub decreases-ends : goal.decreases-ends
decreases-ends l = length l.bytes - l.done
