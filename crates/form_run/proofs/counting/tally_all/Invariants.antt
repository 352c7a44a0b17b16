use Rattle.std.proofs.Common.{◌≡◌, ◌+◌, ◌*◌, ◌≤◌, ◌^◌, drop, map}
use Rattle.std.specs.Prelude.{string_bytes}
use Rattle.form_run.specs.Counting.{changed_in, page_after_all, refused_in}
use Rattle.form_run.proofs.counting.tally_all.Given as goal

-- what is counted so far, and of the lines that are left
abbrev pub invariant-loop-line : goal.invariant-loop-line
invariant-loop-line g l =
    (l.all.refused + refused_in l.page (map string_bytes (drop l.line-index l.lines)) ≡ refused_in l.initial.page (map string_bytes l.lines))
    × (l.all.changed + changed_in l.page (map string_bytes (drop l.line-index l.lines)) ≡ changed_in l.initial.page (map string_bytes l.lines))
    × (page_after_all l.page (map string_bytes (drop l.line-index l.lines)) ≡ page_after_all l.initial.page (map string_bytes l.lines))
    × (l.all.refused ≤ l.line-index)
    × (l.all.changed ≤ l.line-index * 2 ^ 64)
