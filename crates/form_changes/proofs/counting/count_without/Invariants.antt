use Rattle.std.proofs.Common.{◌≡◌, ◌+◌, ◌≤◌, not, drop, length}
use Rattle.std.specs.List.{filter}
use Rattle.form_tree.specs.Tree.{is_named}
use Rattle.form_changes.proofs.counting.count_without.Given as goal

-- the attributes of another name so far, and those that are left
abbrev pub invariant-loop-known : goal.invariant-loop-known
invariant-loop-known l = record {
  counted : l.count + length (filter (λ attr. not (is_named l.name attr)) (drop l.known-index l.attrs)) ≡ length (filter (λ attr. not (is_named l.name attr)) l.attrs);
  few : l.count ≤ l.known-index;
}
