use Rattle.std.proofs.Common.{◌≡◌, [], map, take}
use Rattle.std.specs.List.{filter}
use Rattle.std.specs.BTreeMap.{get}
use Rattle.std.specs.Option.{option_map_or}
use Rattle.std.specs.Ordering.{nat_cmp}
use Rattle.form_tree.specs.declared.node.Key.{Key}
use Rattle.form_owner.specs.Owned.{is_owner_in}
use Rattle.form_owner.proofs.owned.Owned.build.Given as goal

-- of each form the elements that it owns among those so far
abbrev pub invariant-loop-answer : goal.invariant-loop-answer
invariant-loop-answer l =
    (form : Key) → option_map_or (λ keys. keys.items) (get nat_cmp l.lists form.0) [] ≡ map (λ answer. answer.key) (filter (is_owner_in form) (take l.answer-index l.answers))
