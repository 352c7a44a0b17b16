-- The two marks that at most one of each group bears: checked in a radio button group, and selected
-- in a select.
use Rattle.std.proofs.Common.{refl}
use Rattle.form_acts.proofs.Marks.{IsMarking}
use Rattle.form_page.specs.Settling.{not_selected, off}
use Rattle.form_tree.proofs.Laws.{group-sym, select-sym, share_group_map, share_select_map}
use Rattle.form_tree.specs.RadioGroup.{is_checked, share_group}
use Rattle.form_tree.specs.Selects.{is_selected, share_select}

-- a radio button group's one member is checked
pub radio_marking : IsMarking share_group is_checked off
radio_marking = record {
  symmetric = group-sym;
  kept = λ f keeps t j k. share_group_map f keeps t j k;
  keeps = record { key = λ n. refl; parent = λ n. refl; tag = λ n. refl; attrs = λ n. refl };
  clears = λ n. refl;
}

-- a select's one option is selected
pub select_marking : IsMarking share_select is_selected not_selected
select_marking = record {
  symmetric = select-sym;
  kept = λ f keeps t j k. share_select_map f keeps t j k;
  keeps = record { key = λ n. refl; parent = λ n. refl; tag = λ n. refl; attrs = λ n. refl };
  clears = λ n. refl;
}
