-- The laws that other crates build on.
pub use Rattle.form_tree.proofs.Ancestors.{ancestors_step, ancestors_top, at_place, attr_passes, disabling_bounded, disabling_step, disabling_top, find_step, key_found, key_there, nearest_form_step, nearest_form_top, parent_before, parent_there, tag_absent, tag_passes}
pub use Rattle.form_tree.proofs.AttributeLaws.{attr_other, names_still_differ}
pub use Rattle.form_tree.proofs.Places.{at_key_place, place_in_shape}
pub use Rattle.form_tree.proofs.Tested.{tree_of_raws_tested}
pub use Rattle.form_tree.proofs.GroupLaws.{group-sym, group_refl, group_together, name_same, owner_same, select-sym, select_shared, shares_select}
pub use Rattle.form_tree.proofs.Images.{KeepsElements, KeepsOwners, above_image, at_key_image, at_key_map, attr_image, attr_of_map, find-map, is_multiple_map, is_option_of_map, owner_image, owner_of_map, parent_image, parent_of_map, passes_image, passes_map, reverse-map, select_of_image, share_group_image, share_group_map, share_select_image, share_select_map}
pub use Rattle.form_tree.proofs.Keys.{found_key, found_passes, keeps_where, key_same, passes_found, passes_there, same_key-refl, same_key-sym}
