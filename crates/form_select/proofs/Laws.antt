-- The laws that other crates build on.
pub use Rattle.form_select.proofs.ChosenLaws.{select_is_one}
pub use Rattle.form_select.proofs.PlaceLaws.{at_own_key, kept_there, placed_node, read_there, unplaced}
