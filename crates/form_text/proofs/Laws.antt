-- The laws that other crates build on.
pub use Rattle.form_text.proofs.FrontLaws.{behind_found, behind_again}
pub use Rattle.form_text.proofs.PlaceLaws.{position-cons}
pub use Rattle.form_text.proofs.ValueLaws.{some_if, some_map}
pub use Rattle.form_text.proofs.WhitespaceLaws.{without_newlines_again, stripped_again, stripped_keeps_none}
