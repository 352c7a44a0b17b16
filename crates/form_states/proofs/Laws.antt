-- The laws that other crates build on.
pub use Rattle.form_states.specs.NumberLaws.{number_found, number_again, text_is, text_back, text_there}
pub use Rattle.form_states.proofs.Exactness.{sanitised_is}
