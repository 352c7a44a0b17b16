-- The laws that other crates build on.
pub use Rattle.form_script.proofs.PartLaws.{line_found, line_there, one_command}
pub use Rattle.form_script.proofs.QuotedLaws.{quoted_back}
pub use Rattle.form_script.proofs.SpellingLaws.{literal_found, literal_there, one_text}
pub use Rattle.form_script.proofs.WordLaws.{boundary_found, boundary_there, key_found, key_there, key_whole, mark_found, mark_there, name_found, name_there, name_whole, number_found, number_there, number_whole, positive_found, positive_there, positive_whole}
