-- What crates above cite.
pub use Rattle.form_replies.proofs.SaidLaws.{part_as, part_of_said, part_so, said_as, said_so, says_part, says_said}
pub use Rattle.form_replies.proofs.WithdrawnLaws.{contents_without}
