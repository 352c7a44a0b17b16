-- The law for the crates above.
pub use Rattle.form_parts.proofs.PartLaws.{part_told}
