-- The laws that other crates build on.
pub use Rattle.form_owner.proofs.OwnerLaws.{answer_of-owners_of, disabled-owners_of, kept_owner-owners_of}
