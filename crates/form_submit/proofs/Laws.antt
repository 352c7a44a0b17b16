-- The laws for the crates above: each file that an entry list names its elements name, and it stands on the shelf;
-- where its files tell their content a submission has one outcome; the pieces of a multipart body spell that body.
pub use Rattle.form_submit.proofs.BytesLaws.{multipart_bytes}
pub use Rattle.form_submit.proofs.EntryLaws.{named_all, named_there}
pub use Rattle.form_submit.proofs.OutcomeLaws.{one_outcome}
