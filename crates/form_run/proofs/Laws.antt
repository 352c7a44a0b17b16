-- What else can be relied on.
pub use Rattle.form_run.proofs.OneFront.{known_front, part_known, whole_known}
pub use Rattle.form_run.proofs.OneTranscript.{one_expected}
pub use Rattle.form_run.proofs.SoundLaws.{run_sound, session_sound}
pub use Rattle.form_run.proofs.OpenableLaws.{openable_read}
