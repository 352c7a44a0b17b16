-- The laws that other crates build on.
pub use Rattle.form_acts.proofs.ActSound.{act_sound}
pub use Rattle.form_acts.proofs.NamedFiles.{act_named}
pub use Rattle.form_acts.proofs.OpenedSound.{opened_sound}
