-- The laws that other crates build on, a record for each kind of valid strings.
pub use Rattle.form_calendar.proofs.StringLaws.{StringLaws}
pub use Rattle.form_calendar.proofs.DateTexts.{date_laws}
pub use Rattle.form_calendar.proofs.MonthLemmas.{month_laws}
pub use Rattle.form_calendar.proofs.WeekTexts.{week_laws}
pub use Rattle.form_calendar.proofs.TimeTexts.{time_laws}
pub use Rattle.form_calendar.proofs.LocalTexts.{local_laws}
