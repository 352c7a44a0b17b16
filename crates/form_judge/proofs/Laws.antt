-- The laws that other crates build on.
pub use Rattle.form_judge.proofs.FlagLaws.{bad_input_states, mutable_is, no_group, no_members, off_step, on_step, same_flags, same_flags_at}
pub use Rattle.form_judge.proofs.PatternLaws.{pattern_picked, pattern_stands, patterns_stand, recompiled_long}
pub use Rattle.form_judge.proofs.ValueLaws.{input_value, textarea_value}
