-- What crates above cite.
pub use Rattle.form_tokens.proofs.Chunks.{chunk_shorter}
pub use Rattle.form_tokens.proofs.Boundaries.{after_first, before_stop}
pub use Rattle.form_tokens.proofs.Kept.{Attr, IsKept, kept_is}
pub use Rattle.form_tokens.proofs.Numbers.{front_before}
pub use Rattle.form_tokens.proofs.Shorter.{Below, Each, Short, Within, attribute_short, behind_short, byte_short, byte_then, chunk_short, each_at, each_bind, each_if, many_within, run_short, shorter_still, space_within}
