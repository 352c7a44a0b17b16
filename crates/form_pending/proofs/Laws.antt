-- The laws for the crates above: texts that are said one after the other.
pub use Rattle.form_pending.proofs.SayingLaws.{says_nothing, says_kept, says_flushed, part_of_says, part_longer, part_nothing, part_lost, says_then, part_then, flushed_then, flushed_part, said_whole, said_part}
