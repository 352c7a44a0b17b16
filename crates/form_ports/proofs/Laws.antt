-- The laws for the crates above: bytes that a sink takes in several calls, and files on a shelf.
pub use Rattle.form_ports.proofs.WrittenLaws.{prepend_known-prepend, append_known-nil, append_known-append, WroteUpTo-more, WroteUpTo-part, WroteUpTo-end, WrotePart-front}
pub use Rattle.form_ports.proofs.WrittenLaws.{WrotePart-later, written-then}
pub use Rattle.form_ports.proofs.ShelfLaws.{found-at, IsThere-from_one, IsThere-within, IsThere-not_none, contents_of-set, at_number-set_other, told-at, number-set, number-set_ok}
pub use Rattle.form_ports.proofs.ShelfLaws.{number-set_done, NoneFell-same, NoneFell-trans, NoneFell-set, FileRose-set, FileRose-later, Err-again, LastSizes-none, LastSizes-one}
pub use Rattle.form_ports.proofs.ShelfLaws.{LastSizes-append, other-one, sum-append, AllZip-append}
pub use Rattle.form_ports.proofs.ReadingLaws.{Reading, Reading-start, Reading-of, Reading-more, Reading-end, Reading-longer}
