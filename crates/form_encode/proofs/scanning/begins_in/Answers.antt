use Rattle.std.proofs.Common.{arith, ◌≡◌, sym}
use Rattle.form_encode.proofs.MarkLaws.{found_of, nowhere_of, short_of}
use Rattle.form_encode.proofs.scanning.begins_in.Goals as goal

pub returns-then-own-run-clause-found : goal.returns-then-own-run-clause-found
returns-then-own-run-clause-found c =
    found_of _ _ _ _ _ _ _ c.as_bytes-text.ensures.value c.requires c.dashes_end-own.ensures.high (λ k. c.dashes_end-own.ensures.dashes k (omega arith))
    c.dashes_end-own.ensures.other _ _ _ c.behind.ensures c.behind-then-own-run.ensures c.starts_with.ensures.value c.if-own-run.true c.starts_with.ensures.bound

pub returns-then-own-run-clause-nowhere : goal.returns-then-own-run-clause-nowhere
returns-then-own-run-clause-nowhere c =
    nowhere_of _ _ _ _ _ _ _ c.as_bytes-text.ensures.value c.requires c.dashes_end-own.ensures.high (λ k. c.dashes_end-own.ensures.dashes k (omega arith))
    c.dashes_end-own.ensures.other _ _ _ c.behind.ensures c.behind-then-own-run.ensures c.starts_with.ensures.value

pub returns-else-own-run-clause-nowhere : goal.returns-else-own-run-clause-nowhere
returns-else-own-run-clause-nowhere c = λ _.
    short_of _ _ _ _ _ _ _ c.as_bytes-text.ensures.value c.requires c.dashes_end-own.ensures.high (λ k. c.dashes_end-own.ensures.dashes k (omega arith))
    c.dashes_end-own.ensures.other c.if-own-run.false
