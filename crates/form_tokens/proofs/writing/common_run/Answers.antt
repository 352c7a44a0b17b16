use Rattle.std.proofs.Common.{◌≤◌, arith, length}
use Rattle.std.specs.Char.{encode_utf8}
use Rattle.form_tokens.proofs.Boundaries.{before_byte}
use Rattle.form_tokens.proofs.Parts.{run_reference}
use Rattle.form_tokens.proofs.Texts.{clear_behind, clear_within}
use Rattle.form_tokens.proofs.writing.common_run.Goals as goal

pub clear_run-requires : goal.clear_run-requires
clear_run-requires c = rw c.as_bytes.ensures.value (clear_within c.args.context c.args.clear c.args.text.now c.requires)

pub split_at-requires : goal.split_at-requires
split_at-requires c =
    let within : c.args.clear ≤ length c.args.text.now = clear_within c.args.context c.args.clear c.args.text.now c.requires in
    before_byte 38 c.args.text.now c.in-Some.count (omega arith) (rw c.as_bytes.ensures.value at c.in-Some.ensures.next)

pub common_chunk-requires : goal.common_chunk-requires
common_chunk-requires c = rw c.split_at.ensures.back (clear_behind c.args.context c.in-Some.count c.args.clear c.args.text.now c.requires)

pub returns-clause-parts : goal.returns-clause-parts
returns-clause-parts c =
    rw c.split_at.ensures.front ((run_reference c.args.context c.in-Some.count c.args.clear c.args.text.now (encode_utf8 c.in-Some-common_chunk.c) c.in-Some-common_chunk.behind.now c.requires c.in-Some.ensures.bound
    (rw c.as_bytes.ensures.value at c.in-Some.ensures.none) (rw c.as_bytes.ensures.value at c.in-Some.ensures.next) (rw c.split_at.ensures.back at c.in-Some-common_chunk.ensures.value)).0)

pub returns-clause-less : goal.returns-clause-less
returns-clause-less c =
    (run_reference c.args.context c.in-Some.count c.args.clear c.args.text.now (encode_utf8 c.in-Some-common_chunk.c) c.in-Some-common_chunk.behind.now c.requires c.in-Some.ensures.bound
    (rw c.as_bytes.ensures.value at c.in-Some.ensures.none) (rw c.as_bytes.ensures.value at c.in-Some.ensures.next) (rw c.split_at.ensures.back at c.in-Some-common_chunk.ensures.value)).1
