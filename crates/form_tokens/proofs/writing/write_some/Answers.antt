use Rattle.std.proofs.Common.{◌∷◌, ◌∙◌, []}
use Rattle.std.specs.Char.{encode_utf8}
use Rattle.form_tokens.specs.Characters.{chunk_of}
use Rattle.form_tokens.proofs.Parts.{one_part, part_shorter, written_both, written_one}
use Rattle.form_tokens.proofs.writing.write_some.Goals as goal

pub returns-in-Some-clause-parts : goal.returns-in-Some-clause-parts
returns-in-Some-clause-parts c = (
  c.in-Some.ensures.parts.0,
  c.in-Some.ensures.parts.1,
  written_both _ c.in-Some.shown.now (encode_utf8 c.in-Some.c) _ _ c.in-Some.ensures.parts.0 c.in_ok-write_chunk.ensures c.in_ok-push.ensures.bytes c.in-Some.ensures.parts.2,
)

pub returns-clause-parts : goal.returns-clause-parts
returns-clause-parts c = (
  chunk_of c.in_ok-chunk.chunk ∷ [],
  one_part c.args.context c.args.text.now (chunk_of c.in_ok-chunk.chunk) c.in_ok-chunk.rest.now c.requires.goes c.in_ok-chunk.ensures.part,
  c.in_ok-write_chunk-2.ensures ∙ written_one _ (chunk_of c.in_ok-chunk.chunk),
)

pub returns-clause-less : goal.returns-clause-less
returns-clause-less c = part_shorter c.args.context c.args.text.now (chunk_of c.in_ok-chunk.chunk) c.in_ok-chunk.rest.now c.in_ok-chunk.ensures.part
