use Rattle.std.proofs.Common.{arith, sym, ap, ◌∙◌, take}
use Rattle.std.specs.Io.KnownBytes.{append_known}
use Rattle.form_ports.proofs.WrittenLaws.{append_known-more, append_known-nil, WrotePart-take}
use Rattle.form_ports.proofs.writing.write_all.Goals as goal

pub writing-preserved : goal.writing-preserved
writing-preserved g c = (
  append_known-more _ _ _ _ _ _ c.writing.invariant.0
      (c.in-Bytes.ensures.bytes
      ∙ ap (λ r. append_known (g.K.Sink.written c.writing.sink) (take c.in-Bytes.count r)) c.split_at.ensures.back),
  omega (arith, c.in-Bytes.ensures.within, c.split_at.ensures.back_len),
  omega (arith, c.in-Bytes.ensures.faults),
)

pub returns-in-Failed-clause-part : goal.returns-in-Failed-clause-part
returns-in-Failed-clause-part g c =
    WrotePart-take _ _ _ c.writing.done (c.in-Failed.ensures.bytes ∙ sym (append_known-nil _) ∙ c.writing.invariant.0)
