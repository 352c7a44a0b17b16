use Rattle.std.proofs.Common.{arith, length-take}
use Rattle.form_input.proofs.MovedBytes.{Gave-behind, Gave-longer}
use Rattle.form_input.proofs.moves.read_all.Goals as goal

pub reading-preserved : goal.reading-preserved
reading-preserved g c = (
  Gave-behind _ _ _ _ _ _ _ _ _ _ _ c.reading.invariant.0 c.in-Ok.ensures.front c.in-Bytes.ensures.front c.in-Bytes.ensures.bytes c.in-Bytes.ensures.given,
  omega (arith, c.in-Bytes.ensures.within),
  omega (arith, c.in-Bytes.ensures.within, c.in-Bytes.ensures.len, c.in-Ok.ensures.most),
  omega (arith, c.in-Bytes.ensures.len, c.in-Ok.ensures.most),
  omega (arith, c.in-Bytes.ensures.faults),
)

pub returns-clause-long : goal.returns-clause-long
returns-clause-long g c = λ _. Gave-longer _ _ _ _ _ _ c.reading.invariant.0 (omega (arith, length-take c.reading.done c.reading.text.items, c.reading.text.ok.0))
