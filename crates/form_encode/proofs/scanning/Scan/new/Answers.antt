use Rattle.std.proofs.Common.{arith}
use Rattle.form_encode.proofs.FedLaws.{begun, short_marks}
use Rattle.form_encode.proofs.scanning.Scan.new.Goals as goal

pub invariant_of-result : goal.invariant_of-result
invariant_of-result c = (omega arith, short_marks c.args.bounds.now _ c.requires c.in_ok-marks_of.ensures)

pub returns : goal.returns
returns c = begun _ c.in_ok-marks_of.field-0.items c.in_ok-marks_of.ensures
