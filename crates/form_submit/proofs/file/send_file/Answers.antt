use Rattle.std.proofs.Common.{arith, refl, ◌∙◌}
use Rattle.std.proofs.lemmas.List.{length-take, length-take-le}
use Rattle.form_submit.proofs.FileLaws.{plus_same, Reading-start, Reading-of, Reading-more, FilePart-now, FilePart-more}
use Rattle.form_submit.proofs.file.send_file.Goals as goal

pub returns-in-Failed-clause-part : goal.returns-in-Failed-clause-part
returns-in-Failed-clause-part g c = FilePart-now _ _ _ _ _ _ _ _ (Reading-start _ _ _ 0 refl) c.requires.told (omega arith)

pub reading-init : goal.reading-init
reading-init g c = (refl, Reading-start _ _ _ _ (c.in-Done.ensures.start refl), c.in-Done.ensures.start refl, omega arith, omega arith, omega arith, refl)

pub returns-in-Err-clause-part : goal.returns-in-Err-clause-part
returns-in-Err-clause-part g c =
    FilePart-more _ _ _ _ _ _ _ _ _ _ _ (Reading-of _ _ _ _ _ _ _ _ c.in-Done.ensures.same c.reading.invariant.1)
    c.in-Bytes.ensures.bytes c.in-Err.ensures.part c.requires.told
    (omega (arith, c.reading-test.true, c.min-most.ensures, c.in-Bytes.ensures.within, length-take c.in-Bytes.count c.read_front.new.room))

pub reading-preserved : goal.reading-preserved
reading-preserved g c = (
  c.in-Bytes.ensures.same ∙ c.reading.invariant.0,
  Reading-more _ _ _ _ _ _ _ _ _ _ _ _ c.reading.invariant.1 c.in-Bytes.ensures.bytes c.in-Ok.ensures.gathers
      (length-take-le c.in-Bytes.count c.read_front.new.room (omega (arith, c.in-Bytes.ensures.within, c.in-Bytes.ensures.len, c.min-most.ensures, c.reading.invariant.6))),
  c.in-Bytes.ensures.position
      ∙ plus_same _ _ _ _ c.reading.invariant.2
      (length-take-le c.in-Bytes.count c.read_front.new.room (omega (arith, c.in-Bytes.ensures.within, c.in-Bytes.ensures.len, c.min-most.ensures, c.reading.invariant.6))),
  omega (arith, c.reading-test.true, c.min-most.ensures, c.in-Bytes.ensures.within),
  omega (arith, c.in-Bytes.ensures.faults, c.reading.invariant.4),
  omega (arith, c.in-Ok.ensures.later, c.reading.invariant.5),
  c.in-Bytes.ensures.len ∙ c.reading.invariant.6,
)

pub returns-in-End-clause-part : goal.returns-in-End-clause-part
returns-in-End-clause-part g c =
    FilePart-now _ _ _ _ _ _ _ _ (Reading-of _ _ _ _ _ _ _ _ c.in-Done.ensures.same c.reading.invariant.1) c.requires.told c.reading.invariant.3

pub returns-in-Failed-read_front-clause-part : goal.returns-in-Failed-read_front-clause-part
returns-in-Failed-read_front-clause-part g c =
    FilePart-now _ _ _ _ _ _ _ _ (Reading-of _ _ _ _ _ _ _ _ c.in-Done.ensures.same c.reading.invariant.1) c.requires.told c.reading.invariant.3

pub returns-in-Bytes-read_front-clause-part : goal.returns-in-Bytes-read_front-clause-part
returns-in-Bytes-read_front-clause-part g c =
    FilePart-now _ _ _ _ _ _ _ _ (Reading-of _ _ _ _ _ _ _ _ c.in-Done.ensures.same c.reading.invariant.1) c.requires.told c.reading.invariant.3

pub returns-in-Failed-read_front-2-clause-part : goal.returns-in-Failed-read_front-2-clause-part
returns-in-Failed-read_front-2-clause-part g c =
    FilePart-now _ _ _ _ _ _ _ _ (Reading-of _ _ _ _ _ _ _ _ c.in-Done.ensures.same c.reading.invariant.1) c.requires.told c.reading.invariant.3
