use Rattle.std.proofs.Common.{◌∙◌, ◌≤◌, length, refl, arith}
use Rattle.std.proofs.lemmas.List.{length-take-le}
use Rattle.form_ports.proofs.Laws.{Reading-start, Reading-of, Reading-more, Reading-longer}
use Rattle.form_parts.specs.Parts.{Fed}
use Rattle.form_parts.proofs.FedLaws.{Fed-none, Fed-more, FedFile-end}
use Rattle.form_parts.proofs.file.scan_file.Goals as goal

pub reading-init : goal.reading-init
reading-init g c = (
  refl,
  Reading-start (λ bytes. Fed c.args.scan.now c.args.scan.now bytes) _ _ (c.in-Done.ensures.start refl) (Fed-none _),
  c.in-Done.ensures.start refl,
  omega arith,
  omega arith,
  refl,
)

pub reading-preserved : goal.reading-preserved
reading-preserved g c =
    let fits : c.in-Bytes.count ≤ length c.read_front.new.room =
    omega (arith, c.in-Bytes.ensures.within, c.in-Bytes.ensures.len, c.min-want.ensures, c.reading.invariant.5) in
    let long = length-take-le c.in-Bytes.count c.read_front.new.room fits in (
      c.in-Bytes.ensures.same ∙ c.reading.invariant.0,
      Reading-more (λ bytes. Fed c.args.scan.now c.reading.scan bytes)
          (λ bytes. Fed c.args.scan.now c.feed.new.self bytes) _ _ _ _ _ _
          c.reading.invariant.1 c.in-Bytes.ensures.bytes long
          (λ bytes so_far. Fed-more _ _ _ bytes _ so_far c.feed.ensures),
      omega (arith, c.in-Bytes.ensures.position, c.reading.invariant.2, long),
      omega (arith, c.reading-test.true, c.min-want.ensures, c.in-Bytes.ensures.within),
      omega (arith, c.in-Bytes.ensures.faults, c.reading.invariant.4),
      c.in-Bytes.ensures.len ∙ c.reading.invariant.5,
    )

pub returns-in-End-clause-fed : goal.returns-in-End-clause-fed
returns-in-End-clause-fed g c =
    FedFile-end _ _ _ _ _ _ (Reading-of _ _ _ _ _ c.in-Done.ensures.same c.reading.invariant.1) c.in-End.ensures.bytes
    (c.in-End.ensures.end refl)

pub returns-clause-longer : goal.returns-clause-longer
returns-clause-longer g c = λ long.
    Reading-longer (λ bytes. Fed c.args.scan.now c.reading.scan bytes) _ _ _ _
    (Reading-of _ _ _ _ _ c.in-Done.ensures.same c.reading.invariant.1) (omega (arith, c.reading-test.false))
