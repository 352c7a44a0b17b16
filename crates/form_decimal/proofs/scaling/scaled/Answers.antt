use Rattle.std.proofs.Common.{◌+◌, ◌-◌, ◌*◌, ◌%◌, ◌^◌, ◌<◌, ◌∙◌, ap, arith}
use Rattle.form_decimal.proofs.ScalingLemmas.{no_scale, scale_up, scale_back}
use Rattle.form_decimal.proofs.scaling.scaled.Goals as goal

pub returns-then-have-want-clause-none : goal.returns-then-have-want-clause-none
returns-then-have-want-clause-none c = λ m h.
    let last : 0 < c.args.t.value % 10 = c.args.t.last (omega arith) in
    no_scale c.args.t.value c.args.t.zeros (c.args.places + c.args.down) (c.args.up + 12) m (omega arith) last h.1

pub returns-in_default-clause-none : goal.returns-in_default-clause-none
returns-in_default-clause-none c = λ m h.
    let k = c.args.t.zeros + c.args.up + 12 - (c.args.places + c.args.down) in
    let e = scale_up c.args.t.value c.args.t.zeros (c.args.places + c.args.down) (c.args.up + 12) k m (omega arith) h.1 in
    omega (arith, e, h.0, c.in_default.ensures.none)

pub returns-then-units-clause-none : goal.returns-then-units-clause-none
returns-then-units-clause-none c = λ m h.
    let k = c.args.t.zeros + c.args.up + 12 - (c.args.places + c.args.down) in
    let e = scale_up c.args.t.value c.args.t.zeros (c.args.places + c.args.down) (c.args.up + 12) k m (omega arith) h.1 in
    omega (arith, e, h.0, c.in-Some.ensures.some)

pub returns-else-units-clause-some : goal.returns-else-units-clause-some
returns-else-units-clause-some c =
    let k = c.args.t.zeros + c.args.up + 12 - (c.args.places + c.args.down) in
    let e = scale_back c.args.t.value c.args.t.zeros (c.args.places + c.args.down) (c.args.up + 12) k (omega arith) in
    (omega arith, ap (λ x. x * 10 ^ (c.args.places + c.args.down)) c.in-Some.ensures.some.0 ∙ e)
