use Rattle.std.proofs.Common.{ℕ, arith, length, length-append, take, sum_by, chars, ap, ◌∙◌}
use Rattle.std.proofs.Math.Seq.{take-length}
use Rattle.std.proofs.lemmas.Iterator.{YieldsList-from_chars}
use Rattle.std.proofs.lemmas.Iterator.Consumers.{YieldsList-turn, YieldsList-end}
use Rattle.std.proofs.lemmas.List.{length_push}
use Rattle.std.proofs.lemmas.List.Sums.{sum_by_more}
use Rattle.form_text.specs.Utf16.{code_units}
use Rattle.form_text.proofs.utf16.utf16_len.Goals as goal

pub loop-c-preserved : goal.loop-c-preserved
loop-c-preserved c =
    let t = YieldsList-turn (YieldsList-from_chars c.args.text.now c.utf8.text cc) c.loop-c.yielded _ c.loop-c.yielded_by _ _ c.in-Some.c c.in-Some.is c.next.ensures.steps in
    let cs = chars c.args.text.now in
    record {
      in_bytes = omega (arith, c.code_units-units.ensures.short, length-append {A = ℕ}, ap length c.in-Some.ensures.steps.0);
      front = rw (length_push c.loop-c.yielded c.in-Some.c) (omega (arith, sum_by_more code_units cs (length c.loop-c.yielded) c.in-Some.c t.0, ap code_units t.1, c.code_units-units.ensures.value));
    }

pub returns : goal.returns
returns c =
    let t = YieldsList-end (YieldsList-from_chars c.args.text.now c.utf8.text cc) c.loop-c.yielded _ c.loop-c.yielded_by _ _ c.in-None.is c.next.ensures.steps in
    let cs = chars c.args.text.now in
    c.loop-c.invariant.front ∙ ap (λ n. sum_by code_units (take n cs)) t.1 ∙ ap (sum_by code_units) (take-length cs)
