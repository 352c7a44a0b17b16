use Rattle.std.proofs.Common.{ℕ, List, [], ◌∷◌, ◌++◌, Ok, Result, sym, ap, ◌∙◌}
use Rattle.form_tokens.specs.Kept.{added, kept_of, no_attributes}
use Rattle.form_tokens.specs.Readers.{◌>>=◌}
use Rattle.form_tokens.specs.Attributes.{attribute_at, begins_attribute}
use Rattle.form_tokens.specs.declared.attributes.Attributes.{Attributes}
use Rattle.form_tokens.specs.declared.fault.Fault.{Fault}
use Rattle.form_tokens.proofs.Kept.{added_more}
use Rattle.form_tokens.proofs.Many.{many_start, many_step, many_end, many_failed, begun_attribute}
use Rattle.form_tokens.proofs.Shorter.{attribute_short, each_at, Short}
use Rattle.form_tokens.proofs.attributes.attributes_of.Goals as goal

pub attributes-init : goal.attributes-init
attributes-init c = (([], c.new-attributes.ensures, many_start attribute_at begins_attribute c.args.text.now), c.utf8.text)

pub attributes-smaller : goal.attributes-smaller
attributes-smaller c = each_at (Short c.attributes.rest.now) (attribute_at c.attributes.rest.now) (c.in-Ok.attr, c.in-Ok.after.now) (attribute_short c.attributes.rest.now) c.in-Ok.ensures.value

pub attributes-preserved : goal.attributes-preserved
attributes-preserved c =
    let front : List (List ℕ × List ℕ) = c.attributes.invariant.0.0 in
    let short = each_at (Short c.attributes.rest.now) (attribute_at c.attributes.rest.now) (c.in-Ok.attr, c.in-Ok.after.now) (attribute_short c.attributes.rest.now) c.in-Ok.ensures.value in (
      (
        front ++ (c.in-Ok.attr ∷ []),
        c.in_ok-add-in-Ok.ensures ∙ (ap (λ (a : Attributes). added a c.in-Ok.attr) c.attributes.invariant.0.1 ∙ sym (added_more no_attributes front c.in-Ok.attr)),
        many_step attribute_at begins_attribute front c.attributes.rest.now c.args.text.now c.in-Ok.after.now c.in-Ok.attr c.attributes.invariant.0.2 (sym c.attributes-test.ensures) c.in-Ok.ensures.value short,
      ),
      c.in-Ok.ensures.utf8,
    )

pub returns-in-Err : goal.returns-in-Err
returns-in-Err c =
    many_failed attribute_at begins_attribute c.attributes.invariant.0.0 c.attributes.rest.now c.args.text.now (λ xs. Ok (kept_of xs.0, xs.1)) c.in-Err.stop c.attributes.invariant.0.2 (sym c.attributes-test.ensures) (begun_attribute c.attributes.rest.now c.attributes-test.ensures) c.in-Err.ensures.value

pub returns : goal.returns
returns c =
    let f : Result (List (List ℕ × List ℕ) × List ℕ) Fault → Result (Attributes × List ℕ) Fault = λ r. r >>= λ xs. Ok (kept_of xs.0, xs.1) in
    ap f (many_end attribute_at begins_attribute c.attributes.invariant.0.0 c.attributes.rest.now c.args.text.now c.attributes.invariant.0.2 (sym c.attributes-test.ensures))
    ∙ ap (λ (a : Attributes). Ok (let x : Attributes × List ℕ = (a, c.attributes.rest.now) in x)) (sym c.attributes.invariant.0.1)
