use Rattle.std.proofs.Common.{ℕ, List, ◌-◌, ◌+◌, ◌<◌, ◌≤◌, length, ap, arith, refl, ◌∙◌}
use Rattle.std.proofs.lemmas.Result.{IfOk-weaker}
use Rattle.form_tokens.specs.Characters.{joined}
use Rattle.form_markup.specs.Machine.{Level, levels_of, more_text}
use Rattle.form_markup.specs.declared.machine.Open.{Open}
use Rattle.form_markup.proofs.Narrow.{marks_stay}
use Rattle.form_markup.proofs.Stacks.{more_last}
use Rattle.form_markup.proofs.stack.Stack.write.Goals as goal

pub returns-clause-value : goal.returns-clause-value
returns-clause-value c =
    let o : Open = c.index_mut-open.result.now in
    let new : Open = record o { text = c.write_text-2.new.out } in
    let below : c.len-count.result - 1 < length c.self.inside.items.items = omega (arith, c.len-count.ensures, c.self.inside.items.ok.0, c.if-count-eq0.false) in
    let last : length c.self.inside.items.items ≤ c.len-count.result - 1 + 1 = omega (arith, c.len-count.ensures, c.self.inside.items.ok.0, c.if-count-eq0.false) in
    IfOk-weaker c.write_text-2.result _ _
    (λ rest e. (
      e.0,
      e.1,
      more_last (joined e.0) c.self.inside.items.items (c.len-count.result - 1) o new below last c.index_mut-open.ensures.value (ap (λ (t : List ℕ). let l : Level = record { place = o.place; tag = o.tag; name = o.name.now; text = t } in l) e.2)
          ∙ ap (λ (s : List Open). more_text (joined e.0) (levels_of s)) c.self.view_is,
    ))
    c.write_text-2.ensures.value

pub invariant_of-self : goal.invariant_of-self
invariant_of-self c =
    let o : Open = c.index_mut-open.result.now in
    let below : c.len-count.result - 1 < length c.self.inside.items.items = omega (arith, c.len-count.ensures, c.self.inside.items.ok.0, c.if-count-eq0.false) in
    let last : length c.self.inside.items.items ≤ c.len-count.result - 1 + 1 = omega (arith, c.len-count.ensures, c.self.inside.items.ok.0, c.if-count-eq0.false) in
    marks_stay c.self.inside.items.items (c.len-count.result - 1) o (record o { text = c.write_text-2.new.out }) below last c.index_mut-open.ensures.value refl refl c.self.invariant
