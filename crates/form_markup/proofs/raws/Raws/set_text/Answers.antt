use Rattle.std.proofs.Common.{sym, ap, ◌∙◌, ◌≤◌, ◌<◌, length, arith}
use Rattle.form_markup.specs.Machine.{with_text}
use Rattle.form_markup.proofs.Stacks.{text_within, text_past}
use Rattle.form_markup.proofs.raws.Raws.set_text.Goals as goal

pub returns-then-place-len : goal.returns-then-place-len
returns-then-place-len c =
    let lt : c.args.place < length c.self.inside.items.items = omega (arith, c.self.inside.items.ok.0) in
    text_within c.args.place c.args.text c.self.inside.items.items c.index_mut-raw.result.now c.index_mut-raw.ensures.value lt
    ∙ ap (with_text c.args.place c.args.text) c.self.view_is

pub returns-else-place-len : goal.returns-else-place-len
returns-else-place-len c =
    let ge : length c.self.inside.items.items ≤ c.args.place = omega (arith, c.self.inside.items.ok.0) in
    sym c.self.view_is ∙ (text_past c.args.place c.args.text c.self.inside.items.items ge ∙ ap (with_text c.args.place c.args.text) c.self.view_is)
