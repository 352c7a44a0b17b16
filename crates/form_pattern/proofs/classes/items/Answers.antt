use Rattle.std.proofs.Common.{◌≡◌, suc, ◌+◌, ◌-◌, length, Some, None, sym, ◌∙◌, arith}
use Rattle.form_pattern.specs.Characters.{after}
use Rattle.form_pattern.specs.Reading.{read_item}
use Rattle.form_pattern.proofs.LoopLemmas.{items_done, items_more, items_stop}
use Rattle.form_pattern.proofs.classes.items.Goals as goal

pub returns-in-Some : goal.returns-in-Some
returns-in-Some c =
    let left : length c.args.text.now - c.loop.counter ≡ suc (length c.args.text.now - (c.loop.counter + 1)) = omega (arith, c.loop-test.true) in
    let closed : after 93 c.loop.rest.now ≡ Some c.in-Some.behind.now = sym (rw c.in-Some.is at c.after.ensures) in
    sym (items_done c.loop.found.items _ _ c.loop.rest.now c.in-Some.behind.now left closed) ∙ c.loop.invariant

pub returns-in_default-read_item : goal.returns-in_default-read_item
returns-in_default-read_item c =
    let left : length c.args.text.now - c.loop.counter ≡ suc (length c.args.text.now - (c.loop.counter + 1)) = omega (arith, c.loop-test.true) in
    let open_still : after 93 c.loop.rest.now ≡ None = sym (rw c.in_default.is at c.after.ensures) in
    let no_item : read_item c.loop.rest.now ≡ None = sym (rw c.in_default-read_item.is at c.read_item.ensures) in
    sym (items_stop c.loop.found.items _ _ c.loop.rest.now left open_still no_item) ∙ c.loop.invariant

pub loop-preserved : goal.loop-preserved
loop-preserved c =
    let left : length c.args.text.now - c.loop.counter ≡ suc (length c.args.text.now - (c.loop.counter + 1)) = omega (arith, c.loop-test.true) in
    let open_still : after 93 c.loop.rest.now ≡ None = sym (rw c.in_default.is at c.after.ensures) in
    let one : read_item c.loop.rest.now ≡ Some (c.in-Some-read_item.one, c.in-Some-read_item.behind.now) = sym (rw c.in-Some-read_item.is at c.read_item.ensures) in
    rw c.in_ok-push.ensures.items (sym (items_more c.loop.found.items _ _ c.loop.rest.now c.in-Some-read_item.behind.now c.in-Some-read_item.one left open_still one) ∙ c.loop.invariant)
