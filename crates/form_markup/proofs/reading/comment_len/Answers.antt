use Rattle.std.proofs.Common.{◌≡◌, ℕ, List, ◌+◌, ◌≤◌, drop, length, sym, ap, arith, ◌∙◌}
use Rattle.std.specs.List.{prefix_len}
use Rattle.form_markup.specs.Pieces.{is_before_end}
use Rattle.form_markup.proofs.Comments.{NoneBy, end_found, end_missing, none_by, none_to}
use Rattle.form_markup.proofs.reading.comment_len.Goals as goal

pub returns-then-ends_with : goal.returns-then-ends_with
returns-then-ends_with c =
    let count : c.before_end.result ≡ prefix_len is_before_end (drop c.ends.done c.args.bytes.now) = c.before_end.ensures.value ∙ ap (λ (bs : List ℕ). prefix_len is_before_end bs) c.split_at.ensures.back in
    let none : NoneBy c.args.bytes.now (c.ends.done + c.before_end.result) = none_to c.args.bytes.now c.ends.done (c.ends.done + c.before_end.result) (ap (λ n. c.ends.done + n) count) c.ends.invariant.1 in
    sym (end_found c.args.bytes.now (c.ends.done + c.before_end.result) (sym c.ends_with.ensures ∙ c.if-ends_with.true) none)

pub ends-preserved : goal.ends-preserved
ends-preserved c =
    let count : c.before_end.result ≡ prefix_len is_before_end (drop c.ends.done c.args.bytes.now) = c.before_end.ensures.value ∙ ap (λ (bs : List ℕ). prefix_len is_before_end bs) c.split_at.ensures.back in
    let none : NoneBy c.args.bytes.now (c.ends.done + c.before_end.result) = none_to c.args.bytes.now c.ends.done (c.ends.done + c.before_end.result) (ap (λ n. c.ends.done + n) count) c.ends.invariant.1 in
    (omega (arith, c.before_end.ensures.bound, c.split_at.ensures.back_len, c.ends-test.true), none_by c.args.bytes.now (c.ends.done + c.before_end.result) (sym c.ends_with.ensures ∙ c.if-ends_with.false) none)

pub returns : goal.returns
returns c =
    let behind : length c.args.bytes.now ≤ c.ends.done = omega (arith, c.ends-test.false) in
    sym (end_missing c.args.bytes.now c.ends.done behind c.ends.invariant.1)
