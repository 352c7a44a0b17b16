use Rattle.std.proofs.Common.{◌≡◌, ℕ, ◌-◌, List, drop, length, subst, sym}
use Rattle.form_tokens.specs.Ahead.{IsClear}
use Rattle.form_tokens.proofs.Behind.{reference_behind}
use Rattle.form_tokens.proofs.Texts.{clear_behind}
use Rattle.form_tokens.proofs.characters.reference_part.Goals as goal

pub returns-clause-clear : goal.returns-clause-clear
returns-clause-clear c =
    let count : ℕ = length c.args.text.now - length c.in_ok-c.rest.now in
    let behind : c.in_ok-c.rest.now ≡ drop count c.args.text.now = reference_behind c.args.text.now c.in_ok-rest.rest.now c.in_ok-c.rest.now c.in_ok-c.c c.in_ok-rest.ensures c.in_ok-c.ensures in
    rw c.saturating_sub.ensures (rw c.saturating_sub-count.ensures
    (subst (λ (rest : List ℕ). IsClear c.args.context (c.args.clear - count) rest) (sym behind) (clear_behind c.args.context count c.args.clear c.args.text.now c.requires.clear)))
