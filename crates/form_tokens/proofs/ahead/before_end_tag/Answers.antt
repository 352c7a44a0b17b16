use Rattle.std.proofs.Common.{◌≡◌, ◌+◌, ◌<◌, ◌∙◌, ◌∷◌, List, ap, arith, codes, length, min, subst, sym, take, ℕ}
use Rattle.std.specs.List.{prefix_len}
use Rattle.memchr.specs.Find.{OccursAt}
use Rattle.form_tokens.specs.Runs.{is_other}
use Rattle.form_tokens.proofs.Texts.{clear_until, no_end_before}
use Rattle.form_tokens.proofs.ahead.before_end_tag.Goals as goal

pub returns-then-place-behind-clause-clear : goal.returns-then-place-behind-clause-clear
returns-then-place-behind-clause-clear c = λ n le g.
    let front : c.split_at.result.0.now ≡ take (min (c.args.near + 1) (length c.args.bytes.now)) c.args.bytes.now = c.split_at.ensures.front ∙ ap (λ k. take k c.args.bytes.now) c.one_more.ensures in
    clear_until n c.args.near c.args.bytes.now le g
    (λ k lt h.
    let there : OccursAt (c.in-Some.field-0-0.now ∷ c.in-Some.behind.now) (codes "</") k = subst (λ (xs : List ℕ). OccursAt xs (codes "</") k) (sym front ∙ c.in-Some.ensures.cases.0) h in
    let within : k < prefix_len (is_other 47) c.in-Some.behind.now = omega (arith, there.fits, c.before-place.ensures.value, c.if-place-behind.true) in
    no_end_before c.in-Some.field-0-0.now k c.in-Some.behind.now within there)

pub returns-then-front-place-eq60-clause-clear : goal.returns-then-front-place-eq60-clause-clear
returns-then-front-place-eq60-clause-clear c = λ n le g.
    let front : c.split_at.result.0.now ≡ take (min (c.args.near + 1) (length c.args.bytes.now)) c.args.bytes.now = c.split_at.ensures.front ∙ ap (λ k. take k c.args.bytes.now) c.one_more.ensures in
    clear_until n c.args.near c.args.bytes.now (omega (arith, c.min.ensures)) g
    (λ k lt h.
    let there : OccursAt (c.in-Some.field-0-0.now ∷ c.in-Some.behind.now) (codes "</") k = subst (λ (xs : List ℕ). OccursAt xs (codes "</") k) (sym front ∙ c.in-Some.ensures.cases.0) h in
    let within : k < prefix_len (is_other 47) c.in-Some.behind.now = omega (arith, lt, le, c.min.ensures, c.before-place.ensures.value) in
    no_end_before c.in-Some.field-0-0.now k c.in-Some.behind.now within there)

pub returns-in-Some-find-clause-clear : goal.returns-in-Some-find-clause-clear
returns-in-Some-find-clause-clear c = λ n le g.
    let front : c.split_at.result.0.now ≡ take (min (c.args.near + 1) (length c.args.bytes.now)) c.args.bytes.now = c.split_at.ensures.front ∙ ap (λ k. take k c.args.bytes.now) c.one_more.ensures in
    clear_until n c.args.near c.args.bytes.now (omega (arith, c.min-in-Some-find.ensures)) g
    (λ k lt h. c.in-Some-find.ensures.0.before k (omega arith) (omega (arith, lt, le, c.min-in-Some-find.ensures)) (subst (λ (xs : List ℕ). OccursAt xs (codes "</") k) (sym front) h))

pub returns-in-None-clause-clear : goal.returns-in-None-clause-clear
returns-in-None-clause-clear c = λ n le g.
    let front : c.split_at.result.0.now ≡ take (min (c.args.near + 1) (length c.args.bytes.now)) c.args.bytes.now = c.split_at.ensures.front ∙ ap (λ k. take k c.args.bytes.now) c.one_more.ensures in
    clear_until n c.args.near c.args.bytes.now le g
    (λ k lt h.
    let there : OccursAt c.split_at.result.0.now (codes "</") k = subst (λ (xs : List ℕ). OccursAt xs (codes "</") k) (sym front) h in
    c.in-None.ensures k (omega arith) (omega (arith, there.fits)) there)
