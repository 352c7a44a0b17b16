use Rattle.std.proofs.Common.{◌≡◌, ◌∙◌, ◌∷◌, ◌+◌, sym, ap, ℕ, List, Ok, arith}
use Rattle.std.specs.Char.{encode_utf8}
use Rattle.std.proofs.lemmas.Bool.Decides.{nat_tests}
use Rattle.form_tokens.proofs.Frequent.{frequent_boundary, frequent_value}
use Rattle.form_tokens.proofs.Texts.{clear_behind}
use Rattle.form_tokens.proofs.characters.common_chunk.Goals as goal

pub split_at-requires : goal.split_at-requires
split_at-requires c =
    let is : c.args.text.now ≡ c.in-Some.first.now ∷ c.in-Some.rest.now = grind (arith, c.as_bytes.ensures.value, c.in-Some.ensures.cases) in
    frequent_boundary c.in-Some-common_of.c c.in-Some-common_of.count c.in-Some.first.now c.args.text.now c.in-Some.rest.now is c.utf8.text c.in-Some-common_of.ensures

pub returns-clause-value : goal.returns-clause-value
returns-clause-value c =
    let is : c.args.text.now ≡ c.in-Some.first.now ∷ c.in-Some.rest.now = grind (arith, c.as_bytes.ensures.value, c.in-Some.ensures.cases) in
    let amp : c.in-Some.first.now ≡ 38 = grind (arith, nat_tests) in
    frequent_value c.in-Some-common_of.c c.in-Some-common_of.count c.in-Some.first.now c.args.text.now c.in-Some.rest.now is amp c.in-Some-common_of.ensures c.args.context ∙ ap (λ (xs : List ℕ). Ok (encode_utf8 c.in-Some-common_of.c, xs)) (sym c.split_at.ensures.back)

pub returns-clause-clear : goal.returns-clause-clear
returns-clause-clear c =
    rw c.saturating_sub.ensures (rw c.split_at.ensures.back (clear_behind c.args.context (c.in-Some-common_of.count + 1) c.args.clear c.args.text.now c.requires))
