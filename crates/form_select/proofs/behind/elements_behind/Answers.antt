use Rattle.std.proofs.Common.{◌≡◌, ◌+◌, ◌-◌, List, drop, take, Some, sym, ap, ◌∙◌, subst, arith}
use Rattle.std.specs.List.{All, filter}
use Rattle.form_tree.specs.declared.node.Node.{Node}
use Rattle.form_tree.specs.Selects.{is_option_of}
use Rattle.form_tree.specs.Tree.{at_key}
use Rattle.form_select.specs.Options.{options_from}
use Rattle.form_select.proofs.BehindLaws.{no_select, options_among, own_keys_among}
use Rattle.form_select.proofs.WalkLaws.{options_start}
use Rattle.form_select.proofs.behind.elements_behind.Goals as goal

pub returns-in-Some-clause-options : goal.returns-in-Some-clause-options
returns-in-Some-clause-options c =
    let ns = c.args.tree.now.nodes in
    let s = c.args.select in
    let start = c.in-Some.place + 1 in
    let count = c.end_behind-end.result - start in
    let behind = c.split_at.ensures.back ∙ ap (drop start) c.nodes-nodes.ensures.value in
    let met : start + count ≡ c.end_behind-end.result = omega (arith, c.end_behind-end.ensures.order) in
    ap (filter (λ (n : Node). is_option_of ns s n.key)) (c.split_at-in-Some.ensures.front ∙ ap (take count) behind)
    ∙ options_among ns s start count
    (options_start ns c.nodes-nodes.ensures.tree s c.in-Some.place (sym c.in-Some.ensures.value))
    (ap (options_from ns s) met ∙ c.end_behind-end.ensures.end)

pub returns-in-Some-clause-there : goal.returns-in-Some-clause-there
returns-in-Some-clause-there c =
    let ns = c.args.tree.now.nodes in
    let start = c.in-Some.place + 1 in
    let count = c.end_behind-end.result - start in
    let behind = c.split_at.ensures.back ∙ ap (drop start) c.nodes-nodes.ensures.value in
    subst (λ (xs : List Node). All (λ n. at_key ns n.key ≡ Some n) xs)
    (sym (c.split_at-in-Some.ensures.front ∙ ap (take count) behind))
    (own_keys_among ns c.nodes-nodes.ensures.tree start count)

pub returns-in-None-clause-options : goal.returns-in-None-clause-options
returns-in-None-clause-options c =
    let ns = c.args.tree.now.nodes in
    ap (filter (λ (n : Node). is_option_of ns c.args.select n.key)) c.split_at-in-None.ensures.front
    ∙ no_select ns c.nodes-nodes.ensures.tree c.args.select c.in-None.ensures.value
