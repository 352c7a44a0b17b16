use Rattle.std.proofs.Common.{◌≡◌, List, ℕ, true, sym, ◌∙◌, subst}
use Rattle.form_tree.specs.Elements.{is_empty_text}
use Rattle.form_page.proofs.MemberLaws.{alone_optional, alone_required, empty_name, entered_lacks, is_group, no_group}
use Rattle.form_page.proofs.facts.is_group_missing.Goals as goal

pub returns-then-not-is_radio : goal.returns-then-not-is_radio
returns-then-not-is_radio c = sym (no_group c.args.tree.now.nodes c.args.node.now c.requires.there (sym c.if-not-is_radio.ensures))

pub returns-then-has_attr : goal.returns-then-has_attr
returns-then-has_attr c =
    alone_required c.args.tree.now.nodes c.len.ensures.tree c.args.node.now c.requires.there (sym c.if-not-is_radio.ensures)
    (subst (λ (s : List ℕ). is_empty_text s ≡ true) c.name_of-name.ensures (empty_name c.name_of-name.result.now c.if-is_empty.ensures)) c.if-has_attr.ensures

pub returns-else-has_attr : goal.returns-else-has_attr
returns-else-has_attr c =
    c.if-has_attr.false ∙ alone_optional c.args.tree.now.nodes c.len.ensures.tree c.args.node.now c.requires.there (sym c.if-not-is_radio.ensures)
    (subst (λ (s : List ℕ). is_empty_text s ≡ true) c.name_of-name.ensures (empty_name c.name_of-name.result.now c.if-is_empty.ensures)) c.if-has_attr.ensures

pub missing-requires : goal.missing-requires
missing-requires c = is_group c.args.tree.now.nodes c.len.ensures.tree c.args.node.now.key c.owner_of.result c.name_of-name.result.now c.owner_of.ensures c.if-is_empty.ensures

pub returns : goal.returns
returns c =
    c.missing.ensures ∙ entered_lacks c.args.tree.now.nodes c.len.ensures.tree c.args.node.now c.requires.there (sym c.if-not-is_radio.ensures)
    c.args.groups.now c.requires.groups c.owner_of.result c.name_of-name.result.now c.owner_of.ensures c.name_of-name.ensures c.if-is_empty.ensures
