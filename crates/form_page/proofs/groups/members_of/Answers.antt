use Rattle.std.proofs.Common.{◌≡◌, List, ℕ, true, sym, ◌∙◌, subst}
use Rattle.form_tree.specs.Elements.{is_empty_text}
use Rattle.form_page.proofs.MemberLaws.{alone_listed, empty_name, entered_listed, is_group, none_listed}
use Rattle.form_page.proofs.groups.members_of.Goals as goal

pub returns-then-not-is_radio : goal.returns-then-not-is_radio
returns-then-not-is_radio c = sym (none_listed c.args.tree.now.nodes c.args.node.now c.requires.there (sym c.if-not-is_radio.ensures))

pub returns-then-is_empty : goal.returns-then-is_empty
returns-then-is_empty c =
    c.from_ref.ensures.value
    ∙ sym (alone_listed c.args.tree.now.nodes c.len.ensures.tree c.args.node.now c.requires.there (sym c.if-not-is_radio.ensures)
    (subst (λ (s : List ℕ). is_empty_text s ≡ true) c.name_of-name.ensures (empty_name c.name_of-name.result.now c.if-is_empty.ensures)))

pub members-requires : goal.members-requires
members-requires c = is_group c.args.tree.now.nodes c.len.ensures.tree c.args.node.now.key c.owner_of.result c.name_of-name.result.now c.owner_of.ensures c.if-is_empty.ensures

pub returns : goal.returns
returns c =
    c.members.ensures ∙ entered_listed c.args.tree.now.nodes c.len.ensures.tree c.args.node.now c.requires.there (sym c.if-not-is_radio.ensures)
    c.args.groups.now c.requires.groups c.owner_of.result c.name_of-name.result.now c.owner_of.ensures c.name_of-name.ensures c.if-is_empty.ensures
