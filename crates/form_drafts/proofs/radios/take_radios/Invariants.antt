use Rattle.std.proofs.Common.{◌≡◌, drop}
use Rattle.form_page.specs.Settling.{with_radios}
use Rattle.form_drafts.specs.Drafts.{AreLikeBut, AreOwnedBy}
use Rattle.form_drafts.proofs.radios.take_radios.Given as goal

-- the radio buttons that are left make of the elements so far what all make of the old ones
abbrev pub invariant-loop-key : goal.invariant-loop-key
invariant-loop-key l = record {
  made : record l.draft { nodes = with_radios l.draft.nodes (drop l.key-index l.keys) } ≡ record l.fn.draft { nodes = with_radios l.fn.draft.nodes l.keys };
  owners : AreOwnedBy l.draft.nodes l.draft.page.tree.nodes l.moved;
  like : AreLikeBut l.draft.nodes l.draft.page.tree.nodes l.joined;
}
