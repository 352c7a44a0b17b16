use Rattle.std.proofs.Common.{◌≡◌, take}
use Rattle.std.specs.List.{flat_map}
use Rattle.form_drafts.specs.Drafts.{renamed_in}
use Rattle.form_drafts.proofs.draft.Draft.renamed.Given as goal

-- the keys of the attributes' changes so far
abbrev pub invariant-loop-edit : goal.invariant-loop-edit
invariant-loop-edit l = l.keys.items ≡ flat_map renamed_in (take l.edit-index l.edit-items)
