use Rattle.std.proofs.Common.{◌≡◌, map, take}
use Rattle.form_page.specs.Page.{names_of}
use Rattle.form_page.specs.Views.{sight_if}
use Rattle.form_page.proofs.sight.all_sights.Given as goal

-- the sights of the elements so far
abbrev pub invariant-loop-place : goal.invariant-loop-place
invariant-loop-place l = l.sights.items ≡ map (sight_if (names_of l.files) l.tree.nodes) (take l.place l.nodes)
