-- The default button and the blocking fields of a form are found among what it owns.
use Rattle.std.proofs.Common.{◌≡◌, List, length, ap, ◌∙◌, subst}
use Rattle.std.specs.List.{filter, find}
use Rattle.form_tree.specs.declared.node.Key.{Key}
use Rattle.form_tree.specs.Elements.{passes}
use Rattle.form_tree.specs.Tree.{IsTree, Nodes, Tree}
use Rattle.form_page.specs.Invalid.{is_owned_by, owned_by}
use Rattle.form_page.proofs.OwnedLaws.{count_found, first_found}
use Rattle.form_acts.specs.Clicking.{blocking_count, default_button, is_blocking, is_submitter}

module _ (ns : Nodes) (t : Tree) (same : t.nodes ≡ ns) (tree : IsTree t.nodes) (form : Key) (owned : List Key) (are : owned ≡ owned_by ns form) where
  pub default_found : find (passes is_submitter ns) owned ≡ default_button ns form
  default_found = ap (find (passes is_submitter ns)) are ∙ first_found ns is_submitter (is_owned_by ns form) (subst IsTree same tree)

  pub blocking_found : length (filter (passes is_blocking ns) owned) ≡ blocking_count ns form
  blocking_found = ap (λ (ks : List Key). length (filter (passes is_blocking ns) ks)) are ∙ count_found ns is_blocking (is_owned_by ns form) (subst IsTree same tree)
