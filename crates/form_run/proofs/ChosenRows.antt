-- Which files are chosen, worked by hand, by computing the definitions.
use Rattle.std.proofs.Common.{◌≡◌, ℕ, List, [], ◌∷◌, Some, None, Option, codes, refl}
use Rattle.std.specs.Option.{option_map}
use Rattle.form_types.specs.TypeTable.{kind_in, row_of}
use Rattle.form_tree.specs.declared.node.Key.{Key}
use Rattle.form_tree.specs.declared.node.Node.{Node}
use Rattle.form_tree.specs.declared.node.Tag.{Tag}
use Rattle.form_tree.specs.declared.node.Tag.TheVariants as tags
use Rattle.form_tree.specs.Tree.{empty_state}
use Rattle.form_page.specs.Page.{Page, new_file}
use Rattle.form_changes.specs.declared.act.Act.TheVariants as acts
use Rattle.form_run.specs.declared.asked.Asked.{Asked}
use Rattle.form_run.specs.declared.asked.Asked.TheVariants as asks
use Rattle.form_run.specs.Chosen.{chosen, named_in}
use Rattle.form_run.specs.Session.{page_after}

abbrev key : ℕ → Key
key n = record { 0 = n }

abbrev element : ℕ → Option ℕ → Tag → List (List ℕ × List ℕ) → Node
element k parent tag attrs = record {
  key = key k;
  parent = option_map key parent;
  tag = tag;
  attrs = attrs;
  text = [];
  state = empty_state;
}

-- a form with a file input and a text input, and two files
page : Page
page = record {
  tree = record {
    nodes = element 1 None tags.Form []
        ∷ element 2 (Some 1) tags.Input ((codes "type", codes "file") ∷ [])
        ∷ element 3 (Some 1) tags.Input []
        ∷ [];
    used = 3;
  };
  files = new_file (codes "one") ∷ new_file (codes "two") ∷ [];
}

abbrev choose : ℕ → List ℕ → Asked
choose k files = asks.Act (acts.Choose (key k) files)

-- a file input is given its file
accepted : chosen page (choose 2 (2 ∷ [])) ≡ 2 ∷ []
unfolding page kind_in row_of
accepted = refl

-- a text input has none
wrong_kind : chosen page (choose 3 (2 ∷ [])) ≡ []
unfolding page kind_in row_of
wrong_kind = refl

-- there is no third file
no_file : chosen page (choose 2 (3 ∷ [])) ≡ []
unfolding page kind_in row_of
no_file = refl

-- without `multiple` one file alone is chosen
too_many : chosen page (choose 2 (1 ∷ 2 ∷ [])) ≡ []
unfolding page kind_in row_of
too_many = refl

-- the file is named then, until it is withdrawn
named : named_in (page_after page (choose 2 (2 ∷ []))) ≡ 2 ∷ []
unfolding page kind_in row_of named_in
named = refl

withdrawn : named_in (page_after (page_after page (choose 2 (2 ∷ []))) (asks.Act (acts.Withdraw 2))) ≡ []
unfolding page kind_in row_of named_in
withdrawn = refl

-- and none is, where the choice is refused
none_named : named_in (page_after page (choose 3 (2 ∷ []))) ≡ []
unfolding page kind_in row_of named_in
none_named = refl
