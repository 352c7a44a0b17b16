-- The entries of a select's options, by elements among which these are.
use Rattle.std.proofs.Common.{◌≡◌, ℕ, Bool, true, false, ◌&&◌, cond, List, [], ◌∷◌, ◌++◌, map, refl, sym, ap, ◌∙◌}
use Rattle.std.specs.List.{filter, flat_map}
use Rattle.form_tree.specs.declared.node.Node.{Node}
use Rattle.form_tree.specs.Selects.{is_option_of, options}
use Rattle.form_tree.specs.Tree.{Nodes}
use Rattle.form_encode.specs.declared.entry.Entry.{Entry}
use Rattle.form_page.specs.Page.{Page}
use Rattle.form_entries.specs.Below.{entry_by}
use Rattle.form_entries.specs.EntryList.{is_sent, name_in, option_entries, text_entry, value_text}

-- the entries of a select's options, by elements among which these are
pub entries_among : (page : Page) (n : Node) (xs : Nodes)
    → filter (λ m. is_option_of page.tree.nodes n.key m.key) xs ≡ options page.tree.nodes n.key
    → option_entries page n ≡ flat_map (entry_by page n.key (name_in n)) xs
entries_among page n xs among = ap (λ ys. map f (filter (is_sent page.tree.nodes) ys)) (sym among) ∙ go xs
  where
    f : Node → Entry
    f option = text_entry (name_in n) (value_text page option.key)

    p : Node → Bool
    p m = is_option_of page.tree.nodes n.key m.key

    one : (x : Node) (rest : Nodes) (a b : Bool)
        → is_sent page.tree.nodes x ≡ b
        → map f (filter (is_sent page.tree.nodes) (cond a (x ∷ rest) rest)) ≡ cond (a && b) (f x ∷ []) [] ++ map f (filter (is_sent page.tree.nodes) rest)
    one x rest true true e = ap (λ c. map f (cond c (x ∷ filter (is_sent page.tree.nodes) rest) (filter (is_sent page.tree.nodes) rest))) e
    one x rest true false e = ap (λ c. map f (cond c (x ∷ filter (is_sent page.tree.nodes) rest) (filter (is_sent page.tree.nodes) rest))) e
    one x rest false b e = refl

    go : (ys : Nodes) → map f (filter (is_sent page.tree.nodes) (filter p ys)) ≡ flat_map (entry_by page n.key (name_in n)) ys
    go [] = refl
    go (y ∷ ys) = one y (filter p ys) (p y) (is_sent page.tree.nodes y) refl ∙ ap (λ es. entry_by page n.key (name_in n) y ++ es) (go ys)
