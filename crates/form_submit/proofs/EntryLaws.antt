-- The files that the entry list of a form names.
use Rattle.std.proofs.Common.{◌≡◌, ℕ, List, [], ◌∷◌, map, Option, refl, sym, ap, subst}
use Rattle.std.specs.Prelude.{All, filter, flat_map}
use Rattle.std.proofs.lemmas.List.Elements.{All-append, All-head, All-nil, All-tail}
use Rattle.std.proofs.lemmas.Grind.{flat_map-append}
use Rattle.form_tree.specs.declared.node.Key.{Key}
use Rattle.form_tree.specs.declared.node.Node.{Node}
use Rattle.form_tree.specs.Selects.{options}
use Rattle.form_tree.specs.Tree.{Nodes}
use Rattle.form_encode.specs.declared.entry.Entry.{Entry}
use Rattle.form_ports.specs.Shelf.{IsThere}
use Rattle.form_page.specs.Page.{Page}
use Rattle.form_entries.specs.declared.gift.Gift.{Gift}
use Rattle.form_entries.specs.declared.gift.Gift.TheVariants as gifts
use Rattle.form_entries.specs.EntryList.{entries_by, entries_of, entry_list, file_entries, file_entry, gift_of, is_sent, name_in, text_entry, value_text}
use Rattle.form_parts.specs.Parts as multipart
use Rattle.form_submit.specs.Outcome.{HasFiles}

-- entries with texts name no file
no_numbers : (name : List ℕ) (text : Node → List ℕ) (options : Nodes) → multipart.file_numbers (map (λ option. text_entry name (text option)) options) ≡ []
unfolding multipart.file_numbers
no_numbers name text [] = refl
no_numbers name text (option ∷ options) = no_numbers name text options

-- entries with files name these
their_numbers : (page : Page) (name numbers : List ℕ) → multipart.file_numbers (map (file_entry page name) numbers) ≡ numbers
unfolding multipart.file_numbers
their_numbers page name [] = refl
their_numbers page name (number ∷ numbers) = ap (λ ns. number ∷ ns) (their_numbers page name numbers)

module _ (P : ℕ → Type 0) (page : Page) (at : ℕ × ℕ) where
  by_files : (name numbers : List ℕ) → All P numbers → All P (multipart.file_numbers (file_entries page name numbers))
  unfolding multipart.file_numbers
  by_files name [] all = All-nil P
  by_files name (number ∷ numbers) all = subst (All P) (sym (their_numbers page name (number ∷ numbers))) all

  by_gift : (n : Node) (gift : Gift) → All P n.state.files → All P (multipart.file_numbers (entries_by page at n gift))
  unfolding multipart.file_numbers
  by_gift n gifts.Nothing all = All-nil P
  by_gift n gifts.Coordinates all = All-nil P
  by_gift n gifts.Options all = subst (All P) (sym (no_numbers (name_in n) (λ option. value_text page option.key) (filter (is_sent page.tree.nodes) (options page.tree.nodes n.key)))) (All-nil P)
  by_gift n gifts.Files all = by_files (name_in n) n.state.files all
  by_gift n gifts.Charset all = All-nil P
  by_gift n gifts.Value all = All-nil P

  by_elements : (form : Key) (submitter : Option Key) (elements : Nodes) → All (λ n. All P n.state.files) elements
      → All P (multipart.file_numbers (flat_map (entries_of page form submitter at) elements))
  unfolding multipart.file_numbers
  by_elements form submitter [] all = All-nil P
  by_elements form submitter (n ∷ elements) all =
      let Q : Node → Type 0 = λ m. All P m.state.files in
      let here = entries_of page form submitter at n in
      let rest = flat_map (entries_of page form submitter at) elements in
      subst (All P) (sym (flat_map-append multipart.file_number here rest))
      (All-append P (flat_map multipart.file_number here) (flat_map multipart.file_number rest)
      (by_gift n (gift_of page.tree.nodes form submitter n) (All-head Q n elements all))
      (by_elements form submitter elements (All-tail Q n elements all)))

-- what holds of each file that an element names holds of each that the entry list names
pub named_all : (P : ℕ → Type 0) (page : Page) (form : Key) (submitter : Option Key) (at : ℕ × ℕ) → All (λ n. All P n.state.files) page.tree.nodes
    → All P (multipart.file_numbers (entry_list page form submitter at))
named_all P page form submitter at all = by_elements P page at form submitter page.tree.nodes all

-- each file that the entry list names stands on the shelf
pub named_there : (contents : List (Option (Option (List ℕ)))) (page : Page) (form : Key) (submitter : Option Key) (at : ℕ × ℕ) (entries : List Entry)
    → entries ≡ entry_list page form submitter at → HasFiles contents page.tree.nodes
    → All (λ number. IsThere contents number) (multipart.file_numbers entries)
named_there contents page form submitter at entries same files =
    subst (λ es. All (λ number. IsThere contents number) (multipart.file_numbers es)) (sym same)
    (by_elements (λ number. IsThere contents number) page at form submitter page.tree.nodes files.each)
