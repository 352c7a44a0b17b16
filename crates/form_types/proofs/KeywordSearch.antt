-- One turn of the search for a keyword among the rows of the table.
use Rattle.std.proofs.Common.{◌≡◌, ℕ, ◌+◌, ◌<◌, Bool, true, false, cond, List, ◌∷◌, length, get_or, map, drop, refl, ap, sym, ◌∙◌}
use Rattle.std.specs.Prelude.{All, Some, find, unwrap_or}
use Rattle.std.specs.List.{list_all}
use Rattle.std.specs.Str.{bytes_eq, str_eq_ignore_ascii_case}
use Rattle.std.proofs.lemmas.Bool.Decides.{Decides-by_and}
use Rattle.std.proofs.lemmas.List.{at_drop_more, get_or-map}
use Rattle.std.proofs.lemmas.List.Elements.{All-get_or}
use Rattle.std.proofs.lemmas.Slice.Eq.{bytes_eq-Decides}
use Rattle.form_types.specs.declared.kind.Kind.{Kind}
use Rattle.form_types.specs.TypeTable.{TypeRow, type_table, text_row, row_of, keyword_of, kind_in}

-- each row of the table is the row of its state: it has that state's keyword
each_kept : All (λ r. keyword_of r.kind ≡ r.keyword) type_table
unfolding row_of
each_kept = (Decides-by_and (λ r. bytes_eq (keyword_of r.kind) r.keyword) (λ r. keyword_of r.kind ≡ r.keyword) (list_all (λ r. bytes_eq (keyword_of r.kind) r.keyword)) (λ r. bytes_eq-Decides (keyword_of r.kind) r.keyword) refl (λ _ _. refl) type_table).0 refl

-- the keyword of the i-th state is that of the i-th row
keyword_at : (word : List ℕ) (i : ℕ) (k d : Kind) → i < length type_table → k ≡ get_or (map (λ r. r.kind) type_table) i d → word ≡ keyword_of k → word ≡ (get_or type_table i text_row).keyword
keyword_at word i k d h e w =
    w
    ∙ ap keyword_of (e ∙ get_or-map (λ r. r.kind) type_table i text_row d h)
    ∙ All-get_or (λ r. keyword_of r.kind ≡ r.keyword) type_table i text_row h each_kept

-- what the search gives, by whether the first row's keyword is the text
first_row : (text : List ℕ) (r : TypeRow) (rs : List TypeRow) (b : Bool) → b ≡ str_eq_ignore_ascii_case text r.keyword → kind_in text (r ∷ rs) ≡ cond b r.kind (kind_in text rs)
unfolding kind_in
first_row text r rs true t = ap (λ c. (unwrap_or (cond c (Some r) (find (λ s. str_eq_ignore_ascii_case text s.keyword) rs)) text_row).kind) (sym t)
first_row text r rs false t = ap (λ c. (unwrap_or (cond c (Some r) (find (λ s. str_eq_ignore_ascii_case text s.keyword) rs)) text_row).kind) (sym t)

-- what the search gives from the i-th row on, by whether that row's keyword is the text
turn : (text word : List ℕ) (i : ℕ) (k d : Kind) (b : Bool) → i < length type_table → k ≡ get_or (map (λ r. r.kind) type_table) i d → word ≡ keyword_of k → b ≡ str_eq_ignore_ascii_case text word → kind_in text (drop i type_table) ≡ cond b k (kind_in text (drop (i + 1) type_table))
turn text word i k d b h e w t =
    at_drop_more (kind_in text) type_table i text_row h
    ∙ first_row text (get_or type_table i text_row) (drop (i + 1) type_table) b (t ∙ ap (str_eq_ignore_ascii_case text) (keyword_at word i k d h e w))
    ∙ ap (λ x. cond b x (kind_in text (drop (i + 1) type_table))) (sym (e ∙ get_or-map (λ r. r.kind) type_table i text_row d h))

pub kind_in-turn : (text word : List ℕ) (i : ℕ) (k d : Kind) (b : Bool) → i < length type_table → k ≡ get_or (map (λ r. r.kind) type_table) i d → word ≡ keyword_of k → b ≡ str_eq_ignore_ascii_case text word → b ≡ false → kind_in text (drop (i + 1) type_table) ≡ kind_in text (drop i type_table)
kind_in-turn text word i k d b h e w t f = sym (turn text word i k d b h e w t ∙ ap (λ c. cond c k (kind_in text (drop (i + 1) type_table))) f)

pub kind_in-found : (text word : List ℕ) (i : ℕ) (k d : Kind) (b : Bool) → i < length type_table → k ≡ get_or (map (λ r. r.kind) type_table) i d → word ≡ keyword_of k → b ≡ str_eq_ignore_ascii_case text word → b ≡ true → k ≡ kind_in text (drop i type_table)
kind_in-found text word i k d b h e w t f = sym (turn text word i k d b h e w t ∙ ap (λ c. cond c k (kind_in text (drop (i + 1) type_table))) f)
