-- The names of elements, which are compared ASCII case-insensitively.
use Rattle.std.specs.Prelude.{ℕ, Bool, List, [], ◌∷◌, codes, if◌then◌else◌}
use Rattle.std.specs.List.{list_any}
use Rattle.std.specs.Str.{str_eq_ignore_ascii_case}
use Rattle.form_tree.specs.declared.node.Tag.{Tag}
use Rattle.form_tree.specs.declared.node.Tag.TheVariants as tags

-- the name is one of these
abbrev pub is_among : List (List ℕ) → List ℕ → Bool
is_among words name = list_any (λ word. str_eq_ignore_ascii_case name word) words

-- the elements that have no contents and no end tag (HTML, "Void elements"), without those that are not read
abbrev pub void_names : List (List ℕ)
void_names =
    codes "br" ∷ codes "col" ∷ codes "hr" ∷ codes "img" ∷ codes "input" ∷ codes "link" ∷ codes "meta" ∷ codes "wbr" ∷ []

-- the elements that are not read, beside those with a `-` in their name
abbrev pub refused_names : List (List ℕ)
refused_names =
    codes "area" ∷ codes "base" ∷ codes "dialog" ∷ codes "embed" ∷ codes "frame" ∷ codes "frameset"
    ∷ codes "iframe" ∷ codes "image" ∷ codes "math" ∷ codes "meter" ∷ codes "noembed" ∷ codes "noframes"
    ∷ codes "noscript" ∷ codes "object" ∷ codes "output" ∷ codes "param" ∷ codes "plaintext" ∷ codes "progress"
    ∷ codes "script" ∷ codes "source" ∷ codes "style" ∷ codes "svg" ∷ codes "template" ∷ codes "title"
    ∷ codes "track" ∷ codes "xmp" ∷ []

-- the elements for which forms have a rule
abbrev pub tag_table : List (List ℕ × Tag)
tag_table =
    (codes "form", tags.Form) ∷ (codes "fieldset", tags.Fieldset) ∷ (codes "legend", tags.Legend)
    ∷ (codes "input", tags.Input) ∷ (codes "select", tags.Select) ∷ (codes "optgroup", tags.Optgroup)
    ∷ (codes "option", tags.Choice) ∷ (codes "textarea", tags.Textarea) ∷ (codes "button", tags.Button)
    ∷ (codes "datalist", tags.Datalist) ∷ []

-- what an element of the name is
unfoldable pub tag_in : List ℕ → List (List ℕ × Tag) → Tag
tag_in name [] = tags.Other
tag_in name (row ∷ rows) = if str_eq_ignore_ascii_case name row.0 then row.1 else tag_in name rows

abbrev pub tag_named : List ℕ → Tag
tag_named name = tag_in name tag_table
