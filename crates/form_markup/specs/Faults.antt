-- Which pieces have a fault, behind the pieces before them. `around` are the tags of the elements that are open round
-- the text, from the top.
use Rattle.std.specs.Prelude.{◌≡◌, ℕ, suc, ◌+◌, ◌==◌, ◌||◌, ◌&&◌, not, nat_le, Bool, false, List, [], ◌∷◌, ◌++◌, map, reverse, Option, Some, None, length, codes, if◌then◌else◌}
use Rattle.std.specs.List.{list_any}
use Rattle.std.specs.Str.{str_eq_ignore_ascii_case}
use denote.Enum.Bare.{sameb}
use Rattle.form_text.specs.Bytes.{hyphen}
use Rattle.form_tree.specs.contracts.node.Tag.{the_type as Tags}
use Rattle.form_tree.specs.declared.node.Tag.{Tag}
use Rattle.form_tree.specs.declared.node.Tag.TheVariants as tags
use Rattle.form_tree.specs.Tree.{attr_in}
use Rattle.form_types.specs.TypeTable.{names_email}
use Rattle.form_markup.specs.Names.{tag_named, is_among, refused_names}
use Rattle.form_markup.specs.Contents.{Tagged, Piece, Start, Void, Oversized, End, Characters, Ignored}
use Rattle.form_markup.specs.declared.TheConstants.{MOST_ELEMENTS, MOST_DEPTH}
use Rattle.form_tokens.specs.declared.fault.Fault.{Fault}
use Rattle.form_tokens.specs.declared.fault.Fault.TheVariants.{Limit, Element, Email, Nesting}

-- an element that is open: what it is, and its name
pub record Outer : Type 0 where
  pub tag : Tag
  pub name : List ℕ

abbrev pub outer_of : Tagged → Outer
outer_of tagged = record { tag = tag_named tagged.name; name = tagged.name }

-- the elements of the text that are open after a piece, the innermost first
abbrev pub opens : List Outer → Piece → List Outer
opens outers (Start tagged) = outer_of tagged ∷ outers
opens (outer ∷ outers) (End end) = outers
opens [] (End end) = []
opens outers _ = outers

-- how many elements the text has after a piece
abbrev pub counts : ℕ → Piece → ℕ
counts n (Start tagged) = suc n
counts n (Void tagged) = suc n
counts n _ = n

-- ---- nesting

abbrev pub is_tag : Tag → Tag → Bool
is_tag wanted tag = sameb Tags wanted tag

-- the tags of the elements round a piece, the innermost first
abbrev pub tags_round : List Tag → List Outer → List Tag
tags_round around outers = map (λ outer. outer.tag) outers ++ reverse around

-- one of the elements round a piece has the tag
abbrev pub is_inside : Tag → List Tag → Bool
is_inside wanted round = list_any (is_tag wanted) round

-- the parent has one of the tags
abbrev pub is_child_of : List Tag → List Tag → Bool
is_child_of parents [] = false
is_child_of parents (parent ∷ round) = list_any (λ wanted. is_tag wanted parent) parents

-- a form inside a form, or a button inside a button
abbrev pub is_in_itself : Tag → List Tag → Bool
is_in_itself tag round =
    (is_tag tags.Form tag && is_inside tags.Form round) || (is_tag tags.Button tag && is_inside tags.Button round)

-- inside a select, at any depth, an element other than option, optgroup and hr
abbrev pub is_odd_in_select : Tag → List ℕ → List Tag → Bool
is_odd_in_select tag name round =
    is_inside tags.Select round
    && not (is_tag tags.Choice tag || is_tag tags.Optgroup tag || str_eq_ignore_ascii_case name (codes "hr"))

-- inside an optgroup, at any depth, an element other than option
abbrev pub is_odd_in_optgroup : Tag → List Tag → Bool
is_odd_in_optgroup tag round = is_inside tags.Optgroup round && not (is_tag tags.Choice tag)

-- an option whose parent is not a select, an optgroup or a datalist
abbrev pub is_stray_option : Tag → List Tag → Bool
is_stray_option tag round =
    is_tag tags.Choice tag && not (is_child_of (tags.Select ∷ tags.Optgroup ∷ tags.Datalist ∷ []) round)

-- an optgroup whose parent is not a select
abbrev pub is_stray_optgroup : Tag → List Tag → Bool
is_stray_optgroup tag round = is_tag tags.Optgroup tag && not (is_child_of (tags.Select ∷ []) round)

-- an element of the tag and name may not stand inside these; inside an option no element may stand
abbrev pub is_misplaced : Tag → List ℕ → List Tag → Bool
is_misplaced tag name round =
    is_in_itself tag round || (is_odd_in_select tag name round || (is_odd_in_optgroup tag round
    || (is_inside tags.Choice round || (is_stray_option tag round || is_stray_optgroup tag round))))

-- ---- the other kinds

-- the element would be one too many, or lie too deep; an element at the top lies at depth 1
abbrev pub is_over_limit : List Tag → List Outer → ℕ → Bool
is_over_limit around outers n = nat_le MOST_ELEMENTS n || nat_le MOST_DEPTH (length around + length outers)

abbrev pub is_dash : ℕ → Bool
is_dash b = b == hyphen

-- the element is not read
abbrev pub is_refused : List ℕ → Bool
is_refused name = list_any is_dash name || is_among refused_names name

-- an input whose type is `email`, ASCII case-insensitively
abbrev pub is_email : Tag → List (List ℕ × List ℕ) → Bool
is_email tag attrs = is_tag tags.Input tag && names_email (attr_in attrs (codes "type"))

-- the fault of a tag that begins an element
unfoldable pub element_fault : List Tag → List Outer → ℕ → Tagged → Option Fault
element_fault around outers n tagged =
    if is_over_limit around outers n then Some Limit
    else (if is_refused tagged.name then Some Element
    else (if is_email (tag_named tagged.name) tagged.attrs then Some Email
    else (if is_misplaced (tag_named tagged.name) tagged.name (tags_round around outers) then Some Nesting else None)))

-- an end tag must be that of the innermost open element of the text
abbrev pub end_fault : List Outer → List ℕ → Option Fault
end_fault [] end = Some Nesting
end_fault (outer ∷ outers) end = if str_eq_ignore_ascii_case outer.name end then None else Some Nesting

-- the first fault of a piece, behind pieces that leave these elements open and have so many
abbrev pub fault_of : List Tag → List Outer → ℕ → Piece → Option Fault
fault_of around outers n (Start tagged) = element_fault around outers n tagged
fault_of around outers n (Void tagged) = element_fault around outers n tagged
fault_of around outers n Oversized = Some Limit
fault_of around outers n (End end) = end_fault outers end
fault_of around outers n (Characters bytes) = None
fault_of around outers n Ignored = None

-- none of the pieces has a fault
abbrev pub IsFine : List Tag → List Outer → ℕ → List Piece → Type 0
IsFine around outers n [] = Unit {0}
IsFine around outers n (piece ∷ pieces) =
    (fault_of around outers n piece ≡ None) × IsFine around (opens outers piece) (counts n piece) pieces

-- the elements that are open after pieces
abbrev pub opens_all : List Outer → List Piece → List Outer
opens_all outers [] = outers
opens_all outers (piece ∷ pieces) = opens_all (opens outers piece) pieces

-- how many elements there are after pieces
abbrev pub counts_all : ℕ → List Piece → ℕ
counts_all n [] = n
counts_all n (piece ∷ pieces) = counts_all (counts n piece) pieces
