-- How a form is submitted: its attributes, and those of its submitter (HTML, "Form submission attributes").
use Rattle.std.specs.Prelude.{ℕ, ◌||◌, Bool, List, [], Option, Some, None, codes, is_some, unwrap_or, if◌then◌else◌}
use Rattle.std.specs.Option.{option_and_then, option_or}
use Rattle.std.specs.Str.{str_eq_ignore_ascii_case}
use Rattle.form_tree.specs.declared.node.Key.{Key}
use Rattle.form_tree.specs.Tree.{Nodes, attr_of}
use Rattle.form_submit.specs.declared.attributes.Enctype.{Enctype}
use Rattle.form_submit.specs.declared.attributes.Enctype.TheVariants as enctypes
use Rattle.form_submit.specs.declared.attributes.Method.{Method}
use Rattle.form_submit.specs.declared.attributes.Method.TheVariants as methods

-- the value of the submitter's attribute of that name, where there is a submitter that has it
abbrev pub own_attribute : Nodes → Option Key → List ℕ → Option (List ℕ)
own_attribute ns submitter name = option_and_then (λ k. attr_of ns k name) submitter

-- The value of the submitter's attribute of the first name, which goes before the form's attribute of the
-- second, also where it is empty or unknown.
abbrev pub attribute_for : Nodes → Key → Option Key → List ℕ → List ℕ → Option (List ℕ)
attribute_for ns form submitter own name = option_or (own_attribute ns submitter own) (attr_of ns form name)

-- the method that a keyword names; GET where it is missing or unknown
abbrev pub method_named : Option (List ℕ) → Method
method_named None = methods.Get
method_named (Some keyword) =
    if str_eq_ignore_ascii_case keyword (codes "post") then methods.Post
    else if str_eq_ignore_ascii_case keyword (codes "dialog") then methods.Dialog
    else methods.Get

-- the encoding that a keyword names; form-urlencoded where it is missing or unknown
abbrev pub enctype_named : Option (List ℕ) → Enctype
enctype_named None = enctypes.Urlencoded
enctype_named (Some keyword) =
    if str_eq_ignore_ascii_case keyword (codes "multipart/form-data") then enctypes.Multipart
    else if str_eq_ignore_ascii_case keyword (codes "text/plain") then enctypes.Plain
    else enctypes.Urlencoded

abbrev pub method_of : Nodes → Key → Option Key → Method
method_of ns form submitter = method_named (attribute_for ns form submitter (codes "formmethod") (codes "method"))

abbrev pub enctype_of : Nodes → Key → Option Key → Enctype
enctype_of ns form submitter = enctype_named (attribute_for ns form submitter (codes "formenctype") (codes "enctype"))

-- the action as it is written; empty where there is none
abbrev pub action_of : Nodes → Key → Option Key → List ℕ
action_of ns form submitter = unwrap_or (attribute_for ns form submitter (codes "formaction") (codes "action")) []

-- the no-validate state
abbrev pub is_no_validate : Nodes → Key → Option Key → Bool
is_no_validate ns form submitter =
    is_some (own_attribute ns submitter (codes "formnovalidate")) || is_some (attr_of ns form (codes "novalidate"))
