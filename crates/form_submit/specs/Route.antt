-- Where a submission leads before its entry list is made (HTML, "Form submission algorithm").
use Rattle.std.specs.Prelude.{ℕ, not, ◌&&◌, ◌||◌, ◌==◌, Bool, List, [], ◌∷◌, length, map, Option, Some, Ok, Err, codes, bytes_eq, if◌then◌else◌}
use Rattle.url.specs.Parser.{Parsed, parse_url}
use Rattle.url.specs.Parts.{Parts}
use Rattle.form_tree.specs.declared.node.Key.{Key}
use Rattle.form_tree.specs.Tree.{Nodes}
use Rattle.form_page.specs.Invalid.{invalid_controls}
use Rattle.form_submit.specs.declared.attributes.Enctype.{Enctype}
use Rattle.form_submit.specs.declared.attributes.Enctype.TheVariants as enctypes
use Rattle.form_submit.specs.declared.attributes.Method.{Method}
use Rattle.form_submit.specs.declared.attributes.Method.TheVariants as methods
use Rattle.form_submit.specs.declared.route.Deed.{Deed}
use Rattle.form_submit.specs.declared.route.Deed.TheVariants as deeds
use Rattle.form_submit.specs.declared.route.Direct.TheVariants as directs
use Rattle.form_submit.specs.declared.route.Route.{Route}
use Rattle.form_submit.specs.declared.route.Route.TheVariants as routes
use Rattle.form_submit.specs.declared.route.Way.TheVariants as ways
use Rattle.form_submit.specs.Attributes.{action_of, enctype_of, is_no_validate, method_of}

-- ---- validation

-- the invalid controls of a form, in tree order
abbrev pub invalid_keys : Nodes → Key → List Key
invalid_keys ns form = map (λ n. n.key) (invalid_controls ns form)

-- those that stop a submission: none where it is not validated
abbrev pub stopping_keys : Nodes → Key → Option Key → Bool → List Key
stopping_keys ns form submitter check =
    if check && not (is_no_validate ns form submitter) then invalid_keys ns form else []

-- ---- the action

-- the parsed action: an empty action is the document's URL itself
abbrev pub parsed_action : Parts → List ℕ → Parsed Parts
parsed_action base action = if length action == 0 then Ok base else parse_url (Some base) action

-- ---- the table of schemes

-- that deed for POST; every other method sends the pairs as the query
abbrev pub for_post : Method → Deed → Deed
for_post methods.Post deed = deed
for_post method deed = deeds.Query

-- What is done with a URL of that scheme. (No request is made for `javascript`, `mailto` and `file`.)
abbrev pub deed_of : List ℕ → Method → Deed
deed_of scheme method =
    if bytes_eq scheme (codes "http") || bytes_eq scheme (codes "https") then for_post method deeds.Body
    else if bytes_eq scheme (codes "data") then for_post method deeds.AsItIs
    else if bytes_eq scheme (codes "ftp") then deeds.AsItIs
    else deeds.Nothing

-- ---- the route

-- a body of that encoding type
abbrev pub route_of_body : Parts → Enctype → Route
route_of_body url enctypes.Urlencoded = routes.Direct (directs.Listed url ways.Urlencoded)
route_of_body url enctypes.Multipart = routes.Multipart url
route_of_body url enctypes.Plain = routes.Direct (directs.Listed url ways.Plain)

abbrev pub route_by_deed : Parts → Enctype → Deed → Route
route_by_deed url enctype deeds.Query = routes.Direct (directs.Listed url ways.Query)
route_by_deed url enctype deeds.Body = route_of_body url enctype
route_by_deed url enctype deeds.AsItIs = routes.Direct (directs.AsItIs url)
route_by_deed url enctype deeds.Nothing = routes.Direct directs.Scheme

abbrev pub route_of_url : Parts → Method → Enctype → Route
route_of_url url method enctype = route_by_deed url enctype (deed_of url.scheme method)

-- the action has to parse
abbrev pub route_by_action : Parsed Parts → Method → Enctype → Route
route_by_action (Ok url) method enctype = route_of_url url method enctype
route_by_action (Err error) method enctype = routes.Direct directs.Action

-- a dialog is closed, and nothing is asked for
abbrev pub route_by_method : Nodes → Parts → Key → Option Key → Method → Route
route_by_method ns base form submitter methods.Dialog = routes.Direct directs.Dialog
route_by_method ns base form submitter method =
    route_by_action (parsed_action base (action_of ns form submitter)) method (enctype_of ns form submitter)

-- invalid controls stop it
abbrev pub stopped_by : List Key → Route → Route
stopped_by [] route = route
stopped_by (key ∷ keys) route = routes.Direct (directs.Stopped (key ∷ keys))

-- where a submission leads; `check` says that it is to be validated
abbrev pub route_of : Nodes → Parts → Key → Option Key → Bool → Route
route_of ns base form submitter check =
    stopped_by (stopping_keys ns form submitter check)
    (route_by_method ns base form submitter (method_of ns form submitter))
