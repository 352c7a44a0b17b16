-- What the submission of a form comes to (HTML, "Form submission algorithm").
use Rattle.std.specs.Prelude.{◌≡◌, ℕ, ◌+◌, ◌-◌, ◌<◌, ◌⊎◌, nat_lt, true, false, List, [], ◌∷◌, ◌++◌, length, map, codes, slice_get, Option, Some, None, All, ⊤, if◌then◌else◌}
use Rattle.std.specs.List.{AllZip}
use Rattle.std.specs.Option.{option_and_then}
use Rattle.url.specs.Parts.{Parts, serialize}
use Rattle.url.specs.Setters.{set_query}
use Rattle.form_tree.specs.Tree.{Nodes}
use Rattle.form_encode.specs.declared.entry.Entry.{Entry}
use Rattle.form_encode.specs.declared.entry.Given.{Given}
use Rattle.form_encode.specs.declared.entry.Given.TheVariants.{Text, File}
use Rattle.form_encode.specs.declared.entry.Pair.{Pair}
use Rattle.form_encode.specs.Boundaries.{first_free}
use Rattle.form_encode.specs.Multipart.{closing_line, head_of}
use Rattle.form_encode.specs.Pairs.{pairs_of}
use Rattle.form_encode.specs.PlainText.{crlf, plain_text}
use Rattle.form_encode.specs.Urlencoded.{urlencoded_text}
use Rattle.form_text.specs.LineEnds.{with_crlf}
use Rattle.form_ports.specs.Shelf.{IsThere, at_number, total}
use Rattle.form_entries.specs.EntryList.{entries_length, most_bytes}
use Rattle.form_parts.specs.Parts as multipart
use Rattle.form_submit.specs.declared.outcome.Outcome.{Outcome}
use Rattle.form_submit.specs.declared.outcome.Outcome.TheVariants as outcomes
use Rattle.form_submit.specs.declared.outcome.Why.TheVariants as whys
use Rattle.form_submit.specs.declared.request.Piece.{Piece}
use Rattle.form_submit.specs.declared.request.Piece.TheVariants as pieces
use Rattle.form_submit.specs.declared.request.Request.{Request}
use Rattle.form_submit.specs.declared.route.Direct.{Direct}
use Rattle.form_submit.specs.declared.route.Direct.TheVariants as directs
use Rattle.form_submit.specs.declared.route.Route.{Route}
use Rattle.form_submit.specs.declared.route.Route.TheVariants as routes
use Rattle.form_submit.specs.declared.route.Way.{Way}
use Rattle.form_submit.specs.declared.route.Way.TheVariants as ways

-- ---- requests

-- the GET request of a URL
abbrev pub action_request : Parts → Request
action_request url = record { post = false; url = serialize url; kind = None; body = [] }

-- the POST request of a body
abbrev pub body_request : Parts → List ℕ → List Piece → Request
body_request url kind body = record { post = true; url = serialize url; kind = Some kind; body = body }

-- the URL with the pairs as its query, whatever query it had; its fragment stays
abbrev pub with_query : Parts → List Pair → Parts
with_query url pairs = set_query url (Some (urlencoded_text pairs))

-- the types of bodies
unfoldable pub urlencoded_kind : List ℕ
urlencoded_kind = codes "application/x-www-form-urlencoded"

unfoldable pub plain_kind : List ℕ
plain_kind = codes "text/plain"

unfoldable pub multipart_kind : List ℕ → List ℕ
multipart_kind boundary = codes "multipart/form-data; boundary=" ++ boundary

-- the request that sends an entry list as a query or as a body of text
abbrev pub listed_request : Parts → Way → List Entry → Request
listed_request url ways.Query entries = action_request (with_query url (pairs_of entries))
listed_request url ways.Urlencoded entries =
    body_request url urlencoded_kind (pieces.Bytes (urlencoded_text (pairs_of entries)) ∷ [])
listed_request url ways.Plain entries =
    body_request url plain_kind (pieces.Bytes (plain_text (pairs_of entries)) ∷ [])

-- ---- multipart bodies

-- the piece of an entry's bytes: those of a file are not held, and have that size
abbrev pub value_piece : Given → ℕ → Piece
value_piece (Text text) size = pieces.Bytes (with_crlf text)
value_piece (File None name) size = pieces.Bytes []
value_piece (File (Some number) name) size = pieces.File number size

-- the pieces of an entry's part
abbrev pub part_pieces : List ℕ → Entry → ℕ → List Piece
part_pieces boundary entry size =
    pieces.Bytes (head_of entry boundary) ∷ value_piece entry.value size ∷ pieces.Bytes crlf ∷ []

-- the pieces of the parts of entries whose bytes have these sizes
abbrev pub parts_pieces : List ℕ → List Entry → List ℕ → List Piece
parts_pieces boundary [] sizes = []
parts_pieces boundary (entry ∷ entries) [] = []
parts_pieces boundary (entry ∷ entries) (size ∷ sizes) =
    part_pieces boundary entry size ++ parts_pieces boundary entries sizes

-- The pieces of a multipart body. (Their bytes are those of `multipart_body`: the law `multipart_bytes` of
-- proofs/Laws.)
abbrev pub multipart_pieces : List ℕ → List Entry → List ℕ → List Piece
multipart_pieces boundary entries sizes =
    parts_pieces boundary entries sizes ++ pieces.Bytes (closing_line boundary) ∷ []

-- the boundary of that number
abbrev pub chosen : List (List ℕ) → Option ℕ → Option (List ℕ)
chosen bounds place = option_and_then (slice_get bounds) place

-- what a multipart body with that boundary comes to, if there is one
abbrev pub multipart_outcome : Parts → List Entry → List ℕ → Option (List ℕ) → Outcome
multipart_outcome url entries sizes None = outcomes.NoRequest whys.Clash
multipart_outcome url entries sizes (Some boundary) =
    outcomes.Request (body_request url (multipart_kind boundary) (multipart_pieces boundary entries sizes))

-- ---- the outcome

-- nothing is asked for with more bytes than may be
abbrev pub unless_long : ℕ → Outcome → Outcome
unless_long bytes outcome = if nat_lt most_bytes bytes then outcomes.NoRequest whys.Long else outcome

-- of a submission that reads no file
abbrev pub direct_outcome : Direct → List Entry → Outcome
direct_outcome (directs.Stopped keys) entries = outcomes.Stopped keys
direct_outcome directs.Dialog entries = outcomes.NoRequest whys.Dialog
direct_outcome directs.Action entries = outcomes.NoRequest whys.Action
direct_outcome directs.Scheme entries = outcomes.NoRequest whys.Scheme
direct_outcome (directs.AsItIs url) entries = outcomes.Request (action_request url)
direct_outcome (directs.Listed url way) entries =
    unless_long (entries_length entries) (outcomes.Request (listed_request url way entries))

-- Of any submission. In a multipart body the part of each entry has the bytes `parts`; the boundary is the
-- first of those handed in that stands in none of them.
abbrev pub outcome_by : Route → List Entry → List (List ℕ) → List (List ℕ) → Outcome
outcome_by (routes.Direct direct) entries bounds parts = direct_outcome direct entries
outcome_by (routes.Multipart url) entries bounds parts =
    unless_long (entries_length entries + total (multipart.file_parts entries parts))
    (multipart_outcome url entries (map length parts) (chosen bounds (first_free bounds parts)))

-- The outcome of a submission of entries: for some bytes of their parts, of which those of a file that
-- tells its content are that content.
pub record IsOutcomeBy (contents : List (Option (Option (List ℕ)))) (route : Route) (entries : List Entry)
    (bounds : List (List ℕ)) (outcome : Outcome) : Type 0 where
  pub bytes : List (List ℕ)
  pub each : AllZip (multipart.IsPart contents) entries bytes
  pub is : outcome ≡ outcome_by route entries bounds bytes

-- ---- files

-- each file that an element's state names stands on the shelf
pub record HasFiles (contents : List (Option (Option (List ℕ)))) (ns : Nodes) : Type 0 where
  pub each : All (λ n. All (λ number. IsThere contents number) n.state.files) ns

-- the numbers of the files that are read: those that a multipart body names
abbrev pub files_read : Route → List Entry → List ℕ
files_read (routes.Direct direct) entries = []
files_read (routes.Multipart url) entries = multipart.file_numbers entries

-- The submission is too long: by its entry list, and then no file was touched; or, with a multipart body,
-- together with files, and then reading stopped at the byte that passes the limit.
abbrev pub IsTooLong : {B : Type 0} → List (Option (Option (List ℕ))) → List (Option ℕ) → Route → List Entry
    → List (Option B) → List (Option B) → Type 0
IsTooLong contents positions (routes.Direct direct) entries old new = most_bytes < entries_length entries
IsTooLong contents positions (routes.Multipart url) entries old new =
    ((most_bytes < entries_length entries) × ((k : ℕ) → at_number new k ≡ at_number old k))
    ⊎ multipart.StopsPast contents positions (multipart.file_numbers entries) (most_bytes - entries_length entries) old new

-- where the outcome is that it is too long
abbrev pub IfLong : Outcome → Type 0 → Type 0
IfLong (outcomes.Stopped keys) fact = ⊤
IfLong (outcomes.NoRequest whys.Long) fact = fact
IfLong (outcomes.NoRequest why) fact = ⊤
IfLong (outcomes.Request request) fact = ⊤

-- where the outcome is a request
abbrev pub IfRequest : Outcome → (Request → Type 0) → Type 0
IfRequest (outcomes.Stopped keys) fact = ⊤
IfRequest (outcomes.NoRequest why) fact = ⊤
IfRequest (outcomes.Request request) fact = fact request
