-- What holds of the files that an entry list names holds of those that its request's body names.
use Rattle.std.proofs.Common.{ℕ, ◌+◌, Bool, true, false, List, [], ◌∷◌, ◌++◌, Option, Some, None, map, length}
use Rattle.std.specs.Prelude.{All, ⊤, flat_map, if◌then◌else◌, nat_lt}
use Rattle.std.proofs.lemmas.List.Elements.{All-append, All-cons, All-head, All-nil, All-tail}
use Rattle.url.specs.Parts.{Parts}
use Rattle.form_encode.specs.declared.entry.Entry.{Entry}
use Rattle.form_encode.specs.declared.entry.Given.{Given}
use Rattle.form_encode.specs.declared.entry.Given.TheVariants.{File, Text}
use Rattle.form_encode.specs.Boundaries.{first_free}
use Rattle.form_encode.specs.Multipart.{closing_line, head_of}
use Rattle.form_encode.specs.PlainText.{crlf}
use Rattle.form_ports.specs.Shelf.{total}
use Rattle.form_entries.specs.EntryList.{entries_length, most_bytes}
use Rattle.form_parts.specs.Parts as multipart
use Rattle.form_submit.specs.declared.outcome.Outcome.{Outcome}
use Rattle.form_submit.specs.declared.outcome.Outcome.TheVariants as outcomes
use Rattle.form_submit.specs.declared.outcome.Why.TheVariants as whys
use Rattle.form_submit.specs.declared.request.Piece.{Piece}
use Rattle.form_submit.specs.declared.request.Piece.TheVariants as pieces
use Rattle.form_submit.specs.declared.route.Direct.{Direct}
use Rattle.form_submit.specs.declared.route.Direct.TheVariants as directs
use Rattle.form_submit.specs.declared.route.Route.{Route}
use Rattle.form_submit.specs.declared.route.Route.TheVariants as routes
use Rattle.form_submit.specs.declared.route.Way.{Way}
use Rattle.form_submit.specs.declared.route.Way.TheVariants as ways
use Rattle.form_submit.specs.Outcome.{IfRequest, chosen, direct_outcome, files_read, listed_request, multipart_outcome, outcome_by, parts_pieces, value_piece}
use Rattle.form_submit.specs.PrintedRequest.{file_number, file_numbers}

module _ (P : ℕ → Type 0) where
  -- what holds of a number, of the file of a piece
  abbrev pub Holds : Piece → Type 0
  Holds (pieces.Bytes bytes) = ⊤
  Holds (pieces.File number size) = P number

  pub front_holds : (xs ys : List ℕ) → All P (xs ++ ys) → All P xs
  front_holds [] ys all = All-nil P
  front_holds (x ∷ xs) ys all = All-cons P x xs (All-head P x (xs ++ ys) all) (front_holds xs ys (All-tail P x (xs ++ ys) all))

  pub rest_holds : (xs ys : List ℕ) → All P (xs ++ ys) → All P ys
  rest_holds [] ys all = all
  rest_holds (x ∷ xs) ys all = rest_holds xs ys (All-tail P x (xs ++ ys) all)

  value_holds : (value : Given) (size : ℕ) → All P (multipart.given_number value) → Holds (value_piece value size)
  value_holds (Text text) size all = tt
  value_holds (File None name) size all = tt
  value_holds (File (Some number) name) size all = All-head P number [] all

  parts_hold : (boundary : List ℕ) (entries : List Entry) (sizes : List ℕ) → All P (flat_map multipart.file_number entries)
      → All Holds (parts_pieces boundary entries sizes)
  parts_hold boundary [] sizes all = All-nil Holds
  parts_hold boundary (entry ∷ entries) [] all = All-nil Holds
  parts_hold boundary (entry ∷ entries) (size ∷ sizes) all =
      let numbers = multipart.given_number entry.value in
      let others = flat_map multipart.file_number entries in
      let end = All-cons Holds (pieces.Bytes crlf) [] tt (All-nil Holds) in
      let value = All-cons Holds (value_piece entry.value size) (pieces.Bytes crlf ∷ []) (value_holds entry.value size (front_holds numbers others all)) end in
      let here = All-cons Holds (pieces.Bytes (head_of entry boundary)) (value_piece entry.value size ∷ pieces.Bytes crlf ∷ []) tt value in
      All-append Holds (pieces.Bytes (head_of entry boundary) ∷ value_piece entry.value size ∷ pieces.Bytes crlf ∷ [])
      (parts_pieces boundary entries sizes) here (parts_hold boundary entries sizes (rest_holds numbers others all))

  unless_long_holds : (long : Bool) (outcome : Outcome) → IfRequest outcome (λ request. All Holds request.body)
      → IfRequest (if long then outcomes.NoRequest whys.Long else outcome) (λ request. All Holds request.body)
  unless_long_holds true outcome h = tt
  unless_long_holds false outcome h = h

  way_holds : (url : Parts) (way : Way) (entries : List Entry) → All Holds (listed_request url way entries).body
  way_holds url ways.Query entries = All-nil Holds
  way_holds url ways.Urlencoded entries = All-cons Holds _ [] tt (All-nil Holds)
  way_holds url ways.Plain entries = All-cons Holds _ [] tt (All-nil Holds)

  direct_holds : (direct : Direct) (entries : List Entry) → IfRequest (direct_outcome direct entries) (λ request. All Holds request.body)
  direct_holds (directs.Stopped keys) entries = tt
  direct_holds directs.Dialog entries = tt
  direct_holds directs.Action entries = tt
  direct_holds directs.Scheme entries = tt
  direct_holds (directs.AsItIs url) entries = All-nil Holds
  direct_holds (directs.Listed url way) entries =
      unless_long_holds (nat_lt most_bytes (entries_length entries)) (outcomes.Request (listed_request url way entries)) (way_holds url way entries)

  multipart_holds : (url : Parts) (entries : List Entry) (sizes : List ℕ) (boundary : Option (List ℕ)) → All P (flat_map multipart.file_number entries)
      → IfRequest (multipart_outcome url entries sizes boundary) (λ request. All Holds request.body)
  multipart_holds url entries sizes None all = tt
  multipart_holds url entries sizes (Some boundary) all =
      All-append Holds (parts_pieces boundary entries sizes) (pieces.Bytes (closing_line boundary) ∷ [])
      (parts_hold boundary entries sizes all) (All-cons Holds (pieces.Bytes (closing_line boundary)) [] tt (All-nil Holds))

  -- of a request's body
  pub outcome_holds : (route : Route) (entries : List Entry) (bounds parts : List (List ℕ)) → All P (files_read route entries)
      → IfRequest (outcome_by route entries bounds parts) (λ request. All Holds request.body)
  unfolding multipart.file_numbers
  outcome_holds (routes.Direct direct) entries bounds parts all = direct_holds direct entries
  outcome_holds (routes.Multipart url) entries bounds parts all =
      unless_long_holds (nat_lt most_bytes (entries_length entries + total (multipart.file_parts entries parts)))
      (multipart_outcome url entries (map (λ part. length part) parts) (chosen bounds (first_free bounds parts)))
      (multipart_holds url entries (map (λ part. length part) parts) (chosen bounds (first_free bounds parts)) all)

  -- of the numbers of its files
  pub body_holds : (body : List Piece) → All Holds body → All P (file_numbers body)
  unfolding file_numbers
  body_holds [] all = All-nil P
  body_holds (pieces.Bytes bytes ∷ body) all = body_holds body (All-tail Holds (pieces.Bytes bytes) body all)
  body_holds (pieces.File number size ∷ body) all =
      All-cons P number (flat_map file_number body) (All-head Holds (pieces.File number size) body all) (body_holds body (All-tail Holds (pieces.File number size) body all))
