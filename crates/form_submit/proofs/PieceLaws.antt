-- The pieces of a multipart body, and the files that they name.
use Rattle.std.proofs.Common.{◌≡◌, ℕ, ◌+◌, ◌≤◌, Bool, true, false, cond, List, [], ◌∷◌, ◌++◌, length, map, Option, Some, None, IfSome, refl, sym, ap, subst, ◌∙◌}
use Rattle.std.proofs.Common.{arith, append-nil}
use Rattle.std.specs.Prelude.{All, IsSome, nat_lt, flat_map, sum}
use Rattle.std.specs.List.{AllZip, zip}
use Rattle.std.proofs.lemmas.List.Elements.{All-append, All-cons, All-head, All-nil, All-tail}
use Rattle.std.proofs.lemmas.Grind.{flat_map-append}
use Rattle.url.specs.Parts.{Parts}
use Rattle.form_encode.specs.declared.entry.Entry.{Entry}
use Rattle.form_encode.specs.declared.entry.Given.{Given}
use Rattle.form_encode.specs.declared.entry.Given.TheVariants.{Text, File}
use Rattle.form_encode.specs.Multipart.{closing_line, head_of}
use Rattle.form_encode.specs.PlainText.{crlf}
use Rattle.form_ports.specs.Shelf.{IsThere, HasTold, LastSizes, told, total}
use Rattle.form_ports.proofs.Laws.{LastSizes-none, sum-append}
use Rattle.form_entries.specs.EntryList.{entries_length, most_bytes}
use Rattle.form_parts.specs.declared.parts.Parts as answers
use Rattle.form_parts.specs.Parts as multipart
use Rattle.form_submit.specs.declared.outcome.Outcome.{Outcome}
use Rattle.form_submit.specs.declared.outcome.Outcome.TheVariants as outcomes
use Rattle.form_submit.specs.declared.outcome.Why.TheVariants as whys
use Rattle.form_submit.specs.declared.request.Piece.{Piece}
use Rattle.form_submit.specs.declared.request.Piece.TheVariants as pieces
use Rattle.form_submit.specs.declared.request.Request.{Request}
use Rattle.form_submit.specs.declared.route.Direct.{Direct}
use Rattle.form_submit.specs.declared.route.Direct.TheVariants as directs
use Rattle.form_submit.specs.declared.route.Way.{Way}
use Rattle.form_submit.specs.declared.route.Way.TheVariants as ways
use Rattle.form_submit.specs.Outcome.{IfRequest, action_request, body_request, direct_outcome, listed_request, multipart_kind, multipart_outcome, multipart_pieces, part_pieces}
use Rattle.form_submit.specs.Outcome.{parts_pieces, value_piece}
use Rattle.form_submit.specs.PrintedRequest.{IsReady, IsSendable, file_number, file_numbers, file_size, file_sizes}

abbrev Contents : Type 0
Contents = List (Option (Option (List ℕ)))

-- ---- which files the pieces name

-- the files of one part
value_number : (value : Given) (size : ℕ) → file_number (value_piece value size) ++ [] ≡ multipart.given_number value
value_number (Text text) size = refl
value_number (File None name) size = refl
value_number (File (Some number) name) size = refl

value_size : (value : Given) (part : List ℕ) → file_size (value_piece value (length part)) ++ [] ≡ map (λ (file : List ℕ). length file) (multipart.given_file value part)
value_size (Text text) part = refl
value_size (File None name) part = refl
value_size (File (Some number) name) part = refl

map_append : (xs ys : List (List ℕ)) → map (λ (file : List ℕ). length file) (xs ++ ys) ≡ map (λ (file : List ℕ). length file) xs ++ map (λ (file : List ℕ). length file) ys
map_append [] ys = refl
map_append (x ∷ xs) ys = ap (λ ns. length x ∷ ns) (map_append xs ys)

total_append : (xs ys : List (List ℕ)) → total (xs ++ ys) ≡ total xs + total ys
unfolding total
total_append xs ys = ap (λ ns. sum ns) (map_append xs ys) ∙ sum-append (map (λ (file : List ℕ). length file) xs) (map (λ (file : List ℕ). length file) ys)

pub All-front : (P : ℕ → Type 0) (xs ys : List ℕ) → All P (xs ++ ys) → All P xs
All-front P [] ys all = All-nil P
All-front P (x ∷ xs) ys all = All-cons P x xs (All-head P x (xs ++ ys) all) (All-front P xs ys (All-tail P x (xs ++ ys) all))

pub All-back : (P : ℕ → Type 0) (xs ys : List ℕ) → All P (xs ++ ys) → All P ys
All-back P [] ys all = all
All-back P (x ∷ xs) ys all = All-back P xs ys (All-tail P x (xs ++ ys) all)

module _ (contents : Contents) (boundary : List ℕ) where
  numbers_by : (entries : List Entry) (bytes : List (List ℕ)) → AllZip (multipart.IsPart contents) entries bytes
      → flat_map file_number (parts_pieces boundary entries (map (λ part. length part) bytes)) ≡ flat_map multipart.file_number entries
  numbers_by [] bytes each = refl
  numbers_by (entry ∷ entries) [] each = absurd each
  numbers_by (entry ∷ entries) (part ∷ bytes) each =
      flat_map-append file_number (part_pieces boundary entry (length part)) (parts_pieces boundary entries (map (λ part. length part) bytes))
      ∙ ap (λ ns. ns ++ flat_map file_number (parts_pieces boundary entries (map (λ part. length part) bytes))) (value_number entry.value (length part))
      ∙ ap (λ ns. multipart.given_number entry.value ++ ns) (numbers_by entries bytes each.1)

  sizes_by : (entries : List Entry) (bytes : List (List ℕ)) → AllZip (multipart.IsPart contents) entries bytes
      → flat_map file_size (parts_pieces boundary entries (map (λ part. length part) bytes)) ≡ map (λ (file : List ℕ). length file) (flat_map multipart.file_part (zip entries bytes))
  sizes_by [] bytes each = refl
  sizes_by (entry ∷ entries) [] each = absurd each
  sizes_by (entry ∷ entries) (part ∷ bytes) each =
      flat_map-append file_size (part_pieces boundary entry (length part)) (parts_pieces boundary entries (map (λ part. length part) bytes))
      ∙ ap (λ ns. ns ++ flat_map file_size (parts_pieces boundary entries (map (λ part. length part) bytes))) (value_size entry.value part)
      ∙ ap (λ ns. map (λ (file : List ℕ). length file) (multipart.given_file entry.value part) ++ ns) (sizes_by entries bytes each.1)
      ∙ sym (map_append (multipart.given_file entry.value part) (flat_map multipart.file_part (zip entries bytes)))

  -- the body names the files of the entries
  body_numbers : (entries : List Entry) (bytes : List (List ℕ)) → AllZip (multipart.IsPart contents) entries bytes
      → file_numbers (multipart_pieces boundary entries (map (λ part. length part) bytes)) ≡ multipart.file_numbers entries
  unfolding file_numbers multipart.file_numbers
  body_numbers entries bytes each =
      flat_map-append file_number (parts_pieces boundary entries (map (λ part. length part) bytes)) (pieces.Bytes (closing_line boundary) ∷ [])
      ∙ append-nil (flat_map file_number (parts_pieces boundary entries (map (λ part. length part) bytes)))
      ∙ numbers_by entries bytes each

  body_sizes : (entries : List Entry) (bytes : List (List ℕ)) → AllZip (multipart.IsPart contents) entries bytes
      → file_sizes (multipart_pieces boundary entries (map (λ part. length part) bytes)) ≡ map (λ (file : List ℕ). length file) (multipart.file_parts entries bytes)
  unfolding file_sizes multipart.file_parts
  body_sizes entries bytes each =
      flat_map-append file_size (parts_pieces boundary entries (map (λ part. length part) bytes)) (pieces.Bytes (closing_line boundary) ∷ [])
      ∙ append-nil (flat_map file_size (parts_pieces boundary entries (map (λ part. length part) bytes)))
      ∙ sizes_by entries bytes each

  -- ---- whether the pieces can be sent

  ready_value : (value : Given) (part : List ℕ) → multipart.IsGivenPart contents value part → All (λ number. IsThere contents number) (multipart.given_number value)
      → total (multipart.given_file value part) ≤ most_bytes → IsReady contents (value_piece value (length part))
  unfolding total
  ready_value (Text text) part is there few = tt
  ready_value (File None name) part is there few = tt
  ready_value (File (Some number) name) part is there few =
      let one : sum (length part ∷ []) ≡ 0 + length part = refl in
      (All-head (λ n. IsThere contents n) number [] there, omega (arith, few, one), same_length (told contents number) is)
    where
      same_length : (content : Option (List ℕ)) → HasTold content part → IfSome content (λ all. length all ≡ length part)
      same_length None is = tt
      same_length (Some all) is = ap (λ bytes. length bytes) (sym is)

  ready_by : (entries : List Entry) (bytes : List (List ℕ)) → AllZip (multipart.IsPart contents) entries bytes
      → All (λ number. IsThere contents number) (flat_map multipart.file_number entries)
      → total (flat_map multipart.file_part (zip entries bytes)) ≤ most_bytes
      → All (λ one. IsReady contents one) (parts_pieces boundary entries (map (λ part. length part) bytes))
  ready_by [] bytes each there few = All-nil (λ one. IsReady contents one)
  ready_by (entry ∷ entries) [] each there few = absurd each
  ready_by (entry ∷ entries) (part ∷ bytes) each there few =
      let R : Piece → Type 0 = λ one. IsReady contents one in
      let T : ℕ → Type 0 = λ n. IsThere contents n in
      let value = value_piece entry.value (length part) in
      let rest = parts_pieces boundary entries (map (λ part. length part) bytes) in
      let both = total_append (multipart.given_file entry.value part) (flat_map multipart.file_part (zip entries bytes)) in
      All-cons R (pieces.Bytes (head_of entry boundary)) (value ∷ pieces.Bytes crlf ∷ rest) tt
      (All-cons R value (pieces.Bytes crlf ∷ rest)
      (ready_value entry.value part each.0 (All-front T (multipart.given_number entry.value) (flat_map multipart.file_number entries) there) (omega (arith, few, both)))
      (All-cons R (pieces.Bytes crlf) rest tt
      (ready_by entries bytes each.1 (All-back T (multipart.given_number entry.value) (flat_map multipart.file_number entries) there) (omega (arith, few, both)))))

  -- the body can be sent
  body_ready : (entries : List Entry) (bytes : List (List ℕ)) → AllZip (multipart.IsPart contents) entries bytes
      → All (λ number. IsThere contents number) (multipart.file_numbers entries) → total (multipart.file_parts entries bytes) ≤ most_bytes
      → All (λ one. IsReady contents one) (multipart_pieces boundary entries (map (λ part. length part) bytes))
  unfolding multipart.file_numbers multipart.file_parts
  body_ready entries bytes each there few =
      let R : Piece → Type 0 = λ one. IsReady contents one in
      All-append R (parts_pieces boundary entries (map (λ part. length part) bytes)) (pieces.Bytes (closing_line boundary) ∷ [])
      (ready_by entries bytes each there few) (All-cons R (pieces.Bytes (closing_line boundary)) [] tt (All-nil R))

-- ---- the request of a multipart body

-- what holds of the request holds of the outcome, if it is one
request_if : (P : Request → Type 0) (url : Parts) (entries : List Entry) (sizes : List ℕ) (boundary : Option (List ℕ))
    → ((b : List ℕ) → P (body_request url (multipart_kind b) (multipart_pieces b entries sizes)))
    → IfRequest (multipart_outcome url entries sizes boundary) P
request_if P url entries sizes None holds = tt
request_if P url entries sizes (Some b) holds = holds b

-- each file stands where its last piece says
pub IfRequest-sizes : (contents : Contents) (positions : List (Option ℕ)) (url : Parts) (entries : List Entry) (bounds : List (List ℕ)) (most : ℕ)
    (read : answers.Parts) (boundary : Option (List ℕ)) (outcome : Outcome)
    → multipart.HasParts contents positions entries bounds most read
    → outcome ≡ multipart_outcome url entries read.sizes boundary
    → IfRequest outcome (λ request. LastSizes positions (file_numbers request.body) (file_sizes request.body))
IfRequest-sizes contents positions url entries bounds most read boundary outcome has is =
    let P : Request → Type 0 = λ request. LastSizes positions (file_numbers request.body) (file_sizes request.body) in
    subst (λ o. IfRequest o P) (sym (is ∙ ap (λ sizes. multipart_outcome url entries sizes boundary) has.sizes))
    (request_if P url entries (map (λ part. length part) has.parts) boundary (λ b.
    subst (λ ns. LastSizes positions ns (file_sizes (multipart_pieces b entries (map (λ part. length part) has.parts)))) (sym (body_numbers contents b entries has.parts has.each))
    (subst (λ ss. LastSizes positions (multipart.file_numbers entries) ss) (sym (body_sizes contents b entries has.parts has.each)) has.last)))

-- the request can be sent
pub IfRequest-sendable : (contents now : Contents) (positions : List (Option ℕ)) (url : Parts) (entries : List Entry) (bounds : List (List ℕ)) (left : ℕ)
    (read : answers.Parts) (boundary : Option (List ℕ)) (outcome : Outcome)
    → now ≡ contents → left ≤ most_bytes → All (λ number. IsThere contents number) (multipart.file_numbers entries)
    → multipart.HasParts contents positions entries bounds left read
    → outcome ≡ multipart_outcome url entries read.sizes boundary
    → IfRequest outcome (λ request. IsSendable now request)
IfRequest-sendable contents now positions url entries bounds left read boundary outcome same rest there has is =
    let P : Request → Type 0 = λ request. IsSendable contents request in
    let few = has.few in
    subst (λ cs. IfRequest outcome (λ request. IsSendable cs request)) (sym same)
    (subst (λ o. IfRequest o P) (sym (is ∙ ap (λ sizes. multipart_outcome url entries sizes boundary) has.sizes))
    (request_if P url entries (map (λ part. length part) has.parts) boundary (λ b. record {
      kind = λ post. refl;
      ready = body_ready contents b entries has.parts has.each there (omega (arith, few, rest));
    })))

-- ---- the request of a submission that reads no file

-- all bytes of the body are held
abbrev IsHeld : Request → Type 0
IsHeld request = (request.post ≡ true → IsSome request.kind) × All (λ one. (contents : Contents) → IsReady contents one) request.body
    × (file_numbers request.body ≡ []) × (file_sizes request.body ≡ [])

held_by : (url : Parts) (way : Way) (entries : List Entry) → IsHeld (listed_request url way entries)
unfolding file_numbers file_sizes
held_by url ways.Query entries = (λ post. absurd (cc post), All-nil (λ (one : Piece). (contents : Contents) → IsReady contents one), refl, refl)
held_by url ways.Urlencoded entries = (
  λ post. refl,
  All-cons (λ (one : Piece). (contents : Contents) → IsReady contents one) _ [] (λ contents. tt)
      (All-nil (λ (one : Piece). (contents : Contents) → IsReady contents one)),
  refl,
  refl,
)
held_by url ways.Plain entries = (
  λ post. refl,
  All-cons (λ (one : Piece). (contents : Contents) → IsReady contents one) _ [] (λ contents. tt)
      (All-nil (λ (one : Piece). (contents : Contents) → IsReady contents one)),
  refl,
  refl,
)

held_as_it_is : (url : Parts) → IsHeld (action_request url)
unfolding file_numbers file_sizes
held_as_it_is url = (λ post. absurd (cc post), All-nil (λ (one : Piece). (contents : Contents) → IsReady contents one), refl, refl)

held : (P : Request → Type 0) → ((request : Request) → IsHeld request → P request)
    → (direct : Direct) (entries : List Entry) → IfRequest (direct_outcome direct entries) P
held P from (directs.Stopped keys) entries = tt
held P from directs.Dialog entries = tt
held P from directs.Action entries = tt
held P from directs.Scheme entries = tt
held P from (directs.AsItIs url) entries = from (action_request url) (held_as_it_is url)
held P from (directs.Listed url way) entries = listed (nat_lt most_bytes (entries_length entries))
  where
    listed : (b : Bool) → IfRequest (cond b (outcomes.NoRequest whys.Long) (outcomes.Request (listed_request url way entries))) P
    listed true = tt
    listed false = from (listed_request url way entries) (held_by url way entries)

pub IfRequest-direct_sizes : (positions : List (Option ℕ)) (direct : Direct) (entries : List Entry) (outcome : Outcome) → outcome ≡ direct_outcome direct entries
    → IfRequest outcome (λ request. LastSizes positions (file_numbers request.body) (file_sizes request.body))
IfRequest-direct_sizes positions direct entries outcome is =
    let P : Request → Type 0 = λ request. LastSizes positions (file_numbers request.body) (file_sizes request.body) in
    subst (λ o. IfRequest o P) (sym is) (held P (λ request h.
    subst (λ ns. LastSizes positions ns (file_sizes request.body)) (sym h.2) (subst (λ ss. LastSizes positions [] ss) (sym h.3) (LastSizes-none positions))) direct entries)
