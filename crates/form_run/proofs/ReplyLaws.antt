-- Each line has a reply, whatever its files hold; and the replies to lines follow each other.
use Rattle.std.proofs.Common.{◌≡◌, ℕ, ◌+◌, Bool, true, false, List, [], ◌∷◌, ◌++◌, Option, Some, None, map, length, refl, sym, ap, subst, ◌∙◌, append_assoc, append-nil, IfSome}
use Rattle.std.specs.Prelude.{All, ⊤, if◌then◌else◌, nat_lt, replicate}
use Rattle.std.specs.List.{AllZip, concat}
use Rattle.std.proofs.lemmas.List.{length-replicate}
use Rattle.std.proofs.lemmas.List.Elements.{All-append, All-cons, All-head, All-nil, All-tail, All-weaker}
use Rattle.url.specs.Parts.{Parts}
use Rattle.form_encode.specs.declared.entry.Entry.{Entry}
use Rattle.form_encode.specs.declared.entry.Given.{Given}
use Rattle.form_encode.specs.declared.entry.Given.TheVariants.{File, Text}
use Rattle.form_encode.specs.Boundaries.{first_free}
use Rattle.form_encode.specs.Multipart.{closing_line, head_of}
use Rattle.form_encode.specs.PlainText.{crlf}
use Rattle.form_ports.specs.Shelf.{HasTold, told, total}
use Rattle.form_page.specs.Page.{Page}
use Rattle.form_entries.specs.EntryList.{entries_length, entry_list, most_bytes}
use Rattle.form_parts.specs.Parts as multipart
use Rattle.form_submit.specs.declared.outcome.Outcome.{Outcome}
use Rattle.form_submit.specs.declared.outcome.Outcome.TheVariants as outcomes
use Rattle.form_submit.specs.declared.outcome.Why.TheVariants as whys
use Rattle.form_submit.specs.declared.request.Piece.{Piece}
use Rattle.form_submit.specs.declared.request.Piece.TheVariants as pieces
use Rattle.form_submit.specs.declared.request.Request.{Request}
use Rattle.form_submit.specs.declared.route.Direct.{Direct}
use Rattle.form_submit.specs.declared.route.Direct.TheVariants as directs
use Rattle.form_submit.specs.declared.route.Route.{Route}
use Rattle.form_submit.specs.declared.route.Route.TheVariants as routes
use Rattle.form_submit.specs.declared.route.Way.{Way}
use Rattle.form_submit.specs.declared.route.Way.TheVariants as ways
use Rattle.form_submit.specs.Outcome.{IfRequest, IsOutcomeBy, chosen, direct_outcome, listed_request, multipart_outcome, outcome_by, parts_pieces, value_piece}
use Rattle.form_submit.specs.PrintedRequest.{IsPart, IsReady, IsSendable, printed_request}
use Rattle.form_submit.specs.Route.{route_of}
use Rattle.form_replies.specs.Replies.{ok_line, stopped_lines}
use Rattle.form_run.specs.declared.asked.Asked.{Asked}
use Rattle.form_run.specs.declared.asked.Asked.TheVariants as asks
use Rattle.form_run.specs.declared.asked.Submission.{Submission}
use Rattle.form_run.specs.Replies.{AreReplies, IsOutcomeText, IsReply, IsReplyTo, IsRequestText, IsSubmissionReply, files_after_all, none_line, session_after_all}
use Rattle.form_run.specs.Session.{Files, Session, after, asked_in, files_after}

module _ (files : Files) where
  -- ---- some body

  -- a piece can have bytes: its size is that of the file, where the file tells its content
  abbrev pub Fits : Piece → Type 0
  Fits (pieces.Bytes bytes) = ⊤
  Fits (pieces.File number size) = IfSome (told files number) (λ all. length all ≡ size)

  some_bytes : (content : Option (List ℕ)) (size : ℕ) → IfSome content (λ all. length all ≡ size) → (part : List ℕ) × (length part ≡ size) × HasTold content part
  some_bytes (Some all) size fits = (all, fits, refl)
  some_bytes None size fits = (replicate size 0, length-replicate size 0, tt)

  some_part : (piece : Piece) → Fits piece → (part : List ℕ) × IsPart files piece part
  some_part (pieces.Bytes bytes) fits = (bytes, refl)
  some_part (pieces.File number size) fits = let some = some_bytes (told files number) size fits in (some.0, (some.1, some.2))

  some_parts : (body : List Piece) → All Fits body → (parts : List (List ℕ)) × AllZip (IsPart files) body parts
  some_parts [] fits = ([], tt)
  some_parts (piece ∷ body) fits =
      let here = some_part piece (All-head Fits piece body fits) in
      let more = some_parts body (All-tail Fits piece body fits) in
      (here.0 ∷ more.0, (here.1, more.1))

  some_request : (request : Request) → All Fits request.body → (text : List ℕ) × IsRequestText files request text
  some_request request fits =
      let parts = some_parts request.body fits in (
        printed_request request (concat parts.0),
        record {
          body = concat parts.0;
          is_body = record { parts = parts.0; each = parts.1; whole = refl };
          lines = refl;
        },
      )

  ready_fits : (piece : Piece) → IsReady files piece → Fits piece
  ready_fits (pieces.Bytes bytes) ready = tt
  ready_fits (pieces.File number size) ready = ready.2

  -- a request that can be written has a printed form
  pub some_sendable : (request : Request) → IsSendable files request → (text : List ℕ) × IsRequestText files request text
  some_sendable request sendable = some_request request (All-weaker (IsReady files) Fits ready_fits request.body sendable.ready)

  -- and so has an outcome
  pub some_outcome : (page : Page) (outcome : Outcome) → IfRequest outcome (IsSendable files) → (text : List ℕ) × IsOutcomeText files page outcome text
  some_outcome page (outcomes.Stopped keys) sendable = (stopped_lines page keys, refl)
  some_outcome page (outcomes.NoRequest why) sendable = (none_line why, refl)
  some_outcome page (outcomes.Request request) sendable = some_sendable request sendable

  -- ---- some outcome

  OutcomeFits : Outcome → Type 0
  OutcomeFits outcome = IfRequest outcome (λ request. All Fits request.body)

  some_fitting : (page : Page) (outcome : Outcome) → IfRequest outcome (λ request. All Fits request.body) → (text : List ℕ) × IsOutcomeText files page outcome text
  some_fitting page (outcomes.Stopped keys) fits = (stopped_lines page keys, refl)
  some_fitting page (outcomes.NoRequest why) fits = (none_line why, refl)
  some_fitting page (outcomes.Request request) fits = some_request request fits

  some_content : (content : Option (List ℕ)) → (part : List ℕ) × HasTold content part
  some_content (Some all) = (all, refl)
  some_content None = ([], tt)

  some_value : (value : Given) → (part : List ℕ) × multipart.IsGivenPart files value part
  some_value (Text text) = (_, refl)
  some_value (File None name) = ([], refl)
  some_value (File (Some number) name) = some_content (told files number)

  some_values : (entries : List Entry) → (parts : List (List ℕ)) × AllZip (multipart.IsPart files) entries parts
  some_values [] = ([], tt)
  some_values (entry ∷ entries) =
      let here = some_value entry.value in
      let more = some_values entries in
      (here.0 ∷ more.0, (here.1, more.1))

  told_fits : (content : Option (List ℕ)) (part : List ℕ) → HasTold content part → IfSome content (λ all. length all ≡ length part)
  told_fits (Some all) part same = ap (λ (bytes : List ℕ). length bytes) (sym same)
  told_fits None part same = tt

  value_fits : (value : Given) (part : List ℕ) → multipart.IsGivenPart files value part → Fits (value_piece value (length part))
  value_fits (Text text) part is = tt
  value_fits (File None name) part is = tt
  value_fits (File (Some number) name) part is = told_fits (told files number) part is

  parts_fit : (boundary : List ℕ) (entries : List Entry) (parts : List (List ℕ)) → AllZip (multipart.IsPart files) entries parts
      → All Fits (parts_pieces boundary entries (map (λ part. length part) parts))
  parts_fit boundary [] parts each = All-nil Fits
  parts_fit boundary (entry ∷ entries) [] each = absurd each
  parts_fit boundary (entry ∷ entries) (part ∷ parts) each =
      let crlf_fits = All-cons Fits (pieces.Bytes crlf) [] tt (All-nil Fits) in
      let value = All-cons Fits (value_piece entry.value (length part)) (pieces.Bytes crlf ∷ []) (value_fits entry.value part each.0) crlf_fits in
      let here = All-cons Fits (pieces.Bytes (head_of entry boundary)) (value_piece entry.value (length part) ∷ pieces.Bytes crlf ∷ []) tt value in
      All-append Fits (pieces.Bytes (head_of entry boundary) ∷ value_piece entry.value (length part) ∷ pieces.Bytes crlf ∷ [])
      (parts_pieces boundary entries (map (λ part. length part) parts)) here (parts_fit boundary entries parts each.1)

  unless_long_fits : (long : Bool) (outcome : Outcome) → IfRequest outcome (λ request. All Fits request.body)
      → IfRequest (if long then outcomes.NoRequest whys.Long else outcome) (λ request. All Fits request.body)
  unless_long_fits true outcome fits = tt
  unless_long_fits false outcome fits = fits

  way_fits : (url : Parts) (way : Way) (entries : List Entry) → All Fits (listed_request url way entries).body
  way_fits url ways.Query entries = All-nil Fits
  way_fits url ways.Urlencoded entries = All-cons Fits _ [] tt (All-nil Fits)
  way_fits url ways.Plain entries = All-cons Fits _ [] tt (All-nil Fits)

  direct_fits : (direct : Direct) (entries : List Entry) → IfRequest (direct_outcome direct entries) (λ request. All Fits request.body)
  direct_fits (directs.Stopped keys) entries = tt
  direct_fits directs.Dialog entries = tt
  direct_fits directs.Action entries = tt
  direct_fits directs.Scheme entries = tt
  direct_fits (directs.AsItIs url) entries = All-nil Fits
  direct_fits (directs.Listed url way) entries =
      unless_long_fits (nat_lt most_bytes (entries_length entries)) (outcomes.Request (listed_request url way entries)) (way_fits url way entries)

  multipart_fits : (url : Parts) (entries : List Entry) (parts : List (List ℕ)) (boundary : Option (List ℕ)) → AllZip (multipart.IsPart files) entries parts
      → IfRequest (multipart_outcome url entries (map (λ part. length part) parts) boundary) (λ request. All Fits request.body)
  multipart_fits url entries parts None each = tt
  multipart_fits url entries parts (Some boundary) each =
      All-append Fits (parts_pieces boundary entries (map (λ part. length part) parts)) (pieces.Bytes (closing_line boundary) ∷ [])
      (parts_fit boundary entries parts each) (All-cons Fits (pieces.Bytes (closing_line boundary)) [] tt (All-nil Fits))

  outcome_fits : (route : Route) (entries : List Entry) (bounds parts : List (List ℕ)) → AllZip (multipart.IsPart files) entries parts
      → IfRequest (outcome_by route entries bounds parts) (λ request. All Fits request.body)
  outcome_fits (routes.Direct direct) entries bounds parts each = direct_fits direct entries
  outcome_fits (routes.Multipart url) entries bounds parts each =
      unless_long_fits (nat_lt most_bytes (entries_length entries + total (multipart.file_parts entries parts)))
      (multipart_outcome url entries (map (λ part. length part) parts) (chosen bounds (first_free bounds parts)))
      (multipart_fits url entries parts (chosen bounds (first_free bounds parts)) each)

  -- ---- some reply

  -- the reply to a submission, of which the outcome is known
  pub submission_reply : (session : Session) (s : Submission) (outcome : Outcome) (lines : List ℕ)
      → IsOutcomeBy files (route_of session.page.tree.nodes session.base s.form s.submitter s.check) (entry_list session.page s.form s.submitter s.at) session.bounds outcome
      → IsOutcomeText files session.page outcome lines → IsSubmissionReply files session s (lines ++ ok_line)
  submission_reply session s outcome lines is says = record { outcome = outcome; is = is; lines = lines; says = says; whole = refl }

  -- a submission has a reply
  pub some_submission : (session : Session) (s : Submission) → (text : List ℕ) × IsSubmissionReply files session s text
  some_submission session s =
      let route = route_of session.page.tree.nodes session.base s.form s.submitter s.check in
      let entries = entry_list session.page s.form s.submitter s.at in
      let values = some_values entries in
      let outcome = outcome_by route entries session.bounds values.0 in
      let text = some_fitting session.page outcome (outcome_fits route entries session.bounds values.0 values.1) in
      (text.0 ++ ok_line, submission_reply session s outcome text.0 (record { bytes = values.0; each = values.1; is = refl }) text.1)

  -- what a line asks for has a reply
  pub some_reply : (session : Session) (asked : Asked) → (text : List ℕ) × IsReplyTo files session asked text
  some_reply session asks.NoCommand = (_, refl)
  some_reply session asks.Syntax = (_, refl)
  some_reply session (asks.Refused fault) = (_, refl)
  some_reply session asks.Nothing = (_, refl)
  some_reply session (asks.Act act) = (_, refl)
  some_reply session (asks.Show key) = (_, refl)
  some_reply session (asks.Boundaries boundaries) = (_, refl)
  some_reply session (asks.Submit s) = some_submission session s

-- lines have replies
pub some_replies : (files : Files) (session : Session) (lines : List (List ℕ)) → (text : List ℕ) × AreReplies files session lines text
unfolding AreReplies
some_replies files session [] = ([], refl)
some_replies files session (line ∷ lines) =
    let here = some_reply files session (asked_in session.page line) in
    let more = some_replies (files_after session.page files line) (after session line) lines in
    (here.0 ++ more.0, (here.0, more.0, here.1, more.1, refl))

-- ---- lines, and then more

pub session_append : (session : Session) (front rest : List (List ℕ)) → session_after_all session (front ++ rest) ≡ session_after_all (session_after_all session front) rest
unfolding session_after_all
session_append session [] rest = refl
session_append session (line ∷ front) rest = session_append (after session line) front rest

pub files_append : (session : Session) (files : Files) (front rest : List (List ℕ))
    → files_after_all session files (front ++ rest) ≡ files_after_all (session_after_all session front) (files_after_all session files front) rest
unfolding session_after_all files_after_all
files_append session files [] rest = refl
files_append session files (line ∷ front) rest = files_append (after session line) (files_after session.page files line) front rest

pub replies_append : (files : Files) (session : Session) (front rest : List (List ℕ)) (text more : List ℕ)
    → AreReplies files session front text → AreReplies (files_after_all session files front) (session_after_all session front) rest more
    → AreReplies files session (front ++ rest) (text ++ more)
unfolding AreReplies session_after_all files_after_all
replies_append files session [] rest text more none are =
    let P : List ℕ → Type 0 = λ t. AreReplies files session rest (t ++ more) in subst P (sym none) are
replies_append files session (line ∷ front) rest text more first are = (
  first.0,
  first.1 ++ more,
  first.2,
  replies_append (files_after session.page files line) (after session line) front rest first.1 more first.3 are,
  ap (λ t. t ++ more) first.4 ∙ append_assoc first.0 first.1 more,
)

-- no line has no reply
pub no_replies : (files : Files) (session : Session) → AreReplies files session [] []
unfolding AreReplies
no_replies files session = refl

-- the reply to one line
pub one_reply : (files : Files) (session : Session) (line reply : List ℕ) → IsReply files session line reply → AreReplies files session (line ∷ []) reply
unfolding AreReplies
one_reply files session line reply is = (reply, [], is, refl, sym (append-nil reply))

pub one_session : (session : Session) (line : List ℕ) → session_after_all session (line ∷ []) ≡ after session line
unfolding session_after_all
one_session session line = refl

pub one_files : (session : Session) (files : Files) (line : List ℕ) → files_after_all session files (line ∷ []) ≡ files_after session.page files line
unfolding files_after_all
one_files session files line = refl

pub no_session : (session : Session) → session ≡ session_after_all session []
unfolding session_after_all
no_session session = refl

pub no_files : (session : Session) (files : Files) → files ≡ files_after_all session files []
unfolding files_after_all
no_files session files = refl
