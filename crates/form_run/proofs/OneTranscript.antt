-- Where all files tell their content an input has one text.
use Rattle.std.proofs.Common.{◌≡◌, ℕ, ◌+◌, true, List, [], ◌∷◌, ◌++◌, Option, Some, None, Result, Ok, Err, map, length, refl, sym, ap, subst, ◌∙◌, inl, inr, arith}
use Rattle.std.specs.Prelude.{◌⊎◌, All, IsSome, ⊤, if◌then◌else◌, nat_lt}
use Rattle.std.specs.List.{AllZip, concat}
use Rattle.std.proofs.lemmas.Bool.{false≢true}
use Rattle.std.proofs.lemmas.Bool.Decides.{nat_tests}
use Rattle.std.proofs.lemmas.List.Elements.{All-head, All-nil, All-tail, All-weaker}
use Rattle.url.specs.Parts.{Parts}
use Rattle.form_encode.specs.declared.entry.Entry.{Entry}
use Rattle.form_encode.specs.Boundaries.{first_free}
use Rattle.form_ports.specs.Shelf.{HasTold, IsThere, contents_of, told, total}
use Rattle.form_tree.specs.declared.node.Raw.{Raw}
use Rattle.form_page.specs.Page.{Page, new_file}
use Rattle.form_acts.specs.Soundness.{IsSound}
use Rattle.form_entries.specs.EntryList.{entries_length, entry_list, most_bytes}
use Rattle.form_parts.specs.Parts as multipart
use Rattle.form_input.specs.Input.{command_lines}
use Rattle.form_submit.specs.declared.outcome.Outcome.{Outcome}
use Rattle.form_submit.specs.declared.outcome.Outcome.TheVariants as outcomes
use Rattle.form_submit.specs.declared.outcome.Why.TheVariants as whys
use Rattle.form_submit.specs.declared.request.Piece.{Piece}
use Rattle.form_submit.specs.declared.request.Piece.TheVariants as pieces
use Rattle.form_submit.specs.declared.route.Route.{Route}
use Rattle.form_submit.specs.declared.route.Route.TheVariants as routes
use Rattle.form_submit.specs.Outcome.{HasFiles, IfRequest, IsOutcomeBy, chosen, files_read, multipart_outcome, outcome_by}
use Rattle.form_submit.specs.PrintedRequest.{IsBody, IsPart, printed_request}
use Rattle.form_submit.specs.Route.{route_of}
use Rattle.form_submit.proofs.Laws.{named_there, one_outcome}
use Rattle.form_run.specs.declared.asked.Asked.{Asked}
use Rattle.form_run.specs.declared.asked.Asked.TheVariants as asks
use Rattle.form_run.specs.declared.asked.Submission.{Submission}
use Rattle.form_run.specs.Ended.{AllTell, HasOneText}
use Rattle.form_run.specs.Endings.{AreFiles}
use Rattle.form_replies.specs.Replies.{ok_line}
use Rattle.form_run.specs.Replies.{AreReplies, IsOutcomeText, IsReplyTo, IsSubmissionReply, session_after_all}
use Rattle.form_run.specs.Session.{Files, Session, after, asked_in, files_after, opened, withdrawn}
use Rattle.form_run.specs.Taken.{page_in}
use Rattle.form_replies.specs.PageLines.{page_line}
use Rattle.form_run.specs.Transcript.{IsTranscript}
use Rattle.form_run.proofs.FilesLaws.{files_asked, files_opened, has_files}
use Rattle.form_run.proofs.PieceLaws.{Holds, outcome_holds}
use Rattle.form_run.proofs.Runs.{tell_after}
use Rattle.form_run.proofs.SoundLaws.{run_sound, session_sound}

module _ (files : Files) where
  -- ---- one body

  -- the file of that number tells its content
  abbrev Tells : ℕ → Type 0
  Tells number = IsSome (told files number)

  -- the file of a piece tells its content
  abbrev TellsPiece : Piece → Type 0
  TellsPiece = Holds Tells

  one_content : (content : Option (List ℕ)) (one other : List ℕ) → IsSome content → HasTold content one → HasTold content other → one ≡ other
  one_content None one other some p q = absurd (false≢true some)
  one_content (Some all) one other some p q = p ∙ sym q

  one_part : (piece : Piece) (one other : List ℕ) → TellsPiece piece → IsPart files piece one → IsPart files piece other → one ≡ other
  one_part (pieces.Bytes bytes) one other tells p q = p ∙ sym q
  one_part (pieces.File number size) one other tells p q = one_content (told files number) one other tells p.1 q.1

  one_parts : (body : List Piece) (ones others : List (List ℕ)) → All TellsPiece body → AllZip (IsPart files) body ones → AllZip (IsPart files) body others → ones ≡ others
  one_parts [] [] [] tells p q = refl
  one_parts [] [] (other ∷ others) tells p q = absurd q
  one_parts [] (one ∷ ones) others tells p q = absurd p
  one_parts (piece ∷ body) [] others tells p q = absurd p
  one_parts (piece ∷ body) (one ∷ ones) [] tells p q = absurd q
  one_parts (piece ∷ body) (one ∷ ones) (other ∷ others) tells p q =
      ap (λ part. part ∷ ones) (one_part piece one other (All-head TellsPiece piece body tells) p.0 q.0)
      ∙ ap (λ parts. other ∷ parts) (one_parts body ones others (All-tail TellsPiece piece body tells) p.1 q.1)

  one_body : (pieces : List Piece) (one other : List ℕ) → All TellsPiece pieces → IsBody files pieces one → IsBody files pieces other → one ≡ other
  one_body pieces one other tells p q = p.whole ∙ ap concat (one_parts pieces p.parts q.parts tells p.each q.each) ∙ sym q.whole

  -- the lines of an outcome
  one_text : (page : Page) (outcome : Outcome) (one other : List ℕ) → IfRequest outcome (λ request. All TellsPiece request.body)
      → IsOutcomeText files page outcome one → IsOutcomeText files page outcome other → one ≡ other
  one_text page (outcomes.Stopped keys) one other tells p q = p ∙ sym q
  one_text page (outcomes.NoRequest why) one other tells p q = p ∙ sym q
  one_text page (outcomes.Request request) one other tells p q =
      p.lines ∙ ap (printed_request request) (one_body request.body p.body q.body tells p.is_body q.is_body) ∙ sym q.lines

  -- ---- one reply

  -- the entries are too long by themselves, or the files that are read tell their content
  abbrev pub Decided : Route → List Entry → Type 0
  Decided route entries = (nat_lt most_bytes (entries_length entries) ≡ true) ⊎ All Tells (files_read route entries)

  -- the same of a line's submission
  abbrev pub ReadTell : Session → Asked → Type 0
  ReadTell session (asks.Submit s) =
      Decided (route_of session.page.tree.nodes session.base s.form s.submitter s.check) (entry_list session.page s.form s.submitter s.at)
  ReadTell session asked = ⊤

  abbrev OutcomeTells : Outcome → Type 0
  OutcomeTells outcome = IfRequest outcome (λ request. All TellsPiece request.body)

  -- entries that are too long by themselves come to that
  too_long : (url : Parts) (entries : List Entry) (bounds parts : List (List ℕ)) → nat_lt most_bytes (entries_length entries) ≡ true
      → outcome_by (routes.Multipart url) entries bounds parts ≡ outcomes.NoRequest whys.Long
  too_long url entries bounds parts long =
      let files_length = total (multipart.file_parts entries parts) in
      let longer : nat_lt most_bytes (entries_length entries + files_length) ≡ true = longer_still (entries_length entries) files_length long in
      let other = multipart_outcome url entries (map (λ part. length part) parts) (chosen bounds (first_free bounds parts)) in
      ap (λ b. if b then outcomes.NoRequest whys.Long else other) longer
    where
      longer_still : (a b : ℕ) → nat_lt most_bytes a ≡ true → nat_lt most_bytes (a + b) ≡ true
      longer_still a b h = grind (arith, nat_tests, h)

  one_decided : (route : Route) (entries : List Entry) (bounds : List (List ℕ)) (one other : Outcome) → Decided route entries
      → IsOutcomeBy files route entries bounds one → IsOutcomeBy files route entries bounds other → (one ≡ other) × OutcomeTells one
  one_decided route entries bounds one other (inr tell) p q =
      (one_outcome files route entries bounds one other tell p q, subst OutcomeTells (sym p.is) (outcome_holds Tells route entries bounds p.bytes tell))
  one_decided (routes.Direct direct) entries bounds one other (inl long) p q =
      (p.is ∙ sym q.is, subst OutcomeTells (sym p.is) (outcome_holds Tells (routes.Direct direct) entries bounds p.bytes (All-nil Tells)))
  one_decided (routes.Multipart url) entries bounds one other (inl long) p q =
      let is : one ≡ outcomes.NoRequest whys.Long = p.is ∙ too_long url entries bounds p.bytes long in
      (is ∙ sym (q.is ∙ too_long url entries bounds q.bytes long), subst OutcomeTells (sym is) tt)

  one_submission : (session : Session) (s : Submission) (one other : List ℕ)
      → Decided (route_of session.page.tree.nodes session.base s.form s.submitter s.check) (entry_list session.page s.form s.submitter s.at)
      → IsSubmissionReply files session s one → IsSubmissionReply files session s other → one ≡ other
  one_submission session s one other tell p q =
      let route = route_of session.page.tree.nodes session.base s.form s.submitter s.check in
      let entries = entry_list session.page s.form s.submitter s.at in
      let same = one_decided route entries session.bounds p.outcome q.outcome tell p.is q.is in
      let says : IsOutcomeText files session.page p.outcome q.lines = subst (λ outcome. IsOutcomeText files session.page outcome q.lines) (sym same.0) q.says in
      p.whole ∙ ap (λ lines. lines ++ ok_line) (one_text session.page p.outcome p.lines q.lines same.1 p.says says) ∙ sym q.whole

  pub one_reply_to : (session : Session) (asked : Asked) (one other : List ℕ) → ReadTell session asked
      → IsReplyTo files session asked one → IsReplyTo files session asked other → one ≡ other
  one_reply_to session asks.NoCommand one other tell p q = p ∙ sym q
  one_reply_to session asks.Syntax one other tell p q = p ∙ sym q
  one_reply_to session (asks.Refused fault) one other tell p q = p ∙ sym q
  one_reply_to session asks.Nothing one other tell p q = p ∙ sym q
  one_reply_to session (asks.Act act) one other tell p q = p ∙ sym q
  one_reply_to session (asks.Show key) one other tell p q = p ∙ sym q
  one_reply_to session (asks.Boundaries boundaries) one other tell p q = p ∙ sym q
  one_reply_to session (asks.Submit s) one other tell p q = one_submission session s one other tell p q

  -- where all files tell their content these do
  read_tell : (route : Route) (entries : List Entry) → AllTell files → All (λ number. IsThere files number) (multipart.file_numbers entries)
      → All Tells (files_read route entries)
  read_tell (routes.Direct direct) entries tell there = All-nil Tells
  read_tell (routes.Multipart url) entries tell there = All-weaker (λ number. IsThere files number) Tells tell (multipart.file_numbers entries) there

  all_read_tell : (session : Session) (asked : Asked) → AllTell files → HasFiles files session.page.tree.nodes → ReadTell session asked
  all_read_tell session asks.NoCommand tell has = tt
  all_read_tell session asks.Syntax tell has = tt
  all_read_tell session (asks.Refused fault) tell has = tt
  all_read_tell session asks.Nothing tell has = tt
  all_read_tell session (asks.Act act) tell has = tt
  all_read_tell session (asks.Show key) tell has = tt
  all_read_tell session (asks.Boundaries boundaries) tell has = tt
  all_read_tell session (asks.Submit s) tell has =
      let entries = entry_list session.page s.form s.submitter s.at in
      inr (read_tell (route_of session.page.tree.nodes session.base s.form s.submitter s.check) entries tell
      (named_there files session.page s.form s.submitter s.at entries refl has))

-- ---- all lines

one_replies : (files : Files) (session : Session) (lines : List (List ℕ)) (one other : List ℕ) → AllTell files → AreFiles files session.page.files → IsSound session.page
    → AreReplies files session lines one → AreReplies files session lines other → one ≡ other
unfolding AreReplies
one_replies files session [] one other tell are sound p q = p ∙ sym q
one_replies files session (line ∷ lines) one other tell are sound p q =
    let asked = asked_in session.page line in
    let here : p.0 ≡ q.0 = one_reply_to files session asked p.0 q.0 (all_read_tell files session asked tell (has_files session.page files sound are)) p.2 q.2 in
    let more : p.1 ≡ q.1 = one_replies (files_after session.page files line) (after session line) lines p.1 q.1
    (tell_after files (withdrawn session.page asked) tell) (files_asked session.page asked files are) (session_sound session line sound) p.3 q.3 in
    p.4 ∙ ap (λ reply. reply ++ p.1) here ∙ ap (λ rest. q.0 ++ rest) more ∙ sym q.4

-- ---- an input

same_contents : (files : Files) → contents_of (λ (content : Option (List ℕ)). content) files ≡ files
unfolding contents_of
same_contents [] = refl
same_contents (None ∷ files) = ap (λ rest. None ∷ rest) (same_contents files)
same_contents (Some content ∷ files) = ap (λ rest. Some content ∷ rest) (same_contents files)

-- each name has a file
named_files : (files : Files) (names : List (List ℕ)) → length names ≡ length files → All IsSome files → AreFiles files (map new_file names)
named_files files names same there =
    subst (λ contents. AreFiles contents (map new_file names)) (same_contents files) (files_opened (λ (content : Option (List ℕ)). content) files names same there)

opened_page : (input : List ℕ) (raws : List Raw) (base : Parts) (names : List (List ℕ)) → page_in input ≡ Ok raws → IsSound (opened base raws names).page
unfolding session_after_all
opened_page input raws base names taken = run_sound input raws base names [] taken

one_transcript : (files : Files) (base : Parts) (names lines : List (List ℕ)) (page : Result (List Raw) (List ℕ)) (one other : List ℕ)
    → AllTell files → AreFiles files (map new_file names) → ((raws : List Raw) → page ≡ Ok raws → IsSound (opened base raws names).page)
    → IsTranscript files base names lines page one → IsTranscript files base names lines page other → one ≡ other
one_transcript files base names lines (Err line) one other tell are sound p q = p ∙ sym q
one_transcript files base names lines (Ok raws) one other tell are sound p q =
    p.2 ∙ ap (λ replies. page_line (length raws) ++ replies) (one_replies files (opened base raws names) lines p.0 q.0 tell are (sound raws refl) p.1 q.1) ∙ sym q.2

-- Where each name has a file that tells its content, an input has one text.
pub one_expected : (files : Files) (base : Parts) (names : List (List ℕ)) (input : List ℕ) → HasOneText files base names input
one_expected files base names input one other same there tell p q =
    one_transcript files base names (command_lines input) (page_in input) one other tell (named_files files names same there)
    (λ raws taken. opened_page input raws base names taken) p q
