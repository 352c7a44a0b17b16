-- The reply to a submission: its files' text first, then the lines of its outcome, and that it is done.
use Rattle.std.proofs.Common.{◌≡◌, ℕ, List, [], ◌++◌, refl, sym, ap, subst, ◌∙◌, append_assoc, append-nil}
use Rattle.std.specs.Prelude.{Option}
use Rattle.std.specs.Io.KnownBytes.{append_known}
use Rattle.form_ports.specs.Written.{WrotePart}
use Rattle.form_ports.proofs.Laws.{append_known-append}
use Rattle.form_pending.specs.Saying.{Says, SaysPart}
use Rattle.form_pending.proofs.Laws.{part_longer, part_lost, part_nothing, part_then, says_nothing, says_then}
use Rattle.form_page.specs.Page.{Page}
use Rattle.form_submit.specs.declared.outcome.Outcome.{Outcome}
use Rattle.form_submit.specs.declared.request.Request.{Request}
use Rattle.form_submit.specs.Outcome.{IfRequest}
use Rattle.form_submit.specs.PrintedRequest.{IsSendable, printed_request}
use Rattle.form_submit.specs.Sending.{WroteRequest, WroteRequestPart}
use Rattle.form_replies.specs.Replies.{ok_line}
use Rattle.form_replies.specs.Saying.{Said, SaidPart}
use Rattle.form_run.specs.declared.asked.Asked.{Asked}
use Rattle.form_run.specs.declared.asked.Asked.TheVariants as asks
use Rattle.form_run.specs.declared.asked.Submission.{Submission}
use Rattle.form_run.specs.Replies.{IsOutcomeText, IsReplyTo, IsRequestText, IsSubmissionReply, IsSubmitted}
use Rattle.form_run.specs.Session.{Files, Session}
use Rattle.form_run.proofs.ReplyLaws.{some_outcome, some_reply, some_sendable, some_submission, submission_reply}

-- ---- a text that is written behind what was kept

wrote_says : (written between now : Option (List ℕ)) (kept left text : List ℕ) → between ≡ append_known written kept → now ≡ append_known between text → left ≡ []
    → Says written now kept left text
wrote_says written between now kept left text first second none = record {
  front = kept ++ text;
  whole = sym (append-nil (kept ++ text)) ∙ ap (λ l. (kept ++ text) ++ l) (sym none);
  bytes = second ∙ ap (λ w. append_known w text) first ∙ append_known-append written kept text;
}

wrote_says_part : (written between now : Option (List ℕ)) (kept left text : List ℕ) → between ≡ append_known written kept → WrotePart between now text → left ≡ []
    → SaysPart written now kept left text
wrote_says_part written between now kept left text first part none = record {
  front = kept ++ part.front;
  rest = part.rest;
  whole = ap (λ t. kept ++ t) part.whole
      ∙ sym (append_assoc kept part.front part.rest)
      ∙ ap (λ l. (kept ++ part.front) ++ (l ++ part.rest)) (sym none);
  bytes = part.bytes ∙ ap (λ w. append_known w part.front) first ∙ append_known-append written kept part.front;
}

-- ---- a request

module _ (files : Files) (request : Request) (written between now : Option (List ℕ)) (kept left : List ℕ) where
  pub request_said : between ≡ append_known written kept → WroteRequest files request between now → left ≡ [] → Said (IsRequestText files request) written now kept left
  request_said first wrote none = record {
    text = printed_request request wrote.body;
    is = record { body = wrote.body; is_body = wrote.is_body; lines = refl };
    says = wrote_says written between now kept left (printed_request request wrote.body) first wrote.lines none;
  }

  pub request_part : between ≡ append_known written kept → WroteRequestPart files request between now → left ≡ [] → SaidPart (IsRequestText files request) written now kept left
  request_part first part none = record {
    text = printed_request request part.body;
    is = record { body = part.body; is_body = part.is_body; lines = refl };
    says = wrote_says_part written between now kept left (printed_request request part.body) first part.lines none;
  }

-- what was kept was written in part, and nothing of the request
pub request_lost : (files : Files) (request : Request) (written now : Option (List ℕ)) (kept left : List ℕ) → IsSendable files request → WrotePart written now kept → left ≡ []
    → SaidPart (IsRequestText files request) written now kept left
request_lost files request written now kept left sendable part none =
    let some = some_sendable files request sendable in
    record { text = some.0; is = some.1; says = part_lost written now kept left some.0 part none }

-- nothing of an outcome was said
pub outcome_nothing : (files : Files) (page : Page) (outcome : Outcome) (written now : Option (List ℕ)) (kept left : List ℕ) → IfRequest outcome (IsSendable files)
    → SaysPart written now kept left [] → SaidPart (IsOutcomeText files page outcome) written now kept left
outcome_nothing files page outcome written now kept left sendable part =
    let some = some_outcome files page outcome sendable in
    record { text = some.0; is = some.1; says = part_longer written now kept left [] some.0 part }

-- nothing of a reply was said
pub reply_nothing : (files : Files) (session : Session) (asked : Asked) (written : Option (List ℕ)) (kept : List ℕ) → SaidPart (IsReplyTo files session asked) written written kept kept
reply_nothing files session asked written kept =
    let some = some_reply files session asked in
    record { text = some.0; is = some.1; says = part_nothing written kept kept some.0 refl }

-- a line that is no command has no reply
pub no_command_said : (files : Files) (session : Session) (asked : Asked) (written : Option (List ℕ)) (kept : List ℕ) → asked ≡ asks.NoCommand
    → Said (IsReplyTo files session asked) written written kept kept
no_command_said files session asked written kept none = record {
  text = [];
  is = subst (λ a. IsReplyTo files session a []) (sym none) refl;
  says = says_nothing written kept;
}

-- ---- a submission

module _ (files : Files) (session : Session) (s : Submission) (written : Option (List ℕ)) (kept : List ℕ) where
  -- what was kept was written, as far as may be
  pub submission_nothing : (now : Option (List ℕ)) (left : List ℕ) → SaysPart written now kept left [] → SaidPart (IsSubmissionReply files session s) written now kept left
  submission_nothing now left part =
      let some = some_submission files session s in
      record { text = some.0; is = some.1; says = part_longer written now kept left [] some.0 part }

  module _ (first : Option (List ℕ)) (mid : List ℕ) (flushed : Says written first kept mid []) (outcome : Outcome) (is : IsSubmitted files session s outcome) (held : Files) (same : held ≡ files) where
    -- then a part of the outcome's lines was said
    pub submission_part : (now : Option (List ℕ)) (left : List ℕ) → SaidPart (IsOutcomeText held session.page outcome) first now mid left
        → SaidPart (IsSubmissionReply files session s) written now kept left
    submission_part now left part =
        let said : SaidPart (IsOutcomeText files session.page outcome) first now mid left =
        subst (λ fs. SaidPart (IsOutcomeText fs session.page outcome) first now mid left) same part in
        record {
          text = said.text ++ ok_line;
          is = submission_reply files session s outcome said.text is said.is;
          says = part_then written first now kept mid left [] (said.text ++ ok_line) flushed (part_longer first now mid left said.text ok_line said.says);
        }

    module _ (second : Option (List ℕ)) (next : List ℕ) (lines : Said (IsOutcomeText held session.page outcome) first second mid next) where
      abbrev lines_said : Said (IsOutcomeText files session.page outcome) first second mid next
      lines_said = subst (λ fs. Said (IsOutcomeText fs session.page outcome) first second mid next) same lines

      -- then all of them, and that it is done
      pub submission_said : (now : Option (List ℕ)) (left : List ℕ) → Says second now next left ok_line → Said (IsSubmissionReply files session s) written now kept left
      submission_said now left ok = record {
        text = lines_said.text ++ ok_line;
        is = submission_reply files session s outcome lines_said.text is lines_said.is;
        says = says_then written first now kept mid left [] (lines_said.text ++ ok_line) flushed
            (says_then first second now mid next left lines_said.text ok_line lines_said.says ok);
      }

      -- or that in part
      pub submission_part_ok : (now : Option (List ℕ)) (left : List ℕ) → SaysPart second now next left ok_line → SaidPart (IsSubmissionReply files session s) written now kept left
      submission_part_ok now left ok = record {
        text = lines_said.text ++ ok_line;
        is = submission_reply files session s outcome lines_said.text is lines_said.is;
        says = part_then written first now kept mid left [] (lines_said.text ++ ok_line) flushed
            (part_then first second now mid next left lines_said.text ok_line lines_said.says ok);
      }
