-- The replies to the lines of a script.
use Rattle.std.specs.Prelude.{◌≡◌, ℕ, List, [], ◌∷◌, ◌++◌, Option, codes}
use Rattle.form_page.specs.Page.{Page}
use Rattle.form_page.specs.Views.{changes}
use Rattle.form_acts.specs.Acts.{outcome}
use Rattle.form_acts.specs.Refusals.{refusal_of}
use Rattle.form_entries.specs.EntryList.{entry_list}
use Rattle.form_input.specs.Lines.{with_end}
use Rattle.form_submit.specs.declared.outcome.Outcome.{Outcome}
use Rattle.form_submit.specs.declared.outcome.Outcome.TheVariants as outcomes
use Rattle.form_submit.specs.declared.outcome.Why.{Why}
use Rattle.form_submit.specs.declared.outcome.Why.TheVariants as whys
use Rattle.form_submit.specs.declared.request.Request.{Request}
use Rattle.form_submit.specs.Outcome.{IsOutcomeBy}
use Rattle.form_submit.specs.PrintedRequest.{IsBody, printed_request}
use Rattle.form_submit.specs.Route.{route_of}
use Rattle.form_replies.specs.Replies.{act_reply, ok_line, refusal_word, refused_line, seen_line, stopped_lines}
use Rattle.form_run.specs.declared.asked.Asked.{Asked}
use Rattle.form_run.specs.declared.asked.Asked.TheVariants as asks
use Rattle.form_run.specs.declared.asked.Submission.{Submission}
use Rattle.form_run.specs.Chosen.{OthersStay, chosen_in}
use Rattle.form_run.specs.Session.{Files, Session, after, asked_in, files_after}

-- ---- a submission that makes no request

-- the word for why a submission makes no request
abbrev pub why_word : Why → List ℕ
why_word whys.Dialog = codes "dialog"
why_word whys.Action = codes "action"
why_word whys.Scheme = codes "scheme"
why_word whys.Long = codes "long"
why_word whys.Clash = codes "clash"

-- the line of a submission that makes no request
abbrev pub none_line : Why → List ℕ
none_line why = codes "none " ++ with_end (why_word why)

-- ---- submissions

-- the outcome of a submission, the files having these contents
abbrev pub IsSubmitted : Files → Session → Submission → Outcome → Type 0
IsSubmitted files session s outcome =
    IsOutcomeBy files (route_of session.page.tree.nodes session.base s.form s.submitter s.check)
    (entry_list session.page s.form s.submitter s.at) session.bounds outcome

-- a request as it is printed, with some bytes of its body
pub record IsRequestText (files : Files) (request : Request) (text : List ℕ) : Type 0 where
  pub body : List ℕ
  pub is_body : IsBody files request.body body
  pub lines : text ≡ printed_request request body

-- the lines of an outcome
abbrev pub IsOutcomeText : Files → Page → Outcome → List ℕ → Type 0
IsOutcomeText files page (outcomes.Stopped keys) text = text ≡ stopped_lines page keys
IsOutcomeText files page (outcomes.NoRequest why) text = text ≡ none_line why
IsOutcomeText files page (outcomes.Request request) text = IsRequestText files request text

-- the reply to a submission: the lines of its outcome, and that it is done
pub record IsSubmissionReply (files : Files) (session : Session) (s : Submission) (text : List ℕ) : Type 0 where
  pub outcome : Outcome
  pub is : IsSubmitted files session s outcome
  pub lines : List ℕ
  pub says : IsOutcomeText files session.page outcome lines
  pub whole : text ≡ lines ++ ok_line

-- ---- replies

-- the reply to what a line asks for
abbrev pub IsReplyTo : Files → Session → Asked → List ℕ → Type 0
IsReplyTo files session asks.NoCommand text = text ≡ []
IsReplyTo files session asks.Syntax text = text ≡ refused_line (codes "syntax")
IsReplyTo files session (asks.Refused fault) text = text ≡ refused_line (refusal_word fault)
IsReplyTo files session asks.Nothing text = text ≡ ok_line
IsReplyTo files session (asks.Act act) text =
    text ≡ act_reply (refusal_of session.page act) (outcome session.page act)
    (changes session.page (outcome session.page act))
IsReplyTo files session (asks.Show key) text = text ≡ seen_line session.page key ++ ok_line
IsReplyTo files session (asks.Boundaries boundaries) text = text ≡ ok_line
IsReplyTo files session (asks.Submit s) text = IsSubmissionReply files session s text

-- the reply to a line
abbrev pub IsReply : Files → Session → List ℕ → List ℕ → Type 0
IsReply files session line text = IsReplyTo files session (asked_in session.page line) text

-- ---- all lines

-- the replies to lines, one after the other, each on the session and the files that those before it left
unfoldable pub AreReplies : Files → Session → List (List ℕ) → List ℕ → Type 0
AreReplies files session [] text = text ≡ []
AreReplies files session (line ∷ lines) text =
    (reply : List ℕ) × (more : List ℕ) × IsReply files session line reply
    × AreReplies (files_after session.page files line) (after session line) lines more × (text ≡ reply ++ more)

-- the session and the files after lines
unfoldable pub session_after_all : Session → List (List ℕ) → Session
session_after_all session [] = session
session_after_all session (line ∷ lines) = session_after_all (after session line) lines

unfoldable pub files_after_all : Session → Files → List (List ℕ) → Files
files_after_all session files [] = files
files_after_all session files (line ∷ lines) =
    files_after_all (after session line) (files_after session.page files line) lines

-- These are the files after some of the first lines: they tell what those lines leave, and each file that no accepted
-- command of them chooses is the very same, as long as it is there.
pub record AreFilesUpTo {B : Type 0} (session : Session) (lines : List (List ℕ)) (old new : Files)
    (shelf left : List (Option B)) : Type 0 where
  pub front : List (List ℕ)
  pub rest : List (List ℕ)
  pub whole : lines ≡ front ++ rest
  pub is : new ≡ files_after_all session old front
  pub others : OthersStay (chosen_in session front) shelf left
