-- The replies to all lines, one line at a time.
use Rattle.std.proofs.Common.{◌≡◌, ℕ, List, [], ◌∷◌, ◌++◌, refl, sym, ap, subst, ◌∙◌, append_assoc, append-nil}
use Rattle.std.specs.Prelude.{Option}
use Rattle.form_pending.specs.Saying.{Says}
use Rattle.form_pending.proofs.Laws.{part_longer, part_then, says_nothing, says_then}
use Rattle.form_input.specs.Lines.{lines_of}
use Rattle.form_replies.specs.Saying.{Said, SaidPart}
use Rattle.form_run.specs.Chosen.{NamesNone, OthersStay, chosen_in, named_in}
use Rattle.form_run.specs.Replies.{AreFilesUpTo, AreReplies, IsReply, files_after_all, session_after_all}
use Rattle.form_run.specs.Session.{Files, Session, after, files_after}
use Rattle.form_run.proofs.ChosenLaws.{stay_line, stay_more, stay_same}
use Rattle.form_run.proofs.ReplyLaws.{files_append, no_files, no_replies, no_session, one_files, one_reply, one_session, replies_append, session_append, some_replies}

-- ---- lines that are served

-- These lines are served, and those are left.
pub record ServedUpTo {B : Type 0} (old new : Files) (shelf rest : List (Option B)) (first session : Session) (all left : List (List ℕ)) (written now : Option (List ℕ)) (kept pending : List ℕ) : Type 0 where
  pub done : List (List ℕ)
  pub lines : all ≡ done ++ left
  pub text : List ℕ
  pub are : AreReplies old first done text
  pub says : Says written now kept pending text
  pub session_is : session ≡ session_after_all first done
  pub files_are : new ≡ files_after_all first old done
  pub others : OthersStay (chosen_in first done) shelf rest
  pub unnamed : NamesNone first.page

pub served_start : {B : Type 0} (files : Files) (shelf : List (Option B)) (session : Session) (all : List (List ℕ)) (written : Option (List ℕ)) (kept : List ℕ) → NamesNone session.page
    → ServedUpTo files files shelf shelf session session all all written written kept kept
served_start files shelf session all written kept unnamed = record {
  done = [];
  lines = refl;
  text = [];
  are = no_replies files session;
  says = says_nothing written kept;
  session_is = no_session session;
  files_are = no_files session files;
  others = stay_same (chosen_in session []) shelf;
  unnamed = unnamed;
}

module _ {B : Type 0} (old new : Files) (shelf rest : List (Option B)) (first session : Session) (all : List (List ℕ)) (line : List ℕ) (left : List (List ℕ)) (lines : List (List ℕ)) (written between now : Option (List ℕ)) (kept mid pending : List ℕ)
    (so_far : ServedUpTo old new shelf rest first session all lines written between kept mid) (split : lines ≡ line ∷ left) where
  abbrev reply_at : List ℕ → Type 0
  reply_at reply = AreReplies (files_after_all first old so_far.done) (session_after_all first so_far.done) (line ∷ []) reply

  here : (reply : List ℕ) → IsReply new session line reply → reply_at reply
  here reply is =
      let at_files : AreReplies new session (line ∷ []) reply = one_reply new session line reply is in
      let at_session : AreReplies (files_after_all first old so_far.done) session (line ∷ []) reply =
      subst (λ files. AreReplies files session (line ∷ []) reply) so_far.files_are at_files in
      subst (λ s. AreReplies (files_after_all first old so_far.done) s (line ∷ []) reply) so_far.session_is at_session

  -- one more line is served
  pub served_more : (next : Session) (contents : Files) (last : List (Option B)) → Said (IsReply new session line) between now mid pending → next ≡ after session line → contents ≡ files_after session.page new line
      → OthersStay (named_in session.page) rest last → ServedUpTo old contents shelf last first next all left written now kept pending
  served_more next contents last said then files stay = record {
    done = so_far.done ++ (line ∷ []);
    lines = so_far.lines ∙ ap (λ ls. so_far.done ++ ls) split ∙ sym (append_assoc so_far.done (line ∷ []) left);
    text = so_far.text ++ said.text;
    are = replies_append old first so_far.done (line ∷ []) so_far.text said.text so_far.are (here said.text said.is);
    says = says_then written between now kept mid pending so_far.text said.text so_far.says said.says;
    session_is = then ∙ ap (λ s. after s line) so_far.session_is ∙ sym (one_session (session_after_all first so_far.done) line)
        ∙ sym (session_append first so_far.done (line ∷ []));
    files_are = files
        ∙ ap (λ fs. files_after session.page fs line) so_far.files_are
        ∙ ap (λ s. files_after s.page (files_after_all first old so_far.done) line) so_far.session_is
        ∙ sym (one_files (session_after_all first so_far.done) (files_after_all first old so_far.done) line)
        ∙ sym (files_append first old so_far.done (line ∷ []));
    others = stay_more first so_far.done (line ∷ []) shelf last
        (stay_line first session so_far.done shelf rest last so_far.unnamed so_far.session_is so_far.others stay);
    unnamed = so_far.unnamed;
  }

  -- a line is served in part
  pub served_part : SaidPart (IsReply new session line) between now mid pending → SaidPart (AreReplies old first all) written now kept pending
  served_part said =
      let files = files_after_all first old so_far.done in
      let at = session_after_all first so_far.done in
      let more = some_replies (files_after_all at files (line ∷ [])) (session_after_all at (line ∷ [])) left in
      let whole : AreReplies old first (so_far.done ++ ((line ∷ []) ++ left)) (so_far.text ++ (said.text ++ more.0)) =
      replies_append old first so_far.done ((line ∷ []) ++ left) so_far.text (said.text ++ more.0) so_far.are
      (replies_append files at (line ∷ []) left said.text more.0 (here said.text said.is) more.1) in
      record {
        text = so_far.text ++ (said.text ++ more.0);
        is = subst (λ ls. AreReplies old first ls (so_far.text ++ (said.text ++ more.0))) (sym (so_far.lines ∙ ap (λ ls. so_far.done ++ ls) split)) whole;
        says = part_then written between now kept mid pending so_far.text (said.text ++ more.0) so_far.says
            (part_longer between now mid pending said.text more.0 said.says);
      }

-- the files after some of the lines
pub served_files : {B : Type 0} (old new : Files) (shelf rest : List (Option B)) (first session : Session) (all left : List (List ℕ)) (written now : Option (List ℕ)) (kept pending : List ℕ)
    → ServedUpTo old new shelf rest first session all left written now kept pending → AreFilesUpTo first all old new shelf rest
served_files old new shelf rest first session all left written now kept pending so_far = record {
  front = so_far.done;
  rest = left;
  whole = so_far.lines;
  is = so_far.files_are;
  others = so_far.others;
}

-- the same, where a line left them as they were
pub served_kept : {B : Type 0} (old new final : Files) (shelf rest last : List (Option B)) (first session : Session) (all left : List (List ℕ)) (written now : Option (List ℕ)) (kept pending : List ℕ)
    → ServedUpTo old new shelf rest first session all left written now kept pending → final ≡ new → OthersStay (named_in session.page) rest last → AreFilesUpTo first all old final shelf last
served_kept old new final shelf rest last first session all left written now kept pending so_far same stay = record {
  front = so_far.done;
  rest = left;
  whole = so_far.lines;
  is = same ∙ so_far.files_are;
  others = stay_line first session so_far.done shelf rest last so_far.unnamed so_far.session_is so_far.others stay;
}

no_lines : (text : List ℕ) → text ≡ [] → lines_of text ≡ []
unfolding lines_of
no_lines text none = ap lines_of none

module _ {B : Type 0} (old new : Files) (shelf last : List (Option B)) (first session : Session) (all : List (List ℕ)) (rest : List ℕ) (written now : Option (List ℕ)) (kept pending : List ℕ)
    (so_far : ServedUpTo old new shelf last first session all (lines_of rest) written now kept pending) (none : rest ≡ []) where
  all_done : all ≡ so_far.done
  all_done = so_far.lines ∙ ap (λ ls. so_far.done ++ ls) (no_lines rest none) ∙ append-nil so_far.done

  -- no line is left
  pub served_all : Said (AreReplies old first all) written now kept pending
  served_all = record {
    text = so_far.text;
    is = subst (λ ls. AreReplies old first ls so_far.text) (sym all_done) so_far.are;
    says = so_far.says;
  }

  pub served_all_files : new ≡ files_after_all first old all
  served_all_files = so_far.files_are ∙ ap (files_after_all first old) (sym all_done)
