-- The transcript of an input: its page's line, and then the replies.
use Rattle.std.proofs.Common.{◌≡◌, ℕ, List, [], ◌++◌, Option, Result, Ok, Err, refl, sym, ap, subst, ◌∙◌, length, true, IfOk, OnOk}
use Rattle.std.specs.Io.KnownBytes.{append_known}
use Rattle.url.specs.Parts.{Parts}
use Rattle.form_tree.specs.declared.node.Raw.{Raw}
use Rattle.form_ports.specs.Written.{WrotePart}
use Rattle.form_pending.specs.Saying.{Says, SaysPart}
use Rattle.form_pending.proofs.Laws.{part_longer, part_nothing, said_part, said_whole}
use Rattle.form_ports.proofs.Laws.{append_known-nil}
use Rattle.form_input.specs.Input.{command_lines}
use Rattle.form_replies.specs.Saying.{Said, SaidPart}
use Rattle.form_replies.specs.PageLines.{page_line}
use Rattle.form_replies.specs.declared.stop.Stop.{Stop}
use Rattle.form_replies.specs.declared.stop.Stop.TheVariants as stops
use Rattle.form_replies.proofs.Laws.{says_part, says_said}
use Rattle.form_run.specs.Chosen.{chosen_in}
use Rattle.form_run.specs.Replies.{AreReplies}
use Rattle.form_run.specs.Session.{Files, opened}
use Rattle.form_run.specs.Taken.{page_in}
use Rattle.form_run.specs.Transcript.{AreExpectedUpTo, AreFilesSoFar, IsExpected, IsTranscript, IsEnd, WroteInput, WroteInputPart, expected_end, expected_files, files_at_end, status_of}
use Rattle.form_run.specs.declared.status.Status.{Status}
use Rattle.form_run.proofs.ChosenLaws.{stay_same}
use Rattle.form_run.proofs.ReplyLaws.{no_files, some_replies}

module _ (files : Files) (base : Parts) (names : List (List ℕ)) (lines : List (List ℕ)) where
  -- an input has a text
  pub some_transcript : (page : Result (List Raw) (List ℕ)) → (text : List ℕ) × IsTranscript files base names lines page text
  some_transcript (Err line) = (line, refl)
  some_transcript (Ok raws) =
      let replies = some_replies files (opened base raws names) lines in
      (page_line (length raws) ++ replies.0, (replies.0, replies.1, refl))

  -- nothing of it is said
  pub page_nothing : (written : Option (List ℕ)) (kept : List ℕ) (page : Result (List Raw) (List ℕ)) → SaidPart (IsTranscript files base names lines page) written written kept kept
  page_nothing written kept page =
      let text = some_transcript page in
      record { text = text.0; is = text.1; says = part_nothing written kept kept text.0 refl }

  -- the page's line is said in part
  pub page_part : (written now : Option (List ℕ)) (kept left : List ℕ) (raws : List Raw) (line : List ℕ) → line ≡ page_line (length raws) → SaysPart written now kept left line
      → SaidPart (IsTranscript files base names lines (Ok raws)) written now kept left
  page_part written now kept left raws line is said =
      let part : SaysPart written now kept left (page_line (length raws)) = subst (λ l. SaysPart written now kept left l) is said in
      let replies = some_replies files (opened base raws names) lines in
      record {
        text = page_line (length raws) ++ replies.0;
        is = (replies.0, replies.1, refl);
        says = part_longer written now kept left (page_line (length raws)) replies.0 part;
      }

  -- the page's line is said, and then the replies
  pub page_then : (written between now : Option (List ℕ)) (kept mid left : List ℕ) (raws : List Raw) (line : List ℕ) → line ≡ page_line (length raws) → Says written between kept mid line
      → Said (AreReplies files (opened base raws names) lines) between now mid left → Said (IsTranscript files base names lines (Ok raws)) written now kept left
  page_then written between now kept mid left raws line is first said =
      let says : Says written between kept mid (page_line (length raws)) = subst (λ l. Says written between kept mid l) is first in
      says_said written between now kept mid left (page_line (length raws)) (AreReplies files (opened base raws names) lines) (IsTranscript files base names lines (Ok raws))
      (λ more are. (more, are, refl)) says said

  pub page_part_then : (written between now : Option (List ℕ)) (kept mid left : List ℕ) (raws : List Raw) (line : List ℕ) → line ≡ page_line (length raws) → Says written between kept mid line
      → SaidPart (AreReplies files (opened base raws names) lines) between now mid left → SaidPart (IsTranscript files base names lines (Ok raws)) written now kept left
  page_part_then written between now kept mid left raws line is first said =
      let says : Says written between kept mid (page_line (length raws)) = subst (λ l. Says written between kept mid l) is first in
      says_part written between now kept mid left (page_line (length raws)) (AreReplies files (opened base raws names) lines) (IsTranscript files base names lines (Ok raws))
      (λ more are. (more, are, refl)) says said

  -- as long as no line is served the files are as before
  pub files_untouched : {B : Type 0} (shelf : List (Option B)) (page : Result (List Raw) (List ℕ)) → AreFilesSoFar base names lines page files files shelf shelf
  files_untouched shelf (Err line) = (refl, refl)
  files_untouched shelf (Ok raws) = record {
    front = [];
    rest = lines;
    whole = refl;
    is = no_files (opened base raws names) files;
    others = stay_same (chosen_in (opened base raws names) []) shelf;
  }

-- ---- an input

module _ (files : Files) (base : Parts) (names : List (List ℕ)) (input : List ℕ) (commands : List (List ℕ)) (page : Result (List Raw) (List ℕ))
    (lines : commands ≡ command_lines input) (taken : page_in input ≡ page) where
  expected : (text : List ℕ) → IsTranscript files base names commands page text → IsExpected files base names input text
  expected text is =
      let at_lines : IsTranscript files base names (command_lines input) page text = subst (λ ls. IsTranscript files base names ls page text) lines is in
      subst (λ p. IsTranscript files base names (command_lines input) p text) (sym taken) at_lines

  pub input_said : (written now : Option (List ℕ)) (kept left : List ℕ) → Said (IsTranscript files base names commands page) written now kept left
      → Said (IsExpected files base names input) written now kept left
  input_said written now kept left said = record { text = said.text; is = expected said.text said.is; says = said.says }

  pub input_part : (written now : Option (List ℕ)) (kept left : List ℕ) → SaidPart (IsTranscript files base names commands page) written now kept left
      → SaidPart (IsExpected files base names input) written now kept left
  input_part written now kept left said = record { text = said.text; is = expected said.text said.is; says = said.says }

  pub input_files : (new : Files) → new ≡ files_at_end base names commands page files → new ≡ expected_files base names input files
  input_files new is = is ∙ ap (λ ls. files_at_end base names ls page files) lines ∙ ap (λ p. files_at_end base names (command_lines input) p files) (sym taken)

  pub input_so_far : {B : Type 0} (new : Files) (shelf left : List (Option B)) → AreFilesSoFar base names commands page files new shelf left → AreExpectedUpTo base names input files new shelf left
  input_so_far new shelf left are =
      let at_lines : AreFilesSoFar base names (command_lines input) page files new shelf left = subst (λ ls. AreFilesSoFar base names ls page files new shelf left) lines are in
      subst (λ p. AreFilesSoFar base names (command_lines input) p files new shelf left) (sym taken) at_lines

-- the line of a page that is refused is all that is said
pub refused_said : (files : Files) (base : Parts) (names : List (List ℕ)) (input line : List ℕ) → page_in input ≡ Err line → IsExpected files base names input line
refused_said files base names input line taken =
    subst (λ p. IsTranscript files base names (command_lines input) p line) (sym taken) refl

pub refused_files : (files : Files) (base : Parts) (names : List (List ℕ)) (input line : List ℕ) → page_in input ≡ Err line → files ≡ expected_files base names input files
refused_files files base names input line taken = sym (ap (λ p. files_at_end base names (command_lines input) p files) taken)

-- nothing of an input's text is said
pub input_nothing : (files : Files) (base : Parts) (names : List (List ℕ)) (input : List ℕ) (written : Option (List ℕ)) (kept : List ℕ)
    → SaidPart (IsExpected files base names input) written written kept kept
input_nothing files base names input written kept = page_nothing files base names (command_lines input) written kept (page_in input)

pub input_untouched : {B : Type 0} (files : Files) (base : Parts) (names : List (List ℕ)) (input : List ℕ) (shelf : List (Option B)) → AreExpectedUpTo base names input files files shelf shelf
input_untouched files base names input shelf = files_untouched files base names (command_lines input) shelf (page_in input)

-- ---- what is written at the end

module _ (files : Files) (base : Parts) (names : List (List ℕ)) (input : List ℕ) (written between now : Option (List ℕ)) (left : List ℕ) where
  -- all was said, and the last of it is written
  pub wrote_input : (status : Status) → status ≡ expected_end input → Said (IsExpected files base names input) written between [] left → now ≡ append_known between left
      → WroteInput files base names input status written now
  wrote_input status end said bytes = record {
    end = end;
    text = said.text;
    is = said.is;
    wrote = said_whole written between now left said.text said.says bytes;
  }

  -- a front was said, and what is kept of it is written as far as may be
  pub wrote_part : SaidPart (IsExpected files base names input) written between [] left → WrotePart between now left → WroteInputPart files base names input written now
  wrote_part said part = record {
    text = said.text;
    is = said.is;
    part = said_part written between now left said.text said.says part;
  }

-- nothing is written
pub wrote_nothing : (files : Files) (base : Parts) (names : List (List ℕ)) (input : List ℕ) (written : Option (List ℕ)) → WroteInputPart files base names input written written
wrote_nothing files base names input written =
    let text = some_transcript files base names (command_lines input) (page_in input) in
    record { text = text.0; is = text.1; part = record { front = []; rest = text.0; whole = refl; bytes = append_known-nil written } }

-- the text of a run whose lines were all said, or that stopped
pub ended_input : (files : Files) (base : Parts) (names : List (List ℕ)) (input : List ℕ) (written between now : Option (List ℕ)) (start left : List ℕ) (ended : Result Status Stop)
    → IfOk ended (λ status. status ≡ expected_end input) → OnOk ended (Said (IsExpected files base names input) written between start left) → start ≡ [] → now ≡ append_known between left
    → IsEnd (status_of ended) ≡ true → WroteInput files base names input (status_of ended) written now
ended_input files base names input written between now start left (Ok status) end said none bytes is =
    wrote_input files base names input written between now left status end
    (subst (λ s. Said (IsExpected files base names input) written between s left) none said) bytes
ended_input files base names input written between now start left (Err stops.WriteFault) end said none bytes is = absurd (cc is)
ended_input files base names input written between now start left (Err stops.FileFault) end said none bytes is = absurd (cc is)
ended_input files base names input written between now start left (Err stops.Memory) end said none bytes is = absurd (cc is)
ended_input files base names input written between now start left (Err (stops.FileChanged a b)) end said none bytes is = absurd (cc is)

-- and what was written of it
pub ended_part : (files : Files) (base : Parts) (names : List (List ℕ)) (input : List ℕ) (written between now : Option (List ℕ)) (start left : List ℕ)
    → SaidPart (IsExpected files base names input) written between start left → start ≡ [] → WrotePart between now left → WroteInputPart files base names input written now
ended_part files base names input written between now start left said none part =
    wrote_part files base names input written between now left
    (subst (λ s. SaidPart (IsExpected files base names input) written between s left) none said) part
