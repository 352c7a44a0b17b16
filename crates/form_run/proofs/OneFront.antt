-- Up to the first submission that is decided by a file which does not tell its content, an input has one text.
use Rattle.std.proofs.Common.{◌≡◌, ℕ, Bool, true, false, not, ◌&&◌, List, [], ◌∷◌, ◌++◌, Option, Some, None, IfSome, Result, Ok, Err, cond, length, subst, refl, sym, ap, ◌∙◌, inl, inr, append_assoc, append-nil}
use Rattle.std.specs.Prelude.{◌⊎◌, All, IsSome, is_some, nat_lt}
use Rattle.std.specs.List.{list_any}
use Rattle.std.proofs.lemmas.Bool.{false≢true, or_parts}
use Rattle.std.proofs.lemmas.List.Elements.{All-cons, All-nil}
use Rattle.url.specs.Parts.{Parts}
use Rattle.form_ports.proofs.Laws.{append_known-nil}
use Rattle.form_ports.specs.Shelf.{told}
use Rattle.form_tree.specs.declared.node.Raw.{Raw}
use Rattle.form_encode.specs.declared.entry.Entry.{Entry}
use Rattle.form_entries.specs.EntryList.{entries_length, entry_list, most_bytes}
use Rattle.form_input.specs.Input.{command_lines}
use Rattle.form_input.specs.Words.{PlainTask, Generated, Page}
use Rattle.form_submit.specs.declared.route.Route.{Route}
use Rattle.form_submit.specs.Outcome.{files_read}
use Rattle.form_submit.specs.Route.{route_of}
use Rattle.form_run.specs.declared.asked.Asked.{Asked}
use Rattle.form_run.specs.declared.asked.Asked.TheVariants as asks
use Rattle.form_run.specs.Fronts.{Begins, HasKnownFront, HasOneFront, WroteKnown, is_open, known_lines, known_of}
use Rattle.form_run.specs.Replies.{AreReplies}
use Rattle.form_run.specs.Session.{Files, Session, after, asked_in, files_after, opened}
use Rattle.form_run.specs.Taken.{page_in}
use Rattle.form_replies.specs.PageLines.{page_line}
use Rattle.form_run.specs.Transcript.{IsEnd, IsExpected, IsTranscript, WroteAll, WroteInput, WroteInputPart}
use Rattle.form_run.specs.declared.status.Status.{Status}
use Rattle.form_run.proofs.OneTranscript.{Decided, ReadTell, one_reply_to}
use Rattle.form_run.proofs.Runs.{of_any, of_input}
use Rattle.form_run.proofs.TranscriptLaws.{some_transcript}

module _ (files : Files) where
  all_tell : (numbers : List ℕ) → list_any (λ number. not (is_some (told files number))) numbers ≡ false → All (λ number. IsSome (told files number)) numbers
  all_tell [] none = All-nil (λ number. IsSome (told files number))
  all_tell (number ∷ numbers) none =
      let parts = or_parts (not (is_some (told files number))) (list_any (λ n. not (is_some (told files n))) numbers) none in
      All-cons (λ n. IsSome (told files n)) number numbers (holds (is_some (told files number)) parts.0) (all_tell numbers parts.1)
    where
      holds : (b : Bool) → not b ≡ false → b ≡ true
      holds true e = refl
      holds false e = absurd (cc)

  decided : (route : Route) (entries : List Entry) (long : Bool) → nat_lt most_bytes (entries_length entries) ≡ long
      → (not long && list_any (λ number. not (is_some (told files number))) (files_read route entries)) ≡ false → Decided files route entries
  decided route entries true e none = inl e
  decided route entries false e none = inr (all_tell (files_read route entries) none)

  closed_tells : (session : Session) (asked : Asked) → is_open files session asked ≡ false → ReadTell files session asked
  closed_tells session asks.NoCommand none = tt
  closed_tells session asks.Syntax none = tt
  closed_tells session (asks.Refused fault) none = tt
  closed_tells session asks.Nothing none = tt
  closed_tells session (asks.Act act) none = tt
  closed_tells session (asks.Show key) none = tt
  closed_tells session (asks.Boundaries boundaries) none = tt
  closed_tells session (asks.Submit s) none =
      let entries = entry_list session.page s.form s.submitter s.at in
      decided (route_of session.page.tree.nodes session.base s.form s.submitter s.check) entries (nat_lt most_bytes (entries_length entries)) refl none

-- the replies to the lines before the first open submission
known_replies : (files : Files) (session : Session) (lines : List (List ℕ)) (one other : List ℕ) → AreReplies files session (known_lines files session lines) one
    → AreReplies files session lines other → Begins other one
unfolding known_lines AreReplies
known_replies files session [] one other p q = record { rest = []; whole = q ∙ ap (λ t. t ++ []) (sym p) }
known_replies files session (line ∷ lines) one other p q =
    go (is_open files session (asked_in session.page line)) refl
    (λ one other. known_replies (files_after session.page files line) (after session line) lines one other) p q
  where
    left : List (List ℕ)
    left = known_lines (files_after session.page files line) (after session line) lines

    go : (b : Bool) → is_open files session (asked_in session.page line) ≡ b
        → ((one other : List ℕ) → AreReplies (files_after session.page files line) (after session line) left one
        → AreReplies (files_after session.page files line) (after session line) lines other → Begins other one)
        → AreReplies files session (cond b [] (line ∷ left)) one → AreReplies files session (line ∷ lines) other → Begins other one
    go true e later p q = record { rest = other; whole = ap (λ t. t ++ other) (sym p) }
    go false e later p q =
        let asked = asked_in session.page line in
        let here : p.0 ≡ q.0 = one_reply_to files session asked p.0 q.0 (closed_tells files session asked e) p.2 q.2 in
        let more = later p.1 q.1 p.3 q.3 in
        record {
          rest = more.rest;
          whole = q.4 ∙ ap (λ t. q.0 ++ t) more.whole ∙ sym (append_assoc q.0 p.1 more.rest) ∙ ap (λ t. (t ++ p.1) ++ more.rest) (sym here)
              ∙ ap (λ t. t ++ more.rest) (sym p.4);
        }

-- and there is one such text
one_known : (files : Files) (session : Session) (lines : List (List ℕ)) (one other : List ℕ) → AreReplies files session (known_lines files session lines) one
    → AreReplies files session (known_lines files session lines) other → other ≡ one
unfolding known_lines AreReplies
one_known files session [] one other p q = q ∙ sym p
one_known files session (line ∷ lines) one other p q =
    go (is_open files session (asked_in session.page line)) refl
    (λ one other. one_known (files_after session.page files line) (after session line) lines one other) p q
  where
    left : List (List ℕ)
    left = known_lines (files_after session.page files line) (after session line) lines

    go : (b : Bool) → is_open files session (asked_in session.page line) ≡ b
        → ((one other : List ℕ) → AreReplies (files_after session.page files line) (after session line) left one
        → AreReplies (files_after session.page files line) (after session line) left other → other ≡ one)
        → AreReplies files session (cond b [] (line ∷ left)) one → AreReplies files session (cond b [] (line ∷ left)) other → other ≡ one
    go true e later p q = q ∙ sym p
    go false e later p q =
        let asked = asked_in session.page line in
        let here : q.0 ≡ p.0 = one_reply_to files session asked q.0 p.0 (closed_tells files session asked e) q.2 p.2 in
        let more : q.1 ≡ p.1 = later p.1 q.1 p.3 q.3 in
        q.4 ∙ ap (λ t. t ++ q.1) here ∙ ap (λ t. p.0 ++ t) more ∙ sym p.4

-- ---- an input

module _ (files : Files) (base : Parts) (names lines : List (List ℕ)) where
  begins : (page : Result (List Raw) (List ℕ)) (front text : List ℕ) → IsTranscript files base names (known_of files base names lines page) page front
      → IsTranscript files base names lines page text → Begins text front
  begins (Err line) front text p q = record { rest = []; whole = q ∙ sym p ∙ sym (append-nil front) }
  begins (Ok raws) front text p q =
      let more = known_replies files (opened base raws names) lines p.0 q.0 p.1 q.1 in
      record {
        rest = more.rest;
        whole = q.2 ∙ ap (λ t. page_line (length raws) ++ t) more.whole ∙ sym (append_assoc (page_line (length raws)) p.0 more.rest)
            ∙ ap (λ t. t ++ more.rest) (sym p.2);
      }

  one_front : (page : Result (List Raw) (List ℕ)) (one other : List ℕ) → IsTranscript files base names (known_of files base names lines page) page one
      → IsTranscript files base names (known_of files base names lines page) page other → other ≡ one
  one_front (Err line) one other p q = q ∙ sym p
  one_front (Ok raws) one other p q =
      q.2 ∙ ap (λ t. page_line (length raws) ++ t) (one_known files (opened base raws names) lines p.0 q.0 p.1 q.1) ∙ sym p.2

pub known_front : (files : Files) (base : Parts) (names : List (List ℕ)) (input : List ℕ) → HasOneFront files base names input
known_front files base names input =
    let lines = command_lines input in
    let some = some_transcript files base names (known_of files base names lines (page_in input)) (page_in input) in
    record {
      front = some.0;
      is = some.1;
      one = λ other is. one_front files base names lines (page_in input) some.0 other some.1 is;
      begins = λ text is. begins files base names lines (page_in input) some.0 text some.1 is;
    }

-- ---- what was written

-- of two fronts of one text one begins with the other
two_fronts : (xs more ys rest : List ℕ) → xs ++ more ≡ ys ++ rest → Begins xs ys ⊎ Begins ys xs
two_fronts [] more ys rest e = inr (record { rest = ys; whole = refl })
two_fronts (x ∷ xs) more [] rest e = inl (record { rest = x ∷ xs; whole = refl })
two_fronts (x ∷ xs) more (y ∷ ys) rest e =
    let head : x ≡ y = cc e in
    let tail : xs ++ more ≡ ys ++ rest = cc e in
    longer head (two_fronts xs more ys rest tail)
  where
    longer : x ≡ y → Begins xs ys ⊎ Begins ys xs → Begins (x ∷ xs) (y ∷ ys) ⊎ Begins (y ∷ ys) (x ∷ xs)
    longer head (inl h) = inl (record { rest = h.rest; whole = ap (λ z. z ∷ xs) head ∙ ap (λ zs. y ∷ zs) h.whole })
    longer head (inr h) = inr (record { rest = h.rest; whole = ap (λ z. z ∷ ys) (sym head) ∙ ap (λ zs. x ∷ zs) h.whole })

-- What was written begins with that text, or that text begins with it; where the whole text was written, it begins so.
pub part_known : (files : Files) (base : Parts) (names : List (List ℕ)) (input : List ℕ) (written now : Option (List ℕ)) (known : HasOneFront files base names input)
    → (wrote : WroteInputPart files base names input written now) → Begins wrote.part.front known.front ⊎ Begins known.front wrote.part.front
part_known files base names input written now known wrote =
    let begins = known.begins wrote.text wrote.is in
    two_fronts wrote.part.front wrote.part.rest known.front begins.rest (sym wrote.part.whole ∙ begins.whole)

pub whole_known : (files : Files) (base : Parts) (names : List (List ℕ)) (input : List ℕ) (status : Status) (written now : Option (List ℕ)) (known : HasOneFront files base names input)
    → (wrote : WroteInput files base names input status written now) → Begins wrote.text known.front
whole_known files base names input status written now known wrote = known.begins wrote.text wrote.is

-- a run's writing, from what it says of its end and of each ending
pub known_written : (files new : Files) (base : Parts) (names : List (List ℕ)) (held left : Option (List ℕ)) (given taken : ℕ) (status : Status) (written now : Option (List ℕ))
    → (IsEnd status ≡ true → WroteAll files new base names held left given taken status written now)
    → IfSome held (λ input. WroteInputPart files base names input written now)
    → IfSome held (λ input. WroteKnown files base names input status written now)
known_written files new base names None left given taken status written now ended wrote = tt
known_written files new base names (Some input) left given taken status written now ended wrote =
    let known = known_front files base names input in
    record {
      known = known;
      whole = λ e.
          let all = ended e in
          let same : all.input ≡ input = of_input (Some input) left given taken all.input (λ read. all.input ≡ read) all.gave all.at_end refl in
          let P : List ℕ → Type 0 = λ read. IsExpected files base names read all.whole.text in
          record { text = all.whole.text; is = known.begins all.whole.text (subst P same all.whole.is); bytes = all.whole.wrote };
      part = record { text = wrote.part.front; is = part_known files base names input written now known wrote; bytes = wrote.part.bytes };
    }

pub page_known : (task : Option PlainTask) (base : Parts) (names : List (List ℕ)) (files : Files) (held : Option (List ℕ)) (status : Status) (written now : Option (List ℕ))
    → task ≡ Some (Page base names) → IfSome held (λ input. WroteKnown files base names input status written now) → HasKnownFront task files held status written now
page_known task base names files held status written now is wrote =
    let P : Option PlainTask → Type 0 = λ t. HasKnownFront t files held status written now in
    subst P (sym is) wrote

-- a run that wrote nothing and did not come to its end
pub nothing_known : (task : Option PlainTask) (files : Files) (held : Option (List ℕ)) (status : Status) (written : Option (List ℕ)) → IsEnd status ≡ false → HasKnownFront task files held status written written
nothing_known None files held status written unended = tt
nothing_known (Some (Generated count)) files held status written unended = tt
nothing_known (Some (Page base names)) files held status written unended =
    of_any held (λ input. WroteKnown files base names input status written written) (λ input. record {
      known = known_front files base names input;
      whole = λ e. absurd (false≢true (sym unended ∙ e));
      part = record {
        text = [];
        is = inr (record { rest = (known_front files base names input).front; whole = refl });
        bytes = append_known-nil written;
      };
    })
