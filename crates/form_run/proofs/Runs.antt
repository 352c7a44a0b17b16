-- What a run knows of its input, its files and its end.
use Rattle.std.proofs.Common.{◌≡◌, ℕ, zero, suc, ◌≤◌, ◌==◌, length, arith, List, [], ◌∷◌, ◌++◌, refl, sym, ap, subst, ◌∙◌, inl, inr, true, false, Bool, Option, Some, None, IfSome, Result, Ok, Err, append-nil, set}
use Rattle.std.specs.Prelude.{◌⊎◌, IsSome, slice_get}
use Rattle.std.specs.Io.KnownBytes.{IsAtEnd}
use Rattle.std.proofs.lemmas.Bool.Decides.{nat_tests}
use Rattle.std.proofs.lemmas.Bool.{false≢true}
use Rattle.url.specs.Parts.{Parts}
use Rattle.form_ports.specs.Shelf.{IsFile, IsThere, at_number, told, told_in}
use Rattle.form_tree.specs.declared.node.Raw.{Raw}
use Rattle.form_input.specs.Input.{command_lines}
use Rattle.form_input.specs.Limits.{most_input}
use Rattle.form_input.specs.Moved.{Gave}
use Rattle.form_replies.specs.Withdrawn.{without_all, without_number}
use Rattle.form_run.specs.declared.status.Status.{Status}
use Rattle.form_run.specs.declared.status.Status.TheVariants as ends
use Rattle.form_input.specs.Words.{PlainTask, Generated, Page}
use Rattle.form_ports.proofs.Laws.{append_known-nil}
use Rattle.form_run.specs.Counting.{generated_text}
use Rattle.form_run.specs.Ended.{AllTell, HasFilesUpTo, HasWritten, IsCompleteOf, IsWhole}
use Rattle.form_run.specs.Endings.{SomeChanged}
use Rattle.form_run.specs.Replies.{files_after_all}
use Rattle.form_run.specs.Session.{Files, Session, after, asked_in, files_after, opened, withdrawn}
use Rattle.form_run.specs.Taken.{page_in}
use Rattle.form_run.specs.Transcript.{AreExpectedUpTo, AreFilesSoFar, IsEnd, IsWritingEnd, PageIs, WroteInput, WroteInputPart, expected_end}
use Rattle.form_run.proofs.FilesLaws.{other_place}
use Rattle.form_run.proofs.PageLaws.{page_told}
use Rattle.form_run.proofs.TranscriptLaws.{input_untouched, wrote_nothing}

-- ---- the bytes of the source

-- what holds of the bytes that were read holds of the bytes that the source held
pub of_input : (held left : Option (List ℕ)) (before now : ℕ) (input : List ℕ) (P : List ℕ → Type 0) → Gave held left before now input → IsAtEnd left → P input → IfSome held P
of_input held None before now input P gave at_end here =
    let Q : Option (List ℕ) → Type 0 = λ h. IfSome h P in subst Q (sym gave.held_is) tt
of_input held (Some rest) before now input P gave at_end here =
    let Q : Option (List ℕ) → Type 0 = λ h. IfSome h P in
    subst Q (sym (gave.held_is ∙ ap Some (ap (λ r. input ++ r) at_end ∙ append-nil input))) here

-- what holds of all bytes holds of those
pub of_any : (held : Option (List ℕ)) (P : List ℕ → Type 0) → ((input : List ℕ) → P input) → IfSome held P
of_any None P all = tt
of_any (Some input) P all = all input

-- what the bytes have that the source held, and what follows from it
pub of_held : (held : Option (List ℕ)) (P Q : List ℕ → Type 0) → ((input : List ℕ) → P input → Q input) → IfSome held P → IfSome held Q
of_held None P Q then has = tt
of_held (Some input) P Q then has = then input has

-- ---- the files that tell

gone_place : (files : Files) (gone : ℕ) → IsFile (slice_get (set files gone None) gone) → ⊥
gone_place [] gone there = there
gone_place (file ∷ files) zero there = there
gone_place (file ∷ files) (suc gone) there = gone_place files gone there

tell_without : (files : Files) (number : ℕ) → AllTell files → AllTell (without_number files number)
unfolding at_number told
tell_without files zero tell = tell
tell_without files (suc gone) tell = go
  where
    still : (place : ℕ) (b : Bool) → (place == gone) ≡ b → IsThere (set files gone None) (suc place) → IsSome (told (set files gone None) (suc place))
    still place true e there =
        let same : place ≡ gone = grind (arith, nat_tests, e) in
        let P : ℕ → Type 0 = λ p. IsFile (slice_get (set files gone None) p) in
        absurd (gone_place files gone (subst P same there.file))
    still place false e there =
        let other : place ≡ gone → ⊥ = λ same. grind (arith, nat_tests, e, same) in
        let kept = other_place files gone place None other in
        let P : Option (Option (Option (List ℕ))) → Type 0 = IsFile in
        let Q : Option (Option (Option (List ℕ))) → Type 0 = λ file. IsSome (told_in file) in
        subst Q (sym kept) (tell (suc place) (record { file = subst P kept there.file }))

    go : (number : ℕ) → IsThere (set files gone None) number → IsSome (told (set files gone None) number)
    go zero there = absurd there.file
    go (suc place) there = still place (place == gone) refl there

pub tell_after : (files : Files) (number : Option ℕ) → AllTell files → AllTell (without_all files number)
tell_after files None tell = tell
tell_after files (Some number) tell = tell_without files number tell

tell_after_all : (session : Session) (files : Files) (lines : List (List ℕ)) → AllTell files → AllTell (files_after_all session files lines)
unfolding files_after_all
tell_after_all session files [] tell = tell
tell_after_all session files (line ∷ lines) tell =
    tell_after_all (after session line) (files_after session.page files line) lines
    (tell_after files (withdrawn session.page (asked_in session.page line)) tell)

tell_so_far : {B : Type 0} (base : Parts) (names lines : List (List ℕ)) (page : Result (List Raw) (List ℕ)) (old new : Files) (shelf rest : List (Option B))
    → AreFilesSoFar base names lines page old new shelf rest → AllTell old → AllTell new
tell_so_far base names lines (Err line) old new shelf rest same tell = subst AllTell (sym same.0) tell
tell_so_far base names lines (Ok raws) old new shelf rest are tell =
    subst AllTell (sym are.is) (tell_after_all (opened base raws names) old are.front tell)

-- ---- ends

-- no file changed where all of them tell their content
none_changed : (files : Files) (positions : List (Option ℕ)) (a b : ℕ) → AllTell files → SomeChanged files positions a b → ⊥
none_changed files positions a b tell changed =
    let P : Option (List ℕ) → Type 0 = IsSome in
    false≢true (subst P changed.untold (tell changed.number changed.there))

module _ {B : Type 0} (old new : Files) (shelf rest : List (Option B)) (base : Parts) (names : List (List ℕ)) (input : List ℕ) (positions : List (Option ℕ)) (left written now : Option (List ℕ)) (Write Rise : Type 0) where
  -- without a fault the whole transcript was written, or memory was refused
  pub whole_or_memory : (status : Status) → IsWritingEnd status ≡ true → IsAtEnd left → (IsEnd status ≡ true → WroteInput old base names input status written now)
      → AreExpectedUpTo base names input old new shelf rest → (status ≡ ends.WriteFault → Write) → (status ≡ ends.FileFault → Rise)
      → ((a b : ℕ) → status ≡ ends.FileChanged a b → SomeChanged new positions a b)
      → AllTell old → ¬ Write → ¬ Rise → (status ≡ ends.Memory) ⊎ IsWhole old base names input status left written now
  whole_or_memory ends.Done kind at_end wrote kept write rise changed tell calm silent = inr (record { at_end = at_end; whole = wrote refl })
  whole_or_memory ends.Page kind at_end wrote kept write rise changed tell calm silent = inr (record { at_end = at_end; whole = wrote refl })
  whole_or_memory ends.WriteFault kind at_end wrote kept write rise changed tell calm silent = absurd (calm (write refl))
  whole_or_memory ends.FileFault kind at_end wrote kept write rise changed tell calm silent = absurd (silent (rise refl))
  whole_or_memory ends.Memory kind at_end wrote kept write rise changed tell calm silent = inl refl
  whole_or_memory (ends.FileChanged a b) kind at_end wrote kept write rise changed tell calm silent =
      absurd (none_changed new positions a b (tell_so_far base names (command_lines input) (page_in input) old new shelf rest kept tell) (changed a b refl))
  whole_or_memory ends.Usage kind at_end wrote kept write rise changed tell calm silent = absurd (cc kind)
  whole_or_memory ends.ReadFault kind at_end wrote kept write rise changed tell calm silent = absurd (cc kind)
  whole_or_memory ends.TooLong kind at_end wrote kept write rise changed tell calm silent = absurd (cc kind)

-- an end that writing the transcript may have tells of the page
pub page_of_end : (input : List ℕ) (status : Status) → IsWritingEnd status ≡ true → (IsEnd status ≡ true → status ≡ expected_end input) → PageIs status input
page_of_end input ends.Done kind end = page_told input ends.Done (end refl)
page_of_end input ends.Page kind end = page_told input ends.Page (end refl)
page_of_end input ends.WriteFault kind end = tt
page_of_end input ends.FileFault kind end = tt
page_of_end input ends.Memory kind end = tt
page_of_end input (ends.FileChanged a b) kind end = tt
page_of_end input ends.Usage kind end = tt
page_of_end input ends.ReadFault kind end = tt
page_of_end input ends.TooLong kind end = tt

-- ---- tasks

-- nothing was written
pub task_nothing : (task : Option PlainTask) (files : Files) (held written : Option (List ℕ)) → HasWritten task files held written written
task_nothing None files held written = refl
task_nothing (Some (Page base names)) files held written = of_any held (λ input. WroteInputPart files base names input written written) (λ input. wrote_nothing files base names input written)
task_nothing (Some (Generated count)) files held written =
    record { front = []; rest = generated_text count; whole = refl; bytes = append_known-nil written }

-- no file went
pub task_untouched : {B : Type 0} (task : Option PlainTask) (held : Option (List ℕ)) (files : Files) (shelf : List (Option B)) → HasFilesUpTo task held files files shelf shelf
task_untouched None held files shelf = refl
task_untouched (Some (Page base names)) held files shelf =
    of_any held (λ input. AreExpectedUpTo base names input files files shelf shelf) (λ input. input_untouched files base names input shelf)
task_untouched (Some (Generated count)) held files shelf = refl

-- nothing is asked of a run whose source failed
pub rose_complete : (held : Option (List ℕ)) (files : Files) (Read Write Rise : Type 0) (Whole : List ℕ → Type 0) → Read
    → IfSome held (λ input. length input ≤ most_input → AllTell files → ¬ Read → ¬ Write → ¬ Rise → Whole input)
rose_complete None files Read Write Rise Whole rose = tt
rose_complete (Some input) files Read Write Rise Whole rose = λ short tell quiet calm silent. absurd (quiet rose)

-- nor of one that had no memory
pub memory_whole : (held : Option (List ℕ)) (files : Files) (Read Write Rise : Type 0) (status : Status) (Whole : List ℕ → Type 0) → status ≡ ends.Memory
    → IfSome held (λ input. length input ≤ most_input → AllTell files → ¬ Read → ¬ Write → ¬ Rise → (status ≡ ends.Memory) ⊎ Whole input)
memory_whole None files Read Write Rise status Whole is = tt
memory_whole (Some input) files Read Write Rise status Whole is = λ short tell quiet calm silent. inl is

pub memory_complete : (task : Option PlainTask) (files : Files) (held left : Option (List ℕ)) (Read Write Rise : Type 0) (status : Status) (written now : Option (List ℕ)) → status ≡ ends.Memory
    → IsCompleteOf task files held left Read Write Rise status written now
memory_complete None files held left Read Write Rise status written now is = inr is
memory_complete (Some (Page base names)) files held left Read Write Rise status written now is =
    memory_whole held files Read Write Rise status (λ input. IsWhole files base names input status left written now) is
memory_complete (Some (Generated count)) files held left Read Write Rise status written now is = λ calm. inl is

-- want of memory is no wrong usage
pub memory_is_no_usage : {X : Type 0} → ends.Memory ≡ ends.Usage → X
memory_is_no_usage e = absurd (cc e)

-- a page's task is not a generated page's
pub not_generated : (task : Option PlainTask) (base : Parts) (names : List (List ℕ)) (count : ℕ) → task ≡ Some (Page base names) → task ≡ Some (Generated count) → ⊥
not_generated task base names count page generated = let both : Some (Page base names) ≡ Some (Generated count) = sym page ∙ generated in absurd (cc both)
