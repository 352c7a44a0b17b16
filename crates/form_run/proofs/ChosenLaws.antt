-- A file that no accepted command chooses stays as it was.
use Rattle.std.proofs.Common.{◌≡◌, ℕ, zero, suc, List, [], ◌∷◌, ◌++◌, Option, Some, None, set, refl, sym, ap, subst, ◌∙◌, inl, inr, Result, Ok, Err, OnOk, OnErr, append_assoc}
use Rattle.std.specs.Prelude.{All, Contains, flat_map, slice_get, true}
use Rattle.std.proofs.lemmas.Bool.{false≢true}
use Rattle.std.proofs.lemmas.List.Elements.{All-append, All-cons, All-contains, All-contains_itself, All-head, All-nil, All-tail, All-weaker, Contains-append_left, Contains-append_right}
use Rattle.url.specs.Parts.{Parts}
use Rattle.form_ports.specs.Shelf.{at_number}
use Rattle.form_tree.specs.declared.node.Key.{Key}
use Rattle.form_tree.specs.declared.node.Node.{Node}
use Rattle.form_tree.specs.declared.node.Raw.{Raw}
use Rattle.form_tree.specs.Tree.{Nodes}
use Rattle.form_entries.specs.EntryList.{entry_list}
use Rattle.form_page.specs.Opening as pages
use Rattle.form_page.specs.Page.{Page}
use Rattle.form_changes.specs.declared.act.Act.{Act}
use Rattle.form_changes.specs.declared.act.Act.TheVariants as acts
use Rattle.form_changes.specs.declared.act.ActFault.{ActFault}
use Rattle.form_acts.specs.Refusals.{is_file_there, refusal_of}
use Rattle.form_acts.specs.Soundness.{IsOpenable, IsWithin}
use Rattle.form_acts.proofs.Laws.{act_named, opened_sound}
use Rattle.form_submit.specs.declared.outcome.Outcome.{Outcome}
use Rattle.form_submit.specs.declared.outcome.Outcome.TheVariants as outcomes
use Rattle.form_submit.specs.declared.route.Route.{Route}
use Rattle.form_submit.specs.declared.route.Route.TheVariants as routes
use Rattle.form_submit.specs.Outcome.{IfRequest, files_read}
use Rattle.form_submit.specs.Route.{route_of}
use Rattle.form_submit.proofs.Laws.{named_all}
use Rattle.form_run.specs.declared.asked.Asked.{Asked}
use Rattle.form_run.specs.declared.asked.Asked.TheVariants as asks
use Rattle.form_run.specs.declared.asked.Submission.{Submission}
use Rattle.form_run.specs.Chosen.{NamesNone, OthersStay, Stays, chosen, chosen_by, chosen_in, chosen_unless, named_in, outcome_numbers}
use Rattle.form_run.specs.Replies.{IsSubmitted, session_after_all}
use Rattle.form_replies.specs.Withdrawn.{without_all}
use Rattle.form_run.specs.Session.{Session, after, asked_in, opened, page_after}
use Rattle.form_run.proofs.PieceLaws.{Holds, body_holds, front_holds, outcome_holds, rest_holds}

-- ---- files that stay

pub stay_same : {B : Type 0} (numbers : List ℕ) (shelf : List (Option B)) → OthersStay numbers shelf shelf
stay_same numbers shelf = record { each = λ k other. inl refl }

-- where all are the very same
pub stay_of : {B : Type 0} (numbers : List ℕ) (old new : List (Option B)) → ((k : ℕ) → ¬ (Contains numbers k) → at_number new k ≡ at_number old k) → OthersStay numbers old new
stay_of numbers old new same = record { each = λ k other. inl (same k other) }

then_stays : {B : Type 0} (was mid now : Option (Option B)) → Stays was mid → Stays mid now → Stays was now
then_stays was mid now (inl first) (inl second) = inl (second ∙ first)
then_stays was mid now (inr gone) (inl second) = inr (second ∙ gone)
then_stays was mid now first (inr gone) = inr gone

pub stay_then : {B : Type 0} (numbers : List ℕ) (old mid new : List (Option B)) → OthersStay numbers old mid → OthersStay numbers mid new → OthersStay numbers old new
stay_then numbers old mid new first second = record {
  each = λ k other. then_stays (at_number old k) (at_number mid k) (at_number new k) (first.each k other) (second.each k other);
}

-- among more numbers are more
pub stay_among : {B : Type 0} (few many : List ℕ) (old new : List (Option B)) → All (Contains many) few → OthersStay few old new → OthersStay many old new
stay_among few many old new among stay = record { each = λ k other. stay.each k (λ at. other (All-contains (Contains many) few k among at)) }

-- ---- a file that is withdrawn

set_stays : {B : Type 0} (files : List (Option B)) (gone place : ℕ) → Stays (slice_get files place) (slice_get (set files gone None) place)
set_stays [] gone place = inl refl
set_stays (file ∷ files) zero zero = inr refl
set_stays (file ∷ files) zero (suc place) = inl refl
set_stays (file ∷ files) (suc gone) zero = inl refl
set_stays (file ∷ files) (suc gone) (suc place) = set_stays files gone place

stay_without : {B : Type 0} (numbers : List ℕ) (shelf : List (Option B)) (number : Option ℕ) → OthersStay numbers shelf (without_all shelf number)
unfolding at_number
stay_without numbers shelf None = stay_same numbers shelf
stay_without numbers shelf (Some zero) = stay_same numbers shelf
stay_without numbers shelf (Some (suc gone)) = record { each = λ k other. go k }
  where
    go : (k : ℕ) → Stays (at_number shelf k) (at_number (set shelf gone None) k)
    go zero = inl refl
    go (suc place) = set_stays shelf gone place

-- an act, done or not
pub act_stay : {B E : Type 0} (numbers : List ℕ) (old new : List (Option B)) (number : Option ℕ) (r : Result (Unit {0}) E) → OnOk r (new ≡ without_all old number) → OnErr r (new ≡ old)
    → OthersStay numbers old new
act_stay numbers old new number (Ok v) done kept = subst (λ shelf. OthersStay numbers old shelf) (sym done) (stay_without numbers old number)
act_stay numbers old new number (Err e) done kept = subst (λ shelf. OthersStay numbers old shelf) (sym kept) (stay_same numbers old)

-- ---- the files that elements name

-- all of them are among those of the page
named_all_in : (ns : Nodes) → All (λ n. All (Contains (flat_map (λ (m : Node). m.state.files) ns)) n.state.files) ns
named_all_in [] = All-nil (λ n. All (Contains []) n.state.files)
named_all_in (n ∷ ns) =
    let more = flat_map (λ (m : Node). m.state.files) ns in
    let all = n.state.files ++ more in
    All-cons (λ m. All (Contains all) m.state.files) n ns
    (All-weaker (Contains n.state.files) (Contains all) (λ k at. Contains-append_left n.state.files more k at) n.state.files (All-contains_itself n.state.files))
    (All-weaker (λ m. All (Contains more) m.state.files) (λ m. All (Contains all) m.state.files)
    (λ m among. All-weaker (Contains more) (Contains all) (λ k at. Contains-append_right n.state.files more k at) m.state.files among) ns (named_all_in ns))

page_named : (page : Page) → All (λ n. All (Contains (named_in page)) n.state.files) page.tree.nodes
unfolding named_in
page_named page = named_all_in page.tree.nodes

module _ (P : ℕ → Type 0) where
  -- what holds of each that an element names holds of all of them
  all_named : (ns : Nodes) → All (λ n. All P n.state.files) ns → All P (flat_map (λ n. n.state.files) ns)
  all_named [] all = All-nil P
  all_named (n ∷ ns) all =
      let Q : Node → Type 0 = λ m. All P m.state.files in
      All-append P n.state.files (flat_map (λ m. m.state.files) ns) (All-head Q n ns all) (all_named ns (All-tail Q n ns all))

  holds_in : (page : Page) → All (λ n. All P n.state.files) page.tree.nodes → All P (named_in page)
  unfolding named_in
  holds_in page all = all_named page.tree.nodes all

  -- of each that the entry list names whose files are read
  read_holds : (page : Page) (route : Route) (s : Submission) → All (λ n. All P n.state.files) page.tree.nodes
      → All P (files_read route (entry_list page s.form s.submitter s.at))
  read_holds page (routes.Direct direct) s all = All-nil P
  read_holds page (routes.Multipart url) s all = named_all P page s.form s.submitter s.at all

-- of the submission's files each is named
read_named : (session : Session) (s : Submission)
    → All (Contains (named_in session.page)) (files_read (route_of session.page.tree.nodes session.base s.form s.submitter s.check) (entry_list session.page s.form s.submitter s.at))
read_named session s =
    read_holds (Contains (named_in session.page)) session.page (route_of session.page.tree.nodes session.base s.form s.submitter s.check) s (page_named session.page)

-- a submission leaves the others
pub submitted_stay : {B : Type 0} (session : Session) (s : Submission) (old new : List (Option B))
    → ((k : ℕ) → ¬ (Contains (files_read (route_of session.page.tree.nodes session.base s.form s.submitter s.check) (entry_list session.page s.form s.submitter s.at)) k)
    → at_number new k ≡ at_number old k) → OthersStay (named_in session.page) old new
submitted_stay session s old new same =
    let read = files_read (route_of session.page.tree.nodes session.base s.form s.submitter s.check) (entry_list session.page s.form s.submitter s.at) in
    stay_among read (named_in session.page) old new (read_named session s) (stay_of read old new same)

outcome_among : (numbers : List ℕ) (outcome : Outcome) → IfRequest outcome (λ request. All (Holds (Contains numbers)) request.body) → All (Contains numbers) (outcome_numbers outcome)
outcome_among numbers (outcomes.Stopped keys) h = All-nil (Contains numbers)
outcome_among numbers (outcomes.NoRequest why) h = All-nil (Contains numbers)
outcome_among numbers (outcomes.Request request) h = body_holds (Contains numbers) request.body h

-- and so does what is said of its outcome
pub outcome_stay : {B : Type 0} (files : List (Option (Option (List ℕ)))) (session : Session) (s : Submission) (outcome : Outcome) (old new : List (Option B))
    → IsSubmitted files session s outcome → OthersStay (outcome_numbers outcome) old new → OthersStay (named_in session.page) old new
outcome_stay files session s outcome old new is stay =
    let numbers = named_in session.page in
    let route = route_of session.page.tree.nodes session.base s.form s.submitter s.check in
    let entries = entry_list session.page s.form s.submitter s.at in
    let T : Outcome → Type 0 = λ o. IfRequest o (λ request. All (Holds (Contains numbers)) request.body) in
    let holds : T outcome = subst T (sym is.is) (outcome_holds (Contains numbers) route entries session.bounds is.bytes (read_named session s)) in
    stay_among (outcome_numbers outcome) numbers old new (outcome_among numbers outcome holds) stay

-- ---- the files that elements name after lines

module _ (P : ℕ → Type 0) where
  abbrev Named : Page → Type 0
  Named page = All (λ n. All P n.state.files) page.tree.nodes

  unless_chosen : (refusal : Option ActFault) (act : Act) → All P (chosen_unless refusal act) → refusal ≡ None → (k : Key) (files : List ℕ) → act ≡ acts.Choose k files → All P files
  unless_chosen None act all none k files is = subst (λ a. All P (chosen_by a)) is all
  unless_chosen (Some fault) act all none k files is = absurd (cc none)

  asked_named : (page : Page) (asked : Asked) → All P (chosen page asked) → Named page → Named (page_after page asked)
  asked_named page asks.NoCommand all named = named
  asked_named page asks.Syntax all named = named
  asked_named page (asks.Refused fault) all named = named
  asked_named page asks.Nothing all named = named
  asked_named page (asks.Act act) all named = act_named P page act (unless_chosen (refusal_of page act) act all) named
  asked_named page (asks.Show key) all named = named
  asked_named page (asks.Boundaries boundaries) all named = named
  asked_named page (asks.Submit s) all named = named

  named_after_all : (session : Session) (lines : List (List ℕ)) → All P (chosen_in session lines) → Named session.page → Named (session_after_all session lines).page
  unfolding chosen_in session_after_all
  named_after_all session [] all named = named
  named_after_all session (line ∷ lines) all named =
      let here = chosen session.page (asked_in session.page line) in
      let more = chosen_in (after session line) lines in
      named_after_all (after session line) lines (rest_holds P here more all)
      (asked_named session.page (asked_in session.page line) (front_holds P here more all) named)

-- each file that an element names was chosen, where none was named before
pub chosen_named : (first : Session) (done : List (List ℕ)) → NamesNone first.page → All (Contains (chosen_in first done)) (named_in (session_after_all first done).page)
chosen_named first done none =
    let P : ℕ → Type 0 = Contains (chosen_in first done) in
    holds_in P (session_after_all first done).page
    (named_after_all P first done (All-contains_itself (chosen_in first done))
    (All-weaker (λ n. n.state.files ≡ []) (λ n. All P n.state.files) (λ n e. subst (All P) (sym e) (All-nil P)) first.page.tree.nodes none))

pub chosen_append : (session : Session) (front rest : List (List ℕ)) → chosen_in session (front ++ rest) ≡ chosen_in session front ++ chosen_in (session_after_all session front) rest
unfolding chosen_in session_after_all
chosen_append session [] rest = refl
chosen_append session (line ∷ front) rest =
    let here = chosen session.page (asked_in session.page line) in
    ap (λ numbers. here ++ numbers) (chosen_append (after session line) front rest)
    ∙ sym (append_assoc here (chosen_in (after session line) front) (chosen_in (session_after_all (after session line) front) rest))

-- lines, and then more of them
pub stay_more : {B : Type 0} (session : Session) (front rest : List (List ℕ)) (old new : List (Option B)) → OthersStay (chosen_in session front) old new
    → OthersStay (chosen_in session (front ++ rest)) old new
stay_more session front rest old new stay =
    let here = chosen_in session front in
    let more = chosen_in (session_after_all session front) rest in
    subst (λ numbers. OthersStay numbers old new) (sym (chosen_append session front rest))
    (stay_among here (here ++ more) old new (All-weaker (Contains here) (Contains (here ++ more)) (λ k at. Contains-append_left here more k at) here (All-contains_itself here)) stay)

-- the files after lines, and after one more that leaves all that are not named
pub stay_line : {B : Type 0} (first session : Session) (done : List (List ℕ)) (old mid new : List (Option B)) → NamesNone first.page → session ≡ session_after_all first done
    → OthersStay (chosen_in first done) old mid → OthersStay (named_in session.page) mid new → OthersStay (chosen_in first done) old new
stay_line first session done old mid new none is so_far stay =
    let named : OthersStay (named_in (session_after_all first done).page) mid new = subst (λ s. OthersStay (named_in s.page) mid new) is stay in
    stay_then (chosen_in first done) old mid new so_far
    (stay_among (named_in (session_after_all first done).page) (chosen_in first done) mid new (chosen_named first done none) named)

-- ---- as the run begins

no_file : (number : ℕ) → is_file_there [] number ≡ true → ⊥
no_file zero h = false≢true h
no_file (suc place) h = false≢true h

none_there : (numbers : List ℕ) → All (λ number. is_file_there [] number ≡ true) numbers → numbers ≡ []
none_there [] all = refl
none_there (number ∷ numbers) all = absurd (no_file number (All-head (λ n. is_file_there [] n ≡ true) number numbers all))

-- no element of a page that opens names a file
pub opened_unnamed : (base : Parts) (raws : List Raw) (names : List (List ℕ)) (session : Session) → IsOpenable raws → session ≡ opened base raws names → NamesNone session.page
opened_unnamed base raws names session openable is =
    subst (λ s. NamesNone s.page) (sym is)
    (All-weaker (IsWithin []) (λ n. n.state.files ≡ []) (λ n within. none_there n.state.files within.there) (pages.opened raws []).tree.nodes (opened_sound raws [] openable).within)
