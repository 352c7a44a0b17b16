-- The files of a run: where they stand, which are withdrawn, and their counts.
use Rattle.std.proofs.Common.{◌≡◌, ℕ, zero, suc, ◌≤◌, ◌==◌, Bool, true, false, not, List, [], ◌∷◌, Option, Some, None, map, set, length, refl, sym, ap, subst, ◌∙◌, arith, IfSome, Result, Ok, Err, OnOk, OnErr}
use Rattle.std.specs.Prelude.{All, IsSome, is_some, option_map, slice_get, if◌then◌else◌}
use Rattle.std.specs.Option.{option_and_then}
use Rattle.std.proofs.lemmas.Bool.Decides.{nat_tests}
use Rattle.std.proofs.lemmas.Bool.{false≢true}
use Rattle.std.proofs.lemmas.List.{map-set}
use Rattle.std.proofs.lemmas.List.Elements.{All-head, All-tail, All-weaker}
use Rattle.url.specs.Parts.{Parts}
use Rattle.form_ports.specs.Shelf.{EachLater, IsFile, IsThere, NoneFell, SomeRose, at_number, contents_of, numbers_of}
use Rattle.form_tree.specs.declared.node.Raw.{Raw}
use Rattle.form_page.specs.declared.file.File.{File}
use Rattle.form_page.specs.Editing.{without_file, without_file_at}
use Rattle.form_page.specs.Page.{Page, name_if_there, new_file}
use Rattle.form_changes.specs.declared.act.Act.{Act}
use Rattle.form_changes.specs.declared.act.Act.TheVariants as acts
use Rattle.form_changes.specs.declared.act.ActFault.{ActFault}
use Rattle.form_changes.specs.declared.act.ActFault.TheVariants as faults
use Rattle.form_acts.specs.Acts.{after_act, page_unless}
use Rattle.form_acts.specs.Refusals.{is_file_there, refusal_of}
use Rattle.form_acts.specs.Soundness.{IsSound, IsWithin}
use Rattle.form_submit.specs.Outcome.{HasFiles}
use Rattle.form_submit.specs.Sending.{IsChanged}
use Rattle.form_submit.specs.declared.request.Piece.{Piece}
use Rattle.form_replies.proofs.Laws.{contents_without}
use Rattle.form_replies.specs.Withdrawn.{withdrawn_by, without_all, without_number}
use Rattle.form_run.specs.declared.asked.Asked.{Asked}
use Rattle.form_run.specs.declared.asked.Asked.TheVariants as asks
use Rattle.form_run.specs.Endings.{AreFiles, EachStays, NoneCame, SomeChanged, SomeFileRose}
use Rattle.form_run.specs.Session.{Files, Session, opened, page_after, session_after, withdrawn, withdrawn_unless}

-- ---- as the run begins

opened_there : {B : Type 0} (content : B → Option (List ℕ)) (shelf : List (Option B)) (names : List (List ℕ)) (place : ℕ)
    → length names ≡ length shelf → All IsSome shelf
    → is_some (option_and_then name_if_there (slice_get (map new_file names) place)) ≡ true
    → IsFile (slice_get (map (λ file. option_map content file) shelf) place)
opened_there content [] [] place same there h = absurd (false≢true h)
opened_there content [] (name ∷ names) place same there h = absurd (omega (arith, same))
opened_there content (file ∷ shelf) [] place same there h = absurd (false≢true h)
opened_there content (None ∷ shelf) (name ∷ names) place same there h = absurd (false≢true (All-head IsSome None shelf there))
opened_there content (Some b ∷ shelf) (name ∷ names) zero same there h = tt
opened_there content (Some b ∷ shelf) (name ∷ names) (suc place) same there h =
    opened_there content shelf names place (omega (arith, same)) (All-tail IsSome (Some b) shelf there) h

-- each name has a file
pub files_opened : {B : Type 0} (content : B → Option (List ℕ)) (shelf : List (Option B)) (names : List (List ℕ))
    → length names ≡ length shelf → All IsSome shelf → AreFiles (contents_of content shelf) (map new_file names)
unfolding contents_of at_number
files_opened content shelf names same there = record { there = go }
  where
    go : (number : ℕ) → is_file_there (map new_file names) number ≡ true → IsThere (contents_of content shelf) number
    go zero h = absurd (false≢true h)
    go (suc place) h = record { file = opened_there content shelf names place same there h }

-- ---- a file that is withdrawn

other_file : (files : List File) (gone place : ℕ) → (place ≡ gone → ⊥) → slice_get (without_file_at files gone) place ≡ slice_get files place
other_file [] gone place other = refl
other_file (file ∷ files) zero zero other = absurd (other refl)
other_file (file ∷ files) zero (suc place) other = refl
other_file (file ∷ files) (suc gone) zero other = refl
other_file (file ∷ files) (suc gone) (suc place) other = other_file files gone place (λ e. other (ap suc e))

gone_file : (files : List File) (gone : ℕ) → is_some (option_and_then name_if_there (slice_get (without_file_at files gone) gone)) ≡ false
gone_file [] gone = refl
gone_file (file ∷ files) zero = refl
gone_file (file ∷ files) (suc gone) = gone_file files gone

pub other_place : {X : Type 0} (xs : List X) (gone place : ℕ) (x : X) → (place ≡ gone → ⊥) → slice_get (set xs gone x) place ≡ slice_get xs place
other_place [] gone place x other = refl
other_place (y ∷ ys) zero zero x other = absurd (other refl)
other_place (y ∷ ys) zero (suc place) x other = refl
other_place (y ∷ ys) (suc gone) zero x other = refl
other_place (y ∷ ys) (suc gone) (suc place) x other = other_place ys gone place x (λ e. other (ap suc e))

module _ (contents : Files) (files : List File) (are : AreFiles contents files) where
  pub files_without : (number : ℕ) → AreFiles (without_number contents number) (without_file files number)
  unfolding at_number
  files_without zero = are
  files_without (suc gone) = record { there = go }
    where
      still : (place : ℕ) (b : Bool) → (place == gone) ≡ b → is_file_there (without_file files (suc gone)) (suc place) ≡ true → IsThere (set contents gone None) (suc place)
      still place true e h =
          let same : place ≡ gone = grind (arith, nat_tests, e) in
          let P : ℕ → Type 0 = λ p. is_some (option_and_then name_if_there (slice_get (without_file_at files gone) p)) ≡ true in
          absurd (false≢true (sym (gone_file files gone) ∙ subst P same h))
      still place false e h =
          let other : place ≡ gone → ⊥ = λ same. grind (arith, nat_tests, e, same) in
          let P : Option File → Type 0 = λ file. is_some (option_and_then name_if_there file) ≡ true in
          let Q : Option (Option (Option (List ℕ))) → Type 0 = IsFile in
          record { file = subst Q (sym (other_place contents gone place None other)) (are.there (suc place) (subst P (other_file files gone place other) h)).file }

      go : (number : ℕ) → is_file_there (without_file files (suc gone)) number ≡ true → IsThere (set contents gone None) number
      go zero h = absurd (false≢true h)
      go (suc place) h = still place (place == gone) refl h

-- the files after what a line asks for
pub files_asked : (page : Page) (asked : Asked) (contents : Files) → AreFiles contents page.files
    → AreFiles (without_all contents (withdrawn page asked)) (page_after page asked).files
files_asked page asks.NoCommand contents are = are
files_asked page asks.Syntax contents are = are
files_asked page (asks.Refused fault) contents are = are
files_asked page asks.Nothing contents are = are
files_asked page (asks.Show key) contents are = are
files_asked page (asks.Boundaries boundaries) contents are = are
files_asked page (asks.Submit s) contents are = are
files_asked page (asks.Act act) contents are = go (refusal_of page act)
  where
    done : (act : Act) → AreFiles (without_all contents (withdrawn_by act)) (after_act page act).files
    done (acts.User key text) = are
    done (acts.Set key text) = are
    done (acts.Attr key name value) = are
    done (acts.Text key text) = are
    done (acts.Check key on) = are
    done (acts.SetChecked key on) = are
    done (acts.Pick key) = are
    done (acts.SetSelected key on) = are
    done (acts.Custom key text) = are
    done (acts.Choose key files) = are
    done (acts.Withdraw file) = files_without contents page.files are file
    done (acts.Reset key) = are

    go : (refusal : Option ActFault) → AreFiles (without_all contents (withdrawn_unless refusal act)) (page_unless refusal page (after_act page act)).files
    go None = done act
    go (Some fault) = are

-- a file that is withdrawn stands on the shelf
pub withdrawn_there : (page : Page) (act : Act) (contents : Files) → refusal_of page act ≡ None → AreFiles contents page.files
    → IfSome (withdrawn_by act) (IsThere contents)
withdrawn_there page (acts.Withdraw file) contents none are = are.there file (go (is_file_there page.files file) none)
  where
    go : (b : Bool) → (if not b then Some faults.NoFile else None) ≡ None → b ≡ true
    go true e = refl
    go false e = absurd (cc e)
withdrawn_there page (acts.User key text) contents none are = tt
withdrawn_there page (acts.Set key text) contents none are = tt
withdrawn_there page (acts.Attr key name value) contents none are = tt
withdrawn_there page (acts.Text key text) contents none are = tt
withdrawn_there page (acts.Check key on) contents none are = tt
withdrawn_there page (acts.SetChecked key on) contents none are = tt
withdrawn_there page (acts.Pick key) contents none are = tt
withdrawn_there page (acts.SetSelected key on) contents none are = tt
withdrawn_there page (acts.Custom key text) contents none are = tt
withdrawn_there page (acts.Choose key files) contents none are = tt
withdrawn_there page (acts.Reset key) contents none are = tt

-- an act that is done withdraws what it names
pub withdrawn_done : (page : Page) (act : Act) → refusal_of page act ≡ None → withdrawn page (asks.Act act) ≡ withdrawn_by act
withdrawn_done page act none = ap (λ refusal. withdrawn_unless refusal act) none

-- and one that is refused, nothing
pub withdrawn_refused : (page : Page) (act : Act) (fault : ActFault) → refusal_of page act ≡ Some fault → withdrawn page (asks.Act act) ≡ None
withdrawn_refused page act fault refused = ap (λ refusal. withdrawn_unless refusal act) refused

-- ---- submissions

-- each file that an element of a sound page names stands on the shelf
pub has_files : (page : Page) (contents : Files) → IsSound page → AreFiles contents page.files → HasFiles contents page.tree.nodes
has_files page contents sound are = record {
  each = All-weaker (IsWithin page.files) (λ n. All (λ number. IsThere contents number) n.state.files)
      (λ n within. All-weaker (λ number. is_file_there page.files number ≡ true) (λ number. IsThere contents number) are.there n.state.files within.there)
      page.tree.nodes sound.within;
}

-- ---- counts

stays_same : (xs : List (Option ℕ)) → EachStays xs xs
stays_same [] = tt
stays_same (Some n ∷ xs) = (omega arith, stays_same xs)
stays_same (None ∷ xs) = stays_same xs

stays_later : (xs ys : List (Option ℕ)) → EachLater xs ys → EachStays xs ys
stays_later [] [] h = tt
stays_later [] (y ∷ ys) h = absurd h
stays_later (Some x ∷ xs) [] h = absurd h
stays_later (Some x ∷ xs) (Some y ∷ ys) h = (h.0, stays_later xs ys h.1)
stays_later (Some x ∷ xs) (None ∷ ys) h = absurd h
stays_later (None ∷ xs) [] h = absurd h
stays_later (None ∷ xs) (Some y ∷ ys) h = absurd h
stays_later (None ∷ xs) (None ∷ ys) h = stays_later xs ys h

stays_then : (xs ys zs : List (Option ℕ)) → EachStays xs ys → EachStays ys zs → EachStays xs zs
stays_then [] [] [] p q = tt
stays_then [] [] (z ∷ zs) p q = absurd q
stays_then [] (y ∷ ys) zs p q = absurd p
stays_then (Some x ∷ xs) [] zs p q = absurd p
stays_then (None ∷ xs) [] zs p q = absurd p
stays_then (None ∷ xs) (Some y ∷ ys) zs p q = absurd p
stays_then (Some x ∷ xs) (Some y ∷ ys) [] p q = absurd q
stays_then (Some x ∷ xs) (None ∷ ys) [] p q = absurd q
stays_then (None ∷ xs) (None ∷ ys) [] p q = absurd q
stays_then (Some x ∷ xs) (Some y ∷ ys) (Some z ∷ zs) p q = (omega (arith, p.0, q.0), stays_then xs ys zs p.1 q.1)
stays_then (Some x ∷ xs) (Some y ∷ ys) (None ∷ zs) p q = stays_then xs ys zs p.1 q
stays_then (Some x ∷ xs) (None ∷ ys) (Some z ∷ zs) p q = absurd q
stays_then (Some x ∷ xs) (None ∷ ys) (None ∷ zs) p q = stays_then xs ys zs p q
stays_then (None ∷ xs) (None ∷ ys) (Some z ∷ zs) p q = absurd q
stays_then (None ∷ xs) (None ∷ ys) (None ∷ zs) p q = stays_then xs ys zs p q

stays_without : (xs : List (Option ℕ)) (place : ℕ) → EachStays xs (set xs place None)
stays_without [] place = tt
stays_without (Some n ∷ xs) zero = stays_same xs
stays_without (None ∷ xs) zero = stays_same xs
stays_without (Some n ∷ xs) (suc place) = (omega arith, stays_without xs place)
stays_without (None ∷ xs) (suc place) = stays_without xs place

pub came_same : (xs : List (Option ℕ)) → NoneCame xs xs
came_same xs = record { each = stays_same xs }

pub came_fell : (xs ys : List (Option ℕ)) → NoneFell xs ys → NoneCame xs ys
came_fell xs ys fell = record { each = stays_later xs ys fell.each }

pub came_then : (xs ys zs : List (Option ℕ)) → NoneCame xs ys → NoneCame ys zs → NoneCame xs zs
came_then xs ys zs first second = record { each = stays_then xs ys zs first.each second.each }

pub came_without : {B : Type 0} (number_of : B → ℕ) (shelf : List (Option B)) (number : Option ℕ)
    → NoneCame (numbers_of number_of shelf) (numbers_of number_of (without_all shelf number))
unfolding numbers_of
came_without number_of shelf None = came_same (map (λ file. option_map number_of file) shelf)
came_without number_of shelf (Some zero) = came_same (map (λ file. option_map number_of file) shelf)
came_without number_of shelf (Some (suc place)) =
    let counts = map (λ file. option_map number_of file) shelf in
    let P : List (Option ℕ) → Type 0 = λ ys. NoneCame counts ys in
    subst P (sym (map-set (λ file. option_map number_of file) shelf place None)) (record { each = stays_without counts place })

-- ---- counts that rose

earlier : (xs ys : List (Option ℕ)) (place now : ℕ) → EachStays xs ys → slice_get ys place ≡ Some (Some now)
    → (before : ℕ) × (slice_get xs place ≡ Some (Some before)) × (before ≤ now)
earlier [] [] place now h is = absurd (cc is)
earlier [] (y ∷ ys) place now h is = absurd h
earlier (Some x ∷ xs) [] place now h is = absurd h
earlier (None ∷ xs) [] place now h is = absurd h
earlier (Some x ∷ xs) (Some y ∷ ys) zero now h is = let same : y ≡ now = cc is in (x, refl, omega (arith, h.0, same))
earlier (Some x ∷ xs) (None ∷ ys) zero now h is = absurd (cc is)
earlier (None ∷ xs) (Some y ∷ ys) place now h is = absurd h
earlier (None ∷ xs) (None ∷ ys) zero now h is = absurd (cc is)
earlier (Some x ∷ xs) (Some y ∷ ys) (suc place) now h is = earlier xs ys place now h.1 is
earlier (Some x ∷ xs) (None ∷ ys) (suc place) now h is = earlier xs ys place now h is
earlier (None ∷ xs) (None ∷ ys) (suc place) now h is = earlier xs ys place now h is

earlier_number : (xs ys : List (Option ℕ)) (number now : ℕ) → EachStays xs ys → at_number ys number ≡ Some (Some now)
    → (before : ℕ) × (at_number xs number ≡ Some (Some before)) × (before ≤ now)
unfolding at_number
earlier_number xs ys zero now h is = absurd (cc is)
earlier_number xs ys (suc place) now h is = earlier xs ys place now h is

-- what rose later rose
pub rose_later : (first old new : List (Option ℕ)) → NoneCame first old → SomeFileRose old new → SomeFileRose first new
rose_later first old new came rose =
    let was = earlier_number first old rose.number rose.file.before came.each rose.file.was in
    record {
      number = rose.number;
      file = record {
        before = was.0;
        now = rose.file.now;
        was = was.1;
        is = rose.file.is;
        rose = omega (arith, was.2, rose.file.rose);
      };
    }

pub rose_some : (numbers : List ℕ) (old new : List (Option ℕ)) → SomeRose numbers old new → SomeFileRose old new
rose_some numbers old new rose = record { number = rose.number; file = rose.file }

-- ---- a file that changed

stands_there : {B : Type 0} (content : B → Option (List ℕ)) (position : B → ℕ) (shelf : List (Option B)) (place at : ℕ)
    → slice_get (map (λ file. option_map position file) shelf) place ≡ Some (Some at)
    → IsFile (slice_get (map (λ file. option_map content file) shelf) place)
stands_there content position [] place at is = absurd (cc is)
stands_there content position (Some b ∷ shelf) zero at is = tt
stands_there content position (None ∷ shelf) zero at is = absurd (cc is)
stands_there content position (file ∷ shelf) (suc place) at is = stands_there content position shelf place at is

there_at : {B : Type 0} (content : B → Option (List ℕ)) (position : B → ℕ) (shelf : List (Option B)) (number at : ℕ)
    → at_number (numbers_of position shelf) number ≡ Some (Some at) → IsThere (contents_of content shelf) number
unfolding at_number numbers_of contents_of
there_at content position shelf zero at is = absurd (cc is)
there_at content position shelf (suc place) at is = record { file = stands_there content position shelf place at is }

-- a file of a body changed
pub changed_some : {B : Type 0} (content : B → Option (List ℕ)) (position : B → ℕ) (shelf : List (Option B)) (old : Files) (pieces : List Piece) (a b : ℕ)
    → contents_of content shelf ≡ old → IsChanged old (numbers_of position shelf) pieces a b
    → SomeChanged (contents_of content shelf) (numbers_of position shelf) a b
changed_some content position shelf old pieces a b same changed =
    let now : IsChanged (contents_of content shelf) (numbers_of position shelf) pieces a b =
    subst (λ contents. IsChanged contents (numbers_of position shelf) pieces a b) (sym same) changed in
    record {
      number = now.number;
      there = there_at content position shelf now.number b now.stands;
      untold = now.untold;
      stands = now.stands;
      differs = now.differs;
    }

-- ---- what acts and lines leave of the files

-- the contents after an act that a line asks for
pub act_contents : {B : Type 0} (content : B → Option (List ℕ)) (old new : List (Option B)) (page : Page) (asked : Asked) (act : Act) → asked ≡ asks.Act act
    → new ≡ without_all old (withdrawn page (asks.Act act)) → contents_of content new ≡ without_all (contents_of content old) (withdrawn page asked)
act_contents content old new page asked act is same =
    ap (contents_of content) same
    ∙ contents_without content old (withdrawn page (asks.Act act))
    ∙ sym (ap (λ a. without_all (contents_of content old) (withdrawn page a)) is)

-- the counts after an act, done or not
pub act_counts : {B E : Type 0} (number_of : B → ℕ) (old new : List (Option B)) (number : Option ℕ) (r : Result (Unit {0}) E) → OnOk r (new ≡ without_all old number) → OnErr r (new ≡ old)
    → NoneCame (numbers_of number_of old) (numbers_of number_of new)
act_counts number_of old new number (Ok v) done kept =
    subst (λ shelf. NoneCame (numbers_of number_of old) (numbers_of number_of shelf)) (sym done) (came_without number_of old number)
act_counts number_of old new number (Err e) done kept =
    subst (λ shelf. NoneCame (numbers_of number_of old) (numbers_of number_of shelf)) (sym kept) (came_same (numbers_of number_of old))

-- the files after a line
pub files_served : {E : Type 0} (old new : Files) (session next : Session) (asked : Asked) (r : Result (Unit {0}) E) → OnOk r (next ≡ session_after session asked)
    → OnOk r (new ≡ without_all old (withdrawn session.page asked)) → AreFiles old session.page.files → OnOk r (AreFiles new next.page.files)
files_served old new session next asked (Ok v) turned without are =
    let P : Files → Type 0 = λ contents. AreFiles contents next.page.files in
    let Q : Session → Type 0 = λ s. AreFiles (without_all old (withdrawn session.page asked)) s.page.files in
    subst P (sym without) (subst Q (sym turned) (files_asked session.page asked old are))
files_served old new session next asked (Err e) turned without are = tt

-- the files of a session that opens
pub opened_files : {B : Type 0} (content : B → Option (List ℕ)) (shelf : List (Option B)) (base : Parts) (raws : List Raw) (names : List (List ℕ)) (session : Session)
    → session ≡ opened base raws names → length names ≡ length shelf → All IsSome shelf → AreFiles (contents_of content shelf) session.page.files
opened_files content shelf base raws names session is same there =
    let P : Session → Type 0 = λ s. AreFiles (contents_of content shelf) s.page.files in
    subst P (sym is) (files_opened content shelf names same there)
