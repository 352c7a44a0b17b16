-- What spells a command is read, and what is read is spelled so: the parts behind each verb, and the line.
use Rattle.std.proofs.Common.{◌≡◌, ℕ, ◌≤◌, Bool, true, false, List, [], ◌∷◌, ◌++◌, length, Option, Some, None, Result, Ok, Err, IfOk, is_some, inl, inr, ◌⊎◌, refl, sym, ap, subst, ◌∙◌, arith, append-nil, nat_le, nat_lt, if◌then◌else◌}
use Rattle.std.specs.List.{count_by, list_all}
use Rattle.std.proofs.lemmas.Bool.Decides.{nat_tests}
use Rattle.form_changes.specs.declared.act.Act.TheVariants as acts
use Rattle.form_tree.specs.declared.node.Key.{Key}
use Rattle.form_script.specs.Gives.{Gives}
use Rattle.form_script.specs.LineReading.{all_of, boundaries_of, choice_by, command_of, is_space, pair_at, parts_of, positives_of, submission_by, verb_of, words_of}
use Rattle.form_script.specs.Lines.{AreKeyed, ArePair, AreSpaced, IsAttribute, IsPlace, IsSubmission, Spells, SpellsParts, key_command, mark_command, text_command, verb_text}
use Rattle.form_script.specs.Quoted.{IsQuoted}
use Rattle.form_script.specs.Reading.{◌>>=◌, boundary_of, cut, key_of, literal_text, mark_of, name_of, number_of, positive_of}
use Rattle.form_script.specs.Words.{IsBoundary, IsKey, IsMark, IsName, IsNumber, IsPositive}
use Rattle.form_script.specs.declared.command.Command.TheVariants as commands
use Rattle.form_script.specs.declared.command.Command.{Command}
use Rattle.form_script.specs.declared.fault.LineFault.TheVariants as faults
use Rattle.form_script.specs.declared.fault.LineFault.{LineFault}
use Rattle.form_script.specs.declared.verb.Verb.TheVariants as verbs
use Rattle.form_script.specs.declared.verb.Verb.{Verb}
use Rattle.form_script.proofs.CutLaws.{Parts, cut_found, cut_here}
use Rattle.form_script.proofs.LineLaws.{pair_found, pair_there, some_all, spaced_found, spaced_there, verb_found, verb_there}
use Rattle.form_script.proofs.SpaceLaws.{boundary_whole, few_spaces, many_words}
use Rattle.form_script.proofs.SpellingLaws.{literal_found, literal_there}
use Rattle.form_script.proofs.WordLaws.{boundary_found, boundary_there, key_found, key_there, key_whole, mark_found, mark_there, name_found, name_there, name_whole, number_found, number_there, number_whole, positive_found, positive_there, positive_whole}

-- ---- boundaries

abbrev few_of : Bool → List ℕ → Option (List (List ℕ))
few_of t text = if t then all_of boundary_of (words_of text) else None

pub few_boundaries : (text : List ℕ) → nat_lt (count_by is_space text) 8 ≡ true → is_some (boundaries_of text) ≡ list_all (λ word. is_some (boundary_of word)) (words_of text)
few_boundaries text h = ap (λ t. is_some (few_of t text)) h ∙ sym (some_all boundary_of (words_of text))

boundaries_there : (text : List ℕ) (bs : List (List ℕ)) → AreSpaced IsBoundary (32 ∷ text) bs → length bs ≤ 8 → boundaries_of text ≡ Some bs
boundaries_there text bs h le =
    let all : all_of boundary_of (words_of text) ≡ Some bs = spaced_there IsBoundary boundary_of boundary_whole boundary_there text bs h in
    ap (λ t. few_of t text) (few_spaces boundary_of text bs all le) ∙ all

boundaries_found : (text : List ℕ) (bs : List (List ℕ)) → boundaries_of text ≡ Some bs → AreSpaced IsBoundary (32 ∷ text) bs × (length bs ≤ 8)
boundaries_found text bs h = go (nat_lt (count_by is_space text) 8) refl h
  where
    go : (t : Bool) → nat_lt (count_by is_space text) 8 ≡ t → few_of t text ≡ Some bs → AreSpaced IsBoundary (32 ∷ text) bs × (length bs ≤ 8)
    go true e h = (spaced_found IsBoundary boundary_of boundary_found text bs h, many_words boundary_of text bs h e)
    go false e h = absurd (cc)

-- ---- parts that are pairs

attribute_there : (text : List ℕ) (a : List ℕ × List ℕ) → IsAttribute text a → pair_at name_of literal_text text ≡ Some a
attribute_there text a h = pair_there IsName IsQuoted name_of literal_text name_whole name_there literal_there text a.0 a.1 h

attribute_found : (text : List ℕ) (a : List ℕ × List ℕ) → pair_at name_of literal_text text ≡ Some a → IsAttribute text a
attribute_found text a h = pair_found IsName IsQuoted name_of literal_text name_found literal_found text a h

place_there : (text : List ℕ) (p : ℕ × ℕ) → IsPlace text p → pair_at number_of number_of text ≡ Some p
place_there text p h = pair_there IsNumber IsNumber number_of number_of number_whole number_there number_there text p.0 p.1 h

place_found : (text : List ℕ) (p : ℕ × ℕ) → pair_at number_of number_of text ≡ Some p → IsPlace text p
place_found text p h = pair_found IsNumber IsNumber number_of number_of number_found number_found text p h

keyed_there : {B : Type 0} (Q : List ℕ → B → Type 0) (read : List ℕ → Option B) → ((t : List ℕ) (y : B) → Q t y → read t ≡ Some y) → (text : List ℕ) (key : Key) (y : B) → ArePair IsKey Q text key y → pair_at key_of read text ≡ Some (key, y)
keyed_there Q read there text key y h = pair_there IsKey Q key_of read key_whole key_there there text key y h

keyed_found : {B : Type 0} (Q : List ℕ → B → Type 0) (read : List ℕ → Option B) → ((t : List ℕ) (y : B) → read t ≡ Some y → Q t y) → (text : List ℕ) (z : Key × B) → pair_at key_of read text ≡ Some z → ArePair IsKey Q text z.0 z.1
keyed_found Q read found text z h = pair_found IsKey Q key_of read key_found found text z h

-- ---- a key, and numbers or a key

choice_there : (text : List ℕ) (key : Key) (files : List ℕ) → AreKeyed IsPositive text key files → choice_by text (cut 32 text) ≡ Some (key, files)
choice_there text key [] h =
    let rest : h.rest ≡ [] = h.rest_is in
    let is : text ≡ h.first = h.text_is ∙ ap (λ r. h.first ++ r) rest ∙ append-nil h.first in
    ap (λ t. choice_by t (cut 32 t)) is ∙ ap (choice_by h.first) (key_whole h.first key h.key_is)
    ∙ ap (λ (o : Option Key). o >>= λ key. (let z : Key × List ℕ = (key, []) in Some z)) (key_there h.first key h.key_is)
choice_there text key (x ∷ xs) h =
    let spaced : AreSpaced IsPositive h.rest (x ∷ xs) = h.rest_is in
    let after : List ℕ = spaced.0 ++ spaced.1 in
    let is : text ≡ h.first ++ (32 ∷ after) = h.text_is ∙ ap (λ r. h.first ++ r) spaced.2 in
    let all : positives_of after ≡ Some (x ∷ xs) = spaced_there IsPositive positive_of positive_whole positive_there after (x ∷ xs) (spaced.0, spaced.1, refl, spaced.3, spaced.4) in
    ap (λ t. choice_by text (cut 32 t)) is ∙ ap (choice_by text) (cut_here 32 h.first after (key_whole h.first key h.key_is))
    ∙ ap (λ (o : Option Key). o >>= λ key. positives_of after >>= λ files. (let z : Key × List ℕ = (key, files) in Some z)) (key_there h.first key h.key_is)
    ∙ ap (λ (o : Option (List ℕ)). o >>= λ files. (let z : Key × List ℕ = (key, files) in Some z)) all

-- what one reader behind another gives
pub bound : {A B : Type 0} (o : Option A) (f : A → Option B) (y : B) → (o >>= f) ≡ Some y → (x : A) × (o ≡ Some x) × (f x ≡ Some y)
bound None f y h = absurd (cc)
bound (Some x) f y h = (x, refl, h)

some_is : {A : Type 0} (x y : A) → (let o : Option A = Some x in o) ≡ Some y → y ≡ x
some_is x y h = cc

choice_found : (text : List ℕ) (z : Key × List ℕ) → choice_by text (cut 32 text) ≡ Some z → AreKeyed IsPositive text z.0 z.1
choice_found text z h = go (cut 32 text) refl h
  where
    Keyed : Key × List ℕ → Type 0
    Keyed z = AreKeyed IsPositive text z.0 z.1

    go : (o : Option Parts) → cut 32 text ≡ o → choice_by text o ≡ Some z → Keyed z
    go None e h =
        let b = bound (key_of text) (λ key. (let z : Key × List ℕ = (key, []) in Some z)) z h in
        let is : z ≡ (b.0, []) = some_is (b.0, []) z b.2 in
        subst Keyed (sym is) (record { first = text; rest = []; text_is = sym (append-nil text); key_is = key_found text b.0 b.1; rest_is = refl })
    go (Some parts) e h =
        let b = bound (key_of parts.0) (λ key. positives_of parts.1 >>= λ files. (let z : Key × List ℕ = (key, files) in Some z)) z h in
        let d = bound (positives_of parts.1) (λ files. (let z : Key × List ℕ = (b.0, files) in Some z)) z b.2 in
        let is : z ≡ (b.0, d.0) = some_is (b.0, d.0) z d.2 in
        subst Keyed (sym is) (record { first = parts.0; rest = 32 ∷ parts.1; text_is = (cut_found 32 text parts.0 parts.1 e).0; key_is = key_found parts.0 b.0 b.1; rest_is = spaced_found IsPositive positive_of positive_found parts.1 d.0 d.1 })

submission_there : (text : List ℕ) (form : Key) (submitter : Option Key) → IsSubmission text form submitter → submission_by text (cut 32 text) ≡ Some (form, submitter)
submission_there text form submitter h = go h.keys
  where
    go : (IsKey text form × (submitter ≡ None)) ⊎ ((key : Key) × ArePair IsKey IsKey text form key × (submitter ≡ Some key)) → submission_by text (cut 32 text) ≡ Some (form, submitter)
    go (inl k) =
        ap (submission_by text) (key_whole text form k.0)
        ∙ ap (λ (o : Option Key). o >>= λ form. (let z : Key × Option Key = (form, None) in Some z)) (key_there text form k.0)
        ∙ ap (λ (s : Option Key). (let z : Key × Option Key = (form, s) in Some z)) (sym k.1)
    go (inr k) =
        let pair = k.1 in
        ap (λ t. submission_by text (cut 32 t)) pair.text_is ∙ ap (submission_by text) (cut_here 32 pair.first pair.second (key_whole pair.first form pair.first_is))
        ∙ ap (λ (o : Option Key). o >>= λ form. key_of pair.second >>= λ key. (let z : Key × Option Key = (form, Some key) in Some z)) (key_there pair.first form pair.first_is)
        ∙ ap (λ (o : Option Key). o >>= λ key. (let z : Key × Option Key = (form, Some key) in Some z)) (key_there pair.second k.0 pair.second_is)
        ∙ ap (λ (s : Option Key). (let z : Key × Option Key = (form, s) in Some z)) (sym k.2)

submission_found : (text : List ℕ) (z : Key × Option Key) → submission_by text (cut 32 text) ≡ Some z → IsSubmission text z.0 z.1
submission_found text z h = go (cut 32 text) refl h
  where
    Submission : Key × Option Key → Type 0
    Submission z = IsSubmission text z.0 z.1

    go : (o : Option Parts) → cut 32 text ≡ o → submission_by text o ≡ Some z → Submission z
    go None e h =
        let b = bound (key_of text) (λ form. (let z : Key × Option Key = (form, None) in Some z)) z h in
        let is : z ≡ (b.0, None) = some_is (b.0, None) z b.2 in
        subst Submission (sym is) (record { keys = inl (key_found text b.0 b.1, refl) })
    go (Some parts) e h =
        let b = bound (key_of parts.0) (λ form. key_of parts.1 >>= λ key. (let z : Key × Option Key = (form, Some key) in Some z)) z h in
        let d = bound (key_of parts.1) (λ key. (let z : Key × Option Key = (b.0, Some key) in Some z)) z b.2 in
        let is : z ≡ (b.0, Some d.0) = some_is (b.0, Some d.0) z d.2 in
        subst Submission (sym is) (record { keys = inr (d.0, record { first = parts.0; second = parts.1; text_is = (cut_found 32 text parts.0 parts.1 e).0; first_is = key_found parts.0 b.0 b.1; second_is = key_found parts.1 d.0 d.1 }, refl) })

-- ---- the parts behind a verb

reads_as : {A : Type 0} (o : Option A) (x : A) (f : A → Command) (command : Command) → o ≡ Some x → command ≡ f x → (o >>= λ x. Some (f x)) ≡ Some command
reads_as o x f command e is = ap (λ p. p >>= λ x. Some (f x)) e ∙ ap Some (sym is)

parts_there : (verb : Verb) (text : List ℕ) (command : Command) → SpellsParts verb text command → parts_of verb text ≡ Some command
parts_there (verbs.Key verb) text command h = reads_as (key_of text) h.0 (key_command verb) command (key_there text h.0 h.1) h.2
parts_there (verbs.Text verb) text command h = reads_as (pair_at key_of literal_text text) (h.0, h.1) (λ x. text_command verb x.0 x.1) command (keyed_there IsQuoted literal_text literal_there text h.0 h.1 h.2) h.3
parts_there (verbs.Mark verb) text command h = reads_as (pair_at key_of mark_of text) (h.0, h.1) (λ x. mark_command verb x.0 x.1) command (keyed_there IsMark mark_of mark_there text h.0 h.1 h.2) h.3
parts_there verbs.Attr text command h = reads_as (pair_at key_of (pair_at name_of literal_text) text) (h.0, h.1) (λ x. commands.Act (acts.Attr x.0 x.1.0 (Some x.1.1))) command (keyed_there IsAttribute (pair_at name_of literal_text) attribute_there text h.0 h.1 h.2) h.3
parts_there verbs.Unattr text command h = reads_as (pair_at key_of name_of text) (h.0, h.1) (λ x. commands.Act (acts.Attr x.0 x.1 None)) command (keyed_there IsName name_of name_there text h.0 h.1 h.2) h.3
parts_there verbs.Choose text command h = reads_as (choice_by text (cut 32 text)) (h.0, h.1) (λ x. commands.Act (acts.Choose x.0 x.1)) command (choice_there text h.0 h.1 h.2) h.3
parts_there verbs.Withdraw text command h = reads_as (positive_of text) h.0 (λ file. commands.Act (acts.Withdraw file)) command (positive_there text h.0 h.1) h.2
parts_there verbs.ClickAt text command h = reads_as (pair_at key_of (pair_at number_of number_of) text) (h.0, h.1) (λ x. commands.ClickAt x.0 x.1.0 x.1.1) command (keyed_there IsPlace (pair_at number_of number_of) place_there text h.0 h.1 h.2) h.3
parts_there verbs.RequestSubmit text command h = reads_as (submission_by text (cut 32 text)) (h.0, h.1) (λ x. commands.RequestSubmit x.0 x.1) command (submission_there text h.0 h.1 h.2) h.3
parts_there verbs.Boundary text command h = reads_as (boundaries_of text) h.0 (λ bs. commands.Boundary bs) command (boundaries_there text h.0 h.1 h.2) h.3

behind : {A : Type 0} (o : Option A) (f : A → Command) (command : Command) → (o >>= λ x. Some (f x)) ≡ Some command → (x : A) × (o ≡ Some x) × (command ≡ f x)
behind None f command h = absurd (cc)
behind (Some x) f command h = (x, refl, some_is (f x) command h)

parts_found : (verb : Verb) (text : List ℕ) (command : Command) → parts_of verb text ≡ Some command → SpellsParts verb text command
parts_found (verbs.Key verb) text command h = let b = behind (key_of text) (key_command verb) command h in (b.0, key_found text b.0 b.1, b.2)
parts_found (verbs.Text verb) text command h = let b = behind (pair_at key_of literal_text text) (λ x. text_command verb x.0 x.1) command h in (b.0.0, b.0.1, keyed_found IsQuoted literal_text literal_found text b.0 b.1, b.2)
parts_found (verbs.Mark verb) text command h = let b = behind (pair_at key_of mark_of text) (λ x. mark_command verb x.0 x.1) command h in (b.0.0, b.0.1, keyed_found IsMark mark_of mark_found text b.0 b.1, b.2)
parts_found verbs.Attr text command h = let b = behind (pair_at key_of (pair_at name_of literal_text) text) (λ x. commands.Act (acts.Attr x.0 x.1.0 (Some x.1.1))) command h in (b.0.0, b.0.1, keyed_found IsAttribute (pair_at name_of literal_text) attribute_found text b.0 b.1, b.2)
parts_found verbs.Unattr text command h = let b = behind (pair_at key_of name_of text) (λ x. commands.Act (acts.Attr x.0 x.1 None)) command h in (b.0.0, b.0.1, keyed_found IsName name_of name_found text b.0 b.1, b.2)
parts_found verbs.Choose text command h = let b = behind (choice_by text (cut 32 text)) (λ x. commands.Act (acts.Choose x.0 x.1)) command h in (b.0.0, b.0.1, choice_found text b.0 b.1, b.2)
parts_found verbs.Withdraw text command h = let b = behind (positive_of text) (λ file. commands.Act (acts.Withdraw file)) command h in (b.0, positive_found text b.0 b.1, b.2)
parts_found verbs.ClickAt text command h = let b = behind (pair_at key_of (pair_at number_of number_of) text) (λ x. commands.ClickAt x.0 x.1.0 x.1.1) command h in (b.0.0, b.0.1, keyed_found IsPlace (pair_at number_of number_of) place_found text b.0 b.1, b.2)
parts_found verbs.RequestSubmit text command h = let b = behind (submission_by text (cut 32 text)) (λ x. commands.RequestSubmit x.0 x.1) command h in (b.0.0, b.0.1, submission_found text b.0 b.1, b.2)
parts_found verbs.Boundary text command h = let b = behind (boundaries_of text) (λ bs. commands.Boundary bs) command h in let found = boundaries_found text b.0 b.1 in (b.0, found.0, found.1, b.2)

-- ---- the line

pub line_there : (line : List ℕ) (command : Command) → Spells line command → command_of line ≡ Some command
unfolding command_of
line_there line command h = go (nat_le (length line) 1_048_576) refl
  where
    go : (t : Bool) → nat_le (length line) 1_048_576 ≡ t → (if t then (cut 32 line >>= λ x. verb_of x.0 >>= λ verb. parts_of verb x.1) else None) ≡ Some command
    go false e = let short : length line ≤ 1_048_576 = h.short in absurd (grind (arith, nat_tests))
    go true e =
        ap (λ l. cut 32 l >>= λ x. verb_of x.0 >>= λ verb. parts_of verb x.1) h.line_is
        ∙ ap (λ (o : Option Parts). o >>= λ x. verb_of x.0 >>= λ verb. parts_of verb x.1) (cut_here 32 (verb_text h.verb) h.parts (verb_there h.verb).1)
        ∙ ap (λ (o : Option Verb). o >>= λ verb. parts_of verb h.parts) (verb_there h.verb).0
        ∙ parts_there h.verb h.parts command h.parts_are

pub line_found : (line : List ℕ) (command : Command) → command_of line ≡ Some command → Spells line command
unfolding command_of
line_found line command h = go (nat_le (length line) 1_048_576) refl h
  where
    go : (t : Bool) → nat_le (length line) 1_048_576 ≡ t → (if t then (cut 32 line >>= λ x. verb_of x.0 >>= λ verb. parts_of verb x.1) else None) ≡ Some command → Spells line command
    go false e h = absurd (cc)
    go true e h =
        let b = bound (cut 32 line) (λ x. verb_of x.0 >>= λ verb. parts_of verb x.1) command h in
        let d = bound (verb_of b.0.0) (λ verb. parts_of verb b.0.1) command b.2 in
        let found = cut_found 32 line b.0.0 b.0.1 b.1 in
        record { verb = d.0; parts = b.0.1; line_is = found.0 ∙ ap (λ w. w ++ (32 ∷ b.0.1)) (verb_found b.0.0 d.0 d.1); parts_are = parts_found d.0 b.0.1 command d.2; short = grind (arith, nat_tests) }

-- a line spells one command
pub one_command : (line : List ℕ) (a b : Command) → Spells line a → Spells line b → a ≡ b
one_command line a b h k = let same : Some a ≡ Some b = sym (line_there line a h) ∙ line_there line b k in cc

pub line_missing : (line : List ℕ) (command : Command) → None ≡ command_of line → Spells line command → ⊥
line_missing line command e h = absurd (let gone : None ≡ Some command = e ∙ line_there line command h in cc)

pub parsed : (line : List ℕ) (read : Option Command) (r : Result Command LineFault) → read ≡ command_of line → Gives (λ command. command) r read → IfOk r (λ command. Spells line command)
parsed line read (Ok command) e h = line_found line command (sym e ∙ h)
parsed line read (Err fault) e h = tt

pub syntax_line : (line : List ℕ) (read : Option Command) (r : Result Command LineFault) → read ≡ command_of line → Gives (λ command. command) r read → r ≡ Err faults.Syntax → (command : Command) → Spells line command → ⊥
syntax_line line read (Ok command) e h refused = absurd (cc)
syntax_line line read (Err faults.Syntax) e h refused = λ command s. line_missing line command (sym h ∙ e) s
syntax_line line read (Err faults.Memory) e h refused = absurd (cc)

pub refused_line : (line : List ℕ) (read : Option Command) (r : Result Command LineFault) → read ≡ command_of line → is_some read ≡ true → ((command : Command) → Spells line command → ⊥) → r ≡ Err faults.Syntax
refused_line line None r e some none = absurd (cc)
refused_line line (Some command) r e some none = absurd (none command (line_found line command (sym e)))
