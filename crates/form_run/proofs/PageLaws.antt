-- What the page of an input is, and what is known of one that is refused.
use Rattle.std.proofs.Common.{◌≡◌, ℕ, List, [], Bool, true, false, Result, Ok, Err, refl, sym, ap, subst, ◌∙◌, inl, inr}
use Rattle.std.specs.Prelude.{IsUtf8, codes}
use Rattle.std.specs.Str.{is_utf8}
use Rattle.std.specs.Str.Lossy.{utf8_valid_len}
use Rattle.std.proofs.lemmas.Str.{is_utf8-from_IsUtf8}
use Rattle.form_text.specs.LineEnds.{with_lf}
use Rattle.form_tree.specs.declared.node.Raw.{Raw}
use Rattle.form_markup.specs.Answer.{answer_of}
use Rattle.form_markup.specs.Spelling.{IsRead, Spells}
use Rattle.form_tokens.specs.declared.fault.Fault.TheVariants as faults
use Rattle.form_markup.specs.declared.fault.PageFault.{PageFault}
use Rattle.form_markup.specs.declared.fault.PageFault.TheVariants as pages
use Rattle.form_markup.proofs.AnswerLaws.{answer_never, answer_read}
use Rattle.form_input.specs.Input.{page_text}
use Rattle.form_replies.specs.PageLines.{bad_page_line}
use Rattle.form_run.specs.Taken.{page_in, page_of, page_taken, utf8_line}
use Rattle.form_run.specs.Transcript.{HasFault, PageIs, SpellsPage, end_of, expected_end}
use Rattle.form_run.specs.declared.status.Status.{Status}
use Rattle.form_input.proofs.Laws.{is_utf8-not}

-- ---- what is known of a page

-- what a page spells, or that it has a fault
abbrev pub Tells : Result (List Raw) (List ℕ) → List ℕ → Type 0
Tells (Ok raws) text = SpellsPage text
Tells (Err line) text = HasFault text

pub tells : (text : List ℕ) → Tells (page_taken (answer_of [] text)) text
tells text = go (answer_of [] text) (answer_read [] text) (answer_never [] text)
  where
    go : (answer : Result (List Raw) PageFault) → IsRead [] text answer → (answer ≡ Err pages.Memory → ⊥) → Tells (page_taken answer) text
    go (Ok raws) read some = (raws, read)
    go (Err (pages.Lexical place)) read some = (faults.Lexical, place, read)
    go (Err (pages.Limit place)) read some = (faults.Limit, place, read)
    go (Err (pages.Element place)) read some = (faults.Element, place, read)
    go (Err (pages.Email place)) read some = (faults.Email, place, read)
    go (Err (pages.Nesting place)) read some = (faults.Nesting, place, read)
    go (Err pages.Memory) read some = absurd (some refl)

-- ---- the page of an input

page_in-text : (input : List ℕ) → is_utf8 input ≡ true → page_in input ≡ page_taken (answer_of [] (page_of input))
unfolding page_in
page_in-text input text = simp text

page_in-no_text : (input : List ℕ) → is_utf8 input ≡ false → page_in input ≡ Err (utf8_line input)
unfolding page_in
page_in-no_text input none = simp none

-- the page of an input that is UTF-8
pub text-page : (input text page : List ℕ) → (text ≡ input) × IsUtf8 input → page ≡ page_text text → page_in input ≡ page_taken (answer_of [] (with_lf page))
text-page input text page same e =
    page_in-text input (is_utf8-from_IsUtf8 input same.1)
    ∙ ap (λ p. page_taken (answer_of [] (with_lf p))) (ap page_text (sym same.0) ∙ sym e)

-- an input that is not UTF-8 has none
pub no-text : (input : List ℕ) (place : ℕ) → ¬ (IsUtf8 input) → place ≡ utf8_valid_len input → page_in input ≡ Err (bad_page_line (codes "utf8") place)
no-text input place refused e =
    page_in-no_text input (is_utf8-not input (is_utf8 input) refl refused)
    ∙ ap (λ n. Err (bad_page_line (codes "utf8") n)) (sym e)

-- the end of a transcript tells of the page
pub page_told : (input : List ℕ) (status : Status) → status ≡ expected_end input → PageIs status input
page_told input status h = go (is_utf8 input) refl
  where
    read : (page : Result (List Raw) (List ℕ)) → Tells page (page_of input) → is_utf8 input ≡ true → status ≡ end_of page → PageIs status input
    read (Ok raws) told text f = subst (λ s. PageIs s input) (sym f) (text, told)
    read (Err line) told text f = subst (λ s. PageIs s input) (sym f) (inr told)

    go : (b : Bool) → is_utf8 input ≡ b → PageIs status input
    go true e = read (page_taken (answer_of [] (page_of input))) (tells (page_of input)) e (h ∙ ap end_of (page_in-text input e))
    go false e = subst (λ s. PageIs s input) (sym (h ∙ ap end_of (page_in-no_text input e))) (inl e)

-- the elements of a page are those that its text spells
pub page_spelled : (input : List ℕ) (raws : List Raw) → page_in input ≡ Ok raws → Spells [] (page_of input) raws
page_spelled input raws taken = go (is_utf8 input) refl
  where
    read : (answer : Result (List Raw) PageFault) → IsRead [] (page_of input) answer → page_taken answer ≡ Ok raws → Spells [] (page_of input) raws
    read (Ok found) is e = let same : found ≡ raws = cc in subst (λ rs. Spells [] (page_of input) rs) same is
    read (Err fault) is e = absurd (cc)

    go : (b : Bool) → is_utf8 input ≡ b → Spells [] (page_of input) raws
    go true e = read (answer_of [] (page_of input)) (answer_read [] (page_of input)) (sym (page_in-text input e) ∙ taken)
    go false e = let none : Err (utf8_line input) ≡ Ok raws = sym (page_in-no_text input e) ∙ taken in absurd (cc none)
