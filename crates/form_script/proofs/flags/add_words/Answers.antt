use Rattle.std.proofs.Common.{◌≡◌, ◌∙◌, List, OnOk, ap, codes, string_bytes, subst, take, ℕ, Bool}
use Rattle.form_judge.specs.declared.flags.Flags.{Flags}
use Rattle.form_script.specs.Adding.{with_word, with_words}
use Rattle.form_script.specs.Printed.{flag_table}
use Rattle.form_script.proofs.flags.add_words.Goals as goal

abbrev take_rows : ℕ → Flags → List (Bool × List ℕ)
take_rows n flags = take n (flag_table flags)

pub returns : goal.returns
returns c =
    let f : Flags = c.args.flags.now in
    let e1 : string_bytes c.add_word.new.words ≡ with_words (take_rows 1 f) (string_bytes c.args.words.now) = c.in_ok-add_word.ensures in
    let e2 : string_bytes c.add_word-2.new.words ≡ with_words (take_rows 2 f) (string_bytes c.args.words.now) = c.in_ok-add_word-2.ensures ∙ ap (with_word f.type_mismatch (codes "typeMismatch")) e1 in
    let e3 : string_bytes c.add_word-3.new.words ≡ with_words (take_rows 3 f) (string_bytes c.args.words.now) = c.in_ok-add_word-3.ensures ∙ ap (with_word f.pattern_mismatch (codes "patternMismatch")) e2 in
    let e4 : string_bytes c.add_word-4.new.words ≡ with_words (take_rows 4 f) (string_bytes c.args.words.now) = c.in_ok-add_word-4.ensures ∙ ap (with_word f.too_long (codes "tooLong")) e3 in
    let e5 : string_bytes c.add_word-5.new.words ≡ with_words (take_rows 5 f) (string_bytes c.args.words.now) = c.in_ok-add_word-5.ensures ∙ ap (with_word f.too_short (codes "tooShort")) e4 in
    let e6 : string_bytes c.add_word-6.new.words ≡ with_words (take_rows 6 f) (string_bytes c.args.words.now) = c.in_ok-add_word-6.ensures ∙ ap (with_word f.range_underflow (codes "rangeUnderflow")) e5 in
    let e7 : string_bytes c.add_word-7.new.words ≡ with_words (take_rows 7 f) (string_bytes c.args.words.now) = c.in_ok-add_word-7.ensures ∙ ap (with_word f.range_overflow (codes "rangeOverflow")) e6 in
    let e8 : string_bytes c.add_word-8.new.words ≡ with_words (take_rows 8 f) (string_bytes c.args.words.now) = c.in_ok-add_word-8.ensures ∙ ap (with_word f.step_mismatch (codes "stepMismatch")) e7 in
    let e9 : string_bytes c.add_word-9.new.words ≡ with_words (take_rows 9 f) (string_bytes c.args.words.now) = c.in_ok-add_word-9.ensures ∙ ap (with_word f.bad_input (codes "badInput")) e8 in
    subst (λ (words : List ℕ). OnOk c.add_word-10.result (string_bytes c.add_word-10.new.words ≡ with_word f.custom_error (codes "customError") words)) e9 c.add_word-10.ensures
