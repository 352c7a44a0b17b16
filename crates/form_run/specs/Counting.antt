-- What a run over the generated page and script writes: its counts.
use Rattle.std.specs.Prelude.{ℕ, ◌+◌, List, [], ◌∷◌, length, Option, Some, None, Result, Ok, Err, is_some, if◌then◌else◌, unwrap_or}
use Rattle.form_tree.specs.declared.node.Key.{Key}
use Rattle.form_tree.specs.declared.node.Raw.{Raw}
use Rattle.form_markup.specs.Answer.{answer_of}
use Rattle.form_markup.specs.declared.fault.PageFault.{PageFault}
use Rattle.form_page.specs.Invalid.{invalid_count}
use Rattle.form_page.specs.Opening.{opened}
use Rattle.form_page.specs.Page.{Page}
use Rattle.form_page.specs.Views.{changes}
use Rattle.form_changes.specs.declared.act.ActFault.{ActFault}
use Rattle.form_acts.specs.Acts.{outcome}
use Rattle.form_acts.specs.Refusals.{refusal_of}
use Rattle.form_generator.specs.Counts.{counts_text}
use Rattle.form_generator.specs.Generator.{generated_lines, generated_page}
use Rattle.form_replies.specs.PageLines.{fault_line}
use Rattle.form_run.specs.declared.asked.Asked.{Asked}
use Rattle.form_run.specs.declared.asked.Asked.TheVariants as asks
use Rattle.form_run.specs.declared.status.Status.{Status}
use Rattle.form_run.specs.declared.status.Status.TheVariants as statuses
use Rattle.form_run.specs.Session.{asked_in, page_after}

-- ---- one line

-- 1 for a line that is refused
abbrev pub refusals : Page → Asked → ℕ
refusals page asks.Syntax = 1
refusals page (asks.Refused fault) = 1
refusals page (asks.Act act) = if is_some (refusal_of page act) then 1 else 0
refusals page asked = 0

abbrev pub changed_unless : Option ActFault → List Key → ℕ
changed_unless None keys = length keys
changed_unless (Some fault) keys = 0

-- how many elements are seen to change by a line
abbrev pub changed_views : Page → Asked → ℕ
changed_views page (asks.Act act) = changed_unless (refusal_of page act) (changes page (outcome page act))
changed_views page asked = 0

-- ---- all lines

unfoldable pub page_after_all : Page → List (List ℕ) → Page
page_after_all page [] = page
page_after_all page (line ∷ lines) = page_after_all (page_after page (asked_in page line)) lines

unfoldable pub refused_in : Page → List (List ℕ) → ℕ
refused_in page [] = 0
refused_in page (line ∷ lines) =
    refusals page (asked_in page line) + refused_in (page_after page (asked_in page line)) lines

unfoldable pub changed_in : Page → List (List ℕ) → ℕ
changed_in page [] = 0
changed_in page (line ∷ lines) =
    changed_views page (asked_in page line) + changed_in (page_after page (asked_in page line)) lines

-- the key of the one form, which is the page's first element
abbrev pub form_key : Key
form_key = record { 0 = 1 }

-- how many invalid controls the form has
abbrev pub invalid_in : Page → ℕ
invalid_in page = unwrap_or (invalid_count page.tree.nodes form_key) 0

-- ---- the text

-- the counts of a page of so many controls after these lines
abbrev pub counts_of : ℕ → Page → List (List ℕ) → List ℕ
counts_of count page lines =
    counts_text count (length lines) (refused_in page lines) (changed_in page lines)
    (invalid_in (page_after_all page lines))

abbrev pub text_by : ℕ → Result (List Raw) PageFault → List ℕ
text_by count (Ok raws) = counts_of count (opened raws []) (generated_lines count)
text_by count (Err fault) = fault_line fault

abbrev pub end_by : Result (List Raw) PageFault → Status
end_by (Ok raws) = statuses.Done
end_by (Err fault) = statuses.Page

-- what is written for a generated page of so many controls, and its end
unfoldable pub generated_text : ℕ → List ℕ
generated_text count = text_by count (answer_of [] (generated_page count))

unfoldable pub generated_end : ℕ → Status
generated_end count = end_by (answer_of [] (generated_page count))
