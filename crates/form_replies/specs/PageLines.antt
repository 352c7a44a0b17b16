-- The line that a transcript begins with: how many elements the page has, or why it is refused.
use Rattle.std.specs.Prelude.{◌≡◌, ℕ, List, [], ◌++◌, codes, string_bytes, Result, Err}
use Rattle.std.specs.Fmt.{decimal}
use Rattle.form_input.specs.Lines.{line_then}
use Rattle.form_tree.specs.declared.node.Raw.{Raw}
use Rattle.form_markup.specs.declared.fault.PageFault.{PageFault}
use Rattle.form_markup.specs.declared.fault.PageFault.TheVariants as pages
use Rattle.form_replies.specs.declared.page_lines.PageStop.{PageStop}
use Rattle.form_replies.specs.declared.page_lines.PageStop.TheVariants as stops

-- the line of a page that is read: how many elements it has
abbrev pub page_line : ℕ → List ℕ
page_line count = codes "page " ++ line_then (decimal count) []

-- the line of a page that is refused: the kind and the place of its fault
abbrev pub bad_page_line : List ℕ → ℕ → List ℕ
bad_page_line kind place = codes "bad page " ++ (kind ++ (codes " " ++ line_then (decimal place) []))

-- the line of a page's fault; that memory was refused is no fault of the page
abbrev pub fault_line : PageFault → List ℕ
fault_line (pages.Lexical place) = bad_page_line (codes "lexical") place
fault_line (pages.Limit place) = bad_page_line (codes "limit") place
fault_line (pages.Element place) = bad_page_line (codes "element") place
fault_line (pages.Email place) = bad_page_line (codes "email") place
fault_line (pages.Nesting place) = bad_page_line (codes "nesting") place
fault_line pages.Memory = []

-- a call that refuses the page gave its line, or there was no memory
abbrev pub IsStop : PageStop → Result (List Raw) (List ℕ) → Type 0
IsStop stops.Memory page = Unit {0}
IsStop (stops.Refused line) page = page ≡ Err (string_bytes line)
