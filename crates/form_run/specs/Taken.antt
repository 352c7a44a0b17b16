-- The elements of an input's page, or the line that says why it is refused.
use Rattle.std.specs.Prelude.{ℕ, List, [], codes, Result, Ok, Err, if◌then◌else◌}
use Rattle.std.specs.Str.{is_utf8}
use Rattle.std.specs.Str.Lossy.{utf8_valid_len}
use Rattle.form_text.specs.LineEnds.{with_lf}
use Rattle.form_tree.specs.declared.node.Raw.{Raw}
use Rattle.form_markup.specs.Answer.{answer_of}
use Rattle.form_markup.specs.declared.fault.PageFault.{PageFault}
use Rattle.form_input.specs.Input.{page_text}
use Rattle.form_replies.specs.PageLines.{bad_page_line, fault_line}

-- the line of an input that is not UTF-8; the place is the length of its longest front that is
abbrev pub utf8_line : List ℕ → List ℕ
utf8_line input = bad_page_line (codes "utf8") (utf8_valid_len input)

-- the elements of a page, or else the line that says why it is refused
abbrev pub page_taken : Result (List Raw) PageFault → Result (List Raw) (List ℕ)
page_taken (Ok raws) = Ok raws
page_taken (Err fault) = Err (fault_line fault)

-- the text of an input's page, with LF for each line end
abbrev pub page_of : List ℕ → List ℕ
page_of input = with_lf (page_text input)

-- the elements of an input's page, or the line; the whole input is tested to be UTF-8
unfoldable pub page_in : List ℕ → Result (List Raw) (List ℕ)
page_in input = if is_utf8 input then page_taken (answer_of [] (page_of input)) else Err (utf8_line input)
