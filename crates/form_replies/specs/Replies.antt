-- The texts of replies.
use Rattle.std.specs.Prelude.{ℕ, List, [], ◌++◌, flat_map, codes, Option, Some, None, unwrap_or}
use Rattle.std.specs.Option.{option_map_or}
use Rattle.form_input.specs.Lines.{with_end}
use Rattle.form_tree.specs.declared.node.Key.{Key}
use Rattle.form_page.specs.Page.{Page}
use Rattle.form_page.specs.Views.{flags_of_key}
use Rattle.form_changes.specs.declared.act.ActFault.{ActFault}
use Rattle.form_changes.specs.declared.act.ActFault.TheVariants as faults
use Rattle.form_script.specs.Printed.{flag_words, key_text, view_line}

-- ---- words

-- the word for why a command is refused; want of memory has none
abbrev pub refusal_word : ActFault → List ℕ
refusal_word faults.NoElement = codes "no-element"
refusal_word faults.WrongKind = codes "wrong-kind"
refusal_word faults.Immutable = codes "immutable"
refusal_word faults.Email = codes "email"
refusal_word faults.NoFile = codes "no-file"
refusal_word faults.Limit = codes "limit"
refusal_word faults.Memory = []

-- ---- lines

-- the line of a command that is done
abbrev pub ok_line : List ℕ
ok_line = with_end (codes "ok")

-- the line of a command that is refused
abbrev pub refused_line : List ℕ → List ℕ
refused_line word = codes "refused " ++ with_end word

-- the line of what is seen of an element; of another one, nothing
abbrev pub seen_line : Page → Key → List ℕ
seen_line page key = unwrap_or (view_line page key) []

abbrev pub seen_lines : Page → List Key → List ℕ
seen_lines page keys = flat_map (seen_line page) keys

-- the words of an element's flags
abbrev pub words_of_key : Page → Key → List ℕ
words_of_key page key = option_map_or flag_words (flags_of_key page key) []

-- the line of a control that stops a submission
abbrev pub invalid_line : Page → Key → List ℕ
invalid_line page key = codes "invalid " ++ (key_text key ++ (codes " " ++ with_end (words_of_key page key)))

-- the lines of a submission that is stopped
abbrev pub stopped_lines : Page → List Key → List ℕ
stopped_lines page keys = codes "stopped\n" ++ flat_map (invalid_line page) keys

-- ---- an act

-- the reply to an act, after which the page is such and these elements are seen to differ
abbrev pub act_reply : Option ActFault → Page → List Key → List ℕ
act_reply None page keys = seen_lines page keys ++ ok_line
act_reply (Some fault) page keys = refused_line (refusal_word fault)
