use Rattle.std.proofs.Common.{◌≡◌, string_bytes}
use Rattle.std.specs.Str.Iter.{split_ascii_whitespace_text}
use Rattle.form_text.specs.Whitespace.{words, stripped_and_collapsed}
use Rattle.form_text.proofs.WordLaws.{written}
use Rattle.form_text.proofs.whitespace.strip_collapse.Given as goal

-- what is written, and the words that are left
abbrev pub invariant-loop-word : goal.invariant-loop-word
invariant-loop-word l = written (string_bytes l.out) (words (split_ascii_whitespace_text l.word-iterator)) ≡ stripped_and_collapsed l.text
