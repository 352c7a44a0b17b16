use Rattle.std.proofs.Common.{◌≡◌, length}
use Rattle.std.specs.List.{list_all}
use denote.Text.{Utf8}
use denote.Shadow.{shadow}
use Rattle.form_script.specs.LineReading.{words_of}
use Rattle.form_script.specs.Spelled.{passes}
use Rattle.form_script.proofs.lists.are_all.Given as goal

abbrev pub invariant-words : goal.invariant-words
invariant-words l = shadow (Utf8 l.rest) × (list_all (passes l.part) (words_of l.text) ≡ list_all (passes l.part) (words_of l.rest))

abbrev pub decreases-words : goal.decreases-words
decreases-words l = length l.rest
