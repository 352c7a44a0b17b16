use Rattle.std.proofs.Common.{◌≡◌, ◌++◌, length, option_map}
use denote.Text.{Utf8}
use denote.Shadow.{shadow}
use Rattle.form_script.specs.LineReading.{all_of, words_of}
use Rattle.form_script.specs.Reading.{boundary_of}
use Rattle.form_script.proofs.lists.all_boundaries_of.Given as goal

abbrev pub invariant-words : goal.invariant-words
invariant-words l = shadow (Utf8 l.rest) × (all_of boundary_of (words_of l.text) ≡ option_map (λ xs. l.boundaries ++ xs) (all_of boundary_of (words_of l.rest)))

abbrev pub decreases-words : goal.decreases-words
decreases-words l = length l.rest
