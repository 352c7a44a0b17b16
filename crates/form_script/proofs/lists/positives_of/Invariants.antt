use Rattle.std.proofs.Common.{◌≡◌, ◌++◌, length, option_map}
use denote.Text.{Utf8}
use denote.Shadow.{shadow}
use Rattle.form_script.specs.LineReading.{all_of, words_of}
use Rattle.form_script.specs.Reading.{positive_of}
use Rattle.form_script.proofs.lists.positives_of.Given as goal

abbrev pub invariant-words : goal.invariant-words
invariant-words l = shadow (Utf8 l.rest) × (all_of positive_of (words_of l.text) ≡ option_map (λ xs. l.numbers ++ xs) (all_of positive_of (words_of l.rest)))

abbrev pub decreases-words : goal.decreases-words
decreases-words l = length l.rest
