-- What the words of a call ask for.
use Rattle.std.specs.Prelude.{ℕ, ◌==◌, Bool, false, List, [], ◌∷◌, codes, bytes_eq, string_bytes, drop, map, if◌then◌else◌, Option, None, option_map}
use Rattle.std.specs.Fmt.{decimal}
use Rattle.std.specs.List.{find, list_any, range_with_len}
use Rattle.std.specs.Result.{result_ok}
use Rattle.form_generator.specs.Limits.{most_generated}
use Rattle.url.specs.Parser.{parse_url}
use Rattle.url.specs.Parts.{Parts}
use Rattle.form_input.specs.declared.words.Task.{Task}
use Rattle.form_input.specs.declared.words.Task.TheVariants as tasks

-- A task: a page whose document has this URL, with files of these names, or a generated page of so many controls.
pub data PlainTask : Type 0 where
  Page : (base : Parts) → (names : List (List ℕ)) → PlainTask
  Generated : (count : ℕ) → PlainTask

-- ---- files

-- the byte `/`
abbrev pub is_solidus : ℕ → Bool
is_solidus b = b == 47

-- the name of a file: what stands behind the last `/` of its path
unfoldable pub file_name : List ℕ → List ℕ
file_name [] = []
file_name (b ∷ bytes) = if list_any is_solidus (b ∷ bytes) then file_name bytes else b ∷ bytes

-- the words that name files: all but the first
abbrev pub file_words : List (List ℕ) → List (List ℕ)
file_words words = drop 1 words

-- ---- a generated page

-- the word that asks for a generated page
abbrev pub is_generate : List ℕ → Bool
is_generate word = bytes_eq word (codes "--generate")

-- the words ask for a generated page
abbrev pub asks_generated : List (List ℕ) → Bool
asks_generated [] = false
asks_generated (first ∷ others) = is_generate first

-- how many controls: the number from 1 to the most whose decimal digits are the word
unfoldable pub generated_count : List ℕ → Option ℕ
generated_count word = find (λ n. bytes_eq word (decimal n)) (range_with_len 1 most_generated)

-- the number in these words: there is just one
abbrev pub count_in : List (List ℕ) → Option ℕ
count_in (word ∷ []) = generated_count word
count_in words = None

-- ---- all words

-- The task that words ask for, where they ask for one: `--generate` and a number, or a URL and the paths of files.
unfoldable pub task_of : List (List ℕ) → Option PlainTask
task_of [] = None
task_of (first ∷ others) =
    if is_generate first then option_map Generated (count_in others)
    else option_map (λ base. Page base (map file_name others)) (result_ok (parse_url None first))

-- the task that the program holds
abbrev pub plain_task : Task → PlainTask
plain_task (tasks.Page base names) = Page base (map string_bytes names.items)
plain_task (tasks.Generated count) = Generated count
