-- What the crates above may rely on.
use Rattle.std.proofs.Common.{◌≡◌, ◌≤◌, ℕ, List, [], ◌∷◌, Bool, true, false, Option, Some, None, if◌then◌else◌, length, map, refl, ap, ◌∙◌}
use Rattle.std.specs.Prelude.{option_map}
use Rattle.std.proofs.lemmas.List.{length-map}
use Rattle.std.specs.Result.{result_ok}
use Rattle.form_generator.specs.Limits.{most_generated}
use Rattle.url.specs.Parser.{parse_url}
use Rattle.url.specs.Parts.{Parts}
use Rattle.form_input.specs.Words.{Page, Generated, asks_generated, count_in, file_name, file_words, is_generate, task_of}
use Rattle.form_input.proofs.CountWords.{generated_count-within}
pub use Rattle.form_input.proofs.Texts.{is_utf8-not}

-- ---- a task of a page

-- the words do not ask for a generated page, and there is a name for each word that names a file
pub page-names : (words : List (List ℕ)) (base : Parts) (names : List (List ℕ)) → task_of words ≡ Some (Page base names) → (asks_generated words ≡ false) × (names ≡ map file_name (file_words words)) × (length names ≡ length (file_words words))
unfolding task_of
page-names [] base names h = absurd (cc)
page-names (first ∷ others) base names h = go (is_generate first) (count_in others) (result_ok (parse_url None first)) h
  where
    Told : Bool → Type 0
    Told v = (v ≡ false) × (names ≡ map file_name others) × (length names ≡ length others)

    told : names ≡ map file_name others → Told false
    told e = (refl, e, ap length e ∙ length-map others file_name)

    go : (v : Bool) (count : Option ℕ) (url : Option Parts)
        → (if v then option_map Generated count else option_map (λ b. Page b (map file_name others)) url) ≡ Some (Page base names)
        → Told v
    go true (Some n) url e = absurd (cc)
    go true None url e = absurd (cc)
    go false count (Some u) e = told (cc)
    go false count None e = absurd (cc)

-- ---- a task of a generated page

counted : (words : List (List ℕ)) (n : ℕ) → count_in words ≡ Some n → (1 ≤ n) × (n ≤ most_generated)
counted [] n h = absurd (cc)
counted (word ∷ []) n h = generated_count-within word n h
counted (word ∷ next ∷ words) n h = absurd (cc)

-- the words ask for one, of one control or more and no more than may be
pub generated-count : (words : List (List ℕ)) (n : ℕ) → task_of words ≡ Some (Generated n) → (asks_generated words ≡ true) × (1 ≤ n) × (n ≤ most_generated)
unfolding task_of
generated-count [] n h = absurd (cc)
generated-count (first ∷ others) n h = go (is_generate first) (count_in others) (counted others) (result_ok (parse_url None first)) h
  where
    go : (v : Bool) (count : Option ℕ) → ((m : ℕ) → count ≡ Some m → (1 ≤ m) × (m ≤ most_generated)) → (url : Option Parts)
        → (if v then option_map Generated count else option_map (λ b. Page b (map file_name others)) url) ≡ Some (Generated n)
        → (v ≡ true) × (1 ≤ n) × (n ≤ most_generated)
    go true (Some m) within url e = let w = within n (cc) in (refl, w.0, w.1)
    go true None within url e = absurd (cc)
    go false count within (Some u) e = absurd (cc)
    go false count within None e = absurd (cc)
