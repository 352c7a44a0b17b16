-- Why a run stops before its end, and what is known of its files then.
use Rattle.std.specs.Prelude.{◌≡◌, ◌≢◌, ℕ, ◌≤◌, true, List, [], ◌∷◌, Option, Some, None, ⊤}
use Rattle.form_ports.specs.Shelf.{FileRose, IsThere, at_number, told}
use Rattle.form_page.specs.declared.file.File.{File}
use Rattle.form_acts.specs.Refusals.{is_file_there}
use Rattle.form_run.specs.Session.{Files}

-- each file that the page has stands on the shelf
pub record AreFiles (contents : Files) (files : List File) : Type 0 where
  pub there : (number : ℕ) → is_file_there files number ≡ true → IsThere contents number

-- the count of some file rose
pub record SomeFileRose (old new : List (Option ℕ)) : Type 0 where
  pub number : ℕ
  pub file : FileRose number old new

-- some file tells no content, and stands at another position than it had
pub record SomeChanged (contents : Files) (positions : List (Option ℕ)) (a b : ℕ) : Type 0 where
  pub number : ℕ
  pub there : IsThere contents number
  pub untold : told contents number ≡ None
  pub stands : at_number positions number ≡ Some (Some b)
  pub differs : a ≢ b

-- each count is as high as before or higher, but of the files that went; none came
abbrev pub EachStays : List (Option ℕ) → List (Option ℕ) → Type 0
EachStays [] [] = ⊤
EachStays (Some old ∷ olds) (Some new ∷ news) = (old ≤ new) × EachStays olds news
EachStays (Some old ∷ olds) (None ∷ news) = EachStays olds news
EachStays (None ∷ olds) (None ∷ news) = EachStays olds news
EachStays olds news = ⊥

-- no file came, and no count fell
pub record NoneCame (old new : List (Option ℕ)) : Type 0 where
  pub each : EachStays old new
