-- What is told of the files on a shelf. B is a file; content, position and faults read one.
use Rattle.std.specs.Prelude.{◌≡◌, ℕ, zero, suc, ◌<◌, ◌≤◌, List, ◌++◌, length, sum, Contains, map, Option, Some, None, IfSome, ⊤, slice_get, option_map, [], ◌∷◌}
use Rattle.std.specs.List.{AllZip}
use Rattle.form_ports.specs.Ports.{Rose}

-- ---- the shelf

-- the content of each file, where there is one and where it tells it
unfoldable pub contents_of : {B : Type 0} → (B → Option (List ℕ)) → List (Option B) → List (Option (Option (List ℕ)))
contents_of content shelf = map (λ file. option_map content file) shelf

-- the number of each file, where there is one: its position or its count of faults
unfoldable pub numbers_of : {B : Type 0} → (B → ℕ) → List (Option B) → List (Option ℕ)
numbers_of number shelf = map (λ file. option_map number file) shelf

-- what stands at a file's number; the first file of the shelf has the number 1
unfoldable pub at_number : {X : Type 0} → List X → ℕ → Option X
at_number shelf zero = None
at_number shelf (suc place) = slice_get shelf place

-- there is a file
abbrev pub IsFile : Option (Option (Option (List ℕ))) → Type 0
IsFile (Some (Some content)) = ⊤
IsFile (Some None) = ⊥
IsFile None = ⊥

-- the file of that number is there
pub record IsThere (contents : List (Option (Option (List ℕ)))) (number : ℕ) : Type 0 where
  pub file : IsFile (at_number contents number)

-- what a place tells: the content of the file in it
abbrev pub told_in : Option (Option (Option (List ℕ))) → Option (List ℕ)
told_in (Some (Some content)) = content
told_in (Some None) = None
told_in None = None

-- the content of the file of that number, where it is there and tells it
unfoldable pub told : List (Option (Option (List ℕ))) → ℕ → Option (List ℕ)
told contents number = told_in (at_number contents number)

-- where the content is told, it is these bytes
abbrev pub HasTold : Option (List ℕ) → List ℕ → Type 0
HasTold content bytes = IfSome content (λ all. bytes ≡ all)

-- ---- counts of faults

-- each count is as high as before or higher, and no file came or went
abbrev pub EachLater : List (Option ℕ) → List (Option ℕ) → Type 0
EachLater [] [] = ⊤
EachLater (Some old ∷ olds) (Some new ∷ news) = (old ≤ new) × EachLater olds news
EachLater (None ∷ olds) (None ∷ news) = EachLater olds news
EachLater olds news = ⊥

-- no count fell
pub record NoneFell (old new : List (Option ℕ)) : Type 0 where
  pub each : EachLater old new

-- the count of the file of that number rose
pub record FileRose (number : ℕ) (old new : List (Option ℕ)) : Type 0 where
  pub before : ℕ
  pub now : ℕ
  pub was : at_number old number ≡ Some (Some before)
  pub is : at_number new number ≡ Some (Some now)
  pub rose : Rose before now

-- the count of a file of one of these numbers rose
pub record SomeRose (numbers : List ℕ) (old new : List (Option ℕ)) : Type 0 where
  pub number : ℕ
  pub named : Contains numbers number
  pub file : FileRose number old new

-- ---- positions

-- of each number the last of the sizes that stand beside it is that file's position
abbrev pub EachLast : List (Option ℕ) → List ℕ → List ℕ → Type 0
EachLast positions [] [] = ⊤
EachLast positions (number ∷ numbers) (size ∷ sizes) =
    (¬ (Contains numbers number) → at_number positions number ≡ Some (Some size)) × EachLast positions numbers sizes
EachLast positions numbers sizes = ⊥

-- each file stands where the last of the sizes beside its number says
pub record LastSizes (positions : List (Option ℕ)) (numbers sizes : List ℕ) : Type 0 where
  pub each : EachLast positions numbers sizes

-- how many bytes these files have together
unfoldable pub total : List (List ℕ) → ℕ
total files = sum (map (λ bytes. length bytes) files)

-- the first of these files have more bytes than may be: such sizes are none above those that are told, and each file
-- stands where its last reading ended
pub record Passes (contents : List (Option (Option (List ℕ)))) (positions : List (Option ℕ)) (numbers : List ℕ)
    (most : ℕ) : Type 0 where
  pub front : List ℕ
  pub rest : List ℕ
  pub sizes : List ℕ
  pub is_front : numbers ≡ front ++ rest
  pub within : AllZip (λ number size. IfSome (told contents number) (λ all. size ≤ length all)) front sizes
  pub last : LastSizes positions front sizes
  pub past : most < sum sizes
