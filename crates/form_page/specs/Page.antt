-- What a page is: the tree of its elements, and the files that were handed in with it.
use Rattle.std.specs.Prelude.{ℕ, zero, suc, true, List, map, Option, Some, None, if◌then◌else◌}
use Rattle.std.specs.List.{slice_get}
use Rattle.std.specs.Option.{option_and_then}
use Rattle.form_tree.specs.Tree.{Tree}
use Rattle.form_page.specs.declared.file.File.{File}

pub record Page : Type 0 where
  pub tree : Tree
  pub files : List File

abbrev pub page_of : Tree → List File → Page
page_of tree files = record { tree = tree; files = files }

-- ---- files

-- the names of the files, in their order
abbrev pub names_of : List File → List (List ℕ)
names_of files = map (λ file. file.name) files

-- the file of a number, counted from 1
abbrev pub file_of : List File → ℕ → Option File
file_of files zero = None
file_of files (suc number) = slice_get files number

-- the name, where the file is there
abbrev pub name_if_there : File → Option (List ℕ)
name_if_there file = if file.there then Some file.name else None

-- the name of the file of a number that is there
abbrev pub name_of_file : List File → ℕ → Option (List ℕ)
name_of_file files number = option_and_then name_if_there (file_of files number)

-- a file as it is handed in
abbrev pub new_file : List ℕ → File
new_file name = record { name = name; there = true }
