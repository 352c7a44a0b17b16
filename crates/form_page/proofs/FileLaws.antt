-- A file that is no longer there, and files as they are handed in.
use Rattle.std.proofs.Common.{◌≡◌, ℕ, zero, suc, ◌<◌, ◌≤◌, List, [], ◌∷◌, ◌++◌, map, append_assoc, length, get_or, set, false, refl, sym, ap, ◌∙◌, arith}
use Rattle.form_page.specs.declared.file.File.{File}
use Rattle.form_page.specs.Editing.{without_file_at}
use Rattle.form_page.specs.Page.{new_file}

pub gone_there : (files : List File) (i : ℕ) (d : File) → i < length files → set files i (record (get_or files i d) { there = false }) ≡ without_file_at files i
gone_there [] i d lt = absurd (omega arith)
gone_there (f ∷ files) zero d lt = refl
gone_there (f ∷ files) (suc i) d lt = ap (λ (rest : List File). f ∷ rest) (gone_there files i d (omega arith))

pub gone_past : (files : List File) (i : ℕ) → length files ≤ i → files ≡ without_file_at files i
gone_past [] i past = refl
gone_past (f ∷ files) zero past = absurd (omega arith)
gone_past (f ∷ files) (suc i) past = ap (λ (rest : List File). f ∷ rest) (gone_past files i (omega arith))

-- one more file, as the names that are left are one fewer
pub one_more_file : {X : Type 0} (bytes : X → List ℕ) (files more : List File) (file : File) (name : X) (left rest : List X) (all : List File) → more ≡ files ++ file ∷ [] → file ≡ new_file (bytes name) → left ≡ name ∷ rest
    → files ++ map new_file (map bytes left) ≡ all → more ++ map new_file (map bytes rest) ≡ all
one_more_file bytes files more file name left rest all pushed is next so_far =
    ap (λ (xs : List File). xs ++ map new_file (map bytes rest)) pushed
    ∙ append_assoc files (file ∷ []) (map new_file (map bytes rest))
    ∙ ap (λ (f : File). files ++ f ∷ map new_file (map bytes rest)) is
    ∙ ap (λ xs. files ++ map new_file (map bytes xs)) (sym next) ∙ so_far
