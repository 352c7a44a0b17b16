use Rattle.std.proofs.Common.{◌≡◌, map, take, string_bytes}
use Rattle.form_input.specs.Words.{file_name}
use Rattle.form_input.proofs.words.file_names.Given as goal

-- the names of the paths so far
abbrev pub invariant-loop-path : goal.invariant-loop-path
invariant-loop-path l =
    map string_bytes l.names.items ≡ map file_name (map string_bytes (take l.path-index l.paths))
