use Rattle.std.proofs.Common.{◌≡◌, ◌++◌, take}
use Rattle.std.specs.Prelude.{codes, flat_map, string_bytes}
use Rattle.form_replies.specs.Replies.{invalid_line}
use Rattle.form_replies.proofs.texts.stopped_lines.Given as goal

-- the lines of the keys so far
abbrev pub invariant-loop-key : goal.invariant-loop-key
invariant-loop-key l = string_bytes l.text ≡ codes "stopped\n" ++ flat_map (invalid_line l.page) (take l.key-index l.keys)
