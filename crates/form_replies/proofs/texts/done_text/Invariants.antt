use Rattle.std.proofs.Common.{◌≡◌, [], ◌++◌, take}
use Rattle.std.specs.Prelude.{flat_map, string_bytes}
use Rattle.form_replies.specs.Replies.{seen_line}
use Rattle.form_replies.proofs.texts.done_text.Given as goal

-- the lines of the keys so far
abbrev pub invariant-loop-key : goal.invariant-loop-key
invariant-loop-key l = string_bytes l.text ≡ [] ++ flat_map (seen_line l.page) (take l.key-index l.keys)
