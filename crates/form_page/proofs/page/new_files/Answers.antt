use Rattle.std.proofs.Common.{ℕ, List, true, ap}
use Rattle.std.specs.String.{string_bytes}
use Rattle.form_page.proofs.FileLaws.{one_more_file}
use Rattle.form_page.proofs.page.new_files.Goals as goal

pub loop-name-preserved : goal.loop-name-preserved
loop-name-preserved c = (tt, tt, one_more_file string_bytes c.loop-name.files.items c.push.new.self.items _ c.in-Some.name _ _ _ c.in_ok-push.ensures.items (ap (λ (name : List ℕ). record { name = name; there = true }) c.from_string.ensures) c.in-Some.ensures.steps.0 c.loop-name.invariant.2)
