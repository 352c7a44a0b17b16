use Rattle.std.proofs.Common.{ap, ◌∙◌, map, string_bytes}
use Rattle.form_generator.proofs.generator.commands_at.Goals as goal

pub returns : goal.returns
returns c =
    ap (map string_bytes) c.in_ok-vec.ensures.items
    ∙ simp (c.in_ok-command_on.ensures, c.in_ok-command_on-2.ensures, c.in_ok-command_on-3.ensures, c.in_ok-command_on-4.ensures, c.in_ok-command_on-5.ensures, c.in_ok-command_on-6.ensures, c.in_ok-command_on-7.ensures, c.in_ok-command_on-8.ensures, c.in_ok-type_back.ensures, c.in_ok-command_on-9.ensures)
