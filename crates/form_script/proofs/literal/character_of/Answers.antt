use Rattle.std.proofs.Common.{sym}
use Rattle.form_script.proofs.LiteralLaws.{hex_numeral}
use Rattle.form_script.proofs.literal.character_of.Goals as goal

pub character_at-requires : goal.character_at-requires
character_at-requires c = (hex_numeral c.args.digits.now (sym c.if-not-is_hexadecimal.ensures)).0
