use Rattle.form_script.proofs.PartLaws.{line_missing, parsed, refused_line, syntax_line}
use Rattle.form_script.proofs.parse.parse_line.Goals as goal

pub returns-in-Some-clause-ok : goal.returns-in-Some-clause-ok
returns-in-Some-clause-ok c = parsed c.args.line.now (_) c.command_of.result c.in-Some.ensures.value c.command_of.ensures

pub returns-in-Some-clause-syntax : goal.returns-in-Some-clause-syntax
returns-in-Some-clause-syntax c = syntax_line c.args.line.now (_) c.command_of.result c.in-Some.ensures.value c.command_of.ensures

pub returns-in-Some-clause-refused : goal.returns-in-Some-clause-refused
returns-in-Some-clause-refused c = λ none. refused_line c.args.line.now (_) c.command_of.result c.in-Some.ensures.value c.in-Some.ensures.some none

pub returns-in-None-clause-syntax : goal.returns-in-None-clause-syntax
returns-in-None-clause-syntax c = λ refused command. line_missing c.args.line.now command c.in-None.ensures.value
