use Rattle.std.proofs.Common.{sym, subst}
use Rattle.form_tokens.specs.declared.chunk.Context.{Context}
use Rattle.form_tokens.specs.Ahead.{IsClear}
use Rattle.form_tokens.proofs.Texts.{clear_value}
use Rattle.form_tokens.proofs.ahead.before_stop.Goals as goal

pub returns-in-Value-clause-clear : goal.returns-in-Value-clause-clear
returns-in-Value-clause-clear c = λ n le g. subst (λ (place : Context). IsClear place n c.args.bytes.now) (sym c.in-Value.is) (clear_value n c.args.bytes.now g)

pub returns-in-Textarea-clause-clear : goal.returns-in-Textarea-clause-clear
returns-in-Textarea-clause-clear c = λ n le g. subst (λ (place : Context). IsClear place n c.args.bytes.now) (sym c.in-Textarea.is) (c.before_end_tag.ensures.clear n le g)
