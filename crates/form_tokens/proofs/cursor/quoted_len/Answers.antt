use Rattle.std.proofs.Common.{◌∙◌, ap, take}
use Rattle.std.specs.List.{prefix_len}
use Rattle.form_tokens.specs.Runs.{is_other}
use Rattle.form_tokens.proofs.Numbers.{quoted_both}
use Rattle.form_tokens.proofs.cursor.quoted_len.Goals as goal

pub returns-clause-value : goal.returns-clause-value
returns-clause-value c =
    c.before-3.ensures.value
    ∙ (ap (prefix_len (is_other 0)) c.split_at.ensures.front
    ∙ (ap (λ n. prefix_len (is_other 0) (take n c.args.bytes.now)) c.before-2.ensures.value ∙ quoted_both c.args.quote c.args.bytes.now))
