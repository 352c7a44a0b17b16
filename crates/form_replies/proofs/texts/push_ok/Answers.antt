use Rattle.form_replies.proofs.texts.push_ok.Goals as goal

pub returns : goal.returns
returns c = c.in_ok-push_str.ensures.bytes
