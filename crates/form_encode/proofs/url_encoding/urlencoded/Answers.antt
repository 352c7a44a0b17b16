use Rattle.std.proofs.Common.{rules}
use Rattle.form_encode.proofs.JoinLaws.{append_next}
use Rattle.form_encode.proofs.url_encoding.urlencoded.Goals as goal

pub loop-pair-preserved : goal.loop-pair-preserved
loop-pair-preserved c = search (rules, append_next c.args.pairs.now c.loop-pair.pair-index c.pair-item.result c.pair-item.is c.loop-pair-test.true)
