use Rattle.std.proofs.Common.{◌≡◌, take, []}
use Rattle.form_encode.specs.Urlencoded.{urlencoded_text}
use Rattle.form_encode.proofs.url_encoding.urlencoded.Given as goal

abbrev pub invariant-loop-pair : goal.invariant-loop-pair
invariant-loop-pair l = (l.form.prefix ≡ []) × (l.form.form ≡ urlencoded_text (take l.pair-index l.pairs))
