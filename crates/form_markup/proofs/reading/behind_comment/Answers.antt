use Rattle.std.proofs.Common.{◌≡◌, ◌+◌, ◌<◌, ◌≤◌, Some, length, get_or, arith, sym, subst}
use Rattle.std.specs.Str.{IsCharBoundary}
use Rattle.std.proofs.lemmas.Str.{IsCharBoundary-after_ascii}
use Rattle.form_markup.specs.Pieces.{comment_len}
use Rattle.form_markup.proofs.Comments.{comment_some}
use Rattle.form_markup.proofs.reading.behind_comment.Goals as goal

pub split_at-requires : goal.split_at-requires
split_at-requires c =
    let e : comment_len c.args.text.now ≡ Some c.in-Some.count = sym (rw c.as_bytes.ensures.value at c.in-Some.ensures) in
    let t = comment_some c.args.text.now c.in-Some.count e in
    let inside : c.in-Some.count ≤ length c.args.text.now = t.2 in
    let is : t.0 + 1 ≡ c.in-Some.count = omega (arith, t.1) in
    let below : t.0 < length c.args.text.now = omega (arith, t.1) in
    let low : get_or c.args.text.now t.0 0 < 128 = omega (arith, t.3) in
    subst (IsCharBoundary c.args.text.now) is (IsCharBoundary-after_ascii c.args.text.now t.0 c.utf8.text below low)
