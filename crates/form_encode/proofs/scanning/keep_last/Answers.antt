use Rattle.std.proofs.Common.{arith, ◌≡◌, ◌-◌, ◌+◌, length, take, drop, ap, sym, ◌∙◌, length-drop}
use Rattle.form_encode.specs.Scanning.{last_bytes, overlap}
use Rattle.form_encode.proofs.SeamLaws.{last_bytes-within}
use Rattle.form_encode.proofs.scanning.keep_last.Goals as goal

pub returns-then-piece-ge-OVERLAP-clause-long : goal.returns-then-piece-ge-OVERLAP-clause-long
unfolding last_bytes
returns-then-piece-ge-OVERLAP-clause-long c = λ _.
    let size : 0 + length c.behind.result.now ≡ 71 =
    omega (arith, ap length c.behind.ensures, length-drop (length c.args.piece.now - 71) c.args.piece.now, c.if-piece-ge-OVERLAP.true) in
    ap (λ n. take n c.put.new.room) (sym size) ∙ c.put.ensures ∙ c.behind.ensures

pub returns-else-piece-ge-OVERLAP-clause-short : goal.returns-else-piece-ge-OVERLAP-clause-short
returns-else-piece-ge-OVERLAP-clause-short c = λ _.
    last_bytes-within overlap c.args.joined c.saturating_sub-first.result _ c.args.room.now _
    (omega (arith, c.requires, c.told-room)) (omega (arith, c.saturating_sub-first.ensures)) (omega arith)
    c.copy_within.ensures.after
