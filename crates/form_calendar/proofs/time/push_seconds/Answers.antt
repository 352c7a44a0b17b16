use Rattle.std.proofs.Common.{sym, ◌/◌, ◌%◌, ◌∷◌, string_bytes}
use Rattle.form_calendar.specs.Digits.{padded}
use Rattle.form_calendar.specs.Time.{shortest_fraction, shortest_seconds}
use Rattle.form_calendar.proofs.PrintLemmas.{appended_both}
use Rattle.form_calendar.proofs.TimeTexts.{seconds_some}
use Rattle.form_calendar.proofs.time.push_seconds.Goals as goal

pub returns : goal.returns
returns c =
    let k = c.args.milliseconds in
    appended_both c.push_fraction.result (string_bytes c.args.out.now) _ _ (58 ∷ padded 2 (k / 1000)) (shortest_fraction (k % 1000)) (shortest_seconds k) c.push_fraction.ensures c.in_ok-push_second.ensures (sym (seconds_some k c.if-milliseconds-eq0.false))
