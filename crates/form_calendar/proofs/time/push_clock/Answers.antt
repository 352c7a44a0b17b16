use Rattle.std.proofs.Common.{refl, codes, ◌/◌, ◌%◌, string_bytes}
use Rattle.form_calendar.specs.Digits.{pair_text}
use Rattle.form_calendar.specs.Time.{shortest_seconds, clock_text}
use Rattle.form_calendar.proofs.PrintLemmas.{appended_both}
use Rattle.form_calendar.proofs.time.push_clock.Goals as goal

pub returns : goal.returns
unfolding clock_text
returns c =
    let n = c.args.n in
    appended_both c.push_seconds.result (string_bytes c.args.out.now) _ _ (pair_text 2 (codes ":") (n / 3_600_000) (n / 60_000 % 60)) (shortest_seconds (n % 60_000)) (clock_text n) c.push_seconds.ensures c.in_ok-push_minute.ensures refl
