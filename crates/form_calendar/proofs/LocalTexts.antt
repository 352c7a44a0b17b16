-- The text of a local date and time is valid, has `T`, and no valid text of the number is shorter.
use Rattle.std.proofs.Common.{◌≡◌, inl, inr, ℕ, ◌≤◌, ◌++◌, List, ◌∷◌, length, Some, None, option_map, ap, sym, subst, ◌∙◌, arith, length-append, ℤ, pos, ◌*ℤ◌, unsigned_abs, ◌^◌}
use Rattle.jiff_core.specs.Date.{epoch_day}
use Rattle.jiff_core.proofs.SignedLemmas.{signed_arith, one_part}
use Rattle.jiff_core.proofs.DateLemmas.{epoch_day_range}
use Rattle.form_calendar.specs.Date.{IsValidDate, day_text, day_of, clock_of}
use Rattle.form_calendar.specs.Time.{IsValidTime, clock_text}
use Rattle.form_calendar.specs.LocalDateTime.{IsLocalText, IsValidLocal, local_number, local_text}
use Rattle.form_calendar.specs.Shortest.{IsShortestLocal}
use Rattle.form_calendar.proofs.ReadingLemmas.{some_map}
use Rattle.form_calendar.proofs.StringLaws.{StringLaws}
use Rattle.form_calendar.proofs.DateTexts.{day_text_valid, day_text_date, day_and_clock, day_and_clock_once}
use Rattle.form_calendar.proofs.TimeTexts.{clock_text_valid, clock_text_least, time_below}
use Rattle.form_calendar.proofs.LocalLemmas.{date_long, local_found, local_again}

day_valid : (day : ℤ) (text : List ℕ) → day_text day ≡ Some text → IsValidDate text (day *ℤ pos 86_400_000)
day_valid day text h =
    let d = day_text_valid day text h in
    record { date = d.0; from_year_one = d.1; spelled = d.2; number = ap (λ x. x *ℤ pos 86_400_000) (sym d.3) }

-- the day and the time of a valid text are those of its number
day_and_clock_of : (separator : ℕ) (text : List ℕ) (n : ℤ) (v : IsLocalText separator text n) → (day_of n ≡ epoch_day v.date_is.date) × (v.time_number ≡ pos (clock_of n))
day_and_clock_of separator text n v =
    let b = time_below v.time_text v.time_number v.time_is in
    let s = day_and_clock_once n (epoch_day v.date_is.date) b.0 (omega (arith, signed_arith, v.number, v.date_is.number, b.2)) b.1 in
    (s.0, b.2 ∙ ap pos (sym s.1))

local_least : (separator : ℕ) (text date : List ℕ) (n : ℤ) → length date ≡ 10 → IsLocalText separator text n → length (date ++ (84 ∷ clock_text (clock_of n))) ≤ length text
local_least separator text date n ten v =
    let same = day_and_clock_of separator text n v in
    let short = clock_text_least (clock_of n) v.time_text (day_and_clock n).1 (subst (IsValidTime v.time_text) same.1 v.time_is) in
    omega (arith, short, ten, length-append date (84 ∷ clock_text (clock_of n)), ap length v.spelled, length-append v.date_text (separator ∷ v.time_text), date_long v.date_text v.date_number v.date_is)

-- the text of a number is its shortest valid text with `T`
pub local_text_shortest : (n : ℤ) (text : List ℕ) → local_text n ≡ Some text → IsShortestLocal text n
unfolding local_text
local_text_shortest n text h =
    let r = some_map (λ date. date ++ (84 ∷ clock_text (clock_of n))) (day_text (day_of n)) text h in
    let date = day_valid (day_of n) r.0 r.1 in
    let ten = date_long r.0 (day_of n *ℤ pos 86_400_000) date in
    record {
      valid = record {
        date_text = r.0;
        time_text = clock_text (clock_of n);
        date_number = day_of n *ℤ pos 86_400_000;
        time_number = pos (clock_of n);
        spelled = sym r.2;
        date_is = date;
        time_is = clock_text_valid (clock_of n) (day_and_clock n).1;
        number = (day_and_clock n).0;
      };
      shortest = λ other v. subst (λ x. length x ≤ length other) r.2 (elim v [
        | inl t ↦ local_least 84 other r.0 n ten t
        | inr t ↦ local_least 32 other r.0 n ten t
      ]);
    }

some_of : (separator : ℕ) (text : List ℕ) (n : ℤ) → IsLocalText separator text n → (short : List ℕ) × (local_text n ≡ Some short)
unfolding local_text
some_of separator text n v =
    let day = day_text_date v.date_is.date v.date_is.from_year_one in
    let same = (day_and_clock_of separator text n v).0 in
    (_, ap (option_map (λ date. date ++ (84 ∷ clock_text (clock_of n)))) (ap day_text same ∙ day))

-- it is there wherever some valid text has the number
pub local_text_some : (text : List ℕ) (n : ℤ) → IsValidLocal text n → (short : List ℕ) × (local_text n ≡ Some short)
local_text_some text n (inl v) = some_of 84 text n v
local_text_some text n (inr v) = some_of 32 text n v

bound_of : (separator : ℕ) (text : List ℕ) (n : ℤ) → IsLocalText separator text n → unsigned_abs n ≤ 10 ^ 15
bound_of separator text n v =
    let b = time_below v.time_text v.time_number v.time_is in
    omega (arith, signed_arith, one_part n, v.number, v.date_is.number, epoch_day_range v.date_is.date, b.1, b.2)

-- the number of a valid text is small
pub local_bound : (text : List ℕ) (n : ℤ) → IsValidLocal text n → unsigned_abs n ≤ 10 ^ 15
local_bound text n (inl v) = bound_of 84 text n v
local_bound text n (inr v) = bound_of 32 text n v

-- the laws of local date and time strings
pub local_laws : StringLaws IsValidLocal IsShortestLocal local_number local_text
local_laws = record {
  found = local_found;
  again = local_again;
  best = local_text_shortest;
  back = λ n text h. local_again text n (inl (local_text_shortest n text h).valid);
  there = local_text_some;
}
