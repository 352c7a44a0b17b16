-- A local date and time string is read from the left exactly as it is spelled.
use Rattle.std.proofs.Common.{◌≡◌, ◌⊎◌, inl, inr, ℕ, ◌++◌, false, ◌||◌, List, [], ◌∷◌, length, take, drop, Some, refl, ap, sym, ◌∙◌, arith, eqb, ltb, length-append, ℤ, ◌+ℤ◌}
use Rattle.std.proofs.lemmas.Bool.{eqb-true, le-ltb, or_cases}
use Rattle.std.proofs.lemmas.List.{take-append-drop, take_at, drop_at}
use Rattle.std.proofs.lemmas.Option.{option_and_then_some}
use Rattle.form_calendar.specs.Reading.{behind_separator}
use Rattle.form_calendar.specs.Date.{IsValidDate, date_number}
use Rattle.form_calendar.specs.Time.{time_number}
use Rattle.form_calendar.specs.LocalDateTime.{IsLocalText, IsValidLocal, local_number}
use Rattle.form_calendar.proofs.ReadingLemmas.{some_if, some_unless, some_map}
use Rattle.form_calendar.proofs.DateLemmas.{date_found, date_again}
use Rattle.form_calendar.proofs.TimeLemmas.{time_found, time_again}

-- a valid date string has ten bytes
pub date_long : (text : List ℕ) (n : ℤ) → IsValidDate text n → length text ≡ 10
date_long text n v =
    let s = v.spelled in
    let m = s.month_is in
    ap length s.spelled ∙ omega (arith, length-append s.month_text (45 ∷ s.day_text), ap length m.spelled, length-append m.first_text (45 ∷ m.second_text), m.first_is.long, m.second_is.long, s.day_is.long)

separator_reads : (text rest : List ℕ) → behind_separator text ≡ Some rest → (text ≡ 84 ∷ rest) ⊎ (text ≡ 32 ∷ rest)
separator_reads [] rest h = cc
separator_reads (x ∷ xs) rest h =
    let t = some_if (eqb x 84 || eqb x 32) (Some xs) rest h in
    let same : xs ≡ rest = cc in
    elim (or_cases (eqb x 84) (eqb x 32) t.0) [
      | inl e ↦ let b = eqb-true x 84 e in inl (cc (b, same))
      | inr e ↦ let b = eqb-true x 32 e in inr (cc (b, same))
    ]

local_part : (separator : ℕ) (text rest : List ℕ) (n d t : ℤ) → date_number (take 10 text) ≡ Some d → drop 10 text ≡ separator ∷ rest → time_number rest ≡ Some t → d +ℤ t ≡ n → IsLocalText separator text n
local_part separator text rest n d t date split time sum = record {
  date_text = take 10 text;
  time_text = rest;
  date_number = d;
  time_number = t;
  spelled = sym (take-append-drop 10 text) ∙ ap (λ x. take 10 text ++ x) split;
  date_is = date_found (take 10 text) d date;
  time_is = time_found rest t time;
  number = sym sum;
}

-- what is read is a valid local date and time string of that number
pub local_found : (text : List ℕ) (n : ℤ) → local_number text ≡ Some n → IsValidLocal text n
unfolding local_number
local_found text n h =
    let long = some_unless (ltb (length text) 10) _ n h in
    option_and_then_some _ (date_number (take 10 text)) n long.1 (λ d e1 h1.
    option_and_then_some _ (behind_separator (drop 10 text)) n h1 (λ rest e2 h2.
    let last = some_map (λ (t : ℤ). d +ℤ t) (time_number rest) n h2 in
    elim (separator_reads (drop 10 text) rest e2) [
      | inl e ↦ inl (local_part 84 text rest n d last.0 e1 e last.1 last.2)
      | inr e ↦ inr (local_part 32 text rest n d last.0 e1 e last.1 last.2)
    ]))

local_part_again : (separator : ℕ) (text : List ℕ) (n : ℤ) → ((r : List ℕ) → behind_separator (separator ∷ r) ≡ Some r) → IsLocalText separator text n → local_number text ≡ Some n
unfolding local_number
local_part_again separator text n again v =
    let ten = date_long v.date_text v.date_number v.date_is in
    let long : ltb (length (v.date_text ++ (separator ∷ v.time_text))) 10 ≡ false = le-ltb _ 10 (omega (arith, length-append v.date_text (separator ∷ v.time_text))) in
    rw (v.spelled, long, take_at v.date_text (separator ∷ v.time_text) 10 ten, drop_at v.date_text (separator ∷ v.time_text) 10 ten, date_again v.date_text v.date_number v.date_is, again v.time_text, time_again v.time_text v.time_number v.time_is) (ap Some (sym v.number))

-- and a valid local date and time string of a number is read as that number
pub local_again : (text : List ℕ) (n : ℤ) → IsValidLocal text n → local_number text ≡ Some n
local_again text n (inl v) = local_part_again 84 text n (λ r. refl) v
local_again text n (inr v) = local_part_again 32 text n (λ r. refl) v
