-- The laws of sanitising in the state range: twice gives what once gives, and a decimal.
use Rattle.std.proofs.Common.{◌≡◌, ℕ, ◌/◌, Bool, true, false, cond, List, Option, Some, None, IfSome, refl, ap, ◌∙◌, arith, ℤ, pos, negsuc, ◌+ℤ◌, ◌-ℤ◌, ◌≤ℤ◌, int_lt}
use Rattle.std.specs.Prelude.{unwrap_or}
use Rattle.std.proofs.lemmas.Int.{ints}
use Rattle.std.specs.Ordering.{int_eq}
use Rattle.std.proofs.lemmas.Bool.Decides.{Decides-int_eq}
use Rattle.form_decimal.specs.Reading.{valid_number}
use Rattle.form_decimal.specs.Printed.{printed}
use Rattle.form_decimal.specs.Nearest.{is_aligned, nearest_of}
use Rattle.form_decimal.proofs.Laws.{lt_false, valid_bound, printed_again, nearest_tested}
use Rattle.form_states.specs.declared.limits.Limits.{Limits}
use Rattle.form_states.specs.Numbers.{IsDecimal}
use Rattle.form_states.specs.Limits.{HasDecimals}
use Rattle.form_states.specs.Range.{top_of, half, middle, up_to, raised_to, clamped, stepped, corrected, low_of, high_of, top_in, default_in, corrected_in, corrected_text, range_sanitised}

-- ---- idempotence of the four steps

-- from the minimum to the maximum, where that counts
record Within (low : ℤ) (top : Option ℤ) (n : ℤ) : Type 0 where
  from : low ≤ℤ n
  to : IfSome top (λ h. n ≤ℤ h)

not_below : (a b : ℤ) → b ≤ℤ a → int_lt a b ≡ false
not_below a b h = grind (arith, ints)

-- a number within the limits is not clamped
clamped_fine : (low : ℤ) (top : Option ℤ) (n : ℤ) → Within low top n → clamped low top n ≡ n
clamped_fine low None n w = rw (not_below n low w.from) refl
clamped_fine low (Some h) n w = rw (not_below n low w.from, not_below h n w.to) refl

raised_from : (low n : ℤ) → low ≤ℤ raised_to low n
raised_from low n = go (int_lt n low) refl
  where
    go : (b : Bool) → int_lt n low ≡ b → low ≤ℤ cond b low n
    go true e = omega (arith, ints)
    go false e = lt_false n low e

-- a clamped number is within the limits
clamped_within : (low : ℤ) (top : Option ℤ) (n : ℤ) → IfSome top (λ h. low ≤ℤ h) → Within low top (clamped low top n)
clamped_within low None n w = record { from = raised_from low n; to = tt }
clamped_within low (Some h) n w = go (int_lt h (raised_to low n)) refl
  where
    go : (b : Bool) → int_lt h (raised_to low n) ≡ b → Within low (Some h) (cond b h (raised_to low n))
    go true e = record { from = w; to = omega (arith, ints) }
    go false e = record { from = raised_from low n; to = lt_false h (raised_to low n) e }

-- a number within the limits that is aligned, or that has no candidate, stays
abbrev StepsOnce : ℤ → Option ℤ → ℤ → Option ℤ → ℤ → Type 0
StepsOnce low top base step m = Within low top m × (stepped low top base step m ≡ m)

stepped_again : (low : ℤ) (top : Option ℤ) (base : ℤ) (step : Option ℤ) (m : ℤ) → Within low top m
    → StepsOnce low top base step (stepped low top base step m)
stepped_again low top base None m w = (w, refl)
stepped_again low top base (Some s) m w = go (is_aligned m base s) refl
  where
    moved : (o : Option ℤ) → nearest_of m base s low top ≡ o → is_aligned m base s ≡ false
        → StepsOnce low top base (Some s) (unwrap_or o m)
    moved (Some c) e f =
        let t = nearest_tested m base s low top c e in (
          record { from = t.low_enough; to = t.high_enough },
          ap (λ b. cond b c (unwrap_or (nearest_of c base s low top) c)) t.aligned,
        )
    moved None e f = (w, ap (λ b. cond b m (unwrap_or (nearest_of m base s low top) m)) f ∙ ap (λ o. unwrap_or o m) e)

    go : (b : Bool) → is_aligned m base s ≡ b
        → StepsOnce low top base (Some s) (cond b m (unwrap_or (nearest_of m base s low top) m))
    go true e = (w, ap (λ b. cond b m (unwrap_or (nearest_of m base s low top) m)) e)
    go false e = moved (nearest_of m base s low top) refl e

-- correcting is idempotent, for every step
corrected_again : (low : ℤ) (top : Option ℤ) (base : ℤ) (step : Option ℤ) (n : ℤ) → IfSome top (λ h. low ≤ℤ h)
    → corrected low top base step (corrected low top base step n) ≡ corrected low top base step n
corrected_again low top base step n w =
    let s = stepped_again low top base step (clamped low top n) (clamped_within low top n w) in
    ap (stepped low top base step) (clamped_fine low top (corrected low top base step n) s.0) ∙ s.1

pub top_above : (low high : ℤ) → IfSome (top_of low high) (λ h. low ≤ℤ h)
top_above low high = go (int_lt high low) refl
  where
    go : (b : Bool) → int_lt high low ≡ b → IfSome (cond b None (Some high)) (λ h. low ≤ℤ h)
    go true e = tt
    go false e = lt_false high low e

corrected_in_again : (l : Limits) (n : ℤ) → corrected_in l (corrected_in l n) ≡ corrected_in l n
unfolding corrected_in
corrected_in_again l n = corrected_again (low_of l) (top_in l) l.base l.step n (top_above (low_of l) (high_of l))

-- ---- what is corrected is a decimal

fits_cond : (b : Bool) (m n : ℤ) → IsDecimal m → IsDecimal n → IsDecimal (cond b m n)
fits_cond true m n h k = h
fits_cond false m n h k = k

fits_up_to : (top : Option ℤ) (n : ℤ) → IfSome top IsDecimal → IsDecimal n → IsDecimal (up_to top n)
fits_up_to None n h k = k
fits_up_to (Some t) n h k = fits_cond (int_lt t n) t n h k

fits_stepped : (low : ℤ) (top : Option ℤ) (base : ℤ) (step : Option ℤ) (m : ℤ) → IsDecimal m
    → IsDecimal (stepped low top base step m)
fits_stepped low top base None m h = h
fits_stepped low top base (Some s) m h =
    fits_cond (is_aligned m base s) m (unwrap_or nearest m) h (go nearest refl)
  where
    nearest : Option ℤ
    nearest = nearest_of m base s low top

    go : (o : Option ℤ) → nearest ≡ o → IsDecimal (unwrap_or o m)
    go (Some c) e = (nearest_tested m base s low top c e).fits
    go None e = h

fits_top : (low high : ℤ) → IsDecimal high → IfSome (top_of low high) IsDecimal
fits_top low high h = go (int_lt high low)
  where
    go : (b : Bool) → IfSome (cond b None (Some high)) IsDecimal
    go true = tt
    go false = h

fits_else : (o : Option ℤ) → IfSome o IsDecimal → IsDecimal (unwrap_or o (pos 0))
fits_else None h = omega arith
fits_else (Some c) h = h

fits_half : (low high : ℤ) → low ≤ℤ high → IsDecimal low → IsDecimal high → IsDecimal (low +ℤ half (high -ℤ low))
fits_half low high w h k = go (high -ℤ low) refl
  where
    between : (low r high : ℤ) → low ≤ℤ r → r ≤ℤ high → IsDecimal low → IsDecimal high → IsDecimal r
    between (pos a) (pos r) (pos b) u v h k = omega (arith, ints)
    between (negsuc a) (pos r) (pos b) u v h k = omega (arith, ints)
    between (negsuc a) (negsuc r) b u v h k = omega (arith, ints)
    between (pos a) (negsuc r) b u v h k = absurd (omega (arith, ints))
    between (pos a) (pos r) (negsuc b) u v h k = absurd (omega (arith, ints))
    between (negsuc a) (pos r) (negsuc b) u v h k = absurd (omega (arith, ints))

    go : (d : ℤ) → high -ℤ low ≡ d → IsDecimal (low +ℤ half d)
    go (pos a) e = between low (low +ℤ pos (a / 2)) high (omega (arith, ints)) (omega (arith, ints)) h k
    go (negsuc a) e = absurd (omega (arith, ints))

fits_middle : (low : ℤ) (top : Option ℤ) → IfSome top (λ h. low ≤ℤ h) → IsDecimal low → IfSome top IsDecimal
    → IsDecimal (middle low top)
fits_middle low None w h k = h
fits_middle low (Some high) w h k = fits_half low high w h k

pub record Ends (l : Limits) : Type 0 where
  pub low : IsDecimal (low_of l)
  pub top : IfSome (top_in l) IsDecimal

pub ends : (l : Limits) → HasDecimals l → Ends l
ends l d = record { low = fits_else l.min d.min; top = fits_top (low_of l) (high_of l) (fits_else l.max d.max) }

pub corrected_fits : (l : Limits) (n : ℤ) → Ends l → IsDecimal n → IsDecimal (corrected_in l n)
unfolding corrected_in
corrected_fits l n e h =
    fits_stepped (low_of l) (top_in l) l.base l.step (clamped (low_of l) (top_in l) n)
    (fits_up_to (top_in l) (raised_to (low_of l) n) e.top (fits_cond (int_lt n (low_of l)) (low_of l) n e.low h))

pub default_fits : (l : Limits) → Ends l → IsDecimal (default_in l)
default_fits l e = fits_middle (low_of l) (top_in l) (top_above (low_of l) (high_of l)) e.low e.top

-- ---- idempotence on texts

-- the printed text of a corrected number stays
printed_stays : (l : Limits) (n : ℤ) → IsDecimal (corrected_in l n)
    → range_sanitised l (printed (corrected_in l n)) ≡ printed (corrected_in l n)
unfolding range_sanitised
printed_stays l n h =
    let c = corrected_in l n in
    ap (corrected_text l (printed c)) (printed_again c h)
    ∙ ap (λ x. cond (int_eq c x) (printed c) (printed x)) (corrected_in_again l n)
    ∙ ap (λ b. cond b (printed c) (printed c)) ((Decides-int_eq c c).1 refl)

pub range_again : (l : Limits) (t : List ℕ) → HasDecimals l
    → range_sanitised l (range_sanitised l t) ≡ range_sanitised l t
unfolding range_sanitised
range_again l t d = go (valid_number t) refl
  where
    e : Ends l
    e = ends l d

    go : (o : Option ℤ) → valid_number t ≡ o → range_sanitised l (corrected_text l t o) ≡ corrected_text l t o
    go None f = printed_stays l (default_in l) (corrected_fits l (default_in l) e (default_fits l e))
    go (Some n) f = inner (int_eq n (corrected_in l n)) refl
      where
        inner : (x : Bool) → int_eq n (corrected_in l n) ≡ x
            → range_sanitised l (cond x t (printed (corrected_in l n))) ≡ cond x t (printed (corrected_in l n))
        inner true g = ap (corrected_text l t) f ∙ ap (λ x. cond x t (printed (corrected_in l n))) g
        inner false g = printed_stays l n (corrected_fits l n e (valid_bound t n f))
