-- Sanitising in the state range: the function is the rule.
use Rattle.std.proofs.Common.{◌≡◌, inl, inr, ℕ, Bool, true, false, cond, List, Option, Some, None, IfSome, refl, sym, subst, ◌∙◌, arith, ℤ, pos, negsuc, ◌+ℤ◌, ◌-ℤ◌, ◌≤ℤ◌, ◌<ℤ◌, int_lt}
use Rattle.std.specs.Prelude.{unwrap_or}
use Rattle.std.proofs.lemmas.Int.{ints}
use Rattle.std.proofs.lemmas.Option.{same_Some}
use Rattle.std.specs.Ordering.{int_eq}
use Rattle.std.proofs.lemmas.Bool.Decides.{Decides-int_eq}
use Rattle.form_decimal.specs.Numeral.{IsValidNumber}
use Rattle.form_decimal.specs.Reading.{valid_number}
use Rattle.form_decimal.specs.Printed.{printed}
use Rattle.form_decimal.specs.Halving.{IsHalfBetween}
use Rattle.form_decimal.specs.Nearest.{is_aligned, nearest_of}
use Rattle.form_decimal.proofs.Laws.{lt_true, lt_false, valid_found, valid_again, valid_bound, printed_is, aligned_found, aligned_again, IsDecided, nearest_is}
use Rattle.form_states.specs.declared.limits.Limits.{Limits}
use Rattle.form_states.specs.Numbers.{IsDecimal}
use Rattle.form_states.specs.Limits.{IsStep, HasDecimals}
use Rattle.form_states.specs.Range.{IsDefault, IsStart, IsRaised, IsLowered, IsStepped, IsSpelledAs, IsRangeSanitised, top_of, half, middle, up_to, raised_to, clamped, stepped, low_of, high_of, top_in, default_in, corrected_in, corrected_text, range_sanitised}
use Rattle.form_states.specs.RangeLaws.{Ends, ends, corrected_fits, default_fits}

half_is : (low high : ℤ) → low ≤ℤ high → IsHalfBetween low high (low +ℤ half (high -ℤ low))
half_is low high w = go (high -ℤ low) refl
  where
    go : (d : ℤ) → high -ℤ low ≡ d → IsHalfBetween low high (low +ℤ half d)
    go (pos a) e = (omega (arith, ints, e), omega (arith, ints, e))
    go (negsuc a) e = absurd (omega (arith, ints))

default_is : (low high : ℤ) → IsDefault low high (middle low (top_of low high))
default_is low high = go (int_lt high low) refl
  where
    go : (b : Bool) → int_lt high low ≡ b → IsDefault low high (middle low (cond b None (Some high)))
    go true e = inl (lt_true high low e, refl)
    go false e = let w : low ≤ℤ high = lt_false high low e in inr (w, half_is low high w)

raised_is : (low n : ℤ) → IsRaised low n (raised_to low n)
raised_is low n = go (int_lt n low) refl
  where
    go : (b : Bool) → int_lt n low ≡ b → IsRaised low n (cond b low n)
    go true e = inl (lt_true n low e, refl)
    go false e = inr (lt_false n low e, refl)

lowered_is : (low high n : ℤ) → IsLowered low high n (up_to (top_of low high) n)
lowered_is low high n = go (int_lt high low) refl
  where
    apart : (a b : ℤ) → a <ℤ b → b ≤ℤ a → ⊥
    apart a b h k = omega (arith, ints)

    below : (b : Bool) → int_lt high n ≡ b → low ≤ℤ high → IsLowered low high n (cond b high n)
    below true e w = inl (w, lt_true high n e, refl)
    below false e w = inr ((λ _. lt_false high n e), refl)

    go : (b : Bool) → int_lt high low ≡ b → IsLowered low high n (up_to (cond b None (Some high)) n)
    go true e = inr ((λ w. absurd (apart high low (lt_true high low e) w)), refl)
    go false e = below (int_lt high n) refl (lt_false high low e)

stepped_is : (low : ℤ) (top : Option ℤ) (base : ℤ) (step : Option ℤ) (m : ℤ) → IfSome step IsStep → IsStepped low top base step m (stepped low top base step m)
stepped_is low top base None m h = refl
stepped_is low top base (Some s) m h = go (is_aligned m base s) refl
  where
    found : (is_aligned m base s ≡ false) → (o : Option ℤ) → IsDecided m base s low top o → IsStepped low top base (Some s) m (unwrap_or o m)
    found f (Some c) d = inr ((λ a. let e : is_aligned m base s ≡ true = aligned_again m base s h.0 a in cc), inl d.0)
    found f None d = inr ((λ a. let e : is_aligned m base s ≡ true = aligned_again m base s h.0 a in cc), inr (d.1, refl))

    go : (b : Bool) → is_aligned m base s ≡ b → IsStepped low top base (Some s) m (cond b m (unwrap_or (nearest_of m base s low top) m))
    go true e = inl (aligned_found m base s h.0 e, refl)
    go false e = found e (nearest_of m base s low top) (nearest_is m base s low top h.0)

-- the text of a number, kept where the number is the text's own
spelled_is : (l : Limits) (t : List ℕ) (o : Option ℤ) → valid_number t ≡ o → IsDecimal (corrected_in l (unwrap_or o (default_in l))) → IsSpelledAs t (corrected_in l (unwrap_or o (default_in l))) (corrected_text l t o)
spelled_is l t None e h = record {
  kept = λ v. let f : valid_number t ≡ Some (corrected_in l (default_in l)) = valid_again t (corrected_in l (default_in l)) v in cc;
  printed = λ _. printed_is (corrected_in l (default_in l)) h;
}
spelled_is l t (Some n) e h = go (int_eq n (corrected_in l n)) refl
  where
    c : ℤ
    c = corrected_in l n

    go : (b : Bool) → int_eq n (corrected_in l n) ≡ b → IsSpelledAs t (corrected_in l n) (cond b t (printed (corrected_in l n)))
    go true s = record {
      kept = λ _. refl;
      printed = λ no. absurd (no (subst (IsValidNumber t) ((Decides-int_eq n (corrected_in l n)).0 s) (valid_found t n e)));
    }
    go false s = record {
      kept = λ v.
          let f : n ≡ corrected_in l n = same_Some n (corrected_in l n) (sym e ∙ valid_again t (corrected_in l n) v) in
          let g : int_eq n (corrected_in l n) ≡ true = subst (λ x. int_eq n x ≡ true) f ((Decides-int_eq n n).1 refl) in
          cc;
      printed = λ _. printed_is (corrected_in l n) h;
    }

pub range_is : (l : Limits) (t : List ℕ) → IfSome l.step IsStep → HasDecimals l → IsRangeSanitised l t (range_sanitised l t)
unfolding range_sanitised corrected_in
range_is l t step d = go (valid_number t) refl
  where
    e : Ends l
    e = ends l d

    made : (o : Option ℤ) (n : ℤ) → IsStart (low_of l) (high_of l) t n → IsSpelledAs t (corrected_in l n) (corrected_text l t o) → IsRangeSanitised l t (corrected_text l t o)
    made o n s p = record {
      start = n;
      raised = raised_to (low_of l) n;
      lowered = clamped (low_of l) (top_in l) n;
      final = corrected_in l n;
      first = s;
      second = raised_is (low_of l) n;
      third = lowered_is (low_of l) (high_of l) (raised_to (low_of l) n);
      fourth = stepped_is (low_of l) (top_in l) l.base l.step (clamped (low_of l) (top_in l) n) step;
      spelled = p;
    }

    go : (o : Option ℤ) → valid_number t ≡ o → IsRangeSanitised l t (corrected_text l t o)
    go None f = made None (default_in l) (inr ((λ m v. let g : valid_number t ≡ Some m = valid_again t m v in cc), default_is (low_of l) (high_of l))) (spelled_is l t None f (corrected_fits l (default_in l) e (default_fits l e)))
    go (Some n) f = made (Some n) n (inl (valid_found t n f)) (spelled_is l t (Some n) f (corrected_fits l n e (valid_bound t n f)))
