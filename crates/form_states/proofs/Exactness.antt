-- From what the functions give to what the rules say.
use Rattle.std.proofs.Common.{◌≡◌, ◌↔◌, inl, inr, ℕ, List, [], Option, Some, None, IfSome, IsSome, refl, ap, sym, subst, ◌∙◌, ℤ}
use Rattle.std.specs.Prelude.{option_map, option_and_then, unwrap_or}
use Rattle.form_types.specs.declared.kind.Kind.{Kind}
use Rattle.form_types.specs.declared.kind.Kind.TheVariants as kinds
use Rattle.form_calendar.specs.LocalDateTime.{local_number, local_text}
use Rattle.form_calendar.specs.Shortest.{IsShortestLocal}
use Rattle.form_calendar.proofs.Laws.{local_laws}
use Rattle.form_states.specs.declared.limits.Limits.{Limits}
use Rattle.form_states.specs.Limits.{IsLimits, HasDecimals}
use Rattle.form_states.specs.Sanitised.{kept_if_number, local_sanitised, IsKeptIfValid, IsNormalised}
use Rattle.form_states.specs.States.{HasNumber, IsTextFor, number_of, text_for, IsSanitised, sanitised}
use Rattle.form_states.specs.NumberLaws.{number_found, number_again, text_back, text_there, text_is}
use Rattle.form_states.proofs.RangeExactness.{range_is}

pub found_if : (kind : Kind) (text : List ℕ) (o : Option ℤ) → o ≡ number_of kind text → IfSome o (HasNumber kind text)
found_if kind text (Some n) e = number_found kind text n (sym e)
found_if kind text None e = tt

-- a text is written exactly where some text has the number
pub some_exact : {T : Type 0} (kind : Kind) (n : ℤ) (f : T → List ℕ) (o : Option T) → option_map f o ≡ text_for kind n → IsSome o ↔ ((text : List ℕ) × HasNumber kind text n)
some_exact kind n f (Some s) e = ((λ _. (f s, number_found kind (f s) n (text_back kind n (f s) (sym e)))), (λ _. refl))
some_exact kind n f None e = ((λ h. cc), (λ h. let s = text_there kind h.0 n (number_again kind h.0 n h.1) in let g : None ≡ Some s.0 = e ∙ s.1 in cc))

-- the text that is written is the one that stands for the number
pub text_exact : {T : Type 0} (kind : Kind) (n : ℤ) (f : T → List ℕ) (o : Option T) → option_map f o ≡ text_for kind n → IfSome o (λ s. IsTextFor kind (f s) n)
text_exact kind n f (Some s) e = text_is kind n (f s) (sym e)
text_exact kind n f None e = tt

-- what is kept, and what is normalised, is what the rule says
kept_is : (kind : Kind) (t : List ℕ) → IsKeptIfValid (HasNumber kind) t (kept_if_number (number_of kind t) t)
kept_is kind t = go (number_of kind t) refl
  where
    go : (o : Option ℤ) → number_of kind t ≡ o → IsKeptIfValid (HasNumber kind) t (kept_if_number o t)
    go (Some n) e = inl ((n, number_found kind t n e), refl)
    go None e = inr ((λ n h. let f : number_of kind t ≡ Some n = number_again kind t n h in cc), refl)

normalised_is : (t : List ℕ) → IsNormalised t (local_sanitised t)
normalised_is t = go (local_number t) refl
  where
    go : (o : Option ℤ) → local_number t ≡ o → IsNormalised t (unwrap_or (option_and_then local_text o) [])
    go (Some n) e =
        let s = local_laws.there t n (local_laws.found t n e) in
        let f : s.0 ≡ unwrap_or (local_text n) [] = sym (ap (λ o. unwrap_or o []) s.1) in
        inl (n, (local_laws.found t n e, subst (λ r. IsShortestLocal r n) f (local_laws.best n s.0 s.1)))
    go None e = inr ((λ n h. let f : local_number t ≡ Some n = local_laws.again t n h in cc), refl)

-- The function gives what the rule of the state says.
pub sanitised_is : (kind : Kind) (l : Limits) (t : List ℕ) → IsLimits kind l → HasDecimals l → IsSanitised kind l t (sanitised kind l t)
sanitised_is kinds.Range l t h d = range_is l t h.step d
sanitised_is kinds.Date l t h d = kept_is kinds.Date t
sanitised_is kinds.Month l t h d = kept_is kinds.Month t
sanitised_is kinds.Week l t h d = kept_is kinds.Week t
sanitised_is kinds.Time l t h d = kept_is kinds.Time t
sanitised_is kinds.Number l t h d = kept_is kinds.Number t
sanitised_is kinds.Local l t h d = normalised_is t
sanitised_is kind l t h d = refl
