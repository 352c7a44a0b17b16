-- The limits of a control by its attributes (HTML, "The min and max attributes", "The step attribute").
use Rattle.std.specs.Prelude.{◌≡◌, ◌&&◌, Bool, false, ℕ, ◌*◌, ◌^◌, List, Option, Some, None, IfSome, IsSome, option_and_then, unwrap_or, codes, ℤ, pos, ◌*ℤ◌, ◌≤ℤ◌, int_lt, if◌then◌else◌}
use Rattle.std.specs.Option.{option_or}
use Rattle.std.specs.Str.{str_eq_ignore_ascii_case}
use Rattle.form_types.specs.declared.kind.Kind.{Kind}
use Rattle.form_types.specs.declared.kind.Kind.TheVariants as kinds
use Rattle.form_types.specs.TypeTable.{scale_of, default_step_of, has_periodic_domain}
use Rattle.form_decimal.specs.Alignment.{IsAligned}
use Rattle.form_decimal.specs.Reading.{lenient_number}
use Rattle.form_states.specs.declared.limits.Limits.{Limits}
use Rattle.form_states.specs.Numbers.{IsDecimal, in_units}
use Rattle.form_states.specs.States.{rules_of, number_of}

-- the number of an attribute's text: by the rules for parsing floating-point number values in
-- number and range, and in the other states that of a valid string
abbrev pub attribute_number : Kind → List ℕ → Option ℤ
attribute_number kind text = if (rules_of kind).lenient then lenient_number text else number_of kind text

abbrev pub number_in : Kind → Option (List ℕ) → Option ℤ
number_in kind attribute = option_and_then (attribute_number kind) attribute

-- the number, where it is above 0, and else the default
abbrev pub positive_or : ℤ → Option ℤ → ℤ
positive_or default None = default
positive_or default (Some n) = if int_lt (pos 0) n then n else default

-- the allowed value step with a step scale factor and a default step: none for `any`
abbrev pub step_by : ℤ → ℤ → Option (List ℕ) → Option ℤ
step_by scale default None = Some (in_units default *ℤ scale)
step_by scale default (Some text) =
    if str_eq_ignore_ascii_case text (codes "any") then None
    else Some (positive_or (in_units default) (lenient_number text) *ℤ scale)

-- the allowed value step of a state, where it has numbers
abbrev pub allowed_value_step : Kind → Option (List ℕ) → Option ℤ
allowed_value_step kind attribute =
    option_and_then (λ scale. option_and_then (λ default.
    step_by scale default attribute) (default_step_of kind)) (scale_of kind)

-- the step base: the number of `min`, else that of `value`, else the state's default
abbrev pub step_base : Kind → Option (List ℕ) → Option (List ℕ) → ℤ
step_base kind min value =
    unwrap_or (option_or (number_in kind min) (number_in kind value)) (rules_of kind).base

-- the limits of a control with these `min`, `max`, `step` and `value` attributes
unfoldable pub limits_of : Kind → Option (List ℕ) → Option (List ℕ) → Option (List ℕ)
    → Option (List ℕ) → Limits
limits_of kind min max step value = record {
  min = option_or (number_in kind min) (rules_of kind).minimum;
  max = option_or (number_in kind max) (rules_of kind).maximum;
  step = allowed_value_step kind step;
  base = step_base kind min value;
}

-- a step that the arithmetic of decimals takes
abbrev pub IsStep : ℤ → Type 0
IsStep step = (pos 1 ≤ℤ step) × (step ≤ℤ pos (6048 * 10 ^ 34))

-- a number is aligned where there is no step or a whole number of steps leads to it from the step
-- base (HTML, "Constraint validation": suffering from a step mismatch)
abbrev pub IsOnStep : Limits → ℤ → Type 0
IsOnStep limits n = IfSome limits.step (λ step. IsAligned n limits.base step)

-- the maximum is below the minimum
abbrev pub are_crossed : Option ℤ → Option ℤ → Bool
are_crossed (Some min) (Some max) = int_lt max min
are_crossed (Some min) None = false
are_crossed None max = false

-- a reversed range: a periodic domain whose maximum is below its minimum (HTML, "The min and max
-- attributes")
abbrev pub is_reversed : Kind → Limits → Bool
is_reversed kind limits = has_periodic_domain kind && are_crossed limits.min limits.max

-- what the table's scale factors and default steps are among
abbrev pub IsScale : ℤ → Type 0
IsScale scale = (pos 1 ≤ℤ scale) × (scale ≤ℤ pos 604_800_000)

abbrev pub IsDefaultStep : ℤ → Type 0
IsDefaultStep step = (pos 1 ≤ℤ step) × (step ≤ℤ pos 60)

-- what sanitising asks of limits: a step of that size, and in range a minimum and a maximum
pub record IsLimits (kind : Kind) (limits : Limits) : Type 0 where
  pub step : IfSome limits.step IsStep
  pub ends : kind ≡ kinds.Range → IsSome limits.min × IsSome limits.max

-- the minimum, the maximum and the step base are decimals
pub record HasDecimals (limits : Limits) : Type 0 where
  pub min : IfSome limits.min IsDecimal
  pub max : IfSome limits.max IsDecimal
  pub base : IsDecimal limits.base
