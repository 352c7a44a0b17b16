-- Sanitising the value of a control: twice is once, and only the state range looks at the limits.
use Rattle.std.proofs.Common.{◌≡◌, ℕ, false, List, Option, Some, None, IfSome, refl, ℤ, pos, arith}
use Rattle.std.specs.Prelude.{unwrap_or}
use Rattle.std.specs.Option.{option_or}
use Rattle.form_text.proofs.Laws.{without_newlines_again}
use Rattle.form_types.specs.declared.kind.Kind.{Kind}
use Rattle.form_types.specs.declared.kind.Kind.TheVariants as kinds
use Rattle.form_decimal.specs.Reading.{lenient_number}
use Rattle.form_decimal.proofs.Laws.{lenient_bound}
use Rattle.form_states.specs.declared.limits.Limits.{Limits}
use Rattle.form_states.specs.Laws.{color_again, kept_again, local_again, url_again}
use Rattle.form_states.specs.Limits.{HasDecimals, limits_of, number_in}
use Rattle.form_states.specs.Numbers.{IsDecimal, in_units}
use Rattle.form_states.specs.RangeLaws.{range_again}
use Rattle.form_states.specs.States.{number_of, sanitised}
use Rattle.form_changes.specs.Values.{is_range_kind}

-- ---- the limits of the state range are decimals

read_decimal : (attribute : Option (List ℕ)) → IfSome (number_in kinds.Range attribute) IsDecimal
read_decimal None = tt
read_decimal (Some text) = go (lenient_number text) refl
  where
    go : (o : Option ℤ) → lenient_number text ≡ o → IfSome o IsDecimal
    go None e = tt
    go (Some n) e = lenient_bound text n e

or_decimal : (o : Option ℤ) (n : ℤ) → IfSome o IsDecimal → IsDecimal n → IfSome (option_or o (Some n)) IsDecimal
or_decimal None n h d = d
or_decimal (Some m) n h d = h

base_decimal : (o p : Option ℤ) → IfSome o IsDecimal → IfSome p IsDecimal → IsDecimal (unwrap_or (option_or o p) (pos 0))
base_decimal None None h g = omega arith
base_decimal None (Some n) h g = g
base_decimal (Some m) p h g = h

range_decimals : (min max step value : Option (List ℕ)) → HasDecimals (limits_of kinds.Range min max step value)
unfolding limits_of
range_decimals min max step value = record {
  min = or_decimal (number_in kinds.Range min) (pos 0) (read_decimal min) (omega arith);
  max = or_decimal (number_in kinds.Range max) (in_units (pos 100)) (read_decimal max) (omega arith);
  base = base_decimal (number_in kinds.Range min) (number_in kinds.Range value) (read_decimal min) (read_decimal value);
}

-- ---- every state

pub sanitised_again : (kind : Kind) (min max step value : Option (List ℕ)) (t : List ℕ) → sanitised kind (limits_of kind min max step value) (sanitised kind (limits_of kind min max step value) t) ≡ sanitised kind (limits_of kind min max step value) t
sanitised_again kinds.Hidden min max step value t = refl
sanitised_again kinds.Text min max step value t = without_newlines_again t
sanitised_again kinds.Search min max step value t = without_newlines_again t
sanitised_again kinds.Tel min max step value t = without_newlines_again t
sanitised_again kinds.Url min max step value t = url_again t
sanitised_again kinds.Password min max step value t = without_newlines_again t
sanitised_again kinds.Date min max step value t = kept_again (number_of kinds.Date) t
sanitised_again kinds.Month min max step value t = kept_again (number_of kinds.Month) t
sanitised_again kinds.Week min max step value t = kept_again (number_of kinds.Week) t
sanitised_again kinds.Time min max step value t = kept_again (number_of kinds.Time) t
sanitised_again kinds.Local min max step value t = local_again t
sanitised_again kinds.Number min max step value t = kept_again (number_of kinds.Number) t
sanitised_again kinds.Range min max step value t = range_again _ t (range_decimals min max step value)
sanitised_again kinds.Color min max step value t = color_again t
sanitised_again kinds.Checkbox min max step value t = refl
sanitised_again kinds.Radio min max step value t = refl
sanitised_again kinds.File min max step value t = refl
sanitised_again kinds.Submit min max step value t = refl
sanitised_again kinds.Image min max step value t = refl
sanitised_again kinds.Reset min max step value t = refl
sanitised_again kinds.Button min max step value t = refl

-- but in the state range, other limits make nothing else of a text
pub limits_apart : (kind : Kind) (l m : Limits) (t : List ℕ) → is_range_kind kind ≡ false → sanitised kind l t ≡ sanitised kind m t
limits_apart kinds.Range l m t h = absurd (cc)
limits_apart kinds.Hidden l m t h = refl
limits_apart kinds.Text l m t h = refl
limits_apart kinds.Search l m t h = refl
limits_apart kinds.Tel l m t h = refl
limits_apart kinds.Url l m t h = refl
limits_apart kinds.Password l m t h = refl
limits_apart kinds.Date l m t h = refl
limits_apart kinds.Month l m t h = refl
limits_apart kinds.Week l m t h = refl
limits_apart kinds.Time l m t h = refl
limits_apart kinds.Local l m t h = refl
limits_apart kinds.Number l m t h = refl
limits_apart kinds.Color l m t h = refl
limits_apart kinds.Checkbox l m t h = refl
limits_apart kinds.Radio l m t h = refl
limits_apart kinds.File l m t h = refl
limits_apart kinds.Submit l m t h = refl
limits_apart kinds.Image l m t h = refl
limits_apart kinds.Reset l m t h = refl
limits_apart kinds.Button l m t h = refl
