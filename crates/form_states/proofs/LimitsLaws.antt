-- The limits that attributes give have the ends that sanitising asks for.
use Rattle.std.proofs.Common.{◌≡◌, ℕ, List, Option, Some, None, IsSome, refl, ℤ, pos}
use Rattle.std.specs.Option.{option_or}
use Rattle.form_types.specs.declared.kind.Kind.{Kind}
use Rattle.form_types.specs.declared.kind.Kind.TheVariants as kinds
use Rattle.form_states.specs.Numbers.{in_units}
use Rattle.form_states.specs.Limits.{number_in, limits_of}

or_some : (o : Option ℤ) (n : ℤ) → IsSome (option_or o (Some n))
or_some None n = refl
or_some (Some m) n = refl

pub range_ends : (kind : Kind) (min max step value : Option (List ℕ)) → kind ≡ kinds.Range
    → IsSome (limits_of kind min max step value).min × IsSome (limits_of kind min max step value).max
unfolding limits_of
range_ends kinds.Range min max step value h =
    (or_some (number_in kinds.Range min) (pos 0), or_some (number_in kinds.Range max) (in_units (pos 100)))
range_ends kind min max step value h = absurd (cc)
