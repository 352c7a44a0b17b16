-- The steps of the table and of attributes are steps that decimals take.
use Rattle.std.proofs.Common.{◌≡◌, ◌*◌, ◌≤◌, Some, sym, subst, arith, ℤ, pos, negsuc, ◌*ℤ◌, ◌≤ℤ◌}
use Rattle.std.proofs.Math.Nat.{mul-le-mul_left}
use Rattle.std.proofs.lemmas.Int.{ints}
use Rattle.std.proofs.lemmas.Option.{same_Some}
use Rattle.form_types.specs.declared.kind.Kind.{Kind}
use Rattle.form_types.specs.declared.kind.Kind.TheVariants as kinds
use Rattle.form_types.specs.TypeTable.{row_of, scale_of, default_step_of}
use Rattle.form_states.specs.Numbers.{IsDecimal}
use Rattle.form_states.specs.Limits.{IsScale, IsDefaultStep, IsStep}

-- a positive decimal times a scale factor
pub scaled_step : (n s r : ℤ) → r ≡ n *ℤ s → pos 1 ≤ℤ n → IsDecimal n → IsScale s → IsStep r
scaled_step n s r e h d k = subst IsStep (sym e) (go n s h d k)
  where
    go : (n s : ℤ) → pos 1 ≤ℤ n → IsDecimal n → IsScale s → IsStep (n *ℤ s)
    go (pos a) (pos b) h d k =
        let above : 1 ≤ a = omega (arith, ints) in
        let some : 1 ≤ b = omega (arith, ints, k.0) in
        let least : a * 1 ≤ a * b = mul-le-mul_left a some in
        let most : b ≤ 604_800_000 = omega (arith, ints, k.1) in
        let near : a * b ≤ a * 604_800_000 = mul-le-mul_left a most in
        (omega (arith, ints), omega (arith, ints))
    go (pos a) (negsuc b) h d k = absurd (omega (arith, ints, k.0))
    go (negsuc a) s h d k = absurd (omega (arith, ints))

-- the scale factors of the table
pub scale_is : (kind : Kind) (s : ℤ) → scale_of kind ≡ Some s → IsScale s
unfolding row_of
scale_is kinds.Date s h = subst IsScale (same_Some (pos 86_400_000) s h) (omega (arith, ints), omega (arith, ints))
scale_is kinds.Month s h = subst IsScale (same_Some (pos 1) s h) (omega (arith, ints), omega (arith, ints))
scale_is kinds.Week s h = subst IsScale (same_Some (pos 604_800_000) s h) (omega (arith, ints), omega (arith, ints))
scale_is kinds.Time s h = subst IsScale (same_Some (pos 1_000) s h) (omega (arith, ints), omega (arith, ints))
scale_is kinds.Local s h = subst IsScale (same_Some (pos 1_000) s h) (omega (arith, ints), omega (arith, ints))
scale_is kinds.Number s h = subst IsScale (same_Some (pos 1) s h) (omega (arith, ints), omega (arith, ints))
scale_is kinds.Range s h = subst IsScale (same_Some (pos 1) s h) (omega (arith, ints), omega (arith, ints))
scale_is kind s h = cc

-- the default steps of the table
pub default_step_is : (kind : Kind) (s : ℤ) → default_step_of kind ≡ Some s → IsDefaultStep s
unfolding row_of
default_step_is kinds.Date s h = subst IsDefaultStep (same_Some (pos 1) s h) (omega (arith, ints), omega (arith, ints))
default_step_is kinds.Month s h = subst IsDefaultStep (same_Some (pos 1) s h) (omega (arith, ints), omega (arith, ints))
default_step_is kinds.Week s h = subst IsDefaultStep (same_Some (pos 1) s h) (omega (arith, ints), omega (arith, ints))
default_step_is kinds.Time s h = subst IsDefaultStep (same_Some (pos 60) s h) (omega (arith, ints), omega (arith, ints))
default_step_is kinds.Local s h = subst IsDefaultStep (same_Some (pos 60) s h) (omega (arith, ints), omega (arith, ints))
default_step_is kinds.Number s h = subst IsDefaultStep (same_Some (pos 1) s h) (omega (arith, ints), omega (arith, ints))
default_step_is kinds.Range s h = subst IsDefaultStep (same_Some (pos 1) s h) (omega (arith, ints), omega (arith, ints))
default_step_is kind s h = cc
