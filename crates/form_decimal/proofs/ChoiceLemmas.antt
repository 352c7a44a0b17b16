-- The nearest candidate is the nearer one of the two beside the number.
use Rattle.std.proofs.Common.{is_lt, int_cmp, Less, Greater, Equal, Bool, cond, ◌≡◌, ℕ, ◌≤◌, ◌^◌, zero, suc, refl, ap, sym, subst, inl, inr, arith, ℤ, pos, negsuc, ◌+ℤ◌, ◌-ℤ◌, ◌*ℤ◌, ◌≤ℤ◌, ◌<ℤ◌, Option, Some, None, IfSome, IfNone, IsSome, neg_ℤ, unsigned_abs, int_lt, true, false}
use Rattle.std.proofs.lemmas.Int.{ints, by_lt_z}
use Rattle.form_decimal.specs.Alignment.{IsAligned, IsCandidate, IsNearestAligned}
use Rattle.form_decimal.specs.Neighbours.{IsGreatest, IsLeast, IsLower, IsUpper, IsNearer}
use Rattle.form_decimal.proofs.NearestLemmas.{gap, abs_up, abs_down}

-- the test of below, where it holds
pub lt_true : (a b : ℤ) → int_lt a b ≡ true → a <ℤ b
lt_true a b h = grind (arith, ints)

-- and where it does not
pub lt_false : (a b : ℤ) → int_lt a b ≡ false → b ≤ℤ a
lt_false a b h = grind (arith, ints)

-- what `<` answers is that test
pub below_is : (a b : ℤ) → is_lt (int_cmp a b) ≡ int_lt a b
below_is a b = go (int_lt a b) (int_lt b a)
  where
    go : (x y : Bool) → is_lt (cond x Less (cond y Greater Equal)) ≡ x
    go true y = refl
    go false true = refl
    go false false = refl

-- an aligned number less than a step below the limit is the greatest one up to it
pub greatest_found : (base step limit c : ℤ) → pos 1 ≤ℤ step → IsAligned c base step → c ≤ℤ limit → limit <ℤ (c +ℤ step) → IsGreatest base step limit c
greatest_found base (pos s) limit c some al below near = record {
  aligned = al;
  below = below;
  greatest = λ d a l. by_lt_z c d (λ m. let g = gap base c d s al a m in absurd (omega (arith, ints))) (λ k. k);
}
greatest_found base (negsuc s) limit c some al below near = absurd (omega (arith, ints))

-- that number as a decimal, where it is one
pub units_some : (base step limit u : ℤ) (r : Option ℤ) → IsGreatest base step limit u → IfSome r (λ d. d ≡ u) → IfSome r (IsGreatest base step limit)
units_some base step limit u None g h = tt
units_some base step limit u (Some d) g h = subst (IsGreatest base step limit) (sym h) g

-- a number between two of small magnitude has a small magnitude
abs_within : (u d l : ℤ) (k : ℕ) → d ≤ℤ u → u ≤ℤ l → unsigned_abs d ≤ k → unsigned_abs l ≤ k → unsigned_abs u ≤ k
abs_within (pos u) (pos d) (pos l) k a b p q = omega (arith, ints)
abs_within (pos u) (negsuc d) (pos l) k a b p q = omega (arith, ints)
abs_within (pos u) (pos d) (negsuc l) k a b p q = absurd (omega (arith, ints))
abs_within (pos u) (negsuc d) (negsuc l) k a b p q = absurd (omega (arith, ints))
abs_within (negsuc u) (pos d) l k a b p q = absurd (omega (arith, ints))
abs_within (negsuc u) (negsuc d) l k a b p q = omega (arith, ints)

-- where it is no decimal, no aligned decimal is below the limit
pub units_none : (base step limit u : ℤ) (r : Option ℤ) → IsGreatest base step limit u → unsigned_abs limit ≤ 10 ^ 29 → (unsigned_abs u ≤ 10 ^ 29 → IsSome r) → IfNone r ((d : ℤ) → IsAligned d base step → unsigned_abs d ≤ 10 ^ 29 → d ≤ℤ limit → ⊥)
units_none base step limit u None g f h = λ d a s l. let e : IsSome {T = ℤ} None = h (abs_within u d limit (10 ^ 29) (g.greatest d a l) g.below s f) in cc
units_none base step limit u (Some d) g f h = tt

-- a sign goes before a product
times_neg : (q : ℤ) (s : ℕ) → neg_ℤ q *ℤ pos s ≡ neg_ℤ (q *ℤ pos s)
times_neg (pos zero) s = omega (arith, ints)
times_neg (pos (suc a)) s = omega (arith, ints)
times_neg (negsuc a) s = omega (arith, ints)

-- alignment is kept where all signs change
neg_aligned : (d base nd nb step : ℤ) → pos 1 ≤ℤ step → nb ≡ neg_ℤ base → nd ≡ neg_ℤ d → IsAligned d base step → IsAligned nd nb step
neg_aligned d base nd nb (pos s) some eb ed a = record { count = neg_ℤ a.count; is = omega (arith, ints, times_neg a.count s, a.is) }
neg_aligned d base nd nb (negsuc s) some eb ed a = absurd (omega (arith, ints))

-- and so is the magnitude
abs_neg : (d : ℤ) (k : ℕ) → unsigned_abs d ≤ k → unsigned_abs (neg_ℤ d) ≤ k
abs_neg (pos zero) k h = h
abs_neg (pos (suc a)) k h = h
abs_neg (negsuc a) k h = h

-- with all signs changed: no aligned decimal is above the limit
pub least_none : (base nb limit nl step : ℤ) → pos 1 ≤ℤ step → nb ≡ neg_ℤ base → nl ≡ neg_ℤ limit → ((d : ℤ) → IsAligned d nb step → unsigned_abs d ≤ 10 ^ 29 → d ≤ℤ nl → ⊥) → (d : ℤ) → IsAligned d base step → unsigned_abs d ≤ 10 ^ 29 → limit ≤ℤ d → ⊥
least_none base nb limit nl step some eb el none d a f l = none (neg_ℤ d) (neg_aligned d base (neg_ℤ d) nb step some eb refl a) (abs_neg d (10 ^ 29) f) (omega (arith, ints))

-- with all signs changed: the least aligned number from the limit
pub least_found : (base nb limit nl step g c : ℤ) → pos 1 ≤ℤ step → nb ≡ neg_ℤ base → nl ≡ neg_ℤ limit → c ≡ neg_ℤ g → IsGreatest nb step nl g → IsLeast base step limit c
least_found base nb limit nl step g c some eb el ec h = record {
  aligned = neg_aligned g nb c base step some (omega (arith, ints)) ec h.aligned;
  above = omega (arith, ints, h.below);
  least = λ d a l. let k = h.greatest (neg_ℤ d) (neg_aligned d base (neg_ℤ d) nb step some eb refl a) (omega (arith, ints)) in omega (arith, ints, k);
}

-- where the greatest aligned number up to n and top is below low, no candidate is up to n
pub lower_none : (n base step low top m f : ℤ) → ((d : ℤ) → d ≤ℤ n → d ≤ℤ top → d ≤ℤ m) → IsGreatest base step m f → f <ℤ low → (d : ℤ) → IsCandidate base step low (Some top) d → d ≤ℤ n → ⊥
lower_none n base step low top m f mm g b d k l =
    let e = g.greatest d k.aligned (mm d l k.high_enough) in absurd (omega (arith, ints, e, k.low_enough))

-- and else it is the greatest candidate up to n
pub lower_found : (n base step low top m f : ℤ) → m ≤ℤ n → m ≤ℤ top → ((d : ℤ) → d ≤ℤ n → d ≤ℤ top → d ≤ℤ m) → IsGreatest base step m f → low ≤ℤ f → unsigned_abs f ≤ 10 ^ 29 → IsLower n base step low top f
lower_found n base step low top m f mn mt mm g b fits = record {
  candidate = record { aligned = g.aligned; low_enough = b; high_enough = omega (arith, ints, g.below); fits = fits };
  below = omega (arith, ints, g.below);
  greatest = λ d k l. g.greatest d k.aligned (mm d l k.high_enough);
}

-- the least aligned number from n and low is the least candidate from n, where it is not above top
pub upper_found : (n base step low top m f : ℤ) → n ≤ℤ m → low ≤ℤ m → ((d : ℤ) → n ≤ℤ d → low ≤ℤ d → m ≤ℤ d) → IsLeast base step m f → f ≤ℤ top → unsigned_abs f ≤ 10 ^ 29 → IsUpper n base step low top f
upper_found n base step low top m f mn mt mm g b fits = record {
  candidate = record { aligned = g.aligned; low_enough = omega (arith, ints, g.above); high_enough = b; fits = fits };
  above = omega (arith, ints, g.above);
  least = λ d k l. g.least d k.aligned (mm d l k.low_enough);
}

-- with no candidate up to n, the least one from n is the nearest
pub only_upper : (n base step low top c : ℤ) → ((d : ℤ) → IsCandidate base step low (Some top) d → d ≤ℤ n → ⊥) → IsUpper n base step low top c → IsNearestAligned n base step low (Some top) c
only_upper n base step low top c none u = record {
  candidate = u.candidate;
  nearest = λ d k. by_lt_z n d
      (λ m. let l = u.least d k (omega (arith, ints)) in
      let a = abs_down (n -ℤ c) (omega (arith, ints, u.above)) in
      let b = abs_down (n -ℤ d) (omega (arith, ints)) in
      by_lt_z c d (λ x. inl (omega (arith, ints, a, b))) (λ x. inr (let e : d ≡ c = omega (arith, ints) in (ap (λ y. unsigned_abs (n -ℤ y)) (sym e), x))))
      (λ m. absurd (none d k m));
}

-- with no candidate from n, the greatest one up to n is the nearest
pub only_lower : (n base step low top c : ℤ) → ((d : ℤ) → IsCandidate base step low (Some top) d → n ≤ℤ d → ⊥) → IsLower n base step low top c → IsNearestAligned n base step low (Some top) c
only_lower n base step low top c none u = record {
  candidate = u.candidate;
  nearest = λ d k. by_lt_z d n
      (λ m. let l = u.greatest d k (omega (arith, ints)) in
      let a = abs_up (n -ℤ c) (omega (arith, ints, u.below)) in
      let b = abs_up (n -ℤ d) (omega (arith, ints)) in
      by_lt_z d c (λ x. inl (omega (arith, ints, a, b))) (λ x. inr (let e : d ≡ c = omega (arith, ints) in (ap (λ y. unsigned_abs (n -ℤ y)) (sym e), l))))
      (λ m. absurd (none d k m));
}

-- of the two beside n, the lower one where it is nearer
lower_nearer : (n base step low top b a : ℤ) → IsLower n base step low top b → IsUpper n base step low top a → (n -ℤ b) <ℤ (a -ℤ n) → IsNearestAligned n base step low (Some top) b
lower_nearer n base step low top b a x y h = record {
  candidate = x.candidate;
  nearest = λ d k.
      let p = abs_up (n -ℤ b) (omega (arith, ints, x.below)) in
      by_lt_z n d
      (λ m. let l = y.least d k (omega (arith, ints)) in let q = abs_down (n -ℤ d) (omega (arith, ints)) in inl (omega (arith, ints, p, q)))
      (λ m. let l = x.greatest d k m in let q = abs_up (n -ℤ d) (omega (arith, ints)) in
      by_lt_z d b (λ z. inl (omega (arith, ints, p, q))) (λ z. inr (let e : d ≡ b = omega (arith, ints) in (ap (λ v. unsigned_abs (n -ℤ v)) (sym e), l))));
}

-- and the upper one where it is not further away
upper_nearer : (n base step low top b a : ℤ) → IsLower n base step low top b → IsUpper n base step low top a → (a -ℤ n) ≤ℤ (n -ℤ b) → IsNearestAligned n base step low (Some top) a
upper_nearer n base step low top b a x y h = record {
  candidate = y.candidate;
  nearest = λ d k.
      let p = abs_down (n -ℤ a) (omega (arith, ints, y.above)) in
      by_lt_z n d
      (λ m. let l = y.least d k (omega (arith, ints)) in let q = abs_down (n -ℤ d) (omega (arith, ints)) in
      by_lt_z a d (λ z. inl (omega (arith, ints, p, q))) (λ z. inr (let e : d ≡ a = omega (arith, ints) in (ap (λ v. unsigned_abs (n -ℤ v)) (sym e), z))))
      (λ m. let l = x.greatest d k m in let q = abs_up (n -ℤ d) (omega (arith, ints)) in
      by_lt_z (a -ℤ n) (n -ℤ d) (λ z. inl (omega (arith, ints, p, q))) (λ z. inr (omega (arith, ints, p, q), omega (arith, ints, y.above))));
}

-- so the nearer one of the two is the nearest candidate
pub both : (n base step low top b a c : ℤ) → IsLower n base step low top b → IsUpper n base step low top a → IsNearer n b a c → IsNearestAligned n base step low (Some top) c
both n base step low top b a c x y h = elim h [
  | inl e ↦ subst (IsNearestAligned n base step low (Some top)) (sym e.0) (lower_nearer n base step low top b a x y e.1)
  | inr e ↦ subst (IsNearestAligned n base step low (Some top)) (sym e.0) (upper_nearer n base step low top b a x y e.1)
]

-- the upper neighbour, where there is no lower one
pub upper_some : (n base step low top : ℤ) (r : Option ℤ) → ((d : ℤ) → IsCandidate base step low (Some top) d → d ≤ℤ n → ⊥) → IfSome r (IsUpper n base step low top) → IfSome r (IsNearestAligned n base step low (Some top))
upper_some n base step low top None none h = tt
upper_some n base step low top (Some c) none h = only_upper n base step low top c none h

-- no neighbour: no candidate
pub upper_none : (n base step low top : ℤ) (r : Option ℤ) → ((d : ℤ) → IsCandidate base step low (Some top) d → d ≤ℤ n → ⊥) → IfNone r ((d : ℤ) → IsCandidate base step low (Some top) d → n ≤ℤ d → ⊥) → IfNone r ((d : ℤ) → IsCandidate base step low (Some top) d → ⊥)
upper_none n base step low top None none h = λ d k. by_lt_z n d (λ m. h d k (omega (arith, ints))) (λ m. none d k m)
upper_none n base step low top (Some c) none h = tt

-- a decimal is at most the greatest decimal
abs_top : (c : ℤ) → unsigned_abs c ≤ 10 ^ 29 → c ≤ℤ pos (10 ^ 29)
abs_top (pos a) h = omega (arith, ints)
abs_top (negsuc a) h = omega (arith, ints)

-- no number is above the greatest decimal
pub no_top : (n base step low top : ℤ) (r : Option ℤ) → top ≡ pos (10 ^ 29) → IfSome r (IsNearestAligned n base step low (Some top)) → IfSome r (IsNearestAligned n base step low None)
no_top n base step low top None e h = tt
no_top n base step low top (Some c) e h = record {
  candidate = record { aligned = h.candidate.aligned; low_enough = h.candidate.low_enough; high_enough = tt; fits = h.candidate.fits };
  nearest = λ d k. h.nearest d (record { aligned = k.aligned; low_enough = k.low_enough; high_enough = subst (λ t. d ≤ℤ t) (sym e) (abs_top d k.fits); fits = k.fits });
}
