-- The nearest candidate that is found by trying all numbers.
use Rattle.std.proofs.Common.{◌≡◌, ℕ, zero, suc, ◌+◌, ◌-◌, ◌*◌, ◌^◌, ◌<◌, ◌≤◌, Bool, true, false, ◌&&◌, not, cond, Option, Some, None, IfSome, IfNone, IsTrue, refl, ap, sym, subst, arith, inl, inr, ◌⊎◌, ℤ, pos, negsuc, ◌-ℤ◌, ◌≤ℤ◌, ◌<ℤ◌, int_lt, unsigned_abs}
use Rattle.std.specs.Prelude.{nat_le}
use Rattle.std.specs.Int.{int_rem_euclid}
use Rattle.std.proofs.lemmas.Bool.{eqb-true, and_parts, cases_lt}
use Rattle.std.proofs.lemmas.Bool.Decides.{nat_tests}
use Rattle.std.proofs.lemmas.Int.{ints}
use Rattle.form_decimal.specs.Alignment.{IsAligned, IsCandidate, IsNearestAligned, distance}
use Rattle.form_decimal.specs.Nearest.{is_aligned, is_up_to, is_candidate, nth, nearer_of, nearest_among, nearest_of}
use Rattle.form_decimal.proofs.AlignedLemmas.{aligned_from_rem, rem_from_aligned}

-- the test of at most, where it holds
pub le_true : (a b : ℕ) → nat_le a b ≡ true → a ≤ b
le_true a b h = grind (arith, nat_tests)

-- where it does not
pub le_false : (a b : ℕ) → nat_le a b ≡ false → b < a
le_false a b h = grind (arith, nat_tests)

-- and back
pub true_le : (a b : ℕ) → a ≤ b → nat_le a b ≡ true
true_le a b h = grind (arith, nat_tests)

-- not below: at least
pub not_lt : (a b : ℤ) → not (int_lt a b) ≡ true → b ≤ℤ a
not_lt a b h = grind (arith, ints)

-- at least: not below
pub lt_not : (a b : ℤ) → b ≤ℤ a → not (int_lt a b) ≡ true
lt_not a b h = grind (arith, ints)

-- a magnitude of 0 is 0
abs_zero : (z : ℤ) → unsigned_abs z ≡ 0 → z ≡ pos 0
abs_zero (pos a) h = ap pos h
abs_zero (negsuc a) h = absurd (omega (arith, ints))

-- the test of alignment gives alignment
pub aligned_found : (n base step : ℤ) → pos 1 ≤ℤ step → is_aligned n base step ≡ true → IsAligned n base step
unfolding is_aligned
aligned_found n base (pos s) some h = aligned_from_rem n base s (omega (arith, ints)) (abs_zero (int_rem_euclid (n -ℤ base) (pos s)) (eqb-true (unsigned_abs (int_rem_euclid (n -ℤ base) (pos s))) 0 h))
aligned_found n base (negsuc s) some h = absurd (omega (arith, ints))

-- and alignment passes the test
pub aligned_again : (n base step : ℤ) → pos 1 ≤ℤ step → IsAligned n base step → is_aligned n base step ≡ true
unfolding is_aligned
aligned_again n base (pos s) some h = rw (rem_from_aligned n base s (omega (arith, ints)) h) refl
aligned_again n base (negsuc s) some h = absurd (omega (arith, ints))

-- two tests that hold together are one
same_bool : (a b : Bool) → (a ≡ true → b ≡ true) → (b ≡ true → a ≡ true) → a ≡ b
same_bool true b f g = sym (f refl)
same_bool false true f g = g refl
same_bool false false f g = refl

-- an answer that decides alignment is the test
pub aligned_decided : (r : Bool) (n base step : ℤ) → pos 1 ≤ℤ step → (IsTrue r → IsAligned n base step) × (IsAligned n base step → IsTrue r) → r ≡ is_aligned n base step
aligned_decided r n base step some h = same_bool r (is_aligned n base step) (λ e. aligned_again n base step some (h.0 e)) (λ e. h.1 (aligned_found n base step some e))

-- the test of the upper bound gives the bound
up_to_true : (high : Option ℤ) (c : ℤ) → is_up_to high c ≡ true → IfSome high (λ h. c ≤ℤ h)
up_to_true None c e = tt
up_to_true (Some h) c e = not_lt h c e

-- and back
true_up_to : (high : Option ℤ) (c : ℤ) → IfSome high (λ h. c ≤ℤ h) → is_up_to high c ≡ true
true_up_to None c e = refl
true_up_to (Some h) c e = lt_not h c e

-- what the tests of a candidate say
pub record Tests (base step low : ℤ) (high : Option ℤ) (c : ℤ) : Type 0 where
  pub aligned : is_aligned c base step ≡ true
  pub low_enough : low ≤ℤ c
  pub high_enough : IfSome high (λ h. c ≤ℤ h)
  pub fits : unsigned_abs c ≤ 10 ^ 29

-- a number that passes them
pub tests_of : (base step low : ℤ) (high : Option ℤ) (c : ℤ) → is_candidate base step low high c ≡ true → Tests base step low high c
tests_of base step low high c h =
    let a = and_parts (is_aligned c base step) (not (int_lt c low) && (is_up_to high c && nat_le (unsigned_abs c) (10 ^ 29))) h in
    let b = and_parts (not (int_lt c low)) (is_up_to high c && nat_le (unsigned_abs c) (10 ^ 29)) a.1 in
    let d = and_parts (is_up_to high c) (nat_le (unsigned_abs c) (10 ^ 29)) b.1 in
    record { aligned = a.0; low_enough = not_lt c low b.0; high_enough = up_to_true high c d.0; fits = le_true _ _ d.1 }

-- with a step of at least 1 it is a candidate
candidate_true : (base step low : ℤ) (high : Option ℤ) (c : ℤ) → pos 1 ≤ℤ step → is_candidate base step low high c ≡ true → IsCandidate base step low high c
candidate_true base step low high c some h =
    let t = tests_of base step low high c h in
    record { aligned = aligned_found c base step some t.aligned; low_enough = t.low_enough; high_enough = t.high_enough; fits = t.fits }

-- and a candidate passes them
true_candidate : (base step low : ℤ) (high : Option ℤ) (c : ℤ) → pos 1 ≤ℤ step → IsCandidate base step low high c → is_candidate base step low high c ≡ true
true_candidate base step low high c some k = rw (aligned_again c base step some k.aligned, lt_not c low k.low_enough, true_up_to high c k.high_enough, true_le _ _ k.fits) refl

-- ---- the best of the first k

-- the best of the first k that pass the test
record Best (n : ℤ) (test : ℤ → Bool) (k : ℕ) (c : ℤ) : Type 0 where
  is : test c ≡ true
  first : c <ℤ nth k
  best : (j : ℕ) → j < k → test (nth j) ≡ true → (distance n c < distance n (nth j)) ⊎ ((distance n c ≡ distance n (nth j)) × (nth j ≤ℤ c))

-- an answer over the first k: the best one, or none passes
record Among (n : ℤ) (test : ℤ → Bool) (k : ℕ) (r : Option ℤ) : Type 0 where
  some : IfSome r (Best n test k)
  none : IfNone r ((j : ℕ) → j < k → test (nth j) ≡ true → ⊥)

-- the first k and one more
last_or_less : (j k : ℕ) → j < suc k → (j < k) ⊎ (j ≡ k)
last_or_less j k h = elim (cases_lt j k) [ inl l ↦ inl l | inr l ↦ inr (omega arith) ]

-- one more that does not pass changes nothing
skip : (n : ℤ) (test : ℤ → Bool) (k : ℕ) (r : Option ℤ) → test (nth k) ≡ false → Among n test k r → Among n test (suc k) r
skip n test k None e a = record {
  some = tt;
  none = λ j l t. elim (last_or_less j k l) [ inl m ↦ a.none j m t | inr m ↦ let bad : test (nth k) ≡ true = subst (λ x. test (nth x) ≡ true) m t in cc ];
}
skip n test k (Some c) e a = record {
  some = record {
    is = a.some.is;
    first = omega (arith, ints, a.some.first);
    best = λ j l t. elim (last_or_less j k l) [ inl m ↦ a.some.best j m t | inr m ↦ absurd (let bad : test (nth k) ≡ true = subst (λ x. test (nth x) ≡ true) m t in cc) ];
  };
  none = tt;
}

-- the numbers are counted upwards
step_up : (a b : ℕ) → a < b → nth a ≤ℤ nth b
step_up a b h = omega (arith, ints)

-- of the best one and one more that passes, the nearer, and the new one at a tie
over_best : (n b : ℤ) (test : ℤ → Bool) (k : ℕ) (x : Bool) → nat_le (distance n (nth k)) (distance n b) ≡ x → test (nth k) ≡ true → Best n test k b → Best n test (suc k) (cond x (nth k) b)
over_best n b test k true e t h =
    let closer = le_true (distance n (nth k)) (distance n b) e in
    record {
      is = t;
      first = omega (arith, ints);
      best = λ j l u. elim (last_or_less j k l) [
        | inl m ↦ elim (h.best j m u) [
          | inl p ↦ inl (omega (arith, closer, p))
          | inr p ↦ elim (cases_lt (distance n (nth k)) (distance n (nth j))) [ inl q ↦ inl q | inr q ↦ inr (omega (arith, closer, p.0, q), step_up j k m) ]
        ]
        | inr m ↦ inr (ap (λ x. distance n (nth x)) (sym m), omega (arith, ints))
      ];
    }
over_best n b test k false e t h =
    let further = le_false (distance n (nth k)) (distance n b) e in
    record {
      is = h.is;
      first = omega (arith, ints, h.first);
      best = λ j l u. elim (last_or_less j k l) [
        | inl m ↦ h.best j m u
        | inr m ↦ inl (subst (λ x. distance n b < distance n (nth x)) (sym m) further)
      ];
    }

-- one more that passes
take_it : (n : ℤ) (test : ℤ → Bool) (k : ℕ) (r : Option ℤ) → test (nth k) ≡ true → Among n test k r → Among n test (suc k) (Some (nearer_of n r (nth k)))
take_it n test k None t a = record {
  some = record {
    is = t;
    first = omega (arith, ints);
    best = λ j l u. elim (last_or_less j k l) [ inl m ↦ absurd (a.none j m u) | inr m ↦ inr (ap (λ x. distance n (nth x)) (sym m), omega (arith, ints)) ];
  };
  none = tt;
}
take_it n test k (Some b) t a = record { some = over_best n b test k (nat_le (distance n (nth k)) (distance n b)) refl t a.some; none = tt }

-- so the search finds the best of the first k
among : (n : ℤ) (test : ℤ → Bool) (k : ℕ) → Among n test k (nearest_among n test k)
unfolding nearest_among
among n test zero = record { some = tt; none = λ j l t. absurd (omega arith) }
among n test (suc k) = go (test (nth k)) refl (among n test k)
  where
    go : (b : Bool) → test (nth k) ≡ b → Among n test k (nearest_among n test k) → Among n test (suc k) (cond b (Some (nearer_of n (nearest_among n test k) (nth k))) (nearest_among n test k))
    go true e h = take_it n test k (nearest_among n test k) e h
    go false e h = skip n test k (nearest_among n test k) e h

-- each decimal has its place in the search
place : (d : ℤ) → unsigned_abs d ≤ 10 ^ 29 → (j : ℕ) × (j < 2 * 10 ^ 29 + 1) × (nth j ≡ d)
place (pos a) h = (a + 10 ^ 29, omega arith, omega (arith, ints))
place (negsuc a) h = (10 ^ 29 - (a + 1), omega (arith, ints), omega (arith, ints))

-- an answer that is the nearest candidate, or none where there is none
abbrev pub IsDecided : ℤ → ℤ → ℤ → ℤ → Option ℤ → Option ℤ → Type 0
IsDecided n base step low high r = IfSome r (IsNearestAligned n base step low high) × IfNone r ((d : ℤ) → IsCandidate base step low high d → ⊥)

-- the search through all decimals is decided
decided : (n base step low : ℤ) (high r : Option ℤ) → pos 1 ≤ℤ step → Among n (is_candidate base step low high) (2 * 10 ^ 29 + 1) r → IsDecided n base step low high r
decided n base step low high None some a = (tt, λ d k. let p = place d k.fits in a.none p.0 p.1 (subst (λ x. is_candidate base step low high x ≡ true) (sym p.2) (true_candidate base step low high d some k)))
decided n base step low high (Some c) some a = (
  record {
    candidate = candidate_true base step low high c some a.some.is;
    nearest = λ d k. let p = place d k.fits in
        subst (λ x. (distance n c < distance n x) ⊎ ((distance n c ≡ distance n x) × (x ≤ℤ c))) p.2 (a.some.best p.0 p.1 (subst (λ x. is_candidate base step low high x ≡ true) (sym p.2) (true_candidate base step low high d some k)));
  },
  tt,
)

-- the function gives the nearest candidate, and nothing exactly where there is none
pub nearest_is : (n base step low : ℤ) (high : Option ℤ) → pos 1 ≤ℤ step → IsDecided n base step low high (nearest_of n base step low high)
unfolding nearest_of
nearest_is n base step low high some = decided n base step low high _ some (among n (is_candidate base step low high) (2 * 10 ^ 29 + 1))

-- two nearest candidates are one
nearest_once : (n base step low : ℤ) (high : Option ℤ) (c d : ℤ) → IsNearestAligned n base step low high c → IsNearestAligned n base step low high d → c ≡ d
nearest_once n base step low high c d h k = elim (h.nearest d k.candidate) [
  | inl a ↦ elim (k.nearest c h.candidate) [ inl b ↦ absurd (omega arith) | inr b ↦ absurd (omega arith) ]
  | inr a ↦ elim (k.nearest c h.candidate) [ inl b ↦ absurd (omega arith) | inr b ↦ omega (arith, ints, a.1, b.1) ]
]

-- two decided answers are one
pub nearest_same : (n base step low : ℤ) (high r s : Option ℤ) → IsDecided n base step low high r → IsDecided n base step low high s → r ≡ s
nearest_same n base step low high None None a b = refl
nearest_same n base step low high (Some c) None a b = absurd (b.1 c a.0.candidate)
nearest_same n base step low high None (Some d) a b = absurd (a.1 d b.0.candidate)
nearest_same n base step low high (Some c) (Some d) a b = ap Some (nearest_once n base step low high c d a.0 b.0)

-- what is found passes the tests, whatever the step is
pub nearest_tested : (n base step low : ℤ) (high : Option ℤ) (c : ℤ) → nearest_of n base step low high ≡ Some c → Tests base step low high c
unfolding nearest_of
nearest_tested n base step low high c h =
    let a = subst (Among n (is_candidate base step low high) (2 * 10 ^ 29 + 1)) h (among n (is_candidate base step low high) (2 * 10 ^ 29 + 1)) in
    tests_of base step low high c a.some.is
