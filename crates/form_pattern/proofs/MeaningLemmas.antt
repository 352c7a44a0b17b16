-- The tree of a light piece matches what its pattern means.
use Rattle.std.proofs.Common.{◌≡◌, ℕ, zero, suc, ◌==◌, ◌+◌, ◌*◌, ◌≤◌, nat_le, Bool, true, false, cond, ◌⊎◌, inl, inr, ⊎_elim, List, slice_get, Option, Some, None, refl, sym, ◌∙◌, subst, arith}
use Rattle.std.proofs.lemmas.Bool.{eqb-true}
use Rattle.form_pattern.specs.declared.tokens.High.{High}
use Rattle.form_pattern.specs.declared.tokens.High.TheVariants.{Times, Endless, Sign}
use Rattle.form_pattern.specs.declared.pieces.TheConstants.{HEAVIEST}
use Rattle.form_pattern.specs.declared.tokens.Chars.{Chars}
use Rattle.form_pattern.specs.declared.tokens.Token.{Token}
use Rattle.form_pattern.specs.Pattern.{Pattern, weight, repeat_weight}
use Rattle.form_pattern.specs.Membership.{chars_have}
use Rattle.form_pattern.specs.Matching.{passes, Turns, IsUpTo, Means, Matches}
use Rattle.form_pattern.specs.Likeness.{Fits, MatchAlike}
use Rattle.form_pattern.specs.Grouping.{read}
use Rattle.form_pattern.specs.Trees.{patterns}
use Rattle.form_pattern.specs.Pieces.{Tree, next_tree, Light, light, joined, next_piece, either_piece, repeated, repeated_some, repeat_piece, ahead_piece, pieces}
use Rattle.form_pattern.proofs.AgreeLemmas.{Agree, Both, AllGood, read_agree}
use Rattle.form_pattern.proofs.WeightLemmas.{Weighs, next_weighs, either_weighs, repeat_weighs, ahead_weighs}
use Rattle.form_pattern.proofs.CopyLemmas.{turns_map, holds_map, repeated_to, repeated_from}

-- each quantifier's bounds are in order
abbrev pub InOrder : Pattern → Type 0
InOrder Pattern.nothing = Unit {0}
InOrder Pattern.start = Unit {0}
InOrder Pattern.finish = Unit {0}
InOrder (Pattern.one cs) = Unit {0}
InOrder (Pattern.next a b) = InOrder a × InOrder b
InOrder (Pattern.either a b) = InOrder a × InOrder b
InOrder (Pattern.repeat low high a) = IsUpTo low high × InOrder a
InOrder (Pattern.ahead absent a) = InOrder a

-- ---- what weighs nothing matches the empty stretch alone

abbrev Still : (ℕ → ℕ → Type 0) → Type 0
Still R = (i j : ℕ) → (R i j → j ≡ i) × (j ≡ i → R i j)

turns_still : (R : ℕ → ℕ → Type 0) → Still R → (n : ℕ) → Still (Turns n R)
turns_still R still zero i j = (λ e. e, λ e. e)
turns_still R still (suc n) i j =
    (λ t. (turns_still R still n t.0 j).0 t.2 ∙ (still i t.0).0 t.1, λ e. (i, (still i i).1 refl, (turns_still R still n i j).1 e))

no_turns : (R : ℕ → ℕ → Type 0) (n : ℕ) → n ≡ 0 → Still (Turns n R)
no_turns R zero e i j = (λ t. t, λ t. t)
no_turns R (suc n) e i j = absurd (omega arith)

-- copies of what stands still
still_repeat : (R : ℕ → ℕ → Type 0) → Still R → (low : ℕ) (high : High) → IsUpTo low high → Still (λ i j. (n : ℕ) × (low ≤ n) × IsUpTo n high × Turns n R i j)
still_repeat R still low high fits i j = (λ m. (turns_still R still m.0 i j).0 m.3, λ e. (low, omega arith, fits, (turns_still R still low i j).1 e))

never_repeat : (R : ℕ → ℕ → Type 0) (low high : ℕ) → high ≡ 0 → low ≤ high → Still (λ i j. (n : ℕ) × (low ≤ n) × (n ≤ high) × Turns n R i j)
never_repeat R low high z fits i j = (λ m. (no_turns R m.0 (omega (arith, m.2)) i j).0 m.3, λ e. (zero, omega arith, omega arith, e))

product_none : (n w : ℕ) → n * w ≡ 0 → (n ≡ 0) ⊎ (w ≡ 0)
product_none zero w e = inl refl
product_none (suc n) w e = inr (grind arith)

weightless : (s : List ℕ) (p : Pattern) → InOrder p → weight p ≡ 0 → Still (Means s p)
weightless s Pattern.nothing o e i j = (λ m. m, λ m. m)
weightless s Pattern.start o e i j = absurd (omega arith)
weightless s Pattern.finish o e i j = absurd (omega arith)
weightless s (Pattern.one cs) o e i j = absurd (omega arith)
weightless s (Pattern.next a b) o e i j =
    let one = weightless s a o.0 (omega arith) in
    let two = weightless s b o.1 (omega arith) in
    (λ m. (two m.0 j).0 m.2 ∙ (one i m.0).0 m.1, λ same. (i, (one i i).1 refl, (two i j).1 same))
weightless s (Pattern.either a b) o e i j = absurd (omega arith)
weightless s (Pattern.repeat low Endless a) o e i j = absurd (omega arith)
weightless s (Pattern.repeat low Sign a) o e i j = absurd (omega arith)
weightless s (Pattern.repeat low (Times high) a) o e i j = go (product_none high (weight a) (omega arith)) (λ w. weightless s a o.1 w)
  where
    go : (high ≡ 0) ⊎ (weight a ≡ 0) → (weight a ≡ 0 → Still (Means s a)) → (((n : ℕ) × (low ≤ n) × (n ≤ high) × Turns n (Means s a) i j) → j ≡ i) × (j ≡ i → (n : ℕ) × (low ≤ n) × (n ≤ high) × Turns n (Means s a) i j)
    go (inl z) deeper = never_repeat (Means s a) low high z o.0 i j
    go (inr w) deeper = still_repeat (Means s a) (deeper w) low (Times high) o.0 i j
weightless s (Pattern.ahead absent a) o e i j = absurd (omega arith)

-- ---- trees and patterns that match alike

module _ (has : ℕ → ℕ → Bool) where
  abbrev pub Alike : Light → Pattern → Type 0
  Alike None p = Unit {0}
  Alike (Some a) p = MatchAlike has a.1 p

  -- a piece stands for a pattern
  pub record StandsFor (a : Light) (p : Pattern) : Type 0 where
    pub weighs : Weighs a p
    pub ordered : InOrder p
    pub alike : Alike a p

  alike_light : (w : ℕ) (t : Tree) (p : Pattern) → MatchAlike has t p → Alike (light w t) p
  alike_light w t p h = go (nat_le w HEAVIEST)
    where
      go : (b : Bool) → Alike (cond b (Some (w, t)) None) p
      go true = h
      go false = tt

  one_alike : (left : ℕ) (cs : Chars) → Fits has left cs → MatchAlike has (Tree.one left) (Pattern.one cs)
  one_alike left cs fits s known i j = let e = same (slice_get s i) (known i) in (λ m. (m.0, sym e ∙ m.1), λ m. (m.0, e ∙ m.1))
    where
      same : (o : Option ℕ) → ((c : ℕ) → o ≡ Some c → c ≤ 0x10_FFFF) → passes (has left) o ≡ passes (chars_have cs) o
      same None k = refl
      same (Some c) k = fits c (k c refl)

  next_alike : (t u : Tree) (p q : Pattern) → MatchAlike has t p → MatchAlike has u q → MatchAlike has (next_tree t u) (Pattern.next p q)
  next_alike t u p q f g s known i j =
      (λ m. (m.0, (f s known i m.0).0 m.1, (g s known m.0 j).0 m.2), λ m. (m.0, (f s known i m.0).1 m.1, (g s known m.0 j).1 m.2))

  -- nothing behind, or nothing before
  first_alone : (t : Tree) (p q : Pattern) → MatchAlike has t p → ((s : List ℕ) → Still (Means s q)) → MatchAlike has t (Pattern.next p q)
  first_alone t p q f still s known i j =
      (λ m. (j, (f s known i j).0 m, (still s j j).1 refl), λ m. (f s known i j).1 (subst (λ k. Means s p i k) (sym ((still s m.0 j).0 m.2)) m.1))

  last_alone : (u : Tree) (p q : Pattern) → ((s : List ℕ) → Still (Means s p)) → MatchAlike has u q → MatchAlike has u (Pattern.next p q)
  last_alone u p q still g s known i j =
      (λ m. (i, (still s i i).1 refl, (g s known i j).0 m), λ m. (g s known i j).1 (subst (λ k. Means s q k j) ((still s i m.0).0 m.1) m.2))

  joined_alike : (a b : ℕ × Tree) (p q : Pattern) → a.0 ≡ weight p → b.0 ≡ weight q → InOrder p → InOrder q → MatchAlike has a.1 p → MatchAlike has b.1 q → MatchAlike has (joined a b) (Pattern.next p q)
  joined_alike a b p q v w o r f g = go (b.0 == 0) refl (a.0 == 0) refl
    where
      go : (y : Bool) → (b.0 == 0) ≡ y → (x : Bool) → (a.0 == 0) ≡ x → MatchAlike has (cond y a.1 (cond x b.1 (next_tree a.1 b.1))) (Pattern.next p q)
      go true e x d = first_alone a.1 p q f (λ s. weightless s q r (sym w ∙ eqb-true b.0 0 e))
      go false e true d = last_alone b.1 p q (λ s. weightless s p o (sym v ∙ eqb-true a.0 0 d)) g
      go false e false d = next_alike a.1 b.1 p q f g

  next_stands : (a b : Light) (p q : Pattern) → StandsFor a p → StandsFor b q → StandsFor (next_piece a b) (Pattern.next p q)
  unfolding next_piece
  next_stands (Some a) (Some b) p q x y = record {
    weighs = next_weighs (Some a) (Some b) p q x.weighs y.weighs;
    ordered = (x.ordered, y.ordered);
    alike = alike_light (a.0 + b.0) (joined a b) (Pattern.next p q) (joined_alike a b p q x.weighs.0 y.weighs.0 x.ordered y.ordered x.alike y.alike);
  }
  next_stands (Some a) None p q x y = record { weighs = next_weighs (Some a) None p q x.weighs y.weighs; ordered = (x.ordered, y.ordered); alike = tt }
  next_stands None (Some b) p q x y = record { weighs = next_weighs None (Some b) p q x.weighs y.weighs; ordered = (x.ordered, y.ordered); alike = tt }
  next_stands None None p q x y = record { weighs = next_weighs None None p q x.weighs y.weighs; ordered = (x.ordered, y.ordered); alike = tt }

  either_alike : (t u : Tree) (p q : Pattern) → MatchAlike has t p → MatchAlike has u q → MatchAlike has (Tree.either t u) (Pattern.either p q)
  either_alike t u p q f g s known i j =
      let one = f s known i j in
      let two = g s known i j in
      (⊎_elim (λ h. inl (one.0 h)) (λ h. inr (two.0 h)), ⊎_elim (λ h. inl (one.1 h)) (λ h. inr (two.1 h)))

  either_stands : (a b : Light) (p q : Pattern) → StandsFor a p → StandsFor b q → StandsFor (either_piece a b) (Pattern.either p q)
  unfolding either_piece
  either_stands (Some a) (Some b) p q x y = record {
    weighs = either_weighs (Some a) (Some b) p q x.weighs y.weighs;
    ordered = (x.ordered, y.ordered);
    alike = alike_light (a.0 + b.0 + 1) (Tree.either a.1 b.1) (Pattern.either p q) (either_alike a.1 b.1 p q x.alike y.alike);
  }
  either_stands (Some a) None p q x y = record { weighs = either_weighs (Some a) None p q x.weighs y.weighs; ordered = (x.ordered, y.ordered); alike = tt }
  either_stands None (Some b) p q x y = record { weighs = either_weighs None (Some b) p q x.weighs y.weighs; ordered = (x.ordered, y.ordered); alike = tt }
  either_stands None None p q x y = record { weighs = either_weighs None None p q x.weighs y.weighs; ordered = (x.ordered, y.ordered); alike = tt }

  ahead_alike : (absent : Bool) (t : Tree) (p : Pattern) → MatchAlike has t p → MatchAlike has (Tree.ahead absent t) (Pattern.ahead absent p)
  ahead_alike absent t p f s known i j =
      let to : ((k : ℕ) × Matches has s t i k) → (k : ℕ) × Means s p i k = λ h. (h.0, (f s known i h.0).0 h.1) in
      let from : ((k : ℕ) × Means s p i k) → (k : ℕ) × Matches has s t i k = λ h. (h.0, (f s known i h.0).1 h.1) in
      (λ m. (m.0, holds_map absent _ _ to from m.1), λ m. (m.0, holds_map absent _ _ from to m.1))

  ahead_stands : (absent : Bool) (a : Light) (p : Pattern) → StandsFor a p → StandsFor (ahead_piece absent a) (Pattern.ahead absent p)
  unfolding ahead_piece
  ahead_stands absent None p x = record { weighs = ahead_weighs absent None p x.weighs; ordered = x.ordered; alike = tt }
  ahead_stands absent (Some a) p x = record { weighs = ahead_weighs absent (Some a) p x.weighs; ordered = x.ordered; alike = alike_light (a.0 + 1) (Tree.ahead absent a.1) (Pattern.ahead absent p) (ahead_alike absent a.1 p x.alike) }

  copies_alike : (low : ℕ) (high : High) (t : Tree) (p : Pattern) → IsUpTo low high → MatchAlike has t p → MatchAlike has (repeated low high t) (Pattern.repeat low high p)
  copies_alike low high t p fits f s known i j = (
    λ m. let h = repeated_to has s t low high i j fits m in (h.0, h.1, h.2, turns_map (Matches has s t) (Means s p) (λ i j. (f s known i j).0) h.0 i j h.3),
    λ m. repeated_from has s t low high m.0 i j m.1 m.2 (turns_map (Means s p) (Matches has s t) (λ i j. (f s known i j).1) m.0 i j m.3),
  )

  still_alike : (p : Pattern) → ((s : List ℕ) → Still (Means s p)) → MatchAlike has Tree.nothing p
  still_alike p still s known i j = ((still s i j).1, (still s i j).0)

  light_repeat : (low : ℕ) (high : High) (a : ℕ × Tree) (p : Pattern) → IsUpTo low high → a.0 ≡ weight p → InOrder p → MatchAlike has a.1 p → MatchAlike has (cond (a.0 == 0) Tree.nothing (repeated low high a.1)) (Pattern.repeat low high p)
  light_repeat low high a p fits w o f = go (a.0 == 0) refl
    where
      go : (b : Bool) → (a.0 == 0) ≡ b → MatchAlike has (cond b Tree.nothing (repeated low high a.1)) (Pattern.repeat low high p)
      go true e = still_alike (Pattern.repeat low high p) (λ s. still_repeat (Means s p) (weightless s p o (sym w ∙ eqb-true a.0 0 e)) low high fits)
      go false e = copies_alike low high a.1 p fits f

  some_repeat : (low : ℕ) (high : High) (a : Light) (p : Pattern) → IsUpTo low high → StandsFor a p → Alike (repeated_some low high a) (Pattern.repeat low high p)
  some_repeat low high None p fits x = tt
  some_repeat low high (Some a) p fits x =
      alike_light (repeat_weight low high a.0) (cond (a.0 == 0) Tree.nothing (repeated low high a.1)) (Pattern.repeat low high p) (light_repeat low high a p fits x.weighs.0 x.ordered x.alike)

  repeat_alike : (low : ℕ) (high : High) (a : Light) (p : Pattern) → IsUpTo low high → StandsFor a p → Alike (repeat_piece low high a) (Pattern.repeat low high p)
  unfolding repeat_piece
  repeat_alike low Endless a p fits x = some_repeat low Endless a p fits x
  repeat_alike low Sign a p fits x = some_repeat low Sign a p fits x
  repeat_alike low (Times high) a p fits x = go (high == 0) refl
    where
      go : (b : Bool) → (high == 0) ≡ b → Alike (cond b (Some (0, Tree.nothing)) (repeated_some low (Times high) a)) (Pattern.repeat low (Times high) p)
      go true e = still_alike (Pattern.repeat low (Times high) p) (λ s. never_repeat (Means s p) low high (eqb-true high 0 e) fits)
      go false e = some_repeat low (Times high) a p fits x

  pieces_stand : Agree StandsFor (Fits has) IsUpTo pieces patterns
  pieces_stand = record {
    nothing = record { weighs = (refl, omega arith); ordered = tt; alike = λ s known i j. (λ m. m, λ m. m) };
    start = record { weighs = (refl, omega arith); ordered = tt; alike = λ s known i j. (λ m. m, λ m. m) };
    finish = record { weighs = (refl, omega arith); ordered = tt; alike = λ s known i j. (λ m. m, λ m. m) };
    one = λ left cs fits. record { weighs = (refl, omega arith); ordered = tt; alike = one_alike left cs fits };
    next = next_stands;
    either = either_stands;
    repeat = λ low high a p fits x. record { weighs = repeat_weighs low high a p x.weighs; ordered = (fits, x.ordered); alike = repeat_alike low high a p fits x };
    ahead = ahead_stands;
  }

  -- the piece that is read stands for the pattern that is read
  pub read_stands : (ts : List Token) → AllGood (Fits has) IsUpTo ts → Both StandsFor (read pieces ts) (read patterns ts)
  read_stands ts good = read_agree StandsFor (Fits has) IsUpTo pieces patterns pieces_stand ts good
