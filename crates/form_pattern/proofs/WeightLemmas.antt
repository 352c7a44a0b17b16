-- The reader makes a piece of each pattern; it is light exactly where the pattern is.
use Rattle.std.proofs.Common.{◌≡◌, ℕ, zero, suc, ◌==◌, ◌+◌, ◌-◌, ◌*◌, ◌<◌, ◌≤◌, nat_le, Bool, true, false, cond, List, [], ◌∷◌, length, Some, None, refl, ap, arith, true≢false, zero-mul, suc-mul}
use Rattle.std.proofs.lemmas.Bool.{leb-true, leb-false, eqb-true}
use Rattle.form_pattern.specs.declared.tokens.High.{High}
use Rattle.form_pattern.specs.declared.tokens.High.TheVariants.{Times, Endless, Sign}
use Rattle.form_pattern.specs.declared.pieces.TheConstants.{HEAVIEST}
use Rattle.form_pattern.specs.declared.tokens.Token.{Token}
use Rattle.form_pattern.specs.declared.tokens.Token.TheVariants.{Start, Finish, Bar, Open, Ahead, Close, Quantifier}
use Rattle.form_pattern.specs.declared.tokens.Token.TheVariants as token
use Rattle.form_pattern.specs.Pattern.{Pattern, weight, repeat_weight}
use Rattle.form_pattern.specs.Grouping.{read}
use Rattle.form_pattern.specs.Trees.{patterns}
use Rattle.form_pattern.specs.Pieces.{Tree, Light, light, joined, next_piece, either_piece, repeated_some, repeat_piece, ahead_piece, pieces}
use Rattle.form_pattern.proofs.AgreeLemmas.{Agree, Both, Good, AllGood, read_agree}

-- ---- the weights

-- a piece has the weight of its pattern, or that is above 2,000
abbrev pub Weighs : Light → Pattern → Type 0
Weighs None p = HEAVIEST < weight p
Weighs (Some a) p = (a.0 ≡ weight p) × (weight p ≤ HEAVIEST)

light_weighs : (w : ℕ) (t : Tree) (p : Pattern) → w ≡ weight p → Weighs (light w t) p
light_weighs w t p e = go (nat_le w HEAVIEST) refl
  where
    go : (b : Bool) → nat_le w HEAVIEST ≡ b → Weighs (cond b (Some (w, t)) None) p
    go true h = (e, omega (arith, leb-true _ _ h, e))
    go false h = omega (arith, leb-false _ _ h, e)

pub next_weighs : (a b : Light) (p q : Pattern) → Weighs a p → Weighs b q → Weighs (next_piece a b) (Pattern.next p q)
unfolding next_piece
next_weighs (Some a) (Some b) p q v w = light_weighs (a.0 + b.0) (joined a b) (Pattern.next p q) (omega (arith, v.0, w.0))
next_weighs (Some a) None p q v w = omega (arith, v.0)
next_weighs None (Some b) p q v w = omega (arith, w.0)
next_weighs None None p q v w = omega arith

pub either_weighs : (a b : Light) (p q : Pattern) → Weighs a p → Weighs b q → Weighs (either_piece a b) (Pattern.either p q)
unfolding either_piece
either_weighs (Some a) (Some b) p q v w = light_weighs (a.0 + b.0 + 1) (Tree.either a.1 b.1) (Pattern.either p q) (omega (arith, v.0, w.0))
either_weighs (Some a) None p q v w = omega (arith, v.0)
either_weighs None (Some b) p q v w = omega (arith, w.0)
either_weighs None None p q v w = omega arith

pub ahead_weighs : (absent : Bool) (a : Light) (p : Pattern) → Weighs a p → Weighs (ahead_piece absent a) (Pattern.ahead absent p)
unfolding ahead_piece
ahead_weighs absent None p w = omega arith
ahead_weighs absent (Some a) p w = light_weighs (a.0 + 1) (Tree.ahead absent a.1) (Pattern.ahead absent p) (omega (arith, w.0))

never_weighs : (low high : ℕ) (w : ℕ) → (high == 0) ≡ true → 0 ≡ high * w + (high - low)
never_weighs low high w e = let none : high ≡ 0 = eqb-true high 0 e in rw none (omega (arith, zero-mul w))

much : (low high w : ℕ) → (high == 0) ≡ false → HEAVIEST < w → HEAVIEST < high * w + (high - low)
much low zero w e h = absurd (true≢false e)
much low (suc n) w e h = omega (arith, suc-mul n w)

pub repeat_weighs : (low : ℕ) (high : High) (a : Light) (p : Pattern) → Weighs a p → Weighs (repeat_piece low high a) (Pattern.repeat low high p)
unfolding repeat_piece
repeat_weighs low Endless None p w = omega arith
repeat_weighs low Endless (Some a) p w = light_weighs (repeat_weight low Endless a.0) _ (Pattern.repeat low Endless p) (ap (repeat_weight low Endless) w.0)
repeat_weighs low Sign None p w = omega arith
repeat_weighs low Sign (Some a) p w = light_weighs (repeat_weight low Sign a.0) _ (Pattern.repeat low Sign p) (ap (repeat_weight low Sign) w.0)
repeat_weighs low (Times high) a p w = go (high == 0) refl a w
  where
    go : (b : Bool) → (high == 0) ≡ b → (c : Light) → Weighs c p → Weighs (cond b (Some (0, Tree.nothing)) (repeated_some low (Times high) c)) (Pattern.repeat low (Times high) p)
    go true e c v = (never_weighs low high (weight p) e, omega (arith, never_weighs low high (weight p) e))
    go false e None v = much low high (weight p) e v
    go false e (Some c) v = light_weighs (repeat_weight low (Times high) c.0) _ (Pattern.repeat low (Times high) p) (ap (repeat_weight low (Times high)) v.0)

pieces_weigh : Agree Weighs (λ left cs. Unit {0}) (λ low high. Unit {0}) pieces patterns
pieces_weigh = record {
  nothing = (refl, omega arith);
  start = (refl, omega arith);
  finish = (refl, omega arith);
  one = λ left cs k. (refl, omega arith);
  next = next_weighs;
  either = either_weighs;
  repeat = λ low high a p k w. repeat_weighs low high a p w;
  ahead = ahead_weighs;
}

-- the piece that is read has the weight of the pattern that is read
pub read_weighs : (ts : List Token) → Both Weighs (read pieces ts) (read patterns ts)
read_weighs ts = read_agree Weighs (λ left cs. Unit {0}) (λ low high. Unit {0}) pieces patterns pieces_weigh ts (no_premise ts)
  where
    of_token : (left : ℕ) (t : Token) → Good (λ left cs. Unit {0}) (λ low high. Unit {0}) left t
    of_token left (token.Chars cs) = tt
    of_token left (Quantifier low high) = tt
    of_token left Start = tt
    of_token left Finish = tt
    of_token left Bar = tt
    of_token left Open = tt
    of_token left (Ahead absent) = tt
    of_token left Close = tt

    no_premise : (ts : List Token) → AllGood (λ left cs. Unit {0}) (λ low high. Unit {0}) ts
    no_premise [] = tt
    no_premise (t ∷ ts) = (of_token (length ts) t, no_premise ts)
