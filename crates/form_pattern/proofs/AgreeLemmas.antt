-- Two readers of groups agree where they agree part for part.
use Rattle.std.proofs.Common.{◌≡◌, ℕ, nat_lt, Bool, true, false, cond, List, [], ◌∷◌, length, Option, Some, None, refl, sym, subst, arith}
use Rattle.std.proofs.lemmas.Option.{none-some, same_Some}
use Rattle.form_pattern.specs.declared.tokens.High.{High}
use Rattle.form_pattern.specs.declared.groups.TheConstants.{DEEPEST}
use Rattle.form_pattern.specs.declared.tokens.Chars.{Chars}
use Rattle.form_pattern.specs.declared.tokens.Token.{Token}
use Rattle.form_pattern.specs.declared.tokens.Token.TheVariants.{Start, Finish, Bar, Open, Ahead, Close, Quantifier}
use Rattle.form_pattern.specs.declared.tokens.Token.TheVariants as token
use Rattle.form_pattern.specs.Grouping.{Makes, Level, fresh, with_last, after_bar, terms, whole, with_atom, with_term, quantified, inside, closed, opened, on_top, turn, run, read}

-- ---- two readers that agree part for part

pub record Agree {A B : Type 0} (R : A → B → Type 0) (F : ℕ → Chars → Type 0) (Q : ℕ → High → Type 0) (m : Makes A) (n : Makes B) : Type 0 where
  pub nothing : R m.nothing n.nothing
  pub start : R m.start n.start
  pub finish : R m.finish n.finish
  pub one : (left : ℕ) (cs : Chars) → F left cs → R (m.one left cs) (n.one left cs)
  pub next : (a b : A) (x y : B) → R a x → R b y → R (m.next a b) (n.next x y)
  pub either : (a b : A) (x y : B) → R a x → R b y → R (m.either a b) (n.either x y)
  pub repeat : (low : ℕ) (high : High) (a : A) (x : B) → Q low high → R a x → R (m.repeat low high a) (n.repeat low high x)
  pub ahead : (absent : Bool) (a : A) (x : B) → R a x → R (m.ahead absent a) (n.ahead absent x)

-- what is known of a token behind which so many are left
abbrev pub Good : (ℕ → Chars → Type 0) → (ℕ → High → Type 0) → ℕ → Token → Type 0
Good F Q left (token.Chars cs) = F left cs
Good F Q left (Quantifier low high) = Q low high
Good F Q left _ = Unit {0}

abbrev pub AllGood : (ℕ → Chars → Type 0) → (ℕ → High → Type 0) → List Token → Type 0
AllGood F Q [] = Unit {0}
AllGood F Q (t ∷ ts) = Good F Q (length ts) t × AllGood F Q ts

-- both are there and agree, or neither is
abbrev pub Both : {A B : Type 0} → (A → B → Type 0) → Option A → Option B → Type 0
Both R None None = Unit {0}
Both R (Some a) (Some b) = R a b
Both R None (Some b) = ⊥
Both R (Some a) None = ⊥

module _ {A B : Type 0} (R : A → B → Type 0) (F : ℕ → Chars → Type 0) (Q : ℕ → High → Type 0) (m : Makes A) (n : Makes B) (agree : Agree R F Q m n) where
  record Levels (f : Level A) (g : Level B) : Type 0 where
    ahead : f.ahead ≡ g.ahead
    before : Both R f.before g.before
    branch : R f.branch g.branch
    atom : Both R f.atom g.atom

  abbrev Stacks : List (Level A) → List (Level B) → Type 0
  Stacks [] [] = Unit {0}
  Stacks (f ∷ fs) (g ∷ gs) = Levels f g × Stacks fs gs
  Stacks [] (g ∷ gs) = ⊥
  Stacks (f ∷ fs) [] = ⊥

  last_agree : (a : A) (x : B) (o : Option A) (q : Option B) → R a x → Both R o q → R (with_last m a o) (with_last n x q)
  last_agree a x None None r b = r
  last_agree a x (Some c) (Some d) r b = agree.next a c x d r b
  last_agree a x None (Some d) r b = absurd b
  last_agree a x (Some c) None r b = absurd b

  bar_agree : (o : Option A) (q : Option B) (a : A) (x : B) → Both R o q → R a x → R (after_bar m o a) (after_bar n q x)
  bar_agree None None a x b r = r
  bar_agree (Some c) (Some d) a x b r = agree.either c a d x b r
  bar_agree None (Some d) a x b r = absurd b
  bar_agree (Some c) None a x b r = absurd b

  terms_agree : (f : Level A) (g : Level B) → Levels f g → R (terms m f) (terms n g)
  terms_agree f g l = last_agree f.branch g.branch f.atom g.atom l.branch l.atom

  whole_agree : (f : Level A) (g : Level B) → Levels f g → R (whole m f) (whole n g)
  whole_agree f g l = bar_agree f.before g.before (terms m f) (terms n g) l.before (terms_agree f g l)

  atom_agree : (f : Level A) (g : Level B) (a : A) (x : B) → Levels f g → R a x → Levels (with_atom m f a) (with_atom n g x)
  atom_agree f g a x l r = record { ahead = l.ahead; before = l.before; branch = terms_agree f g l; atom = r }

  term_agree : (f : Level A) (g : Level B) (a : A) (x : B) → Levels f g → R a x → Levels (with_term m f a) (with_term n g x)
  term_agree f g a x l r = record { ahead = l.ahead; before = l.before; branch = agree.next (terms m f) a (terms n g) x (terms_agree f g l) r; atom = tt }

  inside_agree : (o q : Option Bool) (f : Level A) (g : Level B) (a : A) (x : B) → o ≡ q → Levels f g → R a x → Levels (inside m o f a) (inside n q g x)
  inside_agree None None f g a x e l r = atom_agree f g a x l r
  inside_agree (Some b) (Some c) f g a x e l r = let same : b ≡ c = same_Some b c e in subst (λ d. Levels (inside m (Some b) f a) (inside n (Some d) g x)) same (term_agree f g (m.ahead b a) (n.ahead b x) l (agree.ahead b a x r))
  inside_agree None (Some c) f g a x e l r = absurd (none-some c e)
  inside_agree (Some b) None f g a x e l r = absurd (none-some b (sym e))

  fresh_agree : (o q : Option Bool) (b : Option A) (c : Option B) → o ≡ q → Both R b c → Levels (fresh m o b) (fresh n q c)
  fresh_agree o q b c e both = record { ahead = e; before = both; branch = agree.nothing; atom = tt }

  stacks_long : (fs : List (Level A)) (gs : List (Level B)) → Stacks fs gs → length fs ≡ length gs
  stacks_long [] [] s = refl
  stacks_long (f ∷ fs) (g ∷ gs) s = omega (arith, stacks_long fs gs s.1)
  stacks_long [] (g ∷ gs) s = absurd s
  stacks_long (f ∷ fs) [] s = absurd s

  abbrev Turned : Level A × List (Level A) → Level B × List (Level B) → Type 0
  Turned h k = Levels h.0 k.0 × Stacks h.1 k.1

  opened_agree : (o : Option Bool) (f : Level A) (g : Level B) (fs : List (Level A)) (gs : List (Level B)) → Levels f g → Stacks fs gs → Both Turned (opened m o f fs) (opened n o g gs)
  opened_agree o f g fs gs l s = subst (λ k. Both Turned (opened m o f fs) (cond (nat_lt k DEEPEST) (Some (fresh n o None, g ∷ gs)) None)) (stacks_long fs gs s) (go (nat_lt (length fs) DEEPEST))
    where
      go : (b : Bool) → Both Turned (cond b (Some (fresh m o None, f ∷ fs)) None) (cond b (Some (fresh n o None, g ∷ gs)) None)
      go true = (fresh_agree o o None None refl tt, (l, s))
      go false = tt

  closed_agree : (f : Level A) (g : Level B) (fs : List (Level A)) (gs : List (Level B)) → Levels f g → Stacks fs gs → Both Turned (closed m f fs) (closed n g gs)
  closed_agree f g [] [] l s = tt
  closed_agree f g (h ∷ fs) (k ∷ gs) l s = (inside_agree f.ahead g.ahead h k (whole m f) (whole n g) l.ahead s.0 (whole_agree f g l), s.1)
  closed_agree f g [] (k ∷ gs) l s = absurd s
  closed_agree f g (h ∷ fs) [] l s = absurd s

  quantified_agree : (f : Level A) (g : Level B) (low : ℕ) (high : High) (fs : List (Level A)) (gs : List (Level B)) (o : Option A) (q : Option B) → Q low high → Levels f g → Stacks fs gs → Both R o q →
      Both Turned (on_top m fs (quantified m f low high o)) (on_top n gs (quantified n g low high q))
  quantified_agree f g low high fs gs None None k l s b = tt
  quantified_agree f g low high fs gs (Some a) (Some x) k l s b =
      (record { ahead = l.ahead; before = l.before; branch = agree.next f.branch (m.repeat low high a) g.branch (n.repeat low high x) l.branch (agree.repeat low high a x k b); atom = tt }, s)
  quantified_agree f g low high fs gs None (Some x) k l s b = absurd b
  quantified_agree f g low high fs gs (Some a) None k l s b = absurd b

  turn_agree : (left : ℕ) (t : Token) (f : Level A) (g : Level B) (fs : List (Level A)) (gs : List (Level B)) → Good F Q left t → Levels f g → Stacks fs gs → Both Turned (turn m left t f fs) (turn n left t g gs)
  turn_agree left (token.Chars cs) f g fs gs k l s = (atom_agree f g (m.one left cs) (n.one left cs) l (agree.one left cs k), s)
  turn_agree left Start f g fs gs k l s = (term_agree f g m.start n.start l agree.start, s)
  turn_agree left Finish f g fs gs k l s = (term_agree f g m.finish n.finish l agree.finish, s)
  turn_agree left Bar f g fs gs k l s = (fresh_agree f.ahead g.ahead (Some (whole m f)) (Some (whole n g)) l.ahead (whole_agree f g l), s)
  turn_agree left Open f g fs gs k l s = opened_agree None f g fs gs l s
  turn_agree left (Ahead absent) f g fs gs k l s = opened_agree (Some absent) f g fs gs l s
  turn_agree left Close f g fs gs k l s = closed_agree f g fs gs l s
  turn_agree left (Quantifier low high) f g fs gs k l s = quantified_agree f g low high fs gs f.atom g.atom k l s l.atom

  run_agree : (ts : List Token) (f : Level A) (g : Level B) (fs : List (Level A)) (gs : List (Level B)) → AllGood F Q ts → Levels f g → Stacks fs gs → Both R (run m ts f fs) (run n ts g gs)
  run_agree [] f g [] [] good l s = whole_agree f g l
  run_agree [] f g (h ∷ fs) (k ∷ gs) good l s = tt
  run_agree [] f g [] (k ∷ gs) good l s = absurd s
  run_agree [] f g (h ∷ fs) [] good l s = absurd s
  run_agree (t ∷ ts) f g fs gs good l s = go (λ f g fs gs l s. run_agree ts f g fs gs good.1 l s) (turn m (length ts) t f fs) (turn n (length ts) t g gs) (turn_agree (length ts) t f g fs gs good.0 l s)
    where
      go : ((f : Level A) (g : Level B) (fs : List (Level A)) (gs : List (Level B)) → Levels f g → Stacks fs gs → Both R (run m ts f fs) (run n ts g gs)) →
          (o : Option (Level A × List (Level A))) (q : Option (Level B × List (Level B))) → Both Turned o q →
          Both R (elim o [ None ↦ None | Some h ↦ run m ts h.0 h.1 ]) (elim q [ None ↦ None | Some h ↦ run n ts h.0 h.1 ])
      go deeper None None b = tt
      go deeper (Some h) (Some k) b = deeper h.0 k.0 h.1 k.1 b.0 b.1
      go deeper None (Some k) b = absurd b
      go deeper (Some h) None b = absurd b

  pub read_agree : (ts : List Token) → AllGood F Q ts → Both R (read m ts) (read n ts)
  read_agree ts good = run_agree ts (fresh m None None) (fresh n None None) [] [] good (fresh_agree None None None None refl tt) tt
