-- Tokens read from the left, with a stack of open groups; what is made of them is a parameter.
use Rattle.std.specs.Prelude.{ℕ, nat_lt, Bool, List, [], ◌∷◌, length, Option, Some, None, if◌then◌else◌}
use Rattle.form_pattern.specs.declared.tokens.High.{High}
use Rattle.form_pattern.specs.declared.groups.TheConstants.{DEEPEST}
use Rattle.form_pattern.specs.declared.tokens.Chars.{Chars}
use Rattle.form_pattern.specs.declared.tokens.Token.{Token}
use Rattle.form_pattern.specs.declared.tokens.Token.TheVariants.{Start, Finish, Bar, Open, Ahead, Close, Quantifier}
use Rattle.form_pattern.specs.declared.tokens.Token.TheVariants as token

-- what is made of the parts of a pattern; a place in the text is the number of tokens behind it
pub record Makes (A : Type 0) : Type 0 where
  pub nothing : A
  pub start : A
  pub finish : A
  pub one : ℕ → Chars → A
  pub next : A → A → A
  pub either : A → A → A
  pub repeat : ℕ → High → A → A
  pub ahead : Bool → A → A

-- an open group: the lookahead that it is, if it is one, the alternatives before, the branch so far
-- and the atom that a quantifier may follow
pub record Level (A : Type 0) : Type 0 where
  pub ahead : Option Bool
  pub before : Option A
  pub branch : A
  pub atom : Option A

module _ {A : Type 0} (m : Makes A) where
  abbrev pub fresh : Option Bool → Option A → Level A
  fresh ahead before = record { ahead = ahead; before = before; branch = m.nothing; atom = None }

  abbrev pub with_last : A → Option A → A
  with_last b None = b
  with_last b (Some a) = m.next b a

  abbrev pub after_bar : Option A → A → A
  after_bar None b = b
  after_bar (Some p) b = m.either p b

  abbrev pub terms : Level A → A
  terms f = with_last f.branch f.atom

  abbrev pub whole : Level A → A
  whole f = after_bar f.before (terms f)

  abbrev pub with_atom : Level A → A → Level A
  with_atom f a = record { ahead = f.ahead; before = f.before; branch = terms f; atom = Some a }

  abbrev pub with_term : Level A → A → Level A
  with_term f t = record { ahead = f.ahead; before = f.before; branch = m.next (terms f) t; atom = None }

  abbrev pub quantified : Level A → ℕ → High → Option A → Option (Level A)
  quantified f low high None = None
  quantified f low high (Some a) = Some (record { ahead = f.ahead; before = f.before; branch = m.next f.branch (m.repeat low high a); atom = None })

  -- a group that is closed is an atom, and a lookahead is a term
  abbrev pub inside : Option Bool → Level A → A → Level A
  inside None g a = with_atom g a
  inside (Some absent) g a = with_term g (m.ahead absent a)

  abbrev pub closed : Level A → List (Level A) → Option (Level A × List (Level A))
  closed f [] = None
  closed f (g ∷ gs) = Some (inside f.ahead g (whole f), gs)

  abbrev pub opened : Option Bool → Level A → List (Level A) → Option (Level A × List (Level A))
  opened ahead f gs = if nat_lt (length gs) DEEPEST then Some (fresh ahead None, f ∷ gs) else None

  abbrev pub on_top : List (Level A) → Option (Level A) → Option (Level A × List (Level A))
  on_top gs None = None
  on_top gs (Some f) = Some (f, gs)

  abbrev pub turn : ℕ → Token → Level A → List (Level A) → Option (Level A × List (Level A))
  turn left (token.Chars cs) f gs = Some (with_atom f (m.one left cs), gs)
  turn left Start f gs = Some (with_term f m.start, gs)
  turn left Finish f gs = Some (with_term f m.finish, gs)
  turn left Bar f gs = Some (fresh f.ahead (Some (whole f)), gs)
  turn left Open f gs = opened None f gs
  turn left (Ahead absent) f gs = opened (Some absent) f gs
  turn left Close f gs = closed f gs
  turn left (Quantifier low high) f gs = on_top gs (quantified f low high f.atom)

  abbrev pub ended : Level A → List (Level A) → Option A
  ended f [] = Some (whole f)
  ended f (g ∷ gs) = None

  abbrev pub run : List Token → Level A → List (Level A) → Option A
  run [] f gs = ended f gs
  run (t ∷ ts) f gs = elim (turn (length ts) t f gs) [ None ↦ None | Some h ↦ run ts h.0 h.1 ]

  abbrev pub read : List Token → Option A
  read ts = run ts (fresh None None) []
