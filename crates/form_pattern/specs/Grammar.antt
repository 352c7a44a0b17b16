-- The grammar of patterns over their tokens. The number says how deep groups may nest.
use Rattle.std.specs.Prelude.{ℕ, suc, Bool, List, [], ◌∷◌, ◌++◌}
use Rattle.form_pattern.specs.declared.tokens.High.{High}
use Rattle.form_pattern.specs.declared.groups.TheConstants.{DEEPEST}
use Rattle.form_pattern.specs.declared.tokens.Chars.{Chars}
use Rattle.form_pattern.specs.declared.tokens.Token.{Token}
use Rattle.form_pattern.specs.declared.tokens.Token.TheVariants as token
use Rattle.form_pattern.specs.Pattern.{Pattern}
use Rattle.form_pattern.specs.Spelling.{AreTokens}

mutual
  pub data IsAtom : ℕ → List Token → Pattern → Type 0 where
    characters : (d : ℕ) (cs : Chars) → IsAtom d (token.Chars cs ∷ []) (Pattern.one cs)
    in_group : (d : ℕ) (ts : List Token) (p : Pattern) → IsWhole d ts p → IsAtom (suc d) (token.Open ∷ (ts ++ token.Close ∷ [])) p

  pub data IsTerm : ℕ → List Token → Pattern → Type 0 where
    at_start : (d : ℕ) → IsTerm d (token.Start ∷ []) Pattern.start
    at_finish : (d : ℕ) → IsTerm d (token.Finish ∷ []) Pattern.finish
    looking_ahead : (d : ℕ) (absent : Bool) (ts : List Token) (p : Pattern) → IsWhole d ts p → IsTerm (suc d) (token.Ahead absent ∷ (ts ++ token.Close ∷ [])) (Pattern.ahead absent p)
    once : (d : ℕ) (ts : List Token) (p : Pattern) → IsAtom d ts p → IsTerm d ts p
    repeated : (d : ℕ) (ts : List Token) (p : Pattern) (low : ℕ) (high : High) → IsAtom d ts p → IsTerm d (ts ++ token.Quantifier low high ∷ []) (Pattern.repeat low high p)

  pub data IsBranch : ℕ → List Token → Pattern → Type 0 where
    no_term : (d : ℕ) → IsBranch d [] Pattern.nothing
    term_more : (d : ℕ) (xs ys : List Token) (b t : Pattern) → IsBranch d xs b → IsTerm d ys t → IsBranch d (xs ++ ys) (Pattern.next b t)

  pub data IsWhole : ℕ → List Token → Pattern → Type 0 where
    one_branch : (d : ℕ) (ts : List Token) (b : Pattern) → IsBranch d ts b → IsWhole d ts b
    alternative : (d : ℕ) (xs ys : List Token) (p b : Pattern) → IsWhole d xs p → IsBranch d ys b → IsWhole d (xs ++ token.Bar ∷ ys) (Pattern.either p b)

-- The text is a pattern with this tree; its groups nest at most 64 deep.
pub record IsPattern (text : List ℕ) (p : Pattern) : Type 0 where
  pub tokens : List Token
  pub spelled : AreTokens text tokens
  pub grammar : IsWhole DEEPEST tokens p
