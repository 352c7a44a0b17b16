-- A light piece is made exactly of the texts that compile.
use Rattle.std.proofs.Common.{◌≡◌, ℕ, ◌<◌, List, length, Option, Some, None, refl, sym, ap, ◌∙◌, subst, arith}
use Rattle.std.specs.Option.{option_and_then}
use Rattle.std.proofs.lemmas.Option.{option_and_then_some, none-some, same_Some}
use Rattle.form_pattern.specs.declared.pieces.TheConstants.{HEAVIEST}
use Rattle.form_pattern.specs.declared.tokens.Token.{Token}
use Rattle.form_pattern.specs.Pattern.{Pattern, weight}
use Rattle.form_pattern.specs.Grammar.{IsPattern}
use Rattle.form_pattern.specs.Reading.{tokens}
use Rattle.form_pattern.specs.Grouping.{read}
use Rattle.form_pattern.specs.Trees.{patterns}
use Rattle.form_pattern.specs.Pieces.{Tree, Light, pieces}
use Rattle.form_pattern.specs.Compiled.{Compiles}
use Rattle.form_pattern.specs.Deciding.{piece_at, is_light, does_compile}
use Rattle.form_pattern.proofs.TokenLemmas.{tokens_spelled, tokens_read}
use Rattle.form_pattern.proofs.GrammarLemmas.{grammar_reads, grammar_found}
use Rattle.form_pattern.proofs.AgreeLemmas.{Both}
use Rattle.form_pattern.proofs.WeightLemmas.{Weighs, read_weighs}

-- the piece of a pattern
pub record PieceOf (p : Pattern) (o : Option Light) : Type 0 where
  pub piece : Light
  pub is : o ≡ Some piece
  pub weighs : Weighs piece p

piece_there : (o : Option Light) (q : Option Pattern) (p : Pattern) → Both Weighs o q → q ≡ Some p → PieceOf p o
piece_there None None p b e = absurd (none-some p e)
piece_there None (Some x) p b e = absurd b
piece_there (Some a) None p b e = absurd (none-some p e)
piece_there (Some a) (Some x) p b e = record { piece = a; is = refl; weighs = subst (Weighs a) (same_Some x p e) b }

-- a text in the grammar gives the piece of its pattern
pub pattern_piece : (text : List ℕ) (p : Pattern) → IsPattern text p → PieceOf p (piece_at text)
unfolding piece_at
pattern_piece text p is =
    let lexed : tokens (length text) text ≡ Some is.tokens = tokens_read (length text) text is.tokens (omega arith) is.spelled in
    subst (λ o. PieceOf p (option_and_then (λ ts. read pieces ts) o)) (sym lexed) (piece_there (read pieces is.tokens) (read patterns is.tokens) p (read_weighs is.tokens) (grammar_reads is.tokens p is.grammar))

pub record PatternOf (text : List ℕ) (a : Light) : Type 0 where
  pub pattern : Pattern
  pub is : IsPattern text pattern
  pub weighs : Weighs a pattern

pattern_there : (text : List ℕ) (ts : List Token) (a : Light) (o : Option Light) (q : Option Pattern) → tokens (length text) text ≡ Some ts → o ≡ Some a → read patterns ts ≡ q → Both Weighs o q → PatternOf text a
pattern_there text ts a None q lexed e f b = absurd (none-some a e)
pattern_there text ts a (Some x) None lexed e f b = absurd b
pattern_there text ts a (Some x) (Some p) lexed e f b =
    record { pattern = p; is = record { tokens = ts; spelled = tokens_spelled (length text) text ts lexed; grammar = grammar_found ts p f }; weighs = subst (λ y. Weighs y p) (same_Some x a e) b }

-- and a piece is of a text in the grammar
pub piece_pattern : (text : List ℕ) (a : Light) → piece_at text ≡ Some a → PatternOf text a
unfolding piece_at
piece_pattern text a h =
    option_and_then_some (λ ts. read pieces ts) (tokens (length text) text) a h (λ ts e g. pattern_there text ts a (read pieces ts) (read patterns ts) e g refl (read_weighs ts))

pub light_compiles : (text : List ℕ) (a : ℕ × Tree) → piece_at text ≡ Some (Some a) → Compiles text
light_compiles text a h = let p = piece_pattern text (Some a) h in record { pattern = p.pattern; is = p.is; light = p.weighs.1 }

pub heavy_not : (text : List ℕ) → piece_at text ≡ Some None → Compiles text → ⊥
heavy_not text h c =
    let p = pattern_piece text c.pattern c.is in
    let same : p.piece ≡ None = same_Some _ _ (sym p.is ∙ h) in
    let much : HEAVIEST < weight c.pattern = subst (λ a. Weighs a c.pattern) same p.weighs in
    omega (arith, c.light)

pub nothing_not : (text : List ℕ) → piece_at text ≡ None → Compiles text → ⊥
nothing_not text h c = let p = pattern_piece text c.pattern c.is in none-some p.piece (sym h ∙ p.is)

-- the two steps of reading
pub no_tokens : (text : List ℕ) → tokens (length text) text ≡ None → piece_at text ≡ None
unfolding piece_at
no_tokens text e = ap (λ o. option_and_then (λ ts. read pieces ts) o) e

pub piece_is : (text : List ℕ) (ts : List Token) (o : Option Light) → tokens (length text) text ≡ Some ts → read pieces ts ≡ o → piece_at text ≡ o
unfolding piece_at
piece_is text ts o e f = ap (λ q. option_and_then (λ us. read pieces us) q) e ∙ f

pub does_compile_is : (text : List ℕ) (o : Option Light) → piece_at text ≡ o → does_compile text ≡ is_light o
unfolding does_compile
does_compile_is text o e = ap is_light e
