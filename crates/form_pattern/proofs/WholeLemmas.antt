-- A compiled pattern matches what its text means.
use Rattle.std.proofs.Common.{◌≡◌, ℕ, zero, suc, ◌≤◌, ◌↔◌, Bool, true, ◌⊎◌, List, [], ◌∷◌, length, Option, Some, None, refl, sym, ap, ap₂, ◌∙◌, subst, arith, IsTrue}
use Rattle.std.proofs.lemmas.Option.{none-some, same_Some}
use Rattle.std.proofs.lemmas.Bool.{and_parts}
use Rattle.std.proofs.lemmas.Bool.Decides.{nat_tests}
use lib.Utf8.{scalar, scalars}
use Rattle.regex_class.specs.declared.Class.{Class}
use Rattle.form_pattern.specs.declared.tokens.Token.{Token}
use Rattle.form_pattern.specs.Pattern.{Pattern}
use Rattle.form_pattern.specs.Grammar.{IsPattern}
use Rattle.form_pattern.specs.Reading.{tokens}
use Rattle.form_pattern.specs.Grouping.{read}
use Rattle.form_pattern.specs.Trees.{patterns}
use Rattle.form_pattern.specs.Pieces.{Tree, Light, pieces}
use Rattle.form_pattern.specs.Matching.{Rounds, Holds, Means, Matches}
use Rattle.form_pattern.specs.Likeness.{Known, MatchAlike, StandsForText}
use Rattle.form_pattern.specs.Steps.{bare, table_has}
use Rattle.form_pattern.specs.Tables.{AreTables}
use Rattle.form_pattern.specs.Compiled.{Compiles, MatchesWhole}
use Rattle.form_pattern.proofs.AgreeLemmas.{Both}
use Rattle.form_pattern.proofs.TokenLemmas.{tokens_spelled, tokens_read}
use Rattle.form_pattern.proofs.GrammarLemmas.{grammar_reads, grammar_found}
use Rattle.form_pattern.proofs.MeaningLemmas.{StandsFor, read_stands}
use Rattle.form_pattern.proofs.TableLemmas.{tables_good, tokens_bounds}

-- a text is one pattern at most
pub one_pattern : (text : List ℕ) (p q : Pattern) → IsPattern text p → IsPattern text q → p ≡ q
one_pattern text p q x y =
    let same : x.tokens ≡ y.tokens = same_Some _ _ (sym (tokens_read (length text) text x.tokens (omega arith) x.spelled) ∙ tokens_read (length text) text y.tokens (omega arith) y.spelled) in
    same_Some p q (sym (grammar_reads x.tokens p x.grammar) ∙ ap (read patterns) same ∙ grammar_reads y.tokens q y.grammar)

-- marks play no part in what a tree matches
abbrev Pairs : Type 1
Pairs = ℕ → ℕ → Type 0

bare_same : (has : ℕ → ℕ → Bool) (s : List ℕ) (t : Tree) → Matches has s (bare t) ≡ Matches has s t
bare_same has s Tree.nothing = refl
bare_same has s Tree.start = refl
bare_same has s Tree.finish = refl
bare_same has s (Tree.one left) = refl
bare_same has s (Tree.next behind a b) = let f : Pairs → Pairs → Pairs = λ A B i j. (k : ℕ) × A i k × B k j in ap₂ f (bare_same has s a) (bare_same has s b)
bare_same has s (Tree.either a b) = let f : Pairs → Pairs → Pairs = λ A B i j. A i j ⊎ B i j in ap₂ f (bare_same has s a) (bare_same has s b)
bare_same has s (Tree.many round a) = let f : Pairs → Pairs = λ A i j. Rounds A j i in ap f (bare_same has s a)
bare_same has s (Tree.ahead absent a) = let f : Pairs → Pairs = λ A i j. (j ≡ i) × Holds absent ((k : ℕ) × A i k) in ap f (bare_same has s a)

pub bare_alike : (has : ℕ → ℕ → Bool) (t : Tree) (p : Pattern) → MatchAlike has t p → MatchAlike has (bare t) p
bare_alike has t p f s known i j = subst (λ (R : ℕ → ℕ → Type 0). (R i j → Means s p i j) × (Means s p i j → R i j)) (sym (bare_same has s t)) (f s known i j)

-- what is made of a text stands for it
stands_there : (has : ℕ → ℕ → Bool) (a : ℕ × Tree) (o : Option Light) (q : Option Pattern) → o ≡ Some (Some a) → Both (StandsFor has) o q → (p : Pattern) × (q ≡ Some p) × StandsFor has (Some a) p
stands_there has a None q e b = absurd (none-some (Some a) e)
stands_there has a (Some x) None e b = absurd b
stands_there has a (Some x) (Some p) e b = (p, refl, subst (λ y. StandsFor has y p) (same_Some x (Some a) e) b)

pub made_stands : (text : List ℕ) (ts : List Token) (tables : List Class) (a : ℕ × Tree) → tokens (length text) text ≡ Some ts → AreTables ts tables → read pieces ts ≡ Some (Some a) → StandsForText tables (bare a.1) text
made_stands text ts tables a lexed are made =
    let spelled = tokens_spelled (length text) text ts lexed in
    let found = stands_there (table_has tables) a (read pieces ts) (read patterns ts) made (read_stands (table_has tables) ts (tables_good ts tables are (tokens_bounds text ts spelled))) in
    let compiles : Compiles text = record { pattern = found.0; is = record { tokens = ts; spelled = spelled; grammar = grammar_found ts found.0 found.1 }; light = found.2.weighs.1 } in
    record { compiles = compiles; alike = bare_alike (table_has tables) a.1 found.0 found.2.alike }

-- a character is at most the last
last_scalar : (c : ℕ) → scalar c ≡ true → c ≤ 0x10_FFFF
last_scalar c h = grind (arith, nat_tests)

pub known_chars : (cs : List ℕ) → scalars cs ≡ true → Known cs
known_chars [] h zero c e = absurd (none-some c e)
known_chars [] h (suc i) c e = absurd (none-some c e)
known_chars (x ∷ xs) h zero c e = subst (λ y. y ≤ 0x10_FFFF) (same_Some x c e) (last_scalar x (and_parts (scalar x) (scalars xs) h).0)
known_chars (x ∷ xs) h (suc i) c e = known_chars xs (and_parts (scalar x) (scalars xs) h).1 i c e

-- the answer about the tree is the answer about the text
pub whole_answer : (tables : List Class) (tree : Tree) (text value : List ℕ) (answer : Bool) → Known value → StandsForText tables tree text → IsTrue answer ↔ Matches (table_has tables) value tree 0 (length value) → IsTrue answer ↔ MatchesWhole text value
whole_answer tables tree text value answer known st iff =
    let both = st.alike value known 0 (length value) in (
      λ h. record { pattern = st.compiles.pattern; is = st.compiles.is; means = both.0 (iff.0 h) },
      λ m. iff.1 (both.1 (subst (λ p. Means value p 0 (length value)) (one_pattern text m.pattern st.compiles.pattern m.is st.compiles.is) m.means)),
    )
