-- The truth values of `Deciding` are what `Compiles` and `MatchesWhole` say.
use Rattle.std.proofs.Common.{◌≡◌, ◌↔◌, IsTrue, ℕ, ◌==◌, ◌<◌, Bool, true, false, cond, List, [], ◌∷◌, ◌++◌, length, nat_eq, Option, Some, None, refl, sym, ap, ◌∙◌, subst, arith, append_assoc, append-nil, length-append}
use mathlib.Core.Bool.{false≢true}
use Rattle.std.proofs.lemmas.Option.{none-some, same_Some}
use Rattle.std.proofs.lemmas.Bool.Decides.{nat_tests}
use Rattle.regex_class.specs.declared.Class.{Class}
use Rattle.form_pattern.specs.declared.pieces.TheConstants.{HEAVIEST}
use Rattle.form_pattern.specs.declared.tokens.Token.{Token}
use Rattle.form_pattern.specs.declared.tokens.Token.TheVariants.{Start, Finish, Bar, Open, Ahead, Close, Quantifier}
use Rattle.form_pattern.specs.declared.tokens.Token.TheVariants as token
use Rattle.form_pattern.specs.Pattern.{Pattern, weight}
use Rattle.form_pattern.specs.Reading.{tokens}
use Rattle.form_pattern.specs.Grouping.{read}
use Rattle.form_pattern.specs.Trees.{patterns}
use Rattle.form_pattern.specs.Pieces.{Tree, Light, pieces}
use Rattle.form_pattern.specs.Matching.{IsUpTo, Means, Matches}
use Rattle.form_pattern.specs.Steps.{table_has, bare, goes, see, step}
use Rattle.form_pattern.specs.Compiled.{Compiles, MatchesWhole}
use Rattle.form_pattern.specs.Likeness.{Known, Fits, StandsForText}
use Rattle.form_pattern.specs.Deciding.{piece_at, is_light, does_compile, token_has, tokens_have, is_nil, noted, tree_matches, light_matches, read_matches, does_match}
use Rattle.form_pattern.proofs.TellLemmas.{Tells, tells_map, tells_same}
use Rattle.form_pattern.proofs.AgreeLemmas.{Both, Good, AllGood}
use Rattle.form_pattern.proofs.TokenLemmas.{tokens_read}
use Rattle.form_pattern.proofs.GrammarLemmas.{grammar_reads}
use Rattle.form_pattern.proofs.MeaningLemmas.{StandsFor, read_stands}
use Rattle.form_pattern.proofs.TableLemmas.{Bounds, tokens_bounds}
use Rattle.form_pattern.proofs.CompilingLemmas.{light_compiles, heavy_not, nothing_not, piece_is}
use Rattle.form_pattern.proofs.WholeLemmas.{one_pattern, bare_alike, whole_answer}
use Rattle.form_pattern.proofs.RunLemmas.{Stands, stands_first, stands_next, stands_last}

-- ---- whether a text compiles

pub compile_found : (text : List ℕ) → does_compile text ≡ true → Compiles text
unfolding does_compile
compile_found text h = go (piece_at text) refl h
  where
    go : (o : Option Light) → piece_at text ≡ o → is_light o ≡ true → Compiles text
    go None e k = absurd (false≢true k)
    go (Some None) e k = absurd (false≢true k)
    go (Some (Some a)) e k = light_compiles text a e

pub compile_again : (text : List ℕ) → Compiles text → does_compile text ≡ true
unfolding does_compile
compile_again text c = go (piece_at text) refl
  where
    go : (o : Option Light) → piece_at text ≡ o → is_light o ≡ true
    go None e = absurd (nothing_not text e c)
    go (Some None) e = absurd (heavy_not text e c)
    go (Some (Some a)) e = refl

-- ---- the tree on a value

module _ (has : ℕ → ℕ → Bool) where
  not_first : (i : ℕ) → 0 < i → nat_eq i 0 ≡ false
  not_first i some = grind (arith, nat_tests)

  noted_stands : (rest s front : List ℕ) (t : Tree) → s ≡ front ++ rest → 0 < length front → (answer : Bool) × Stands has s (bare t) front (noted has rest t) answer (is_nil rest)
  noted_stands [] s front t split some =
      let same : s ≡ front = split ∙ append-nil front in
      let long : 0 < length s = subst (λ xs. 0 < length xs) (sym same) some in
      let later : nat_eq (length s) 0 ≡ false = not_first (length s) long in
      let stands : Stands has s (bare t) s (step has false None false t) (goes (see has false None false t) true) true = subst (λ b. Stands has s (bare t) s (step has b None false t) (goes (see has b None false t) true) true) later (stands_first has s t) in
      (goes (see has false None false t) true, subst (λ xs. Stands has s (bare t) xs (step has false None false t) (goes (see has false None false t) true) true) same stands)
  noted_stands (c ∷ cs) s front t split some =
      let deeper = noted_stands cs s (front ++ c ∷ []) t (split ∙ sym (append_assoc front (c ∷ []) cs)) (omega (arith, length-append front (c ∷ []))) in
      let next = stands_next has s (bare t) front c (noted has cs t) deeper.0 (is_nil cs) deeper.1 in
      (goes (see has false (Some c) (is_nil cs) (noted has cs t)) false, subst (λ b. Stands has s (bare t) front (step has b (Some c) (is_nil cs) (noted has cs t)) (goes (see has b (Some c) (is_nil cs) (noted has cs t)) false) false) (not_first (length front) some) next)

  pub tree_matches_tells : (value : List ℕ) (t : Tree) → Tells (tree_matches has value t) (Matches has value (bare t) 0 (length value))
  tree_matches_tells [] t = stands_last has [] (bare t) (step has true None false t) (goes (see has true None false t) true) true (stands_first has [] t)
  tree_matches_tells (c ∷ cs) t =
      let deeper = noted_stands cs (c ∷ cs) (c ∷ []) t refl (omega arith) in
      let next = stands_next has (c ∷ cs) (bare t) [] c (noted has cs t) deeper.0 (is_nil cs) deeper.1 in
      stands_last has (c ∷ cs) (bare t) (step has true (Some c) (is_nil cs) (noted has cs t)) (goes (see has true (Some c) (is_nil cs) (noted has cs t)) false) false next

-- ---- the characters of the tokens

same_place : (n : ℕ) → (n == n) ≡ true
same_place n = grind (arith, nat_tests)

other_place : (n m : ℕ) → n < m → (n == m) ≡ false
other_place n m below = grind (arith, nat_tests)

have_behind : (front ts : List Token) (left c : ℕ) → left < length ts → tokens_have (front ++ ts) left c ≡ tokens_have ts left c
have_behind [] ts left c below = refl
have_behind (t ∷ front) ts left c below =
    let past : left < length (front ++ ts) = omega (arith, length-append front ts) in
    ap (λ b. cond b (token_has t c) (tokens_have (front ++ ts) left c)) (other_place left (length (front ++ ts)) past) ∙ have_behind front ts left c below

have_here : (t : Token) (ts : List Token) (c : ℕ) → tokens_have (t ∷ ts) (length ts) c ≡ token_has t c
have_here t ts c = ap (λ b. cond b (token_has t c) (tokens_have ts (length ts) c)) (same_place (length ts))

token_fits : (front ts : List Token) (t : Token) → Good (λ left cs. Unit {0}) IsUpTo (length ts) t → Good (Fits (tokens_have (front ++ t ∷ ts))) IsUpTo (length ts) t
token_fits front ts (token.Chars cs) g = λ c le. have_behind front (token.Chars cs ∷ ts) (length ts) c (omega arith) ∙ have_here (token.Chars cs) ts c
token_fits front ts (Quantifier low high) g = g
token_fits front ts Start g = tt
token_fits front ts Finish g = tt
token_fits front ts Bar g = tt
token_fits front ts Open g = tt
token_fits front ts (Ahead absent) g = tt
token_fits front ts Close g = tt

tokens_fit : (front ts : List Token) → Bounds ts → AllGood (Fits (tokens_have (front ++ ts))) IsUpTo ts
tokens_fit front [] g = tt
tokens_fit front (t ∷ ts) g = (token_fits front ts t g.0, subst (λ xs. AllGood (Fits (tokens_have xs)) IsUpTo ts) (append_assoc front (t ∷ []) ts) (tokens_fit (front ++ t ∷ []) ts g.1))

-- ---- whether a text matches a value

light_tells : (has : ℕ → ℕ → Bool) (text value : List ℕ) (c : Compiles text) (o : Option Light) (q : Option Pattern) → Known value → q ≡ Some c.pattern → Both (StandsFor has) o q → Tells (light_matches has value o) (MatchesWhole text value)
light_tells has text value c None None known e b = absurd (none-some c.pattern e)
light_tells has text value c None (Some x) known e b = absurd b
light_tells has text value c (Some a) None known e b = absurd (none-some c.pattern e)
light_tells has text value c (Some None) (Some x) known e b =
    let same : x ≡ c.pattern = same_Some x c.pattern e in
    let much : HEAVIEST < weight c.pattern = subst (λ p. HEAVIEST < weight p) same b.weighs in
    absurd (omega (arith, c.light))
light_tells has text value c (Some (Some a)) (Some x) known e b =
    let stands : StandsFor has (Some a) c.pattern = subst (StandsFor has (Some a)) (same_Some x c.pattern e) b in
    let alike = bare_alike has a.1 c.pattern stands.alike value known 0 (length value) in
    tells_map (tree_matches_tells has value a.1)
    (λ m. record { pattern = c.pattern; is = c.is; means = alike.0 m })
    (λ w. alike.1 (subst (λ p. Means value p 0 (length value)) (one_pattern text w.pattern c.pattern w.is c.is) w.means))

pub match_tells : (text value : List ℕ) → Known value → Compiles text → Tells (does_match text value) (MatchesWhole text value)
unfolding does_match
match_tells text value known c =
    let ts = c.is.tokens in
    let lexed : tokens (length text) text ≡ Some ts = tokens_read (length text) text ts (omega arith) c.is.spelled in
    let both = read_stands (tokens_have ts) ts (tokens_fit [] ts (tokens_bounds text ts c.is.spelled)) in
    subst (λ o. Tells (read_matches value o) (MatchesWhole text value)) (sym lexed)
    (light_tells (tokens_have ts) text value c (read pieces ts) (read patterns ts) known (grammar_reads ts c.pattern c.is.grammar) both)

-- only a text that compiles matches a value
pub match_compiles : (text value : List ℕ) → does_match text value ≡ true → Compiles text
unfolding does_match
match_compiles text value h = lexed (tokens (length text) text) refl h
  where
    made : (ts : List Token) → tokens (length text) text ≡ Some ts → (o : Option Light) → read pieces ts ≡ o → light_matches (tokens_have ts) value o ≡ true → Compiles text
    made ts e None f k = absurd (false≢true k)
    made ts e (Some None) f k = absurd (false≢true k)
    made ts e (Some (Some a)) f k = light_compiles text a (piece_is text ts (Some (Some a)) e f)

    lexed : (o : Option (List Token)) → tokens (length text) text ≡ o → read_matches value o ≡ true → Compiles text
    lexed None e k = absurd (false≢true k)
    lexed (Some ts) e k = made ts e (read pieces ts) refl k

-- the answer about the tree is the truth value of the text
pub whole_truth : (tables : List Class) (tree : Tree) (text value : List ℕ) (answer : Bool) → Known value → StandsForText tables tree text → IsTrue answer ↔ Matches (table_has tables) value tree 0 (length value) → answer ≡ does_match text value
whole_truth tables tree text value answer known st iff =
    let whole = whole_answer tables tree text value answer known st iff in
    tells_same answer (does_match text value) (whole.0, whole.1) (match_tells text value known st.compiles)
