-- The tables tell the characters of each token.
use Rattle.std.proofs.Common.{◌≡◌, false, ℕ, zero, suc, ◌-◌, ◌<◌, ◌≤◌, List, [], ◌∷◌, ◌++◌, length, drop, get_or, slice_get, Some, None, refl, sym, ap, ◌∙◌, subst, arith, append_assoc, append-nil, drop-cons, length-append}
use Rattle.regex_class.specs.declared.Class.{Class}
use Rattle.regex_class.specs.Ranges.{in_ranges}
use Rattle.form_pattern.specs.declared.tokens.High.{High}
use Rattle.form_pattern.specs.declared.tokens.Token.{Token}
use Rattle.form_pattern.specs.declared.tokens.Token.TheVariants.{Start, Finish, Bar, Open, Ahead, Close, Quantifier}
use Rattle.form_pattern.specs.declared.tokens.Token.TheVariants as token
use Rattle.form_pattern.specs.Matching.{IsUpTo}
use Rattle.form_pattern.specs.Steps.{table_has}
use Rattle.form_pattern.specs.Tables.{IsTable, AreTables}
use Rattle.form_pattern.specs.Spelling.{IsQuantifier, star, plus, question, exactly, at_least, between, IsToken, start, finish, bar, close, group, group_alone, ahead, not_ahead, greedy, lazy, any, plain, escape as one_escape, set_escape as a_set, class, AreTokens, none, more}
use Rattle.form_pattern.proofs.AgreeLemmas.{Good, AllGood}
use Rattle.form_pattern.specs.Likeness.{Fits}

-- one table more, for the token before
pub table_more : (ts : List Token) (left : ℕ) (t : Token) (found : List Class) (r : Class) → 0 < left → left ≤ length ts → t ≡ get_or ts (left - 1) t → AreTables (drop left ts) found → IsTable t r → AreTables (drop (left - 1) ts) (found ++ r ∷ [])
table_more ts zero t found r some low is a b = absurd (omega arith)
table_more ts (suc k) t found r some low is a b =
    let less : suc k - 1 ≡ k = omega arith in
    let here : t ≡ get_or ts k t = subst (λ n. t ≡ get_or ts n t) less is in
    let parts : drop k ts ≡ t ∷ drop (suc k) ts = drop-cons ts k t (omega arith) ∙ ap (λ x. x ∷ drop (suc k) ts) (sym here) in
    subst (λ n. AreTables (drop n ts) (found ++ r ∷ [])) (sym less) (subst (λ xs. AreTables xs (found ++ r ∷ [])) (sym parts) (found, r, refl, a, b))

tables_long : (ts : List Token) (tables : List Class) → AreTables ts tables → length tables ≡ length ts
tables_long [] tables a = ap length a
tables_long (t ∷ ts) tables a = omega (arith, ap length a.2, length-append a.0 (a.1 ∷ []), tables_long ts a.0 a.3)

get_behind : {A : Type 0} (front back : List A) (x : A) → slice_get (front ++ x ∷ back) (length front) ≡ Some x
get_behind [] back x = refl
get_behind (y ∷ front) back x = get_behind front back x

abbrev Bounded : ℕ → Token → Type 0
Bounded left t = Good (λ left cs. Unit {0}) IsUpTo left t

-- quantifiers whose bounds are in order
abbrev pub Bounds : List Token → Type 0
Bounds ts = AllGood (λ left cs. Unit {0}) IsUpTo ts

good_token : (front behind : List Class) (last : Class) (left : ℕ) (t : Token) → length front ≡ left → IsTable t last → Bounded left t → Good (Fits (table_has (front ++ last ∷ behind))) IsUpTo left t
good_token front behind last left (token.Chars cs) e b g =
    let got : slice_get (front ++ last ∷ behind) left ≡ Some last = subst (λ n. slice_get (front ++ last ∷ behind) n ≡ Some last) e (get_behind front behind last) in
    λ c le. ap (λ o. elim o [ None ↦ false | Some r ↦ in_ranges r.ranges.items c ]) got ∙ b c le
good_token front behind last left (Quantifier low high) e b g = g
good_token front behind last left Start e b g = tt
good_token front behind last left Finish e b g = tt
good_token front behind last left Bar e b g = tt
good_token front behind last left Open e b g = tt
good_token front behind last left (Ahead absent) e b g = tt
good_token front behind last left Close e b g = tt

tables_fit : (ts : List Token) (tables behind : List Class) → AreTables ts tables → Bounds ts → AllGood (Fits (table_has (tables ++ behind))) IsUpTo ts
tables_fit [] tables behind a g = tt
tables_fit (t ∷ ts) tables behind a g =
    let long : tables ++ behind ≡ a.0 ++ a.1 ∷ behind = ap (λ xs. xs ++ behind) a.2 ∙ append_assoc a.0 (a.1 ∷ []) behind in
    subst (λ xs. AllGood (Fits (table_has xs)) IsUpTo (t ∷ ts)) (sym long)
    (good_token a.0 behind a.1 (length ts) t (tables_long ts a.0 a.3) a.4 g.0, tables_fit ts a.0 (a.1 ∷ behind) a.3 g.1)

-- the tokens of a text with their tables
pub tables_good : (ts : List Token) (tables : List Class) → AreTables ts tables → Bounds ts → AllGood (Fits (table_has tables)) IsUpTo ts
tables_good ts tables a g = subst (λ xs. AllGood (Fits (table_has xs)) IsUpTo ts) (append-nil tables) (tables_fit ts tables [] a g)

-- the bounds of a quantifier that is spelled are in order
quantifier_bounds : (text : List ℕ) (low : ℕ) (high : High) (rest : List ℕ) → IsQuantifier text low high rest → IsUpTo low high
quantifier_bounds _ _ _ _ (star rest) = tt
quantifier_bounds _ _ _ _ (plus rest) = tt
quantifier_bounds _ _ _ _ (question rest) = omega arith
quantifier_bounds _ _ _ _ (exactly text n rest d) = omega arith
quantifier_bounds _ _ _ _ (at_least text n rest d) = tt
quantifier_bounds _ _ _ _ (between text n mid m rest d e le) = le

token_bounds : (text : List ℕ) (t : Token) (rest : List ℕ) (left : ℕ) → IsToken text t rest → Bounded left t
token_bounds _ _ _ left (start rest) = tt
token_bounds _ _ _ left (finish rest) = tt
token_bounds _ _ _ left (bar rest) = tt
token_bounds _ _ _ left (close rest) = tt
token_bounds _ _ _ left (group rest e) = tt
token_bounds _ _ _ left (group_alone rest) = tt
token_bounds _ _ _ left (ahead rest) = tt
token_bounds _ _ _ left (not_ahead rest) = tt
token_bounds _ _ _ left (greedy text low high rest q e) = quantifier_bounds text low high rest q
token_bounds _ _ _ left (lazy text low high rest q) = quantifier_bounds text low high (63 ∷ rest) q
token_bounds _ _ _ left (any rest) = tt
token_bounds _ _ _ left (plain c rest e) = tt
token_bounds _ _ _ left (one_escape text c rest e) = tt
token_bounds _ _ _ left (a_set text absent s rest e) = tt
token_bounds _ _ _ left (class text k rest e) = tt

pub tokens_bounds : (text : List ℕ) (ts : List Token) → AreTokens text ts → Bounds ts
tokens_bounds _ _ (none) = tt
tokens_bounds _ _ (more text rest t ts first others) = (token_bounds text t rest (length ts) first, tokens_bounds rest ts others)
