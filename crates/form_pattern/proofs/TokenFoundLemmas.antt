-- What is read as a token is spelled so.
use Rattle.std.proofs.Common.{◌≡◌, ℕ, ◌==◌, ◌<◌, nat_lt, Bool, true, false, List, [], ◌∷◌, length, Option, Some, None, refl, sym, ap, subst, arith}
use Rattle.std.proofs.lemmas.Option.{option_and_then_some, some_pair_parts, none-some}
use Rattle.std.proofs.lemmas.Bool.{eqb-true, ltb-false}
use Rattle.std.specs.Option.{unwrap_or}
use Rattle.form_pattern.specs.declared.tokens.High.{High}
use Rattle.form_pattern.specs.declared.tokens.High.TheVariants.{Times, Endless, Sign}
use Rattle.form_pattern.specs.declared.characters.Set.{Set}
use Rattle.form_pattern.specs.declared.classes.Class.{Class}
use Rattle.form_pattern.specs.declared.tokens.Chars.TheVariants as chars_of
use Rattle.form_pattern.specs.declared.tokens.Token.{Token}
use Rattle.form_pattern.specs.declared.tokens.Token.TheVariants.{Start, Finish, Bar, Open, Ahead, Close, Quantifier}
use Rattle.form_pattern.specs.declared.tokens.Token.TheVariants as token_of
use Rattle.form_pattern.specs.declared.tokens.TheConstants.{MOST}
use Rattle.form_pattern.specs.Characters.{is_plain, after}
use Rattle.form_pattern.specs.NumberReading.{number}
use Rattle.form_pattern.specs.Reading.{escape, set_escape, opening_with, opening, lazily, bounds_closed, upper_bound, bounds_from, bounds, escaped_from, escaped, sign_token, small_token, token_from, read_token, read_class}
use Rattle.form_pattern.specs.Spelling.{IsNumber, IsClass, IsQuantifier, star, plus, question, exactly, at_least, between, IsToken, start, finish, bar, close, group, group_alone, ahead, not_ahead, greedy, lazy, any, plain, escape as one_escape, set_escape as a_set, class}
use Rattle.form_pattern.proofs.NumberLemmas.{either_way, if_some, at_sign, number_spelled}
use Rattle.form_pattern.proofs.EscapeLemmas.{escape_spelled, set_spelled}
use Rattle.form_pattern.proofs.ClassLemmas.{map_spelled, after_is, after_none, number_shorter, escape_shorter, set_shorter, class_shorter, class_spelled}

-- ---- lengths

quantifier_shorter : (text : List ℕ) (low : ℕ) (high : High) (rest : List ℕ) → IsQuantifier text low high rest → length rest < length text
quantifier_shorter _ _ _ _ (star rest) = omega arith
quantifier_shorter _ _ _ _ (plus rest) = omega arith
quantifier_shorter _ _ _ _ (question rest) = omega arith
quantifier_shorter _ _ _ _ (exactly text n rest d) = omega (arith, number_shorter 10 MOST text n (125 ∷ rest) d)
quantifier_shorter _ _ _ _ (at_least text n rest d) = omega (arith, number_shorter 10 MOST text n (44 ∷ 125 ∷ rest) d)
quantifier_shorter _ _ _ _ (between text n mid m rest d e le) = omega (arith, number_shorter 10 MOST text n (44 ∷ mid) d, number_shorter 10 MOST mid m (125 ∷ rest) e)

pub token_shorter : (text : List ℕ) (t : Token) (rest : List ℕ) → IsToken text t rest → length rest < length text
token_shorter _ _ _ (start rest) = omega arith
token_shorter _ _ _ (finish rest) = omega arith
token_shorter _ _ _ (bar rest) = omega arith
token_shorter _ _ _ (close rest) = omega arith
token_shorter _ _ _ (group rest e) = omega arith
token_shorter _ _ _ (group_alone rest) = omega arith
token_shorter _ _ _ (ahead rest) = omega arith
token_shorter _ _ _ (not_ahead rest) = omega arith
token_shorter _ _ _ (greedy text low high rest q e) = quantifier_shorter text low high rest q
token_shorter _ _ _ (lazy text low high rest q) = omega (arith, quantifier_shorter text low high (63 ∷ rest) q)
token_shorter _ _ _ (any rest) = omega arith
token_shorter _ _ _ (plain c rest e) = omega arith
token_shorter _ _ _ (one_escape text c rest e) = escape_shorter false text c rest e
token_shorter _ _ _ (a_set text absent s rest e) = set_shorter text absent s rest e
token_shorter _ _ _ (class text k rest e) = class_shorter text k rest e

-- ---- found: what is read is spelled

lazily_spelled : (text : List ℕ) (low : ℕ) (high : High) (behind : List ℕ) (t : Token) (rest : List ℕ) → IsQuantifier text low high behind → Some (lazily low high behind) ≡ Some (t, rest) → IsToken text t rest
unfolding lazily
lazily_spelled text low high behind t rest q h = let p = some_pair_parts _ t _ rest h in subst (λ u. IsToken text u rest) p.0 (subst (λ r. IsToken text (Quantifier low high) r) p.1 (go (after 63 behind) refl))
  where
    go : (o : Option (List ℕ)) → after 63 behind ≡ o → IsToken text (Quantifier low high) (unwrap_or o behind)
    go (Some r) e = lazy text low high r (subst (IsQuantifier text low high) (after_is 63 behind r e) q)
    go None e = greedy text low high behind q (after_none 63 behind e)

closed_spelled : (text : List ℕ) (low high : ℕ) (mid behind : List ℕ) (t : Token) (rest : List ℕ) → IsNumber 10 MOST text low (44 ∷ mid) → IsNumber 10 MOST mid high behind → bounds_closed low high behind ≡ Some (t, rest) → IsToken (123 ∷ text) t rest
closed_spelled text low high mid [] t rest d e h = absurd (none-some (t, rest) h)
closed_spelled text low high mid (c ∷ cs) t rest d e h =
    if_some (c == 125) _ (t, rest) h (λ is g.
    either_way (nat_lt high low) None (Some (lazily low (Times high) cs)) (t, rest) g (λ less k. absurd (none-some (t, rest) k)) (λ le k.
    lazily_spelled (123 ∷ text) low (Times high) cs t rest (between text low mid high cs d (subst (λ y. IsNumber 10 MOST mid high (y ∷ cs)) (eqb-true c 125 is) e) (ltb-false _ _ le)) k))

upper_spelled : (text : List ℕ) (low : ℕ) (mid : List ℕ) (t : Token) (rest : List ℕ) → IsNumber 10 MOST text low (44 ∷ mid) → upper_bound low mid ≡ Some (t, rest) → IsToken (123 ∷ text) t rest
unfolding upper_bound
upper_spelled text low [] t rest d h = absurd (none-some (t, rest) h)
upper_spelled text low (c ∷ cs) t rest d h =
    at_sign c 125 _ _ (t, rest) h
    (λ is g. lazily_spelled (123 ∷ text) low Endless cs t rest (at_least text low cs (subst (λ y. IsNumber 10 MOST text low (44 ∷ y ∷ cs)) is d)) g)
    (λ g. option_and_then_some _ (number 10 MOST (c ∷ cs)) (t, rest) g (λ r e k. closed_spelled text low r.0 (c ∷ cs) r.1 t rest d (number_spelled 10 MOST (c ∷ cs) r.0 r.1 e) k))

bounds_spelled : (text : List ℕ) (t : Token) (rest : List ℕ) → bounds text ≡ Some (t, rest) → IsToken (123 ∷ text) t rest
unfolding bounds
bounds_spelled text t rest h = option_and_then_some _ (number 10 MOST text) (t, rest) h (λ r e g. go r.0 r.1 (number_spelled 10 MOST text r.0 r.1 e) g)
  where
    go : (low : ℕ) (behind : List ℕ) → IsNumber 10 MOST text low behind → bounds_from low behind ≡ Some (t, rest) → IsToken (123 ∷ text) t rest
    go low [] d g = absurd (none-some (t, rest) g)
    go low (c ∷ cs) d g =
        at_sign c 125 _ _ (t, rest) g
        (λ is k. lazily_spelled (123 ∷ text) low (Times low) cs t rest (exactly text low cs (subst (λ y. IsNumber 10 MOST text low (y ∷ cs)) is d)) k)
        (λ k. if_some (c == 44) _ (t, rest) k (λ is n. upper_spelled text low cs t rest (subst (λ y. IsNumber 10 MOST text low (y ∷ cs)) (eqb-true c 44 is) d) n))

-- a token that is read at once
at_once : (text : List ℕ) (t u : Token) (cs rest : List ℕ) → IsToken text t cs → ◌≡◌ {A = Option (Token × List ℕ)} (Some (t, cs)) (Some (u, rest)) → IsToken text u rest
at_once text t u cs rest is h = let p = some_pair_parts t u cs rest h in subst (λ x. IsToken text x rest) p.0 (subst (λ r. IsToken text t r) p.1 is)

opening_spelled : (text : List ℕ) (t : Token) (rest : List ℕ) → opening text ≡ Some (t, rest) → IsToken (40 ∷ text) t rest
unfolding opening
opening_spelled [] t rest h = at_once (40 ∷ []) Open t [] rest (group [] refl) h
opening_spelled (c ∷ []) t rest h =
    either_way (c == 63) _ _ (t, rest) h (λ e g. absurd (none-some (t, rest) g)) (λ e g. at_once (40 ∷ c ∷ []) Open t (c ∷ []) rest (group (c ∷ []) e) g)
opening_spelled (c ∷ d ∷ cs) t rest h =
    either_way (c == 63) _ _ (t, rest) h
    (λ e g. subst (λ y. IsToken (40 ∷ y ∷ d ∷ cs) t rest) (sym (eqb-true c 63 e)) (go g))
    (λ e g. at_once (40 ∷ c ∷ d ∷ cs) Open t (c ∷ d ∷ cs) rest (group (c ∷ d ∷ cs) e) g)
  where
    with_sign : (k : ℕ) (u : Token) → d ≡ k → IsToken (40 ∷ 63 ∷ k ∷ cs) u cs → ◌≡◌ {A = Option (Token × List ℕ)} (Some (u, cs)) (Some (t, rest)) → IsToken (40 ∷ 63 ∷ d ∷ cs) t rest
    with_sign k u e is g = subst (λ y. IsToken (40 ∷ 63 ∷ y ∷ cs) t rest) (sym e) (at_once (40 ∷ 63 ∷ k ∷ cs) u t cs rest is g)

    go : opening_with d cs ≡ Some (t, rest) → IsToken (40 ∷ 63 ∷ d ∷ cs) t rest
    go g =
        at_sign d 58 _ _ (t, rest) g (λ e k. with_sign 58 Open e (group_alone cs) k) (λ g2.
        at_sign d 61 _ _ (t, rest) g2 (λ e k. with_sign 61 (Ahead false) e (ahead cs) k) (λ g3.
        if_some (d == 33) _ (t, rest) g3 (λ e k. with_sign 33 (Ahead true) (eqb-true d 33 e) (not_ahead cs) k)))

escaped_spelled : (text : List ℕ) (t : Token) (rest : List ℕ) → escaped (92 ∷ text) ≡ Some (t, rest) → IsToken (92 ∷ text) t rest
unfolding escaped
escaped_spelled text t rest h = go (set_escape (92 ∷ text)) refl h
  where
    go : (o : Option ((Bool × Set) × List ℕ)) → set_escape (92 ∷ text) ≡ o → escaped_from (92 ∷ text) o ≡ Some (t, rest) → IsToken (92 ∷ text) t rest
    go (Some r) e k = at_once (92 ∷ text) _ t r.1 rest (a_set (92 ∷ text) r.0.0 r.0.1 r.1 (set_spelled (92 ∷ text) r.0.0 r.0.1 r.1 e)) k
    go None e k = map_spelled _ (escape false text) (t, rest) k (λ r d same. at_once (92 ∷ text) _ t r.1 rest (one_escape (92 ∷ text) r.0 r.1 (escape_spelled false text r.0 r.1 d)) (ap Some same))

sign_spelled : (c : ℕ) (cs : List ℕ) (t : Token) (rest : List ℕ) → sign_token c cs ≡ Some (t, rest) → IsToken (c ∷ cs) t rest
sign_spelled c cs t rest h =
    at_sign c 94 _ _ (t, rest) h (λ e k. at 94 Start e (start cs) k) (λ h1.
    at_sign c 36 _ _ (t, rest) h1 (λ e k. at 36 Finish e (finish cs) k) (λ h2.
    at_sign c 124 _ _ (t, rest) h2 (λ e k. at 124 Bar e (bar cs) k) (λ h3.
    at_sign c 41 _ _ (t, rest) h3 (λ e k. at 41 Close e (close cs) k) (λ h4.
    at_sign c 40 _ _ (t, rest) h4 (λ e k. whole 40 e (opening_spelled cs t rest k)) (λ h5.
    at_sign c 46 _ _ (t, rest) h5 (λ e k. at 46 (token_of.Chars chars_of.Any) e (any cs) k) (λ h6.
    at_sign c 42 _ _ (t, rest) h6 (λ e k. whole 42 e (lazily_spelled (42 ∷ cs) 0 Sign cs t rest (star cs) k)) (λ h7.
    at_sign c 43 _ _ (t, rest) h7 (λ e k. whole 43 e (lazily_spelled (43 ∷ cs) 1 Sign cs t rest (plus cs) k)) (λ h8.
    at_sign c 63 _ _ (t, rest) h8 (λ e k. whole 63 e (lazily_spelled (63 ∷ cs) 0 (Times 1) cs t rest (question cs) k)) (λ h9.
    at_sign c 123 _ _ (t, rest) h9 (λ e k. whole 123 e (bounds_spelled cs t rest k)) (λ h10.
    if_some (c == 92) _ (t, rest) h10 (λ e k. whole 92 (eqb-true c 92 e) (escaped_spelled cs t rest (subst (λ y. escaped (y ∷ cs) ≡ Some (t, rest)) (eqb-true c 92 e) k)))))))))))))
  where
    whole : (k : ℕ) → c ≡ k → IsToken (k ∷ cs) t rest → IsToken (c ∷ cs) t rest
    whole k e is = subst (λ y. IsToken (y ∷ cs) t rest) (sym e) is

    at : (k : ℕ) (u : Token) → c ≡ k → IsToken (k ∷ cs) u cs → ◌≡◌ {A = Option (Token × List ℕ)} (Some (u, cs)) (Some (t, rest)) → IsToken (c ∷ cs) t rest
    at k u e is g = whole k e (at_once (k ∷ cs) u t cs rest is g)

small_spelled : (text : List ℕ) (t : Token) (rest : List ℕ) → small_token text ≡ Some (t, rest) → IsToken text t rest
unfolding small_token
small_spelled [] t rest h = absurd (none-some (t, rest) h)
small_spelled (c ∷ cs) t rest h =
    either_way (is_plain c) _ _ (t, rest) h (λ e k. at_once (c ∷ cs) (token_of.Chars (chars_of.One c)) t cs rest (plain c cs e) k) (λ e k. sign_spelled c cs t rest k)

pub token_spelled : (text : List ℕ) (t : Token) (rest : List ℕ) → read_token text ≡ Some (t, rest) → IsToken text t rest
unfolding read_token
token_spelled text t rest h = go (after 91 text) refl h
  where
    go : (o : Option (List ℕ)) → after 91 text ≡ o → token_from text o ≡ Some (t, rest) → IsToken text t rest
    go (Some inner) e k = map_spelled _ (read_class inner) (t, rest) k (λ r d same.
        at_once text (token_of.Chars (chars_of.Class r.0)) t r.1 rest (class text r.0 r.1 (subst (λ y. IsClass y r.0 r.1) (sym (after_is 91 text inner e)) (class_spelled inner r.0 r.1 d))) (ap Some same))
    go None e k = small_spelled text t rest k
