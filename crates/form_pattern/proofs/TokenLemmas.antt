-- The tokens of a text: what is read is spelled so, and what is spelled so is read.
use Rattle.std.proofs.Common.{◌≡◌, ℕ, zero, suc, ◌≤◌, List, [], ◌∷◌, length, Some, refl, subst, arith}
use Rattle.std.proofs.lemmas.Option.{option_and_then_some, none-some, same_Some}
use Rattle.form_pattern.specs.declared.tokens.Token.{Token}
use Rattle.form_pattern.specs.Reading.{read_token, tokens}
use Rattle.form_pattern.specs.Spelling.{AreTokens, none, more}
use Rattle.form_pattern.proofs.ClassLemmas.{map_spelled}
use Rattle.form_pattern.proofs.TokenFoundLemmas.{token_shorter, token_spelled}
use Rattle.form_pattern.proofs.TokenOnlyLemmas.{token_reads}

pub tokens_spelled : (n : ℕ) (text : List ℕ) (ts : List Token) → tokens n text ≡ Some ts → AreTokens text ts
unfolding tokens
tokens_spelled n [] ts h = subst (AreTokens []) (same_Some _ _ h) none
tokens_spelled zero (c ∷ cs) ts h = absurd (none-some ts h)
tokens_spelled (suc n) (c ∷ cs) ts h =
    option_and_then_some _ (read_token (c ∷ cs)) ts h (λ r e g.
    map_spelled _ (tokens n r.1) ts g (λ us d same.
    subst (AreTokens (c ∷ cs)) same (more (c ∷ cs) r.1 r.0 us (token_spelled (c ∷ cs) r.0 r.1 e) (tokens_spelled n r.1 us d))))

pub tokens_read : (n : ℕ) (text : List ℕ) (ts : List Token) → length text ≤ n → AreTokens text ts → tokens n text ≡ Some ts
unfolding tokens
tokens_read n _ _ le (none) = refl
tokens_read zero _ _ le (more text rest t ts first others) = absurd (omega (arith, token_shorter text t rest first))
tokens_read (suc n) _ _ le (more [] rest t ts first others) = absurd (omega (arith, token_shorter [] t rest first))
tokens_read (suc n) _ _ le (more (c ∷ cs) rest t ts first others) =
    rw (token_reads (c ∷ cs) t rest first, tokens_read n rest ts (omega (arith, token_shorter (c ∷ cs) t rest first)) others) refl
