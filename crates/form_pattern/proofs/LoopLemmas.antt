-- One item or token more, or the end of reading.
use Rattle.std.proofs.Common.{◌≡◌, ℕ, suc, ◌==◌, false, List, [], ◌∷◌, ◌++◌, length, Option, Some, None, refl, sym, ap, append_assoc, append-nil, true≢false}
use Rattle.std.specs.Option.{option_map}
use Rattle.form_pattern.specs.declared.classes.Item.{Item}
use Rattle.form_pattern.specs.declared.tokens.Token.{Token}
use Rattle.form_pattern.specs.Characters.{after}
use Rattle.form_pattern.specs.Reading.{read_item, items, listed, read_token, tokens}

-- elements in front of those that are read
abbrev pub behind : {A : Type 0} → List A → List A × List ℕ → List A × List ℕ
behind xs r = (xs ++ r.0, r.1)

module _ {A : Type 0} where
  behind_nothing : (o : Option (List A × List ℕ)) → option_map (behind []) o ≡ o
  behind_nothing None = refl
  behind_nothing (Some r) = refl

  behind_one : (xs : List A) (x : A) (o : Option (List A × List ℕ)) → option_map (behind xs) (option_map (listed x) o) ≡ option_map (behind (xs ++ x ∷ [])) o
  behind_one xs x None = refl
  behind_one xs x (Some r) = ap (λ ys. Some (ys, r.1)) (sym (append_assoc xs (x ∷ []) r.0))

  one_more : (xs : List A) (x : A) (o : Option (List A)) → option_map (λ ys. xs ++ ys) (option_map (λ ys. x ∷ ys) o) ≡ option_map (λ ys. (xs ++ x ∷ []) ++ ys) o
  one_more xs x None = refl
  one_more xs x (Some ys) = ap Some (sym (append_assoc xs (x ∷ []) ys))

-- at `]` the items end
pub items_done : (found : List Item) (n m : ℕ) (text rest : List ℕ) → m ≡ suc n → after 93 text ≡ Some rest → option_map (behind found) (items m text) ≡ Some (found, rest)
unfolding items
items_done found n m text rest size e = rw (size, e) (ap (λ xs. Some (xs, rest)) (append-nil found))

-- before it an item is read
pub items_more : (found : List Item) (n m : ℕ) (text rest : List ℕ) (x : Item) → m ≡ suc n → after 93 text ≡ None → read_item text ≡ Some (x, rest) → option_map (behind found) (items m text) ≡ option_map (behind (found ++ x ∷ [])) (items n rest)
unfolding items
items_more found n m text rest x size e is = rw (size, e, is) (behind_one found x (items n rest))

-- or there is none
pub items_stop : (found : List Item) (n m : ℕ) (text : List ℕ) → m ≡ suc n → after 93 text ≡ None → read_item text ≡ None → option_map (behind found) (items m text) ≡ None
unfolding items
items_stop found n m text size e is = rw (size, e, is) refl

-- a token is read, or there is none
pub tokens_more : (found : List Token) (n m : ℕ) (text rest : List ℕ) (t : Token) → m ≡ suc n → (length text == 0) ≡ false → read_token text ≡ Some (t, rest) → option_map (λ ts. found ++ ts) (tokens m text) ≡ option_map (λ ts. (found ++ t ∷ []) ++ ts) (tokens n rest)
unfolding tokens
tokens_more found n m [] rest t size e is = absurd (true≢false e)
tokens_more found n m (c ∷ cs) rest t size e is = rw (size, is) (one_more found t (tokens n rest))

pub tokens_stop : (found : List Token) (n m : ℕ) (text : List ℕ) → m ≡ suc n → (length text == 0) ≡ false → read_token text ≡ None → option_map (λ ts. found ++ ts) (tokens m text) ≡ None
unfolding tokens
tokens_stop found n m [] size e is = absurd (true≢false e)
tokens_stop found n m (c ∷ cs) size e is = rw (size, is) refl
