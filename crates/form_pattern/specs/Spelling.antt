-- Which text spells which part of a pattern: `IsX text x rest` says that the text begins with a
-- spelling of x, behind which the rest stands.
-- The characters stand as their numbers: 33 `!`, 36 `$`, 40 `(`, 41 `)`, 42 `*`, 43 `+`, 44 `,`, 45 `-`, 46 `.`, 58 `:`,
-- 61 `=`, 63 `?`, 91 `[`, 92 `\`, 93 `]`, 94 `^`, 123 `{`, 124 `|`, 125 `}`.
use Rattle.std.specs.Prelude.{◌≡◌, ℕ, ◌≤◌, Bool, true, false, List, [], ◌∷◌, ◌++◌, length}
use Rattle.std.specs.Str.Parse.{AllDigits, IsNumeral, digits_value}
use Rattle.std.specs.Char.{is_ascii_digit}
use Rattle.form_pattern.specs.declared.tokens.High.{High}
use Rattle.form_pattern.specs.declared.tokens.High.TheVariants.{Times, Endless, Sign}
use Rattle.form_pattern.specs.declared.characters.Set.{Set}
use Rattle.form_pattern.specs.declared.characters.Letter.TheVariants.{Character, InClass, Null, Byte, Unicode}
use Rattle.form_pattern.specs.declared.characters.Letter.TheVariants as letter
use Rattle.form_pattern.specs.declared.classes.Item.{Item}
use Rattle.form_pattern.specs.declared.classes.Item.TheVariants as item_of
use Rattle.form_pattern.specs.declared.classes.Class.{Class}
use Rattle.form_pattern.specs.declared.tokens.Chars.TheVariants as chars_of
use Rattle.form_pattern.specs.declared.tokens.Token.{Token}
use Rattle.form_pattern.specs.declared.tokens.Token.TheVariants as token_of
use Rattle.form_pattern.specs.declared.tokens.TheConstants.{MOST}
use Rattle.form_pattern.specs.Characters.{is_plain, escape_letter, is_member, is_doubled, is_scalar, begins}

-- one digit or more, of a number that is at most this
pub record IsNumber (base most : ℕ) (text : List ℕ) (n : ℕ) (rest : List ℕ) : Type 0 where
  pub digits : List ℕ
  pub spelled : text ≡ digits ++ rest
  pub numeral : IsNumeral base digits
  pub value : n ≡ digits_value base digits
  pub fits : n ≤ most

-- as many hexadecimal digits
pub record IsHex (count : ℕ) (text : List ℕ) (n : ℕ) (rest : List ℕ) : Type 0 where
  pub digits : List ℕ
  pub spelled : text ≡ digits ++ rest
  pub counted : length digits ≡ count
  pub hexadecimal : AllDigits 16 digits
  pub value : n ≡ digits_value 16 digits

-- An escape for one character; inside a class there are more.
pub data IsEscape (in_class : Bool) : List ℕ → ℕ → List ℕ → Type 0 where
  by_letter : (l c : ℕ) (rest : List ℕ) → escape_letter l ≡ Character c → IsEscape in_class (92 ∷ l ∷ rest) c rest
  in_class_alone : (l c : ℕ) (rest : List ℕ) → in_class ≡ true → escape_letter l ≡ InClass c → IsEscape in_class (92 ∷ l ∷ rest) c rest
  null_alone : (l : ℕ) → escape_letter l ≡ Null → IsEscape in_class (92 ∷ l ∷ []) 0 []
  null_before : (l c : ℕ) (rest : List ℕ) → escape_letter l ≡ Null → is_ascii_digit c ≡ false → IsEscape in_class (92 ∷ l ∷ c ∷ rest) 0 (c ∷ rest)
  two_digits : (l c : ℕ) (text rest : List ℕ) → escape_letter l ≡ Byte → IsHex 2 text c rest → IsEscape in_class (92 ∷ l ∷ text) c rest
  four_digits : (l c : ℕ) (text rest : List ℕ) → escape_letter l ≡ Unicode → IsHex 4 text c rest → is_scalar c ≡ true → IsEscape in_class (92 ∷ l ∷ text) c rest
  in_braces : (l c : ℕ) (text rest : List ℕ) → escape_letter l ≡ Unicode → IsNumber 16 0x10_FFFF text c (125 ∷ rest) → is_scalar c ≡ true → IsEscape in_class (92 ∷ l ∷ 123 ∷ text) c rest

-- An escape for a set, or with true for its complement.
pub data IsSetEscape : List ℕ → Bool → Set → List ℕ → Type 0 where
  named : (l : ℕ) (absent : Bool) (set : Set) (rest : List ℕ) → escape_letter l ≡ letter.Set absent set → IsSetEscape (92 ∷ l ∷ rest) absent set rest

-- A character of a class. One of those that are doubled does not stand before itself.
pub data IsMember : List ℕ → ℕ → List ℕ → Type 0 where
  itself : (c : ℕ) (rest : List ℕ) → is_member c ≡ true → (is_doubled c ≡ true → begins c rest ≡ false) → IsMember (c ∷ rest) c rest
  escaped : (text : List ℕ) (c : ℕ) (rest : List ℕ) → IsEscape true text c rest → IsMember text c rest

pub data IsItem : List ℕ → Item → List ℕ → Type 0 where
  one : (text : List ℕ) (c : ℕ) (rest : List ℕ) → IsMember text c rest → IsItem text (item_of.Range c c) rest
  range : (text : List ℕ) (a : ℕ) (mid : List ℕ) (b : ℕ) (rest : List ℕ) → IsMember text a (45 ∷ mid) → IsMember mid b rest → a ≤ b → IsItem text (item_of.Range a b) rest
  set : (text : List ℕ) (absent : Bool) (s : Set) (rest : List ℕ) → IsSetEscape text absent s rest → IsItem text (item_of.Set absent s) rest

-- items, and the `]` that ends a class
pub data IsItems : List ℕ → List Item → List ℕ → Type 0 where
  ends : (rest : List ℕ) → IsItems (93 ∷ rest) [] rest
  goes_on : (text mid rest : List ℕ) (i : Item) (is : List Item) → IsItem text i mid → IsItems mid is rest → IsItems text (i ∷ is) rest

-- A `^` directly behind `[` is always the sign of the complement.
pub data IsClass : List ℕ → Class → List ℕ → Type 0 where
  complement : (text : List ℕ) (is : List Item) (rest : List ℕ) → IsItems text is rest → IsClass (91 ∷ 94 ∷ text) (record { negated = true; items = is }) rest
  listed : (text : List ℕ) (is : List Item) (rest : List ℕ) → begins 94 text ≡ false → IsItems text is rest → IsClass (91 ∷ text) (record { negated = false; items = is }) rest

-- A quantifier with its bounds, without the `?` that may follow.
pub data IsQuantifier : List ℕ → ℕ → High → List ℕ → Type 0 where
  star : (rest : List ℕ) → IsQuantifier (42 ∷ rest) 0 Sign rest
  plus : (rest : List ℕ) → IsQuantifier (43 ∷ rest) 1 Sign rest
  question : (rest : List ℕ) → IsQuantifier (63 ∷ rest) 0 (Times 1) rest
  exactly : (text : List ℕ) (n : ℕ) (rest : List ℕ) → IsNumber 10 MOST text n (125 ∷ rest) → IsQuantifier (123 ∷ text) n (Times n) rest
  at_least : (text : List ℕ) (n : ℕ) (rest : List ℕ) → IsNumber 10 MOST text n (44 ∷ 125 ∷ rest) → IsQuantifier (123 ∷ text) n Endless rest
  between : (text : List ℕ) (n : ℕ) (mid : List ℕ) (m : ℕ) (rest : List ℕ) → IsNumber 10 MOST text n (44 ∷ mid) → IsNumber 10 MOST mid m (125 ∷ rest) → n ≤ m → IsQuantifier (123 ∷ text) n (Times m) rest

-- A `?` behind a quantifier belongs to it, and a `?` behind `(` to what opens the group.
pub data IsToken : List ℕ → Token → List ℕ → Type 0 where
  start : (rest : List ℕ) → IsToken (94 ∷ rest) token_of.Start rest
  finish : (rest : List ℕ) → IsToken (36 ∷ rest) token_of.Finish rest
  bar : (rest : List ℕ) → IsToken (124 ∷ rest) token_of.Bar rest
  close : (rest : List ℕ) → IsToken (41 ∷ rest) token_of.Close rest
  group : (rest : List ℕ) → begins 63 rest ≡ false → IsToken (40 ∷ rest) token_of.Open rest
  group_alone : (rest : List ℕ) → IsToken (40 ∷ 63 ∷ 58 ∷ rest) token_of.Open rest
  ahead : (rest : List ℕ) → IsToken (40 ∷ 63 ∷ 61 ∷ rest) (token_of.Ahead false) rest
  not_ahead : (rest : List ℕ) → IsToken (40 ∷ 63 ∷ 33 ∷ rest) (token_of.Ahead true) rest
  greedy : (text : List ℕ) (low : ℕ) (high : High) (rest : List ℕ) → IsQuantifier text low high rest → begins 63 rest ≡ false → IsToken text (token_of.Quantifier low high) rest
  lazy : (text : List ℕ) (low : ℕ) (high : High) (rest : List ℕ) → IsQuantifier text low high (63 ∷ rest) → IsToken text (token_of.Quantifier low high) rest
  any : (rest : List ℕ) → IsToken (46 ∷ rest) (token_of.Chars chars_of.Any) rest
  plain : (c : ℕ) (rest : List ℕ) → is_plain c ≡ true → IsToken (c ∷ rest) (token_of.Chars (chars_of.One c)) rest
  escape : (text : List ℕ) (c : ℕ) (rest : List ℕ) → IsEscape false text c rest → IsToken text (token_of.Chars (chars_of.One c)) rest
  set_escape : (text : List ℕ) (absent : Bool) (set : Set) (rest : List ℕ) → IsSetEscape text absent set rest → IsToken text (token_of.Chars (chars_of.Set absent set)) rest
  class : (text : List ℕ) (k : Class) (rest : List ℕ) → IsClass text k rest → IsToken text (token_of.Chars (chars_of.Class k)) rest

-- the text is these tokens in turn
pub data AreTokens : List ℕ → List Token → Type 0 where
  none : AreTokens [] []
  more : (text rest : List ℕ) (t : Token) (ts : List Token) → IsToken text t rest → AreTokens rest ts → AreTokens text (t ∷ ts)
