-- How the parts of a pattern are read from the left: each gives what it stands for, and the text behind it.
use Rattle.std.specs.Prelude.{ℕ, zero, suc, ◌==◌, ◌&&◌, nat_le, nat_lt, Bool, true, false, List, [], ◌∷◌, drop, length, Option, Some, None, if◌then◌else◌}
use Rattle.std.specs.Option.{option_and_then, option_map, unwrap_or}
use Rattle.std.specs.Char.{is_ascii_digit}
use Rattle.form_pattern.specs.declared.tokens.High.{High}
use Rattle.form_pattern.specs.declared.tokens.High.TheVariants.{Times, Endless, Sign}
use Rattle.form_pattern.specs.declared.characters.Set.{Set}
use Rattle.form_pattern.specs.declared.characters.Letter.{Letter}
use Rattle.form_pattern.specs.declared.characters.Letter.TheVariants.{Character, InClass, Null, Byte, Unicode, Other}
use Rattle.form_pattern.specs.declared.characters.Letter.TheVariants as letter
use Rattle.form_pattern.specs.declared.classes.Item.{Item}
use Rattle.form_pattern.specs.declared.classes.Item.TheVariants as item_of
use Rattle.form_pattern.specs.declared.classes.Class.{Class}
use Rattle.form_pattern.specs.declared.tokens.Chars.TheVariants.{One, Any}
use Rattle.form_pattern.specs.declared.tokens.Chars.TheVariants as chars_of
use Rattle.form_pattern.specs.declared.tokens.Token.{Token}
use Rattle.form_pattern.specs.declared.tokens.Token.TheVariants.{Start, Finish, Bar, Open, Ahead, Close, Quantifier}
use Rattle.form_pattern.specs.declared.tokens.Token.TheVariants as token_of
use Rattle.form_pattern.specs.declared.tokens.TheConstants.{MOST}
use Rattle.form_pattern.specs.Characters.{is_plain, escape_letter, is_member, is_doubled, is_scalar, begins, after}
use Rattle.form_pattern.specs.NumberReading.{number, two_hex, four_hex}

-- ---- escapes, from behind their `\`

abbrev pub scalar_of : ℕ × List ℕ → Option (ℕ × List ℕ)
scalar_of r = if is_scalar r.0 then Some r else None

abbrev pub null : List ℕ → Option (ℕ × List ℕ)
null [] = Some (0, [])
null (c ∷ cs) = if is_ascii_digit c then None else Some (0, c ∷ cs)

abbrev pub braces_closed : ℕ → List ℕ → Option (ℕ × List ℕ)
braces_closed n [] = None
braces_closed n (c ∷ cs) = if c == 125 then scalar_of (n, cs) else None

unfoldable pub braced : List ℕ → Option (ℕ × List ℕ)
braced text = option_and_then (λ r. braces_closed r.0 r.1) (number 16 0x10_FFFF text)

unfoldable pub unicode : List ℕ → Option (ℕ × List ℕ)
unicode [] = None
unicode (c ∷ cs) = if c == 123 then braced cs else option_and_then scalar_of (four_hex (c ∷ cs))

unfoldable pub byte : List ℕ → Option (ℕ × List ℕ)
byte text = option_and_then scalar_of (two_hex text)

abbrev pub behind_letter : Bool → Letter → List ℕ → Option (ℕ × List ℕ)
behind_letter in_class (Character c) rest = Some (c, rest)
behind_letter in_class (InClass c) rest = if in_class then Some (c, rest) else None
behind_letter in_class Null rest = null rest
behind_letter in_class Byte rest = byte rest
behind_letter in_class Unicode rest = unicode rest
behind_letter in_class (letter.Set absent set) rest = None
behind_letter in_class Other rest = None

unfoldable pub escape : Bool → List ℕ → Option (ℕ × List ℕ)
escape in_class [] = None
escape in_class (c ∷ cs) = behind_letter in_class (escape_letter c) cs

abbrev pub set_of : Letter → List ℕ → Option ((Bool × Set) × List ℕ)
set_of (letter.Set absent set) rest = Some ((absent, set), rest)
set_of _ rest = None

unfoldable pub set_escape : List ℕ → Option ((Bool × Set) × List ℕ)
set_escape (c ∷ d ∷ cs) = if c == 92 then set_of (escape_letter d) cs else None
set_escape (c ∷ []) = None
set_escape [] = None

-- ---- classes

abbrev pub plain_member : ℕ → List ℕ → Option (ℕ × List ℕ)
plain_member c rest = if is_member c then (if is_doubled c && begins c rest then None else Some (c, rest)) else None

unfoldable pub member : List ℕ → Option (ℕ × List ℕ)
member [] = None
member (c ∷ cs) = if c == 92 then escape true cs else plain_member c cs

abbrev pub range_to : ℕ → ℕ × List ℕ → Option (Item × List ℕ)
range_to first r = if nat_le first r.0 then Some (item_of.Range first r.0, r.1) else None

unfoldable pub range_from : ℕ → List ℕ → Option (Item × List ℕ)
range_from first [] = Some (item_of.Range first first, [])
range_from first (c ∷ cs) = if c == 45 then option_and_then (range_to first) (member cs) else Some (item_of.Range first first, c ∷ cs)

abbrev pub item_from : List ℕ → Option ((Bool × Set) × List ℕ) → Option (Item × List ℕ)
item_from text (Some r) = Some (item_of.Set r.0.0 r.0.1, r.1)
item_from text None = option_and_then (λ r. range_from r.0 r.1) (member text)

unfoldable pub read_item : List ℕ → Option (Item × List ℕ)
read_item text = item_from text (set_escape text)

-- an element, and those behind it
abbrev pub listed : {A : Type 0} → A → List A × List ℕ → List A × List ℕ
listed x r = (x ∷ r.0, r.1)

-- nothing more where `]` stands
abbrev pub ended_or : {A : Type 0} → Option (List ℕ) → Option (List A × List ℕ) → Option (List A × List ℕ)
ended_or (Some rest) more = Some ([], rest)
ended_or None more = more

-- the items up to `]`, with a bound on their number
unfoldable pub items : ℕ → List ℕ → Option (List Item × List ℕ)
items zero text = None
items (suc n) text = ended_or (after 93 text) (option_and_then (λ r. option_map (listed r.0) (items n r.1)) (read_item text))

unfoldable pub class_with : Bool → List ℕ → Option (Class × List ℕ)
class_with negated text = option_map (λ r. (record { negated = negated; items = r.0 }, r.1)) (items (length text) text)

abbrev pub class_from : List ℕ → Option (List ℕ) → Option (Class × List ℕ)
class_from text (Some rest) = class_with true rest
class_from text None = class_with false text

unfoldable pub read_class : List ℕ → Option (Class × List ℕ)
read_class text = class_from text (after 94 text)

-- ---- tokens

abbrev pub opening_with : ℕ → List ℕ → Option (Token × List ℕ)
opening_with c rest =
    if c == 58 then Some (Open, rest)
    else if c == 61 then Some (Ahead false, rest)
    else if c == 33 then Some (Ahead true, rest)
    else None

unfoldable pub opening : List ℕ → Option (Token × List ℕ)
opening (c ∷ d ∷ cs) = if c == 63 then opening_with d cs else Some (Open, c ∷ d ∷ cs)
opening (c ∷ []) = if c == 63 then None else Some (Open, c ∷ [])
opening [] = Some (Open, [])

unfoldable pub lazily : ℕ → High → List ℕ → Token × List ℕ
lazily low high text = (Quantifier low high, unwrap_or (after 63 text) text)

abbrev pub bounds_closed : ℕ → ℕ → List ℕ → Option (Token × List ℕ)
bounds_closed low high [] = None
bounds_closed low high (c ∷ cs) = if c == 125 then (if nat_lt high low then None else Some (lazily low (Times high) cs)) else None

unfoldable pub upper_bound : ℕ → List ℕ → Option (Token × List ℕ)
upper_bound low [] = None
upper_bound low (c ∷ cs) =
    if c == 125 then Some (lazily low Endless cs)
    else option_and_then (λ r. bounds_closed low r.0 r.1) (number 10 MOST (c ∷ cs))

abbrev pub bounds_from : ℕ → List ℕ → Option (Token × List ℕ)
bounds_from low [] = None
bounds_from low (c ∷ cs) = if c == 125 then Some (lazily low (Times low) cs) else if c == 44 then upper_bound low cs else None

unfoldable pub bounds : List ℕ → Option (Token × List ℕ)
bounds text = option_and_then (λ r. bounds_from r.0 r.1) (number 10 MOST text)

abbrev pub escaped_from : List ℕ → Option ((Bool × Set) × List ℕ) → Option (Token × List ℕ)
escaped_from text (Some r) = Some (token_of.Chars (chars_of.Set r.0.0 r.0.1), r.1)
escaped_from text None = option_map (λ r. (token_of.Chars (One r.0), r.1)) (escape false (drop 1 text))

unfoldable pub escaped : List ℕ → Option (Token × List ℕ)
escaped text = escaped_from text (set_escape text)

abbrev pub sign_token : ℕ → List ℕ → Option (Token × List ℕ)
sign_token c cs =
    if c == 94 then Some (Start, cs)
    else if c == 36 then Some (Finish, cs)
    else if c == 124 then Some (Bar, cs)
    else if c == 41 then Some (Close, cs)
    else if c == 40 then opening cs
    else if c == 46 then Some (token_of.Chars Any, cs)
    else if c == 42 then Some (lazily 0 Sign cs)
    else if c == 43 then Some (lazily 1 Sign cs)
    else if c == 63 then Some (lazily 0 (Times 1) cs)
    else if c == 123 then bounds cs
    else if c == 92 then escaped (c ∷ cs)
    else None

unfoldable pub small_token : List ℕ → Option (Token × List ℕ)
small_token [] = None
small_token (c ∷ cs) = if is_plain c then Some (token_of.Chars (One c), cs) else sign_token c cs

abbrev pub token_from : List ℕ → Option (List ℕ) → Option (Token × List ℕ)
token_from text (Some rest) = option_map (λ r. (token_of.Chars (chars_of.Class r.0), r.1)) (read_class rest)
token_from text None = small_token text

unfoldable pub read_token : List ℕ → Option (Token × List ℕ)
read_token text = token_from text (after 91 text)

-- the tokens, with a bound on their number
unfoldable pub tokens : ℕ → List ℕ → Option (List Token)
tokens n [] = Some []
tokens zero (c ∷ cs) = None
tokens (suc n) (c ∷ cs) = option_and_then (λ r. option_map (λ ts. r.0 ∷ ts) (tokens n r.1)) (read_token (c ∷ cs))
