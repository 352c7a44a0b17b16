-- What is read of a class is spelled so, and what is spelled so is read.
use Rattle.std.proofs.Common.{◌≡◌, ℕ, zero, suc, ◌==◌, ◌&&◌, ◌<◌, ◌≤◌, nat_le, Bool, true, false, cond, List, [], ◌∷◌, length, Option, Some, None, refl, sym, ap, ◌∙◌, subst, arith, true≢false, length-append}
use Rattle.std.proofs.lemmas.Option.{option_and_then_some, some_pair_parts, none-some, same_Some}
use Rattle.std.proofs.lemmas.Bool.{leb-true, le-leb, eqb-true}
use Rattle.std.specs.Option.{option_map, option_and_then}
use Rattle.form_pattern.specs.declared.characters.Set.{Set}
use Rattle.form_pattern.specs.declared.characters.Letter.{Letter}
use Rattle.form_pattern.specs.declared.characters.Letter.TheVariants.{Character, InClass, Null, Byte, Unicode, Other}
use Rattle.form_pattern.specs.declared.characters.Letter.TheVariants as letter
use Rattle.form_pattern.specs.declared.classes.Item.{Item}
use Rattle.form_pattern.specs.declared.classes.Item.TheVariants as item_of
use Rattle.form_pattern.specs.declared.classes.Class.{Class}
use Rattle.form_pattern.specs.Characters.{escape_letter, is_member, is_doubled, begins, after}
use Rattle.form_pattern.specs.Reading.{behind_letter, escape, set_of, set_escape, member, range_to, range_from, item_from, read_item, listed, ended_or, items, class_with, class_from, read_class}
use Rattle.form_pattern.specs.Spelling.{IsNumber, IsHex, IsEscape, by_letter, in_class_alone, null_alone, null_before, two_digits, four_digits, in_braces, IsSetEscape, named, IsMember, itself, escaped, IsItem, one, range, set, IsItems, ends, goes_on, IsClass, complement, listed as listed_class}
use Rattle.form_pattern.proofs.NumberLemmas.{either_way, if_some, at_sign}
use Rattle.form_pattern.proofs.EscapeLemmas.{escape_spelled, set_spelled, escape_reads, set_reads}

-- a value of a mapped reading
pub map_spelled : {A B P : Type 0} (f : A → B) (o : Option A) (y : B) → option_map f o ≡ Some y → ((x : A) → o ≡ Some x → f x ≡ y → P) → P
map_spelled f None y h g = absurd (none-some y h)
map_spelled f (Some x) y h g = g x refl (same_Some _ _ h)

-- the text begins with the character, or does not
pub after_is : (c : ℕ) (text rest : List ℕ) → after c text ≡ Some rest → text ≡ c ∷ rest
after_is c [] rest h = absurd (none-some rest h)
after_is c (x ∷ xs) rest h = if_some (x == c) (Some xs) rest h (λ e k. ap (λ y. y ∷ xs) (eqb-true x c e) ∙ ap (λ ys. c ∷ ys) (same_Some _ _ k))

pub after_none : (c : ℕ) (text : List ℕ) → after c text ≡ None → begins c text ≡ false
after_none c [] h = refl
after_none c (x ∷ xs) h = go (x == c) h
  where
    go : (b : Bool) → cond b (Some xs) None ≡ None → b ≡ false
    go true k = absurd (none-some xs (sym k))
    go false k = refl

pub none_after : (c : ℕ) (text : List ℕ) → begins c text ≡ false → after c text ≡ None
none_after c [] h = refl
none_after c (x ∷ xs) h = ap (λ b. cond b (Some xs) None) h

-- ---- lengths

pub number_shorter : (base most : ℕ) (text : List ℕ) (n : ℕ) (rest : List ℕ) → IsNumber base most text n rest → length rest ≤ length text
number_shorter base most text n rest is = omega (arith, ap length is.spelled, length-append is.digits rest)

hex_shorter : (count : ℕ) (text : List ℕ) (n : ℕ) (rest : List ℕ) → IsHex count text n rest → length rest ≤ length text
hex_shorter count text n rest is = omega (arith, ap length is.spelled, length-append is.digits rest)

pub escape_shorter : (b : Bool) (text : List ℕ) (c : ℕ) (rest : List ℕ) → IsEscape b text c rest → length rest < length text
escape_shorter b _ _ _ (by_letter l c rest is) = omega arith
escape_shorter b _ _ _ (in_class_alone l c rest inside is) = omega arith
escape_shorter b _ _ _ (null_alone l is) = omega arith
escape_shorter b _ _ _ (null_before l x xs is d) = omega arith
escape_shorter b _ _ _ (two_digits l c inner rest is digits) = omega (arith, hex_shorter 2 inner c rest digits)
escape_shorter b _ _ _ (four_digits l c inner rest is digits s) = omega (arith, hex_shorter 4 inner c rest digits)
escape_shorter b _ _ _ (in_braces l c inner rest is digits s) = omega (arith, number_shorter 16 0x10_FFFF inner c (125 ∷ rest) digits)

pub set_shorter : (text : List ℕ) (absent : Bool) (s : Set) (rest : List ℕ) → IsSetEscape text absent s rest → length rest < length text
set_shorter _ _ _ _ (named l absent s rest is) = omega arith

member_shorter : (text : List ℕ) (c : ℕ) (rest : List ℕ) → IsMember text c rest → length rest < length text
member_shorter _ _ _ (itself c rest m d) = omega arith
member_shorter _ _ _ (escaped text c rest e) = escape_shorter true text c rest e

item_shorter : (text : List ℕ) (i : Item) (rest : List ℕ) → IsItem text i rest → length rest < length text
item_shorter _ _ _ (one text c rest m) = member_shorter text c rest m
item_shorter _ _ _ (range text a mid b rest m k le) = omega (arith, member_shorter text a (45 ∷ mid) m, member_shorter mid b rest k)
item_shorter _ _ _ (set text absent s rest e) = set_shorter text absent s rest e

items_shorter : (text : List ℕ) (is : List Item) (rest : List ℕ) → IsItems text is rest → length rest < length text
items_shorter _ _ _ (ends rest) = omega arith
items_shorter _ _ _ (goes_on text mid rest i is first more) = omega (arith, item_shorter text i mid first, items_shorter mid is rest more)

pub class_shorter : (text : List ℕ) (k : Class) (rest : List ℕ) → IsClass text k rest → length rest < length text
class_shorter _ _ _ (complement text is rest more) = omega (arith, items_shorter text is rest more)
class_shorter _ _ _ (listed_class text is rest first more) = omega (arith, items_shorter text is rest more)

-- ---- what a member begins with

-- no member begins with a character that may not stand in a class
other_sign : (c k : ℕ) → is_member c ≡ true → is_member k ≡ false → (c == k) ≡ false
other_sign c k m no_member = go (c == k) refl
  where
    go : (b : Bool) → (c == k) ≡ b → b ≡ false
    go true e = absurd (true≢false (sym m ∙ ap is_member (eqb-true c k e) ∙ no_member))
    go false e = refl

begins_slash : (b : Bool) (k : ℕ) (text : List ℕ) (c : ℕ) (rest : List ℕ) → (92 == k) ≡ false → IsEscape b text c rest → begins k text ≡ false
begins_slash b k text c rest other e = let r = escape_reads b text c rest e in ap (begins k) r.begun ∙ other

member_begins : (k : ℕ) (text : List ℕ) (c : ℕ) (rest : List ℕ) → (92 == k) ≡ false → is_member k ≡ false → IsMember text c rest → begins k text ≡ false
member_begins k _ _ _ other no_member (itself c rest m d) = other_sign c k m no_member
member_begins k _ _ _ other no_member (escaped text c rest e) = begins_slash true k text c rest other e

set_begins : (k : ℕ) (text : List ℕ) (absent : Bool) (s : Set) (rest : List ℕ) → (92 == k) ≡ false → IsSetEscape text absent s rest → begins k text ≡ false
set_begins k _ _ _ _ other (named l absent s rest is) = other

item_begins : (k : ℕ) (text : List ℕ) (i : Item) (rest : List ℕ) → (92 == k) ≡ false → is_member k ≡ false → IsItem text i rest → begins k text ≡ false
item_begins k _ _ _ other no_member (one text c rest m) = member_begins k text c rest other no_member m
item_begins k _ _ _ other no_member (range text a mid b rest m n le) = member_begins k text a (45 ∷ mid) other no_member m
item_begins k _ _ _ other no_member (set text absent s rest e) = set_begins k text absent s rest other e

no_hyphen : is_member 45 ≡ false
unfolding is_member
no_hyphen = refl

no_bracket : is_member 93 ≡ false
unfolding is_member
no_bracket = refl

no_slash : is_member 92 ≡ false
unfolding is_member
no_slash = refl

-- no `-` stands before an item or the end
items_begin : (text : List ℕ) (is : List Item) (rest : List ℕ) → IsItems text is rest → begins 45 text ≡ false
items_begin _ _ _ (ends rest) = refl
items_begin _ _ _ (goes_on text mid rest i is first more) = item_begins 45 text i mid refl no_hyphen first

-- ---- found: what is read is spelled

member_spelled : (text : List ℕ) (c : ℕ) (rest : List ℕ) → member text ≡ Some (c, rest) → IsMember text c rest
unfolding member
member_spelled [] c rest h = absurd (none-some (c, rest) h)
member_spelled (x ∷ xs) c rest h =
    at_sign x 92 _ _ (c, rest) h
    (λ e g. escaped (x ∷ xs) c rest (subst (λ y. IsEscape true (y ∷ xs) c rest) (sym e) (escape_spelled true xs c rest g)))
    (λ g. if_some (is_member x) _ (c, rest) g (λ m k.
    either_way (is_doubled x && begins x xs) None (Some (x, xs)) (c, rest) k (λ d n. absurd (none-some (c, rest) n)) (λ d n.
    let e = some_pair_parts x c xs rest n in
    subst (λ y. IsMember (x ∷ xs) y rest) e.0 (subst (λ ys. IsMember (x ∷ xs) x ys) e.1 (itself x xs m (λ twice. sym (ap (λ b. b && begins x xs) twice) ∙ d))))))

range_spelled : (text : List ℕ) (first : ℕ) (behind : List ℕ) (i : Item) (rest : List ℕ) → IsMember text first behind → range_from first behind ≡ Some (i, rest) → IsItem text i rest
unfolding range_from
range_spelled text first [] i rest m h = let e = some_pair_parts _ i [] rest h in subst (λ j. IsItem text j rest) e.0 (one text first rest (subst (IsMember text first) e.1 m))
range_spelled text first (x ∷ xs) i rest m h =
    at_sign x 45 _ _ (i, rest) h
    (λ e g. option_and_then_some (range_to first) (member xs) (i, rest) g (λ r d k.
    if_some (nat_le first r.0) _ (i, rest) k (λ le n.
    let p = some_pair_parts (item_of.Range first r.0) i r.1 rest n in
    subst (λ j. IsItem text j rest) p.0
    (range text first xs r.0 rest (subst (λ y. IsMember text first (y ∷ xs)) e m) (member_spelled xs r.0 rest (d ∙ ap (λ ys. Some (r.0, ys)) p.1)) (leb-true _ _ le)))))
    (λ g. let e = some_pair_parts _ i (x ∷ xs) rest g in subst (λ j. IsItem text j rest) e.0 (one text first rest (subst (IsMember text first) e.1 m)))

pub item_spelled : (text : List ℕ) (i : Item) (rest : List ℕ) → read_item text ≡ Some (i, rest) → IsItem text i rest
unfolding read_item
item_spelled text i rest h = go (set_escape text) refl h
  where
    go : (o : Option ((Bool × Set) × List ℕ)) → set_escape text ≡ o → item_from text o ≡ Some (i, rest) → IsItem text i rest
    go (Some r) e k = let p = some_pair_parts _ i r.1 rest k in subst (λ j. IsItem text j rest) p.0 (set text r.0.0 r.0.1 rest (set_spelled text r.0.0 r.0.1 rest (e ∙ ap (λ ys. Some (r.0, ys)) p.1)))
    go None e k = option_and_then_some _ (member text) (i, rest) k (λ r d n. range_spelled text r.0 r.1 i rest (member_spelled text r.0 r.1 d) n)

pub items_spelled : (n : ℕ) (text : List ℕ) (is : List Item) (rest : List ℕ) → items n text ≡ Some (is, rest) → IsItems text is rest
unfolding items
items_spelled zero text is rest h = absurd (none-some (is, rest) h)
items_spelled (suc n) text is rest h = go (items_spelled n) (after 93 text) refl h
  where
    go : ((t : List ℕ) (js : List Item) (r : List ℕ) → items n t ≡ Some (js, r) → IsItems t js r) → (o : Option (List ℕ)) → after 93 text ≡ o → ended_or o (option_and_then (λ r. option_map (listed r.0) (items n r.1)) (read_item text)) ≡ Some (is, rest) → IsItems text is rest
    go deeper (Some r) e k = let p = some_pair_parts [] is r rest k in subst (λ js. IsItems text js rest) p.0 (subst (λ t. IsItems t [] rest) (sym (after_is 93 text r e ∙ ap (λ ys. 93 ∷ ys) p.1)) (ends rest))
    go deeper None e k =
        option_and_then_some _ (read_item text) (is, rest) k (λ r d g.
        map_spelled (listed r.0) (items n r.1) (is, rest) g (λ q m same.
        subst (λ js. IsItems text js rest) (ap (λ x. x.0) same)
        (goes_on text r.1 rest r.0 q.0 (item_spelled text r.0 r.1 d) (deeper r.1 q.0 rest (m ∙ ap (λ ys. Some (q.0, ys)) (ap (λ x. x.1) same))))))

class_with_spelled : {P : Type 0} (negated : Bool) (text : List ℕ) (k : Class) (rest : List ℕ) → class_with negated text ≡ Some (k, rest) → ((is : List Item) → IsItems text is rest → record { negated = negated; items = is } ≡ k → P) → P
unfolding class_with
class_with_spelled negated text k rest h f =
    map_spelled _ (items (length text) text) (k, rest) h (λ r e same. f r.0 (items_spelled (length text) text r.0 rest (e ∙ ap (λ ys. Some (r.0, ys)) (ap (λ x. x.1) same))) (ap (λ x. x.0) same))

pub class_spelled : (text : List ℕ) (k : Class) (rest : List ℕ) → read_class text ≡ Some (k, rest) → IsClass (91 ∷ text) k rest
unfolding read_class
class_spelled text k rest h = go (after 94 text) refl h
  where
    go : (o : Option (List ℕ)) → after 94 text ≡ o → class_from text o ≡ Some (k, rest) → IsClass (91 ∷ text) k rest
    go (Some inner) e g = class_with_spelled true inner k rest g (λ is d same. subst (λ j. IsClass (91 ∷ text) j rest) same (subst (λ t. IsClass (91 ∷ t) (record { negated = true; items = is }) rest) (sym (after_is 94 text inner e)) (complement inner is rest d)))
    go None e g = class_with_spelled false text k rest g (λ is d same. subst (λ j. IsClass (91 ∷ text) j rest) same (listed_class text is rest (after_none 94 text e) d))

-- ---- only: what is spelled is read

member_reads : (text : List ℕ) (c : ℕ) (rest : List ℕ) → IsMember text c rest → member text ≡ Some (c, rest)
unfolding member
member_reads _ _ _ (itself c rest m d) = rw (other_sign c 92 m no_slash, m) (go (is_doubled c) refl)
  where
    go : (b : Bool) → is_doubled c ≡ b → cond {A = Option (ℕ × List ℕ)} (b && begins c rest) None (Some (c, rest)) ≡ Some (c, rest)
    go true e = ap (λ x. cond {A = Option (ℕ × List ℕ)} x None (Some (c, rest))) (d e)
    go false e = refl
member_reads _ _ _ (escaped text c rest e) = let r = escape_reads true text c rest e in ap member r.begun ∙ r.read

-- an escape of one character is no set
escape_no_set : (b : Bool) (inner : List ℕ) (c : ℕ) (rest : List ℕ) → escape b inner ≡ Some (c, rest) → set_escape (92 ∷ inner) ≡ None
unfolding escape set_escape
escape_no_set b [] c rest h = refl
escape_no_set b (l ∷ inner) c rest h = go (escape_letter l) h
  where
    go : (k : Letter) → behind_letter b k inner ≡ Some (c, rest) → set_of k inner ≡ None
    go (Character x) g = refl
    go (InClass x) g = refl
    go Null g = refl
    go Byte g = refl
    go Unicode g = refl
    go Other g = refl
    go (letter.Set absent s) g = absurd (none-some (c, rest) g)

pub no_set : (b : Bool) (text : List ℕ) (c : ℕ) (rest : List ℕ) → IsEscape b text c rest → set_escape text ≡ None
no_set b text c rest e = let r = escape_reads b text c rest e in ap set_escape r.begun ∙ escape_no_set b r.inner c rest r.read

plain_no_set : (c : ℕ) (rest : List ℕ) → (c == 92) ≡ false → set_escape (c ∷ rest) ≡ None
unfolding set_escape
plain_no_set c [] e = refl
plain_no_set c (d ∷ ds) e = rw e refl

member_no_set : (text : List ℕ) (c : ℕ) (rest : List ℕ) → IsMember text c rest → set_escape text ≡ None
member_no_set _ _ _ (itself c rest m d) = plain_no_set c rest (other_sign c 92 m no_slash)
member_no_set _ _ _ (escaped text c rest e) = no_set true text c rest e

alone : (c : ℕ) (rest : List ℕ) → begins 45 rest ≡ false → range_from c rest ≡ Some (item_of.Range c c, rest)
unfolding range_from
alone c [] e = refl
alone c (x ∷ xs) e = rw e refl

to_last : (a b : ℕ) (mid rest : List ℕ) → member mid ≡ Some (b, rest) → a ≤ b → range_from a (45 ∷ mid) ≡ Some (item_of.Range a b, rest)
unfolding range_from
to_last a b mid rest e le = let below : nat_le a b ≡ true = le-leb a b le in rw (e, below) refl

pub item_reads : (text : List ℕ) (i : Item) (rest : List ℕ) → begins 45 rest ≡ false → IsItem text i rest → read_item text ≡ Some (i, rest)
unfolding read_item
item_reads _ _ _ ending (one text c rest m) = rw (member_no_set text c rest m, member_reads text c rest m) (alone c rest ending)
item_reads _ _ _ ending (range text a mid b rest m k le) = rw (member_no_set text a (45 ∷ mid) m, member_reads text a (45 ∷ mid) m) (to_last a b mid rest (member_reads mid b rest k) le)
item_reads _ _ _ ending (set text absent s rest e) = rw (set_reads text absent s rest e) refl

pub items_read : (n : ℕ) (text : List ℕ) (is : List Item) (rest : List ℕ) → length text ≤ n → IsItems text is rest → items n text ≡ Some (is, rest)
unfolding items
items_read zero text is rest le more = absurd (omega (arith, items_shorter text is rest more))
items_read (suc n) _ _ _ le (ends rest) = refl
items_read (suc n) _ _ _ le (goes_on text mid rest i is first more) =
    rw (
      none_after 93 text (item_begins 93 text i mid refl no_bracket first),
      item_reads text i mid (items_begin mid is rest more) first,
      items_read n mid is rest (omega (arith, item_shorter text i mid first)) more,
    ) refl

pub class_reads : (text : List ℕ) (k : Class) (rest : List ℕ) → IsClass text k rest → (inner : List ℕ) × (text ≡ 91 ∷ inner) × (read_class inner ≡ Some (k, rest))
unfolding read_class class_with
class_reads _ _ _ (complement text is rest more) = (94 ∷ text, refl, rw (items_read (length text) text is rest (omega arith) more) refl)
class_reads _ _ _ (listed_class text is rest first more) = (text, refl, rw (none_after 94 text first, items_read (length text) text is rest (omega arith) more) refl)
