-- What spells a number, a key, a name, a mark or a boundary is read, and what is read is spelled so.
use Rattle.std.proofs.Common.{◌≡◌, ℕ, zero, suc, ◌<◌, ◌≤◌, ◌^◌, Bool, true, false, List, [], ◌∷◌, length, get_or, map, rules, codes, Option, Some, None, refl, sym, ap, subst, ◌∙◌, arith, ◌&&◌, nat_le, nat_lt, if◌then◌else◌, ◌==◌}
use Rattle.std.specs.Char.{is_ascii_alphabetic, is_ascii_digit, to_ascii_lowercase}
use Rattle.std.specs.Fmt.{decimal}
use Rattle.std.specs.List.{list_all}
use Rattle.std.specs.Cmp.Lexicographic.{same_text}
use Rattle.std.specs.Str.{bytes_eq}
use Rattle.std.specs.Str.Parse.{AllDigits, IsNumeral, digits_value}
use Rattle.std.proofs.lemmas.Bool.{eqb-true, eqb-false}
use Rattle.std.proofs.lemmas.Bool.Decides.{nat_tests}
use Rattle.std.proofs.lemmas.Fmt.{decimal_digit, decimal_nonempty, decimal-digits_value, digits_decimal, digits_value-decimal, first_decimal}
use Rattle.std.proofs.lemmas.Str.Parse.{IsNumeralModel, numerals_by_value, IsDigitsTest}
use Rattle.form_tree.specs.declared.node.Key.{Key}
use Rattle.form_script.specs.Quoted.{IsQuoted}
use Rattle.form_script.specs.Reading.{◌>>=◌, begins_name, boundary_if, boundary_of, cut, first_at, is_boundary, literal_text, mark_of, is_numeral, key_of, leads_with_zero, name_of, number_of, positive, positive_of, within}
use Rattle.form_script.specs.Words.{IsBoundary, IsKey, IsMark, IsName, IsNumber, IsPositive, is_name_byte}
use Rattle.form_script.proofs.CutLaws.{first_none}
use Rattle.form_script.proofs.LiteralLaws.{Rest}
use Rattle.form_script.proofs.SpellingLaws.{literal_found, literal_there}

-- ---- numbers

abbrev Digits : List ℕ → Type 0
Digits text = list_all is_ascii_digit text ≡ true

test : IsDigitsTest Digits
test = search rules

own : IsNumeralModel Digits (digits_value 10)
own = numerals_by_value Digits test

-- what is printed has no needless zero
no_zero : (text : List ℕ) (n : ℕ) → text ≡ decimal n → n < 2 ^ 64 → leads_with_zero text ≡ false
no_zero [] n e small = refl
no_zero (b ∷ []) n e small = refl
no_zero (b ∷ c ∷ bs) zero e small = let two : suc (suc (length bs)) ≡ 1 = ap length (e ∙ decimal_digit 0 (omega arith)) in absurd (omega (arith, two))
no_zero (b ∷ c ∷ bs) (suc n) e small =
    let first : 48 < get_or (decimal (suc n)) 0 0 = first_decimal (suc n) (omega arith) small in
    let above : 48 < b = subst (λ t. 48 < get_or t 0 0) (sym e) first in
    grind (arith, nat_tests)

within_there : (n : ℕ) → n ≤ 4_294_967_295 → within n ≡ Some n
within_there n le = go (nat_le n 4_294_967_295) refl
  where
    go : (t : Bool) → nat_le n 4_294_967_295 ≡ t → (if t then Some n else None) ≡ Some n
    go true e = refl
    go false e = absurd (grind (arith, nat_tests))

within_found : (v n : ℕ) → within v ≡ Some n → (v ≡ n) × (n ≤ 4_294_967_295)
within_found v n h = go (nat_le v 4_294_967_295) refl h
  where
    go : (t : Bool) → nat_le v 4_294_967_295 ≡ t → (if t then Some v else None) ≡ Some n → (v ≡ n) × (n ≤ 4_294_967_295)
    go true e h = let is : v ≡ n = cc in (is, subst (λ x. x ≤ 4_294_967_295) is (grind (arith, nat_tests)))
    go false e h = absurd (cc)

numeral_there : (text : List ℕ) → 0 < length text → leads_with_zero text ≡ false → Digits text → is_numeral text ≡ true
numeral_there text some zeros digits = go (length text == 0) refl (leads_with_zero text) zeros
  where
    go : (x : Bool) → length text == 0 ≡ x → (y : Bool) → y ≡ false → (if x then false else (if y then false else list_all is_ascii_digit text)) ≡ true
    go true e y f = absurd (grind (arith, nat_tests))
    go false e true f = absurd (cc)
    go false e false f = digits

numeral_found : (text : List ℕ) → is_numeral text ≡ true → (0 < length text) × (leads_with_zero text ≡ false) × Digits text
numeral_found text h = go (length text == 0) refl (leads_with_zero text) refl h
  where
    go : (x : Bool) → length text == 0 ≡ x → (y : Bool) → leads_with_zero text ≡ y → (if x then false else (if y then false else list_all is_ascii_digit text)) ≡ true
        → (0 < length text) × (leads_with_zero text ≡ false) × Digits text
    go true e y f h = absurd (cc)
    go false e true f h = absurd (cc)
    go false e false f h = (grind (arith, nat_tests), f, h)

below : (text : List ℕ) → Digits text → AllDigits 10 text
below text h = own.to text h

pub digits_numeral : (text : List ℕ) → is_numeral text ≡ true → IsNumeral 10 text
digits_numeral text h = let found = numeral_found text h in (found.0, below text found.2)

pub number_there : (text : List ℕ) (n : ℕ) → IsNumber text n → number_of text ≡ Some n
unfolding number_of
number_there text n h =
    let bound : n ≤ 4_294_967_295 = h.bound in
    let small : n < 2 ^ 64 = omega arith in
    let digits : Digits (decimal n) = digits_decimal own n small in
    let value : digits_value 10 (decimal n) ≡ n = digits_value-decimal own n small in
    let zeros : leads_with_zero (decimal n) ≡ false = no_zero (decimal n) n refl small in
    ap number_of h.written
    ∙ ap (λ t. if t then within (digits_value 10 (decimal n)) else None) (numeral_there (decimal n) (decimal_nonempty n small) zeros digits)
    ∙ ap within value ∙ within_there n bound

one_digit : (text : List ℕ) → leads_with_zero text ≡ false → 0 < length text → get_or text 0 0 ≡ 48 → length text ≡ 1
one_digit [] h some e = absurd (omega arith)
one_digit (b ∷ []) h some e = refl
one_digit (b ∷ c ∷ bs) h some e = absurd (eqb-false b 48 h e)

pub number_found : (text : List ℕ) (n : ℕ) → number_of text ≡ Some n → IsNumber text n
unfolding number_of
number_found text n h = go (is_numeral text) refl h
  where
    go : (t : Bool) → is_numeral text ≡ t → (if t then within (digits_value 10 text) else None) ≡ Some n → IsNumber text n
    go true e h =
        let found = numeral_found text e in
        let is = within_found (digits_value 10 text) n h in
        let bound : n ≤ 4_294_967_295 = is.1 in
        let small : digits_value 10 text < 2 ^ 64 = omega (arith, is.0) in
        let printed : decimal (digits_value 10 text) ≡ text = decimal-digits_value own text found.2 found.0 (one_digit text found.1 found.0) small in
        record { written = sym printed ∙ ap decimal is.0; bound = is.1 }
    go false e h = absurd (cc)

pub positive_there : (text : List ℕ) (n : ℕ) → IsPositive text n → positive_of text ≡ Some n
unfolding positive_of
positive_there text n h = ap (λ (o : Option ℕ). o >>= positive) (number_there text n h.number) ∙ go (n == 0) refl
  where
    go : (t : Bool) → n == 0 ≡ t → (if t then None else Some n) ≡ Some n
    go true e = let from : 0 < n = h.from_one in absurd (grind (arith, nat_tests))
    go false e = refl

pub positive_found : (text : List ℕ) (n : ℕ) → positive_of text ≡ Some n → IsPositive text n
unfolding positive_of
positive_found text n h = go (number_of text) refl h
  where
    tested : (m : ℕ) → number_of text ≡ Some m → (t : Bool) → m == 0 ≡ t → (if t then None else Some m) ≡ Some n → IsPositive text n
    tested m e true f h = absurd (cc)
    tested m e false f h = let is : m ≡ n = cc in subst (IsPositive text) is (record { number = number_found text m e; from_one = grind (arith, nat_tests) })

    go : (o : Option ℕ) → number_of text ≡ o → (o >>= positive) ≡ Some n → IsPositive text n
    go None e h = absurd (cc)
    go (Some m) e h = tested m e (m == 0) refl h

-- a number has no space
digit_other : (b : ℕ) → is_ascii_digit b ≡ true → (b == 32) ≡ false
digit_other b h = grind (arith, nat_tests)

digits_whole : (text : List ℕ) → Digits text → cut 32 text ≡ None
digits_whole [] h = refl
digits_whole (b ∷ bs) h = go (is_ascii_digit b) refl (digits_whole bs) h
  where
    go : (t : Bool) → is_ascii_digit b ≡ t → (Digits bs → cut 32 bs ≡ None) → (t && list_all is_ascii_digit bs) ≡ true → cut 32 (b ∷ bs) ≡ None
    go true e again h = first_none 32 b bs (digit_other b e) (again h)
    go false e again h = absurd (cc)

pub number_whole : (text : List ℕ) (n : ℕ) → IsNumber text n → cut 32 text ≡ None
number_whole text n h =
    let bound : n ≤ 4_294_967_295 = h.bound in
    ap (cut 32) h.written ∙ digits_whole (decimal n) (digits_decimal own n (omega arith))

-- ---- keys

pub key_there : (text : List ℕ) (key : Key) → IsKey text key → key_of text ≡ Some key
unfolding key_of
key_there text key h =
    ap key_of h.text_is ∙ ap (λ (o : Option ℕ). o >>= λ n. (let k : Key = record { 0 = n } in Some k)) (positive_there h.digits key.0 h.number_is)

first_found : (text : List ℕ) (x : Rest) → first_at text ≡ Some x → text ≡ x.0 ∷ x.1
first_found [] x h = absurd (cc)
first_found (b ∷ bs) x h = go (nat_lt b 128) h
  where
    go : (t : Bool) → (if t then Some (b, bs) else None) ≡ Some x → b ∷ bs ≡ x.0 ∷ x.1
    go true h = let is : (let y : Rest = (b, bs) in y) ≡ x = cc in ap (λ (y : Rest). y.0 ∷ y.1) is
    go false h = absurd (cc)

pub key_found : (text : List ℕ) (key : Key) → key_of text ≡ Some key → IsKey text key
unfolding key_of
key_found text key h = go (first_at text) refl h
  where
    keyed : Option ℕ → Option Key
    keyed o = o >>= λ n. (let k : Key = record { 0 = n } in Some k)

    second : (bs : List ℕ) (o : Option ℕ) → positive_of bs ≡ o → (o >>= λ n. (let k : Key = record { 0 = n } in Some k)) ≡ Some key → IsKey (64 ∷ bs) key
    second bs None e h = absurd (cc)
    second bs (Some n) e h =
        let is : (let k : Key = record { 0 = n } in k) ≡ key = cc in
        subst (IsKey (64 ∷ bs)) is (record { digits = bs; text_is = refl; number_is = positive_found bs n e })

    tested : (f : Rest) → text ≡ f.0 ∷ f.1 → (t : Bool) → f.0 == 64 ≡ t → (if t then (positive_of f.1 >>= λ n. (let k : Key = record { 0 = n } in Some k)) else None) ≡ Some key → IsKey text key
    tested f e true i h = subst (λ l. IsKey l key) (sym (e ∙ ap (λ b. b ∷ f.1) (eqb-true f.0 64 i))) (second f.1 (positive_of f.1) refl h)
    tested f e false i h = absurd (cc)

    go : (o : Option Rest) → first_at text ≡ o → (o >>= λ first. if first.0 == 64 then (positive_of first.1 >>= λ n. (let k : Key = record { 0 = n } in Some k)) else None) ≡ Some key → IsKey text key
    go None e h = absurd (cc)
    go (Some f) e h = tested f (first_found text f e) (f.0 == 64) refl h

pub positive_whole : (text : List ℕ) (n : ℕ) → IsPositive text n → cut 32 text ≡ None
positive_whole text n h = number_whole text n h.number

pub key_whole : (text : List ℕ) (key : Key) → IsKey text key → cut 32 text ≡ None
key_whole text key h = ap (cut 32) h.text_is ∙ first_none 32 64 h.digits refl (positive_whole h.digits key.0 h.number_is)

-- ---- names

name_other : (b : ℕ) → is_name_byte b ≡ true → (b == 32) ≡ false
name_other b h = grind (arith, nat_tests)

letter_other : (b : ℕ) → is_ascii_alphabetic b ≡ true → (b == 32) ≡ false
letter_other b h = grind (arith, nat_tests)

names_whole : (text : List ℕ) → list_all is_name_byte text ≡ true → cut 32 text ≡ None
names_whole [] h = refl
names_whole (b ∷ bs) h = go (is_name_byte b) refl (names_whole bs) h
  where
    go : (t : Bool) → is_name_byte b ≡ t → (list_all is_name_byte bs ≡ true → cut 32 bs ≡ None) → (t && list_all is_name_byte bs) ≡ true → cut 32 (b ∷ bs) ≡ None
    go true e again h = first_none 32 b bs (name_other b e) (again h)
    go false e again h = absurd (cc)

pub name_whole : (text name : List ℕ) → IsName text name → cut 32 text ≡ None
name_whole text name h = ap (cut 32) h.text_is ∙ first_none 32 h.first h.others (letter_other h.first h.letter) (names_whole h.others h.name_bytes)

begins_there : (text name : List ℕ) → IsName text name → begins_name text ≡ true
begins_there text name h = ap begins_name h.text_is ∙ ap (λ t. t && list_all is_name_byte h.others) h.letter ∙ h.name_bytes

pub name_there : (text name : List ℕ) → IsName text name → name_of text ≡ Some name
unfolding name_of
name_there text name h = go (nat_le (length text) 64) refl (begins_name text) (begins_there text name h) ∙ ap Some (sym h.lower_cased)
  where
    go : (x : Bool) → nat_le (length text) 64 ≡ x → (y : Bool) → y ≡ true → (if x && y then Some (map to_ascii_lowercase text) else None) ≡ Some (map to_ascii_lowercase text)
    go true e true f = refl
    go true e false f = absurd (cc)
    go false e y f = let short : length text ≤ 64 = h.short in absurd (grind (arith, nat_tests))

begins_found : (text : List ℕ) → length text ≤ 64 → begins_name text ≡ true → IsName text (map to_ascii_lowercase text)
begins_found [] short h = absurd (cc)
begins_found (b ∷ bs) short h = go (is_ascii_alphabetic b) refl h
  where
    go : (t : Bool) → is_ascii_alphabetic b ≡ t → (t && list_all is_name_byte bs) ≡ true → IsName (b ∷ bs) (map to_ascii_lowercase (b ∷ bs))
    go true e h = record { first = b; others = bs; text_is = refl; letter = e; name_bytes = h; short = short; lower_cased = refl }
    go false e h = absurd (cc)

pub name_found : (text name : List ℕ) → name_of text ≡ Some name → IsName text name
unfolding name_of
name_found text name h = go (nat_le (length text) 64) refl (begins_name text) refl h
  where
    go : (x : Bool) → nat_le (length text) 64 ≡ x → (y : Bool) → begins_name text ≡ y → (if x && y then Some (map to_ascii_lowercase text) else None) ≡ Some name → IsName text name
    go true e true f h = let is : map to_ascii_lowercase text ≡ name = cc in subst (IsName text) is (begins_found text (grind (arith, nat_tests)) f)
    go true e false f h = absurd (cc)
    go false e y f h = absurd (cc)

-- ---- marks

pub mark_there : (text : List ℕ) (mark : Bool) → IsMark text mark → mark_of text ≡ Some mark
unfolding mark_of
mark_there text true h = ap mark_of h
mark_there text false h = ap mark_of h

pub mark_found : (text : List ℕ) (mark : Bool) → mark_of text ≡ Some mark → IsMark text mark
unfolding mark_of
mark_found text mark h = go (bytes_eq text (codes "yes")) refl (bytes_eq text (codes "no")) refl h
  where
    go : (x : Bool) → bytes_eq text (codes "yes") ≡ x → (y : Bool) → bytes_eq text (codes "no") ≡ y → (if x then Some true else (if y then Some false else None)) ≡ Some mark → IsMark text mark
    go true e y f h = let is : true ≡ mark = cc in subst (IsMark text) is (same_text text (codes "yes") (sym e))
    go false e true f h = let is : false ≡ mark = cc in subst (IsMark text) is (same_text text (codes "no") (sym f))
    go false e false f h = absurd (cc)

-- ---- boundaries

boundary_test : (text : List ℕ) → 0 < length text → length text ≤ 70 → list_all is_name_byte text ≡ true → is_boundary text ≡ true
boundary_test text some short h = go (length text == 0) refl (nat_le (length text) 70) refl
  where
    go : (x : Bool) → length text == 0 ≡ x → (y : Bool) → nat_le (length text) 70 ≡ y → (if x then false else (if y then list_all is_name_byte text else false)) ≡ true
    go true e y f = absurd (grind (arith, nat_tests))
    go false e true f = h
    go false e false f = absurd (grind (arith, nat_tests))

pub boundary_there : (literal text : List ℕ) → IsBoundary literal text → boundary_of literal ≡ Some text
unfolding boundary_of
boundary_there literal text h =
    ap (λ (o : Option (List ℕ)). o >>= boundary_if) (literal_there literal text h.quoted)
    ∙ ap (λ t. if t then Some text else None) (boundary_test text h.some h.short h.name_bytes)

pub boundary_found : (literal text : List ℕ) → boundary_of literal ≡ Some text → IsBoundary literal text
unfolding boundary_of
boundary_found literal text h = go (literal_text literal) refl h
  where
    tested : (t : List ℕ) → IsQuoted literal t → (x : Bool) → length t == 0 ≡ x → (y : Bool) → nat_le (length t) 70 ≡ y → (z : Bool) → list_all is_name_byte t ≡ z
        → (if (if x then false else (if y then z else false)) then Some t else None) ≡ Some text → IsBoundary literal text
    tested t q true e y f z g h = absurd (cc)
    tested t q false e false f z g h = absurd (cc)
    tested t q false e true f false g h = absurd (cc)
    tested t q false e true f true g h =
        let is : t ≡ text = cc in
        subst (IsBoundary literal) is (record { quoted = q; name_bytes = g; some = grind (arith, nat_tests); short = grind (arith, nat_tests) })

    go : (o : Option (List ℕ)) → literal_text literal ≡ o → (o >>= boundary_if) ≡ Some text → IsBoundary literal text
    go None e h = absurd (cc)
    go (Some t) e h = tested t (literal_found literal t e) (length t == 0) refl (nat_le (length t) 70) refl (list_all is_name_byte t) refl h
