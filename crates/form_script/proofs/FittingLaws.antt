-- A boundary, byte by byte.
use Rattle.std.proofs.Common.{◌≡◌, ℕ, ◌+◌, ◌<◌, ◌≤◌, Bool, true, false, List, [], ◌∷◌, ◌++◌, length, length-append, get_or, Option, Some, None, option_map, is_some, refl, sym, ap, subst, ◌∙◌, arith, ◌&&◌, nat_le, nat_lt, if◌then◌else◌, ◌==◌}
use Rattle.std.specs.Char.{encode_utf8}
use Rattle.std.specs.List.{list_all}
use Rattle.std.proofs.lemmas.Bool.Decides.{nat_tests}
use Rattle.std.proofs.lemmas.List.Folds.{list_all-append}
use Rattle.std.proofs.lemmas.Str.{char_from_byte, length-encode}
use Rattle.std.proofs.lemmas.Str.Ascii.{encode_ascii}
use Rattle.form_script.specs.Fitting.{begins_boundary, fits, some_fits}
use Rattle.form_script.specs.Reading.{◌>>=◌, boundary_if, is_boundary}
use Rattle.form_script.specs.Words.{is_name_byte}

-- a boundary fits behind nothing
fits_alone : (text : List ℕ) → fits 0 text ≡ is_boundary text
fits_alone text =
    let none : 0 + length text ≡ length text = omega arith in
    ap (λ (n : ℕ). if n == 0 then false else (if nat_le n 70 then list_all is_name_byte text else false)) none

pub fits_whole : (o : Option (List ℕ)) → some_fits 0 o ≡ is_some (o >>= boundary_if)
fits_whole None = refl
fits_whole (Some text) = ap (λ (t : Bool). is_some {T = List ℕ} (if t then Some text else None)) (fits_alone text)

fitting : (n : ℕ) (text : List ℕ) → some_fits n (Some text) ≡ fits n text
fitting n text = go (fits n text)
  where
    go : (t : Bool) → is_some {T = List ℕ} (if t then Some text else None) ≡ t
    go true = refl
    go false = refl

begins_parts : (n : ℕ) (plain : List ℕ) (c : ℕ) → begins_boundary n plain c ≡ true → ((n + length plain) + 1 ≤ 70) × (is_name_byte c ≡ true) × (list_all is_name_byte plain ≡ true)
begins_parts n plain c h = go (nat_le ((n + length plain) + 1) 70) refl (is_name_byte c) refl h
  where
    go : (x : Bool) → nat_le ((n + length plain) + 1) 70 ≡ x → (y : Bool) → is_name_byte c ≡ y → (if x then (if y then list_all is_name_byte plain else false) else false) ≡ true
        → ((n + length plain) + 1 ≤ 70) × (is_name_byte c ≡ true) × (list_all is_name_byte plain ≡ true)
    go true e true f h = (grind (arith, nat_tests), f, h)
    go true e false f h = absurd (cc)
    go false e y f h = absurd (cc)

name_low : (c : ℕ) → is_name_byte c ≡ true → c < 128
name_low c h = grind (arith, nat_tests)

-- what fits behind more bytes of a boundary
fits_more : (n : ℕ) (plain : List ℕ) (c : ℕ) (text : List ℕ) → begins_boundary n plain c ≡ true → fits n (plain ++ (encode_utf8 c ++ text)) ≡ fits (n + (length plain + 1)) text
fits_more n plain c text h =
    let parts = begins_parts n plain c h in
    let one : encode_utf8 c ≡ c ∷ [] = encode_ascii c (name_low c parts.1) in
    let count : n + length (plain ++ (c ∷ text)) ≡ (n + (length plain + 1)) + length text = omega (arith, length-append plain (c ∷ text)) in
    let names : list_all is_name_byte (plain ++ (c ∷ text)) ≡ list_all is_name_byte text =
    list_all-append is_name_byte plain (c ∷ text) ∙ ap (λ t. t && (is_name_byte c && list_all is_name_byte text)) parts.2 ∙ ap (λ t. t && list_all is_name_byte text) parts.1 in
    ap (λ (x : List ℕ). fits n (plain ++ (x ++ text))) one
    ∙ ap (λ (k : ℕ). if k == 0 then false else (if nat_le k 70 then list_all is_name_byte (plain ++ (c ∷ text)) else false)) count
    ∙ ap (λ (t : Bool). if (n + (length plain + 1)) + length text == 0 then false else (if nat_le ((n + (length plain + 1)) + length text) 70 then t else false)) names

pub goes_on : (n : ℕ) (plain : List ℕ) (c : ℕ) (inside rest : Option (List ℕ)) → inside ≡ option_map (λ text. plain ++ (encode_utf8 c ++ text)) rest → begins_boundary n plain c ≡ true
    → (some_fits n inside ≡ some_fits (n + (length plain + 1)) rest) × (n + (length plain + 1) ≤ 70)
goes_on n plain c inside rest e h =
    (ap (some_fits n) e ∙ more rest, omega (arith, (begins_parts n plain c h).0))
  where
    more : (o : Option (List ℕ)) → some_fits n (option_map (λ text. plain ++ (encode_utf8 c ++ text)) o) ≡ some_fits (n + (length plain + 1)) o
    more None = refl
    more (Some text) = fitting n (plain ++ (encode_utf8 c ++ text)) ∙ fits_more n plain c text h ∙ sym (fitting (n + (length plain + 1)) text)

both : (a b : Bool) → (a && b) ≡ true → (a ≡ true) × (b ≡ true)
both true b h = (refl, h)
both false b h = absurd (cc)

first_name : (bs : List ℕ) → 0 < length bs → list_all is_name_byte bs ≡ true → is_name_byte (get_or bs 0 0) ≡ true
first_name [] some h = absurd (omega arith)
first_name (b ∷ bs) some h = (both (is_name_byte b) (list_all is_name_byte bs) h).0

-- a character whose bytes are name bytes is one
name_encoded : (c : ℕ) (text : List ℕ) → 0 < length (encode_utf8 c) → list_all is_name_byte (encode_utf8 c ++ text) ≡ true → is_name_byte c ≡ true
name_encoded c text some h =
    let bs : List ℕ = encode_utf8 c ++ text in
    let long : 0 < length (encode_utf8 c ++ text) = omega (arith, length-append (encode_utf8 c) text) in
    let first : is_name_byte (get_or (encode_utf8 c ++ text) 0 0) ≡ true = first_name (encode_utf8 c ++ text) long h in
    let same : c ≡ get_or (encode_utf8 c ++ text) 0 0 = char_from_byte (encode_utf8 c ++ text) text c refl (name_low (get_or (encode_utf8 c ++ text) 0 0) first) long in
    subst (λ b. is_name_byte b ≡ true) (sym same) first

pub fails_to_go_on : (n : ℕ) (plain : List ℕ) (c : ℕ) (inside rest : Option (List ℕ)) → 0 < length (encode_utf8 c) → inside ≡ option_map (λ text. plain ++ (encode_utf8 c ++ text)) rest → begins_boundary n plain c ≡ false
    → some_fits n inside ≡ false
fails_to_go_on n plain c inside rest some e h = ap (some_fits n) e ∙ more rest
  where
    tested : (text : List ℕ) → fits n (plain ++ (encode_utf8 c ++ text)) ≡ true → begins_boundary n plain c ≡ true
    tested text f = go ((n + length (plain ++ (encode_utf8 c ++ text))) == 0) refl (nat_le (n + length (plain ++ (encode_utf8 c ++ text))) 70) refl f
      where
        long : n + length (plain ++ (encode_utf8 c ++ text)) ≤ 70 → list_all is_name_byte (plain ++ (encode_utf8 c ++ text)) ≡ true → begins_boundary n plain c ≡ true
        long le all =
            let parts = both (list_all is_name_byte plain) (list_all is_name_byte (encode_utf8 c ++ text)) (sym (list_all-append is_name_byte plain (encode_utf8 c ++ text)) ∙ all) in
            let name : is_name_byte c ≡ true = name_encoded c text some parts.1 in
            let short : (n + length plain) + 1 ≤ 70 = omega (arith, le, some, length-append plain (encode_utf8 c ++ text), length-append (encode_utf8 c) text) in
            let fine : nat_le ((n + length plain) + 1) 70 ≡ true = grind (arith, nat_tests) in
            ap (λ t. if t then (if is_name_byte c then list_all is_name_byte plain else false) else false) fine
            ∙ ap (λ t. if t then list_all is_name_byte plain else false) name ∙ parts.0

        go : (x : Bool) → ((n + length (plain ++ (encode_utf8 c ++ text))) == 0) ≡ x → (y : Bool) → nat_le (n + length (plain ++ (encode_utf8 c ++ text))) 70 ≡ y
            → (if x then false else (if y then list_all is_name_byte (plain ++ (encode_utf8 c ++ text)) else false)) ≡ true → begins_boundary n plain c ≡ true
        go true i y g f = absurd (cc)
        go false i false g f = absurd (cc)
        go false i true g f = long (grind (arith, nat_tests)) f

    decided : (text : List ℕ) (t : Bool) → fits n (plain ++ (encode_utf8 c ++ text)) ≡ t → t ≡ false
    decided text false f = refl
    decided text true f = absurd (let is : true ≡ false = sym (tested text f) ∙ h in cc)

    more : (o : Option (List ℕ)) → some_fits n (option_map (λ text. plain ++ (encode_utf8 c ++ text)) o) ≡ false
    more None = refl
    more (Some text) = fitting n (plain ++ (encode_utf8 c ++ text)) ∙ decided text (fits n (plain ++ (encode_utf8 c ++ text))) refl

-- each character has a byte
pub encoded_some : (c : ℕ) → 0 < length (encode_utf8 c)
encoded_some c = subst (λ n. 0 < n) (sym (length-encode c)) (some (nat_lt c 0x80) (nat_lt c 0x800) (nat_lt c 0x1_0000))
  where
    some : (x y z : Bool) → 0 < (if x then 1 else (if y then 2 else (if z then 3 else 4)))
    some true y z = omega arith
    some false true z = omega arith
    some false false true = omega arith
    some false false false = omega arith
