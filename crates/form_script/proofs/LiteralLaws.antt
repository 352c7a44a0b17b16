-- The inside of a literal, read from the left.
use Rattle.std.proofs.Common.{◌≡◌, ℕ, zero, suc, ◌<◌, ◌≤◌, Bool, true, false, List, [], ◌∷◌, ◌++◌, length, length-append, Option, Some, None, option_map, refl, sym, ap, subst, ◌∙◌, arith, append-nil, ◌&&◌, nat_le, if◌then◌else◌, ◌==◌, nat_lt, is_some}
use Rattle.std.specs.Char.{digit_value, encode_utf8, is_ascii_hexdigit}
use Rattle.std.specs.List.{list_all}
use Rattle.std.specs.Str.Parse.{AllDigits, IsNumeral}
use Rattle.std.proofs.lemmas.Bool.{eqb-true}
use Rattle.std.proofs.lemmas.Bool.Decides.{nat_tests}
use Rattle.form_script.specs.Quoted.{named_escape}
use Rattle.form_script.specs.Reading.{◌>>=◌, character_of, cut, escape_at, first_at, is_hexadecimal, numbered_at, text_by, text_in}
use Rattle.form_script.proofs.CutLaws.{Parts, cut_found, none_first}

-- ---- what stands behind is shorter

abbrev pub Rest : Type 0
Rest = ℕ × List ℕ

pub first_short : (text : List ℕ) (x : Rest) → first_at text ≡ Some x → length x.1 < length text
first_short [] x h = absurd (cc)
first_short (b ∷ bs) x h = go (nat_lt b 128) h
  where
    go : (t : Bool) → (if t then Some (b, bs) else None) ≡ Some x → length x.1 < suc (length bs)
    go true h = let is : (let y : Rest = (b, bs) in y) ≡ x = cc in subst (λ y. length y.1 < suc (length bs)) is (omega arith)
    go false h = absurd (cc)

cut_short : (mark : ℕ) (text : List ℕ) (x : Parts) → cut mark text ≡ Some x → length x.1 < length text
cut_short mark text x h =
    let found : text ≡ x.0 ++ (mark ∷ x.1) = (cut_found mark text x.0 x.1 h).0 in
    subst (λ t. length x.1 < length t) (sym found) (omega (arith, length-append x.0 (mark ∷ x.1)))

numbered_short : (text : List ℕ) (x : Rest) → numbered_at text ≡ Some x → length x.1 < length text
unfolding numbered_at
numbered_short text x h = go (first_at text) refl h
  where
    third : (parts : Parts) (o : Option ℕ) → option_map (λ (c : ℕ). (let y : Rest = (c, parts.1) in y)) o ≡ Some x → parts.1 ≡ x.1
    third parts None h = absurd (cc)
    third parts (Some c) h = let is : (let y : Rest = (c, parts.1) in y) ≡ x = cc in ap (λ (y : Rest). y.1) is

    second : (f : Rest) (o : Option Parts) → cut 125 f.1 ≡ o → (o >>= λ parts. option_map (λ c. (c, parts.1)) (character_of parts.0)) ≡ Some x → length x.1 < length f.1
    second f None e h = absurd (cc)
    second f (Some parts) e h = subst (λ r. length r < length f.1) (third parts (character_of parts.0) h) (cut_short 125 f.1 parts e)

    tested : (f : Rest) (t : Bool) → (if t then (cut 125 f.1 >>= λ parts. option_map (λ c. (c, parts.1)) (character_of parts.0)) else None) ≡ Some x → length x.1 < length f.1
    tested f true h = second f (cut 125 f.1) refl h
    tested f false h = absurd (cc)

    go : (o : Option Rest) → first_at text ≡ o → (o >>= λ first. if first.0 == 123 then (cut 125 first.1 >>= λ parts. option_map (λ c. (c, parts.1)) (character_of parts.0)) else None) ≡ Some x → length x.1 < length text
    go None e h = absurd (cc)
    go (Some f) e h = omega (arith, tested f (f.0 == 123) h, first_short text f e)

pub escape_short : (text : List ℕ) (x : Rest) → escape_at text ≡ Some x → length x.1 < length text
unfolding escape_at
escape_short text x h = go (first_at text) refl h
  where
    named : (f : Rest) (o : Option ℕ) → option_map (λ (c : ℕ). (let y : Rest = (c, f.1) in y)) o ≡ Some x → f.1 ≡ x.1
    named f None h = absurd (cc)
    named f (Some c) h = let is : (let y : Rest = (c, f.1) in y) ≡ x = cc in ap (λ (y : Rest). y.1) is

    tested : (f : Rest) (t : Bool) → (if t then numbered_at f.1 else option_map (λ c. (c, f.1)) (named_escape f.0)) ≡ Some x → length x.1 ≤ length f.1
    tested f true h = omega (arith, numbered_short f.1 x h)
    tested f false h = subst (λ r. length r ≤ length f.1) (named f (named_escape f.0) h) (omega arith)

    go : (o : Option Rest) → first_at text ≡ o → (o >>= λ first. if first.0 == 117 then numbered_at first.1 else option_map (λ c. (c, first.1)) (named_escape first.0)) ≡ Some x → length x.1 < length text
    go None e h = absurd (cc)
    go (Some f) e h = omega (arith, tested f (f.0 == 117) h, first_short text f e)

-- ---- enough turns are enough

abbrev text_escaped : ℕ → Option Rest → Option (List ℕ)
text_escaped n o = o >>= λ e. option_map (λ text. encode_utf8 e.0 ++ text) (text_by n e.1)

pub enough : (n m : ℕ) (text : List ℕ) → length text ≤ n → length text ≤ m → text_by n text ≡ text_by m text
enough zero zero [] h k = refl
enough zero (suc m) [] h k = refl
enough (suc n) zero [] h k = refl
enough (suc n) (suc m) [] h k = refl
enough zero m (b ∷ bs) h k = absurd (omega arith)
enough (suc n) zero (b ∷ bs) h k = absurd (omega arith)
enough (suc n) (suc m) (b ∷ bs) h k = go (enough n m) (b == 92) (b == 34)
  where
    escaped : ((t : List ℕ) → length t ≤ n → length t ≤ m → text_by n t ≡ text_by m t) → (o : Option Rest) → escape_at bs ≡ o → text_escaped n o ≡ text_escaped m o
    escaped again None e = refl
    escaped again (Some x) e =
        let short : length x.1 < length bs = escape_short bs x e in
        ap (option_map (λ text. encode_utf8 x.0 ++ text)) (again x.1 (omega arith) (omega arith))

    go : ((t : List ℕ) → length t ≤ n → length t ≤ m → text_by n t ≡ text_by m t) → (x y : Bool)
        → (if x then text_escaped n (escape_at bs) else (if y then None else option_map (λ text. b ∷ text) (text_by n bs)))
        ≡ (if x then text_escaped m (escape_at bs) else (if y then None else option_map (λ text. b ∷ text) (text_by m bs)))
    go again true y = escaped again (escape_at bs) refl
    go again false true = refl
    go again false false = ap (option_map (λ text. b ∷ text)) (again bs (omega arith) (omega arith))

-- ---- the text, by its first byte

pub text_plain : (b : ℕ) (bs : List ℕ) → b == 92 ≡ false → b == 34 ≡ false → text_in (b ∷ bs) ≡ option_map (λ text. b ∷ text) (text_in bs)
unfolding text_in
text_plain b bs e f = go (b == 92) e (b == 34) f
  where
    go : (x : Bool) → x ≡ false → (y : Bool) → y ≡ false
        → (if x then text_escaped (length bs) (escape_at bs) else (if y then None else option_map (λ text. b ∷ text) (text_by (length bs) bs))) ≡ option_map (λ text. b ∷ text) (text_by (length bs) bs)
    go true e y f = absurd (cc)
    go false e true f = absurd (cc)
    go false e false f = refl

pub text_escape : (bs : List ℕ) (x : Rest) → escape_at bs ≡ Some x → text_in (92 ∷ bs) ≡ option_map (λ text. encode_utf8 x.0 ++ text) (text_in x.1)
unfolding text_in
text_escape bs x e =
    let short : length x.1 < length bs = escape_short bs x e in
    ap (text_escaped (length bs)) e ∙ ap (option_map (λ text. encode_utf8 x.0 ++ text)) (enough (length bs) (length x.1) x.1 (omega arith) (omega arith))

pub text_no_escape : (bs : List ℕ) → escape_at bs ≡ None → text_in (92 ∷ bs) ≡ None
unfolding text_in
text_no_escape bs e = ap (text_escaped (length bs)) e

pub text_quote : (bs : List ℕ) → text_in (34 ∷ bs) ≡ None
unfolding text_in
text_quote bs = refl

pub text_empty : text_in [] ≡ Some []
unfolding text_in
text_empty = refl

-- ---- the text, by a run of bytes that stand for themselves

joined : (b : ℕ) (run : List ℕ) (o : Option (List ℕ)) → option_map (λ text. b ∷ text) (option_map (λ text. run ++ text) o) ≡ option_map (λ text. (b ∷ run) ++ text) o
joined b run None = refl
joined b run (Some text) = refl

same_option : (o : Option (List ℕ)) → o ≡ option_map (λ text. [] ++ text) o
same_option None = refl
same_option (Some text) = refl

pub text_run : (run rest : List ℕ) → cut 92 run ≡ None → cut 34 run ≡ None → text_in (run ++ rest) ≡ option_map (λ text. run ++ text) (text_in rest)
text_run [] rest e f = same_option (text_in rest)
text_run (b ∷ bs) rest e f =
    let p = none_first 92 b bs e in
    let q = none_first 34 b bs f in
    text_plain b (bs ++ rest) p.0 q.0 ∙ ap (option_map (λ text. b ∷ text)) (text_run bs rest p.1 q.1) ∙ joined b bs (text_in rest)

pub text_last : (run : List ℕ) → cut 92 run ≡ None → cut 34 run ≡ None → text_in run ≡ Some run
text_last [] e f = text_empty
text_last (b ∷ bs) e f =
    let p = none_first 92 b bs e in
    let q = none_first 34 b bs f in
    text_plain b bs p.0 q.0 ∙ ap (option_map (λ text. b ∷ text)) (text_last bs p.1 q.1)

-- a bare quote stands for nothing
pub text_bare : (run rest : List ℕ) → cut 92 run ≡ None → is_some (cut 34 run) ≡ true → text_in (run ++ rest) ≡ None
text_bare [] rest e f = absurd (cc)
text_bare (b ∷ bs) rest e f = go (b == 34) refl (cut 34 bs) refl (text_bare bs rest (none_first 92 b bs e).1) f
  where
    go : (t : Bool) → b == 34 ≡ t → (o : Option Parts) → cut 34 bs ≡ o → (is_some (cut 34 bs) ≡ true → text_in (bs ++ rest) ≡ None)
        → is_some {T = Parts} (if t then Some ([], bs) else option_map (λ parts. (b ∷ parts.0, parts.1)) o) ≡ true → text_in (b ∷ (bs ++ rest)) ≡ None
    go true i o g again h = subst (λ x. text_in (x ∷ (bs ++ rest)) ≡ None) (sym (eqb-true b 34 i)) (text_quote (bs ++ rest))
    go false i None g again h = absurd (cc)
    go false i (Some x) g again h =
        text_plain b (bs ++ rest) (none_first 92 b bs e).0 i ∙ ap (option_map (λ text. b ∷ text)) (again (ap is_some g))

pub text_bare_last : (run : List ℕ) → cut 92 run ≡ None → is_some (cut 34 run) ≡ true → text_in run ≡ None
text_bare_last run e f = rw (append-nil run) at (text_bare run [] e f)

-- ---- hexadecimal digits

hex_below : (b : ℕ) → is_ascii_hexdigit b ≡ true → digit_value b < 16
hex_below b h = grind (arith, nat_tests)

all_below : (digits : List ℕ) → list_all is_ascii_hexdigit digits ≡ true → AllDigits 16 digits
all_below [] h = tt
all_below (b ∷ bs) h = go (is_ascii_hexdigit b) refl (all_below bs) h
  where
    go : (t : Bool) → is_ascii_hexdigit b ≡ t → (list_all is_ascii_hexdigit bs ≡ true → AllDigits 16 bs) → (t && list_all is_ascii_hexdigit bs) ≡ true → AllDigits 16 (b ∷ bs)
    go true e again h = (hex_below b e, again h)
    go false e again h = absurd (cc)

-- hexadecimal digits are a numeral, and no more than six
pub hex_numeral : (digits : List ℕ) → is_hexadecimal digits ≡ true → IsNumeral 16 digits × (length digits ≤ 6)
hex_numeral digits h = go (nat_lt 0 (length digits)) refl (nat_le (length digits) 6) refl h
  where
    go : (x : Bool) → nat_lt 0 (length digits) ≡ x → (y : Bool) → nat_le (length digits) 6 ≡ y → (x && (y && list_all is_ascii_hexdigit digits)) ≡ true → IsNumeral 16 digits × (length digits ≤ 6)
    go true e true f h = ((grind (arith, nat_tests), all_below digits h), grind (arith, nat_tests))
    go true e false f h = absurd (cc)
    go false e y f h = absurd (cc)

-- ---- one step

none_of : (o : Option Parts) → is_some o ≡ false → o ≡ None
none_of None h = refl
none_of (Some x) h = absurd (cc)

pub last_begins : (run : List ℕ) → cut 92 run ≡ None → is_some (cut 34 run) ≡ false → text_in run ≡ Some run
last_begins run e f = text_last run e (none_of (cut 34 run) f)

pub bare_begins : (inside plain escaped : List ℕ) → Some (plain, escaped) ≡ cut 92 inside → is_some (cut 34 plain) ≡ true → text_in inside ≡ None
bare_begins inside plain escaped e f =
    let found = cut_found 92 inside plain escaped (sym e) in
    ap text_in found.0 ∙ text_bare plain (92 ∷ escaped) found.1 f

pub wrong_begins : (inside plain escaped : List ℕ) → Some (plain, escaped) ≡ cut 92 inside → is_some (cut 34 plain) ≡ false → None ≡ escape_at escaped → text_in inside ≡ None
wrong_begins inside plain escaped e f g =
    let found = cut_found 92 inside plain escaped (sym e) in
    ap text_in found.0 ∙ text_run plain (92 ∷ escaped) found.1 (none_of (cut 34 plain) f) ∙ ap (option_map (λ text. plain ++ text)) (text_no_escape escaped (sym g))

behind_escape : (plain shown : List ℕ) (o : Option (List ℕ)) → option_map (λ text. plain ++ text) (option_map (λ text. shown ++ text) o) ≡ option_map (λ text. plain ++ (shown ++ text)) o
behind_escape plain shown None = refl
behind_escape plain shown (Some text) = refl

pub escape_begins : (inside plain escaped : List ℕ) (c : ℕ) (rest : List ℕ) → Some (plain, escaped) ≡ cut 92 inside → is_some (cut 34 plain) ≡ false → Some (c, rest) ≡ escape_at escaped
    → (text_in inside ≡ option_map (λ text. plain ++ (encode_utf8 c ++ text)) (text_in rest)) × (length rest < length inside)
escape_begins inside plain escaped c rest e f g =
    let found = cut_found 92 inside plain escaped (sym e) in
    let short : length rest < length escaped = escape_short escaped (c, rest) (sym g) in (
      ap text_in found.0 ∙ text_run plain (92 ∷ escaped) found.1 (none_of (cut 34 plain) f)
          ∙ ap (option_map (λ text. plain ++ text)) (text_escape escaped (c, rest) (sym g))
          ∙ behind_escape plain (encode_utf8 c) (text_in rest),
      subst (λ t. length rest < length t) (sym found.0) (omega (arith, length-append plain (92 ∷ escaped))),
    )
