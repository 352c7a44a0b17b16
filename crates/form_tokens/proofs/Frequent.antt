-- References that are asked first.
use Rattle.std.proofs.Common.{◌≡◌, ◌∙◌, ℕ, ◌+◌, ◌-◌, ◌<◌, List, ◌∷◌, ◌++◌, length, take, drop, get_or, Bool, true, false, nat_lt, ◌&&◌, ◌||◌, [], nat_eq, Result, Ok, zero, suc, if◌then◌else◌, refl, ap, sym, subst, arith, codes}
use Rattle.std.specs.Char.{encode_utf8}
use Rattle.std.specs.Cmp.Lexicographic.{same_text}
use Rattle.std.specs.List.{starts_with}
use Rattle.std.specs.Str.{IsUtf8, IsCharBoundary}
use Rattle.std.proofs.lemmas.List.{take-append-drop}
use Rattle.std.proofs.lemmas.Str.{IsCharBoundary-after_ascii}
use Rattle.form_tokens.specs.Runs.{begins, begins_so, in_class, run_at, run_len}
use Rattle.form_tokens.specs.declared.class.Class.TheVariants as classes
use Rattle.form_tokens.specs.declared.fault.Fault.{Fault}
use Rattle.form_tokens.specs.Readers.{◌>>=◌}
use Rattle.form_tokens.specs.Characters.{chunk_at, shown_at}
use Rattle.form_tokens.specs.declared.chunk.Context.{Context}
use Rattle.form_tokens.specs.References.{IsCommon, begins_named, begins_reference, named, named_at, reference_at}

-- a text that begins with a front
front_is : (front text : List ℕ) → starts_with nat_eq text front ≡ true → front ++ drop (length front) text ≡ text
front_is front text h =
    ap (λ x. x ++ drop (length front) text) (same_text front (take (length front) text) (sym h)) ∙ take-append-drop (length front) text

amp_at : (rest : List ℕ) → IsCommon 38 4 (97 ∷ 109 ∷ 112 ∷ 59 ∷ rest)
unfolding reference_at named_at named run_at
amp_at rest = (refl, refl, omega arith, omega arith, refl)

pub amp : (text : List ℕ) → starts_with nat_eq text (codes "amp;") ≡ true → IsCommon 38 4 text
amp text h = subst (IsCommon 38 4) (front_is (codes "amp;") text h) (amp_at (drop 4 text))

lt_at : (rest : List ℕ) → IsCommon 60 3 (108 ∷ 116 ∷ 59 ∷ rest)
unfolding reference_at named_at named run_at
lt_at rest = (refl, refl, omega arith, omega arith, refl)

pub lt : (text : List ℕ) → starts_with nat_eq text (codes "lt;") ≡ true → IsCommon 60 3 text
lt text h = subst (IsCommon 60 3) (front_is (codes "lt;") text h) (lt_at (drop 3 text))

gt_at : (rest : List ℕ) → IsCommon 62 3 (103 ∷ 116 ∷ 59 ∷ rest)
unfolding reference_at named_at named run_at
gt_at rest = (refl, refl, omega arith, omega arith, refl)

pub gt : (text : List ℕ) → starts_with nat_eq text (codes "gt;") ≡ true → IsCommon 62 3 text
gt text h = subst (IsCommon 62 3) (front_is (codes "gt;") text h) (gt_at (drop 3 text))

quot_at : (rest : List ℕ) → IsCommon 34 5 (113 ∷ 117 ∷ 111 ∷ 116 ∷ 59 ∷ rest)
unfolding reference_at named_at named run_at
quot_at rest = (refl, refl, omega arith, omega arith, refl)

pub quot : (text : List ℕ) → starts_with nat_eq text (codes "quot;") ≡ true → IsCommon 34 5 text
quot text h = subst (IsCommon 34 5) (front_is (codes "quot;") text h) (quot_at (drop 5 text))

-- behind a frequent reference the text may be cut
frequent_cut : (c count b : ℕ) (rest : List ℕ) → IsUtf8 (b ∷ rest) → IsCommon c count rest → IsCharBoundary (b ∷ rest) (count + 1)
frequent_cut c zero b rest u h = absurd (omega (arith, h.2))
frequent_cut c (suc n) b rest u h =
    let before : suc n - 1 ≡ n = omega arith in
    let last : get_or rest n 0 ≡ 59 = subst (λ k. get_or rest k 0 ≡ 59) before h.4 in
    let low : get_or rest n 0 < 128 = omega (arith, last) in
    let inside : suc n < length (b ∷ rest) = omega (arith, h.3) in
    IsCharBoundary-after_ascii (b ∷ rest) (suc n) u inside low

pub frequent_boundary : (c count b : ℕ) (text rest : List ℕ) → text ≡ b ∷ rest → IsUtf8 text → IsCommon c count rest → IsCharBoundary text (count + 1)
frequent_boundary c count b text rest is u h =
    subst (λ (t : List ℕ). IsCharBoundary t (count + 1)) (sym is) (frequent_cut c count b rest (subst IsUtf8 is u) h)

reference : (rest : List ℕ) → begins_named rest ≡ true → begins_reference rest ≡ true
unfolding begins_reference
reference rest h = go (begins 35 rest) h
  where
    go : (b : Bool) → begins_named rest ≡ true → (b || begins_named rest) ≡ true
    go true g = refl
    go false g = g

-- what begins with neither letter nor digit begins with no name
pub no_name : (text : List ℕ) → begins_so (in_class classes.Alphanumeric) text ≡ false → begins_named text ≡ false
no_name [] h = refl
no_name (b ∷ bs) h =
    let none : run_len classes.Alphanumeric (b ∷ bs) ≡ 0 = ap (λ t. if t then 1 + run_len classes.Alphanumeric bs else 0) h in
    ap (λ n. nat_lt 0 n && begins 59 (drop n (b ∷ bs))) none

-- what is read of it
frequent_read : (c count : ℕ) (rest : List ℕ) (context : Context) → IsCommon c count rest → chunk_at context (38 ∷ rest) ≡ Ok (encode_utf8 c, drop count rest)
unfolding chunk_at
frequent_read c count rest context h =
    let read : Result (ℕ × List ℕ) Fault → Result (List ℕ × List ℕ) Fault = λ r. r >>= λ x. Ok (encode_utf8 x.0, x.1) in
    ap (λ b. if b then read (reference_at rest) else shown_at context (38 ∷ rest)) (reference rest h.1) ∙ ap read h.0

pub frequent_value : (c count b : ℕ) (text rest : List ℕ) → text ≡ b ∷ rest → b ≡ 38 → IsCommon c count rest → (context : Context) → chunk_at context text ≡ Ok (encode_utf8 c, drop (count + 1) text)
frequent_value c count b text rest is amp h context =
    let whole : text ≡ 38 ∷ rest = is ∙ ap (λ x. x ∷ rest) amp in
    let more : suc count ≡ count + 1 = omega arith in
    let behind : drop count rest ≡ drop (count + 1) (38 ∷ rest) = ap (λ k. drop k (38 ∷ rest)) more in
    subst (λ (t : List ℕ). chunk_at context t ≡ Ok (encode_utf8 c, drop (count + 1) t)) (sym whole) (frequent_read c count rest context h ∙ ap (λ (xs : List ℕ). Ok (encode_utf8 c, xs)) behind)
