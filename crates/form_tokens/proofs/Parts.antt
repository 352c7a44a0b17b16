-- Parts of characters and references make up chunks.
use Rattle.std.proofs.Common.{◌≡◌, ℕ, zero, suc, ◌+◌, ◌<◌, ◌≤◌, List, [], ◌∷◌, ◌++◌, Result, Ok, Err, Bool, true, false, not, ◌&&◌, ◌||◌, ◌==◌, if◌then◌else◌, take, cond, drop, length, length-drop, nat_lt, refl, sym, ap, subst, ◌∙◌, arith, inl, inr, ◌⊎◌, append_assoc, append-nil}
use Rattle.std.specs.List.{prefix_len}
use Rattle.std.proofs.Math.Seq.{take-add}
use Rattle.std.proofs.lemmas.Bool.{cases_lt, lt-ltb}
use Rattle.std.proofs.lemmas.List.{drop-drop}
use Rattle.std.proofs.lemmas.Bool.Decides.{nat_tests}
use Rattle.std.specs.Char.{encode_utf8}
use Rattle.form_tokens.specs.Characters.{AreChunks, HaltsAt, IsReadTo, begins_shown, chunk_at, closes_textarea, goes_on, is_reference, is_shown_angle, is_some_text, joined, shown_at, shown_len}
use Rattle.form_tokens.specs.Ahead.{AreParts, IsClear, IsPart, ends_run}
use Rattle.form_tokens.specs.Readers.{Fails, ◌>>=◌}
use Rattle.form_tokens.specs.References.{begins_reference, reference_at}
use Rattle.form_tokens.specs.Runs.{begins, behind, is_other}
use Rattle.form_tokens.specs.declared.chunk.Context.{Context}
use Rattle.form_tokens.specs.declared.chunk.Context.TheVariants as contexts
use Rattle.form_tokens.specs.declared.fault.Fault.{Fault}
use Rattle.form_tokens.specs.declared.fault.Fault.TheVariants.{Lexical}
use Rattle.form_tokens.specs.declared.fault.Stop.{Stop}
use Rattle.form_tokens.specs.declared.fault.Stop.TheVariants as stops
use Rattle.form_tokens.proofs.Angles.{no_angle}
use Rattle.form_tokens.proofs.Chunks.{chunk_shorter}
use Rattle.form_tokens.proofs.Shorter.{shown_within}
use Rattle.form_tokens.proofs.Texts.{clear_shown, shown_here, shown_none}

-- one part
pub one_part : (place : Context) (text part rest : List ℕ) → goes_on place text ≡ true → IsPart place text part rest → AreParts place (part ∷ []) text rest
one_part place text part rest g e = (rest, g, e, refl)

-- more parts behind parts
pub parts_more : (place : Context) (parts more : List (List ℕ)) (text rest behind : List ℕ) → AreParts place parts text rest → AreParts place more rest behind → AreParts place (parts ++ more) text behind
parts_more place [] more text rest behind c d = subst (λ (x : List ℕ). AreParts place more x behind) (sym c) d
parts_more place (x ∷ xs) more text rest behind c d = (c.0, c.1, c.2, parts_more place xs more c.0 rest behind c.3 d)

pub part_shorter : (place : Context) (text part rest : List ℕ) → IsPart place text part rest → length rest < length text
part_shorter place text part rest (inl run) = omega (arith, ap length run.4, length-drop run.0 text, shown_within place text, run.1, run.2)
part_shorter place text part rest (inr e) = chunk_shorter place text rest part e

-- what is shown behind some of what is shown
shown_drop : (place : Context) (k : ℕ) (text : List ℕ) → k ≤ shown_len place text → shown_len place text ≡ k + shown_len place (drop k text)
shown_drop place zero text le = let z : shown_len place text ≡ 0 + shown_len place text = omega arith in z
shown_drop place (suc k) [] le = absurd (omega arith)
shown_drop place (suc k) (b ∷ bs) le = go (shown_drop place k bs) (begins_shown place (b ∷ bs)) refl le
  where
    go : (k ≤ shown_len place bs → shown_len place bs ≡ k + shown_len place (drop k bs)) → (t : Bool) → begins_shown place (b ∷ bs) ≡ t
        → suc k ≤ (if t then suc (shown_len place bs) else 0) → shown_len place (b ∷ bs) ≡ suc k + shown_len place (drop k bs)
    go again true e l = let one = shown_here place b bs e in let more = again (omega arith) in omega arith
    go again false e l = absurd (omega arith)

begins_some : (place : Context) (text : List ℕ) → 0 < shown_len place text → begins_shown place text ≡ true
begins_some place text lt = go (begins_shown place text) refl
  where
    go : (t : Bool) → begins_shown place text ≡ t → t ≡ true
    go true e = refl
    go false e = absurd (omega (arith, shown_none place text e))

shown_no_reference : (place : Context) (text : List ℕ) → begins_shown place text ≡ true → is_reference text ≡ false
shown_no_reference place [] e = refl
shown_no_reference place (b ∷ bs) e = go (b == 38) refl e
  where
    go : (x : Bool) → b == 38 ≡ x → (if x then not (begins_reference bs) else (if b == 60 then is_shown_angle place (b ∷ bs) else not (b == 0))) ≡ true → (x && begins_reference bs) ≡ false
    go true h i = flip (begins_reference bs) i
      where
        flip : (t : Bool) → not t ≡ true → t ≡ false
        flip true i = absurd (cc)
        flip false i = refl
    go false h i = refl

-- all characters at the front are one chunk
whole_run : (place : Context) (text : List ℕ) → 0 < shown_len place text → chunk_at place text ≡ Ok (take (shown_len place text) text, drop (shown_len place text) text)
unfolding chunk_at shown_at
whole_run place text lt =
    let none : is_reference text ≡ false = shown_no_reference place text (begins_some place text lt) in
    let f : Bool → Result (List ℕ × List ℕ) Fault = λ t. if t then Ok (take (shown_len place text) text, drop (shown_len place text) text) else Err Lexical in
    ap (λ t. if t then (behind 38 text >>= reference_at >>= λ x. Ok (encode_utf8 x.0, x.1)) else shown_at place text) none ∙ ap f (lt-ltb 0 (shown_len place text) lt)

and_not : (a b : Bool) → a ≡ true → b ≡ false → (a && not b) ≡ true
and_not true true e f = absurd (cc)
and_not true false e f = refl
and_not false b e f = absurd (cc)

-- where a character stands there are more of them
shown_on : (place : Context) (text : List ℕ) → begins_shown place text ≡ true → goes_on place text ≡ true
shown_on place [] e = absurd (cc)
shown_on contexts.Value (b ∷ bs) e = lt-ltb 0 (length (b ∷ bs)) (omega arith)
shown_on contexts.Content (b ∷ bs) e = and_not (is_some_text (b ∷ bs)) (b == 60) (lt-ltb 0 (length (b ∷ bs)) (omega arith)) (go (b == 38) refl (b == 60) refl e)
  where
    go : (x : Bool) → b == 38 ≡ x → (y : Bool) → b == 60 ≡ y → (if x then not (begins_reference bs) else (if y then false else not (b == 0))) ≡ true → y ≡ false
    go x h false i j = refl
    go true h true i j = absurd (grind (arith, nat_tests))
    go false h true i j = absurd (cc)
shown_on contexts.Textarea (b ∷ bs) e = and_not (is_some_text (b ∷ bs)) (closes_textarea (b ∷ bs)) (lt-ltb 0 (length (b ∷ bs)) (omega arith)) (go (b == 38) refl (b == 60) refl e)
  where
    none : (t : Bool) → not t ≡ true → t ≡ false
    none true i = absurd (cc)
    none false i = refl

    go : (x : Bool) → b == 38 ≡ x → (y : Bool) → b == 60 ≡ y → (if x then not (begins_reference bs) else (if y then not (closes_textarea (b ∷ bs)) else not (b == 0))) ≡ true → closes_textarea (b ∷ bs) ≡ false
    go x h false i j = no_angle b bs (λ same. absurd (grind (arith, nat_tests)))
    go true h true i j = absurd (grind (arith, nat_tests))
    go false h true i j = none (closes_textarea (b ∷ bs)) j

-- nothing more can be read
abbrev pub Stops : Context → List ℕ → Type 0
Stops place rest = (chunk between : List ℕ) → goes_on place rest ≡ true → chunk_at place rest ≡ Ok (chunk, between) → ⊥

-- the parts make up chunks
abbrev pub Made : Context → List (List ℕ) → List ℕ → List ℕ → Type 0
Made place parts text rest = (chunks : List (List ℕ)) × AreChunks place chunks text rest × (joined chunks ≡ joined parts)

run_made : (place : Context) (k : ℕ) (parts : List (List ℕ)) (text rest : List ℕ) → Stops place rest → goes_on place text ≡ true → 0 < k → k ≤ shown_len place text → Made place parts (drop k text) rest → Made place (take k text ∷ parts) text rest
run_made place k parts text rest s g some le m = go (cases_lt k (shown_len place text))
  where
    d : List ℕ
    d = drop k text

    n : ℕ
    n = shown_len place d

    sum : shown_len place text ≡ k + n
    sum = shown_drop place k text le

    whole : chunk_at place text ≡ Ok (take (k + n) text, drop (k + n) text)
    whole = subst (λ j. chunk_at place text ≡ Ok (take j text, drop j text)) sum (whole_run place text (omega (arith, some, le)))

    split : 0 < n → (chunks : List (List ℕ)) → AreChunks place chunks d rest → joined chunks ≡ joined parts → Made place (take k text ∷ parts) text rest
    split lt [] a j =
        absurd (s (take n d) (drop n d) (subst (λ (x : List ℕ). goes_on place x ≡ true) a (shown_on place d (begins_some place d lt))) (subst (λ (x : List ℕ). chunk_at place x ≡ Ok (take n d, drop n d)) a (whole_run place d lt)))
    split lt (x ∷ xs) a j =
        let same : (let r : Result (List ℕ × List ℕ) Fault = Ok (x, a.0) in r) ≡ Ok (take n d, drop n d) = sym a.2 ∙ whole_run place d lt in
        let pair : (let y : List ℕ × List ℕ = (x, a.0) in y) ≡ (take n d, drop n d) = cc in
        let front : x ≡ take n d = ap (λ (y : List ℕ × List ℕ). y.0) pair in
        let back : a.0 ≡ drop n d = ap (λ (y : List ℕ × List ℕ). y.1) pair in
        let behind : drop (k + n) text ≡ a.0 = sym (drop-drop n k text) ∙ sym back in
        let read : chunk_at place text ≡ Ok (take (k + n) text, a.0) = whole ∙ ap (λ (y : List ℕ). Ok (take (k + n) text, y)) behind in
        let bytes : take (k + n) text ++ joined xs ≡ take k text ++ joined parts =
        ap (λ (y : List ℕ). y ++ joined xs) (take-add k n text ∙ ap (λ (y : List ℕ). take k text ++ y) (sym front))
        ∙ (append_assoc (take k text) x (joined xs) ∙ ap (λ (y : List ℕ). take k text ++ y) j) in
        (take (k + n) text ∷ xs, (a.0, g, read, a.3), bytes)

    go : (k < shown_len place text) ⊎ (shown_len place text ≤ k) → Made place (take k text ∷ parts) text rest
    go (inl lt) = split (omega (arith, sum)) m.0 m.1 m.2
    go (inr ge) =
        let all : k + n ≡ k = omega (arith, sum) in
        (take k text ∷ m.0, (d, g, subst (λ j. chunk_at place text ≡ Ok (take j text, drop j text)) all whole, m.1), ap (λ (y : List ℕ). take k text ++ y) m.2)

parts_chunks : (place : Context) (parts : List (List ℕ)) (text rest : List ℕ) → Stops place rest → AreParts place parts text rest → Made place parts text rest
parts_chunks place [] text rest s c = ([], c, refl)
parts_chunks place (part ∷ parts) text rest s c = go c.2 (parts_chunks place parts c.0 rest s c.3)
  where
    go : IsPart place text part c.0 → Made place parts c.0 rest → Made place (part ∷ parts) text rest
    go (inl run) m = subst (λ (p : List ℕ). Made place (p ∷ parts) text rest) (sym run.3) (run_made place run.0 parts text rest s c.1 run.1 run.2 (subst (λ (x : List ℕ). Made place parts x rest) run.4 m))
    go (inr e) m = (part ∷ m.0, (c.0, c.1, e, m.1), ap (λ (xs : List ℕ). part ++ xs) m.2)

-- all characters and references are read
pub parts_read : (place : Context) (parts : List (List ℕ)) (text rest : List ℕ) → AreParts place parts text rest → goes_on place rest ≡ false → Made place parts text rest
parts_read place parts text rest c e = parts_chunks place parts text rest (λ chunk between g h. absurd (cc)) c

-- or there is a fault
pub parts_halt : (place : Context) (parts : List (List ℕ)) (text rest : List ℕ) (stop : Stop) → AreParts place parts text rest → goes_on place rest ≡ true → Fails stop (chunk_at place rest) → HaltsAt place text (length rest) stop
parts_halt place parts text rest stops.Memory c g e = tt
parts_halt place parts text rest (stops.At kind) c g e =
    let m = parts_chunks place parts text rest (λ chunk between i h. absurd (cc)) c in
    (m.0, rest, m.1, g, refl, e)

-- where neither a character nor a `&` stands, nothing is read
pub no_chunk : (place : Context) (text : List ℕ) → ends_run false place text ≡ true → begins 38 text ≡ false → chunk_at place text ≡ Err Lexical
unfolding chunk_at shown_at
no_chunk place text h e =
    let none : begins_shown place text ≡ false = only (begins 38 text) (begins_shown place text) h e in
    let f : Bool → Result (List ℕ × List ℕ) Fault = λ t. if t then Ok (take (shown_len place text) text, drop (shown_len place text) text) else Err Lexical in
    ap (λ t. if t then (behind 38 text >>= reference_at >>= λ x. Ok (encode_utf8 x.0, x.1)) else shown_at place text) (no_reference text e) ∙ ap f (ap (nat_lt 0) (shown_none place text none))
  where
    only : (a b : Bool) → (a || not b) ≡ true → a ≡ false → b ≡ false
    only true b h e = absurd (cc)
    only false true h e = absurd (cc)
    only false false h e = refl

    no_reference : (text : List ℕ) → begins 38 text ≡ false → is_reference text ≡ false
    no_reference [] e = refl
    no_reference (b ∷ bs) e = ap (λ t. t && begins_reference bs) e

-- a `&` that begins no reference is a character
pub ampersand_some : (place : Context) (text : List ℕ) → begins 38 text ≡ true → is_reference text ≡ false → 0 < shown_len place text
ampersand_some place [] h e = absurd (cc)
ampersand_some place (b ∷ bs) h e = go (b == 38) refl h e
  where
    none : (t : Bool) → t ≡ false → not t ≡ true
    none true i = absurd (cc)
    none false i = refl

    go : (x : Bool) → b == 38 ≡ x → x ≡ true → (x && begins_reference bs) ≡ false → 0 < shown_len place (b ∷ bs)
    go true is h i =
        let shown : begins_shown place (b ∷ bs) ≡ true = ap (λ x. if x then not (begins_reference bs) else (if b == 60 then is_shown_angle place (b ∷ bs) else not (b == 0))) is ∙ none (begins_reference bs) i in
        omega (arith, shown_here place b bs shown)
    go false is h i = absurd (cc)

-- a run that passes each `&` has all characters
pub passed_all : (place : Context) (text : List ℕ) (count : ℕ) → shown_len place text ≡ count + shown_len place (drop count text) → ends_run true place (drop count text) ≡ true → count ≡ shown_len place text
passed_all place text count e h = let none : shown_len place (drop count text) ≡ 0 = shown_none place (drop count text) (flip (begins_shown place (drop count text)) h) in omega (arith, e, none)
  where
    flip : (b : Bool) → not b ≡ true → b ≡ false
    flip true i = absurd (cc)
    flip false i = refl

-- where characters end, none stands
pub none_on : (place : Context) (text : List ℕ) → goes_on place text ≡ false → shown_len place text ≡ 0
none_on place text e = go (begins_shown place text) refl
  where
    go : (t : Bool) → begins_shown place text ≡ t → shown_len place text ≡ 0
    go true f = absurd (let on : goes_on place text ≡ true = shown_on place text f in cc)
    go false f = shown_none place text f

-- characters without a reference are read where they end
pub run_read : (place : Context) (k : ℕ) (text : List ℕ) → 0 < k → k ≡ shown_len place text → goes_on place (drop k text) ≡ false → IsReadTo place (take k text ∷ []) text (drop k text)
run_read place k text lt e ends =
    let some : 0 < shown_len place text = omega (arith, lt, e) in
    let read : chunk_at place text ≡ Ok (take k text, drop k text) = subst (λ n. chunk_at place text ≡ Ok (take n text, drop n text)) (sym e) (whole_run place text some) in
    ((drop k text, shown_on place text (begins_some place text some), read, refl), ends)

-- where a byte is clear, characters go on
pub clear_on : (place : Context) (n : ℕ) (text : List ℕ) → 0 < n → IsClear place n text → goes_on place text ≡ true
clear_on place zero text lt h = absurd (omega arith)
clear_on place (suc n) [] lt h = absurd h
clear_on place (suc n) (b ∷ bs) lt h = go (b == 38) refl h.0
  where
    some : (is_some_text (b ∷ bs)) ≡ true
    some = lt-ltb 0 (length (b ∷ bs)) (omega arith)

    at_ampersand : (place : Context) → b ≡ 38 → goes_on place (b ∷ bs) ≡ true
    at_ampersand contexts.Value e = some
    at_ampersand contexts.Content e = and_not (is_some_text (b ∷ bs)) (b == 60) some (grind (arith, nat_tests))
    at_ampersand contexts.Textarea e = and_not (is_some_text (b ∷ bs)) (closes_textarea (b ∷ bs)) some (no_angle b bs (λ same. absurd (omega (arith, e, same))))

    go : (x : Bool) → b == 38 ≡ x → (x || begins_shown place (b ∷ bs)) ≡ true → goes_on place (b ∷ bs) ≡ true
    go true e i = at_ampersand place (grind (arith, nat_tests))
    go false e i = shown_on place (b ∷ bs) i

-- where a `&` stands, characters go on
pub ampersand_on : (place : Context) (text : List ℕ) → begins 38 text ≡ true → goes_on place text ≡ true
ampersand_on place [] e = absurd (cc)
ampersand_on place (b ∷ bs) e = clear_on place 1 (b ∷ bs) (omega arith) (ap (λ t. t || begins_shown place (b ∷ bs)) e, tt)

-- what was written behind what was written
pub written_more : (bytes : List ℕ) (parts more : List (List ℕ)) → (bytes ++ joined parts) ++ joined more ≡ bytes ++ joined (parts ++ more)
written_more bytes parts more = append_assoc bytes (joined parts) (joined more) ∙ ap (λ (xs : List ℕ). bytes ++ xs) (sym (joined_both parts more))
  where
    joined_both : (parts more : List (List ℕ)) → joined (parts ++ more) ≡ joined parts ++ joined more
    joined_both [] more = refl
    joined_both (x ∷ xs) more = ap (λ (ys : List ℕ). x ++ ys) (joined_both xs more) ∙ sym (append_assoc x (joined xs) (joined more))

-- some characters
pub run_part : (place : Context) (k : ℕ) (text : List ℕ) → 0 < k → shown_len place text ≡ k + shown_len place (drop k text) → IsPart place text (take k text) (drop k text)
run_part place k text lt e = inl (k, lt, omega (arith, e), refl, refl)

-- characters that are clear, and the reference behind them
pub run_reference : (place : Context) (k n : ℕ) (text bytes behind : List ℕ) → IsClear place n text → k < n → k ≤ prefix_len (is_other 38) text → begins 38 (drop k text) ≡ true → chunk_at place (drop k text) ≡ Ok (bytes, behind)
    → ((parts : List (List ℕ)) × AreParts place parts text behind × (take k text ++ bytes ≡ joined parts)) × (length behind < length text)
run_reference place k n text bytes behind clear lt other ampersand e = go k refl
  where
    on : goes_on place text ≡ true
    on = clear_on place n text (omega (arith, lt)) clear

    second : AreParts place (bytes ∷ []) (drop k text) behind
    second = one_part place (drop k text) bytes behind (ampersand_on place (drop k text) ampersand) (inr e)

    short : length behind < length (drop k text)
    short = chunk_shorter place (drop k text) behind bytes e

    within : length (drop k text) ≤ length text
    within = omega (arith, length-drop k text)

    go : (j : ℕ) → k ≡ j → ((parts : List (List ℕ)) × AreParts place parts text behind × (take k text ++ bytes ≡ joined parts)) × (length behind < length text)
    go zero is = (
      (bytes ∷ [], subst (λ m. AreParts place (bytes ∷ []) (drop m text) behind) is second, ap (λ m. take m text ++ bytes) is ∙ sym (append-nil bytes)),
      omega (arith, short, within),
    )
    go (suc j) is =
        let run : IsPart place text (take k text) (drop k text) = run_part place k text (omega (arith, is)) (clear_shown place k n text clear (omega (arith, lt)) other) in (
          (take k text ∷ bytes ∷ [], (drop k text, on, run, second), ap (λ (xs : List ℕ). take k text ++ xs) (sym (append-nil bytes))),
          omega (arith, short, within),
        )

-- before the first of a kind in a front another stands, or it is there
pub begins_at : (k n : ℕ) (text : List ℕ) → k ≡ prefix_len (is_other 38) (take n text) → k < n → n ≤ length text → begins 38 (drop k text) ≡ true
begins_at k zero text e lt le = absurd (omega arith)
begins_at k (suc n) [] e lt le = absurd (omega arith)
begins_at k (suc n) (b ∷ bs) e lt le = go (λ j. begins_at j n bs) (b == 38) refl e
  where
    go : ((j : ℕ) → j ≡ prefix_len (is_other 38) (take n bs) → j < n → n ≤ length bs → begins 38 (drop j bs) ≡ true)
        → (t : Bool) → b == 38 ≡ t → k ≡ cond (not t) (1 + prefix_len (is_other 38) (take n bs)) 0 → begins 38 (drop k (b ∷ bs)) ≡ true
    go again true f h = subst (λ m. begins 38 (drop m (b ∷ bs)) ≡ true) (sym h) f
    go again false f h =
        let j : ℕ = prefix_len (is_other 38) (take n bs) in
        let up : suc j ≡ k = omega (arith, h) in
        subst (λ m. begins 38 (drop m (b ∷ bs)) ≡ true) up (again j refl (omega (arith, lt, up)) (omega arith))

-- what was written of characters and a reference
pub written_both : (bytes run c old new : List ℕ) (parts : List (List ℕ)) → old ≡ bytes ++ run → new ≡ old ++ c → run ++ c ≡ joined parts → new ≡ bytes ++ joined parts
written_both bytes run c old new parts e f g =
    f ∙ (ap (λ (xs : List ℕ). xs ++ c) e ∙ (append_assoc bytes run c ∙ ap (λ (xs : List ℕ). bytes ++ xs) g))

pub written_one : (bytes run : List ℕ) → bytes ++ run ≡ bytes ++ joined (run ∷ [])
written_one bytes run = ap (λ (xs : List ℕ). bytes ++ xs) (sym (append-nil run))
