-- Characters that are passed over at once.
use Rattle.std.proofs.Common.{◌≡◌, ℕ, zero, suc, ◌+◌, ◌-◌, ◌<◌, ◌≤◌, List, [], ◌∷◌, take, drop, get_or, slice_index, min, codes, length, Bool, true, false, not, cond, refl, sym, ap, subst, ◌∙◌, arith, if◌then◌else◌, ◌==◌, ◌||◌}
use Rattle.std.specs.List.{list_any, prefix_len}
use Rattle.memchr.specs.Find.{OccursAt}
use Rattle.std.proofs.lemmas.List.Sums.{prefix_len_passes}
use Rattle.std.proofs.lemmas.List.{get_or-take, length-take}
use Rattle.std.proofs.lemmas.Bool.Decides.{nat_tests}
use Rattle.form_tokens.specs.References.{begins_reference}
use Rattle.form_tokens.specs.Characters.{begins_shown, closes_textarea, is_shown_angle, shown_len}
use Rattle.form_tokens.specs.Ahead.{IsClear, ends_plain}
use Rattle.form_tokens.specs.Runs.{is_other}
use Rattle.form_tokens.specs.declared.chunk.Context.{Context}
use Rattle.form_tokens.proofs.Angles.{no_solidus}
use Rattle.form_tokens.specs.declared.chunk.Context.TheVariants as contexts

pub shown_here : (place : Context) (b : ℕ) (bs : List ℕ) → begins_shown place (b ∷ bs) ≡ true → shown_len place (b ∷ bs) ≡ 1 + shown_len place bs
shown_here place b bs e = ap (λ t. if t then suc (shown_len place bs) else 0) e ∙ (let s : suc (shown_len place bs) ≡ 1 + shown_len place bs = omega arith in s)

pub shown_none : (place : Context) (text : List ℕ) → begins_shown place text ≡ false → shown_len place text ≡ 0
shown_none place [] e = refl
shown_none place (b ∷ bs) e = ap (λ t. if t then suc (shown_len place bs) else 0) e

-- the test of one clear byte
abbrev pub is_clear : Context → ℕ → List ℕ → Bool
is_clear place b bs = b == 38 || begins_shown place (b ∷ bs)

clear_other : (place : Context) (b : ℕ) (bs : List ℕ) → is_other 60 b ≡ true → is_other 0 b ≡ true → is_clear place b bs ≡ true
clear_other place b bs f g = go (b == 38) refl (b == 60) refl (b == 0) refl
  where
    go : (x : Bool) → b == 38 ≡ x → (y : Bool) → b == 60 ≡ y → (z : Bool) → b == 0 ≡ z → (x || (if x then not (begins_reference bs) else (if y then is_shown_angle place (b ∷ bs) else not z))) ≡ true
    go true e y h z i = refl
    go false e true h z i = absurd (grind (arith, nat_tests))
    go false e false h true i = absurd (grind (arith, nat_tests))
    go false e false h false i = refl

clear_in_value : (b : ℕ) (bs : List ℕ) → is_other 0 b ≡ true → is_clear contexts.Value b bs ≡ true
clear_in_value b bs g = go (b == 38) refl (b == 60) refl (b == 0) refl
  where
    go : (x : Bool) → b == 38 ≡ x → (y : Bool) → b == 60 ≡ y → (z : Bool) → b == 0 ≡ z → (x || (if x then not (begins_reference bs) else (if y then true else not z))) ≡ true
    go true e y h z i = refl
    go false e true h z i = refl
    go false e false h true i = absurd (grind (arith, nat_tests))
    go false e false h false i = refl

-- bytes other than `<` and U+0000 are clear
pub clear_plain : (place : Context) (n : ℕ) (text : List ℕ) → n ≤ prefix_len (is_other 60) text → n ≤ prefix_len (is_other 0) text → IsClear place n text
clear_plain place zero text h g = tt
clear_plain place (suc n) [] h g = absurd (omega arith)
clear_plain place (suc n) (b ∷ bs) h g = go (clear_plain place n bs) (is_other 60 b) refl h (is_other 0 b) refl g
  where
    go : (n ≤ prefix_len (is_other 60) bs → n ≤ prefix_len (is_other 0) bs → IsClear place n bs)
        → (x : Bool) → is_other 60 b ≡ x → suc n ≤ cond x (1 + prefix_len (is_other 60) bs) 0
        → (y : Bool) → is_other 0 b ≡ y → suc n ≤ cond y (1 + prefix_len (is_other 0) bs) 0 → (is_clear place b bs ≡ true) × IsClear place n bs
    go again true e l true f m = (clear_other place b bs e f, again (omega arith) (omega arith))
    go again true e l false f m = absurd (omega arith)
    go again false e l y f m = absurd (omega arith)

-- in a value bytes other than U+0000 are clear
pub clear_value : (n : ℕ) (text : List ℕ) → n ≤ prefix_len (is_other 0) text → IsClear contexts.Value n text
clear_value zero text g = tt
clear_value (suc n) [] g = absurd (omega arith)
clear_value (suc n) (b ∷ bs) g = go (clear_value n bs) (is_other 0 b) refl g
  where
    go : (n ≤ prefix_len (is_other 0) bs → IsClear contexts.Value n bs)
        → (y : Bool) → is_other 0 b ≡ y → suc n ≤ cond y (1 + prefix_len (is_other 0) bs) 0 → (is_clear contexts.Value b bs ≡ true) × IsClear contexts.Value n bs
    go again true f m = (clear_in_value b bs f, again (omega arith))
    go again false f m = absurd (omega arith)

clear_no_end : (b : ℕ) (bs : List ℕ) → is_other 0 b ≡ true → (b ≡ 60 → get_or bs 0 0 ≡ 47 → ⊥) → is_clear contexts.Textarea b bs ≡ true
clear_no_end b bs g none = go (b == 38) refl (b == 60) refl (b == 0) refl
  where
    go : (x : Bool) → b == 38 ≡ x → (y : Bool) → b == 60 ≡ y → (z : Bool) → b == 0 ≡ z → (x || (if x then not (begins_reference bs) else (if y then not (closes_textarea (b ∷ bs)) else not z))) ≡ true
    go true e y h z i = refl
    go false e true h z i = ap not (no_solidus (b ∷ bs) (λ two. none (grind (arith, nat_tests)) two))
    go false e false h true i = absurd (grind (arith, nat_tests))
    go false e false h false i = refl

-- in a textarea bytes other than U+0000 are clear where no `<` has `/` behind it
pub clear_angles : (n : ℕ) (text : List ℕ) → n ≤ prefix_len (is_other 0) text → ((i : ℕ) → i < n → get_or text i 0 ≡ 60 → get_or text (suc i) 0 ≡ 47 → ⊥) → IsClear contexts.Textarea n text
clear_angles zero text g none = tt
clear_angles (suc n) [] g none = absurd (omega arith)
clear_angles (suc n) (b ∷ bs) g none = go (clear_angles n bs) (is_other 0 b) refl g
  where
    go : (n ≤ prefix_len (is_other 0) bs → ((i : ℕ) → i < n → get_or bs i 0 ≡ 60 → get_or bs (suc i) 0 ≡ 47 → ⊥) → IsClear contexts.Textarea n bs)
        → (y : Bool) → is_other 0 b ≡ y → suc n ≤ cond y (1 + prefix_len (is_other 0) bs) 0 → (is_clear contexts.Textarea b bs ≡ true) × IsClear contexts.Textarea n bs
    go again true f m = (clear_no_end b bs f (none 0 (omega arith)), again (omega arith) (λ i lt. none (suc i) (omega arith)))
    go again false f m = absurd (omega arith)

within_47 : (text : List ℕ) (k : ℕ) → get_or text k 0 ≡ 47 → k < length text
within_47 [] k e = absurd (cc)
within_47 (b ∷ bs) zero e = omega arith
within_47 (b ∷ bs) (suc k) e = let lt = within_47 bs k e in omega arith

-- the same where `</` does not begin among the bytes that were searched, one more than are near
pub clear_until : (n near : ℕ) (text : List ℕ) → n ≤ near → n ≤ prefix_len (is_other 0) text
    → ((k : ℕ) → k < n → OccursAt (take (min (near + 1) (length text)) text) (codes "</") k → ⊥) → IsClear contexts.Textarea n text
clear_until n near text le g none = clear_angles n text g (λ i lt a b. none i lt (there i lt a b))
  where
    m : ℕ
    m = min (near + 1) (length text)

    there : (i : ℕ) → i < n → get_or text i 0 ≡ 60 → get_or text (suc i) 0 ≡ 47 → OccursAt (take m text) (codes "</") i
    there i lt a b =
        let inside : suc i < length text = within_47 text (suc i) b in
        let room : suc i < m = omega (arith, lt, le, inside) in
        record {
          fits = omega (arith, length-take m text, room);
          reads = λ j jlt. reads i room a b j jlt;
        }
      where
        reads : (i : ℕ) → suc i < m → get_or text i 0 ≡ 60 → get_or text (suc i) 0 ≡ 47 → (j : ℕ) → j < 2 → slice_index (take m text) (i + j) ≡ slice_index (codes "</") j
        reads i room a b zero jlt = get_or-take m text (i + 0) 0 (omega arith) ∙ (ap (λ k. get_or text k 0) (let e : i + 0 ≡ i = omega arith in e) ∙ a)
        reads i room a b (suc zero) jlt = get_or-take m text (i + 1) 0 (omega arith) ∙ (ap (λ k. get_or text k 0) (let e : i + 1 ≡ suc i = omega arith in e) ∙ b)
        reads i room a b (suc (suc j)) jlt = absurd (omega arith)

-- a front has no longer run
pub taken : (p : ℕ → Bool) (k : ℕ) (xs : List ℕ) → prefix_len p (take k xs) ≤ prefix_len p xs
taken p zero xs = omega arith
taken p (suc k) [] = omega arith
taken p (suc k) (x ∷ xs) = go (p x) (taken p k xs)
  where
    go : (t : Bool) → prefix_len p (take k xs) ≤ prefix_len p xs → cond t (1 + prefix_len p (take k xs)) 0 ≤ cond t (1 + prefix_len p xs) 0
    go true h = omega arith
    go false h = omega arith

pub clear_within : (place : Context) (n : ℕ) (text : List ℕ) → IsClear place n text → n ≤ length text
clear_within place zero text h = omega arith
clear_within place (suc n) [] h = absurd h
clear_within place (suc n) (b ∷ bs) h = let le = clear_within place n bs h.1 in omega arith

-- behind some bytes fewer are clear
pub clear_behind : (place : Context) (k n : ℕ) (text : List ℕ) → IsClear place n text → IsClear place (n - k) (drop k text)
clear_behind place zero n text h = subst (λ m. IsClear place m text) (let e : n ≡ n - 0 = omega arith in e) h
clear_behind place (suc k) zero text h = subst (λ m. IsClear place m (drop (suc k) text)) (let e : 0 ≡ 0 - suc k = omega arith in e) tt
clear_behind place (suc k) (suc n) [] h = absurd h
clear_behind place (suc k) (suc n) (b ∷ bs) h = subst (λ m. IsClear place m (drop k bs)) (let e : n - k ≡ suc n - suc k = omega arith in e) (clear_behind place k n bs h.1)

-- clear bytes other than `&` are characters
pub clear_shown : (place : Context) (k n : ℕ) (text : List ℕ) → IsClear place n text → k ≤ n → k ≤ prefix_len (is_other 38) text → shown_len place text ≡ k + shown_len place (drop k text)
clear_shown place zero n text h le lt = let z : shown_len place text ≡ 0 + shown_len place text = omega arith in z
clear_shown place (suc k) zero text h le lt = absurd (omega arith)
clear_shown place (suc k) (suc n) [] h le lt = absurd h
clear_shown place (suc k) (suc n) (b ∷ bs) h le lt = go (clear_shown place k n bs h.1 (omega arith)) (b == 38) refl h.0 lt
  where
    go : (k ≤ prefix_len (is_other 38) bs → shown_len place bs ≡ k + shown_len place (drop k bs))
        → (t : Bool) → b == 38 ≡ t → (t || begins_shown place (b ∷ bs)) ≡ true → suc k ≤ cond (not t) (1 + prefix_len (is_other 38) bs) 0
        → shown_len place (b ∷ bs) ≡ suc k + shown_len place (drop k bs)
    go again true e s l = absurd (omega arith)
    go again false e s l = let more = again (omega arith) in let one = shown_here place b bs s in omega arith

-- no `</` begins before the byte in front of the first `/`
pub no_end_before : (b k : ℕ) (behind : List ℕ) → k < prefix_len (is_other 47) behind → OccursAt (b ∷ behind) (codes "</") k → ⊥
no_end_before b k behind lt h =
    let one : suc k ≡ k + 1 = omega arith in
    let solidus : get_or behind k 0 ≡ 47 = ap (λ i. slice_index (b ∷ behind) i) one ∙ h.reads 1 (omega arith) in
    let other : is_other 47 (get_or behind k 0) ≡ true = prefix_len_passes (is_other 47) behind k 0 lt in
    absurd (let no : is_other 47 47 ≡ true = subst (λ x. is_other 47 x ≡ true) solidus other in cc)

-- where no byte of a front is a `&` or U+0000, the first of them stands behind the front
pub plain_front : (n : ℕ) (text : List ℕ) → n ≤ length text → list_any ends_plain (take n text) ≡ false → (n ≤ prefix_len (is_other 0) text) × (n ≤ prefix_len (is_other 38) text)
plain_front zero text le e = (omega arith, omega arith)
plain_front (suc n) [] le e = absurd (omega arith)
plain_front (suc n) (b ∷ bs) le e = go (plain_front n bs (omega arith)) (b == 38) refl (b == 0) refl e
  where
    go : (list_any ends_plain (take n bs) ≡ false → (n ≤ prefix_len (is_other 0) bs) × (n ≤ prefix_len (is_other 38) bs))
        → (x : Bool) → b == 38 ≡ x → (y : Bool) → b == 0 ≡ y → ((x || y) || list_any ends_plain (take n bs)) ≡ false
        → (suc n ≤ cond (not (b == 0)) (1 + prefix_len (is_other 0) bs) 0) × (suc n ≤ cond (not (b == 38)) (1 + prefix_len (is_other 38) bs) 0)
    go again true f y g h = absurd (cc)
    go again false f true g h = absurd (cc)
    go again false f false g h =
        let more = again h in (
          subst (λ t. suc n ≤ cond (not t) (1 + prefix_len (is_other 0) bs) 0) (sym g) (omega (arith, more.0)),
          subst (λ t. suc n ≤ cond (not t) (1 + prefix_len (is_other 38) bs) 0) (sym f) (omega (arith, more.1)),
        )
