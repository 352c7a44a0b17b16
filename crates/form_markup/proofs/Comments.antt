-- The first end of a comment.
use Rattle.std.proofs.Common.{◌≡◌, ℕ, zero, suc, ◌+◌, ◌-◌, ◌<◌, ◌≤◌, List, [], ◌∷◌, length, drop, get_or, Option, Some, None, option_map, Bool, true, false, refl, sym, ap, subst, ◌∙◌, arith, inl, inr, ◌⊎◌, if◌then◌else◌, nat_eq, nat_le, ◌&&◌, length-drop}
use Rattle.std.proofs.Math.Seq.{drop-nil}
use Rattle.std.specs.List.{prefix_len, starts_with}
use Rattle.std.proofs.lemmas.Bool.{cases_lt, leb-true, le-leb}
use Rattle.std.proofs.lemmas.Bool.Decides.{nat_tests}
use Rattle.std.proofs.lemmas.List.{get_or-drop}
use Rattle.std.proofs.lemmas.List.Sums.{prefix_len_passes}
use Rattle.form_markup.specs.Pieces.{comment_end, comment_len, is_before_end}

pub end_is : (text : List ℕ) → starts_with nat_eq text comment_end ≡ true → (3 ≤ length text) × (get_or text 2 0 ≡ 62)
end_is [] h = absurd (cc)
end_is (x ∷ []) h = absurd (grind arith)
end_is (x ∷ y ∷ []) h = absurd (grind arith)
end_is (x ∷ y ∷ z ∷ rest) h = (omega arith, grind (arith, nat_tests))

-- the comment's last byte is `>`
abbrev pub EndsComment : List ℕ → ℕ → Type 0
EndsComment bs n = (k : ℕ) × (n ≡ suc k) × (n ≤ length bs) × (get_or bs k 0 ≡ 62)

pub comment_some : (bs : List ℕ) (n : ℕ) → comment_len bs ≡ Some n → EndsComment bs n
comment_some [] n e = absurd (cc)
comment_some (b ∷ bs) n e = go (comment_some bs) (starts_with nat_eq (b ∷ bs) comment_end) refl e
  where
    later : (o : Option ℕ) → ((m : ℕ) → o ≡ Some m → EndsComment bs m) → option_map suc o ≡ Some n → EndsComment (b ∷ bs) n
    later None f h = absurd (cc)
    later (Some m) f h =
        let t = f m refl in
        let is : suc m ≡ n = cc in
        let inner : m ≤ length bs = t.2 in
        (suc t.0, sym is ∙ ap suc t.1, omega arith, t.3)

    go : ((m : ℕ) → comment_len bs ≡ Some m → EndsComment bs m) → (t : Bool) → starts_with nat_eq (b ∷ bs) comment_end ≡ t → (if t then Some 3 else option_map suc (comment_len bs)) ≡ Some n → EndsComment (b ∷ bs) n
    go again true is h = let three : 3 ≡ n = cc in let a = end_is (b ∷ bs) is in let long : 3 ≤ length (b ∷ bs) = a.0 in (2, sym three, omega arith, a.1)
    go again false is h = later (comment_len bs) again h

-- `-->` stands at the place
abbrev pub EndsAt : List ℕ → ℕ → Type 0
EndsAt bs i = starts_with nat_eq (drop i bs) comment_end ≡ true

pub ends_nothing : (i : ℕ) → EndsAt [] i → ⊥
ends_nothing i h = let none : starts_with nat_eq (drop i []) comment_end ≡ false = ap (λ (t : List ℕ). starts_with nat_eq t comment_end) (drop-nil i) in absurd (cc)

-- the first of its places is the comment's end
pub first_end : (bs : List ℕ) (i : ℕ) → EndsAt bs i → ((j : ℕ) → j < i → EndsAt bs j → ⊥) → comment_len bs ≡ Some (i + 3)
first_end [] i h none = absurd (ends_nothing i h)
first_end (b ∷ bs) zero h none =
    let f : Bool → Option ℕ = λ t. if t then Some 3 else option_map suc (comment_len bs) in
    ap f h
first_end (b ∷ bs) (suc i) h none = go (starts_with nat_eq (b ∷ bs) comment_end) refl (first_end bs i h (λ j lt k. none (suc j) (omega arith) k))
  where
    f : Bool → Option ℕ
    f t = if t then Some 3 else option_map suc (comment_len bs)

    go : (t : Bool) → starts_with nat_eq (b ∷ bs) comment_end ≡ t → comment_len bs ≡ Some (i + 3) → f t ≡ Some (suc i + 3)
    go true e later = absurd (none 0 (omega arith) e)
    go false e later = ap (option_map suc) later ∙ ap (λ (n : ℕ). Some n) (let n : suc (i + 3) ≡ suc i + 3 = omega arith in n)

pub no_end : (bs : List ℕ) → ((j : ℕ) → EndsAt bs j → ⊥) → comment_len bs ≡ None
no_end [] none = refl
no_end (b ∷ bs) none = go (starts_with nat_eq (b ∷ bs) comment_end) refl (no_end bs (λ j h. none (suc j) h))
  where
    f : Bool → Option ℕ
    f t = if t then Some 3 else option_map suc (comment_len bs)

    go : (t : Bool) → starts_with nat_eq (b ∷ bs) comment_end ≡ t → comment_len bs ≡ None → f t ≡ None
    go true e later = absurd (none 0 e)
    go false e later = ap (option_map suc) later

-- where `-->` stands, its last byte is a `>` of the text
pub last_byte : (bs : List ℕ) (i : ℕ) → EndsAt bs i → (i + 2 < length bs) × (get_or bs (i + 2) 0 ≡ 62)
last_byte bs i h =
    let a = end_is (drop i bs) h in
    let long : 3 ≤ length (drop i bs) = a.0 in
    (omega (arith, length-drop i bs), sym (get_or-drop i bs 2 0) ∙ a.1)

-- none of its places lies wholly before the byte
abbrev pub NoneBy : List ℕ → ℕ → Type 0
NoneBy bs done = (j : ℕ) → j + 3 ≤ done → EndsAt bs j → ⊥

-- behind bytes that are passed over none stands before the next `>`
pub none_to : (bs : List ℕ) (done place : ℕ) → place ≡ done + prefix_len is_before_end (drop done bs) → NoneBy bs done → NoneBy bs place
none_to bs done place e none j le h = go (cases_lt (j + 2) done)
  where
    go : (j + 2 < done) ⊎ (done ≤ j + 2) → ⊥
    go (inl lt) = none j (omega arith) h
    go (inr ge) =
        let last = last_byte bs j h in
        let i : ℕ = j + 2 - done in
        let within : i < prefix_len is_before_end (drop done bs) = omega arith in
        let at : done + i ≡ j + 2 = omega arith in
        let here : get_or (drop done bs) i 0 ≡ 62 = get_or-drop done bs i 0 ∙ (ap (λ k. get_or bs k 0) at ∙ last.1) in
        let passes : is_before_end (get_or (drop done bs) i 0) ≡ true = prefix_len_passes is_before_end (drop done bs) i 0 within in
        let false_is : is_before_end 62 ≡ true = subst (λ b. is_before_end b ≡ true) here passes in
        absurd (cc)

-- a comment ends with the byte at the place
abbrev pub ends_with : List ℕ → ℕ → Bool
ends_with bs place = nat_le 2 place && starts_with nat_eq (drop (place - 2) bs) comment_end

pub none_by : (bs : List ℕ) (place : ℕ) → ends_with bs place ≡ false → NoneBy bs place → NoneBy bs (place + 1)
none_by bs place e none j le h = go (cases_lt (j + 2) place)
  where
    go : (j + 2 < place) ⊎ (place ≤ j + 2) → ⊥
    go (inl lt) = none j (omega arith) h
    go (inr ge) =
        let at : place - 2 ≡ j = omega arith in
        let two : 2 ≤ place = omega arith in
        let low : nat_le 2 place ≡ true = le-leb 2 place two in
        let starts : starts_with nat_eq (drop (place - 2) bs) comment_end ≡ true = subst (λ k. EndsAt bs k) (sym at) h in
        let both : ends_with bs place ≡ true = ap (λ b. b && starts_with nat_eq (drop (place - 2) bs) comment_end) low ∙ starts in
        absurd (cc)

pub end_found : (bs : List ℕ) (place : ℕ) → ends_with bs place ≡ true → NoneBy bs place → comment_len bs ≡ Some (place + 1)
end_found bs place e none = go (nat_le 2 place) refl e
  where
    go : (t : Bool) → nat_le 2 place ≡ t → (t && starts_with nat_eq (drop (place - 2) bs) comment_end) ≡ true → comment_len bs ≡ Some (place + 1)
    go true low h =
        let two : 2 ≤ place = leb-true 2 place low in
        first_end bs (place - 2) h (λ j lt k. none j (omega arith) k) ∙ ap (λ (n : ℕ). Some n) (let n : place - 2 + 3 ≡ place + 1 = omega arith in n)
    go false low h = absurd (cc)

pub end_missing : (bs : List ℕ) (done : ℕ) → length bs ≤ done → NoneBy bs done → comment_len bs ≡ None
end_missing bs done ge none = no_end bs (λ j h. none j (let last : j + 2 < length bs = (last_byte bs j h).0 in omega arith) h)
