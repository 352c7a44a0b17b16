-- What is kept of attributes, one after another, is what the definitions say of all of them.
use Rattle.std.proofs.Common.{◌≡◌, ℕ, ◌+◌, ◌||◌, nat_lt, nat_le, List, [], ◌∷◌, ◌++◌, Bool, true, false, length, refl, sym, ap, subst, ◌∙◌, arith, append_assoc, append-nil, length-append, if◌then◌else◌}
use Rattle.std.specs.List.{list_any}
use Rattle.std.proofs.lemmas.Bool.Decides.{nat_tests}
use Rattle.form_tree.specs.Tree.{is_named}
use Rattle.form_tokens.specs.Kept.{added, all_added, attributes, kept_of, kept_with, no_attributes}
use Rattle.form_tokens.specs.Attributes.{firsts_behind, is_long, is_oversized}
use Rattle.form_tokens.specs.declared.TheConstants.{MOST_ATTRIBUTES}
use Rattle.form_tokens.specs.declared.attributes.Attributes.{Attributes}

abbrev pub Attr : Type 0
Attr = List ℕ × List ℕ

pub any_more : (p : Attr → Bool) (xs : List Attr) (y : Attr) → list_any p (xs ++ (y ∷ [])) ≡ (list_any p xs || p y)
any_more p [] y = last (p y)
  where
    last : (b : Bool) → (b || false) ≡ (false || b)
    last true = refl
    last false = refl
any_more p (x ∷ xs) y = go (p x) (any_more p xs y)
  where
    go : (b : Bool) → list_any p (xs ++ (y ∷ [])) ≡ (list_any p xs || p y) → (b || list_any p (xs ++ (y ∷ []))) ≡ ((b || list_any p xs) || p y)
    go true h = refl
    go false h = h

pub firsts_more : (before attrs : List Attr) (attr : Attr) → before ++ firsts_behind before (attrs ++ (attr ∷ [])) ≡ kept_with (before ++ firsts_behind before attrs) attr
firsts_more before [] attr = go (list_any (is_named attr.0) before) ∙ ap (λ (xs : List Attr). kept_with xs attr) (sym (append-nil before))
  where
    go : (b : Bool) → before ++ (if b then [] else attr ∷ []) ≡ (if b then before else before ++ (attr ∷ []))
    go true = append-nil before
    go false = refl
firsts_more before (x ∷ xs) attr = go (list_any (is_named x.0) before) (firsts_more before xs attr) (firsts_more (before ++ (x ∷ [])) xs attr)
  where
    go : (b : Bool) → before ++ firsts_behind before (xs ++ (attr ∷ [])) ≡ kept_with (before ++ firsts_behind before xs) attr
        → (before ++ (x ∷ [])) ++ firsts_behind (before ++ (x ∷ [])) (xs ++ (attr ∷ [])) ≡ kept_with ((before ++ (x ∷ [])) ++ firsts_behind (before ++ (x ∷ [])) xs) attr
        → before ++ (if b then firsts_behind before (xs ++ (attr ∷ [])) else x ∷ firsts_behind (before ++ (x ∷ [])) (xs ++ (attr ∷ [])))
        ≡ kept_with (before ++ (if b then firsts_behind before xs else x ∷ firsts_behind (before ++ (x ∷ [])) xs)) attr
    go true h k = h
    go false h k =
        sym (append_assoc before (x ∷ []) (firsts_behind (before ++ (x ∷ [])) (xs ++ (attr ∷ [])))) ∙ (k
        ∙ ap (λ (ys : List Attr). kept_with ys attr) (append_assoc before (x ∷ []) (firsts_behind (before ++ (x ∷ [])) xs)))

-- what is kept stands for the attributes so far
pub record IsKept (front : List Attr) (a : Attributes) : Type 0 where
  pub over : a.oversized ≡ is_oversized front
  pub kept : is_oversized front ≡ false → a.kept ≡ firsts_behind [] front
  pub count : is_oversized front ≡ false → a.count ≡ length front

pub oversized_more : (front : List Attr) (attr : Attr) → is_oversized (front ++ (attr ∷ [])) ≡ (nat_lt MOST_ATTRIBUTES (length front + 1) || (list_any is_long front || is_long attr))
oversized_more front attr =
    ap (λ n. nat_lt MOST_ATTRIBUTES n || list_any is_long (front ++ (attr ∷ []))) (length-append front (attr ∷ []))
    ∙ ap (λ b. nat_lt MOST_ATTRIBUTES (length front + 1) || b) (any_more is_long front attr)

pub limit_step : (n : ℕ) → nat_lt MOST_ATTRIBUTES (n + 1) ≡ nat_le MOST_ATTRIBUTES n
limit_step n = grind (arith, nat_tests)

pub limit_stays : (n : ℕ) → nat_lt MOST_ATTRIBUTES n ≡ true → nat_lt MOST_ATTRIBUTES (n + 1) ≡ true
limit_stays n h = grind (arith, nat_tests)

pub kept_step : (front : List Attr) (attr : Attr) (a : Attributes) → IsKept front a → IsKept (front ++ (attr ∷ [])) (added a attr)
kept_step front attr a k = go (nat_lt MOST_ATTRIBUTES (length front)) refl (list_any is_long front) refl
  where
    next : Bool → Attributes
    next over = if over then a else (if nat_le MOST_ATTRIBUTES a.count || is_long attr then attributes a.kept a.count true else attributes (kept_with a.kept attr) (a.count + 1) false)

    more : (over : Bool) → is_oversized (front ++ (attr ∷ [])) ≡ true → over ≡ true → a.oversized ≡ over → IsKept (front ++ (attr ∷ [])) (added a attr)
    more over h e o =
        let same : added a attr ≡ a = ap next (o ∙ e) in
        subst (IsKept (front ++ (attr ∷ []))) (sym same) (record { over = (o ∙ e) ∙ sym h; kept = λ f. absurd (let g : true ≡ false = sym h ∙ f in cc); count = λ f. absurd (let g : true ≡ false = sym h ∙ f in cc) })

    fresh : (x y : Bool) → nat_lt MOST_ATTRIBUTES (length front + 1) ≡ x → is_long attr ≡ y → list_any is_long front ≡ false → is_oversized front ≡ false → IsKept (front ++ (attr ∷ [])) (added a attr)
    fresh x y ex ey ef e =
        let none : a.oversized ≡ false = k.over ∙ e in
        let counted : nat_le MOST_ATTRIBUTES a.count ≡ x = ap (λ n. nat_le MOST_ATTRIBUTES n) (k.count e) ∙ (sym (limit_step (length front)) ∙ ex) in
        let all : is_oversized (front ++ (attr ∷ [])) ≡ (x || y) =
        oversized_more front attr ∙ (ap (λ b. b || (list_any is_long front || is_long attr)) ex ∙ (ap (λ b. x || (b || is_long attr)) ef ∙ ap (λ b. x || b) ey)) in
        let to : added a attr ≡ (if x || y then attributes a.kept a.count true else attributes (kept_with a.kept attr) (a.count + 1) false) =
        ap next none ∙ (ap (λ b. if b || is_long attr then attributes a.kept a.count true else attributes (kept_with a.kept attr) (a.count + 1) false) counted
        ∙ ap (λ b. if x || b then attributes a.kept a.count true else attributes (kept_with a.kept attr) (a.count + 1) false) ey) in
        subst (IsKept (front ++ (attr ∷ []))) (sym to) (last (x || y) all e)
      where
        last : (z : Bool) → is_oversized (front ++ (attr ∷ [])) ≡ z → is_oversized front ≡ false → IsKept (front ++ (attr ∷ [])) (if z then attributes a.kept a.count true else attributes (kept_with a.kept attr) (a.count + 1) false)
        last true h e2 = record { over = sym h; kept = λ f. absurd (let g : true ≡ false = sym h ∙ f in cc); count = λ f. absurd (let g : true ≡ false = sym h ∙ f in cc) }
        last false h e2 = record {
          over = sym h;
          kept = λ f. ap (λ (xs : List Attr). kept_with xs attr) (k.kept e2) ∙ sym (firsts_more [] front attr);
          count = λ f. ap (λ n. n + 1) (k.count e2) ∙ sym (length-append front (attr ∷ []));
        }

    go : (p : Bool) → nat_lt MOST_ATTRIBUTES (length front) ≡ p → (q : Bool) → list_any is_long front ≡ q → IsKept (front ++ (attr ∷ [])) (added a attr)
    go true ep q eq =
        let was : is_oversized front ≡ true = ap (λ b. b || list_any is_long front) ep in
        more (is_oversized front) (oversized_more front attr ∙ ap (λ b. b || (list_any is_long front || is_long attr)) (limit_stays (length front) ep)) was k.over
    go false ep true eq =
        let was : is_oversized front ≡ true = ap (λ b. b || list_any is_long front) ep ∙ eq in
        more (is_oversized front) (oversized_more front attr ∙ (ap (λ b. nat_lt MOST_ATTRIBUTES (length front + 1) || (b || is_long attr)) eq ∙ or_true (nat_lt MOST_ATTRIBUTES (length front + 1)))) was k.over
      where
        or_true : (b : Bool) → (b || true) ≡ true
        or_true true = refl
        or_true false = refl
    go false ep false eq = fresh (nat_lt MOST_ATTRIBUTES (length front + 1)) (is_long attr) refl refl eq (ap (λ b. b || list_any is_long front) ep ∙ eq)

pub kept_all : (front attrs : List Attr) (a : Attributes) → IsKept front a → IsKept (front ++ attrs) (all_added a attrs)
kept_all front [] a k = subst (λ (xs : List Attr). IsKept xs a) (sym (append-nil front)) k
kept_all front (x ∷ xs) a k = subst (λ (ys : List Attr). IsKept ys (all_added (added a x) xs)) (append_assoc front (x ∷ []) xs) (kept_all (front ++ (x ∷ [])) xs (added a x) (kept_step front x a k))

pub kept_is : (attrs : List Attr) → IsKept attrs (kept_of attrs)
kept_is attrs = kept_all [] attrs no_attributes (record { over = refl; kept = λ e. refl; count = λ e. refl })

pub added_more : (a : Attributes) (xs : List Attr) (y : Attr) → all_added a (xs ++ (y ∷ [])) ≡ added (all_added a xs) y
added_more a [] y = refl
added_more a (x ∷ xs) y = added_more (added a x) xs y
