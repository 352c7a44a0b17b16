-- Of each radio button group the key of the last checked member is kept.
use Rattle.std.proofs.Common.{◌≡◌, ℕ, suc, ◌+◌, ◌-◌, ◌<◌, Bool, true, false, ◌||◌, ◌&&◌, not, List, [], ◌∷◌, ◌++◌, length, drop, get_or, refl, sym, ap, ◌∙◌, subst, arith}
use Rattle.std.specs.Prelude.{reverse}
use Rattle.std.specs.List.{list_any}
use Rattle.std.proofs.lemmas.List.{reverse-append}
use Rattle.std.proofs.lemmas.List.Folds.{list_any-append}
use Rattle.form_tree.specs.declared.node.Key.{Key}
use Rattle.form_tree.specs.declared.node.Node.{Node}
use Rattle.form_tree.specs.RadioGroup.{is_checked, share_group}
use Rattle.form_tree.specs.Tree.{Nodes}
use Rattle.form_tree.proofs.Laws.{group-sym, group_together}
use Rattle.form_page.specs.Opening.{is_outdone}
use Rattle.form_page.specs.States.{is_last_by, is_outdone_by, outdone_of, with_last_if}
use Rattle.form_page.proofs.Lists.{any_more, drop_here}

-- a checked member of the group of the key
abbrev pub is_checked_with : Nodes → Key → Node → Bool
is_checked_with ns k m = is_checked m && share_group ns k m.key

-- the keys stand for the checked members of all groups
abbrev pub AreLasts : Nodes → List Key → Nodes → Type 0
AreLasts ns lasts behind = (k : Key) → list_any (share_group ns k) lasts ≡ list_any (is_checked_with ns k) behind

module _ (ns behind : Nodes) (n : Node) (lasts : List Key) (stand : AreLasts ns lasts behind) where
  pub outdone_is : (is_checked n && list_any (share_group ns n.key) lasts) ≡ is_outdone ns n behind
  outdone_is = ap (λ (b : Bool). is_checked n && b) (stand n.key)

  pub one_more_last : AreLasts ns (with_last_if (is_last_by ns n lasts) n.key lasts) (n ∷ behind)
  one_more_last k = go (is_checked n) refl (list_any (share_group ns n.key) lasts) refl
    where
      last : list_any (share_group ns k) (lasts ++ n.key ∷ []) ≡ (share_group ns k n.key || list_any (is_checked_with ns k) behind)
      last = list_any-append (share_group ns k) lasts (n.key ∷ []) ∙ ap (λ (b : Bool). b || (share_group ns k n.key || false)) (stand k) ∙ turned (list_any (is_checked_with ns k) behind) (share_group ns k n.key)
        where
          turned : (a b : Bool) → (a || (b || false)) ≡ (b || a)
          turned true true = refl
          turned true false = refl
          turned false true = refl
          turned false false = refl

      -- one that shares the group of the element shares that of the one behind it
      through : list_any (is_checked_with ns n.key) behind ≡ true → share_group ns k n.key ≡ true → list_any (is_checked_with ns k) behind ≡ true
      through some with_n = sym (stand k) ∙ any_more (share_group ns n.key) (share_group ns k) (λ x with_x. group_together ns n.key k x (group-sym ns k n.key with_n) with_x) lasts (stand n.key ∙ some)

      absorbed : (b : Bool) → share_group ns k n.key ≡ b → list_any (is_checked_with ns n.key) behind ≡ true → list_any (is_checked_with ns k) behind ≡ (b || list_any (is_checked_with ns k) behind)
      absorbed true e some = through some e
      absorbed false e some = refl

      go : (checked : Bool) → is_checked n ≡ checked → (some : Bool) → list_any (share_group ns n.key) lasts ≡ some → list_any (share_group ns k) (with_last_if (checked && not (checked && some)) n.key lasts) ≡ ((checked && share_group ns k n.key) || list_any (is_checked_with ns k) behind)
      go false e some h = stand k
      go true e false h = last
      go true e true h = stand k ∙ absorbed (share_group ns k n.key) refl (sym (stand n.key) ∙ h)

marks_more : (ns behind : Nodes) (n : Node) (lasts : List Key) (marks more : List Bool) → AreLasts ns lasts behind → marks ≡ reverse (outdone_of ns behind) → more ≡ marks ++ is_outdone_by ns n lasts ∷ [] → more ≡ reverse (outdone_of ns (n ∷ behind))
marks_more ns behind n lasts marks more stand marked pushed =
    pushed ∙ ap (λ (b : Bool). marks ++ b ∷ []) (outdone_is ns behind n lasts stand) ∙ ap (λ (bs : List Bool). bs ++ is_outdone ns n behind ∷ []) marked
    ∙ sym (reverse-append (is_outdone ns n behind ∷ []) (outdone_of ns behind))

drop_at : (xs : Nodes) (passed place : ℕ) (n : Node) → passed < length xs → place ≡ length xs - 1 - passed → n ≡ get_or xs place n → drop (length xs - (passed + 1)) xs ≡ n ∷ drop (length xs - passed) xs
drop_at xs passed place n lt is read =
    let here : length xs - (passed + 1) ≡ place = omega (arith, is, lt) in
    let next : suc place ≡ length xs - passed = omega (arith, is, lt) in
    ap (λ (i : ℕ). drop i xs) here ∙ drop_here xs place n n (omega (arith, is, lt)) read ∙ ap (λ (i : ℕ). n ∷ drop i xs) next

-- one element more, going backwards
pub outdone_step : (ns xs : Nodes) (passed place : ℕ) (n : Node) (marks more : List Bool) (lasts next : List Key) → passed < length xs → place ≡ length xs - 1 - passed → n ≡ get_or xs place n
    → marks ≡ reverse (outdone_of ns (drop (length xs - passed) xs)) → AreLasts ns lasts (drop (length xs - passed) xs)
    → more ≡ marks ++ is_outdone_by ns n lasts ∷ [] → next ≡ with_last_if (is_last_by ns n lasts) n.key lasts
    → (more ≡ reverse (outdone_of ns (drop (length xs - (passed + 1)) xs))) × AreLasts ns next (drop (length xs - (passed + 1)) xs)
outdone_step ns xs passed place n marks more lasts next lt is read marked stand pushed kept =
    let at = drop_at xs passed place n lt is read in
    let behind = drop (length xs - passed) xs in (
      marks_more ns behind n lasts marks more stand marked pushed ∙ ap (λ (ys : Nodes). reverse (outdone_of ns ys)) (sym at),
      subst (AreLasts ns next) (sym at) (subst (λ (ks : List Key). AreLasts ns ks (n ∷ behind)) (sym kept) (one_more_last ns behind n lasts stand)),
    )

pub marks_long : (ns xs : Nodes) → length (outdone_of ns xs) ≡ length xs
marks_long ns [] = refl
marks_long ns (n ∷ xs) = ap (λ m. suc m) (marks_long ns xs)
