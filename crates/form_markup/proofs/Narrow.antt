-- Where nothing is restricted, no element is odd; and the marks of open elements.
use Rattle.std.proofs.Common.{◌≡◌, ℕ, ◌+◌, ◌<◌, ◌≤◌, List, [], ◌∷◌, length, get_or, set, reverse, Bool, true, false, ◌||◌, ◌&&◌, not, codes, refl, sym, ap, subst, ◌∙◌}
use Rattle.std.proofs.lemmas.List.{reverse-append}
use Rattle.std.specs.List.{list_any}
use Rattle.std.specs.Str.{str_eq_ignore_ascii_case}
use Rattle.form_tree.specs.declared.node.Tag.{Tag}
use Rattle.form_tree.specs.declared.node.Tag.TheVariants as tags
use Rattle.form_markup.specs.Faults.{is_in_itself, is_inside, is_misplaced, is_odd_in_optgroup, is_odd_in_select, is_stray_optgroup, is_stray_option, is_tag}
use Rattle.form_markup.specs.Narrow.{AreMarked, is_narrow, is_odd_in_narrow}
use Rattle.form_markup.specs.declared.machine.Open.{Open}
use Rattle.form_markup.proofs.Stacks.{last_split}

either_false : (a b : Bool) → (a || b) ≡ false → (a ≡ false) × (b ≡ false)
either_false true b e = absurd (cc)
either_false false b e = (refl, e)

-- none of the three is open
none_of : (round : List Tag) → list_any is_narrow round ≡ false → (is_inside tags.Select round ≡ false) × (is_inside tags.Optgroup round ≡ false) × (is_inside tags.Choice round ≡ false)
none_of [] e = (refl, refl, refl)
none_of (t ∷ ts) e =
    let both = either_false (is_narrow t) (list_any is_narrow ts) e in
    let here = either_false (is_tag tags.Select t) (is_tag tags.Optgroup t || is_tag tags.Choice t) both.0 in
    let two = either_false (is_tag tags.Optgroup t) (is_tag tags.Choice t) here.1 in
    let more = none_of ts both.1 in (
      ap (λ b. b || is_inside tags.Select ts) here.0 ∙ more.0,
      ap (λ b. b || is_inside tags.Optgroup ts) two.0 ∙ more.1,
      ap (λ b. b || is_inside tags.Choice ts) two.1 ∙ more.2,
    )

all_false : (a b c x y : Bool) → a ≡ false → b ≡ false → c ≡ false → ((a && x) || ((b && y) || c)) ≡ false
all_false true b c x y d e f = absurd (cc)
all_false false true c x y d e f = absurd (cc)
all_false false false true x y d e f = absurd (cc)
all_false false false false x y d e f = refl

-- there no element is odd
pub none_odd : (tag : Tag) (name : List ℕ) (round : List Tag) → list_any is_narrow round ≡ false → is_odd_in_narrow tag name round ≡ false
none_odd tag name round e =
    let none = none_of round e in
    all_false (is_inside tags.Select round) (is_inside tags.Optgroup round) (is_inside tags.Choice round) (not (is_tag tags.Choice tag || is_tag tags.Optgroup tag || str_eq_ignore_ascii_case name (codes "hr"))) (not (is_tag tags.Choice tag)) none.0 none.1 none.2

regrouped : (a b c d e : Bool) → (a || (b || (c || (d || e)))) ≡ (a || ((b || (c || d)) || e))
regrouped true b c d e = refl
regrouped false true c d e = refl
regrouped false false true d e = refl
regrouped false false false d e = refl

-- an element that may not stand here
pub misplaced_is : (tag : Tag) (name : List ℕ) (round : List Tag) → is_misplaced tag name round ≡ (is_in_itself tag round || (is_odd_in_narrow tag name round || (is_stray_option tag round || is_stray_optgroup tag round)))
misplaced_is tag name round =
    regrouped (is_in_itself tag round) (is_odd_in_select tag name round) (is_odd_in_optgroup tag round) (is_inside tags.Choice round) (is_stray_option tag round || is_stray_optgroup tag round)

-- the marks stay where the innermost element has another text
pub marks_stay : (xs : List Open) (n : ℕ) (o new : Open) → n < length xs → length xs ≤ n + 1 → o ≡ get_or xs n o → new.tag ≡ o.tag → new.narrow ≡ o.narrow → AreMarked (reverse xs) → AreMarked (reverse (set xs n new))
marks_stay xs n o new lt le e tag narrow marked =
    let split = last_split xs n o new lt le e in
    let before : reverse xs ≡ o ∷ reverse split.0 = ap reverse split.1 ∙ reverse-append split.0 (o ∷ []) in
    let behind : reverse (set xs n new) ≡ new ∷ reverse split.0 = ap reverse split.2 ∙ reverse-append split.0 (new ∷ []) in
    let marks = subst AreMarked before marked in
    subst AreMarked (sym behind) (narrow ∙ (marks.0 ∙ ap (λ (t : Tag). is_narrow t || list_any (λ x. is_narrow x.tag) (reverse split.0)) (sym tag)), marks.1)
