-- A text that begins with a front.
use Rattle.std.proofs.Common.{◌≡◌, ℕ, List, ◌++◌, Bool, true, false, length, take, drop, Some, None, nat_eq, refl, ap, sym, ◌∙◌}
use Rattle.std.specs.Cmp.Lexicographic.{pointwise, same_text, other_text}
use Rattle.std.specs.List.{starts_with}
use Rattle.std.specs.Str.Pattern.{FindsTextPrefix}
use Rattle.std.proofs.lemmas.Bool.Decides.{Decides-eqb}
use Rattle.std.proofs.lemmas.List.{take-append-drop, take_at, drop_at}
use Rattle.std.proofs.lemmas.Option.{cond_some}
use Rattle.std.proofs.lemmas.Slice.Eq.{starts_is}
use Rattle.std.proofs.lemmas.Str.Pattern.{starts_text}
use Rattle.form_text.specs.Front.{behind}

-- the test that finds a front
abbrev begins : List ℕ → List ℕ → Bool
begins front text = pointwise nat_eq (take (length front) text) front

equal : (xs ys : List ℕ) → xs ≡ ys → pointwise nat_eq xs ys ≡ true
equal xs ys e = go (pointwise nat_eq xs ys) refl
  where
    go : (b : Bool) → pointwise nat_eq xs ys ≡ b → b ≡ true
    go true is = refl
    go false is = absurd (other_text xs ys (sym is) e)

-- what was read stands there
pub behind_found : (front text rest : List ℕ) → behind front text ≡ Some rest → text ≡ front ++ rest
behind_found front text rest h =
    let t = cond_some (begins front text) (drop (length front) text) rest h in
    sym (take-append-drop (length front) text) ∙ ap (λ x. x ++ drop (length front) text) (same_text (take (length front) text) front (sym t.0)) ∙ ap (λ x. front ++ x) t.1

-- and what stands there is read
pub behind_again : (front rest : List ℕ) → behind front (front ++ rest) ≡ Some rest
behind_again front rest =
    rw (equal _ front (take_at front rest (length front) refl), drop_at front rest (length front) refl) refl

-- what is left of a text that begins with it
pub stripped_front : (front text rest : List ℕ) (n : ℕ) → FindsTextPrefix front text (Some n) → rest ≡ drop n text → Some rest ≡ behind front text
stripped_front front text rest n found is =
    sym (ap (behind front) found.1 ∙ behind_again front (drop n text) ∙ ap Some (sym is))

-- a text that does not begin with it
pub missing_front : (front text : List ℕ) → FindsTextPrefix front text None → None ≡ behind front text
missing_front front text missing = go (begins front text) refl
  where
    go : (b : Bool) → begins front text ≡ b → None ≡ behind front text
    go false is = rw is refl
    go true is =
        let here : text ≡ front ++ drop (length front) text = behind_found front text _ (rw is refl) in
        let starts : starts_with nat_eq text front ≡ true = (starts_is Decides-eqb text front _ refl).1 _ here in
        cc (starts, starts_text false front text missing)
