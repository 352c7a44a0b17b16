-- What counts as an invalid control, by what is kept of an element.
use Rattle.std.proofs.Common.{◌≡◌, ℕ, zero, suc, ◌+◌, ◌<◌, Bool, true, false, ◌&&◌, ◌||◌, cond, List, [], ◌∷◌, length, map, take, get_or, Option, Some, None, refl, sym, ap, ◌∙◌, arith}
use Rattle.std.specs.List.{count_by, filter, slice_get}
use Rattle.std.specs.Option.{option_map_or}
use Rattle.std.proofs.lemmas.List.Sums.{count_by_more_no, count_by_more_yes, length-filter}
use Rattle.std.proofs.lemmas.Option.{get_or_from_slice_get, slice_get_within}
use Rattle.form_tree.specs.declared.node.Key.{Key}
use Rattle.form_tree.specs.declared.node.Node.{Node}
use Rattle.form_tree.specs.Disabling.{is_candidate}
use Rattle.form_tree.specs.Elements.{is_form, is_option, is_submittable, passes}
use Rattle.form_tree.specs.Ownership.{owner_of}
use Rattle.form_tree.specs.Tree.{Nodes}
use Rattle.form_owner.specs.declared.answer.Answer.{Answer}
use Rattle.form_owner.specs.Owners.{answer_for, owners_of}
use Rattle.form_judge.specs.Flags.{facts_of, flags_of, has_some}
use Rattle.form_page.specs.declared.sight.Sight.{Sight}
use Rattle.form_page.specs.Changes.{counts_for, is_failing}
use Rattle.form_page.specs.Invalid.{invalid_count, is_invalid_in, is_owned_by}
use Rattle.form_page.specs.Views.{sight_if, sight_of}
use Rattle.form_select.proofs.Laws.{kept_there}

failing : (names : List (List ℕ)) (ns : Nodes) (form : Key) (m : Node) → counts_for form (owner_of ns m.key) (sight_if names ns m) ≡ is_invalid_in ns form m
failing names ns form m = go (is_submittable m) (is_option m) (is_owned_by ns form m) (is_candidate ns m.key) (has_some (flags_of m (facts_of ns m.key)))
  where
    both : (a b c : Bool) → (a && (b && c)) ≡ ((a && b) && c)
    both true b c = refl
    both false b c = refl

    none : (a b : Bool) → (a && false) ≡ ((a && b) && false)
    none true true = refl
    none true false = refl
    none false b = refl

    go : (sub opt owned candidate flagged : Bool) → (owned && is_failing (cond (sub || opt) (Some (record (sight_of names ns m) { candidate = candidate; verdict = cond sub (Some (flags_of m (facts_of ns m.key))) None })) None))
        ≡ ((owned && candidate) && option_map_or has_some (cond sub (Some (flags_of m (facts_of ns m.key))) None) false)
    go true opt owned candidate flagged = both owned candidate (has_some (flags_of m (facts_of ns m.key)))
    go false true owned candidate flagged = both owned candidate false
    go false false owned candidate flagged = none owned candidate

pub counts_there : (names : List (List ℕ)) (ns : Nodes) (form : Key) (answers : List Answer) (sights : List (Option Sight)) (i : ℕ) (a : Answer) (s : Option Sight) (m : Node) → answers ≡ owners_of ns → sights ≡ map (sight_if names ns) ns → slice_get ns i ≡ Some m
    → counts_for form (get_or answers i a).owner (get_or sights i s) ≡ is_invalid_in ns form m
counts_there names ns form answers sights i a s m stand seen there =
    ap (λ (b : Answer). counts_for form b.owner (get_or sights i s)) (ap (λ (kept : List Answer). get_or kept i a) stand ∙ kept_there (answer_for ns) ns i m a there)
    ∙ ap (counts_for form (owner_of ns m.key)) (ap (λ (kept : List (Option Sight)). get_or kept i s) seen ∙ kept_there (sight_if names ns) ns i m s there)
    ∙ failing names ns form m

pub counted : (p : Node → Bool) (ns : Nodes) (i : ℕ) (m : Node) (count more : ℕ) (b : Bool) → slice_get ns i ≡ Some m → count ≡ count_by p (take i ns) → b ≡ p m → more ≡ cond b (count + 1) count → more ≡ count_by p (take (i + 1) ns)
counted p ns i m count more b there so_far is step = go b is step
  where
    lt : i < length ns
    lt = slice_get_within ns i m there

    here : get_or ns i m ≡ m
    here = get_or_from_slice_get ns i m m there

    go : (b : Bool) → b ≡ p m → more ≡ cond b (count + 1) count → more ≡ count_by p (take (i + 1) ns)
    go true is step = let law = count_by_more_yes p ns i m lt (ap p here ∙ sym is) in omega (arith, law, so_far, step)
    go false is step = let law = count_by_more_no p ns i m lt (ap p here ∙ sym is) in omega (arith, law, so_far, step)

-- a place within has an element
pub node_there : (ns : Nodes) (i : ℕ) → i < length ns → (m : Node) × (slice_get ns i ≡ Some m)
node_there [] i lt = absurd (omega arith)
node_there (n ∷ ns) zero lt = (n, refl)
node_there (n ∷ ns) (suc i) lt = node_there ns i (omega arith)

pub counted_form : (ns : Nodes) (form : Key) (count : ℕ) → true ≡ passes is_form ns form → count ≡ count_by (is_invalid_in ns form) ns → Some count ≡ invalid_count ns form
counted_form ns form count is counts =
    ap (λ (n : ℕ). Some n) (counts ∙ sym (length-filter (is_invalid_in ns form) ns))
    ∙ ap (λ (b : Bool). cond b (Some (length (filter (is_invalid_in ns form) ns))) None) is
