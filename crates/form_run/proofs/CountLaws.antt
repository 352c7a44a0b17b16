-- Texts and counts that grow item by item.
use Rattle.std.proofs.Common.{◌≡◌, ℕ, ◌+◌, ◌<◌, ◌≤◌, ◌^◌, List, [], ◌∷◌, ◌++◌, Result, Ok, Err, map, take, drop, get_or, length, refl, sym, ap, ◌∙◌, arith, true}
use Rattle.std.specs.Prelude.{All}
use Rattle.std.proofs.lemmas.List.{drop_more, length-map, map-append, take_more}
use Rattle.std.proofs.lemmas.List.Elements.{All-cons, All-head, All-nil, All-tail}
use Rattle.std.proofs.lemmas.List.FromFn.{length-enumerate_from}
use Rattle.std.proofs.Math.ListN.{drop_of_length-le}
use Rattle.std.specs.List.{enumerate_from}
use Rattle.form_tree.specs.declared.node.Raw.{Raw}
use Rattle.form_tree.specs.Tree.{node_of_raw, nodes_of_raws}
use Rattle.form_markup.specs.Answer.{answer_of}
use Rattle.form_markup.specs.declared.fault.PageFault.{PageFault}
use Rattle.form_page.specs.Page.{Page}
use Rattle.form_acts.specs.Soundness.{IsOpenable}
use Rattle.form_generator.specs.Generator.{generated_page}
use Rattle.form_run.specs.Counting.{changed_in, changed_views, end_by, generated_end, page_after_all, refusals, refused_in}
use Rattle.form_run.specs.Session.{asked_in, page_after}
use Rattle.form_run.specs.Transcript.{is_generated_end}
use Rattle.form_run.specs.declared.status.Status.{Status}
use Rattle.form_run.specs.declared.status.Status.TheVariants as statuses

-- ---- items

-- one more image
pub image_more : {Y : Type 0} (f : Y → List ℕ) (xs : List (List ℕ)) (i : ℕ) (x : List ℕ) (ys more : List Y) (y : Y) → i < length xs → x ≡ get_or xs i x
    → map f ys ≡ take i xs → f y ≡ x → more ≡ ys ++ y ∷ [] → map f more ≡ take (i + 1) xs
image_more f xs i x ys more y below read so_far is pushed =
    ap (map f) pushed
    ∙ map-append f ys (y ∷ [])
    ∙ ap (λ zs. zs ++ f y ∷ []) so_far
    ∙ ap (λ z. take i xs ++ z ∷ []) (is ∙ read)
    ∙ sym (take_more xs i x below)

-- the lines that are left, with the next one first
pub lines_left : {X : Type 0} (f : X → List ℕ) (xs : List X) (i : ℕ) (x : X) → i < length xs → x ≡ get_or xs i x → map f (drop i xs) ≡ f x ∷ map f (drop (i + 1) xs)
lines_left f xs i x below read = ap (map f) (drop_more xs i x below) ∙ ap (λ y. f y ∷ map f (drop (i + 1) xs)) (sym read)

pub none_left : {X : Type 0} (f : X → List ℕ) (xs : List X) (i : ℕ) → length xs ≤ i → map f (drop i xs) ≡ []
none_left f xs i over = ap (map f) (drop_of_length-le xs over)

-- what holds of each image holds of each item's image
pub of_images : {X : Type 0} (P : List ℕ → Type 0) (f : X → List ℕ) (xs : List X) → All P (map f xs) → All (λ x. P (f x)) xs
of_images P f [] all = All-nil (λ x. P (f x))
of_images P f (x ∷ xs) all = All-cons (λ y. P (f y)) x xs (All-head P (f x) (map f xs) all) (of_images P f xs (All-tail P (f x) (map f xs) all))

-- ---- counts of lines

module _ (page next : Page) (line : List ℕ) (lines rest : List (List ℕ)) (split : lines ≡ line ∷ rest) (then : next ≡ page_after page (asked_in page line)) where
  pub refused_more : (so_far count total : ℕ) → so_far + refused_in page lines ≡ total → count ≡ refusals page (asked_in page line) → (so_far + count) + refused_in next rest ≡ total
  unfolding refused_in
  refused_more so_far count total before is =
      let e : refused_in page lines ≡ count + refused_in next rest =
      ap (refused_in page) split ∙ ap (λ n. n + refused_in (page_after page (asked_in page line)) rest) (sym is) ∙ ap (λ p. count + refused_in p rest) (sym then) in
      omega (arith, before, e)

  pub changed_more : (so_far count total : ℕ) → so_far + changed_in page lines ≡ total → count ≡ changed_views page (asked_in page line) → (so_far + count) + changed_in next rest ≡ total
  unfolding changed_in
  changed_more so_far count total before is =
      let e : changed_in page lines ≡ count + changed_in next rest =
      ap (changed_in page) split ∙ ap (λ n. n + changed_in (page_after page (asked_in page line)) rest) (sym is) ∙ ap (λ p. count + changed_in p rest) (sym then) in
      omega (arith, before, e)

  pub page_more : (total : Page) → page_after_all page lines ≡ total → page_after_all next rest ≡ total
  unfolding page_after_all
  page_more total before = ap (λ p. page_after_all p rest) then ∙ sym (ap (page_after_all page) split) ∙ before

module _ (page : Page) (lines : List (List ℕ)) (none : lines ≡ []) where
  pub refused_end : (so_far total : ℕ) → so_far + refused_in page lines ≡ total → so_far ≡ total
  unfolding refused_in
  refused_end so_far total before = let e : refused_in page lines ≡ 0 = ap (refused_in page) none in omega (arith, before, e)

  pub changed_end : (so_far total : ℕ) → so_far + changed_in page lines ≡ total → so_far ≡ total
  unfolding changed_in
  changed_end so_far total before = let e : changed_in page lines ≡ 0 = ap (changed_in page) none in omega (arith, before, e)

  pub page_end : (total : Page) → page_after_all page lines ≡ total → page ≡ total
  unfolding page_after_all
  page_end total before = sym (ap (page_after_all page) none) ∙ before

-- ---- what opens

-- what opens has fewer elements than there are keys
pub openable_few : (raws : List Raw) → IsOpenable raws → length raws < 2 ^ 32
openable_few raws openable =
    let size : length (nodes_of_raws raws) ≡ length raws =
    length-map (enumerate_from 0 raws) (λ (entry : ℕ × Raw). node_of_raw entry.0 entry.1) ∙ length-enumerate_from 0 raws in
    omega (arith, size, openable.elements)

-- ---- the end of a generated page

end_kind : (answer : Result (List Raw) PageFault) → is_generated_end (end_by answer) ≡ true
end_kind (Ok raws) = refl
end_kind (Err fault) = refl

pub generated_kind : (count : ℕ) (status : Status) → status ≡ generated_end count → is_generated_end status ≡ true
unfolding generated_end
generated_kind count status is = ap is_generated_end is ∙ end_kind (answer_of [] (generated_page count))

no_fault : (answer : Result (List Raw) PageFault) → end_by answer ≡ statuses.WriteFault → ⊥
no_fault (Ok raws) e = absurd (cc e)
no_fault (Err fault) e = absurd (cc e)

pub generated_no_fault : (count : ℕ) (status : Status) → status ≡ generated_end count → status ≡ statuses.WriteFault → ⊥
unfolding generated_end
generated_no_fault count status is e = no_fault (answer_of [] (generated_page count)) (sym is ∙ e)
