-- What a change of a page leaves as it was.
use Rattle.std.proofs.Common.{◌≡◌, ℕ, suc, ◌<◌, Bool, true, false, cond, List, [], ◌∷◌, ◌++◌, length, map, get_or, Option, Some, None, IsSome, IfSome, refl, sym, ap, ◌∙◌, subst, arith}
use Rattle.std.specs.Prelude.{reverse}
use Rattle.std.specs.List.{count_by, filter}
use Rattle.std.proofs.lemmas.List.{length-map, reverse-append}
use Rattle.std.proofs.lemmas.List.Sums.{length-filter}
use Rattle.form_tree.specs.declared.node.Key.{Key}
use Rattle.form_tree.specs.declared.node.Node.{Node}
use Rattle.form_tree.specs.Attributes.{set_attr}
use Rattle.form_tree.specs.Elements.{is_submittable}
use Rattle.form_tree.specs.Tree.{Nodes, Tree, is_key, place_in, place_of, shape_of, with_node}
use Rattle.form_tree.proofs.Laws.{place_in_shape}
use Rattle.form_page.specs.declared.edit.Edit.{Edit}
use Rattle.form_page.specs.declared.edit.Edit.TheVariants.{Attr, Gone, Put, Text}
use Rattle.form_page.specs.Editing.{AreThere, after_edit, edited, edited_key, files_after, nodes_after}
use Rattle.form_page.specs.declared.file.File.{File}
use Rattle.form_page.specs.Page.{Page, page_of}

-- each node with its key, its parent and whether it is submittable
abbrev pub frame : Node → Key × Option Key × Bool
frame n = (n.key, n.parent, is_submittable n)

one_changed : (k : Key) (change : Node → Node) → ((n : Node) → frame (change n) ≡ frame n) → (ns : Nodes) → map frame (with_node ns k change) ≡ map frame ns
one_changed k change same [] = refl
one_changed k change same (n ∷ ns) = go (one_changed k change same ns) (is_key k n)
  where
    go : map frame (with_node ns k change) ≡ map frame ns → (b : Bool) → frame (cond b (change n) n) ∷ map frame (with_node ns k change) ≡ frame n ∷ map frame ns
    go rest true = rw (same n, rest) refl
    go rest false = rw rest refl

pub frame_kept : (ns : Nodes) (edit : Edit) → map frame (nodes_after ns edit) ≡ map frame ns
frame_kept ns (Attr k name value) = one_changed k (set_attr name value) (λ n. refl) ns
frame_kept ns (Text k text) = one_changed k (λ n. record n { text = text }) (λ n. refl) ns
frame_kept ns (Put k state) = one_changed k (λ n. record n { state = state }) (λ n. refl) ns
frame_kept ns (Gone file) = refl

pub frames_kept : (page : Page) (edits : List Edit) → map frame (edited page edits).tree.nodes ≡ map frame page.tree.nodes
frames_kept page [] = refl
frames_kept page (edit ∷ edits) = frames_kept (after_edit page edit) edits ∙ frame_kept page.tree.nodes edit

-- what a frame tells
through : {X : Type 0} (f : Key × Option Key × Bool → X) (ns : Nodes) → map (λ (n : Node). f (frame n)) ns ≡ map f (map frame ns)
through f [] = refl
through f (n ∷ ns) = ap (λ rest. f (frame n) ∷ rest) (through f ns)

pub keys_same : (before after : Nodes) → map frame after ≡ map frame before → map (λ (n : Node). n.key) before ≡ map (λ (n : Node). n.key) after
keys_same before after same =
    let key : Key × Option Key × Bool → Key = λ f. f.0 in
    through key before ∙ ap (map key) (sym same) ∙ sym (through key after)

pub place_same : (before after : Nodes) → map frame after ≡ map frame before → (k : Key) → place_of after k ≡ place_of before k
place_same before after same k =
    let pair : Key × Option Key × Bool → Key × Option Key = λ f. (f.0, f.1) in
    let shape : shape_of after ≡ shape_of before = through pair after ∙ ap (map pair) same ∙ sym (through pair before) in
    sym (place_in_shape after k) ∙ ap (λ s. place_in s k) shape ∙ place_in_shape before k

abbrev marked : Key × Option Key × Bool → Bool
marked f = f.2

kept_through : (ns : Nodes) → length (filter is_submittable ns) ≡ length (filter marked (map frame ns))
kept_through [] = refl
kept_through (n ∷ ns) = go (kept_through ns) (is_submittable n)
  where
    go : length (filter is_submittable ns) ≡ length (filter marked (map frame ns)) → (b : Bool) → length (cond b (n ∷ filter is_submittable ns) (filter is_submittable ns)) ≡ length (cond b (frame n ∷ filter marked (map frame ns)) (filter marked (map frame ns)))
    go rest true = ap (λ m. suc m) rest
    go rest false = rest

count_through : (ns : Nodes) → count_by is_submittable ns ≡ count_by marked (map frame ns)
count_through ns = sym (length-filter is_submittable ns) ∙ kept_through ns ∙ length-filter marked (map frame ns)

pub count_same : (before after : Nodes) → map frame after ≡ map frame before → count_by is_submittable after ≡ count_by is_submittable before
count_same before after same = count_through after ∙ ap (count_by marked) same ∙ sym (count_through before)

-- ---- one change more

pub edit_made : (tree next : Tree) (files left : List File) (edit : Edit) → next ≡ record tree { nodes = nodes_after tree.nodes edit } → left ≡ files_after files edit → page_of next left ≡ after_edit (page_of tree files) edit
edit_made tree next files left edit one two = rw (one, two) refl

turned : (edits rest : List Edit) (edit : Edit) → edits ≡ rest ++ edit ∷ [] → reverse edits ≡ edit ∷ reverse rest
turned edits rest edit is = ap (λ (es : List Edit). reverse es) is ∙ reverse-append rest (edit ∷ [])

pub edits_step : (page next final : Page) (edits rest : List Edit) (edit : Edit) → edits ≡ rest ++ edit ∷ [] → next ≡ after_edit page edit → edited page (reverse edits) ≡ final → edited next (reverse rest) ≡ final
edits_step page next final edits rest edit is made so_far =
    ap (λ (p : Page). edited p (reverse rest)) made ∙ sym (ap (edited page) (turned edits rest edit is)) ∙ so_far

abbrev IsThere : Nodes → Edit → Type 0
IsThere ns edit = IfSome (edited_key edit) (λ k. IsSome (place_of ns k))

pub still_there : (ns next : Nodes) (edits rest : List Edit) (edit : Edit) → edits ≡ rest ++ edit ∷ [] → next ≡ nodes_after ns edit → AreThere ns (reverse edits) → AreThere next (reverse rest)
still_there ns next edits rest edit is made there i d lt =
    let all : AreThere ns (edit ∷ reverse rest) = subst (AreThere ns) (turned edits rest edit is) there in
    moved (get_or (reverse rest) i d) (all (suc i) d (omega arith))
  where
    same : (k : Key) → place_of next k ≡ place_of ns k
    same k = place_same ns next (ap (map frame) made ∙ frame_kept ns edit) k

    moved : (e : Edit) → IsThere ns e → IsThere next e
    moved e h = go (edited_key e) h
      where
        go : (o : Option Key) → IfSome o (λ k. IsSome (place_of ns k)) → IfSome o (λ k. IsSome (place_of next k))
        go None h = h
        go (Some k) h = subst (λ (p : Option ℕ). IsSome p) (sym (same k)) h

-- ---- the page after its changes

pub edited_frames : (before : Nodes) (tree next : Tree) (files left : List File) (edits : List Edit) → tree.nodes ≡ before → page_of next left ≡ edited (page_of tree files) edits → map frame next.nodes ≡ map frame before
edited_frames before tree next files left edits same made =
    ap (λ (p : Page). map frame p.tree.nodes) made ∙ frames_kept (page_of tree files) edits ∙ ap (map frame) same

pub frames_long : (before after : Nodes) → map frame after ≡ map frame before → length after ≡ length before
frames_long before after same = sym (length-map after frame) ∙ ap length same ∙ length-map before frame

pub frames_few : (before after : Nodes) (most : ℕ) → map frame after ≡ map frame before → length before < most → length after < most
frames_few before after most same few = let long = frames_long before after same in omega (arith, long, few)
