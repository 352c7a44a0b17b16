-- A pattern that was compiled stands as long as its text does.
use Rattle.std.proofs.Common.{◌≡◌, ℕ, zero, suc, ◌<◌, ◌≤◌, true, false, Bool, List, [], ◌∷◌, ◌++◌, Option, Some, None, length, map, set, get_or, refl, sym, ap, ◌∙◌, cond, arith}
use Rattle.std.specs.Prelude.{chars, option_and_then, option_map, unwrap_or}
use Rattle.std.specs.List.{slice_get}
use Rattle.std.proofs.lemmas.Slice.Eq.{bytes_eq-Decides}
use Rattle.form_tree.specs.declared.node.Node.{Node}
use Rattle.form_tree.specs.Tree.{Nodes}
use Rattle.form_judge.specs.Controls.{if_compiles, pattern_of, pattern_text}
use Rattle.form_judge.specs.Patterns.{Fresh, Compiled, all_recompiled, patterns_by, recompiled, same_text, with_pattern_at}

texts_same : (a b : Option (List ℕ)) → same_text a b ≡ true → a ≡ b
texts_same None None same = refl
texts_same None (Some b) same = absurd (cc)
texts_same (Some a) None same = absurd (cc)
texts_same (Some a) (Some b) same = ap (λ (text : List ℕ). Some text) ((bytes_eq-Decides a b).0 same)

-- the pattern that was compiled, or the one that was compiled anew, is that of the control
pub pattern_stands : (before after : Node) → unwrap_or (recompiled before after) (pattern_of before) ≡ pattern_of after
pattern_stands before after = go (same_text (pattern_text before) (pattern_text after)) refl
  where
    go : (b : Bool) → same_text (pattern_text before) (pattern_text after) ≡ b → unwrap_or (cond b None (Some (pattern_of after))) (pattern_of before) ≡ pattern_of after
    go true same = ap (λ (text : Option (List ℕ)). option_and_then if_compiles (option_map chars text)) (texts_same (pattern_text before) (pattern_text after) same)
    go false same = refl

-- those of all elements
pub patterns_stand : (before after : Nodes) → length before ≡ length after → patterns_by (map pattern_of before) (all_recompiled before after) ≡ map pattern_of after
patterns_stand [] [] same = refl
patterns_stand [] (a ∷ after) same = absurd (omega (arith, same))
patterns_stand (b ∷ before) [] same = absurd (omega (arith, same))
patterns_stand (b ∷ before) (a ∷ after) same = rw (pattern_stands b a, patterns_stand before after (omega (arith, same))) refl

-- one for each element
pub recompiled_long : (before after : Nodes) → length before ≡ length after → length (all_recompiled before after) ≡ length after
recompiled_long [] [] same = refl
recompiled_long [] (a ∷ after) same = absurd (omega (arith, same))
recompiled_long (b ∷ before) [] same = absurd (omega (arith, same))
recompiled_long (b ∷ before) (a ∷ after) same = ap (λ m. suc m) (recompiled_long before after (omega (arith, same)))

-- the one at a place is that of its element
pub pattern_picked : (ns : Nodes) (patterns : List Compiled) (more : List Fresh) (i : ℕ) (n : Node) (kept : Compiled) (fresh : Fresh) → patterns_by patterns more ≡ map pattern_of ns → length patterns ≡ length ns → length more ≡ length ns → slice_get ns i ≡ Some n
    → unwrap_or (get_or more i fresh) (get_or patterns i kept) ≡ pattern_of n
pattern_picked [] patterns more i n kept fresh stand long same there = absurd (cc)
pattern_picked (m ∷ ns) [] more i n kept fresh stand long same there = absurd (omega (arith, long))
pattern_picked (m ∷ ns) (p ∷ patterns) [] i n kept fresh stand long same there = absurd (omega (arith, same))
pattern_picked (m ∷ ns) (p ∷ patterns) (f ∷ more) zero n kept fresh stand long same there =
    let is : m ≡ n = cc in
    let first : unwrap_or f p ≡ pattern_of m = head (unwrap_or f p) (pattern_of m) (patterns_by patterns more) (map pattern_of ns) stand in
    first ∙ ap pattern_of is
  where
    head : (x y : Compiled) (xs ys : List Compiled) → x ∷ xs ≡ y ∷ ys → x ≡ y
    head x y xs ys e = cc
pattern_picked (m ∷ ns) (p ∷ patterns) (f ∷ more) (suc i) n kept fresh stand long same there =
    pattern_picked ns patterns more i n kept fresh (tail (unwrap_or f p) (pattern_of m) (patterns_by patterns more) (map pattern_of ns) stand) (omega (arith, long)) (omega (arith, same)) there
  where
    tail : (x y : Compiled) (xs ys : List Compiled) → x ∷ xs ≡ y ∷ ys → xs ≡ ys
    tail x y xs ys e = cc

-- ---- put in their places

none_left : (patterns : List Compiled) → patterns_by patterns [] ≡ patterns
none_left [] = refl
none_left (p ∷ patterns) = refl

-- the last one goes to its place
last_placed : (patterns : List Compiled) (left : List Fresh) (fresh : Fresh) → patterns_by patterns (left ++ fresh ∷ []) ≡ patterns_by (with_pattern_at patterns (length left) fresh) left
last_placed [] left fresh = refl
last_placed (p ∷ patterns) [] fresh = ap (λ (rest : List Compiled). unwrap_or fresh p ∷ rest) (none_left patterns)
last_placed (p ∷ patterns) (f ∷ left) fresh = ap (λ (rest : List Compiled). unwrap_or f p ∷ rest) (last_placed patterns left fresh)

pub put_step : (patterns next : List Compiled) (all left : List Fresh) (fresh : Fresh) (place : ℕ) → all ≡ left ++ fresh ∷ [] → place ≡ length left → next ≡ with_pattern_at patterns place fresh → patterns_by next left ≡ patterns_by patterns all
put_step patterns next all left fresh place pushed here made =
    ap (λ (ps : List Compiled). patterns_by ps left) made
    ∙ ap (λ (i : ℕ). patterns_by (with_pattern_at patterns i fresh) left) here
    ∙ sym (last_placed patterns left fresh) ∙ ap (patterns_by patterns) (sym pushed)

pub all_put : (patterns : List Compiled) (left : List Fresh) → length left ≡ 0 → patterns ≡ patterns_by patterns left
all_put patterns [] none = sym (none_left patterns)
all_put patterns (f ∷ left) none = absurd (omega (arith, none))

-- one that is put
pub placed_there : (patterns : List Compiled) (i : ℕ) (pattern : Compiled) → i < length patterns → set patterns i pattern ≡ with_pattern_at patterns i (Some pattern)
placed_there [] i pattern lt = absurd (omega arith)
placed_there (p ∷ patterns) zero pattern lt = refl
placed_there (p ∷ patterns) (suc i) pattern lt = ap (λ (rest : List Compiled). p ∷ rest) (placed_there patterns i pattern (omega arith))

pub placed_past : (patterns : List Compiled) (i : ℕ) (fresh : Fresh) → length patterns ≤ i → patterns ≡ with_pattern_at patterns i fresh
placed_past [] i fresh past = refl
placed_past (p ∷ patterns) zero fresh past = absurd (omega arith)
placed_past (p ∷ patterns) (suc i) fresh past = ap (λ (rest : List Compiled). p ∷ rest) (placed_past patterns i fresh (omega arith))

pub none_placed : (patterns : List Compiled) (i : ℕ) → patterns ≡ with_pattern_at patterns i None
none_placed [] i = refl
none_placed (p ∷ patterns) zero = refl
none_placed (p ∷ patterns) (suc i) = ap (λ (rest : List Compiled). p ∷ rest) (none_placed patterns i)
