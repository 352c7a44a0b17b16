-- The equations of `tree_of`, one for each variant with a tree in it.
use Rattle.std.proofs.Common.{◌≡◌, ℕ, ◌||◌, Bool, true, false, Box, Global, Option, refl, sym, ap, ◌∙◌}
use Rattle.form_pattern.specs.Pieces.{Tree}
use Rattle.form_pattern.specs.Pieces.{tree_of, layer}
use Rattle.form_pattern.specs.Steps.{goes, flip, see, step, see_next, see_either}
use Rattle.form_pattern.specs.declared.nodes.Node.{Node}
use Rattle.form_pattern.specs.declared.nodes.Seen.{Seen}
use Rattle.form_pattern.specs.declared.nodes.Node.TheOpen.{Node-F}
use Rattle.form_pattern.specs.declared.nodes.Node.TheFolds.{fold-roll-Node}
use Rattle.form_pattern.specs.declared.nodes.Node.TheVariants.{Next, Either, Many, Ahead, rolls-Next, rolls-Either, rolls-Many, rolls-Ahead}

pub tree-Next : (a b : Box Node Global) (behind : Seen) → tree_of (Next a b behind) ≡ Tree.next behind (tree_of a.value) (tree_of b.value)
tree-Next a b behind = ap tree_of (sym (rolls-Next a b behind)) ∙ fold-roll-Node Tree layer (Node-F.Next a b behind)

pub tree-Either : (a b : Box Node Global) → tree_of (Either a b) ≡ Tree.either (tree_of a.value) (tree_of b.value)
tree-Either a b = ap tree_of (sym (rolls-Either a b)) ∙ fold-roll-Node Tree layer (Node-F.Either a b)

pub tree-Many : (a : Box Node Global) (round : Bool) → tree_of (Many a round) ≡ Tree.many round (tree_of a.value)
tree-Many a round = ap tree_of (sym (rolls-Many a round)) ∙ fold-roll-Node Tree layer (Node-F.Many a round)

pub tree-Ahead : (absent : Bool) (a : Box Node Global) → tree_of (Ahead absent a) ≡ Tree.ahead absent (tree_of a.value)
tree-Ahead absent a = ap tree_of (sym (rolls-Ahead absent a)) ∙ fold-roll-Node Tree layer (Node-F.Ahead absent a)

-- ---- one place, at a node with others in it

-- what stands alone has the empty stretch behind it
abbrev pub Alone : Seen → Seen → Type 0
Alone r v = r ≡ see_next v (record { empty = true; on = false })

see_alone : (e o : Bool) → see_next (record { empty = e; on = o }) (record { empty = true; on = false }) ≡ record { empty = e; on = o }
see_alone true true = refl
see_alone true false = refl
see_alone false true = refl
see_alone false false = refl

pub alone : (r v : Seen) → Alone r v → r ≡ v
alone r v is = is ∙ see_alone v.empty v.on

pub lone : (r v : Seen) → r ≡ v → Alone r v
lone r v is = is ∙ sym (see_alone v.empty v.on)

see_assoc : (a b c d : Bool) (v : Seen) → see_next (record { empty = a; on = b }) (see_next (record { empty = c; on = d }) v) ≡ see_next (see_next (record { empty = a; on = b }) (record { empty = c; on = d })) v
see_assoc true true c d v = refl
see_assoc true false c true v = refl
see_assoc true false true false v = refl
see_assoc true false false false v = refl
see_assoc false true c d v = refl
see_assoc false false c d v = refl

module _ (has : ℕ → ℕ → Bool) (first : Bool) (here : Option ℕ) (k : Bool) where
  pub step-Next : (old : Node) (a b c d : Box Node Global) (v w : Seen) → old ≡ Next a b v → tree_of c.value ≡ step has first here (goes v k) (tree_of a.value) → tree_of d.value ≡ step has first here k (tree_of b.value) → Alone w (see has first here k (tree_of b.value)) → tree_of (Next c d w) ≡ step has first here k (tree_of old)
  step-Next old a b c d v w is one two three = rw (is, tree-Next a b v, tree-Next c d w, one, two, alone w (see has first here k (tree_of b.value)) three) refl

  pub step-Many : (old : Node) (a c : Box Node Global) (v : Bool) (w : Seen) → old ≡ Many a v → tree_of c.value ≡ step has first here (k || v) (tree_of a.value) → Alone w (see has first here (k || v) (tree_of a.value)) → tree_of (Many c w.on) ≡ step has first here k (tree_of old)
  step-Many old a c v w is one two = rw (is, tree-Many a v, tree-Many c w.on, one, alone w (see has first here (k || v) (tree_of a.value)) two) refl

  pub seen-Next : (old : Node) (a b : Box Node Global) (v w m r then : Seen) → old ≡ Next a b v → Alone w (see has first here k (tree_of b.value)) → m ≡ see_next w then → r ≡ see_next (see has first here (goes v k) (tree_of a.value)) m → r ≡ see_next (see has first here k (tree_of old)) then
  seen-Next old a b v w m r then is one two three =
      let va = see has first here (goes v k) (tree_of a.value) in
      let vb = see has first here k (tree_of b.value) in
      let behind : m ≡ see_next vb then = two ∙ ap (λ x. see_next x then) (alone w vb one) in
      let whole : tree_of old ≡ Tree.next v (tree_of a.value) (tree_of b.value) = ap tree_of is ∙ tree-Next a b v in
      three ∙ ap (see_next va) behind ∙ see_assoc va.empty va.on vb.empty vb.on then ∙ ap (λ t. see_next (see has first here k t) then) (sym whole)

  pub seen-Either : (old : Node) (a b : Box Node Global) (v w m r then : Seen) → old ≡ Either a b → Alone v (see has first here k (tree_of a.value)) → Alone w (see has first here k (tree_of b.value)) → m ≡ see_either v w → r ≡ see_next m then → r ≡ see_next (see has first here k (tree_of old)) then
  seen-Either old a b v w m r then is one two three four =
      rw (four, three, alone v (see has first here k (tree_of a.value)) one, alone w (see has first here k (tree_of b.value)) two, is, tree-Either a b) refl

  pub seen-Many : (old : Node) (a : Box Node Global) (round : Bool) (v r then : Seen) → old ≡ Many a round → Alone v (see has first here (k || round) (tree_of a.value)) → r ≡ see_next v then → r ≡ see_next (see has first here k (tree_of old)) then
  seen-Many old a round v r then is one two = rw (two, alone v (see has first here (k || round) (tree_of a.value)) one, is, tree-Many a round) refl

  pub seen-Ahead : (old : Node) (absent : Bool) (a : Box Node Global) (g f : Bool) (v r then : Seen) → old ≡ Ahead absent a → Alone v (see has first here true (tree_of a.value)) → g ≡ goes v true → f ≡ flip absent g → r ≡ see_next (record { empty = f; on = false }) then → r ≡ see_next (see has first here k (tree_of old)) then
  seen-Ahead old absent a g f v r then is one two three four = rw (four, three, two, alone v (see has first here true (tree_of a.value)) one, is, tree-Ahead absent a) refl
