-- What is made of the parts of a pattern: a tree without quantifiers, where it weighs at most 2,000.
use Rattle.std.specs.Prelude.{ℕ, zero, suc, ◌+◌, ◌-◌, ◌==◌, nat_le, Bool, true, false, List, map, reverse, Option, Some, None, if◌then◌else◌}
use Rattle.std.specs.Option.{option_map}
use Rattle.form_pattern.specs.declared.tokens.High.{High}
use Rattle.form_pattern.specs.declared.tokens.High.TheVariants.{Times, Endless, Sign}
use Rattle.form_pattern.specs.declared.pieces.TheConstants.{HEAVIEST}
use Rattle.form_pattern.specs.declared.nodes.Node.{Node}
use Rattle.form_pattern.specs.declared.nodes.Seen.{Seen}
use Rattle.form_pattern.specs.declared.nodes.Node.TheOpen.{Node-F}
use Rattle.form_pattern.specs.declared.nodes.Node.TheFolds.{fold-Node}
use Rattle.form_pattern.specs.declared.pieces.Piece.{Piece}
use Rattle.form_pattern.specs.declared.pieces.Piece.TheVariants as piece
use Rattle.form_pattern.specs.declared.groups.Frame.{Frame}
use Rattle.form_pattern.specs.Pattern.{repeat_weight}
use Rattle.form_pattern.specs.Grouping.{Makes, Level}

-- A leaf has its place, as the number of tokens behind it. What is noted at a sequence and at a
-- repetition belongs to the reading of a value, and says nothing of what the tree matches.
pub data Tree : Type 0 where
  nothing : Tree
  start : Tree
  finish : Tree
  one : ℕ → Tree
  next : Seen → Tree → Tree → Tree
  either : Tree → Tree → Tree
  many : Bool → Tree → Tree
  ahead : Bool → Tree → Tree

abbrev pub layer : Node-F Tree → Tree
layer Node-F.Nothing = Tree.nothing
layer Node-F.Start = Tree.start
layer Node-F.Finish = Tree.finish
layer (Node-F.One left) = Tree.one left
layer (Node-F.Next a b behind) = Tree.next behind a.value b.value
layer (Node-F.Either a b) = Tree.either a.value b.value
layer (Node-F.Many a round) = Tree.many round a.value
layer (Node-F.Ahead absent a) = Tree.ahead absent a.value

abbrev pub tree_of : Node → Tree
tree_of = fold-Node Tree layer

-- nothing is noted yet
abbrev pub unseen : Seen
unseen = record { empty = false; on = false }

abbrev pub next_tree : Tree → Tree → Tree
next_tree = Tree.next unseen

abbrev pub either_tree : Tree → Tree → Tree
either_tree = Tree.either

abbrev pub many_tree : Tree → Tree
many_tree = Tree.many false

abbrev pub is_nothing : Tree → Bool
is_nothing Tree.nothing = true
is_nothing _ = false

-- a behind b; behind nothing it stands alone
abbrev pub after_tree : Tree → Tree → Tree
after_tree b a = if is_nothing b then a else next_tree b a

-- b, and then n copies of a; the last one stands on top, so that a sequence is gone over from its end
abbrev pub copies : ℕ → Tree → Tree → Tree
copies zero a b = b
copies (suc n) a b = after_tree (copies n a b) a

-- `a?`
abbrev pub maybe : Tree → Tree
maybe a = Tree.either a Tree.nothing

-- `a*` is `(a+)?`, and `a{3,}` is `aaa+`
abbrev pub at_least : ℕ → Tree → Tree
at_least zero a = maybe (many_tree a)
at_least (suc n) a = after_tree (copies n a Tree.nothing) (many_tree a)

-- `a{2,4}` is `aaa?a?`
unfoldable pub repeated : ℕ → High → Tree → Tree
repeated low Endless a = at_least low a
repeated low Sign a = at_least low a
repeated low (Times high) a = copies (high - low) (maybe a) (copies low a Tree.nothing)

-- ---- pieces: a weight and a tree, or none where the weight is above 2,000

abbrev pub Light : Type 0
Light = Option (ℕ × Tree)

abbrev pub light : ℕ → Tree → Light
light weight tree = if nat_le weight HEAVIEST then Some (weight, tree) else None

-- What weighs nothing matches the empty stretch alone, so it needs no node.
abbrev pub joined : ℕ × Tree → ℕ × Tree → Tree
joined a b = if b.0 == 0 then a.1 else if a.0 == 0 then b.1 else next_tree a.1 b.1

unfoldable pub next_piece : Light → Light → Light
next_piece (Some a) (Some b) = light (a.0 + b.0) (joined a b)
next_piece (Some a) None = None
next_piece None b = None

unfoldable pub either_piece : Light → Light → Light
either_piece (Some a) (Some b) = light (a.0 + b.0 + 1) (Tree.either a.1 b.1)
either_piece (Some a) None = None
either_piece None b = None

abbrev pub repeated_light : ℕ → High → ℕ × Tree → Light
repeated_light low high a = light (repeat_weight low high a.0) (if a.0 == 0 then Tree.nothing else repeated low high a.1)

abbrev pub is_never : High → Bool
is_never (Times high) = high == 0
is_never Endless = false
is_never Sign = false

abbrev pub repeated_some : ℕ → High → Light → Light
repeated_some low high None = None
repeated_some low high (Some a) = repeated_light low high a

unfoldable pub repeat_piece : ℕ → High → Light → Light
repeat_piece low high a = if is_never high then Some (0, Tree.nothing) else repeated_some low high a

unfoldable pub ahead_piece : Bool → Light → Light
ahead_piece absent None = None
ahead_piece absent (Some a) = light (a.0 + 1) (Tree.ahead absent a.1)

abbrev pub pieces : Makes Light
pieces = record {
  nothing = Some (0, Tree.nothing);
  start = Some (1, Tree.start);
  finish = Some (1, Tree.finish);
  one = λ left cs. Some (1, Tree.one left);
  next = next_piece;
  either = either_piece;
  repeat = repeat_piece;
  ahead = ahead_piece;
}

-- ---- what the code holds of them

abbrev pub piece_of : Piece → Light
piece_of piece.Heavy = None
piece_of (piece.Light weight node) = Some (weight, tree_of node)

abbrev pub level_of : Frame → Level Light
level_of f = record { ahead = f.ahead; before = option_map piece_of f.before; branch = piece_of f.branch; atom = option_map piece_of f.atom }

abbrev pub levels : List Frame → List (Level Light)
levels fs = reverse (map level_of fs)
