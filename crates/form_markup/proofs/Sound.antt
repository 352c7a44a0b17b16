-- The elements that a text spells are those of a tree, within the limits, and no input of the type `email` is among them.
use Rattle.std.proofs.Common.{◌≡◌, ℕ, ◌≤◌, List, [], None, false, length, sym, ap, subst, ◌∙◌}
use Rattle.std.specs.List.{All}
use Rattle.form_tree.specs.Tree.{IsTreeOfRaws, NamesDiffer}
use Rattle.form_tree.specs.declared.node.Raw.{Raw}
use Rattle.form_tree.specs.declared.node.Tag.{Tag}
use Rattle.form_markup.specs.Contents.{pieces_of}
use Rattle.form_markup.specs.Faults.{is_email}
use Rattle.form_markup.specs.Limits.{HoldsNoEmail, IsShort, IsWithinLimits}
use Rattle.form_markup.specs.Machine.{State}
use Rattle.form_markup.specs.Spelling.{Spells}
use Rattle.form_tokens.specs.declared.TheConstants.{MOST_ATTRIBUTES}
use Rattle.form_markup.specs.declared.TheConstants.{MOST_ELEMENTS}
use Rattle.form_markup.proofs.Elements.{AllGood, all_good, raws_have}
use Rattle.form_markup.proofs.Once.{fresh, read_contents}
use Rattle.form_markup.proofs.Order.{Tidy, parents_size, tidy_all, tidy_fresh}

pub tidy : (around : List Tag) (text : List ℕ) (raws : List Raw) (s : Spells around text raws) → Tidy around (record { levels = []; raws = raws })
tidy around text raws s =
    let all = tidy_all around fresh (pieces_of s.contents) (tidy_fresh around) s.fine in
    subst (λ (m : State). Tidy around m) (read_contents s.contents ∙ ap (λ (rs : List Raw). (let m : State = record { levels = []; raws = rs } in m)) (sym s.elements)) all

pub good : (around : List Tag) (text : List ℕ) (raws : List Raw) (s : Spells around text raws) → AllGood (pieces_of s.contents)
good around text raws s = all_good around [] 0 (pieces_of s.contents) text [] s.cut s.fine

pub spelled_tree : (around : List Tag) (text : List ℕ) (raws : List Raw) → Spells around text raws → IsTreeOfRaws raws
spelled_tree around text raws s = record {
  in_order = (tidy around text raws s).order;
  names = subst (All (λ (raw : Raw). NamesDiffer raw.attrs)) (sym s.elements) (raws_have (λ (raw : Raw). NamesDiffer raw.attrs) (λ parent tagged t g. g.neat.names) None 0 s.contents (good around text raws s));
}

pub spelled_within : (around : List Tag) (text : List ℕ) (raws : List Raw) → Spells around text raws → IsWithinLimits around raws
spelled_within around text raws s = record {
  elements = subst (λ n. n ≤ MOST_ELEMENTS) (parents_size raws) (tidy around text raws s).few;
  depth = (tidy around text raws s).depth;
  attributes = subst (All (λ (raw : Raw). length raw.attrs ≤ MOST_ATTRIBUTES)) (sym s.elements) (raws_have (λ (raw : Raw). length raw.attrs ≤ MOST_ATTRIBUTES) (λ parent tagged t g. g.neat.few) None 0 s.contents (good around text raws s));
  values = subst (All (λ (raw : Raw). All IsShort raw.attrs)) (sym s.elements) (raws_have (λ (raw : Raw). All IsShort raw.attrs) (λ parent tagged t g. g.neat.short) None 0 s.contents (good around text raws s));
}

pub spelled_no_email : (around : List Tag) (text : List ℕ) (raws : List Raw) → Spells around text raws → HoldsNoEmail raws
spelled_no_email around text raws s = subst HoldsNoEmail (sym s.elements) (raws_have (λ (raw : Raw). is_email raw.tag raw.attrs ≡ false) (λ parent tagged t g. g.no_email) None 0 s.contents (good around text raws s))
