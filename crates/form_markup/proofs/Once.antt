-- A text has one list of elements or one fault.
use Rattle.std.proofs.Common.{◌≡◌, ℕ, List, [], ◌∷◌, Some, None, Result, Ok, Err, length, ◌<◌, refl, sym, ap, subst, ◌∙◌, arith}
use Rattle.form_tree.specs.declared.node.Raw.{Raw}
use Rattle.form_tree.specs.declared.node.Tag.{Tag}
use Rattle.form_markup.specs.Contents.{Piece, Start, Void, Oversized, End, Characters, Ignored, Contents, pieces_of, raws_of}
use Rattle.form_markup.specs.Faults.{Outer, opens, counts, fault_of, IsFine, opens_all, counts_all}
use Rattle.form_markup.specs.Machine.{Level, State, state, outers_of, more_text, after, after_all}
use Rattle.form_markup.specs.Pieces.{piece_in}
use Rattle.form_markup.specs.Spelling.{IsCut, Spells, IsFault, IsRead, GivesRaws, kind_at, kind_in}
use Rattle.form_markup.specs.declared.fault.PageFault.{PageFault}
use Rattle.form_markup.specs.declared.fault.PageFault.TheVariants as pages
use Rattle.form_tokens.specs.declared.fault.Fault.{Fault}
use Rattle.form_tokens.specs.declared.fault.Fault.TheVariants as faults
use Rattle.form_markup.proofs.Laws.{over_contents}
use Rattle.form_markup.proofs.Found.{nested}
use Rattle.form_markup.proofs.Shorter.{piece_shorter}

pub outers_more : (bytes : List ℕ) (s : List Level) → outers_of (more_text bytes s) ≡ outers_of s
outers_more bytes [] = refl
outers_more bytes (o ∷ os) = refl

pub outers_after : (s : List Level) (raws : List Raw) (p : Piece) → outers_of (after (state s raws) p).levels ≡ opens (outers_of s) p
outers_after s raws (Start tagged) = refl
outers_after s raws (Void tagged) = refl
outers_after [] raws (End end) = refl
outers_after (o ∷ os) raws (End end) = refl
outers_after s raws (Characters bytes) = outers_more bytes s
outers_after s raws Oversized = refl
outers_after s raws Ignored = refl

pub outers_after_all : (m : State) (ps : List Piece) → outers_of (after_all m ps).levels ≡ opens_all (outers_of m.levels) ps
outers_after_all m [] = refl
outers_after_all m (p ∷ ps) = outers_after_all (after m p) ps ∙ ap (λ ns. opens_all ns ps) (outers_after m.levels m.raws p)

abbrev pub fresh : State
fresh = state [] []

pub read_contents : (c : Contents) → after_all fresh (pieces_of c) ≡ state [] (raws_of None 0 c)
read_contents c = over_contents [] [] c

pub opens_contents : (c : Contents) → opens_all [] (pieces_of c) ≡ []
opens_contents c = sym (outers_after_all fresh (pieces_of c)) ∙ ap (λ (m : State). outers_of m.levels) (read_contents c)

-- what is read to the end without a fault, and leaves no element open, is spelled
pub spelled : (around : List Tag) (text : List ℕ) (ps : List Piece) → IsCut [] ps text [] → IsFine around [] 0 ps → (after_all fresh ps).levels ≡ [] → Spells around text (after_all fresh ps).raws
spelled around text ps cut fine e =
    let c = nested around [] 0 ps fine (sym (outers_after_all fresh ps) ∙ ap outers_of e) in
    record {
      contents = c.0;
      cut = subst (λ (qs : List Piece). IsCut [] qs text []) c.1 cut;
      fine = subst (λ (qs : List Piece). IsFine around [] 0 qs) c.1 fine;
      elements = ap (λ (qs : List Piece). (after_all fresh qs).raws) c.1 ∙ ap (λ (m : State). m.raws) (read_contents c.0);
    }

-- Of two cuts of a text, both without a fault, and each with an end or a fault behind it, the pieces are the same.
abbrev pub Stops : List Tag → List Outer → ℕ → List ℕ → Type 0
Stops around outers n [] = Unit {0}
Stops around outers n (b ∷ bs) = (kind : Fault) × (kind_in around outers n (piece_in outers (b ∷ bs)) ≡ Some kind)

pub at_end : (outers : List Outer) (x : Piece × List ℕ) → piece_in outers [] ≡ Ok x → ⊥
at_end outers x e = let h : length x.1 < length (let none : List ℕ = [] in none) = piece_shorter outers [] x.0 x.1 e in omega arith

pub goes_on : (around : List Tag) (outers : List Outer) (n : ℕ) (text between : List ℕ) (p : Piece) → Stops around outers n text → piece_in outers text ≡ Ok (p, between) → fault_of around outers n p ≡ None → ⊥
goes_on around outers n [] between p s e f = at_end outers (p, between) e
goes_on around outers n (b ∷ bs) between p s e f =
    let here : fault_of around outers n p ≡ Some s.0 = sym (ap (kind_in around outers n) e) ∙ s.1 in
    cc

pub same_pieces : (around : List Tag) (outers : List Outer) (n : ℕ) (ps qs : List Piece) (text rest other : List ℕ) → IsCut outers ps text rest → IsCut outers qs text other → IsFine around outers n ps → IsFine around outers n qs
    → Stops around (opens_all outers ps) (counts_all n ps) rest → Stops around (opens_all outers qs) (counts_all n qs) other → (ps ≡ qs) × (rest ≡ other)
same_pieces around outers n [] [] text rest other a b f g s t = (refl, sym a ∙ b)
same_pieces around outers n [] (q ∷ qs) text rest other a b f g s t = absurd (goes_on around outers n text b.0 q (subst (λ (x : List ℕ). Stops around outers n x) (sym a) s) b.1 g.0)
same_pieces around outers n (p ∷ ps) [] text rest other a b f g s t = absurd (goes_on around outers n text a.0 p (subst (λ (x : List ℕ). Stops around outers n x) (sym b) t) a.1 f.0)
same_pieces around outers n (p ∷ ps) (q ∷ qs) text rest other a b f g s t =
    let pair : (let x : Piece × List ℕ = (p, a.0) in x) ≡ (q, b.0) = cc in
    let first : q ≡ p = sym (ap (λ (x : Piece × List ℕ). x.0) pair) in
    let place : b.0 ≡ a.0 = sym (ap (λ (x : Piece × List ℕ). x.1) pair) in
    let more = same_pieces around (opens outers p) (counts n p) ps qs a.0 rest other a.2 (subst (λ (x : List ℕ). IsCut (opens outers p) qs x other) place (subst (λ (x : Piece). IsCut (opens outers x) qs b.0 other) first b.2))
    f.1 (subst (λ (x : Piece). IsFine around (opens outers x) (counts n x) qs) first g.1)
    s (subst (λ (x : Piece). Stops around (opens_all (opens outers x) qs) (counts_all (counts n x) qs) other) first t) in
    let firsts : p ≡ q = sym first in
    let others : ps ≡ qs = more.0 in
    (cc, more.1)

-- a text spells at most one list
pub once : (around : List Tag) (text : List ℕ) (xs ys : List Raw) → Spells around text xs → Spells around text ys → xs ≡ ys
once around text xs ys a b =
    let same = same_pieces around [] 0 (pieces_of a.contents) (pieces_of b.contents) text [] [] a.cut b.cut a.fine b.fine tt tt in
    let raws : (c : Contents) → (after_all fresh (pieces_of c)).raws ≡ raws_of None 0 c = λ c. ap (λ (m : State). m.raws) (read_contents c) in
    a.elements ∙ (sym (raws a.contents) ∙ (ap (λ (ps : List Piece). (after_all fresh ps).raws) same.0 ∙ (raws b.contents ∙ sym b.elements)))

pub stops_here : (around : List Tag) (outers : List Outer) (n : ℕ) (rest : List ℕ) (kind : Fault) → kind_at around outers n rest ≡ Some kind → Stops around outers n rest
stops_here around outers n [] kind e = tt
stops_here around outers n (b ∷ bs) kind e = (kind, e)

-- a text has at most one fault
pub one_fault : (around : List Tag) (text : List ℕ) (kind other : Fault) (place there : ℕ) → IsFault around text kind place → IsFault around text other there → (kind ≡ other) × (place ≡ there)
one_fault around text kind other place there a b =
    let same = same_pieces around [] 0 a.before b.before text a.rest b.rest a.cut b.cut a.fine b.fine
    (stops_here around (opens_all [] a.before) (counts_all 0 a.before) a.rest kind a.here) (stops_here around (opens_all [] b.before) (counts_all 0 b.before) b.rest other b.here) in
    let kinds : Some kind ≡ Some other = sym a.here ∙ (ap (λ (ps : List Piece). kind_at around (opens_all [] ps) (counts_all 0 ps) a.rest) same.0
    ∙ (ap (λ (r : List ℕ). kind_at around (opens_all [] b.before) (counts_all 0 b.before) r) same.1 ∙ b.here)) in
    let sizes : length a.rest ≡ length b.rest = ap length same.1 in
    (cc, omega (arith, a.stands, b.stands, sizes))

-- what spells a list has no fault
pub apart : (around : List Tag) (text : List ℕ) (raws : List Raw) (kind : Fault) (place : ℕ) → Spells around text raws → IsFault around text kind place → ⊥
apart around text raws kind place a b =
    let same = same_pieces around [] 0 (pieces_of a.contents) b.before text [] b.rest a.cut b.cut a.fine b.fine tt (stops_here around (opens_all [] b.before) (counts_all 0 b.before) b.rest kind b.here) in
    let here : kind_at around (opens_all [] (pieces_of a.contents)) (counts_all 0 (pieces_of a.contents)) [] ≡ Some kind =
    ap (λ (ps : List Piece). kind_at around (opens_all [] ps) (counts_all 0 ps) []) same.0 ∙ (ap (λ (r : List ℕ). kind_at around (opens_all [] b.before) (counts_all 0 b.before) r) same.1 ∙ b.here) in
    let shut : kind_at around [] (counts_all 0 (pieces_of a.contents)) [] ≡ Some kind =
    ap (λ (outers : List Outer). kind_at around outers (counts_all 0 (pieces_of a.contents)) []) (sym (opens_contents a.contents)) ∙ here in
    cc

pub only_raws : (around : List Tag) (text : List ℕ) (raws : List Raw) (result : Result (List Raw) PageFault) → IsRead around text result → Spells around text raws → GivesRaws (λ given. given) raws result
only_raws around text raws (Ok given) a b = once around text given raws a b
only_raws around text raws (Err pages.Memory) a b = refl
only_raws around text raws (Err (pages.Lexical place)) a b = absurd (apart around text raws faults.Lexical place b a)
only_raws around text raws (Err (pages.Limit place)) a b = absurd (apart around text raws faults.Limit place b a)
only_raws around text raws (Err (pages.Element place)) a b = absurd (apart around text raws faults.Element place b a)
only_raws around text raws (Err (pages.Email place)) a b = absurd (apart around text raws faults.Email place b a)
only_raws around text raws (Err (pages.Nesting place)) a b = absurd (apart around text raws faults.Nesting place b a)
