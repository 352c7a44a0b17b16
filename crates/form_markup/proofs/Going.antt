-- What holds while the reader goes over the text.
use Rattle.std.proofs.Common.{◌≡◌, ℕ, zero, suc, ◌-◌, ◌<◌, ◌≤◌, List, [], ◌∷◌, ◌++◌, Option, Some, None, Result, Ok, Err, length, refl, sym, ap, subst, ◌∙◌, arith, add-one, length-append}
use Rattle.form_tree.specs.declared.node.Raw.{Raw}
use Rattle.form_tree.specs.declared.node.Tag.{Tag}
use Rattle.form_markup.specs.Contents.{Piece, Start, Void, Oversized, End, Characters, Ignored}
use Rattle.form_markup.specs.Faults.{Outer, opens, counts, fault_of, IsFine, opens_all, counts_all}
use Rattle.form_markup.specs.Machine.{Level, State, outers_of, with_text, state, after, after_all, judged, turn}
use Rattle.form_tokens.specs.Readers.{Fails}
use Rattle.form_tokens.specs.Readers.{◌>>=◌}
use Rattle.form_markup.specs.Pieces.{piece_in}
use Rattle.form_markup.specs.Spelling.{IsCut, Spells, IsFault, kind_at, kind_in, IsPageFault, page_fault}
use Rattle.form_tokens.specs.declared.fault.Fault.{Fault}
use Rattle.form_tokens.specs.declared.fault.Fault.TheVariants as faults
use Rattle.form_tokens.specs.declared.fault.Stop.{Stop}
use Rattle.form_tokens.specs.declared.fault.Stop.TheVariants as stops
use Rattle.form_markup.proofs.Once.{fresh, outers_after_all, spelled}
use Rattle.form_markup.proofs.Shorter.{piece_shorter}

pub record Going (around : List Tag) (text : List ℕ) (m : State) (rest : List ℕ) : Type 0 where
  pub before : List Piece
  pub cut : IsCut [] before text rest
  pub fine : IsFine around [] 0 before
  pub reached : m ≡ after_all fresh before
  pub left : length rest ≤ length text

pub begun : (around : List Tag) (text : List ℕ) → Going around text fresh text
begun around text = record { before = []; cut = refl; fine = tt; reached = refl; left = omega arith }

pub length-with_text : (i : ℕ) (text : List ℕ) (xs : List Raw) → length (with_text i text xs) ≡ length xs
length-with_text i text [] = refl
length-with_text zero text (x ∷ xs) = refl
length-with_text (suc i) text (x ∷ xs) = ap suc (length-with_text i text xs)

pub count_after : (s : List Level) (raws : List Raw) (p : Piece) → length (after (state s raws) p).raws ≡ counts (length raws) p
count_after s raws (Start tagged) = length-append raws (_ ∷ []) ∙ add-one (length raws)
count_after s raws (Void tagged) = length-append raws (_ ∷ []) ∙ add-one (length raws)
count_after [] raws (End end) = refl
count_after (o ∷ os) raws (End end) = length-with_text o.place o.text raws
count_after s raws (Characters bytes) = refl
count_after s raws Oversized = refl
count_after s raws Ignored = refl

pub count_after_all : (m : State) (ps : List Piece) → length (after_all m ps).raws ≡ counts_all (length m.raws) ps
count_after_all m [] = refl
count_after_all m (p ∷ ps) = count_after_all (after m p) ps ∙ ap (λ n. counts_all n ps) (count_after m.levels m.raws p)

pub fine_more : (around : List Tag) (outers : List Outer) (n : ℕ) (ps : List Piece) (p : Piece) → IsFine around outers n ps → fault_of around (opens_all outers ps) (counts_all n ps) p ≡ None → IsFine around outers n (ps ++ (p ∷ []))
fine_more around outers n [] p f e = (e, tt)
fine_more around outers n (q ∷ qs) p f e = (f.0, fine_more around (opens outers q) (counts n q) qs p f.1 e)

pub cut_more : (outers : List Outer) (ps : List Piece) (p : Piece) (text rest behind : List ℕ) → IsCut outers ps text rest → piece_in (opens_all outers ps) rest ≡ Ok (p, behind) → IsCut outers (ps ++ (p ∷ [])) text behind
cut_more outers [] p text rest behind c e = (behind, subst (λ (x : List ℕ). piece_in outers x ≡ Ok (p, behind)) (sym c) e, refl)
cut_more outers (q ∷ qs) p text rest behind c e = (c.0, c.1, cut_more (opens outers q) qs p c.0 rest behind c.2 e)

pub after_more : (m : State) (ps : List Piece) (p : Piece) → after_all m (ps ++ (p ∷ [])) ≡ after (after_all m ps) p
after_more m [] p = refl
after_more m (q ∷ qs) p = after_more (after m q) qs p

pub judged_ok : (o : Option Fault) (m : State) (rest : List ℕ) (y : State × List ℕ) → judged o m rest ≡ Ok y → (o ≡ None) × ((let x : State × List ℕ = (m, rest) in x) ≡ y)
judged_ok None m rest y e = (refl, cc)
judged_ok (Some kind) m rest y e = absurd (cc)

pub judged_err : (o : Option Fault) (m : State) (rest : List ℕ) (kind : Fault) → judged o m rest ≡ Err kind → o ≡ Some kind
judged_err None m rest kind e = absurd (cc)
judged_err (Some other) m rest kind e = cc

abbrev pub Turned : List Tag → State → Result (Piece × List ℕ) Fault → State × List ℕ → Type 0
Turned around m r y = (x : Piece × List ℕ) × (r ≡ Ok x) × (fault_of around (outers_of m.levels) (length m.raws) x.0 ≡ None) × ((let z : State × List ℕ = (after m x.0, x.1) in z) ≡ y)

pub turned : (around : List Tag) (m : State) (text : List ℕ) (y : State × List ℕ) → turn around m text ≡ Ok y → Turned around m (piece_in (outers_of m.levels) text) y
unfolding turn
turned around m text y e = go (piece_in (outers_of m.levels) text) e
  where
    go : (r : Result (Piece × List ℕ) Fault) → (r >>= λ x. judged (fault_of around (outers_of m.levels) (length m.raws) x.0) (after m x.0) x.1) ≡ Ok y → Turned around m r y
    go (Ok x) h = let j = judged_ok (fault_of around (outers_of m.levels) (length m.raws) x.0) (after m x.0) x.1 y h in (x, refl, j.0, j.1)
    go (Err kind) h = absurd (cc)

pub refused : (around : List Tag) (m : State) (text : List ℕ) (kind : Fault) → turn around m text ≡ Err kind → kind_in around (outers_of m.levels) (length m.raws) (piece_in (outers_of m.levels) text) ≡ Some kind
unfolding turn
refused around m text kind e = go (piece_in (outers_of m.levels) text) e
  where
    go : (r : Result (Piece × List ℕ) Fault) → (r >>= λ x. judged (fault_of around (outers_of m.levels) (length m.raws) x.0) (after m x.0) x.1) ≡ Err kind → kind_in around (outers_of m.levels) (length m.raws) r ≡ Some kind
    go (Ok x) h = judged_err (fault_of around (outers_of m.levels) (length m.raws) x.0) (after m x.0) x.1 kind h
    go (Err other) h = cc

pub outers_here : (m : State) (before : List Piece) → m ≡ after_all fresh before → outers_of m.levels ≡ opens_all [] before
outers_here m before e = ap (λ (x : State). outers_of x.levels) e ∙ outers_after_all fresh before

pub count_here : (m : State) (before : List Piece) → m ≡ after_all fresh before → length m.raws ≡ counts_all 0 before
count_here m before e = ap (λ (x : State). length x.raws) e ∙ count_after_all fresh before

-- One turn.
pub gone_on : (around : List Tag) (text rest behind : List ℕ) (m next : State) → Going around text m rest → turn around m rest ≡ Ok (next, behind) → Going around text next behind × (length behind < length rest)
gone_on around text rest behind m next g e =
    let t = turned around m rest (next, behind) e in
    let p : Piece = t.0.0 in
    let to : t.0.1 ≡ behind = ap (λ (x : State × List ℕ). x.1) t.3 in
    let piece : piece_in (outers_of m.levels) rest ≡ Ok (p, behind) = t.1 ∙ ap (λ (x : List ℕ). Ok (let y : Piece × List ℕ = (p, x) in y)) to in
    let fine : fault_of around (opens_all [] g.before) (counts_all 0 g.before) p ≡ None =
    subst (λ (outers : List Outer). fault_of around outers (counts_all 0 g.before) p ≡ None) (outers_here m g.before g.reached)
    (subst (λ n. fault_of around (outers_of m.levels) n p ≡ None) (count_here m g.before g.reached) t.2) in
    let short : length behind < length rest = piece_shorter (outers_of m.levels) rest p behind piece in
    let left : length rest ≤ length text = g.left in (
      record {
        before = g.before ++ (p ∷ []);
        cut = cut_more [] g.before p text rest behind g.cut (subst (λ (outers : List Outer). piece_in outers rest ≡ Ok (p, behind)) (outers_here m g.before g.reached) piece);
        fine = fine_more around [] 0 g.before p g.fine fine;
        reached = sym (ap (λ (x : State × List ℕ). x.0) t.3) ∙ (ap (λ (x : State). after x p) g.reached ∙ sym (after_more fresh g.before p));
        left = omega arith;
      },
      short,
    )

-- A turn that meets a fault.
pub stopped : (around : List Tag) (text rest : List ℕ) (m : State) (kind : Fault) → Going around text m rest → 0 < length rest → turn around m rest ≡ Err kind → IsFault around text kind (length text - length rest)
stopped around text [] m kind g lt e = absurd (omega arith)
stopped around text (b ∷ bs) m kind g lt e =
    let left : length (b ∷ bs) ≤ length text = g.left in
    record {
      before = g.before;
      rest = b ∷ bs;
      cut = g.cut;
      fine = g.fine;
      here = subst (λ (outers : List Outer). kind_in around outers (counts_all 0 g.before) (piece_in outers (b ∷ bs)) ≡ Some kind) (outers_here m g.before g.reached)
          (subst (λ n. kind_in around (outers_of m.levels) n (piece_in (outers_of m.levels) (b ∷ bs)) ≡ Some kind) (count_here m g.before g.reached) (refused around m (b ∷ bs) kind e));
      stands = omega arith;
    }

-- The text's end.
pub ended : (around : List Tag) (text : List ℕ) (m : State) → Going around text m [] → m.levels ≡ [] → Spells around text m.raws
ended around text m g e =
    subst (λ (x : State). Spells around text x.raws) (sym g.reached) (spelled around text g.before g.cut g.fine (sym (ap (λ (x : State). x.levels) g.reached) ∙ e))

pub left_open : (around : List Tag) (text : List ℕ) (m : State) (o : Level) (os : List Level) → Going around text m [] → m.levels ≡ o ∷ os → IsFault around text faults.Nesting (length text)
left_open around text m o os g e =
    record {
      before = g.before;
      rest = [];
      cut = g.cut;
      fine = g.fine;
      here = subst (λ (outers : List Outer). kind_at around outers (counts_all 0 g.before) [] ≡ Some faults.Nesting) (sym (ap outers_of e) ∙ outers_here m g.before g.reached) refl;
      stands = omega arith;
    }

pub failed : (around : List Tag) (text rest : List ℕ) (m : State) (stop : Stop) → Going around text m rest → 0 < length rest → Fails stop (turn around m rest) → IsPageFault around text (page_fault stop (length text - length rest))
failed around text rest m stops.Memory g lt e = tt
failed around text rest m (stops.At faults.Lexical) g lt e = stopped around text rest m faults.Lexical g lt e
failed around text rest m (stops.At faults.Limit) g lt e = stopped around text rest m faults.Limit g lt e
failed around text rest m (stops.At faults.Element) g lt e = stopped around text rest m faults.Element g lt e
failed around text rest m (stops.At faults.Email) g lt e = stopped around text rest m faults.Email g lt e
failed around text rest m (stops.At faults.Nesting) g lt e = stopped around text rest m faults.Nesting g lt e

pub no_rest : (rest : List ℕ) → length rest ≡ 0 → rest ≡ []
no_rest [] e = refl
no_rest (b ∷ bs) e = absurd (omega arith)
