-- The one answer of a text is what it spells, or its first fault.
use Rattle.std.proofs.Common.{◌≡◌, ℕ, zero, suc, ◌-◌, ◌<◌, ◌≤◌, List, [], ◌∷◌, Result, Ok, Err, length, refl, sym, ap, subst, ◌∙◌, arith}
use Rattle.form_tree.specs.declared.node.Raw.{Raw}
use Rattle.form_tree.specs.declared.node.Tag.{Tag}
use Rattle.form_markup.specs.Goes.{Answering}
use Rattle.form_markup.specs.Answer.{Answers, answer_of, end_answer, rest_answer, turn_answer}
use Rattle.form_tokens.specs.Readers.{Fails}
use Rattle.form_markup.specs.Machine.{Level, State, turn}
use Rattle.form_markup.specs.Spelling.{IsRead, page_fault}
use Rattle.form_tokens.specs.declared.fault.Fault.{Fault}
use Rattle.form_tokens.specs.declared.fault.Fault.TheVariants as faults
use Rattle.form_markup.specs.declared.fault.PageFault.{PageFault}
use Rattle.form_markup.specs.declared.fault.PageFault.TheVariants as pages
use Rattle.form_tokens.specs.declared.fault.Stop.{Stop}
use Rattle.form_tokens.specs.declared.fault.Stop.TheVariants as stops
use Rattle.form_markup.proofs.Going.{Going, begun, ended, failed, gone_on, left_open}
use Rattle.form_markup.proofs.Once.{fresh}

pub rest_read : (n : ℕ) (around : List Tag) (text : List ℕ) (m : State) (rest : List ℕ) → Going around text m rest → length rest ≤ n → IsRead around text (rest_answer n around (length text) m rest)
rest_read n around text m [] g le = go m.levels refl
  where
    go : (os : List Level) → m.levels ≡ os → IsRead around text (end_answer (length text) os m.raws)
    go [] e = ended around text m g e
    go (o ∷ os) e = left_open around text m o os g e
rest_read zero around text m (b ∷ bs) g le = absurd (omega arith)
rest_read (suc n) around text m (b ∷ bs) g le = go (rest_read n around text) (turn around m (b ∷ bs)) refl
  where
    go : ((next : State) (rest : List ℕ) → Going around text next rest → length rest ≤ n → IsRead around text (rest_answer n around (length text) next rest))
        → (r : Result (State × List ℕ) Fault) → turn around m (b ∷ bs) ≡ r → IsRead around text (turn_answer (rest_answer n around (length text)) (length text - length (b ∷ bs)) r)
    go again (Ok x) e = let one = gone_on around text (b ∷ bs) x.1 m x.0 g e in again x.0 x.1 one.0 (omega (arith, one.1))
    go again (Err kind) e = failed around text (b ∷ bs) m (stops.At kind) g (omega arith) e

-- the answer is what the text spells, or its first fault
pub answer_read : (around : List Tag) (text : List ℕ) → IsRead around text (answer_of around text)
unfolding answer_of
answer_read around text = rest_read (length text) around text fresh text (begun around text) (omega arith)

-- the answer of the rest is never that memory was refused
pub rest_never : (n : ℕ) (around : List Tag) (size : ℕ) (m : State) (rest : List ℕ) → rest_answer n around size m rest ≡ Err pages.Memory → ⊥
rest_never n around size m [] e = go m.levels e
  where
    go : (levels : List Level) → end_answer size levels m.raws ≡ Err pages.Memory → ⊥
    go [] e = absurd (cc)
    go (level ∷ levels) e = absurd (cc)
rest_never zero around size m (b ∷ bs) e = absurd (cc)
rest_never (suc n) around size m (b ∷ bs) e = go (rest_never n around size) (turn around m (b ∷ bs)) e
  where
    go : ((next : State) (rest : List ℕ) → rest_answer n around size next rest ≡ Err pages.Memory → ⊥)
        → (r : Result (State × List ℕ) Fault) → turn_answer (rest_answer n around size) (size - length (b ∷ bs)) r ≡ Err pages.Memory → ⊥
    go more (Ok x) h = more x.0 x.1 h
    go more (Err faults.Lexical) h = absurd (cc)
    go more (Err faults.Limit) h = absurd (cc)
    go more (Err faults.Element) h = absurd (cc)
    go more (Err faults.Email) h = absurd (cc)
    go more (Err faults.Nesting) h = absurd (cc)

-- the answer of a text is never that memory was refused
pub answer_never : (around : List Tag) (text : List ℕ) → answer_of around text ≡ Err pages.Memory → ⊥
unfolding answer_of
answer_never around text = rest_never (length text) around (length text) fresh text

pub answer_begun : (around : List Tag) (text : List ℕ) → Answering around text fresh text
unfolding answer_of
answer_begun around text = record { fuel = length text; enough = omega arith; same = refl }

pub answer_turn : (around : List Tag) (text : List ℕ) (m : State) (rest : List ℕ) (r : Result (State × List ℕ) Fault) → Answering around text m rest → 0 < length rest → turn around m rest ≡ r → (fuel : ℕ) × (length rest ≤ suc fuel) × (turn_answer (rest_answer fuel around (length text)) (length text - length rest) r ≡ answer_of around text)
answer_turn around text m [] r a lt e = absurd (omega arith)
answer_turn around text m (b ∷ bs) r a lt e = go a.fuel a.enough a.same
  where
    go : (fuel : ℕ) → length (b ∷ bs) ≤ fuel → rest_answer fuel around (length text) m (b ∷ bs) ≡ answer_of around text
        → (n : ℕ) × (length (b ∷ bs) ≤ suc n) × (turn_answer (rest_answer n around (length text)) (length text - length (b ∷ bs)) r ≡ answer_of around text)
    go zero le same = absurd (omega arith)
    go (suc n) le same = (n, le, ap (turn_answer (rest_answer n around (length text)) (length text - length (b ∷ bs))) (sym e) ∙ same)

pub answer_more : (around : List Tag) (text : List ℕ) (m next : State) (rest behind : List ℕ) → Answering around text m rest → length behind < length rest → turn around m rest ≡ Ok (next, behind) → Answering around text next behind
answer_more around text m next rest behind a lt e =
    let t = answer_turn around text m rest (let x : State × List ℕ = (next, behind) in Ok x) a (omega arith) e in
    record { fuel = t.0; enough = omega (arith, t.1); same = t.2 }

pub answer_failed : (around : List Tag) (text : List ℕ) (m : State) (rest : List ℕ) (stop : Stop) → Answering around text m rest → 0 < length rest → Fails stop (turn around m rest) → Answers {X = List Raw} (λ raws. raws) (answer_of around text) (Err (page_fault stop (length text - length rest)))
answer_failed around text m rest stops.Memory a lt e = tt
answer_failed around text m rest (stops.At faults.Lexical) a lt e = sym (answer_turn around text m rest (Err faults.Lexical) a lt e).2
answer_failed around text m rest (stops.At faults.Limit) a lt e = sym (answer_turn around text m rest (Err faults.Limit) a lt e).2
answer_failed around text m rest (stops.At faults.Element) a lt e = sym (answer_turn around text m rest (Err faults.Element) a lt e).2
answer_failed around text m rest (stops.At faults.Email) a lt e = sym (answer_turn around text m rest (Err faults.Email) a lt e).2
answer_failed around text m rest (stops.At faults.Nesting) a lt e = sym (answer_turn around text m rest (Err faults.Nesting) a lt e).2

pub no_bytes : (rest : List ℕ) → length rest ≡ 0 → rest ≡ []
no_bytes [] e = refl
no_bytes (b ∷ bs) e = absurd (omega arith)

pub answer_end : (around : List Tag) (text rest : List ℕ) (m : State) → Answering around text m rest → length rest ≡ 0 → answer_of around text ≡ end_answer (length text) m.levels m.raws
answer_end around text rest m a e = sym a.same ∙ ap (rest_answer a.fuel around (length text) m) (no_bytes rest e)

-- what a call gave is what the text spells, or its first fault
pub answers_read : (around : List Tag) (text : List ℕ) (result : Result (List Raw) PageFault) → Answers {X = List Raw} (λ raws. raws) (answer_of around text) result → IsRead around text result
answers_read around text (Ok raws) h = subst (IsRead around text) h (answer_read around text)
answers_read around text (Err pages.Memory) h = tt
answers_read around text (Err (pages.Lexical place)) h = subst (IsRead around text) h (answer_read around text)
answers_read around text (Err (pages.Limit place)) h = subst (IsRead around text) h (answer_read around text)
answers_read around text (Err (pages.Element place)) h = subst (IsRead around text) h (answer_read around text)
answers_read around text (Err (pages.Email place)) h = subst (IsRead around text) h (answer_read around text)
answers_read around text (Err (pages.Nesting place)) h = subst (IsRead around text) h (answer_read around text)
