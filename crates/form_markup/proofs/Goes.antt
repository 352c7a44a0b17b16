-- Reading goes on by turns.
use Rattle.std.proofs.Common.{◌≡◌, ℕ, suc, ◌-◌, ◌<◌, List, [], ◌∷◌, Result, Ok, Err, Bool, true, false, length, refl, sym, ap, subst, ◌∙◌, arith, if◌then◌else◌, ◌&&◌, not}
use Rattle.std.proofs.lemmas.Bool.{lt-ltb, ltb-true}
use Rattle.form_tree.specs.declared.node.Raw.{Raw}
use Rattle.form_tree.specs.declared.node.Tag.{Tag}
use Rattle.form_tokens.specs.Bytes.{less_than}
use Rattle.form_tokens.specs.Characters.{AreChunks, HaltsAt, IsReadTo, chunk_at, closes_textarea, goes_on, is_some_text, joined}
use Rattle.form_tokens.specs.Readers.{Fails, ◌>>=◌}
use Rattle.form_tokens.specs.Runs.{begins}
use Rattle.form_tokens.specs.declared.chunk.Context.{Context}
use Rattle.form_tokens.specs.declared.chunk.Context.TheVariants as contexts
use Rattle.form_tokens.specs.declared.fault.Fault.{Fault}
use Rattle.form_tokens.specs.declared.fault.Halt.{Halt}
use Rattle.form_tokens.specs.declared.fault.Stop.{Stop}
use Rattle.form_tokens.specs.declared.fault.Stop.TheVariants as stops
use Rattle.form_tokens.proofs.Laws.{chunk_shorter}
use Rattle.form_markup.specs.Answer.{Answers, answer_of}
use Rattle.form_markup.specs.Goes.{Answering, GoesTo, HaltsWith, Suits}
use Rattle.form_markup.specs.Machine.{Level, State, more_text, outers_of, state, turn}
use Rattle.form_markup.specs.Pieces.{is_in_textarea}
use Rattle.form_markup.specs.Spelling.{page_fault}
use Rattle.form_markup.specs.Turns.{tag_turn, text_turn}
use Rattle.form_markup.proofs.AnswerLaws.{answer_failed, answer_more}
use Rattle.form_markup.proofs.Going.{turned}
use Rattle.form_markup.proofs.Shorter.{piece_shorter}
use Rattle.form_markup.proofs.Stacks.{more_none, more_twice, outers_more}
use Rattle.form_markup.proofs.Turns.{turn_inside, turn_outside}

turn_short : (around : List Tag) (m next : State) (text rest : List ℕ) → turn around m text ≡ Ok (next, rest) → length rest < length text
turn_short around m next text rest e =
    let t = turned around m text (next, rest) e in
    let to : t.0.1 ≡ rest = ap (λ (x : State × List ℕ). x.1) t.3 in
    subst (λ (x : List ℕ). length x < length text) to (piece_shorter (outers_of m.levels) text t.0.0 t.0.1 t.1)

-- one turn
pub turn_goes : (around : List Tag) (m next : State) (text rest : List ℕ) → turn around m text ≡ Ok (next, rest) → GoesTo around m text next rest
turn_goes around m next text rest e =
    let short = turn_short around m next text rest e in
    (short, λ whole a. answer_more around whole m next text rest a short e)

pub turn_halts : (around : List Tag) (m : State) (text : List ℕ) (halt : Halt) → 0 < length text → halt.left ≡ length text → Fails halt.stop (turn around m text) → HaltsWith around m text halt
turn_halts around m text halt lt e f = λ whole a.
    subst (λ n. Answers {X = List Raw} (λ raws. raws) (answer_of around whole) (Err (page_fault halt.stop (length whole - n)))) (sym e) (answer_failed around whole m text halt.stop a lt f)

first_holds : (a b : Bool) → (a && b) ≡ true → a ≡ true
first_holds true b e = refl
first_holds false b e = absurd (cc)

none_begins : (a b : Bool) → (a && not b) ≡ true → b ≡ false
none_begins true true e = absurd (cc)
none_begins true false e = refl
none_begins false b e = absurd (cc)

some_on : (place : Context) (text : List ℕ) → goes_on place text ≡ true → 0 < length text
some_on contexts.Content text e = ltb-true 0 (length text) (first_holds (is_some_text text) (not (begins less_than text)) e)
some_on contexts.Textarea text e = ltb-true 0 (length text) (first_holds (is_some_text text) (not (closes_textarea text)) e)
some_on contexts.Value text e = ltb-true 0 (length text) e

-- a turn on characters
pub text_goes : (around : List Tag) (place : Context) (m : State) (text : List ℕ) → Suits place m → goes_on place text ≡ true → turn around m text ≡ text_turn place m text
text_goes around contexts.Content m text s g =
    let f : Bool → Result (State × List ℕ) Fault = λ b. if b then tag_turn around m text else text_turn contexts.Content m text in
    sym (turn_outside around m text s) ∙ ap f (none_begins (is_some_text text) (begins less_than text) g)
text_goes around contexts.Textarea m text s g =
    let f : Bool → Result (State × List ℕ) Fault = λ b. if b then tag_turn around m text else text_turn contexts.Textarea m text in
    sym (turn_inside around m text s) ∙ ap f (none_begins (is_some_text text) (closes_textarea text) g)
text_goes around contexts.Value m text s g = absurd s

text_read : (place : Context) (m : State) (text rest chunk : List ℕ) → chunk_at place text ≡ Ok (chunk, rest) → text_turn place m text ≡ Ok (state (more_text chunk m.levels) m.raws, rest)
unfolding text_turn
text_read place m text rest chunk e =
    let f : Result (List ℕ × List ℕ) Fault → Result (State × List ℕ) Fault = λ r. r >>= λ x. Ok (state (more_text x.0 m.levels) m.raws, x.1) in
    ap f e

text_failed : (place : Context) (m : State) (text : List ℕ) (kind : Fault) → chunk_at place text ≡ Err kind → text_turn place m text ≡ Err kind
unfolding text_turn
text_failed place m text kind e =
    let f : Result (List ℕ × List ℕ) Fault → Result (State × List ℕ) Fault = λ r. r >>= λ x. Ok (state (more_text x.0 m.levels) m.raws, x.1) in
    ap f e

suits_more : (place : Context) (m : State) (bytes : List ℕ) → Suits place m → Suits place (state (more_text bytes m.levels) m.raws)
suits_more contexts.Content m bytes s = ap is_in_textarea (outers_more bytes m.levels) ∙ s
suits_more contexts.Textarea m bytes s = ap is_in_textarea (outers_more bytes m.levels) ∙ s
suits_more contexts.Value m bytes s = absurd s

-- turns on characters, one after another
chunks_answer : (around : List Tag) (place : Context) (chunks : List (List ℕ)) (m : State) (text rest whole : List ℕ) → Suits place m → AreChunks place chunks text rest → Answering around whole m text
    → Answering around whole (state (more_text (joined chunks) m.levels) m.raws) rest
chunks_answer around place [] m text rest whole s c a =
    subst (λ (levels : List Level). Answering around whole (state levels m.raws) rest) (sym (more_none m.levels)) (subst (λ (x : List ℕ). Answering around whole m x) c a)
chunks_answer around place (chunk ∷ chunks) m text rest whole s c a =
    let next : State = state (more_text chunk m.levels) m.raws in
    let turn_is : turn around m text ≡ Ok (next, c.0) = text_goes around place m text s c.1 ∙ text_read place m text c.0 chunk c.2 in
    let more = answer_more around whole m next text c.0 a (chunk_shorter place text c.0 chunk c.2) turn_is in
    subst (λ (levels : List Level). Answering around whole (state levels m.raws) rest) (more_twice chunk (joined chunks) m.levels)
    (chunks_answer around place chunks next c.0 rest whole (suits_more place m chunk s) c.3 more)

chunks_within : (place : Context) (chunks : List (List ℕ)) (text rest : List ℕ) → AreChunks place chunks text rest → length rest < suc (length text)
chunks_within place [] text rest c = omega (arith, ap length c)
chunks_within place (chunk ∷ chunks) text rest c = omega (arith, chunk_shorter place text c.0 chunk c.2, chunks_within place chunks c.0 rest c.3)

chunks_short : (place : Context) (chunks : List (List ℕ)) (text rest : List ℕ) → goes_on place text ≡ true → IsReadTo place chunks text rest → length rest < length text
chunks_short place [] text rest g h = absurd (let e : goes_on place text ≡ goes_on place rest = ap (goes_on place) h.0 in let no : goes_on place rest ≡ false = h.1 in cc)
chunks_short place (chunk ∷ chunks) text rest g h = omega (arith, chunk_shorter place text h.0.0 chunk h.0.2, chunks_within place chunks h.0.0 rest h.0.3)

-- all characters at the front
pub chunks_goes : (around : List Tag) (place : Context) (chunks : List (List ℕ)) (m next : State) (text rest : List ℕ) → Suits place m → goes_on place text ≡ true → IsReadTo place chunks text rest
    → next ≡ state (more_text (joined chunks) m.levels) m.raws → GoesTo around m text next rest
chunks_goes around place chunks m next text rest s g h e =
    (chunks_short place chunks text rest g h, λ whole a. subst (λ (x : State). Answering around whole x rest) (sym e) (chunks_answer around place chunks m text rest whole s h.0 a))

chunks_halt : (around : List Tag) (place : Context) (m : State) (text : List ℕ) (left : ℕ) (stop : Stop) (whole : List ℕ) → Suits place m → HaltsAt place text left stop → Answering around whole m text
    → Answers {X = List Raw} (λ raws. raws) (answer_of around whole) (Err (page_fault stop (length whole - left)))
chunks_halt around place m text left stops.Memory whole s h a = tt
chunks_halt around place m text left (stops.At kind) whole s h a =
    let next : State = state (more_text (joined h.0) m.levels) m.raws in
    let there = chunks_answer around place h.0 m text h.1 whole s h.2 a in
    let fails : turn around next h.1 ≡ Err kind = text_goes around place next h.1 (suits_more place m (joined h.0) s) h.3 ∙ text_failed place next h.1 kind h.5 in
    subst (λ n. Answers {X = List Raw} (λ raws. raws) (answer_of around whole) (Err (page_fault (stops.At kind) (length whole - n)))) (sym h.4)
    (answer_failed around whole next h.1 (stops.At kind) there (some_on place h.1 h.3) fails)

pub chunks_halts : (around : List Tag) (place : Context) (m : State) (text : List ℕ) (halt : Halt) → Suits place m → HaltsAt place text halt.left halt.stop → HaltsWith around m text halt
chunks_halts around place m text halt s h = λ whole a. chunks_halt around place m text halt.left halt.stop whole s h a

none_or : (a b : Bool) → a ≡ true → (a && not b) ≡ false → b ≡ true
none_or true true e f = refl
none_or true false e f = absurd (cc)
none_or false b e f = absurd (cc)

some_is : (text : List ℕ) → 0 < length text → is_some_text text ≡ true
some_is text lt = lt-ltb 0 (length text) lt

-- a turn on a tag
tag_outside : (around : List Tag) (m : State) (text : List ℕ) → is_in_textarea (outers_of m.levels) ≡ false → begins less_than text ≡ true → tag_turn around m text ≡ turn around m text
tag_outside around m text o e =
    let f : Bool → Result (State × List ℕ) Fault = λ b. if b then tag_turn around m text else text_turn contexts.Content m text in
    sym (ap f e) ∙ turn_outside around m text o

tag_inside : (around : List Tag) (m : State) (text : List ℕ) → is_in_textarea (outers_of m.levels) ≡ true → closes_textarea text ≡ true → tag_turn around m text ≡ turn around m text
tag_inside around m text o e =
    let f : Bool → Result (State × List ℕ) Fault = λ b. if b then tag_turn around m text else text_turn contexts.Textarea m text in
    sym (ap f e) ∙ turn_inside around m text o

-- where there are no more characters, a tag is next
pub tag_goes : (around : List Tag) (place : Context) (m : State) (text : List ℕ) → Suits place m → 0 < length text → goes_on place text ≡ false → tag_turn around m text ≡ turn around m text
tag_goes around contexts.Content m text s lt e = tag_outside around m text s (none_or (is_some_text text) (begins less_than text) (some_is text lt) e)
tag_goes around contexts.Textarea m text s lt e = tag_inside around m text s (none_or (is_some_text text) (closes_textarea text) (some_is text lt) e)
tag_goes around contexts.Value m text s lt e = absurd s
