-- What a text is read into, as one answer.
use Rattle.std.specs.Prelude.{◌≡◌, ℕ, zero, suc, ◌-◌, List, [], ◌∷◌, Result, Ok, Err, length}
use Rattle.form_tree.specs.declared.node.Raw.{Raw}
use Rattle.form_tree.specs.declared.node.Tag.{Tag}
use Rattle.form_markup.specs.Machine.{Level, State, state, turn}
use Rattle.form_markup.specs.Spelling.{page_fault}
use Rattle.form_tokens.specs.declared.fault.Fault.{Fault}
use Rattle.form_markup.specs.declared.fault.PageFault.{PageFault}
use Rattle.form_markup.specs.declared.fault.PageFault.TheVariants as pages
use Rattle.form_tokens.specs.declared.fault.Stop.TheVariants as stops

-- the answer at the end of a text of this length: none of its elements may be open
abbrev pub end_answer : ℕ → List Level → List Raw → Result (List Raw) PageFault
end_answer size [] raws = Ok raws
end_answer size (o ∷ os) raws = Err (pages.Nesting size)

-- the answer where a piece has this fault, or else that of what stands behind the piece
abbrev pub turn_answer : (State → List ℕ → Result (List Raw) PageFault) → ℕ → Result (State × List ℕ) Fault
    → Result (List Raw) PageFault
turn_answer more place (Ok x) = more x.0 x.1
turn_answer more place (Err kind) = Err (page_fault (stops.At kind) place)

-- the answer of a text of this length, of which this rest is left; each piece takes a byte at least
abbrev pub rest_answer : ℕ → List Tag → ℕ → State → List ℕ → Result (List Raw) PageFault
rest_answer n around size m [] = end_answer size m.levels m.raws
rest_answer zero around size m (b ∷ bs) = Err (pages.Lexical size)
rest_answer (suc n) around size m (b ∷ bs) =
    turn_answer (rest_answer n around size) (size - length (b ∷ bs)) (turn around m (b ∷ bs))

-- the elements that a text spells inside these elements, or its first fault
unfoldable pub answer_of : List Tag → List ℕ → Result (List Raw) PageFault
answer_of around text = rest_answer (length text) around (length text) (state [] []) text

-- what a call that reads gave, seen by the view, is this answer, or there was no memory
abbrev pub Answers : {X : Type 0} → (X → List Raw) → Result (List Raw) PageFault → Result X PageFault → Type 0
Answers view answer (Ok x) = answer ≡ Ok (view x)
Answers view answer (Err pages.Memory) = Unit {0}
Answers view answer (Err (pages.Lexical place)) = answer ≡ Err (pages.Lexical place)
Answers view answer (Err (pages.Limit place)) = answer ≡ Err (pages.Limit place)
Answers view answer (Err (pages.Element place)) = answer ≡ Err (pages.Element place)
Answers view answer (Err (pages.Email place)) = answer ≡ Err (pages.Email place)
Answers view answer (Err (pages.Nesting place)) = answer ≡ Err (pages.Nesting place)
