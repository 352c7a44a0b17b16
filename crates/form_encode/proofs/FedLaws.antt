-- What a scan stands for after each call.
use Rattle.std.proofs.Common.{◌≡◌, ℕ, ◌+◌, ◌<◌, ◌≤◌, Bool, true, false, ◌||◌, not, List, [], ◌∷◌, ◌++◌, length, map, take, drop, nat_lt, Option, Some, refl, sym, ap, ◌∙◌, subst, arith, append_assoc}
use Rattle.std.specs.Prelude.{All}
use Rattle.std.specs.List.{list_any, position}
use Rattle.std.specs.Option.{option_map}
use Rattle.std.proofs.Common.{cond, suc, String, Global, string_bytes, get_or}
use Rattle.std.proofs.lemmas.Bool.{ltb-true, ltb-false}
use Rattle.std.proofs.lemmas.List.{map-append, take_all, take_more}
use Rattle.std.proofs.lemmas.List.Elements.{All-cons, All-head, All-tail}
use Rattle.std.proofs.lemmas.List.Folds.{list_any-append}
use Rattle.form_text.proofs.Laws.{position-cons}
use Rattle.form_encode.specs.declared.scanning.Mark.{Mark}
use Rattle.form_encode.specs.Boundaries.{IsFirstFree, delimiter, first_free, has_delimiter, is_taken, longest_boundary}
use Rattle.form_encode.specs.Scanning.{Scanned, StandsFor, is_untaken, last_bytes, mark_of, overlap, seen_in}
use Rattle.form_encode.proofs.FreeLaws.{first_free-rule}
use Rattle.form_encode.proofs.ScanLaws.{below_some}
use Rattle.form_encode.proofs.SeamLaws.{last_bytes-long, last_bytes-more, seam}

-- ---- a boundary

abbrev pub is_short : Mark → Type 0
is_short mark = length mark.boundary ≤ longest_boundary

grown : (a p j q : Bool) → (((a || (p || false)) || j) || q) ≡ (a || (((p || j) || q) || false))
grown true p j q = refl
grown false true j q = refl
grown false false true q = refl
grown false false false true = refl
grown false false false false = refl

-- the open part grows
taken_more : (ended : List (List ℕ)) (part piece boundary : List ℕ) → length boundary ≤ longest_boundary
    → ((is_taken (ended ++ part ∷ []) boundary || has_delimiter (last_bytes overlap part ++ take overlap piece) boundary) || has_delimiter piece boundary)
    ≡ is_taken (ended ++ (part ++ piece) ∷ []) boundary
unfolding is_taken
taken_more ended part piece boundary short =
    ap (λ b. (b || has_delimiter (last_bytes overlap part ++ take overlap piece) boundary) || has_delimiter piece boundary) (list_any-append test ended (part ∷ []))
    ∙ grown (list_any test ended) (test part) (has_delimiter (last_bytes overlap part ++ take overlap piece) boundary) (has_delimiter piece boundary)
    ∙ ap (λ b. list_any test ended || (b || false)) (sym (seam part piece boundary short))
    ∙ sym (list_any-append test ended ((part ++ piece) ∷ []))
  where
    test : List ℕ → Bool
    test bytes = has_delimiter bytes boundary

-- a part without a byte holds none
nothing_stands : (boundary : List ℕ) → has_delimiter [] boundary ≡ false
nothing_stands boundary = go (has_delimiter [] boundary) refl
  where
    go : (b : Bool) → has_delimiter [] boundary ≡ b → b ≡ false
    go true e = let r = below_some [] (delimiter boundary) 1 e in absurd (omega (arith, r.2.fits))
    go false e = refl

taken_next : (ended : List (List ℕ)) (part boundary : List ℕ) → is_taken (ended ++ part ∷ []) boundary ≡ is_taken ((ended ++ part ∷ []) ++ [] ∷ []) boundary
unfolding is_taken
taken_next ended part boundary =
    or_nothing (list_any test (ended ++ part ∷ []))
    ∙ ap (λ b. list_any test (ended ++ part ∷ []) || (b || false)) (sym (nothing_stands boundary)) ∙ sym (list_any-append test (ended ++ part ∷ []) ([] ∷ []))
  where
    test : List ℕ → Bool
    test bytes = has_delimiter bytes boundary

    or_nothing : (b : Bool) → b ≡ (b || (false || false))
    or_nothing true = refl
    or_nothing false = refl

pub nothing_taken : (boundary : List ℕ) → is_taken ([] ∷ []) boundary ≡ false
unfolding is_taken
nothing_taken boundary = ap (λ b. b || false) (nothing_stands boundary)

-- ---- all boundaries

marks_more : (ended : List (List ℕ)) (part piece : List ℕ) (bounds : List (List ℕ)) → All is_short (map (mark_of (ended ++ part ∷ [])) bounds)
    → map (seen_in piece) (map (seen_in (last_bytes overlap part ++ take overlap piece)) (map (mark_of (ended ++ part ∷ [])) bounds))
    ≡ map (mark_of (ended ++ (part ++ piece) ∷ [])) bounds
marks_more ended part piece [] short = refl
marks_more ended part piece (boundary ∷ bounds) short =
    ap (λ (mark : Mark). mark ∷ map (seen_in piece) (map (seen_in (last_bytes overlap part ++ take overlap piece)) (map (mark_of (ended ++ part ∷ [])) bounds))) head
    ∙ ap (λ marks. mark_of (ended ++ (part ++ piece) ∷ []) boundary ∷ marks)
    (marks_more ended part piece bounds (All-tail is_short (mark_of (ended ++ part ∷ []) boundary) (map (mark_of (ended ++ part ∷ [])) bounds) short))
  where
    own : length boundary ≤ longest_boundary
    own = All-head is_short (mark_of (ended ++ part ∷ []) boundary) (map (mark_of (ended ++ part ∷ [])) bounds) short

    head : seen_in piece (seen_in (last_bytes overlap part ++ take overlap piece) (mark_of (ended ++ part ∷ []) boundary)) ≡ mark_of (ended ++ (part ++ piece) ∷ []) boundary
    head = ap (λ (b : Bool). record { boundary = boundary; taken = b }) (taken_more ended part piece boundary own)

-- a piece passes by
pub fed : (bounds ended : List (List ℕ)) (part piece joined : List ℕ) (old now new : List Mark) (tail last : List ℕ) → All is_short old
    → joined ≡ tail ++ take overlap piece → now ≡ map (seen_in joined) old → new ≡ map (seen_in piece) now
    → (overlap ≤ length piece → last ≡ last_bytes overlap piece) → (length piece < overlap → last ≡ last_bytes overlap joined)
    → StandsFor (record { marks = old; tail = tail }) bounds ended part → StandsFor (record { marks = new; tail = last }) bounds ended (part ++ piece)
fed bounds ended part piece joined old now new tail last short joins first second long brief stood = record {
  marks = second ∙ ap (map (seen_in piece)) (first ∙ ap (λ xs. map (seen_in xs) old) over ∙ ap (map (seen_in (last_bytes overlap part ++ take overlap piece))) stood.marks)
      ∙ marks_more ended part piece bounds (subst (All is_short) stood.marks short);
  tail = go (nat_lt (length piece) overlap) refl;
}
  where
    over : joined ≡ last_bytes overlap part ++ take overlap piece
    over = joins ∙ ap (λ xs. xs ++ take overlap piece) stood.tail

    go : (b : Bool) → nat_lt (length piece) overlap ≡ b → last ≡ last_bytes overlap (part ++ piece)
    go true e =
        let few : length piece < overlap = ltb-true _ _ e in
        brief few ∙ ap (last_bytes overlap) (over ∙ ap (λ xs. last_bytes overlap part ++ xs) (take_all overlap piece (omega (arith, few)))) ∙ sym (last_bytes-more overlap part piece)
    go false e = long (ltb-false _ _ e) ∙ sym (last_bytes-long overlap part piece (ltb-false _ _ e))

-- the open part ends
marks_next : (ended : List (List ℕ)) (part : List ℕ) (bounds : List (List ℕ)) → map (mark_of (ended ++ part ∷ [])) bounds ≡ map (mark_of ((ended ++ part ∷ []) ++ [] ∷ [])) bounds
marks_next ended part [] = refl
marks_next ended part (boundary ∷ bounds) =
    ap (λ (b : Bool). record { boundary = boundary; taken = b } ∷ map (mark_of (ended ++ part ∷ [])) bounds) (taken_next ended part boundary)
    ∙ ap (λ marks. mark_of ((ended ++ part ∷ []) ++ [] ∷ []) boundary ∷ marks) (marks_next ended part bounds)

pub ended_part : (bounds ended : List (List ℕ)) (part : List ℕ) (marks : List Mark) (tail : List ℕ) → StandsFor (record { marks = marks; tail = tail }) bounds ended part
    → StandsFor (record { marks = marks; tail = [] }) bounds (ended ++ part ∷ []) []
unfolding last_bytes
ended_part bounds ended part marks tail stood = record { marks = stood.marks ∙ marks_next ended part bounds; tail = refl }

-- ---- the first boundary that is free

untaken_first : (parts : List (List ℕ)) (bounds : List (List ℕ)) → position is_untaken (map (mark_of parts) bounds) ≡ first_free bounds parts
unfolding first_free
untaken_first parts [] = refl
untaken_first parts (boundary ∷ bounds) =
    position-cons is_untaken (mark_of parts boundary) (map (mark_of parts) bounds)
    ∙ ap (λ o. cond (not (is_taken parts boundary)) (Some 0) (option_map suc o)) (untaken_first parts bounds)
    ∙ sym (position-cons (λ b. not (is_taken parts b)) boundary bounds)

pub free_of : (scan : Scanned) (bounds ended : List (List ℕ)) (part : List ℕ) → StandsFor scan bounds ended part → position is_untaken scan.marks ≡ first_free bounds (ended ++ part ∷ [])
free_of scan bounds ended part stood = ap (position is_untaken) stood.marks ∙ untaken_first (ended ++ part ∷ []) bounds

pub free_rule : (scan : Scanned) (bounds ended : List (List ℕ)) (part : List ℕ) (answer : Option ℕ) → answer ≡ position is_untaken scan.marks → StandsFor scan bounds ended part
    → IsFirstFree bounds (ended ++ part ∷ []) answer
free_rule scan bounds ended part answer is stood =
    subst (IsFirstFree bounds (ended ++ part ∷ [])) (sym (is ∙ free_of scan bounds ended part stood)) (first_free-rule (ended ++ part ∷ []) bounds)

-- ---- a new scan

-- one more boundary that is not taken
pub marks_begun : (bounds : List (String Global)) (i : ℕ) (boundary : String Global) (text : List ℕ) (marks : List Mark) → boundary ≡ get_or bounds i boundary → i < length bounds
    → text ≡ string_bytes boundary → marks ≡ map (mark_of ([] ∷ [])) (map string_bytes (take i bounds))
    → marks ++ record { boundary = text; taken = false } ∷ [] ≡ map (mark_of ([] ∷ [])) (map string_bytes (take (i + 1) bounds))
marks_begun bounds i boundary text marks at inside is so_far =
    ap (λ xs. xs ++ record { boundary = text; taken = false } ∷ []) so_far
    ∙ ap (λ (b : List ℕ). map (mark_of ([] ∷ [])) (map string_bytes (take i bounds)) ++ record { boundary = b; taken = false } ∷ []) is
    ∙ ap (λ (b : Bool). map (mark_of ([] ∷ [])) (map string_bytes (take i bounds)) ++ record { boundary = string_bytes boundary; taken = b } ∷ []) (sym (nothing_taken (string_bytes boundary)))
    ∙ sym (map-append (mark_of ([] ∷ [])) (map string_bytes (take i bounds)) (string_bytes boundary ∷ []))
    ∙ ap (map (mark_of ([] ∷ []))) (sym (map-append string_bytes (take i bounds) (boundary ∷ [])))
    ∙ ap (λ xs. map (mark_of ([] ∷ [])) (map string_bytes xs)) (ap (λ b. take i bounds ++ b ∷ []) at ∙ sym (take_more bounds i boundary inside))

-- boundaries that are short make marks that are
pub short_marks : (bounds : List (String Global)) (marks : List Mark) → All (λ boundary. length (string_bytes boundary) ≤ longest_boundary) bounds
    → marks ≡ map (mark_of ([] ∷ [])) (map string_bytes bounds) → All is_short marks
short_marks bounds marks short is = subst (All is_short) (sym is) (go bounds short)
  where
    go : (xs : List (String Global)) → All (λ boundary. length (string_bytes boundary) ≤ longest_boundary) xs → All is_short (map (mark_of ([] ∷ [])) (map string_bytes xs))
    go [] h = λ k d inside. absurd (omega (arith, inside))
    go (x ∷ xs) h =
        All-cons is_short (mark_of ([] ∷ []) (string_bytes x)) (map (mark_of ([] ∷ [])) (map string_bytes xs))
        (All-head (λ boundary. length (string_bytes boundary) ≤ longest_boundary) x xs h)
        (go xs (All-tail (λ boundary. length (string_bytes boundary) ≤ longest_boundary) x xs h))

-- marks keep their boundaries
pub short_seen : (bytes : List ℕ) (marks : List Mark) → All is_short marks → All is_short (map (seen_in bytes) marks)
short_seen bytes [] h = λ k d inside. absurd (omega (arith, inside))
short_seen bytes (mark ∷ marks) h =
    All-cons is_short (seen_in bytes mark) (map (seen_in bytes) marks) (All-head is_short mark marks h) (short_seen bytes marks (All-tail is_short mark marks h))

-- a scan that was fed nothing
pub begun : (bounds : List (List ℕ)) (marks : List Mark) → marks ≡ map (mark_of ([] ∷ [])) bounds → StandsFor (record { marks = marks; tail = [] }) bounds [] []
unfolding last_bytes
begun bounds marks is = record { marks = is; tail = refl }
