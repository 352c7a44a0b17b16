-- What holds of each element that a text spells.
use Rattle.std.proofs.Common.{◌≡◌, ◌≢◌, ℕ, zero, suc, ◌+◌, ◌<◌, ◌≤◌, nat_lt, nat_eq, ◌||◌, List, [], ◌∷◌, ◌++◌, map, length, drop, get_or, Option, Some, None, Result, Ok, Err, Bool, true, false, refl, sym, ap, subst, arith, append_assoc, append-nil, if◌then◌else◌, codes}
use Rattle.std.specs.Char.{is_ascii_alphabetic}
use Rattle.std.specs.List.{All, AllPairs, list_any, starts_with, prefix_len}
use Rattle.std.proofs.lemmas.Bool.{ltb-false}
use Rattle.std.proofs.lemmas.List.Elements.{All-append, All-cons, All-nil}
use Rattle.std.proofs.lemmas.List.Quantifiers.{all_pairs_push}
use Rattle.std.proofs.lemmas.Slice.Eq.{bytes_eq-Decides}
use Rattle.form_tree.specs.Tree.{NamesDiffer, is_named}
use Rattle.form_tree.specs.declared.node.Raw.{Raw}
use Rattle.form_tree.specs.declared.node.Tag.{Tag}
use Rattle.form_markup.specs.Contents.{Tagged, Piece, Start, Void, Oversized, End, Characters, Ignored, Contents, Nothing, Shown, Hidden, Empty, Element, pieces_of, text_of, count_of, raw_of, raws_of}
use Rattle.form_markup.specs.Faults.{Outer, opens, counts, element_fault, is_email, is_misplaced, is_over_limit, is_refused, tags_round, IsFine}
use Rattle.form_markup.specs.Limits.{IsShort}
use Rattle.form_markup.specs.Names.{tag_named}
use Rattle.form_tokens.specs.Readers.{◌>>=◌}
use Rattle.form_tokens.specs.Attributes.{attributes_at, firsts_behind, is_long, is_oversized}
use Rattle.form_tokens.specs.Runs.{begins, begins_so, behind, behind_space, run_at}
use Rattle.form_markup.specs.Pieces.{behind_ignored, characters_at, comment_at, comment_len, doctype_at, end_at, ignored_at, is_before_end, is_doctype, is_in_textarea, is_void, piece_at, piece_in, raw_at, start_at, tag_at, tag_end, tag_piece}
use Rattle.form_tokens.specs.Characters.{chunk_at, closes_textarea}
use Rattle.form_markup.specs.Spelling.{IsCut}
use Rattle.form_tokens.specs.declared.TheConstants.{MOST_ATTRIBUTES, MOST_VALUE}
use Rattle.form_tokens.specs.declared.fault.Fault.{Fault}
use Rattle.form_tokens.specs.declared.fault.Fault.TheVariants as faults
use Rattle.form_tokens.specs.declared.class.Class.TheVariants as classes
use Rattle.form_tokens.specs.declared.chunk.Context.{Context}
use Rattle.form_tokens.specs.declared.chunk.Context.TheVariants as contexts
use Rattle.form_tokens.proofs.Laws.{Each, each_at}

abbrev pub Attr : Type 0
Attr = List ℕ × List ℕ

-- ---- the attributes of a tag

pub absent : (name : List ℕ) (xs : List Attr) → list_any (is_named name) xs ≡ false → (k : ℕ) (d : List ℕ) → k < length (map (λ (x : Attr). x.0) xs) → get_or (map (λ (x : Attr). x.0) xs) k d ≡ name → ⊥
absent name [] e k d lt h = omega arith
absent name (x ∷ xs) e k d lt h = go (λ f j l g. absent name xs f j d l g) (is_named name x) refl e k lt h
  where
    go : (list_any (is_named name) xs ≡ false → (j : ℕ) → j < length (map (λ (y : Attr). y.0) xs) → get_or (map (λ (y : Attr). y.0) xs) j d ≡ name → ⊥) → (b : Bool) → is_named name x ≡ b → (b || list_any (is_named name) xs) ≡ false → (k : ℕ) → k < suc (length (map (λ (y : Attr). y.0) xs)) → get_or (x.0 ∷ map (λ (y : Attr). y.0) xs) k d ≡ name → ⊥
    go again true i f k l g = cc
    go again false i f zero l g = let same : x.0 ≡ name = g in grind (arith, bytes_eq-Decides)
    go again false i f (suc k) l g = again f k (omega arith) g

pub names_push : (before : List Attr) (attr : Attr) → NamesDiffer before → list_any (is_named attr.0) before ≡ false → NamesDiffer (before ++ (attr ∷ []))
names_push before attr h e =
    subst (λ (ns : List (List ℕ)). AllPairs (λ a b. a ≢ b) ns) (sym (map_push before))
    (all_pairs_push (λ a b. a ≢ b) (map (λ (x : Attr). x.0) before) attr.0 h (λ k d lt same. absent attr.0 before e k d lt same))
  where
    map_push : (xs : List Attr) → map (λ (x : Attr). x.0) (xs ++ (attr ∷ [])) ≡ map (λ (x : Attr). x.0) xs ++ (attr.0 ∷ [])
    map_push [] = refl
    map_push (x ∷ xs) = ap (λ (ns : List (List ℕ)). x.0 ∷ ns) (map_push xs)

pub names_firsts : (before attrs : List Attr) → NamesDiffer before → NamesDiffer (before ++ firsts_behind before attrs)
names_firsts before [] h = subst NamesDiffer (sym (append-nil before)) h
names_firsts before (x ∷ xs) h = go (λ k. names_firsts (before ++ (x ∷ [])) xs k) (list_any (is_named x.0) before) refl (names_firsts before xs h)
  where
    go : (NamesDiffer (before ++ (x ∷ [])) → NamesDiffer ((before ++ (x ∷ [])) ++ firsts_behind (before ++ (x ∷ [])) xs)) → (b : Bool) → list_any (is_named x.0) before ≡ b → NamesDiffer (before ++ firsts_behind before xs) → NamesDiffer (before ++ (if b then firsts_behind before xs else x ∷ firsts_behind (before ++ (x ∷ [])) xs))
    go again true e k = k
    go again false e k = subst NamesDiffer (append_assoc before (x ∷ []) (firsts_behind (before ++ (x ∷ [])) xs)) (again (names_push before x h e))

pub firsts_fewer : (before attrs : List Attr) → length (firsts_behind before attrs) ≤ length attrs
firsts_fewer before [] = omega arith
firsts_fewer before (x ∷ xs) = go (list_any (is_named x.0) before) (firsts_fewer before xs) (firsts_fewer (before ++ (x ∷ [])) xs)
  where
    go : (b : Bool) → length (firsts_behind before xs) ≤ length xs → length (firsts_behind (before ++ (x ∷ [])) xs) ≤ length xs → length (if b then firsts_behind before xs else x ∷ firsts_behind (before ++ (x ∷ [])) xs) ≤ suc (length xs)
    go true h k = omega arith
    go false h k = omega arith

pub firsts_shorter : (before attrs : List Attr) → list_any is_long attrs ≡ false → All IsShort (firsts_behind before attrs)
firsts_shorter before [] e = All-nil IsShort
firsts_shorter before (x ∷ xs) e = split (firsts_shorter before xs) (firsts_shorter (before ++ (x ∷ [])) xs) (is_long x) refl e
  where
    go : (b : Bool) → length x.1 ≤ MOST_VALUE → All IsShort (firsts_behind before xs) → All IsShort (firsts_behind (before ++ (x ∷ [])) xs) → All IsShort (if b then firsts_behind before xs else x ∷ firsts_behind (before ++ (x ∷ [])) xs)
    go true s h k = h
    go false s h k = All-cons IsShort x (firsts_behind (before ++ (x ∷ [])) xs) s k

    split : (list_any is_long xs ≡ false → All IsShort (firsts_behind before xs)) → (list_any is_long xs ≡ false → All IsShort (firsts_behind (before ++ (x ∷ [])) xs)) → (t : Bool) → is_long x ≡ t → (t || list_any is_long xs) ≡ false → All IsShort (if list_any (is_named x.0) before then firsts_behind before xs else x ∷ firsts_behind (before ++ (x ∷ [])) xs)
    split one other true i f = absurd (cc)
    split one other false i f = go (list_any (is_named x.0) before) (ltb-false MOST_VALUE (length x.1) i) (one f) (other f)

-- the attributes of an element are as its tag's limits have them
pub record IsNeat (attrs : List Attr) : Type 0 where
  pub names : NamesDiffer attrs
  pub few : length attrs ≤ MOST_ATTRIBUTES
  pub short : All IsShort attrs

pub neat_firsts : (attrs : List Attr) → is_oversized attrs ≡ false → IsNeat (firsts_behind [] attrs)
neat_firsts attrs e = go (nat_lt MOST_ATTRIBUTES (length attrs)) refl e
  where
    go : (b : Bool) → nat_lt MOST_ATTRIBUTES (length attrs) ≡ b → (b || list_any is_long attrs) ≡ false → IsNeat (firsts_behind [] attrs)
    go true i f = absurd (cc)
    go false i f = record {
      names = names_firsts [] attrs (λ k j d lt le. absurd (omega arith));
      few = omega (arith, firsts_fewer [] attrs, ltb-false MOST_ATTRIBUTES (length attrs) i);
      short = firsts_shorter [] attrs f;
    }

abbrev pub NeatPiece : Piece → Type 0
NeatPiece (Start tagged) = IsNeat tagged.attrs
NeatPiece (Void tagged) = IsNeat tagged.attrs
NeatPiece Oversized = Unit {0}
NeatPiece (End name) = Unit {0}
NeatPiece (Characters bytes) = Unit {0}
NeatPiece Ignored = Unit {0}

pub neat_tag : (name : List ℕ) (attrs : List Attr) → NeatPiece (tag_piece name attrs)
neat_tag name attrs = go (is_oversized attrs) refl
  where
    named : (b : Bool) → is_oversized attrs ≡ false → NeatPiece (if b then Void (record { name = name; attrs = firsts_behind [] attrs }) else Start (record { name = name; attrs = firsts_behind [] attrs }))
    named true e = neat_firsts attrs e
    named false e = neat_firsts attrs e

    go : (b : Bool) → is_oversized attrs ≡ b → NeatPiece (if b then Oversized else (if is_void name then Void (record { name = name; attrs = firsts_behind [] attrs }) else Start (record { name = name; attrs = firsts_behind [] attrs })))
    go true e = tt
    go false e = named (is_void name) e

-- ---- the pieces of a text

abbrev pub NeatRead : Result (Piece × List ℕ) Fault → Type 0
NeatRead r = Each (λ x. NeatPiece x.0) r

-- whatever is read behind anything is neat
pub neat_bind : {A : Type 0} (r : Result A Fault) (f : A → Result (Piece × List ℕ) Fault) → ((x : A) → NeatRead (f x)) → NeatRead (r >>= f)
neat_bind (Ok x) f k = k x
neat_bind (Err kind) f k = tt

pub neat_if : (b : Bool) (x y : Result (Piece × List ℕ) Fault) → NeatRead x → NeatRead y → NeatRead (if b then x else y)
neat_if true x y h k = h
neat_if false x y h k = k

pub neat_ignored : (text : List ℕ) (n : Option ℕ) → NeatRead (behind_ignored text n)
neat_ignored text None = tt
neat_ignored text (Some n) = tt

pub neat_comment : (text : List ℕ) → NeatRead (comment_at text)
unfolding comment_at
neat_comment text =
    neat_if (begins 62 text) (Err faults.Lexical) (if starts_with nat_eq text (codes "->") then Err faults.Lexical else behind_ignored text (comment_len text)) tt
    (neat_if (starts_with nat_eq text (codes "->")) (Err faults.Lexical) (behind_ignored text (comment_len text)) tt (neat_ignored text (comment_len text)))

pub neat_doctype : (text : List ℕ) → NeatRead (doctype_at text)
unfolding doctype_at
neat_doctype text = neat_bind (behind 62 (drop (prefix_len is_before_end text) text)) _ (λ rest. tt)

pub neat_hidden : (text : List ℕ) → NeatRead (ignored_at text)
unfolding ignored_at
neat_hidden text =
    neat_if (starts_with nat_eq text (codes "--")) (comment_at (drop 2 text)) (if is_doctype text then doctype_at (drop 7 text) else Err faults.Lexical) (neat_comment (drop 2 text))
    (neat_if (is_doctype text) (doctype_at (drop 7 text)) (Err faults.Lexical) (neat_doctype (drop 7 text)) tt)

pub neat_end : (text : List ℕ) → NeatRead (end_at text)
unfolding end_at
neat_end text = neat_bind (run_at classes.Name text) _ (λ name. neat_bind (behind 62 (behind_space name.1)) _ (λ rest. tt))

pub neat_start : (text : List ℕ) → NeatRead (start_at text)
unfolding start_at
neat_start text =
    neat_bind (run_at classes.Name text) _ (λ name. neat_bind (attributes_at name.1) _ (λ attrs.
    neat_bind (tag_end name.0 (behind_space attrs.1)) _ (λ rest. neat_tag name.0 attrs.0)))

pub neat_markup : (text : List ℕ) → NeatRead (tag_at text)
unfolding tag_at
neat_markup text =
    neat_if (begins 33 text) (behind 33 text >>= ignored_at) (if begins 47 text then (behind 47 text >>= λ rest. if begins_so is_ascii_alphabetic rest then end_at rest else Err faults.Lexical) else (if begins_so is_ascii_alphabetic text then start_at text else Err faults.Lexical))
    (neat_bind (behind 33 text) ignored_at neat_hidden)
    (neat_if (begins 47 text) (behind 47 text >>= λ rest. if begins_so is_ascii_alphabetic rest then end_at rest else Err faults.Lexical) (if begins_so is_ascii_alphabetic text then start_at text else Err faults.Lexical)
    (neat_bind (behind 47 text) (λ rest. if begins_so is_ascii_alphabetic rest then end_at rest else Err faults.Lexical) (λ rest. neat_if (begins_so is_ascii_alphabetic rest) (end_at rest) (Err faults.Lexical) (neat_end rest) tt))
    (neat_if (begins_so is_ascii_alphabetic text) (start_at text) (Err faults.Lexical) (neat_start text) tt))

pub neat_characters : (place : Context) (text : List ℕ) → NeatRead (characters_at place text)
unfolding characters_at
neat_characters place text = neat_bind (chunk_at place text) _ (λ x. tt)

pub neat_piece : (outers : List Outer) (text : List ℕ) (p : Piece) (rest : List ℕ) → piece_in outers text ≡ Ok (p, rest) → NeatPiece p
unfolding piece_at raw_at
neat_piece outers text p rest e = each_at (λ (x : Piece × List ℕ). NeatPiece x.0) (piece_in outers text) (p, rest)
    (neat_if (is_in_textarea outers) (raw_at text) (piece_at text)
    (neat_if (closes_textarea text) (behind 60 text >>= tag_at) (characters_at contexts.Textarea text) (neat_bind (behind 60 text) tag_at neat_markup) (neat_characters contexts.Textarea text))
    (neat_if (begins 60 text) (behind 60 text >>= tag_at) (characters_at contexts.Content text) (neat_bind (behind 60 text) tag_at neat_markup) (neat_characters contexts.Content text))) e

-- ---- the elements

-- the tag is neat, and no input's of the type `email`
pub record IsGood (tagged : Tagged) : Type 0 where
  pub neat : IsNeat tagged.attrs
  pub no_email : is_email (tag_named tagged.name) tagged.attrs ≡ false

abbrev pub AllGood : List Piece → Type 0
AllGood [] = Unit {0}
AllGood (Start tagged ∷ ps) = IsGood tagged × AllGood ps
AllGood (Void tagged ∷ ps) = IsGood tagged × AllGood ps
AllGood (Oversized ∷ ps) = AllGood ps
AllGood (End name ∷ ps) = AllGood ps
AllGood (Characters bytes ∷ ps) = AllGood ps
AllGood (Ignored ∷ ps) = AllGood ps

pub no_email : (around : List Tag) (outers : List Outer) (n : ℕ) (tagged : Tagged) → element_fault around outers n tagged ≡ None → is_email (tag_named tagged.name) tagged.attrs ≡ false
unfolding element_fault
no_email around outers n tagged e = go (is_over_limit around outers n) (is_refused tagged.name) (is_email (tag_named tagged.name) tagged.attrs) refl e
  where
    go : (x y z : Bool) → is_email (tag_named tagged.name) tagged.attrs ≡ z
        → (if x then Some faults.Limit else (if y then Some faults.Element else (if z then Some faults.Email else (if is_misplaced (tag_named tagged.name) tagged.name (tags_round around outers) then Some faults.Nesting else None)))) ≡ None
        → is_email (tag_named tagged.name) tagged.attrs ≡ false
    go true y z i h = absurd (cc)
    go false true z i h = absurd (cc)
    go false false true i h = absurd (cc)
    go false false false i h = i

pub all_good : (around : List Tag) (outers : List Outer) (n : ℕ) (ps : List Piece) (text rest : List ℕ) → IsCut outers ps text rest → IsFine around outers n ps → AllGood ps
all_good around outers n [] text rest cut fine = tt
all_good around outers n (Start tagged ∷ ps) text rest cut fine =
    (record { neat = neat_piece outers text (Start tagged) cut.0 cut.1; no_email = no_email around outers n tagged fine.0 }, all_good around (opens outers (Start tagged)) (counts n (Start tagged)) ps cut.0 rest cut.2 fine.1)
all_good around outers n (Void tagged ∷ ps) text rest cut fine =
    (record { neat = neat_piece outers text (Void tagged) cut.0 cut.1; no_email = no_email around outers n tagged fine.0 }, all_good around (opens outers (Void tagged)) (counts n (Void tagged)) ps cut.0 rest cut.2 fine.1)
all_good around outers n (Oversized ∷ ps) text rest cut fine = all_good around (opens outers Oversized) (counts n Oversized) ps cut.0 rest cut.2 fine.1
all_good around outers n (End name ∷ ps) text rest cut fine = all_good around (opens outers (End name)) (counts n (End name)) ps cut.0 rest cut.2 fine.1
all_good around outers n (Characters bytes ∷ ps) text rest cut fine = all_good around (opens outers (Characters bytes)) (counts n (Characters bytes)) ps cut.0 rest cut.2 fine.1
all_good around outers n (Ignored ∷ ps) text rest cut fine = all_good around (opens outers Ignored) (counts n Ignored) ps cut.0 rest cut.2 fine.1

pub good_split : (ps qs : List Piece) → AllGood (ps ++ qs) → AllGood ps × AllGood qs
good_split [] qs h = (tt, h)
good_split (Start tagged ∷ ps) qs h = let more = good_split ps qs h.1 in ((h.0, more.0), more.1)
good_split (Void tagged ∷ ps) qs h = let more = good_split ps qs h.1 in ((h.0, more.0), more.1)
good_split (Oversized ∷ ps) qs h = good_split ps qs h
good_split (End name ∷ ps) qs h = good_split ps qs h
good_split (Characters bytes ∷ ps) qs h = good_split ps qs h
good_split (Ignored ∷ ps) qs h = good_split ps qs h

-- what holds of each good tag's element holds of the elements of contents
pub raws_have : (Q : Raw → Type 0) → ((parent : Option ℕ) (tagged : Tagged) (text : List ℕ) → IsGood tagged → Q (raw_of parent tagged text)) → (parent : Option ℕ) (place : ℕ) (c : Contents) → AllGood (pieces_of c) → All Q (raws_of parent place c)
raws_have Q f parent place Nothing h = All-nil Q
raws_have Q f parent place (Shown bytes c) h = raws_have Q f parent place c h
raws_have Q f parent place (Hidden c) h = raws_have Q f parent place c h
raws_have Q f parent place (Empty tagged c) h = All-cons Q (raw_of parent tagged []) (raws_of parent (suc place) c) (f parent tagged [] h.0) (raws_have Q f parent (suc place) c h.1)
raws_have Q f parent place (Element tagged inside end c) h =
    let parts = good_split (pieces_of inside) (End end ∷ pieces_of c) h.1 in
    All-cons Q (raw_of parent tagged (text_of inside)) (raws_of (Some place) (suc place) inside ++ raws_of parent (suc place + count_of inside) c) (f parent tagged (text_of inside) h.0)
    (All-append Q (raws_of (Some place) (suc place) inside) (raws_of parent (suc place + count_of inside) c)
    (raws_have Q f (Some place) (suc place) inside parts.0) (raws_have Q f parent (suc place + count_of inside) c parts.1))
