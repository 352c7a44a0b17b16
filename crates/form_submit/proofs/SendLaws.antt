-- A body that is sent piece by piece.
use Rattle.std.proofs.Common.{◌≡◌, ◌≢◌, ℕ, zero, suc, ◌+◌, ◌-◌, ◌<◌, ◌≤◌, List, [], ◌∷◌, ◌++◌, length, take, drop, get_or, set, replicate, Ok, Err, Some, None, IfSome, refl, sym, ap}
use Rattle.std.proofs.Common.{subst, ◌∙◌, arith, append_assoc, append-nil, take-append-drop, flat_map}
use Rattle.std.specs.Prelude.{Option, Result, IfErr, OnOk, All, Contains, slice_index_or}
use Rattle.std.specs.List.{AllZip, concat}
use Rattle.std.proofs.lemmas.List.{take_more, drop_more, take_all, length-replicate}
use Rattle.std.proofs.lemmas.List.Elements.{Contains-append_left, Contains-append_right, Contains-get_or, All-head, All-tail, All-drop}
use Rattle.std.proofs.lemmas.List.Folds.{concat-append}
use Rattle.std.proofs.lemmas.Grind.{flat_map-append}
use Rattle.std.specs.Io.KnownBytes.{append_known}
use Rattle.form_ports.specs.Ports.{Rose}
use Rattle.form_ports.specs.Written.{WrotePart}
use Rattle.form_ports.specs.Shelf.{contents_of, numbers_of, at_number, told, HasTold, NoneFell, LastSizes}
use Rattle.form_ports.proofs.Laws.{told-at, number-set, FileRose-set, FileRose-later, LastSizes-none, LastSizes-one, LastSizes-append, other-one, AllZip-append}
use Rattle.form_submit.specs.declared.request.Piece.{Piece}
use Rattle.form_submit.specs.declared.request.Piece.TheVariants as piece
use Rattle.form_submit.specs.declared.request.SendFault.{SendFault}
use Rattle.form_submit.specs.declared.request.SendFault.TheVariants as fault
use Rattle.form_submit.specs.PrintedRequest.{printed_body, IsPart, IsReady, file_number, file_size, file_numbers, file_sizes}
use Rattle.form_submit.specs.Sending.{Gathered, Gathers, GathersPart, nothing, FileGathers, FilePart, PieceGathers, PiecePart, WroteBody, WroteBodyPart, FileCause, NumberCause, BodyCause}
use Rattle.form_submit.proofs.GatherLaws.{Gathers-none, Gathers-more, GathersPart-more, GathersPart-longer, printed_rest-whole, printed_rest-part, printed_rest-front}

-- ---- one file of the shelf

-- what is told of the file that was found
pub told-found : {B : Type 0} (content : B → Option (List ℕ)) (shelf : List (Option B)) (n size : ℕ) (old : B)
    → at_number shelf n ≡ Some (Some old) → IfSome (told (contents_of content shelf) n) (λ all. length all ≡ size)
    → IfSome (content old) (λ all. length all ≡ size)
told-found content shelf n size old is told =
    let P : Option (List ℕ) → Type 0 = λ c. IfSome c (λ all. length all ≡ size) in subst P (told-at content shelf n old is) told

-- why its sending stopped
pub NumberCause-from : {B : Type 0} (content : B → Option (List ℕ)) (position faults : B → ℕ) (shelf : List (Option B)) (n size : ℕ) (old new : B)
    (sink_rose : Type 0) (r : Result (Unit {0}) SendFault) → at_number shelf n ≡ Some (Some old)
    → IfErr r (λ f. FileCause f (content old) size (position new) sink_rose (Rose (faults old) (faults new)))
    → IfErr r (λ f. NumberCause f (told (contents_of content shelf) n) n size (numbers_of position (set shelf (n - 1) (Some new))) sink_rose
    (numbers_of faults shelf) (numbers_of faults (set shelf (n - 1) (Some new))))
NumberCause-from content position faults shelf n size old new sink_rose (Ok v) is cause = tt
NumberCause-from content position faults shelf n size old new sink_rose (Err fault.Sink) is cause = cause
NumberCause-from content position faults shelf n size old new sink_rose (Err fault.Blob) is cause =
    FileRose-set faults shelf n old new is cause
NumberCause-from content position faults shelf n size old new sink_rose (Err (fault.Changed a b)) is cause =
    (cause.0, number-set position shelf n old new is (sym cause.1), cause.2, told-at content shelf n old is ∙ cause.3)

-- the file stands at its size
pub LastSizes-file : (positions : List (Option ℕ)) (n size : ℕ) (r : Result (Unit {0}) SendFault)
    → OnOk r (at_number positions n ≡ Some (Some size))
    → OnOk r (LastSizes positions (file_numbers (piece.File n size ∷ [])) (file_sizes (piece.File n size ∷ [])))
unfolding file_numbers file_sizes
LastSizes-file positions n size (Ok v) stands = LastSizes-one positions n size stands
LastSizes-file positions n size (Err f) stands = tt

-- of bytes no file stands anywhere
pub LastSizes-bytes : (positions : List (Option ℕ)) (bytes : List ℕ)
    → LastSizes positions (file_numbers (piece.Bytes bytes ∷ [])) (file_sizes (piece.Bytes bytes ∷ []))
unfolding file_numbers file_sizes
LastSizes-bytes positions bytes = LastSizes-none positions

-- ---- one piece

pub PieceGathers-bytes : (contents : List (Option (Option (List ℕ)))) (bytes slice : List ℕ) (written now : Option (List ℕ)) (kept left : Gathered)
    → slice ≡ bytes → Gathers written now kept slice left → PieceGathers contents (piece.Bytes bytes) written now kept left
PieceGathers-bytes contents bytes slice written now kept left same all = record { bytes = slice; is_part = same; gathers = all }

pub PiecePart-bytes : (contents : List (Option (Option (List ℕ)))) (bytes slice : List ℕ) (written now : Option (List ℕ)) (kept : Gathered)
    → slice ≡ bytes → GathersPart written now kept slice → PiecePart contents (piece.Bytes bytes) written now kept
PiecePart-bytes contents bytes slice written now kept same part = record { bytes = slice; is_part = same; gathers = part }

pub PieceGathers-file : (contents : List (Option (Option (List ℕ)))) (n size : ℕ) (written now : Option (List ℕ)) (kept left : Gathered)
    → FileGathers (told contents n) size written now kept left → PieceGathers contents (piece.File n size) written now kept left
PieceGathers-file contents n size written now kept left all =
    record { bytes = all.bytes; is_part = (all.is_size, all.is_told); gathers = all.gathers }

pub PiecePart-file : (contents : List (Option (Option (List ℕ)))) (n size : ℕ) (written now : Option (List ℕ)) (kept : Gathered)
    → FilePart (told contents n) size written now kept → PiecePart contents (piece.File n size) written now kept
PiecePart-file contents n size written now kept part =
    record { bytes = part.bytes; is_part = (part.is_size, part.is_told); gathers = part.gathers }

-- a piece that is a file names it
pub other-file : (n size k : ℕ) → ¬ (Contains (file_numbers (piece.File n size ∷ [])) k) → k ≢ n
unfolding file_numbers
other-file n size k apart = other-one n k apart

named-file : (n size : ℕ) → Contains (file_numbers (piece.File n size ∷ [])) n
unfolding file_numbers
named-file n size = Contains-get_or (n ∷ []) 0 n (omega arith)

pub BodyCause-file : (contents : List (Option (Option (List ℕ)))) (positions before now : List (Option ℕ)) (n size : ℕ) (sink_rose : Type 0)
    (r : Result (Unit {0}) SendFault)
    → IfErr r (λ f. NumberCause f (told contents n) n size positions sink_rose before now)
    → IfErr r (λ f. BodyCause f contents positions (piece.File n size ∷ []) sink_rose before now)
BodyCause-file contents positions before now n size sink_rose (Ok v) cause = tt
BodyCause-file contents positions before now n size sink_rose (Err fault.Sink) cause = cause
BodyCause-file contents positions before now n size sink_rose (Err fault.Blob) cause =
    record { number = n; named = named-file n size; file = cause }
BodyCause-file contents positions before now n size sink_rose (Err (fault.Changed a b)) cause = record {
  number = n;
  named = let P : ℕ → Type 0 = λ s. Contains (piece.File n size ∷ []) (piece.File n s) in
      subst P (sym cause.0) (Contains-get_or (piece.File n size ∷ []) 0 (piece.File n size) (omega arith));
  untold = cause.3;
  stands = cause.1;
  differs = cause.2;
}

-- ---- one piece after the other

-- the pieces so far were gathered
pub record BodyGathers (contents : List (Option (Option (List ℕ)))) (pieces : List Piece) (written now : Option (List ℕ)) (left : Gathered) : Type 0 where
  pub parts : List (List ℕ)
  pub each : AllZip (IsPart contents) pieces parts
  pub gathers : Gathers written now nothing (concat parts) left

pub BodyGathers-none : (contents : List (Option (Option (List ℕ)))) (written : Option (List ℕ)) → BodyGathers contents [] written written nothing
BodyGathers-none contents written = record { parts = []; each = tt; gathers = Gathers-none written nothing }

-- one more piece was gathered
pub BodyGathers-turn : (contents mid_contents : List (Option (Option (List ℕ)))) (pieces : List Piece) (i : ℕ) (d : Piece) (written mid now : Option (List ℕ))
    (between left : Gathered) → i < length pieces → mid_contents ≡ contents
    → BodyGathers contents (take i pieces) written mid between → PieceGathers mid_contents (get_or pieces i d) mid now between left
    → BodyGathers contents (take (i + 1) pieces) written now left
BodyGathers-turn contents mid_contents pieces i d written mid now between left h same so_far here =
    let P : List (Option (Option (List ℕ))) → Type 0 = λ cs. IsPart cs (get_or pieces i d) here.bytes in
    let Q : List Piece → Type 0 = λ ps. BodyGathers contents ps written now left in
    let R : List ℕ → Type 0 = λ b. Gathers written now nothing b left in
    subst Q (sym (take_more pieces i d h)) (record {
      parts = so_far.parts ++ here.bytes ∷ [];
      each = AllZip-append (IsPart contents) (take i pieces) (get_or pieces i d ∷ []) so_far.parts (here.bytes ∷ []) so_far.each (subst P same here.is_part, tt);
      gathers = subst R (ap (λ b. concat so_far.parts ++ b) (sym (append-nil here.bytes)) ∙ sym (concat-append so_far.parts (here.bytes ∷ [])))
          (Gathers-more written mid now nothing between left (concat so_far.parts) here.bytes so_far.gathers here.gathers);
    })

-- bytes that the pieces may have
pub may_be : (contents : List (Option (Option (List ℕ)))) (pieces : List Piece) → All (λ one. IsReady contents one) pieces
    → (parts : List (List ℕ)) × AllZip (IsPart contents) pieces parts
may_be contents [] ready = ([], tt)
may_be contents (piece.Bytes bytes ∷ pieces) ready =
    let rest = may_be contents pieces (All-tail (λ one. IsReady contents one) (piece.Bytes bytes) pieces ready) in
    (bytes ∷ rest.0, (refl, rest.1))
may_be contents (piece.File n size ∷ pieces) ready =
    let rest = may_be contents pieces (All-tail (λ one. IsReady contents one) (piece.File n size) pieces ready) in
    let is_ready : IsReady contents (piece.File n size) = All-head (λ one. IsReady contents one) (piece.File n size) pieces ready in
    let here = file_bytes (told contents n) size is_ready.2 in (here.0 ∷ rest.0, ((here.1, here.2), rest.1))
  where
    file_bytes : (content : Option (List ℕ)) (size : ℕ) → IfSome content (λ all. length all ≡ size)
        → (bytes : List ℕ) × (length bytes ≡ size) × HasTold content bytes
    file_bytes None size h = let none : ℕ = 0 in (replicate size none, length-replicate size none, tt)
    file_bytes (Some all) size h = (all, h, refl)

-- a part of the next piece was printed
pub WroteBodyPart-turn : (contents mid_contents : List (Option (Option (List ℕ)))) (pieces : List Piece) (i : ℕ) (d : Piece) (written mid now : Option (List ℕ))
    (between : Gathered) → i < length pieces → mid_contents ≡ contents → All (λ one. IsReady contents one) pieces
    → BodyGathers contents (take i pieces) written mid between → PiecePart mid_contents (get_or pieces i d) mid now between
    → WroteBodyPart contents pieces written now
WroteBodyPart-turn contents mid_contents pieces i d written mid now between h same ready so_far here =
    let P : List (Option (Option (List ℕ))) → Type 0 = λ cs. IsPart cs (get_or pieces i d) here.bytes in
    let rest = may_be contents (drop (i + 1) pieces) (All-drop (λ one. IsReady contents one) (i + 1) pieces ready) in
    let parts = so_far.parts ++ here.bytes ∷ rest.0 in
    let R : List ℕ → Type 0 = λ b. GathersPart written now nothing b in
    let Q : List Piece → Type 0 = λ ps. AllZip (IsPart contents) ps parts in
    record {
      body = concat parts;
      is_body = record {
        parts = parts;
        each = subst Q (ap (λ b. take i pieces ++ b) (sym (drop_more pieces i d h)) ∙ take-append-drop i pieces)
            (AllZip-append (IsPart contents) (take i pieces) (get_or pieces i d ∷ drop (i + 1) pieces) so_far.parts (here.bytes ∷ rest.0)
            so_far.each (subst P same here.is_part, rest.1));
        whole = refl;
      };
      lines = printed_rest-front written now nothing (concat parts)
          (subst R (append_assoc (concat so_far.parts) here.bytes (concat rest.0) ∙ sym (concat-append so_far.parts (here.bytes ∷ rest.0)))
          (GathersPart-longer written now nothing (concat so_far.parts ++ here.bytes) (concat rest.0)
          (GathersPart-more written mid now nothing between (concat so_far.parts) here.bytes so_far.gathers here.gathers)));
    }

-- all pieces were gathered, and the rest is printed
pub WroteBody-end : (contents : List (Option (Option (List ℕ)))) (pieces : List Piece) (i : ℕ) (written mid now : Option (List ℕ)) (left : Gathered)
    → length pieces ≤ i → BodyGathers contents (take i pieces) written mid left → now ≡ append_known mid (left.lines ++ printed_body left.bytes)
    → WroteBody contents pieces written now
WroteBody-end contents pieces i written mid now left all so_far here = record {
  body = concat so_far.parts;
  is_body = record {
    parts = so_far.parts;
    each = let Q : List Piece → Type 0 = λ ps. AllZip (IsPart contents) ps so_far.parts in subst Q (take_all i pieces all) so_far.each;
    whole = refl;
  };
  lines = printed_rest-whole written mid now nothing left (concat so_far.parts) so_far.gathers here;
}

-- or a part of it
pub WroteBodyPart-end : (contents : List (Option (Option (List ℕ)))) (pieces : List Piece) (i : ℕ) (written mid now : Option (List ℕ)) (left : Gathered)
    → length pieces ≤ i → BodyGathers contents (take i pieces) written mid left → WrotePart mid now (left.lines ++ printed_body left.bytes)
    → WroteBodyPart contents pieces written now
WroteBodyPart-end contents pieces i written mid now left all so_far here = record {
  body = concat so_far.parts;
  is_body = record {
    parts = so_far.parts;
    each = let Q : List Piece → Type 0 = λ ps. AllZip (IsPart contents) ps so_far.parts in subst Q (take_all i pieces all) so_far.each;
    whole = refl;
  };
  lines = printed_rest-part written mid now nothing left (concat so_far.parts) so_far.gathers here;
}

-- the files of the pieces so far stand at their sizes
LastSizes-turn : {B : Type 0} (position : B → ℕ) (pieces : List Piece) (i : ℕ) (d : Piece) (mid new : List (Option B))
    → i < length pieces → LastSizes (numbers_of position mid) (file_numbers (take i pieces)) (file_sizes (take i pieces))
    → ((k : ℕ) → ¬ (Contains (file_numbers (get_or pieces i d ∷ [])) k) → at_number new k ≡ at_number mid k)
    → LastSizes (numbers_of position new) (file_numbers (get_or pieces i d ∷ [])) (file_sizes (get_or pieces i d ∷ []))
    → LastSizes (numbers_of position new) (file_numbers (take (i + 1) pieces)) (file_sizes (take (i + 1) pieces))
unfolding file_numbers file_sizes
LastSizes-turn position pieces i d mid new h so_far others here =
    let front = take i pieces in
    let one = get_or pieces i d ∷ [] in
    let grown : take (i + 1) pieces ≡ front ++ one = take_more pieces i d h in
    let numbers : flat_map file_number (take (i + 1) pieces) ≡ flat_map file_number front ++ flat_map file_number one =
    ap (flat_map file_number) grown ∙ flat_map-append file_number front one in
    let sizes : flat_map file_size (take (i + 1) pieces) ≡ flat_map file_size front ++ flat_map file_size one =
    ap (flat_map file_size) grown ∙ flat_map-append file_size front one in
    let P : List ℕ → Type 0 = λ ns. LastSizes (numbers_of position new) ns (flat_map file_size (take (i + 1) pieces)) in
    let Q : List ℕ → Type 0 =
    λ ss. LastSizes (numbers_of position new) (flat_map file_number front ++ flat_map file_number one) ss in
    subst P (sym numbers) (subst Q (sym sizes) (LastSizes-append position mid new (flat_map file_number front)
    (flat_map file_size front) (flat_map file_number one) (flat_map file_size one) so_far others here))

-- of no piece none
pub LastSizes-start : (positions : List (Option ℕ)) → LastSizes positions (file_numbers []) (file_sizes [])
unfolding file_numbers file_sizes
LastSizes-start positions = LastSizes-none positions

-- and those of all pieces
pub LastSizes-whole : (positions : List (Option ℕ)) (pieces : List Piece) (i : ℕ) → length pieces ≤ i
    → LastSizes positions (file_numbers (take i pieces)) (file_sizes (take i pieces))
    → LastSizes positions (file_numbers pieces) (file_sizes pieces)
LastSizes-whole positions pieces i all so_far =
    let P : List Piece → Type 0 = λ ps. LastSizes positions (file_numbers ps) (file_sizes ps) in
    subst P (take_all i pieces all) so_far

-- what no piece so far names stays
pub others-turn : {X : Type 0} (pieces : List Piece) (i : ℕ) (d : Piece) (old mid new : List X) → i < length pieces
    → ((k : ℕ) → ¬ (Contains (file_numbers (take i pieces)) k) → at_number mid k ≡ at_number old k)
    → ((k : ℕ) → ¬ (Contains (file_numbers (get_or pieces i d ∷ [])) k) → at_number new k ≡ at_number mid k)
    → (k : ℕ) → ¬ (Contains (file_numbers (take (i + 1) pieces)) k) → at_number new k ≡ at_number old k
unfolding file_numbers
others-turn pieces i d old mid new h so_far here k apart =
    let grown : flat_map file_number (take (i + 1) pieces) ≡ flat_map file_number (take i pieces) ++ flat_map file_number (get_or pieces i d ∷ []) =
    ap (flat_map file_number) (take_more pieces i d h) ∙ flat_map-append file_number (take i pieces) (get_or pieces i d ∷ []) in
    let P : List ℕ → Type 0 = λ ns. ¬ (Contains ns k) in
    let far = subst P grown apart in
    here k (λ named. far (Contains-append_right (flat_map file_number (take i pieces)) (flat_map file_number (get_or pieces i d ∷ [])) k named))
    ∙ so_far k (λ named. far (Contains-append_left (flat_map file_number (take i pieces)) (flat_map file_number (get_or pieces i d ∷ [])) k named))

-- the same, of all pieces
pub others-whole : {X : Type 0} (pieces : List Piece) (i : ℕ) (old new : List X)
    → ((k : ℕ) → ¬ (Contains (file_numbers (take i pieces)) k) → at_number new k ≡ at_number old k)
    → (k : ℕ) → ¬ (Contains (file_numbers pieces) k) → at_number new k ≡ at_number old k
unfolding file_numbers
others-whole pieces i old new so_far k apart =
    let all : flat_map file_number (take i pieces) ++ flat_map file_number (drop i pieces) ≡ flat_map file_number pieces =
    sym (flat_map-append file_number (take i pieces) (drop i pieces)) ∙ ap (flat_map file_number) (take-append-drop i pieces) in
    let P : List ℕ → Type 0 = λ ns. Contains ns k in
    so_far k (λ named. apart (subst P all (Contains-append_left (flat_map file_number (take i pieces)) (flat_map file_number (drop i pieces)) k named)))

in_numbers : (pieces : List Piece) (i : ℕ) (d : Piece) (k : ℕ) → i < length pieces → Contains (file_numbers (get_or pieces i d ∷ [])) k
    → Contains (file_numbers pieces) k
unfolding file_numbers
in_numbers pieces i d k h named =
    let split : take i pieces ++ ((get_or pieces i d ∷ []) ++ drop (i + 1) pieces) ≡ pieces =
    ap (λ b. take i pieces ++ b) (sym (drop_more pieces i d h)) ∙ take-append-drop i pieces in
    let all : flat_map file_number (take i pieces) ++ (flat_map file_number (get_or pieces i d ∷ []) ++ flat_map file_number (drop (i + 1) pieces))
    ≡ flat_map file_number pieces =
    ap (λ b. flat_map file_number (take i pieces) ++ b) (sym (flat_map-append file_number (get_or pieces i d ∷ []) (drop (i + 1) pieces)))
    ∙ sym (flat_map-append file_number (take i pieces) ((get_or pieces i d ∷ []) ++ drop (i + 1) pieces)) ∙ ap (flat_map file_number) split in
    let P : List ℕ → Type 0 = λ ns. Contains ns k in
    subst P all (Contains-append_right (flat_map file_number (take i pieces))
    (flat_map file_number (get_or pieces i d ∷ []) ++ flat_map file_number (drop (i + 1) pieces)) k
    (Contains-append_left (flat_map file_number (get_or pieces i d ∷ [])) (flat_map file_number (drop (i + 1) pieces)) k named))

only : (one other : Piece) → Contains (one ∷ []) other → other ≡ one
only one other named = only_at one other named.0 named.1 named.2
  where
    only_at : (one other : Piece) (k : ℕ) → k < length (one ∷ []) → slice_index_or (one ∷ []) k other ≡ other → other ≡ one
    only_at one other zero h is = sym is
    only_at one other (suc k) h is = absurd (omega (arith, h))

-- why the sending of the next piece stopped is why that of the body did
pub BodyCause-turn : (f : SendFault) (contents mid_contents : List (Option (Option (List ℕ)))) (positions first before now : List (Option ℕ))
    (pieces : List Piece) (i : ℕ) (d : Piece) (first_count mid_count last_count : ℕ) → i < length pieces → mid_contents ≡ contents
    → first_count ≤ mid_count → NoneFell first before
    → BodyCause f mid_contents positions (get_or pieces i d ∷ []) (Rose mid_count last_count) before now
    → BodyCause f contents positions pieces (Rose first_count last_count) first now
BodyCause-turn fault.Sink contents mid_contents positions first before now pieces i d first_count mid_count last_count h same later fell cause =
    omega (arith, later, cause)
BodyCause-turn fault.Blob contents mid_contents positions first before now pieces i d first_count mid_count last_count h same later fell cause = record {
  number = cause.number;
  named = in_numbers pieces i d cause.number h cause.named;
  file = FileRose-later first before now cause.number fell cause.file;
}
BodyCause-turn (fault.Changed a b) contents mid_contents positions first before now pieces i d first_count mid_count last_count h same later fell cause = record {
  number = cause.number;
  named = let P : Piece → Type 0 = λ p. Contains pieces p in
      subst P (sym (only (get_or pieces i d) (piece.File cause.number a) cause.named)) (Contains-get_or pieces i d h);
  untold = ap (λ cs. told cs cause.number) (sym same) ∙ cause.untold;
  stands = cause.stands;
  differs = cause.differs;
}

-- ---- the same, of the item that a loop gives

pub BodyGathers-item : (contents mid_contents : List (Option (Option (List ℕ)))) (pieces : List Piece) (i : ℕ) (one : Piece) (written mid now : Option (List ℕ))
    (between left : Gathered) → one ≡ get_or pieces i one → i < length pieces → mid_contents ≡ contents
    → BodyGathers contents (take i pieces) written mid between → PieceGathers mid_contents one mid now between left
    → BodyGathers contents (take (i + 1) pieces) written now left
BodyGathers-item contents mid_contents pieces i one written mid now between left at h same so_far here =
    let P : Piece → Type 0 = λ p. PieceGathers mid_contents p mid now between left in
    BodyGathers-turn contents mid_contents pieces i one written mid now between left h same so_far (subst P at here)

pub WroteBodyPart-item : (contents mid_contents : List (Option (Option (List ℕ)))) (pieces : List Piece) (i : ℕ) (one : Piece) (written mid now : Option (List ℕ))
    (between : Gathered) → one ≡ get_or pieces i one → i < length pieces → mid_contents ≡ contents → All (λ one. IsReady contents one) pieces
    → BodyGathers contents (take i pieces) written mid between → PiecePart mid_contents one mid now between
    → WroteBodyPart contents pieces written now
WroteBodyPart-item contents mid_contents pieces i one written mid now between at h same ready so_far here =
    let P : Piece → Type 0 = λ p. PiecePart mid_contents p mid now between in
    WroteBodyPart-turn contents mid_contents pieces i one written mid now between h same ready so_far (subst P at here)

pub others-item : {X : Type 0} (pieces : List Piece) (i : ℕ) (one : Piece) (old mid new : List X) → one ≡ get_or pieces i one → i < length pieces
    → ((k : ℕ) → ¬ (Contains (file_numbers (take i pieces)) k) → at_number mid k ≡ at_number old k)
    → ((k : ℕ) → ¬ (Contains (file_numbers (one ∷ [])) k) → at_number new k ≡ at_number mid k)
    → (k : ℕ) → ¬ (Contains (file_numbers (take (i + 1) pieces)) k) → at_number new k ≡ at_number old k
others-item pieces i one old mid new at h so_far here =
    let P : Piece → Type 0 = λ p. (k : ℕ) → ¬ (Contains (file_numbers (p ∷ [])) k) → at_number new k ≡ at_number mid k in
    others-turn pieces i one old mid new h so_far (subst P at here)

pub BodyCause-item : (f : SendFault) (contents mid_contents : List (Option (Option (List ℕ)))) (positions first before now : List (Option ℕ))
    (pieces : List Piece) (i : ℕ) (one : Piece) (first_count mid_count last_count : ℕ) → one ≡ get_or pieces i one → i < length pieces
    → mid_contents ≡ contents → first_count ≤ mid_count → NoneFell first before
    → BodyCause f mid_contents positions (one ∷ []) (Rose mid_count last_count) before now
    → BodyCause f contents positions pieces (Rose first_count last_count) first now
BodyCause-item f contents mid_contents positions first before now pieces i one first_count mid_count last_count at h same later fell cause =
    let P : Piece → Type 0 = λ p. BodyCause f mid_contents positions (p ∷ []) (Rose mid_count last_count) before now in
    BodyCause-turn f contents mid_contents positions first before now pieces i one first_count mid_count last_count h same later fell (subst P at cause)

pub LastSizes-item : {B : Type 0} (position : B → ℕ) (pieces : List Piece) (i : ℕ) (one : Piece)
    (mid new : List (Option B)) → one ≡ get_or pieces i one → i < length pieces
    → LastSizes (numbers_of position mid) (file_numbers (take i pieces)) (file_sizes (take i pieces))
    → ((k : ℕ) → ¬ (Contains (file_numbers (one ∷ [])) k) → at_number new k ≡ at_number mid k)
    → LastSizes (numbers_of position new) (file_numbers (one ∷ [])) (file_sizes (one ∷ []))
    → LastSizes (numbers_of position new) (file_numbers (take (i + 1) pieces)) (file_sizes (take (i + 1) pieces))
LastSizes-item position pieces i one mid new at h so_far others here =
    let P : Piece → Type 0 = λ p. (k : ℕ) → ¬ (Contains (file_numbers (p ∷ [])) k) → at_number new k ≡ at_number mid k in
    let Q : Piece → Type 0 = λ p. LastSizes (numbers_of position new) (file_numbers (p ∷ [])) (file_sizes (p ∷ [])) in
    LastSizes-turn position pieces i one mid new h so_far (subst P at others) (subst Q at here)
