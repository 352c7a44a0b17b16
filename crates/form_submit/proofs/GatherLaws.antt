-- Bytes that are gathered in several calls.
use Rattle.std.proofs.Common.{◌≡◌, ℕ, ◌+◌, ◌<◌, List, [], ◌++◌, length, refl, sym, ap, subst, ◌∙◌, arith, append_assoc, append-nil, length-append, codes, flat_map, take, drop}
use Rattle.std.proofs.Common.{take-append-drop, get_or, Bor}
use Rattle.std.specs.Prelude.{Option}
use Rattle.std.proofs.lemmas.List.{drop_more}
use Rattle.std.specs.Io.KnownBytes.{append_known}
use Rattle.form_ports.specs.Written.{WrotePart}
use Rattle.form_ports.proofs.Laws.{append_known-nil, append_known-append, WrotePart-front, WrotePart-later}
use Rattle.form_submit.specs.PrintedRequest.{piece_size, printed_data, printed_body}
use Rattle.form_submit.specs.Sending.{Gathered, Gathers, GathersPart}
use Rattle.form_submit.proofs.BodyLaws.{printed_data-none, printed_data-append}
use Rattle.std.proofs.Math.Seq.{take-add}

-- nothing is printed and written: all is kept
pub Gathers-kept : (written : Option (List ℕ)) (kept left : Gathered) (more : List ℕ) → left.lines ≡ kept.lines
    → left.bytes ≡ kept.bytes ++ more → Gathers written written kept more left
Gathers-kept written kept left more same put = record {
  printed = [];
  pieces = 0;
  front = [];
  whole = sym put;
  size = refl;
  lines = ap (λ d. kept.lines ++ d) printed_data-none ∙ append-nil kept.lines ∙ sym same;
  wrote = append_known-nil written;
}

-- nothing came
pub Gathers-none : (written : Option (List ℕ)) (kept : Gathered) → Gathers written written kept [] kept
Gathers-none written kept = Gathers-kept written kept kept [] refl (sym (append-nil kept.bytes))

-- the lines were written
pub Gathers-handed : (written now : Option (List ℕ)) (kept left : Gathered) → left.lines ≡ [] → left.bytes ≡ kept.bytes
    → now ≡ append_known written kept.lines → Gathers written now kept [] left
Gathers-handed written now kept left none same here = record {
  printed = [];
  pieces = 0;
  front = kept.lines;
  whole = append-nil kept.bytes ∙ sym same;
  size = refl;
  lines = ap (λ d. kept.lines ++ d) (printed_data-none ∙ sym none);
  wrote = here;
}

-- a part of them
pub GathersPart-handed : (written now : Option (List ℕ)) (kept : Gathered) → WrotePart written now kept.lines
    → GathersPart written now kept []
GathersPart-handed written now kept here = record {
  printed = [];
  rest = kept.bytes;
  pieces = 0;
  whole = append-nil kept.bytes;
  size = refl;
  wrote = WrotePart-front written now (kept.lines ++ printed_data []) kept.lines (printed_data []) refl here;
}

-- the piece is whole, and was printed
pub Gathers-printed : (written now : Option (List ℕ)) (kept left : Gathered) → length kept.bytes ≡ piece_size → left.bytes ≡ []
    → left.lines ≡ kept.lines ++ printed_data kept.bytes → Gathers written written kept [] left
Gathers-printed written now kept left size none put = record {
  printed = kept.bytes;
  pieces = 1;
  front = [];
  whole = ap (λ b. kept.bytes ++ b) (sym none);
  size = size;
  lines = sym put;
  wrote = append_known-nil written;
}

-- what was gathered was written in part
pub GathersPart-whole : (written now : Option (List ℕ)) (kept left : Gathered) (more : List ℕ) → Gathers written now kept more left
    → GathersPart written now kept more
GathersPart-whole written now kept left more all = record {
  printed = all.printed;
  rest = left.bytes;
  pieces = all.pieces;
  whole = all.whole;
  size = all.size;
  wrote = record { front = all.front; rest = left.lines; whole = all.lines; bytes = all.wrote };
}

-- the lines of more pieces, behind those that came so far
lines-more : (lines text later front between : List ℕ) → lines ++ text ≡ front ++ between
    → lines ++ (text ++ later) ≡ front ++ (between ++ later)
lines-more lines text later front between so_far =
    sym (append_assoc lines text later) ∙ ap (λ l. l ++ later) so_far ∙ append_assoc front between later

-- more bytes, behind those that came so far
pub Gathers-more : (written mid now : Option (List ℕ)) (kept between left : Gathered) (bytes more : List ℕ)
    → Gathers written mid kept bytes between → Gathers mid now between more left → Gathers written now kept (bytes ++ more) left
Gathers-more written mid now kept between left bytes more first second = record {
  printed = first.printed ++ second.printed;
  pieces = first.pieces + second.pieces;
  front = first.front ++ second.front;
  whole = lines-more kept.bytes bytes more first.printed between.bytes first.whole
      ∙ ap (λ b. first.printed ++ b) second.whole ∙ sym (append_assoc first.printed second.printed left.bytes);
  size = omega (arith, length-append first.printed second.printed, first.size, second.size);
  lines = ap (λ d. kept.lines ++ d) (printed_data-append first.pieces first.printed second.printed first.size)
      ∙ lines-more kept.lines (printed_data first.printed) (printed_data second.printed) first.front between.lines first.lines
      ∙ ap (λ l. first.front ++ l) second.lines ∙ sym (append_assoc first.front second.front left.lines);
  wrote = second.wrote ∙ ap (λ w. append_known w second.front) first.wrote
      ∙ append_known-append written first.front second.front;
}

-- a part of more bytes
pub GathersPart-more : (written mid now : Option (List ℕ)) (kept between : Gathered) (bytes more : List ℕ)
    → Gathers written mid kept bytes between → GathersPart mid now between more → GathersPart written now kept (bytes ++ more)
GathersPart-more written mid now kept between bytes more first second = record {
  printed = first.printed ++ second.printed;
  rest = second.rest;
  pieces = first.pieces + second.pieces;
  whole = lines-more kept.bytes bytes more first.printed between.bytes first.whole
      ∙ ap (λ b. first.printed ++ b) second.whole ∙ sym (append_assoc first.printed second.printed second.rest);
  size = omega (arith, length-append first.printed second.printed, first.size, second.size);
  wrote = WrotePart-later written mid now (kept.lines ++ printed_data (first.printed ++ second.printed)) first.front
      (between.lines ++ printed_data second.printed)
      (ap (λ d. kept.lines ++ d) (printed_data-append first.pieces first.printed second.printed first.size)
      ∙ lines-more kept.lines (printed_data first.printed) (printed_data second.printed) first.front between.lines first.lines)
      first.wrote second.wrote;
}

-- a part of the lines is one where still more bytes come
pub GathersPart-longer : (written now : Option (List ℕ)) (kept : Gathered) (bytes more : List ℕ) → GathersPart written now kept bytes
    → GathersPart written now kept (bytes ++ more)
GathersPart-longer written now kept bytes more part = record {
  printed = part.printed;
  rest = part.rest ++ more;
  pieces = part.pieces;
  whole = lines-more kept.bytes bytes more part.printed part.rest part.whole;
  size = part.size;
  wrote = part.wrote;
}

-- room was made, and then the piece printed, where it is whole
pub Gathers-whole : (written now : Option (List ℕ)) (kept between left : Gathered) → Gathers written now kept [] between
    → between.bytes ≡ kept.bytes → length kept.bytes ≡ piece_size → left.bytes ≡ []
    → left.lines ≡ between.lines ++ printed_data between.bytes → Gathers written now kept [] left
Gathers-whole written now kept between left first same size none put =
    Gathers-more written now now kept between left [] [] first
    (Gathers-printed now now between left (ap (λ b. length b) same ∙ size) none put)

-- a piece that was whole was printed, and the next of the bytes were taken
pub Gathers-taken : (written mid now : Option (List ℕ)) (kept between printed left : Gathered) (bytes rest : List ℕ) (done count : ℕ)
    → Gathers written mid kept (take done bytes) between → Gathers mid now between [] printed → rest ≡ drop done bytes
    → left.lines ≡ printed.lines → left.bytes ≡ printed.bytes ++ take count rest → Gathers written now kept (take (done + count) bytes) left
Gathers-taken written mid now kept between printed left bytes rest done count so_far whole behind same put =
    let P : List ℕ → Type 0 = λ b. Gathers written now kept b left in
    subst P (ap (λ r. take done bytes ++ take count r) behind ∙ sym (take-add done count bytes))
    (Gathers-more written mid now kept between left (take done bytes) (take count rest) so_far
    (Gathers-more mid now now between printed left [] (take count rest) whole (Gathers-kept now printed left (take count rest) same put)))

-- a part of that
pub GathersPart-taken : (written mid now : Option (List ℕ)) (kept between : Gathered) (bytes : List ℕ) (done : ℕ)
    → Gathers written mid kept (take done bytes) between → GathersPart mid now between [] → GathersPart written now kept bytes
GathersPart-taken written mid now kept between bytes done so_far whole =
    let P : List ℕ → Type 0 = λ b. GathersPart written now kept b in
    let Q : List ℕ → Type 0 = λ b. GathersPart written now kept b in
    let front = subst P (append-nil (take done bytes)) (GathersPart-more written mid now kept between (take done bytes) [] so_far whole) in
    subst Q (take-append-drop done bytes) (GathersPart-longer written now kept (take done bytes) (drop done bytes) front)

-- ---- a body with its end

-- what is written of lines and a body, and what is left of them
pub printed_rest-split : (written now : Option (List ℕ)) (kept left : Gathered) (more : List ℕ) → (all : Gathers written now kept more left)
    → kept.lines ++ printed_body (kept.bytes ++ more) ≡ all.front ++ (left.lines ++ printed_body left.bytes)
unfolding printed_body
printed_rest-split written now kept left more all =
    ap (λ b. kept.lines ++ (printed_data b ++ codes "end\n")) all.whole
    ∙ ap (λ d. kept.lines ++ (d ++ codes "end\n")) (printed_data-append all.pieces all.printed left.bytes all.size)
    ∙ ap (λ d. kept.lines ++ d) (append_assoc (printed_data all.printed) (printed_data left.bytes) (codes "end\n"))
    ∙ lines-more kept.lines (printed_data all.printed) (printed_data left.bytes ++ codes "end\n") all.front left.lines all.lines

-- what is left is written too
pub printed_rest-whole : (written mid now : Option (List ℕ)) (kept left : Gathered) (more : List ℕ) → Gathers written mid kept more left
    → now ≡ append_known mid (left.lines ++ printed_body left.bytes)
    → now ≡ append_known written (kept.lines ++ printed_body (kept.bytes ++ more))
printed_rest-whole written mid now kept left more all here =
    here ∙ ap (λ w. append_known w (left.lines ++ printed_body left.bytes)) all.wrote
    ∙ append_known-append written all.front (left.lines ++ printed_body left.bytes)
    ∙ ap (append_known written) (sym (printed_rest-split written mid kept left more all))

-- or a part of it
pub printed_rest-part : (written mid now : Option (List ℕ)) (kept left : Gathered) (more : List ℕ) → Gathers written mid kept more left
    → WrotePart mid now (left.lines ++ printed_body left.bytes)
    → WrotePart written now (kept.lines ++ printed_body (kept.bytes ++ more))
printed_rest-part written mid now kept left more all here =
    WrotePart-later written mid now (kept.lines ++ printed_body (kept.bytes ++ more)) all.front (left.lines ++ printed_body left.bytes)
    (printed_rest-split written mid kept left more all) all.wrote here

-- a part of some lines is a part of them with the rest of the body
pub printed_rest-front : (written now : Option (List ℕ)) (kept : Gathered) (more : List ℕ) → GathersPart written now kept more
    → WrotePart written now (kept.lines ++ printed_body (kept.bytes ++ more))
unfolding printed_body
printed_rest-front written now kept more part =
    WrotePart-front written now (kept.lines ++ (printed_data (kept.bytes ++ more) ++ codes "end\n")) (kept.lines ++ printed_data part.printed)
    (printed_data part.rest ++ codes "end\n")
    (ap (λ b. kept.lines ++ (printed_data b ++ codes "end\n")) part.whole
    ∙ ap (λ d. kept.lines ++ (d ++ codes "end\n")) (printed_data-append part.pieces part.printed part.rest part.size)
    ∙ ap (λ d. kept.lines ++ d) (append_assoc (printed_data part.printed) (printed_data part.rest) (codes "end\n"))
    ∙ sym (append_assoc kept.lines (printed_data part.printed) (printed_data part.rest ++ codes "end\n"))) part.wrote

-- the rest of a body, printed behind the lines that there are
pub printed_rest-lines : (lines bytes printed all : List ℕ) → printed ≡ lines ++ printed_data bytes → all ≡ printed ++ codes "end\n"
    → all ≡ lines ++ printed_body bytes
unfolding printed_body
printed_rest-lines lines bytes printed all put end =
    end ∙ ap (λ l. l ++ codes "end\n") put ∙ append_assoc lines (printed_data bytes) (codes "end\n")

-- of no more bytes the rest is that of those that were kept
rest-same : (kept : Gathered) → kept.lines ++ printed_body (kept.bytes ++ []) ≡ kept.lines ++ printed_body kept.bytes
rest-same kept = ap (λ b. kept.lines ++ printed_body b) (append-nil kept.bytes)

-- what was kept is written, with the end of the body
pub printed_rest-end : (written mid now : Option (List ℕ)) (kept left : Gathered) (all : List ℕ) → Gathers written mid kept [] left
    → all ≡ left.lines ++ printed_body left.bytes → now ≡ append_known mid all
    → now ≡ append_known written (kept.lines ++ printed_body kept.bytes)
printed_rest-end written mid now kept left all so_far is here =
    printed_rest-whole written mid now kept left [] so_far (here ∙ ap (append_known mid) is) ∙ ap (append_known written) (rest-same kept)

-- a part of it
pub printed_rest-later : (written mid now : Option (List ℕ)) (kept left : Gathered) (all : List ℕ) → Gathers written mid kept [] left
    → all ≡ left.lines ++ printed_body left.bytes → WrotePart mid now all
    → WrotePart written now (kept.lines ++ printed_body kept.bytes)
printed_rest-later written mid now kept left all so_far is here =
    let P : List ℕ → Type 0 = WrotePart mid now in
    let Q : List ℕ → Type 0 = WrotePart written now in
    subst Q (rest-same kept) (printed_rest-part written mid now kept left [] so_far (subst P is here))

-- a part of what was kept
pub printed_rest-before : (written now : Option (List ℕ)) (kept : Gathered) → GathersPart written now kept []
    → WrotePart written now (kept.lines ++ printed_body kept.bytes)
printed_rest-before written now kept part =
    let Q : List ℕ → Type 0 = WrotePart written now in subst Q (rest-same kept) (printed_rest-front written now kept [] part)

-- the next of several texts
pub parts-split : (parts : List (Bor (List ℕ))) (i : ℕ) (d : Bor (List ℕ)) → i < length parts
    → flat_map (λ part. part.now) (drop i parts) ≡ (get_or parts i d).now ++ flat_map (λ part. part.now) (drop (i + 1) parts)
parts-split parts i d h = ap (flat_map (λ part. part.now)) (drop_more parts i d h)
