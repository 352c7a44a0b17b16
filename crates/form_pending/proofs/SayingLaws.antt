-- Texts that are said one after the other.
use Rattle.std.proofs.Common.{◌≡◌, ℕ, List, [], ◌++◌, refl, sym, ap, ◌∙◌, append_assoc, append-nil}
use Rattle.std.specs.Prelude.{Option}
use Rattle.std.specs.Io.KnownBytes.{append_known}
use Rattle.form_ports.specs.Written.{WrotePart}
use Rattle.form_ports.proofs.Laws.{append_known-append, append_known-nil}
use Rattle.form_pending.specs.Saying.{Says, SaysPart}

-- ---- one text

-- nothing is said
pub says_nothing : (written : Option (List ℕ)) (kept : List ℕ) → Says written written kept kept []
says_nothing written kept = record { front = []; whole = append-nil kept; bytes = append_known-nil written }

-- the text is kept
pub says_kept : (written : Option (List ℕ)) (kept left text : List ℕ) → left ≡ kept ++ text → Says written written kept left text
says_kept written kept left text e = record { front = []; whole = sym e; bytes = append_known-nil written }

-- what was kept is written
pub says_flushed : (written now : Option (List ℕ)) (kept left : List ℕ) → now ≡ append_known written kept → left ≡ [] → Says written now kept left []
says_flushed written now kept left bytes e = record { front = kept; whole = ap (λ l. kept ++ l) (sym e); bytes = bytes }

-- the text is written where nothing was kept
pub says_written : (written now : Option (List ℕ)) (left text : List ℕ) → now ≡ append_known written text → left ≡ [] → Says written now [] left text
says_written written now left text bytes e = record { front = text; whole = sym (append-nil text) ∙ ap (λ l. text ++ l) (sym e); bytes = bytes }

-- ---- a text in part

pub part_of_says : (written now : Option (List ℕ)) (kept left text : List ℕ) → Says written now kept left text → SaysPart written now kept left text
part_of_says written now kept left text said = record {
  front = said.front;
  rest = [];
  whole = said.whole ∙ ap (λ l. said.front ++ l) (sym (append-nil left));
  bytes = said.bytes;
}

-- a part of a text is one of each longer text
pub part_longer : (written now : Option (List ℕ)) (kept left text more : List ℕ) → SaysPart written now kept left text → SaysPart written now kept left (text ++ more)
part_longer written now kept left text more part = record {
  front = part.front;
  rest = part.rest ++ more;
  whole = sym (append_assoc kept text more)
      ∙ ap (λ t. t ++ more) part.whole
      ∙ append_assoc part.front (left ++ part.rest) more
      ∙ ap (λ t. part.front ++ t) (append_assoc left part.rest more);
  bytes = part.bytes;
}

-- nothing of the text is said
pub part_nothing : (written : Option (List ℕ)) (kept left text : List ℕ) → left ≡ kept → SaysPart written written kept left text
part_nothing written kept left text e = record {
  front = [];
  rest = text;
  whole = ap (λ k. k ++ text) (sym e);
  bytes = append_known-nil written;
}

-- what was kept is written in part, and lost
pub part_lost : (written now : Option (List ℕ)) (kept left text : List ℕ) → WrotePart written now kept → left ≡ [] → SaysPart written now kept left text
part_lost written now kept left text part e = record {
  front = part.front;
  rest = part.rest ++ text;
  whole = ap (λ k. k ++ text) part.whole
      ∙ append_assoc part.front part.rest text
      ∙ ap (λ l. part.front ++ (l ++ (part.rest ++ text))) (sym e);
  bytes = part.bytes;
}

-- the text is written in part where nothing was kept
pub part_written : (written now : Option (List ℕ)) (left text : List ℕ) → WrotePart written now text → left ≡ [] → SaysPart written now [] left text
part_written written now left text part e = record {
  front = part.front;
  rest = part.rest;
  whole = part.whole ∙ ap (λ l. part.front ++ (l ++ part.rest)) (sym e);
  bytes = part.bytes;
}

-- ---- one text and then another

front_then : (kept mid left text more front behind : List ℕ) → kept ++ text ≡ front ++ mid → mid ++ more ≡ behind ++ left → kept ++ (text ++ more) ≡ (front ++ behind) ++ left
front_then kept mid left text more front behind first second =
    sym (append_assoc kept text more)
    ∙ ap (λ t. t ++ more) first
    ∙ append_assoc front mid more
    ∙ ap (λ t. front ++ t) second
    ∙ sym (append_assoc front behind left)

pub says_then : (written between now : Option (List ℕ)) (kept mid left text more : List ℕ) → Says written between kept mid text → Says between now mid left more → Says written now kept left (text ++ more)
says_then written between now kept mid left text more first second = record {
  front = first.front ++ second.front;
  whole = front_then kept mid left text more first.front second.front first.whole second.whole;
  bytes = second.bytes ∙ ap (λ w. append_known w second.front) first.bytes ∙ append_known-append written first.front second.front;
}

pub part_then : (written between now : Option (List ℕ)) (kept mid left text more : List ℕ) → Says written between kept mid text → SaysPart between now mid left more → SaysPart written now kept left (text ++ more)
part_then written between now kept mid left text more first second = record {
  front = first.front ++ second.front;
  rest = second.rest;
  whole = front_then kept mid (left ++ second.rest) text more first.front second.front first.whole second.whole;
  bytes = second.bytes ∙ ap (λ w. append_known w second.front) first.bytes ∙ append_known-append written first.front second.front;
}

-- what was kept is written, and then a text is said
pub flushed_then : (written between now : Option (List ℕ)) (kept left text : List ℕ) → between ≡ append_known written kept → Says between now [] left text → Says written now kept left text
flushed_then written between now kept left text bytes second =
    says_then written between now kept [] left [] text (says_flushed written between kept [] bytes refl) second

pub flushed_part : (written between now : Option (List ℕ)) (kept left text : List ℕ) → between ≡ append_known written kept → SaysPart between now [] left text → SaysPart written now kept left text
flushed_part written between now kept left text bytes second =
    part_then written between now kept [] left [] text (says_flushed written between kept [] bytes refl) second

-- ---- what is written at the end

-- all that was said is written with the last of what is kept
pub said_whole : (written between now : Option (List ℕ)) (left text : List ℕ) → Says written between [] left text → now ≡ append_known between left → now ≡ append_known written text
said_whole written between now left text said bytes =
    bytes ∙ ap (λ w. append_known w left) said.bytes ∙ append_known-append written said.front left ∙ ap (append_known written) (sym said.whole)

-- where a part was said, a front of the text is written
pub said_part : (written between now : Option (List ℕ)) (left text : List ℕ) → SaysPart written between [] left text → WrotePart between now left → WrotePart written now text
said_part written between now left text said part = record {
  front = said.front ++ part.front;
  rest = part.rest ++ said.rest;
  whole = said.whole
      ∙ ap (λ l. said.front ++ (l ++ said.rest)) part.whole
      ∙ ap (λ t. said.front ++ t) (append_assoc part.front part.rest said.rest)
      ∙ sym (append_assoc said.front part.front (part.rest ++ said.rest));
  bytes = part.bytes ∙ ap (λ w. append_known w part.front) said.bytes ∙ append_known-append written said.front part.front;
}
