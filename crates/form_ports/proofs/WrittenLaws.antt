-- The laws of bytes that move in several calls, for the crates above.
use Rattle.std.proofs.Common.{◌≡◌, ℕ, ◌+◌, List, [], ◌++◌, take, drop, refl, sym, ap, ◌∙◌, append_assoc, append-nil, Some, None, take-append-drop}
use Rattle.std.specs.Prelude.{Option}
use Rattle.std.specs.Io.KnownBytes.{prepend_known, append_known}
use Rattle.std.proofs.Math.Seq.{take-add}
use Rattle.form_ports.specs.Written.{WrotePart, WroteUpTo}

pub prepend_known-prepend : (a b : List ℕ) (known : Option (List ℕ))
    → prepend_known a (prepend_known b known) ≡ prepend_known (a ++ b) known
prepend_known-prepend a b None = refl
prepend_known-prepend a b (Some xs) = ap Some (sym (append_assoc a b xs))

pub append_known-nil : (known : Option (List ℕ)) → known ≡ append_known known []
append_known-nil None = refl
append_known-nil (Some xs) = ap Some (sym (append-nil xs))

pub append_known-append : (known : Option (List ℕ)) (a b : List ℕ)
    → append_known (append_known known a) b ≡ append_known known (a ++ b)
append_known-append None a b = refl
append_known-append (Some xs) a b = ap Some (append_assoc xs a b)

-- one more write
pub append_known-more : (written now after : Option (List ℕ)) (text : List ℕ) (done count : ℕ)
    → now ≡ append_known written (take done text) → after ≡ append_known now (take count (drop done text))
    → after ≡ append_known written (take (done + count) text)
append_known-more written now after text done count so_far here =
    here ∙ ap (λ w. append_known w (take count (drop done text))) so_far
    ∙ append_known-append written (take done text) (take count (drop done text))
    ∙ ap (append_known written) (sym (take-add done count text))

-- a front of a text
pub WrotePart-take : (written now : Option (List ℕ)) (text : List ℕ) (done : ℕ)
    → now ≡ append_known written (take done text) → WrotePart written now text
WrotePart-take written now text done so_far = record {
  front = take done text;
  rest = drop done text;
  whole = sym (take-append-drop done text);
  bytes = so_far;
}

-- ---- a text that is written in pieces

pub WroteUpTo-start : (written : Option (List ℕ)) (text : List ℕ) → WroteUpTo written written text text
WroteUpTo-start written text = record { front = []; whole = refl; bytes = append_known-nil written }

-- one more piece
pub WroteUpTo-more : (written now after : Option (List ℕ)) (text rest piece more : List ℕ)
    → WroteUpTo written now text rest → rest ≡ piece ++ more → after ≡ append_known now piece
    → WroteUpTo written after text more
WroteUpTo-more written now after text rest piece more so_far split here = record {
  front = so_far.front ++ piece;
  whole = so_far.whole ∙ ap (λ r. so_far.front ++ r) split ∙ sym (append_assoc so_far.front piece more);
  bytes = here ∙ ap (λ w. append_known w piece) so_far.bytes ∙ append_known-append written so_far.front piece;
}

-- a part of the next piece
pub WroteUpTo-part : (written now after : Option (List ℕ)) (text rest piece more : List ℕ)
    → WroteUpTo written now text rest → rest ≡ piece ++ more → WrotePart now after piece
    → WrotePart written after text
WroteUpTo-part written now after text rest piece more so_far split last = record {
  front = so_far.front ++ last.front;
  rest = last.rest ++ more;
  whole = so_far.whole
      ∙ ap (λ r. so_far.front ++ r) (split ∙ ap (λ p. p ++ more) last.whole ∙ append_assoc last.front last.rest more)
      ∙ sym (append_assoc so_far.front last.front (last.rest ++ more));
  bytes = last.bytes ∙ ap (λ w. append_known w last.front) so_far.bytes ∙ append_known-append written so_far.front last.front;
}

-- nothing is left
pub WroteUpTo-end : (written now : Option (List ℕ)) (text : List ℕ) → WroteUpTo written now text []
    → now ≡ append_known written text
WroteUpTo-end written now text so_far =
    so_far.bytes ∙ ap (append_known written) (sym (append-nil so_far.front) ∙ sym so_far.whole)

-- ---- parts of a text

-- a part of the front
pub WrotePart-front : (written now : Option (List ℕ)) (text piece more : List ℕ) → text ≡ piece ++ more
    → WrotePart written now piece → WrotePart written now text
WrotePart-front written now text piece more split last =
    WroteUpTo-part written written now text text piece more (WroteUpTo-start written text) split last

-- the front, and a part of what follows
pub WrotePart-later : (written now after : Option (List ℕ)) (text piece more : List ℕ) → text ≡ piece ++ more
    → now ≡ append_known written piece → WrotePart now after more → WrotePart written after text
WrotePart-later written now after text piece more split here last =
    WroteUpTo-part written now after text more more []
    (WroteUpTo-more written written now text text piece more (WroteUpTo-start written text) split here)
    (sym (append-nil more)) last

-- a front, and then the rest
pub written-then : (written now after : Option (List ℕ)) (front rest : List ℕ) → now ≡ append_known written front → after ≡ append_known now rest → after ≡ append_known written (front ++ rest)
written-then written now after front rest first second = second ∙ ap (λ w. append_known w rest) first ∙ append_known-append written front rest
