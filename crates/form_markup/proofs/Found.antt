-- Pieces without a fault that leave no element open are those of contents.
use Rattle.std.proofs.Common.{◌≡◌, ℕ, List, [], ◌∷◌, ◌++◌, Some, None, refl, sym, ap, ◌∙◌, append_assoc}
use Rattle.form_tree.specs.declared.node.Tag.{Tag}
use Rattle.form_markup.specs.Contents.{Tagged, Piece, Start, Void, Oversized, End, Characters, Ignored, Contents, Nothing, Shown, Hidden, Empty, Element, pieces_of}
use Rattle.form_markup.specs.Faults.{Outer, outer_of, counts, IsFine, opens_all}
use Rattle.form_tokens.specs.declared.fault.Fault.TheVariants.{Limit, Nesting}

-- The pieces are contents, an end tag for each open element, and contents behind each.
abbrev pub Closes : List Outer → List Piece → Type 0
Closes [] ps = (c : Contents) × (ps ≡ pieces_of c)
Closes (outer ∷ outers) ps = (c : Contents) × (end : List ℕ) × (rest : List Piece) × (ps ≡ pieces_of c ++ (End end ∷ rest)) × Closes outers rest

pub put : (f : Contents → Contents) (p : Piece) → ((c : Contents) → pieces_of (f c) ≡ p ∷ pieces_of c) → (outers : List Outer) (ps : List Piece) → Closes outers ps → Closes outers (p ∷ ps)
put f p e [] ps h = (f h.0, ap (λ qs. p ∷ qs) h.1 ∙ sym (e h.0))
put f p e (outer ∷ outers) ps h = (f h.0, h.1, h.2, ap (λ qs. p ∷ qs) h.3 ∙ ap (λ qs. qs ++ (End h.1 ∷ h.2)) (sym (e h.0)), h.4)

pub put_element : (tagged : Tagged) (outers : List Outer) (ps : List Piece) → Closes (outer_of tagged ∷ outers) ps → Closes outers (Start tagged ∷ ps)
put_element tagged [] ps h = (Element tagged h.0 h.1 h.4.0, ap (λ qs. Start tagged ∷ qs) (h.3 ∙ ap (λ qs. pieces_of h.0 ++ (End h.1 ∷ qs)) h.4.1))
put_element tagged (outer ∷ outers) ps h = (
  Element tagged h.0 h.1 h.4.0,
  h.4.1,
  h.4.2,
  ap (λ qs. Start tagged ∷ qs) (h.3 ∙ (ap (λ qs. pieces_of h.0 ++ (End h.1 ∷ qs)) h.4.3 ∙ sym (append_assoc (pieces_of h.0) (End h.1 ∷ pieces_of h.4.0) (End h.4.1 ∷ h.4.2)))),
  h.4.4,
)

pub nested : (around : List Tag) (outers : List Outer) (n : ℕ) (ps : List Piece) → IsFine around outers n ps → opens_all outers ps ≡ [] → Closes outers ps
nested around [] n [] fine e = (Nothing, refl)
nested around (outer ∷ outers) n [] fine e = absurd (cc)
nested around outers n (Start tagged ∷ ps) fine e = put_element tagged outers ps (nested around (outer_of tagged ∷ outers) (counts n (Start tagged)) ps fine.1 e)
nested around outers n (Void tagged ∷ ps) fine e = put (Empty tagged) (Void tagged) (λ c. refl) outers ps (nested around outers (counts n (Void tagged)) ps fine.1 e)
nested around outers n (Oversized ∷ ps) fine e = absurd (let h : Some Limit ≡ None = fine.0 in cc)
nested around outers n (Characters bytes ∷ ps) fine e = put (Shown bytes) (Characters bytes) (λ c. refl) outers ps (nested around outers n ps fine.1 e)
nested around outers n (Ignored ∷ ps) fine e = put Hidden Ignored (λ c. refl) outers ps (nested around outers n ps fine.1 e)
nested around [] n (End end ∷ ps) fine e = absurd (let h : Some Nesting ≡ None = fine.0 in cc)
nested around (outer ∷ outers) n (End end ∷ ps) fine e = (Nothing, end, ps, refl, nested around outers n ps fine.1 e)
