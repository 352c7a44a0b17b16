-- A scan that was fed bytes, and parts.
use Rattle.std.proofs.Common.{◌≡◌, ℕ, List, [], ◌∷◌, ◌++◌, Some, None, sym, subst, append_assoc, append-nil}
use Rattle.std.specs.Prelude.{Option}
use Rattle.std.specs.Io.KnownBytes.{prepend_known, IsAtEnd}
use Rattle.form_ports.proofs.Laws.{Reading, Reading-end}
use Rattle.form_encode.specs.Scanning.{Scanned, StandsFor}
use Rattle.form_parts.specs.Parts.{Fed, FedFile, FedParts}

-- ---- bytes of the open part

-- no byte
pub Fed-none : (scan : Scanned) → Fed scan scan []
Fed-none scan = record {
  stands = λ bounds ended part stood.
      let P : List ℕ → Type 0 = λ p. StandsFor scan bounds ended p in subst P (sym (append-nil part)) stood;
}

-- more bytes
pub Fed-more : (first mid new : Scanned) (bytes more : List ℕ) → Fed first mid bytes
    → ((bounds ended : List (List ℕ)) (part : List ℕ) → StandsFor mid bounds ended part → StandsFor new bounds ended
    (part ++ more))
    → Fed first new (bytes ++ more)
Fed-more first mid new bytes more so_far here = record {
  stands = λ bounds ended part stood.
      let P : List ℕ → Type 0 = λ p. StandsFor new bounds ended p in
      subst P (append_assoc part bytes more)
      (here bounds ended (part ++ bytes) (so_far.stands bounds ended part stood));
}

-- ---- parts

-- no part
pub FedParts-none : (scan : Scanned) → FedParts scan scan []
FedParts-none scan = record {
  stands = λ bounds ended stood.
      let P : List (List ℕ) → Type 0 = λ e. StandsFor scan bounds e [] in subst P (sym (append-nil ended)) stood;
}

-- one more part
pub FedParts-more : (first mid fed new : Scanned) (parts : List (List ℕ)) (part : List ℕ) → FedParts first mid parts
    → Fed mid fed part
    → ((bounds ended : List (List ℕ)) (part : List ℕ) → StandsFor fed bounds ended part → StandsFor new bounds
    (ended ++ part ∷ []) [])
    → FedParts first new (parts ++ part ∷ [])
FedParts-more first mid fed new parts part so_far here ends = record {
  stands = λ bounds ended stood.
      let P : List (List ℕ) → Type 0 = λ e. StandsFor new bounds e [] in
      subst P (append_assoc ended parts (part ∷ []))
      (ends bounds (ended ++ parts) part (here.stands bounds (ended ++ parts) [] (so_far.stands bounds ended stood)));
}

-- ---- the bytes of a file

nothing_more : (mid left : Option (List ℕ)) → mid ≡ prepend_known [] left → IsAtEnd left → IsAtEnd mid
nothing_more mid None here end = let P : Option (List ℕ) → Type 0 = IsAtEnd in subst P (sym here) tt
nothing_more mid (Some rest) here end = let P : Option (List ℕ) → Type 0 = IsAtEnd in subst P (sym here) end

-- at its end all bytes of a file were fed
pub FedFile-end : (content mid left : Option (List ℕ)) (first now : Scanned) (done : ℕ)
    → Reading (λ bytes. Fed first now bytes) content mid done → mid ≡ prepend_known [] left → IsAtEnd left
    → FedFile content done first now
FedFile-end content mid left first now done so_far here end = record {
  bytes = so_far.bytes;
  is_told = Reading-end (λ bytes. Fed first now bytes) content mid done so_far (nothing_more mid left here end);
  is_size = so_far.size;
  fed = so_far.holds;
}
