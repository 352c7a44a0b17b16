-- The bytes of a multipart body whose pieces are written.
use Rattle.std.proofs.Common.{◌≡◌, ℕ, List, [], ◌∷◌, ◌++◌, length, Option, Some, None, ap, ◌∙◌, arith, append_assoc, append-nil}
use Rattle.std.specs.Prelude.{flat_map}
use Rattle.std.specs.List.{AllZip, concat, zip}
use Rattle.form_encode.specs.declared.entry.Entry.{Entry}
use Rattle.form_encode.specs.declared.entry.Given.{Given}
use Rattle.form_encode.specs.declared.entry.Given.TheVariants.{Text, File}
use Rattle.form_encode.specs.Multipart.{closing_line, head_of, multipart_body, part_of}
use Rattle.form_encode.specs.PlainText.{crlf}
use Rattle.form_parts.specs.Parts as multipart
use Rattle.form_submit.specs.declared.request.Piece.TheVariants as pieces
use Rattle.form_submit.specs.Outcome.{multipart_pieces, parts_pieces, value_piece}
use Rattle.form_submit.specs.PrintedRequest.{IsBody, IsPart}

-- the bytes of a value's piece are those of its part
value_bytes : (contents : List (Option (Option (List ℕ)))) (value : Given) (size : ℕ) (bytes : List ℕ)
    → IsPart contents (value_piece value size) bytes → multipart.IsGivenPart contents value bytes
value_bytes contents (Text text) size bytes is = is
value_bytes contents (File None name) size bytes is = is
value_bytes contents (File (Some number) name) size bytes is = is.1

record Spelled (contents : List (Option (Option (List ℕ)))) (boundary : List ℕ) (entries : List Entry) (written : List (List ℕ)) : Type 0 where
  bytes : List (List ℕ)
  each : AllZip (multipart.IsPart contents) entries bytes
  whole : concat written ≡ multipart_body boundary (zip entries bytes)

join : (head value end rest closing front : List ℕ) → front ≡ rest ++ closing → head ++ (value ++ (end ++ front)) ≡ ((head ++ (value ++ end)) ++ rest) ++ closing
join head value end rest closing front is = ap (λ bytes. head ++ (value ++ (end ++ bytes))) is ∙ simp append_assoc

spelled : (contents : List (Option (Option (List ℕ)))) (boundary : List ℕ) (entries : List Entry) (sizes : List ℕ) (written : List (List ℕ))
    → length sizes ≡ length entries → AllZip (IsPart contents) (parts_pieces boundary entries sizes ++ pieces.Bytes (closing_line boundary) ∷ []) written
    → Spelled contents boundary entries written
spelled contents boundary [] [] [] same each = absurd each
spelled contents boundary [] [] (end ∷ []) same each = record { bytes = []; each = tt; whole = append-nil end ∙ each.0 }
spelled contents boundary [] [] (end ∷ more ∷ written) same each = absurd each.1
spelled contents boundary [] (size ∷ sizes) written same each = absurd (omega (arith, same))
spelled contents boundary (entry ∷ entries) [] written same each = absurd (omega (arith, same))
spelled contents boundary (entry ∷ entries) (size ∷ sizes) [] same each = absurd each
spelled contents boundary (entry ∷ entries) (size ∷ sizes) (head ∷ []) same each = absurd each.1
spelled contents boundary (entry ∷ entries) (size ∷ sizes) (head ∷ value ∷ []) same each = absurd each.1.1
spelled contents boundary (entry ∷ entries) (size ∷ sizes) (head ∷ value ∷ end ∷ written) same each =
    let rest = spelled contents boundary entries sizes written (omega (arith, same)) each.1.1.1 in record {
      bytes = value ∷ rest.bytes;
      each = (value_bytes contents entry.value size value each.1.0, rest.each);
      whole = ap (λ bytes. bytes ++ (value ++ (end ++ concat written))) each.0
          ∙ ap (λ bytes. head_of entry boundary ++ (value ++ (bytes ++ concat written))) each.1.1.0
          ∙ join (head_of entry boundary) value crlf (flat_map (part_of boundary) (zip entries rest.bytes)) (closing_line boundary) (concat written) rest.whole;
    }

-- The bytes of the pieces are the multipart body of the entries: with their texts, and with bytes that their
-- files may have.
pub multipart_bytes : (contents : List (Option (Option (List ℕ)))) (boundary : List ℕ) (entries : List Entry) (sizes body : List ℕ)
    → length sizes ≡ length entries → IsBody contents (multipart_pieces boundary entries sizes) body
    → (bytes : List (List ℕ)) × AllZip (multipart.IsPart contents) entries bytes × (body ≡ multipart_body boundary (zip entries bytes))
multipart_bytes contents boundary entries sizes body same is =
    let all = spelled contents boundary entries sizes is.parts same is.each in (all.bytes, all.each, is.whole ∙ all.whole)
