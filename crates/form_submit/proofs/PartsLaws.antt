-- The parts of a multipart body, and the outcome that they lead to.
use Rattle.std.proofs.Common.{◌≡◌, ℕ, suc, ◌+◌, ◌-◌, ◌<◌, ◌≤◌, cond, List, [], ◌∷◌, ◌++◌, length, map, replicate, Option, Some, None, IfSome, refl, sym, ap}
use Rattle.std.proofs.Common.{subst, ◌∙◌, arith}
use Rattle.std.specs.Prelude.{Contains, flat_map, sum}
use Rattle.std.specs.List.{AllZip, zip}
use Rattle.std.proofs.lemmas.Bool.{lt-ltb}
use Rattle.std.proofs.lemmas.List.{length-replicate, length-map}
use Rattle.std.proofs.lemmas.List.Sums.{sum_by-cons}
use Rattle.url.specs.Parts.{Parts}
use Rattle.form_text.specs.LineEnds.{with_crlf}
use Rattle.form_encode.specs.declared.entry.Entry.{Entry}
use Rattle.form_encode.specs.declared.entry.Given.{Given}
use Rattle.form_encode.specs.declared.entry.Given.TheVariants.{Text, File}
use Rattle.form_encode.specs.Boundaries.{first_free}
use Rattle.form_ports.specs.Shelf.{at_number, HasTold, Passes, told, total}
use Rattle.form_entries.specs.EntryList.{entries_length, most_bytes}
use Rattle.form_parts.specs.declared.parts.Parts as answers
use Rattle.form_parts.specs.Parts as multipart
use Rattle.form_submit.specs.declared.outcome.Outcome.{Outcome}
use Rattle.form_submit.specs.declared.outcome.Outcome.TheVariants as outcomes
use Rattle.form_submit.specs.declared.outcome.Why.TheVariants as whys
use Rattle.form_submit.specs.declared.route.Direct.{Direct}
use Rattle.form_submit.specs.declared.route.Route.{Route}
use Rattle.form_submit.specs.declared.route.Route.TheVariants as routes
use Rattle.form_submit.specs.Outcome.{IsOutcomeBy, files_read, chosen, direct_outcome, multipart_outcome}
use Rattle.form_submit.specs.Outcome.{unless_long}

abbrev Contents : Type 0
Contents = List (Option (Option (List ℕ)))

-- ---- bytes that the parts may have

-- parts that entries may have, whose files have so many bytes or more
record Filled (contents : List (Option (Option (List ℕ)))) (entries : List Entry) (least : ℕ) : Type 0 where
  bytes : List (List ℕ)
  each : AllZip (multipart.IsPart contents) entries bytes
  enough : least ≤ total (multipart.file_parts entries bytes)

Filled-text : (contents : Contents) (name text : List ℕ) (entries : List Entry) (least : ℕ) → Filled contents entries least
    → Filled contents (record { name = name; value = Text text } ∷ entries) least
unfolding multipart.file_parts
Filled-text contents name text entries least rest =
    record { bytes = with_crlf text ∷ rest.bytes; each = (refl, rest.each); enough = rest.enough }

Filled-empty : (contents : Contents) (name file : List ℕ) (entries : List Entry) (least : ℕ) → Filled contents entries least
    → Filled contents (record { name = name; value = File None file } ∷ entries) least
unfolding multipart.file_parts
Filled-empty contents name file entries least rest =
    record { bytes = [] ∷ rest.bytes; each = (refl, rest.each); enough = rest.enough }

Filled-file : (contents : Contents) (name file : List ℕ) (number size : ℕ) (entries : List Entry) (least : ℕ)
    → IfSome (told contents number) (λ all. size ≤ length all) → Filled contents entries least
    → Filled contents (record { name = name; value = File (Some number) file } ∷ entries) (size + least)
unfolding multipart.file_parts total
Filled-file contents name file number size entries least within rest = record {
  bytes = here.0 ∷ rest.bytes;
  each = (here.2, rest.each);
  enough = let e = sum_by-cons (λ (n : ℕ). n) (length here.0) (map (λ bytes. length bytes) (flat_map multipart.file_part (zip entries rest.bytes))) in
      let more = rest.enough in
      let long = here.1 in omega (arith, e, more, long);
}
  where
    some_bytes : (content : Option (List ℕ)) → IfSome content (λ all. size ≤ length all)
        → (bytes : List ℕ) × (size ≤ length bytes) × HasTold content bytes
    some_bytes None within = let none : ℕ = 0 in let e = length-replicate size none in (replicate size none, omega (arith, e), tt)
    some_bytes (Some all) within = (all, within, refl)

    here : (bytes : List ℕ) × (size ≤ length bytes) × HasTold (told contents number) bytes
    here = some_bytes (told contents number) within

Filled-fewer : (contents : Contents) (entries : List Entry) (least fewer : ℕ) → fewer ≤ least → Filled contents entries least → Filled contents entries fewer
Filled-fewer contents entries least fewer h filled =
    let enough = filled.enough in record { bytes = filled.bytes; each = filled.each; enough = omega (arith, h, enough) }

abbrev AreWithin : Contents → List ℕ → List ℕ → Type 0
AreWithin contents front sizes = AllZip (λ number size. IfSome (told contents number) (λ all. size ≤ length all)) front sizes

-- one more entry, with the sizes for the first files
Filled-value : (contents : Contents) (name : List ℕ) (value : Given) (entries : List Entry)
    → ((front rest sizes : List ℕ) → multipart.file_numbers entries ≡ front ++ rest → AreWithin contents front sizes → Filled contents entries (sum sizes))
    → (front rest sizes : List ℕ) → multipart.given_number value ++ multipart.file_numbers entries ≡ front ++ rest → AreWithin contents front sizes
    → Filled contents (record { name = name; value = value } ∷ entries) (sum sizes)
Filled-value contents name (Text text) entries next front rest sizes same within =
    Filled-text contents name text entries (sum sizes) (next front rest sizes same within)
Filled-value contents name (File None file) entries next front rest sizes same within =
    Filled-empty contents name file entries (sum sizes) (next front rest sizes same within)
Filled-value contents name (File (Some number) file) entries next [] rest [] same within =
    Filled-file contents name file number 0 entries 0 (any (told contents number)) (next [] (multipart.file_numbers entries) [] refl tt)
  where
    any : (content : Option (List ℕ)) → IfSome content (λ all. 0 ≤ length all)
    any None = tt
    any (Some all) = omega arith
Filled-value contents name (File (Some number) file) entries next [] rest (size ∷ sizes) same within = absurd within
Filled-value contents name (File (Some number) file) entries next (first ∷ front) rest [] same within = absurd within
Filled-value contents name (File (Some number) file) entries next (first ∷ front) rest (size ∷ sizes) same within =
    let is : first ≡ number = cc in
    let others : multipart.file_numbers entries ≡ front ++ rest = cc in
    let here : IfSome (told contents number) (λ all. size ≤ length all) =
    subst (λ n. IfSome (told contents n) (λ all. size ≤ length all)) is within.0 in
    let e = sum_by-cons (λ (n : ℕ). n) size sizes in
    Filled-fewer contents (record { name = name; value = File (Some number) file } ∷ entries) (size + sum sizes) (sum (size ∷ sizes)) (omega (arith, e))
    (Filled-file contents name file number size entries (sum sizes) here (next front rest sizes others within.1))

-- parts whose first files have these sizes, or more
filled_by : (contents : Contents) (entries : List Entry) (front rest sizes : List ℕ) → multipart.file_numbers entries ≡ front ++ rest
    → AreWithin contents front sizes → Filled contents entries (sum sizes)
unfolding multipart.file_numbers
filled_by contents [] [] rest [] same within = record { bytes = []; each = tt; enough = omega arith }
filled_by contents [] [] rest (size ∷ sizes) same within = absurd within
filled_by contents [] (first ∷ front) rest sizes same within = absurd (cc)
filled_by contents (entry ∷ entries) front rest sizes same within =
    Filled-value contents entry.name entry.value entries (filled_by contents entries) front rest sizes same within

-- some parts that the entries may have
filled : (contents : Contents) (entries : List Entry) → Filled contents entries 0
filled contents entries = filled_by contents entries [] (multipart.file_numbers entries) [] refl tt

-- ---- the outcome

pub Outcome-direct : (contents : Contents) (route : Route) (direct : Direct) (entries : List Entry) (bounds : List (List ℕ)) (outcome : Outcome)
    → route ≡ routes.Direct direct → outcome ≡ direct_outcome direct entries → IsOutcomeBy contents route entries bounds outcome
Outcome-direct contents route direct entries bounds outcome leads is =
    let some = filled contents entries in
    subst (λ r. IsOutcomeBy contents r entries bounds outcome) (sym leads) (record { bytes = some.bytes; each = some.each; is = is })

-- a file that the entries do not name is not one that is read
pub others-multipart : {X : Type 0} (old new : List X) (route : Route) (url : Parts) (entries : List Entry) → route ≡ routes.Multipart url
    → ((k : ℕ) → ¬ (Contains (multipart.file_numbers entries) k) → at_number new k ≡ at_number old k)
    → (k : ℕ) → ¬ (Contains (files_read route entries) k) → at_number new k ≡ at_number old k
others-multipart old new route url entries leads others k apart =
    others k (subst (λ ns. ¬ (Contains ns k)) (ap (λ r. files_read r entries) leads) apart)

long_is : (bytes : ℕ) (outcome : Outcome) → most_bytes < bytes → outcomes.NoRequest whys.Long ≡ unless_long bytes outcome
long_is bytes outcome long = ap (λ b. cond b (outcomes.NoRequest whys.Long) outcome) (sym (lt-ltb most_bytes bytes long))

-- too long by the entry list alone
pub Outcome-listed_long : (contents : Contents) (url : Parts) (entries : List Entry) (bounds : List (List ℕ)) → most_bytes < entries_length entries
    → IsOutcomeBy contents (routes.Multipart url) entries bounds (outcomes.NoRequest whys.Long)
Outcome-listed_long contents url entries bounds long =
    let some = filled contents entries in record {
      bytes = some.bytes;
      each = some.each;
      is = long_is (entries_length entries + total (multipart.file_parts entries some.bytes))
          (multipart_outcome url entries (map (λ part. length part) some.bytes) (chosen bounds (first_free bounds some.bytes))) (omega (arith, long));
    }

-- too long with its files
pub Outcome-passes : (contents : Contents) (positions : List (Option ℕ)) (url : Parts) (entries : List Entry) (bounds : List (List ℕ))
    → Passes contents positions (multipart.file_numbers entries) (most_bytes - entries_length entries)
    → IsOutcomeBy contents (routes.Multipart url) entries bounds (outcomes.NoRequest whys.Long)
Outcome-passes contents positions url entries bounds passes =
    let some = filled_by contents entries passes.front passes.rest passes.sizes passes.is_front passes.within in
    let enough = some.enough in
    let past = passes.past in
    record {
      bytes = some.bytes;
      each = some.each;
      is = long_is (entries_length entries + total (multipart.file_parts entries some.bytes))
          (multipart_outcome url entries (map (λ part. length part) some.bytes) (chosen bounds (first_free bounds some.bytes))) (omega (arith, enough, past));
    }

-- each entry has a size
pub HasParts-length : (contents : Contents) (positions : List (Option ℕ)) (entries : List Entry) (bounds : List (List ℕ)) (most : ℕ) (read : answers.Parts)
    → multipart.HasParts contents positions entries bounds most read → length read.sizes ≡ length entries
HasParts-length contents positions entries bounds most read has =
    ap (λ sizes. length sizes) has.sizes ∙ length-map has.parts (λ part. length part)
    ∙ sym (AllZip-length has.parts entries has.each)
  where
    AllZip-length : (bytes : List (List ℕ)) (entries : List Entry) → AllZip (multipart.IsPart contents) entries bytes → length entries ≡ length bytes
    AllZip-length [] [] each = refl
    AllZip-length [] (entry ∷ entries) each = absurd each
    AllZip-length (part ∷ bytes) [] each = absurd each
    AllZip-length (part ∷ bytes) (entry ∷ entries) each = ap suc (AllZip-length bytes entries each.1)
