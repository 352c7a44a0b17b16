-- The parts of several entries.
use Rattle.std.proofs.Common.{◌≡◌, ℕ, suc, ◌+◌, ◌-◌, ◌<◌, ◌≤◌, Bool, true, false, not, ◌||◌, List, [], ◌∷◌, ◌++◌, length, map, take, drop, get_or, Some, None, IfSome, refl, sym, ap}
use Rattle.std.proofs.Common.{subst, ◌∙◌, arith, append_assoc, append-nil, take-append-drop}
use Rattle.std.specs.Prelude.{Option, option_map, All, Contains, flat_map, sum}
use Rattle.std.specs.List.{AllZip, zip, list_any, position}
use Rattle.std.proofs.Common.{cond}
use Rattle.std.proofs.lemmas.List.{take_more, drop_more, take_at, drop_at, map_push, map-append}
use Rattle.std.proofs.lemmas.List.Elements.{All-take, All-drop, Contains-append_left, Contains-append_right}
use Rattle.std.proofs.lemmas.List.Folds.{list_any-append}
use Rattle.std.proofs.lemmas.Grind.{flat_map-append}
use Rattle.std.proofs.lemmas.Slice.Zip.{all_zipped_more, AllZip-long}
use Rattle.form_text.proofs.Laws.{position-cons}
use Rattle.form_ports.specs.Shelf.{contents_of, numbers_of, at_number, IsThere, told, HasTold, LastSizes, NoneFell, SomeRose, total}
use Rattle.form_ports.proofs.Laws.{AllZip-append, FileRose-later, LastSizes-append, LastSizes-none, LastSizes-one, sum-append}
use Rattle.form_encode.specs.Boundaries.{first_free, has_delimiter, is_taken}
use Rattle.form_encode.proofs.FreeLaws.{Occurs-from}
use Rattle.form_encode.specs.Scanning.{Scanned, StandsFor}
use Rattle.form_encode.specs.declared.entry.Entry.{Entry}
use Rattle.form_encode.specs.declared.entry.Given.{Given}
use Rattle.form_encode.specs.declared.entry.Given.TheVariants.{Text, File}
use Rattle.form_parts.specs.declared.parts.Parts.{Parts}
use Rattle.form_parts.specs.Parts.{FedEntries, FedPart, FedParts, FileLonger, HasParts, IsGivenPart, IsPart, StopsPast, file_number, file_numbers, file_part, file_parts, file_size}
use Rattle.form_parts.specs.Parts.{given_file, given_number}
use Rattle.form_parts.proofs.FedLaws.{FedParts-more, FedParts-none}

-- ---- lists of numbers and of parts

-- the files of entries, split
numbers-split : (front : List Entry) (one : Entry) (back : List Entry)
    → file_numbers (front ++ one ∷ back) ≡ file_numbers front ++ (file_number one ++ file_numbers back)
unfolding file_numbers
numbers-split front one back = flat_map-append file_number front (one ∷ back)

numbers-push : (front : List Entry) (one : Entry)
    → file_numbers (front ++ one ∷ []) ≡ file_numbers front ++ file_number one
unfolding file_numbers
numbers-push front one =
    flat_map-append file_number front (one ∷ [])
    ∙ ap (λ ns. flat_map file_number front ++ ns) (append-nil (file_number one))

numbers-append : (front back : List Entry) → file_numbers (front ++ back) ≡ file_numbers front ++ file_numbers back
unfolding file_numbers
numbers-append front back = flat_map-append file_number front back

zip-push : (front : List Entry) (parts : List (List ℕ)) (one : Entry) (part : List ℕ) → length parts ≡ length front
    → zip (front ++ one ∷ []) (parts ++ part ∷ []) ≡ zip front parts ++ (one, part) ∷ []
zip-push [] [] one part same = refl
zip-push [] (p ∷ parts) one part same = absurd (omega (arith, same))
zip-push (e ∷ front) [] one part same = absurd (omega (arith, same))
zip-push (e ∷ front) (p ∷ parts) one part same =
    ap (λ pairs. (e, p) ∷ pairs) (zip-push front parts one part (omega (arith, same)))

parts-push : (front : List Entry) (parts : List (List ℕ)) (one : Entry) (part : List ℕ) → length parts ≡ length front
    → file_parts (front ++ one ∷ []) (parts ++ part ∷ []) ≡ file_parts front parts ++ given_file one.value part
unfolding file_parts
parts-push front parts one part same =
    ap (flat_map file_part) (zip-push front parts one part same)
    ∙ flat_map-append file_part (zip front parts) ((one, part) ∷ [])
    ∙ ap (λ ps. flat_map file_part (zip front parts) ++ ps) (append-nil (given_file one.value part))

-- ---- how many bytes

total-append : (xs ys : List (List ℕ)) → total (xs ++ ys) ≡ total xs + total ys
unfolding total
total-append xs ys =
    ap sum (map-append (λ bytes. length bytes) xs ys)
    ∙ sum-append (map (λ bytes. length bytes) xs) (map (λ bytes. length bytes) ys)

total-given : (value : Given) (part : List ℕ) → total (given_file value part) ≡ file_size value (length part)
unfolding total
total-given (Text text) part = refl
total-given (File None name) part = refl
total-given (File (Some number) name) part =
    let e : sum (length part ∷ []) ≡ 0 + length part = refl in omega (arith, e)

-- ---- what was read so far

-- these entries were read, of whose files' bytes so many are left
pub record SoFar (contents : List (Option (Option (List ℕ)))) (positions : List (Option ℕ)) (entries : List Entry)
    (most left : ℕ) (sizes : List ℕ) (old new : Scanned) : Type 0 where
  pub parts : List (List ℕ)
  pub each : AllZip (IsPart contents) entries parts
  pub is_size : sizes ≡ map (λ part. length part) parts
  pub spent : left + total (file_parts entries parts) ≡ most
  pub last : LastSizes positions (file_numbers entries) (map (λ part. length part) (file_parts entries parts))
  pub fed : FedParts old new parts

-- none was read yet
pub SoFar-none : (contents : List (Option (Option (List ℕ)))) (positions : List (Option ℕ)) (most : ℕ) (scan : Scanned)
    → SoFar contents positions [] most most [] scan scan
unfolding file_parts file_numbers total
SoFar-none contents positions most scan = record {
  parts = [];
  each = tt;
  is_size = refl;
  spent = let e : sum [] ≡ 0 = refl in omega (arith, e);
  last = LastSizes-none positions;
  fed = FedParts-none scan;
}

SoFar-push : {B : Type 0} (content : B → Option (List ℕ)) (position : B → ℕ) (first mid new : List (Option B))
    (front : List Entry) (one : Entry) (most left size : ℕ) (sizes : List ℕ) (old scan fed now : Scanned)
    → SoFar (contents_of content first) (numbers_of position mid) front most left sizes old scan
    → contents_of content mid ≡ contents_of content first
    → ((k : ℕ) → ¬ (Contains (file_number one) k) → at_number new k ≡ at_number mid k)
    → FedPart (contents_of content mid) (numbers_of position new) one.value left size scan fed
    → ((bounds ended : List (List ℕ)) (part : List ℕ) → StandsFor fed bounds ended part
    → StandsFor now bounds (ended ++ part ∷ []) [])
    → SoFar (contents_of content first) (numbers_of position new) (front ++ one ∷ []) most
    (left - file_size one.value size) (sizes ++ size ∷ []) old now
SoFar-push content position first mid new front one most left size sizes old scan fed now so_far same others here ends =
    let P : List (Option (Option (List ℕ))) → Type 0 = λ cs. IsGivenPart cs one.value here.part in
    let long : length so_far.parts ≡ length front =
    AllZip-long (IsPart (contents_of content first)) front so_far.parts so_far.each in
    let grown = parts-push front so_far.parts one here.part long in
    let lengths : map (λ part. length part) (file_parts (front ++ one ∷ []) (so_far.parts ++ here.part ∷ []))
    ≡ map (λ part. length part) (file_parts front so_far.parts)
    ++ map (λ part. length part) (given_file one.value here.part) =
    ap (map (λ part. length part)) grown
    ∙ map-append (λ part. length part) (file_parts front so_far.parts) (given_file one.value here.part) in
    let bytes : total (file_parts (front ++ one ∷ []) (so_far.parts ++ here.part ∷ []))
    ≡ total (file_parts front so_far.parts) + file_size one.value size =
    ap total grown ∙ total-append (file_parts front so_far.parts) (given_file one.value here.part)
    ∙ ap (λ n. total (file_parts front so_far.parts) + n)
    (total-given one.value here.part ∙ ap (file_size one.value) here.is_size) in
    let Q : List ℕ → Type 0 = λ ns. LastSizes (numbers_of position new) ns
    (map (λ part. length part) (file_parts (front ++ one ∷ []) (so_far.parts ++ here.part ∷ []))) in
    let R : List ℕ → Type 0 = λ ss. LastSizes (numbers_of position new) (file_numbers front ++ file_number one) ss in
    record {
      parts = so_far.parts ++ here.part ∷ [];
      each = all_zipped_more (IsPart (contents_of content first)) front so_far.parts one here.part so_far.each
          (subst P same here.is_part);
      is_size = ap (λ s. s ++ size ∷ []) so_far.is_size
          ∙ ap (λ n. map (λ part. length part) so_far.parts ++ n ∷ []) (sym here.is_size)
          ∙ sym (map_push (λ part. length part) so_far.parts here.part);
      spent = omega (arith, bytes, so_far.spent, here.few);
      last = subst Q (sym (numbers-push front one)) (subst R (sym lengths)
          (LastSizes-append position mid new (file_numbers front)
          (map (λ part. length part) (file_parts front so_far.parts))
          (file_number one) (map (λ part. length part) (given_file one.value here.part)) so_far.last others here.last));
      fed = FedParts-more old scan fed now so_far.parts here.part so_far.fed here.fed ends;
    }

-- ---- one entry after the other, as a loop gives them

grown-by : (entries : List Entry) (i : ℕ) (one : Entry) → one ≡ get_or entries i one → i < length entries
    → take (i + 1) entries ≡ take i entries ++ one ∷ []
grown-by entries i one at h = take_more entries i one h ∙ ap (λ e. take i entries ++ e ∷ []) (sym at)

split-at : (entries : List Entry) (i : ℕ) (one : Entry) → one ≡ get_or entries i one → i < length entries
    → entries ≡ take i entries ++ one ∷ drop (i + 1) entries
split-at entries i one at h =
    sym (take-append-drop i entries) ∙ ap (λ es. take i entries ++ es) (drop_more entries i one h)
    ∙ ap (λ e. take i entries ++ e ∷ drop (i + 1) entries) (sym at)

-- one more entry was read
pub SoFar-item : {B : Type 0} (content : B → Option (List ℕ)) (position : B → ℕ) (first mid new : List (Option B))
    (entries : List Entry)
    (i : ℕ) (one : Entry) (most left size : ℕ) (sizes : List ℕ) (old scan fed now : Scanned)
    {after : ℕ} {grown : List ℕ}
    → one ≡ get_or entries i one → i < length entries
    → SoFar (contents_of content first) (numbers_of position mid) (take i entries) most left sizes old scan
    → contents_of content mid ≡ contents_of content first
    → ((k : ℕ) → ¬ (Contains (given_number one.value) k) → at_number new k ≡ at_number mid k)
    → FedPart (contents_of content mid) (numbers_of position new) one.value left size scan fed
    → ((bounds ended : List (List ℕ)) (part : List ℕ) → StandsFor fed bounds ended part
    → StandsFor now bounds (ended ++ part ∷ []) [])
    → after ≡ left - file_size one.value size → grown ≡ sizes ++ size ∷ []
    → SoFar (contents_of content first) (numbers_of position new) (take (i + 1) entries) most after grown old now
SoFar-item content position first mid new entries i one most left size sizes old scan fed now at h so_far same others
    here ends after_is grows =
    let P : List Entry → Type 0 = λ es. SoFar (contents_of content first) (numbers_of position new) es most
    (left - file_size one.value size) (sizes ++ size ∷ []) old now in
    rw (after_is, grows) (subst P (sym (grown-by entries i one at h))
    (SoFar-push content position first mid new (take i entries) one most left size sizes old scan fed now so_far same
    others here ends))

-- what no entry so far names stays
pub others-item : {X : Type 0} (entries : List Entry) (i : ℕ) (one : Entry) (old mid new : List X)
    → one ≡ get_or entries i one → i < length entries
    → ((k : ℕ) → ¬ (Contains (file_numbers (take i entries)) k) → at_number mid k ≡ at_number old k)
    → ((k : ℕ) → ¬ (Contains (given_number one.value) k) → at_number new k ≡ at_number mid k)
    → (k : ℕ) → ¬ (Contains (file_numbers (take (i + 1) entries)) k) → at_number new k ≡ at_number old k
others-item entries i one old mid new at h so_far here k apart =
    let grown : file_numbers (take (i + 1) entries) ≡ file_numbers (take i entries) ++ file_number one =
    ap file_numbers (grown-by entries i one at h) ∙ numbers-push (take i entries) one in
    let P : List ℕ → Type 0 = λ ns. ¬ (Contains ns k) in
    let far = subst P grown apart in
    here k (λ named. far (Contains-append_right (file_numbers (take i entries)) (file_number one) k named))
    ∙ so_far k (λ named. far (Contains-append_left (file_numbers (take i entries)) (file_number one) k named))

-- the same, of all entries
pub others-whole : {X : Type 0} (entries : List Entry) (i : ℕ) (old new : List X)
    → ((k : ℕ) → ¬ (Contains (file_numbers (take i entries)) k) → at_number new k ≡ at_number old k)
    → (k : ℕ) → ¬ (Contains (file_numbers entries) k) → at_number new k ≡ at_number old k
others-whole entries i old new so_far k apart =
    let all : file_numbers (take i entries) ++ file_numbers (drop i entries) ≡ file_numbers entries =
    sym (numbers-append (take i entries) (drop i entries)) ∙ ap file_numbers (take-append-drop i entries) in
    let P : List ℕ → Type 0 = λ ns. Contains ns k in
    so_far k (λ named. apart (subst P all
    (Contains-append_left (file_numbers (take i entries)) (file_numbers (drop i entries)) k named)))

-- the files of the next entry are there
pub there-item : (contents mid_contents : List (Option (Option (List ℕ)))) (entries : List Entry) (i : ℕ) (one : Entry)
    → one ≡ get_or entries i one → i < length entries → mid_contents ≡ contents
    → All (λ number. IsThere contents number) (file_numbers entries)
    → All (λ number. IsThere mid_contents number) (given_number one.value)
there-item contents mid_contents entries i one at h same there =
    let front = file_numbers (take i entries) in
    let back = file_numbers (drop (i + 1) entries) in
    let P : List ℕ → Type 0 = λ ns. All (λ number. IsThere contents number) ns in
    let Q : List (Option (Option (List ℕ))) → Type 0 =
    λ cs. All (λ number. IsThere cs number) (given_number one.value) in
    let split : file_numbers entries ≡ front ++ (file_number one ++ back) =
    ap file_numbers (split-at entries i one at h) ∙ numbers-split (take i entries) one (drop (i + 1) entries) in
    let later : All (λ number. IsThere contents number) (file_number one ++ back) =
    subst P (drop_at front (file_number one ++ back) _ refl)
    (All-drop (λ number. IsThere contents number) (length front) (front ++ (file_number one ++ back))
    (subst P split there)) in
    subst Q (sym same)
    (subst P (take_at (file_number one) back _ refl)
    (All-take (λ number. IsThere contents number) (length (file_number one)) (file_number one ++ back) later))

-- the count of a file of the next entry rose
pub SomeRose-item : (entries : List Entry) (i : ℕ) (one : Entry) (first before now : List (Option ℕ))
    → one ≡ get_or entries i one → i < length entries
    → NoneFell first before → SomeRose (given_number one.value) before now → SomeRose (file_numbers entries) first now
SomeRose-item entries i one first before now at h fell rose =
    let front = file_numbers (take i entries) in
    let back = file_numbers (drop (i + 1) entries) in
    let split : file_numbers entries ≡ front ++ (file_number one ++ back) =
    ap file_numbers (split-at entries i one at h) ∙ numbers-split (take i entries) one (drop (i + 1) entries) in
    let P : List ℕ → Type 0 = λ ns. Contains ns rose.number in
    record {
      number = rose.number;
      named = subst P (sym split) (Contains-append_right front (file_number one ++ back) rose.number
          (Contains-append_left (file_number one) back rose.number rose.named));
      file = FileRose-later first before now rose.number fell rose.file;
    }

-- ---- the bytes that files tell

-- the parts of files are what these tell
pub part_told : (contents : List (Option (Option (List ℕ)))) (entries : List Entry) (parts : List (List ℕ))
    → AllZip (IsPart contents) entries parts
    → AllZip (λ number bytes. HasTold (told contents number) bytes) (file_numbers entries) (file_parts entries parts)
unfolding file_numbers file_parts
part_told contents [] [] each = tt
part_told contents [] (p ∷ parts) each = absurd each
part_told contents (e ∷ entries) [] each = absurd each
part_told contents (e ∷ entries) (p ∷ parts) each =
    AllZip-append (λ number bytes. HasTold (told contents number) bytes) (given_number e.value)
    (flat_map file_number entries) (given_file e.value p) (flat_map file_part (zip entries parts))
    (one e.value p each.0) (part_told contents entries parts each.1)
  where
    one : (value : Given) (part : List ℕ) → IsGivenPart contents value part
        → AllZip (λ number bytes. HasTold (told contents number) bytes) (given_number value) (given_file value part)
    one (Text text) part is = tt
    one (File None name) part is = tt
    one (File (Some number) name) part is = (is, tt)

sizes-within : (contents : List (Option (Option (List ℕ)))) (numbers : List ℕ) (files : List (List ℕ))
    → AllZip (λ number bytes. HasTold (told contents number) bytes) numbers files
    → AllZip (λ number size. IfSome (told contents number) (λ all. size ≤ length all)) numbers
    (map (λ bytes. length bytes) files)
sizes-within contents [] [] so_far = tt
sizes-within contents [] (b ∷ files) so_far = absurd so_far
sizes-within contents (n ∷ numbers) [] so_far = absurd so_far
sizes-within contents (n ∷ numbers) (b ∷ files) so_far =
    (within (told contents n) b so_far.0, sizes-within contents numbers files so_far.1)
  where
    within : (content : Option (List ℕ)) (bytes : List ℕ) → HasTold content bytes
        → IfSome content (λ all. length bytes ≤ length all)
    within None bytes h = tt
    within (Some all) bytes h = omega (arith, ap (λ b. length b) h)

total_is : (files : List (List ℕ)) → total files ≡ sum (map (λ part. length part) files)
unfolding total
total_is files = refl

-- the file of the next entry passes what is left
pub StopsPast-item : {B : Type 0} (content : B → Option (List ℕ)) (position : B → ℕ) (first mid new : List (Option B))
    (entries : List Entry)
    (i : ℕ) (one : Entry) (most left : ℕ) (sizes : List ℕ) (old scan : Scanned) → one ≡ get_or entries i one
    → i < length entries
    → SoFar (contents_of content first) (numbers_of position mid) (take i entries) most left sizes old scan
    → contents_of content mid ≡ contents_of content first
    → ((k : ℕ) → ¬ (Contains (file_numbers (take i entries)) k) → at_number mid k ≡ at_number first k)
    → ((k : ℕ) → ¬ (Contains (given_number one.value) k) → at_number new k ≡ at_number mid k)
    → FileLonger (contents_of content mid) (numbers_of position new) (given_number one.value) left
    → StopsPast (contents_of content first) (numbers_of position new) (file_numbers entries) most first new
StopsPast-item content position first mid new entries i one most left sizes old scan at h so_far same before others
    here =
    let front = take i entries in
    let back = drop (i + 1) entries in
    let files = file_parts front so_far.parts in
    let lengths = map (λ part. length part) files in
    let cs = contents_of content first in
    let W : ℕ → ℕ → Type 0 = λ number size. IfSome (told cs number) (λ all. size ≤ length all) in
    let S : List (Option (Option (List ℕ))) → Type 0 = λ c. IfSome (told c here.number) (λ all. left < length all) in
    let P : List ℕ → Type 0 = λ ns. AllZip W ns ((left + 1) ∷ []) in
    let Q : List ℕ → Type 0 = λ ns. LastSizes (numbers_of position new) ns ((left + 1) ∷ []) in
    let split : file_numbers entries ≡ file_numbers front ++ (file_number one ++ file_numbers back) =
    ap file_numbers (split-at entries i one at h) ∙ numbers-split front one back in
    let one_byte : sum (lengths ++ (left + 1) ∷ []) ≡ most + 1 =
    one_more_byte left (total files) most lengths so_far.spent (total_is files) in
    record {
      passes = record {
        front = file_numbers front ++ file_number one;
        rest = file_numbers back;
        sizes = lengths ++ (left + 1) ∷ [];
        is_front = split ∙ sym (append_assoc (file_numbers front) (file_number one) (file_numbers back));
        within = AllZip-append W (file_numbers front) (file_number one) lengths ((left + 1) ∷ [])
            (sizes-within cs (file_numbers front) files (part_told cs front so_far.parts so_far.each))
            (subst P (sym here.only) (longer left (told cs here.number) (subst S same here.longer), tt));
        last = LastSizes-append position mid new (file_numbers front) lengths (file_number one)
            ((left + 1) ∷ []) so_far.last others
            (subst Q (sym here.only) (LastSizes-one (numbers_of position new) here.number (left + 1) here.stands));
        past = omega (arith, one_byte);
      };
      one_byte = one_byte;
      others = λ k apart. others k
          (λ named. apart (Contains-append_right (file_numbers front) (file_number one) k named))
          ∙ before k (λ named. apart (Contains-append_left (file_numbers front) (file_number one) k named));
    }
  where
    longer : (left : ℕ) (content : Option (List ℕ)) → IfSome content (λ all. left < length all)
        → IfSome content (λ all. left + 1 ≤ length all)
    longer left None h = tt
    longer left (Some all) h = omega (arith, h)

    one_more_byte : (left all most : ℕ) (lengths : List ℕ) → left + all ≡ most → all ≡ sum lengths
        → sum (lengths ++ (left + 1) ∷ []) ≡ most + 1
    one_more_byte left all most lengths spent is =
        let e = sum-append lengths ((left + 1) ∷ []) in
        let f : sum ((left + 1) ∷ []) ≡ 0 + (left + 1) = refl in omega (arith, e, f, spent, is)

-- ---- the end

or_nothing : (b : Bool) → (b || false) ≡ b
or_nothing true = refl
or_nothing false = refl

-- a delimiter stands in no part without bytes
nothing_stands : (boundary : List ℕ) → has_delimiter [] boundary ≡ false
nothing_stands boundary = go (has_delimiter [] boundary) refl
  where
    go : (b : Bool) → has_delimiter [] boundary ≡ b → b ≡ false
    go true e = let o = Occurs-from [] boundary e in absurd (omega (arith, o.here.fits))
    go false e = refl

taken_more : (parts : List (List ℕ)) (boundary : List ℕ)
    → is_taken (parts ++ [] ∷ []) boundary ≡ is_taken parts boundary
unfolding is_taken
taken_more parts boundary =
    list_any-append (λ bytes. has_delimiter bytes boundary) parts ([] ∷ [])
    ∙ ap (λ t. list_any (λ bytes. has_delimiter bytes boundary) parts || (t || false)) (nothing_stands boundary)
    ∙ or_nothing (list_any (λ bytes. has_delimiter bytes boundary) parts)

-- so the open part changes nothing
pub first_free-ended : (bounds parts : List (List ℕ)) → first_free bounds (parts ++ [] ∷ []) ≡ first_free bounds parts
unfolding first_free
first_free-ended [] parts = refl
first_free-ended (boundary ∷ bounds) parts =
    position-cons (λ b. not (is_taken (parts ++ [] ∷ []) b)) boundary bounds
    ∙ ap (λ t. cond (not t) (Some 0) (option_map suc (position (λ b. not (is_taken (parts ++ [] ∷ []) b)) bounds)))
    (taken_more parts boundary)
    ∙ ap (λ rest. cond (not (is_taken parts boundary)) (Some 0) (option_map suc rest)) (first_free-ended bounds parts)
    ∙ sym (position-cons (λ b. not (is_taken parts b)) boundary bounds)

-- the parts and what is known of them
pub HasParts-whole : (contents : List (Option (Option (List ℕ)))) (positions : List (Option ℕ)) (entries : List Entry)
    (bounds : List (List ℕ))
    (most : ℕ) (sizes : List ℕ) (answer : Option ℕ) (old new : Scanned) → StandsFor old bounds [] []
    → FedEntries contents positions entries most sizes old new
    → ((bounds ended : List (List ℕ)) (part : List ℕ) → StandsFor new bounds ended part
    → answer ≡ first_free bounds (ended ++ part ∷ []))
    → HasParts contents positions entries bounds most (record { sizes = sizes; boundary = answer })
HasParts-whole contents positions entries bounds most sizes answer old new stood fed free = record {
  parts = fed.parts;
  each = fed.each;
  sizes = fed.is_size;
  boundary = free bounds fed.parts [] (fed.fed.stands bounds [] stood) ∙ first_free-ended bounds fed.parts;
  few = fed.few;
  last = fed.last;
}
