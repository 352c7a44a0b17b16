-- A file that is read and gathered piece by piece.
use Rattle.std.proofs.Common.{◌≡◌, ◌≢◌, ℕ, ◌+◌, ◌-◌, ◌<◌, ◌≤◌, List, [], ◌++◌, length, replicate, Some, None, IfSome, refl, sym, ap, subst, ◌∙◌, arith, append-nil, length-append}
use Rattle.std.specs.Prelude.{Option}
use Rattle.std.specs.Io.KnownBytes.{prepend_known, IsAtEnd}
use Rattle.std.proofs.lemmas.List.{length-replicate}
use Rattle.form_ports.specs.Ports.{left_from}
use Rattle.form_ports.proofs.Laws.{prepend_known-prepend}
use Rattle.form_ports.specs.Shelf.{HasTold}
use Rattle.form_submit.specs.Sending.{Gathered, Gathers, GathersPart, FileGathers, FilePart}
use Rattle.form_submit.proofs.GatherLaws.{Gathers-none, Gathers-more, GathersPart-more, GathersPart-whole, GathersPart-longer}

pub plus_same : (a b c d : ℕ) → a ≡ b → c ≡ d → a + c ≡ b + d
plus_same a b c d e f = omega (arith, e, f)

-- a front of the content was read and gathered
pub record Reading (content left written now : Option (List ℕ)) (kept between : Gathered) (done : ℕ) : Type 0 where
  pub bytes : List ℕ
  pub is_front : content ≡ prepend_known bytes left
  pub size : length bytes ≡ done
  pub gathers : Gathers written now kept bytes between

prepend_known-none : (content : Option (List ℕ)) → content ≡ prepend_known [] (left_from 0 content)
prepend_known-none None = refl
prepend_known-none (Some all) = refl

-- nothing was read yet
pub Reading-start : (content written : Option (List ℕ)) (kept : Gathered) (position : ℕ) → position ≡ 0
    → Reading content (left_from position content) written written kept kept 0
Reading-start content written kept position start = record {
  bytes = [];
  is_front = prepend_known-none content ∙ ap (λ p. prepend_known [] (left_from p content)) (sym start);
  size = refl;
  gathers = Gathers-none written kept;
}

-- the same content, named otherwise
pub Reading-of : (old content left written now : Option (List ℕ)) (kept between : Gathered) (done : ℕ) → content ≡ old
    → Reading content left written now kept between done → Reading old left written now kept between done
Reading-of old content left written now kept between done same so_far =
    let P : Option (List ℕ) → Type 0 = λ c. Reading c left written now kept between done in subst P same so_far

-- more was read and gathered
pub Reading-more : (content mid left written now after : Option (List ℕ)) (kept between last : Gathered) (more : List ℕ) (done count : ℕ)
    → Reading content mid written now kept between done → mid ≡ prepend_known more left → Gathers now after between more last
    → length more ≡ count → Reading content left written after kept last (done + count)
Reading-more content mid left written now after kept between last more done count so_far here gathers size = record {
  bytes = so_far.bytes ++ more;
  is_front = so_far.is_front ∙ ap (prepend_known so_far.bytes) here ∙ prepend_known-prepend so_far.bytes more left;
  size = omega (arith, length-append so_far.bytes more, so_far.size, size);
  gathers = Gathers-more written now after kept between last so_far.bytes more so_far.gathers gathers;
}

-- the end was seen: nothing more was read
pub Reading-seen : (content mid left written now : Option (List ℕ)) (kept between : Gathered) (done : ℕ)
    → Reading content mid written now kept between done → mid ≡ prepend_known [] left → Reading content left written now kept between done
Reading-seen content mid left written now kept between done so_far here = record {
  bytes = so_far.bytes;
  is_front = so_far.is_front ∙ ap (prepend_known so_far.bytes) here ∙ prepend_known-prepend so_far.bytes [] left
      ∙ ap (λ b. prepend_known b left) (append-nil so_far.bytes);
  size = so_far.size;
  gathers = so_far.gathers;
}

-- what was read is a front of bytes that the file may have
may_have : (content left : Option (List ℕ)) (bytes : List ℕ) (size : ℕ) → content ≡ prepend_known bytes left
    → IfSome content (λ all. length all ≡ size) → length bytes ≤ size
    → (more : List ℕ) × HasTold content (bytes ++ more) × (length (bytes ++ more) ≡ size)
may_have content None bytes size front told fits =
    let P : Option (List ℕ) → Type 0 = λ c. HasTold c (bytes ++ replicate (size - length bytes) 0) in
    let zero : ℕ = 0 in
    let zeros = replicate (size - length bytes) zero in
    (zeros, subst P (sym front) tt, omega (arith, fits, length-append bytes zeros, length-replicate (size - length bytes) zero))
may_have content (Some rest) bytes size front told fits =
    let P : Option (List ℕ) → Type 0 = λ c. HasTold c (bytes ++ rest) in
    let Q : Option (List ℕ) → Type 0 = λ c. IfSome c (λ all. length all ≡ size) in
    (rest, subst P (sym front) refl, subst Q front told)

-- a part of the lines of such a file was printed
pub FilePart-now : (content left written now : Option (List ℕ)) (kept between : Gathered) (done size : ℕ)
    → Reading content left written now kept between done → IfSome content (λ all. length all ≡ size) → done ≤ size
    → FilePart content size written now kept
FilePart-now content left written now kept between done size so_far told fits =
    let more = may_have content left so_far.bytes size so_far.is_front told (omega (arith, so_far.size, fits)) in
    record {
      bytes = so_far.bytes ++ more.0;
      is_told = more.1;
      is_size = more.2;
      gathers = GathersPart-longer written now kept so_far.bytes more.0 (GathersPart-whole written now kept between so_far.bytes so_far.gathers);
    }

-- a part of the next lines
pub FilePart-more : (content mid left written now after : Option (List ℕ)) (kept between : Gathered) (more : List ℕ) (done size : ℕ)
    → Reading content mid written now kept between done → mid ≡ prepend_known more left → GathersPart now after between more
    → IfSome content (λ all. length all ≡ size) → done + length more ≤ size → FilePart content size written after kept
FilePart-more content mid left written now after kept between more done size so_far here part told fits =
    let front = so_far.is_front ∙ ap (prepend_known so_far.bytes) here ∙ prepend_known-prepend so_far.bytes more left in
    let rest = may_have content left (so_far.bytes ++ more) size front told (omega (arith, so_far.size, fits, length-append so_far.bytes more)) in
    record {
      bytes = (so_far.bytes ++ more) ++ rest.0;
      is_told = rest.1;
      is_size = rest.2;
      gathers = GathersPart-longer written after kept (so_far.bytes ++ more) rest.0
          (GathersPart-more written now after kept between so_far.bytes more so_far.gathers part);
    }

at_end : (content left : Option (List ℕ)) (bytes : List ℕ) → content ≡ prepend_known bytes left → IsAtEnd left → HasTold content bytes
at_end content None bytes front end = let P : Option (List ℕ) → Type 0 = λ c. HasTold c bytes in subst P (sym front) tt
at_end content (Some rest) bytes front end =
    let P : Option (List ℕ) → Type 0 = λ c. HasTold c bytes in
    subst P (sym front) (sym (ap (λ r. bytes ++ r) end ∙ append-nil bytes))

-- the whole file was gathered
pub FileGathers-end : (content left written now : Option (List ℕ)) (kept between : Gathered) (size : ℕ)
    → Reading content left written now kept between size → IsAtEnd left → FileGathers content size written now kept between
FileGathers-end content left written now kept between size so_far end = record {
  bytes = so_far.bytes;
  is_told = at_end content left so_far.bytes so_far.is_front end;
  is_size = so_far.size;
  gathers = so_far.gathers;
}

not_told : (content : Option (List ℕ)) (bytes : List ℕ) (size : ℕ) → HasTold content bytes → IfSome content (λ all. length all ≡ size)
    → length bytes ≢ size → content ≡ None
not_told None bytes size is told other = refl
not_told (Some all) bytes size is told other = absurd (other (ap (λ b. length b) is ∙ told))

-- a file that ends before its size tells nothing
pub untold-short : (content left written now : Option (List ℕ)) (kept between : Gathered) (done size : ℕ)
    → Reading content left written now kept between done → IsAtEnd left → IfSome content (λ all. length all ≡ size) → done < size
    → content ≡ None
untold-short content left written now kept between done size so_far end told short =
    not_told content so_far.bytes size (at_end content left so_far.bytes so_far.is_front end) told (λ e. omega (arith, so_far.size, e, short))

longer : (content left : Option (List ℕ)) (bytes : List ℕ) (size : ℕ) → content ≡ prepend_known bytes left → size < length bytes
    → IfSome content (λ all. length all ≡ size) → content ≡ None
longer content None bytes size front long told = front
longer content (Some rest) bytes size front long told =
    let Q : Option (List ℕ) → Type 0 = λ c. IfSome c (λ all. length all ≡ size) in
    let e : length (bytes ++ rest) ≡ size = subst Q front told in
    absurd (omega (arith, e, long, length-append bytes rest))

-- a file that gives more than its size tells nothing
pub untold-long : (content mid left written now : Option (List ℕ)) (kept between : Gathered) (more : List ℕ) (size : ℕ)
    → Reading content mid written now kept between size → mid ≡ prepend_known more left → 0 < length more
    → IfSome content (λ all. length all ≡ size) → content ≡ None
untold-long content mid left written now kept between more size so_far here some told =
    longer content left (so_far.bytes ++ more) size
    (so_far.is_front ∙ ap (prepend_known so_far.bytes) here ∙ prepend_known-prepend so_far.bytes more left)
    (omega (arith, so_far.size, some, length-append so_far.bytes more)) told
