-- A file that is read piece by piece, whatever is made of the pieces.
use Rattle.std.proofs.Common.{◌≡◌, ℕ, ◌+◌, ◌<◌, List, [], ◌++◌, length, Some, None, IfSome, refl, sym, ap, subst, ◌∙◌, arith, append-nil, length-append}
use Rattle.std.specs.Prelude.{Option}
use Rattle.std.specs.Io.KnownBytes.{prepend_known, IsAtEnd}
use Rattle.form_ports.specs.Ports.{left_from}
use Rattle.form_ports.specs.Shelf.{HasTold}
use Rattle.form_ports.proofs.WrittenLaws.{prepend_known-prepend}

-- a front of the content was read, of which this holds
pub record Reading (R : List ℕ → Type 0) (content left : Option (List ℕ)) (done : ℕ) : Type 0 where
  pub bytes : List ℕ
  pub is_front : content ≡ prepend_known bytes left
  pub size : length bytes ≡ done
  pub holds : R bytes

prepend_known-none : (content : Option (List ℕ)) → content ≡ prepend_known [] (left_from 0 content)
prepend_known-none None = refl
prepend_known-none (Some all) = refl

-- nothing was read yet
pub Reading-start : (R : List ℕ → Type 0) (content : Option (List ℕ)) (position : ℕ) → position ≡ 0 → R []
    → Reading R content (left_from position content) 0
Reading-start R content position start holds = record {
  bytes = [];
  is_front = prepend_known-none content ∙ ap (λ p. prepend_known [] (left_from p content)) (sym start);
  size = refl;
  holds = holds;
}

-- the same content, named otherwise
pub Reading-of : (R : List ℕ → Type 0) (old content left : Option (List ℕ)) (done : ℕ) → content ≡ old
    → Reading R content left done → Reading R old left done
Reading-of R old content left done same so_far =
    let P : Option (List ℕ) → Type 0 = λ c. Reading R c left done in subst P same so_far

-- more was read
pub Reading-more : (R S : List ℕ → Type 0) (content mid left : Option (List ℕ)) (more : List ℕ) (done count : ℕ)
    → Reading R content mid done → mid ≡ prepend_known more left → length more ≡ count
    → ((bytes : List ℕ) → R bytes → S (bytes ++ more)) → Reading S content left (done + count)
Reading-more R S content mid left more done count so_far here size grows = record {
  bytes = so_far.bytes ++ more;
  is_front = so_far.is_front ∙ ap (prepend_known so_far.bytes) here ∙ prepend_known-prepend so_far.bytes more left;
  size = omega (arith, length-append so_far.bytes more, so_far.size, size);
  holds = grows so_far.bytes so_far.holds;
}

-- at the end all was read
pub Reading-end : (R : List ℕ → Type 0) (content left : Option (List ℕ)) (done : ℕ) (reading : Reading R content left done)
    → IsAtEnd left → HasTold content reading.bytes
Reading-end R content None done reading end =
    let P : Option (List ℕ) → Type 0 = λ c. HasTold c reading.bytes in subst P (sym reading.is_front) tt
Reading-end R content (Some rest) done reading end =
    let P : Option (List ℕ) → Type 0 = λ c. HasTold c reading.bytes in
    subst P (sym reading.is_front) (sym (ap (λ r. reading.bytes ++ r) end ∙ append-nil reading.bytes))

-- the content is no shorter than what was read
pub Reading-longer : (R : List ℕ → Type 0) (content left : Option (List ℕ)) (done most : ℕ) → Reading R content left done
    → most < done → IfSome content (λ all. most < length all)
Reading-longer R content None done most reading past =
    let P : Option (List ℕ) → Type 0 = λ c. IfSome c (λ all. most < length all) in subst P (sym reading.is_front) tt
Reading-longer R content (Some rest) done most reading past =
    let P : Option (List ℕ) → Type 0 = λ c. IfSome c (λ all. most < length all) in
    subst P (sym reading.is_front) (omega (arith, past, reading.size, length-append reading.bytes rest))
