-- The laws that each kind of valid strings has, and what follows from them for reading and printing.
use Rattle.std.proofs.Common.{◌≡◌, ℕ, ◌^◌, ◌≤◌, List, length, Option, Some, None, Result, Ok, Err, IfOk, IfSome, IfNone, String, string_bytes, ap, sym, ◌∙◌, arith, ℤ, unsigned_abs}
use Rattle.std.specs.Prelude.{option_map}
use Rattle.std.proofs.lemmas.Option.{same_Some, none-some}
use Rattle.form_calendar.specs.Shortest.{IsShortest}

-- Which texts are valid and have which number, which text stands for a number, the number that is
-- read of a text, and the text that is written for a number.
pub record StringLaws (IsValid IsBest : List ℕ → ℤ → Type 0) (read : List ℕ → Option ℤ) (write : ℤ → Option (List ℕ)) : Type 0 where
  pub found : (text : List ℕ) (n : ℤ) → read text ≡ Some n → IsValid text n
  pub again : (text : List ℕ) (n : ℤ) → IsValid text n → read text ≡ Some n
  pub best : (n : ℤ) (text : List ℕ) → write n ≡ Some text → IsBest text n
  pub back : (n : ℤ) (text : List ℕ) → write n ≡ Some text → read text ≡ Some n
  pub there : (text : List ℕ) (n : ℤ) → IsValid text n → (best : List ℕ) × (write n ≡ Some best)

-- where a number has one valid text, that is the shortest
pub one_text : (IsValid : List ℕ → ℤ → Type 0) (read : List ℕ → Option ℤ) (write : ℤ → Option (List ℕ)) → ((text : List ℕ) (n : ℤ) → read text ≡ Some n → IsValid text n) → ((text : List ℕ) (n : ℤ) → IsValid text n → read text ≡ Some n) → ((n : ℤ) (text : List ℕ) → write n ≡ Some text → IsValid text n) → ((text : List ℕ) (n : ℤ) → IsValid text n → write n ≡ Some text) → StringLaws IsValid (IsShortest IsValid) read write
one_text IsValid read write found again valid only = record {
  found = found;
  again = again;
  best = λ n text e. record {
    valid = valid n text e;
    shortest = λ other v. let same = same_Some text other (sym e ∙ only other n v) in omega (arith, ap length same);
  };
  back = λ n text e. again text n (valid n text e);
  there = λ text n v. (text, only text n v);
}

-- what is read is the number of a valid text, and each valid text is read
pub read_found : {IsValid IsBest : List ℕ → ℤ → Type 0} {read : List ℕ → Option ℤ} {write : ℤ → Option (List ℕ)} → StringLaws IsValid IsBest read write → (text : List ℕ) (o : Option ℤ) → o ≡ read text → IfSome o (IsValid text)
read_found laws text (Some n) e = laws.found text n (sym e)
read_found laws text None e = tt

pub read_bound : {IsValid IsBest : List ℕ → ℤ → Type 0} {read : List ℕ → Option ℤ} {write : ℤ → Option (List ℕ)} → StringLaws IsValid IsBest read write → ((text : List ℕ) (n : ℤ) → IsValid text n → unsigned_abs n ≤ 10 ^ 15) → (text : List ℕ) (o : Option ℤ) → o ≡ read text → IfSome o (λ n. unsigned_abs n ≤ 10 ^ 15)
read_bound laws small text (Some n) e = small text n (laws.found text n (sym e))
read_bound laws small text None e = tt

-- what is printed stands for the number
pub printed_best : {A E : Type 0} {IsValid IsBest : List ℕ → ℤ → Type 0} {read : List ℕ → Option ℤ} {write : ℤ → Option (List ℕ)} → StringLaws IsValid IsBest read write → (r : Result (Option (String A)) E) (n : ℤ) → IfOk r (λ p. option_map string_bytes p ≡ write n) → IfOk r (λ p. IfSome p (λ s. IsBest (string_bytes s) n))
printed_best laws (Err e) n h = tt
printed_best laws (Ok None) n h = tt
printed_best laws (Ok (Some s)) n h = laws.best n (string_bytes s) (sym h)

-- and where nothing is printed no valid text has the number
pub printed_none : {A E : Type 0} {IsValid IsBest : List ℕ → ℤ → Type 0} {read : List ℕ → Option ℤ} {write : ℤ → Option (List ℕ)} → StringLaws IsValid IsBest read write → (r : Result (Option (String A)) E) (n : ℤ) → IfOk r (λ p. option_map string_bytes p ≡ write n) → IfOk r (λ p. IfNone p ((text : List ℕ) → IsValid text n → ⊥))
printed_none laws (Err e) n h = tt
printed_none laws (Ok None) n h = λ text v. let best = laws.there text n v in none-some best.0 (h ∙ best.1)
printed_none laws (Ok (Some s)) n h = tt
