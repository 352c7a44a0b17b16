use Rattle.std.proofs.Common.{◌≡◌, ◌-◌, ◌++◌, [], ◌∷◌, ap, sym, ◌∙◌, arith, append-nil, append_assoc, string_bytes}
use Rattle.form_decimal.proofs.PrintLemmas.{digits_end, digits_out, digits_more}
use Rattle.form_decimal.proofs.printing.with_digits.Goals as goal

pub returns-then-rest-eq0 : goal.returns-then-rest-eq0
returns-then-rest-eq0 c =
    let e = digits_end (12 - c.loop-place.place) c.loop-place.rest (omega arith) in
    sym (append-nil (string_bytes c.loop-place.out)) ∙ ap (λ x. string_bytes c.loop-place.out ++ x) (sym e) ∙ c.loop-place.invariant.bytes

pub loop-place-preserved : goal.loop-place-preserved
loop-place-preserved c = record {
  bytes =
      let one : string_bytes c.push.new.self ≡ string_bytes c.loop-place.out ++ (c.next_digit.result ∷ []) =
      c.in_ok-push.ensures.bytes ∙ ap (λ x. string_bytes c.loop-place.out ++ x) (c.push.ensures.ascii (omega (arith, c.next_digit.ensures.ascii))) in
      let more = digits_more 12 c.loop-place.place c.loop-place.rest (omega arith) (omega arith) in
      rw (one, append_assoc, c.next_digit.ensures.value, ← more) c.loop-place.invariant.bytes;
  below = omega arith;
}

pub returns : goal.returns
returns c =
    let e = digits_out (12 - c.loop-place.place) c.loop-place.rest (omega arith) in
    sym (append-nil (string_bytes c.loop-place.out)) ∙ ap (λ x. string_bytes c.loop-place.out ++ x) (sym e) ∙ c.loop-place.invariant.bytes
