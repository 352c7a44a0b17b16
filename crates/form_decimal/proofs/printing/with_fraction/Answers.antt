use Rattle.std.proofs.Common.{◌≡◌, ◌++◌, [], ◌∷◌, ap, sym, ◌∙◌, arith, append-nil, append_assoc, refl, string_bytes}
use Rattle.form_decimal.specs.Numeral.{point_text}
use Rattle.form_decimal.specs.Printed.{fraction_digits, fraction_of}
use Rattle.form_decimal.proofs.PrintLemmas.{digits_end, digits_some}
use Rattle.form_decimal.proofs.printing.with_fraction.Goals as goal

pub returns-then-fraction-eq0 : goal.returns-then-fraction-eq0
returns-then-fraction-eq0 c = rw (digits_end 12 c.args.fraction (omega arith)) (sym (append-nil (string_bytes c.args.text)))

pub returns : goal.returns
returns c =
    let point : string_bytes c.push.new.self ≡ string_bytes c.args.text ++ (46 ∷ []) = c.in_ok-push.ensures.bytes ∙ ap (λ x. string_bytes c.args.text ++ x) (c.push.ensures.ascii (omega arith)) in
    let all : string_bytes c.args.text ++ point_text (fraction_of (fraction_digits 12 c.args.fraction)) ≡ string_bytes c.push.new.self ++ fraction_digits 12 c.args.fraction =
    rw (digits_some 12 c.args.fraction (omega arith) (omega arith), point, append_assoc) refl in
    rw all c.with_digits.ensures
