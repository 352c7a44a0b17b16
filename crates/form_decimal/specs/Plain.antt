-- A numeral without where it lies in memory.
use Rattle.std.specs.Prelude.{option_map}
use Rattle.form_decimal.specs.declared.spelling.Spelled.{Spelled}
use Rattle.form_decimal.specs.declared.spelling.Power.{Power}
use Rattle.form_decimal.specs.Numeral.{Numeral, Exponent}

abbrev pub plain_power : Power → Exponent
plain_power p = record { capital = p.capital; sign = p.sign; digits = p.digits.now }

abbrev pub plain : Spelled → Numeral
plain s = record {
  sign = s.sign;
  whole = s.whole.now;
  fraction = option_map (λ d. d.now) s.fraction;
  exponent = option_map plain_power s.exponent;
}
