use Rattle.std.proofs.Common.{◌≡◌, ◌+◌, ◌≤◌, sum_by, chars, length, take}
use Rattle.std.specs.Str.Iter.{chars_rest}
use Rattle.form_text.specs.Utf16.{code_units}
use Rattle.form_text.proofs.utf16.utf16_len.Given as goal

abbrev pub invariant-loop-c : goal.invariant-loop-c
invariant-loop-c l = record {
  in_bytes : l.units + length (chars_rest l.c-iterator) ≤ length l.text;
  front : l.units ≡ sum_by code_units (take (length l.yielded) (chars l.text));
}
