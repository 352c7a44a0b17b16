-- A page of four controls, one of each kind, and what is written behind its run.
use Rattle.std.proofs.Common.{◌≡◌, [], ◌∷◌, codes, length, take, drop, refl, lit<}
use Rattle.std.specs.Fmt.{decimal}
use Rattle.std.proofs.lemmas.Fmt.{decimal_digit, decimal-digits_of}
use Rattle.form_generator.specs.Counts.{counts_text}
use Rattle.form_generator.specs.Generator.{generated_lines, generated_page, tag_at}

naught : decimal 0 ≡ codes "0"
naught = decimal_digit 0 (lit< tt)

one : decimal 1 ≡ codes "1"
one = decimal_digit 1 (lit< tt)

two : decimal 2 ≡ codes "2"
two = decimal_digit 2 (lit< tt)

three : decimal 3 ≡ codes "3"
three = decimal_digit 3 (lit< tt)

four : decimal 4 ≡ codes "4"
four = decimal_digit 4 (lit< tt)

thirty : decimal 30 ≡ codes "30"
thirty = decimal-digits_of 30 (lit< tt) (lit< tt)

forty : decimal 40 ≡ codes "40"
forty = decimal-digits_of 40 (lit< tt) (lit< tt)

many : decimal 125 ≡ codes "125"
many = decimal-digits_of 125 (lit< tt) (lit< tt)

page_of_four : generated_page 4 ≡ codes "<form><input name=\"c1\" required maxlength=\"3\"><input type=\"number\" name=\"c2\" min=\"0\" max=\"9\"><input type=\"checkbox\" name=\"c3\" required><input type=\"radio\" name=\"g0\" required></form>"
unfolding generated_page
page_of_four = simp (one, two, three, naught)

-- ten commands on each control
lines_of_four : length (generated_lines 4) ≡ 40
unfolding generated_lines
lines_of_four = refl

-- the commands on the third, whose key is 4
lines_of_third : take 10 (drop 20 (generated_lines 4)) ≡ codes "user @4 \"a\"" ∷ codes "set @4 \"12\"" ∷ codes "attr @4 required \"\"" ∷ codes "check @4" ∷ codes "attr @4 type \"date\"" ∷ codes "set @4 \"2024-02-29\"" ∷ codes "attr @4 min \"2024-03-01\"" ∷ codes "unattr @4 min" ∷ codes "attr @4 type \"checkbox\"" ∷ codes "set @4 \"\"" ∷ []
unfolding generated_lines
lines_of_third = simp four

-- radio buttons up to the thirty-ninth control have one name, and those from the fortieth on another
group_of_36 : tag_at 36 ≡ codes "<input type=\"radio\" name=\"g0\" required>"
group_of_36 = simp naught

group_of_40 : tag_at 40 ≡ codes "<input type=\"radio\" name=\"g1\" required>"
group_of_40 = simp one

group_of_most : tag_at 5000 ≡ codes "<input type=\"radio\" name=\"g125\" required>"
group_of_most = simp many

counts_of_four : counts_text 4 40 4 30 2 ≡ codes "controls 4\ncommands 40\nrefused 4\nchanges 30\ninvalid 2\n"
unfolding counts_text
counts_of_four = simp (four, forty, thirty, two)
