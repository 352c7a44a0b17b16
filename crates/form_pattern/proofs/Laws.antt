-- The laws that other crates build on, under names that stay.
use Rattle.std.proofs.Common.{◌≡◌, ℕ, true, List}
use lib.Utf8.{scalars}
use Rattle.form_pattern.specs.Pattern.{Pattern}
use Rattle.form_pattern.specs.Grammar.{IsPattern}
use Rattle.form_pattern.specs.Compiled.{Compiles, MatchesWhole}
use Rattle.form_pattern.specs.Likeness.{Known}
use Rattle.form_pattern.specs.Deciding.{does_compile, does_match}
use Rattle.form_pattern.proofs.WholeLemmas as whole
use Rattle.form_pattern.proofs.DecidingLemmas as deciding

-- a text spells one pattern at most
pub one_pattern : (text : List ℕ) (p q : Pattern) → IsPattern text p → IsPattern text q → p ≡ q
one_pattern = whole.one_pattern

-- the truth value of a text that compiles
pub compile_found : (text : List ℕ) → does_compile text ≡ true → Compiles text
compile_found = deciding.compile_found

-- and back
pub compile_again : (text : List ℕ) → Compiles text → does_compile text ≡ true
compile_again = deciding.compile_again

-- a text that matches a value compiles
pub match_compiles : (text value : List ℕ) → does_match text value ≡ true → Compiles text
match_compiles = deciding.match_compiles

-- a text that matches a value, as a truth value, has a pattern that matches the whole value
pub match_found : (text value : List ℕ) → Known value → does_match text value ≡ true → MatchesWhole text value
match_found text value known h = (deciding.match_tells text value known (deciding.match_compiles text value h)).0 h

-- and back, for a text that compiles
pub match_again : (text value : List ℕ) → Known value → Compiles text → MatchesWhole text value → does_match text value ≡ true
match_again text value known c m = (deciding.match_tells text value known c).1 m

-- the characters of a text are known
pub known_chars : (cs : List ℕ) → scalars cs ≡ true → Known cs
known_chars = whole.known_chars
