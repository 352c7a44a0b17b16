-- What the code knows of the text ahead, and what it takes of it at once; no part of what a text says.
use Rattle.std.specs.Prelude.{Bool, List, Ok, [], drop, not, suc, take, true, zero, ℕ, ◌&&◌, ◌==◌, ◌||◌, ◌<◌, ◌≡◌, ◌≤◌, ◌⊎◌, ◌∷◌}
use Rattle.form_tokens.specs.Bytes.{ampersand}
use Rattle.form_tokens.specs.Characters.{begins_shown, chunk_at, goes_on, shown_len}
use Rattle.form_tokens.specs.Runs.{begins}
use Rattle.form_tokens.specs.declared.chunk.Context.{Context}

-- so many bytes stand at the front that are characters, or `&`
abbrev pub IsClear : Context → ℕ → List ℕ → Type 0
IsClear place zero text = Unit {0}
IsClear place (suc n) [] = ⊥
IsClear place (suc n) (b ∷ bs) = ((b == ampersand || begins_shown place (b ∷ bs)) ≡ true) × IsClear place n bs

-- a run of characters ends here: before what is no character, and before a `&` unless one that begins no reference is
-- passed
abbrev pub ends_run : Bool → Context → List ℕ → Bool
ends_run passes place text = (not passes && begins ampersand text) || not (begins_shown place text)

-- These bytes stand at the front, and the rest behind them: some of the characters there, or the one of a reference.
abbrev pub IsPart : Context → List ℕ → List ℕ → List ℕ → Type 0
IsPart place text bytes rest =
    ((k : ℕ) × (0 < k) × (k ≤ shown_len place text) × (bytes ≡ take k text) × (rest ≡ drop k text))
    ⊎ (chunk_at place text ≡ Ok (bytes, rest))

-- The parts stand one after another at the front of the text, and the rest behind them.
abbrev pub AreParts : Context → List (List ℕ) → List ℕ → List ℕ → Type 0
AreParts place [] text rest = text ≡ rest
AreParts place (part ∷ parts) text rest =
    (between : List ℕ) × (goes_on place text ≡ true) × IsPart place text part between
    × AreParts place parts between rest

-- a byte that is no plain character: a `&`, or U+0000
abbrev pub ends_plain : ℕ → Bool
ends_plain b = b == ampersand || (b == 0)
