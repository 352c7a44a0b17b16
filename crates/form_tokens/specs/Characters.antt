-- Characters as they are written, and references, decoded.
use Rattle.std.specs.Char.{encode_utf8}
use Rattle.std.specs.Prelude.{Bool, Err, List, Ok, Result, [], codes, drop, false, if◌then◌else◌, length, nat_lt, not, suc, take, true, ℕ, ◌&&◌, ◌++◌, ◌==◌, ◌||◌, ◌≡◌, ◌∷◌}
use Rattle.std.specs.Str.{str_eq_ignore_ascii_case}
use Rattle.form_tokens.specs.Bytes.{ampersand, greater_than, less_than, solidus}
use Rattle.form_tokens.specs.Readers.{many, ◌>>=◌}
use Rattle.form_tokens.specs.References.{begins_reference, reference_at}
use Rattle.form_tokens.specs.Runs.{begins, begins_so, behind, is_space}
use Rattle.form_tokens.specs.declared.chunk.Chunk.TheVariants as chunks
use Rattle.form_tokens.specs.declared.chunk.Chunk.{Chunk}
use Rattle.form_tokens.specs.declared.chunk.Context.TheVariants as contexts
use Rattle.form_tokens.specs.declared.chunk.Context.{Context}
use Rattle.form_tokens.specs.declared.fault.Fault.TheVariants.{Lexical}
use Rattle.form_tokens.specs.declared.fault.Fault.{Fault}
use Rattle.form_tokens.specs.declared.fault.Halt.{Halt}
use Rattle.form_tokens.specs.declared.fault.Stop.TheVariants as stops
use Rattle.form_tokens.specs.declared.fault.Stop.{Stop}

-- whitespace, `/` or `>`
abbrev pub ends_name : ℕ → Bool
ends_name b = is_space b || ((b == solidus) || (b == greater_than))

-- the text begins the end tag of a textarea, or at least seems to
unfoldable pub closes_textarea : List ℕ → Bool
closes_textarea text =
    str_eq_ignore_ascii_case (take 10 text) (codes "</textarea")
    && begins_so ends_name (drop 10 text)

-- the `<` at the front is a character
abbrev pub is_shown_angle : Context → List ℕ → Bool
is_shown_angle contexts.Content text = false
is_shown_angle contexts.Textarea text = not (closes_textarea text)
is_shown_angle contexts.Value text = true

-- the text begins with a character that is no reference: any but U+0000, `<` as the context has it, and `&` where it
-- begins no reference
abbrev pub begins_shown : Context → List ℕ → Bool
begins_shown place [] = false
begins_shown place (b ∷ bs) =
    if b == ampersand then not (begins_reference bs)
    else (if b == less_than then is_shown_angle place (b ∷ bs) else not (b == 0))

-- how many bytes of such characters stand at the front
abbrev pub shown_len : Context → List ℕ → ℕ
shown_len place [] = 0
shown_len place (b ∷ bs) = if begins_shown place (b ∷ bs) then suc (shown_len place bs) else 0

-- as many characters as there are, and at least one
unfoldable pub shown_at : Context → List ℕ → Result (List ℕ × List ℕ) Fault
shown_at place text =
    if nat_lt 0 (shown_len place text) then Ok (take (shown_len place text) text, drop (shown_len place text) text)
    else Err Lexical

-- the text begins with a `&` that must be a reference
abbrev pub is_reference : List ℕ → Bool
is_reference [] = false
is_reference (b ∷ bs) = (b == ampersand) && begins_reference bs

-- characters, or a reference, decoded
unfoldable pub chunk_at : Context → List ℕ → Result (List ℕ × List ℕ) Fault
chunk_at place text =
    if is_reference text then (behind ampersand text >>= reference_at >>= λ x. Ok (encode_utf8 x.0, x.1))
    else shown_at place text

abbrev pub is_some_text : List ℕ → Bool
is_some_text text = nat_lt 0 (length text)

abbrev pub joined : List (List ℕ) → List ℕ
joined [] = []
joined (x ∷ xs) = x ++ joined xs

-- the value of an attribute, decoded; a bad reference is a fault
unfoldable pub decoded : List ℕ → Result (List ℕ) Fault
decoded text = many (chunk_at contexts.Value) is_some_text (length text) text >>= λ x. Ok (joined x.0)

-- there are more characters: up to the next tag, to the end tag of the textarea, or to the end of the value
abbrev pub goes_on : Context → List ℕ → Bool
goes_on contexts.Content text = is_some_text text && not (begins less_than text)
goes_on contexts.Textarea text = is_some_text text && not (closes_textarea text)
goes_on contexts.Value text = is_some_text text

-- The chunks stand one after another at the front of the text, and the rest behind them.
abbrev pub AreChunks : Context → List (List ℕ) → List ℕ → List ℕ → Type 0
AreChunks place [] text rest = text ≡ rest
AreChunks place (chunk ∷ chunks) text rest =
    (between : List ℕ) × (goes_on place text ≡ true) × (chunk_at place text ≡ Ok (chunk, between))
    × AreChunks place chunks between rest

-- All characters and references at the front of the text are read, and the rest stands behind them.
abbrev pub IsReadTo : Context → List (List ℕ) → List ℕ → List ℕ → Type 0
IsReadTo place chunks text rest = AreChunks place chunks text rest × (goes_on place rest ≡ false)

-- Behind some chunks, with so many bytes left, there is a fault; of memory nothing is said.
abbrev pub HaltsAt : Context → List ℕ → ℕ → Stop → Type 0
HaltsAt place text left stops.Memory = Unit {0}
HaltsAt place text left (stops.At kind) =
    (chunks : List (List ℕ)) × (rest : List ℕ) × AreChunks place chunks text rest × (goes_on place rest ≡ true)
    × (left ≡ length rest) × (chunk_at place rest ≡ Err kind)

-- Reading halted there.
abbrev pub HaltsIn : Context → List ℕ → Halt → Type 0
HaltsIn place text halt = HaltsAt place text halt.left halt.stop

abbrev pub chunk_of : Chunk → List ℕ
chunk_of (chunks.Run text) = text.now
chunk_of (chunks.Character c) = encode_utf8 c
