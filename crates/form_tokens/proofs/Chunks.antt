-- Chunks that stand one after another.
use Rattle.std.proofs.Common.{◌≡◌, ℕ, ◌<◌, List, [], ◌∷◌, ◌++◌, Result, Ok, true, length, sym, ap, subst, append_assoc, append-nil}
use Rattle.std.proofs.lemmas.Bool.{ltb-true}
use Rattle.form_tokens.specs.Characters.{AreChunks, HaltsAt, IsReadTo, chunk_at, decoded, goes_on, is_some_text, joined}
use Rattle.form_tokens.specs.Readers.{Fails, ◌>>=◌}
use Rattle.form_tokens.specs.declared.chunk.Context.{Context}
use Rattle.form_tokens.specs.declared.chunk.Context.TheVariants as contexts
use Rattle.form_tokens.specs.declared.fault.Fault.{Fault}
use Rattle.form_tokens.specs.declared.fault.Stop.{Stop}
use Rattle.form_tokens.specs.declared.fault.Stop.TheVariants as stops
use Rattle.form_tokens.proofs.Many.{Many, many_end, many_failed, many_start, many_step}
use Rattle.form_tokens.proofs.Shorter.{Short, chunk_short, each_at}

pub chunk_shorter : (place : Context) (text rest chunk : List ℕ) → chunk_at place text ≡ Ok (chunk, rest) → length rest < length text
chunk_shorter place text rest chunk e = each_at (Short text) (chunk_at place text) (chunk, rest) (chunk_short place text) e

many_chunks : (place : Context) (front chunks : List (List ℕ)) (text rest whole : List ℕ) → Many (chunk_at place) (goes_on place) front text whole → AreChunks place chunks text rest → Many (chunk_at place) (goes_on place) (front ++ chunks) rest whole
many_chunks place front [] text rest whole m c =
    subst (λ (x : List ℕ). Many (chunk_at place) (goes_on place) (front ++ []) x whole) c
    (subst (λ (f : List (List ℕ)). Many (chunk_at place) (goes_on place) f text whole) (sym (append-nil front)) m)
many_chunks place front (x ∷ xs) text rest whole m c =
    let one = many_step (chunk_at place) (goes_on place) front text whole c.0 x m c.1 c.2 (chunk_shorter place text c.0 x c.2) in
    subst (λ (f : List (List ℕ)). Many (chunk_at place) (goes_on place) f rest whole) (append_assoc front (x ∷ []) xs) (many_chunks place (front ++ (x ∷ [])) xs c.0 rest whole one c.3)

chunks_many : (chunks : List (List ℕ)) (text rest : List ℕ) → AreChunks contexts.Value chunks text rest → Many (chunk_at contexts.Value) (goes_on contexts.Value) chunks rest text
chunks_many chunks text rest c = many_chunks contexts.Value [] chunks text rest text (many_start (chunk_at contexts.Value) (goes_on contexts.Value) text) c

-- what is read of a value
pub decoded_is : (chunks : List (List ℕ)) (text rest : List ℕ) → IsReadTo contexts.Value chunks text rest → decoded text ≡ Ok (joined chunks)
unfolding decoded
decoded_is chunks text rest h =
    let f : Result (List (List ℕ) × List ℕ) Fault → Result (List ℕ) Fault = λ r. r >>= λ x. Ok (joined x.0) in
    ap f (many_end (chunk_at contexts.Value) (goes_on contexts.Value) chunks rest text (chunks_many chunks text rest h.0) h.1)

some_left : (rest : List ℕ) → is_some_text rest ≡ true → 0 < length rest
some_left rest e = ltb-true 0 (length rest) e

-- why a value cannot be read
pub decoded_halts : (text : List ℕ) (left : ℕ) (stop : Stop) → HaltsAt contexts.Value text left stop → Fails stop (decoded text)
unfolding decoded
decoded_halts text left stops.Memory h = tt
decoded_halts text left (stops.At kind) h =
    many_failed (chunk_at contexts.Value) (goes_on contexts.Value) h.0 h.1 text (λ x. Ok (joined x.0)) (stops.At kind) (chunks_many h.0 text h.1 h.2) h.3 (some_left h.1 h.3) h.5
