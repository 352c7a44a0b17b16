-- A piece takes at least one byte.
use Rattle.std.proofs.Common.{◌≡◌, ℕ, ◌<◌, ◌≤◌, List, length, drop, Option, Some, None, Result, Ok, Err, Bool, true, false, arith, length-drop, if◌then◌else◌, nat_eq, codes, ◌&&◌}
use Rattle.std.specs.Char.{is_ascii_alphabetic}
use Rattle.std.specs.List.{prefix_len, starts_with}
use Rattle.form_markup.specs.Contents.{Piece}
use Rattle.form_markup.specs.Faults.{Outer}
use Rattle.form_tokens.specs.Readers.{◌>>=◌}
use Rattle.form_tokens.specs.Attributes.{attribute_at, attributes_at, begins_attribute}
use Rattle.form_tokens.specs.Runs.{begins, begins_so, behind, behind_space, run_at}
use Rattle.form_tokens.specs.Characters.{chunk_at, closes_textarea}
use Rattle.form_markup.specs.Pieces.{behind_ignored, behind_tag, characters_at, comment_at, comment_len, doctype_at, end_at, ignored_at, is_before_end, is_doctype, is_in_textarea, is_textarea, is_void, piece_at, piece_in, raw_at, start_at, tag_at, tag_end}
use Rattle.form_tokens.specs.declared.fault.Fault.{Fault}
use Rattle.form_tokens.specs.declared.fault.Fault.TheVariants.{Lexical}
use Rattle.form_tokens.specs.declared.class.Class.TheVariants as classes
use Rattle.form_tokens.specs.declared.chunk.Context.{Context}
use Rattle.form_tokens.specs.declared.chunk.Context.TheVariants as contexts
use Rattle.form_tokens.proofs.Laws.{Below, Each, Short, Within, attribute_short, behind_short, byte_short, byte_then, chunk_short, each_at, each_bind, each_if, many_within, run_short, shorter_still, space_within}

pub tag_end_short : (name text : List ℕ) → Each (Below text) (tag_end name text)
unfolding tag_end
tag_end_short name text =
    each_if (Below text) (is_void name && begins 47 text) (behind 47 text >>= behind 62) (behind 62 text)
    (each_bind (Below text) (Below text) (behind 47 text) (behind 62) (behind_short 47 text) (λ rest h. below rest h (behind 62 rest) (behind_short 62 rest)))
    (behind_short 62 text)
  where
    below : (rest : List ℕ) → length rest < length text → (r : Result (List ℕ) Fault) → Each (Below rest) r → Each (Below text) r
    below rest h (Ok x) g = omega arith
    below rest h (Err kind) g = tt

pub behind_tag_within : (name rest : List ℕ) → length (behind_tag name rest) ≤ length rest
behind_tag_within name rest = go (is_textarea name && begins 10 rest)
  where
    go : (t : Bool) → length (if t then drop 1 rest else rest) ≤ length rest
    go true = omega (arith, length-drop 1 rest)
    go false = omega arith

pub start_short : (text : List ℕ) → Each (Short text) (start_at text)
unfolding start_at
start_short text = each_bind (Short text) (Short text) (run_at classes.Name text) _ (run_short classes.Name text)
    (λ name h. each_bind (Within name.1) (Short text) (attributes_at name.1) _ (many_within attribute_at begins_attribute attribute_short (length name.1) name.1)
    (λ attrs i. each_bind (Below (behind_space attrs.1)) (Short text) (tag_end name.0 (behind_space attrs.1)) _ (tag_end_short name.0 (behind_space attrs.1))
    (λ rest g. omega (arith, space_within attrs.1, behind_tag_within name.0 rest))))

pub end_short : (text : List ℕ) → Each (Short text) (end_at text)
unfolding end_at
end_short text = each_bind (Short text) (Short text) (run_at classes.Name text) _ (run_short classes.Name text)
    (λ name h. each_bind (Below (behind_space name.1)) (Short text) (behind 62 (behind_space name.1)) _ (behind_short 62 (behind_space name.1)) (λ rest g. omega (arith, space_within name.1)))

pub comment_within : (text : List ℕ) → Each (Within text) (comment_at text)
unfolding comment_at
comment_within text =
    each_if (Within text) (begins 62 text) (Err Lexical) (if starts_with nat_eq text (codes "->") then Err Lexical else behind_ignored text (comment_len text)) tt
    (each_if (Within text) (starts_with nat_eq text (codes "->")) (Err Lexical) (behind_ignored text (comment_len text)) tt (rest_of (comment_len text)))
  where
    rest_of : (n : Option ℕ) → Each (Within text) (behind_ignored text n)
    rest_of None = tt
    rest_of (Some n) = omega (arith, length-drop n text)

pub doctype_within : (text : List ℕ) → Each (Within text) (doctype_at text)
unfolding doctype_at
doctype_within text = each_bind (Below (drop (prefix_len is_before_end text) text)) (Within text) (behind 62 (drop (prefix_len is_before_end text) text)) _ (behind_short 62 (drop (prefix_len is_before_end text) text))
    (λ rest h. omega (arith, length-drop (prefix_len is_before_end text) text))

pub within : {A : Type 0} (near far : List ℕ) (r : Result (A × List ℕ) Fault) → Each (Within near) r → length near ≤ length far → Each (Within far) r
within near far (Ok x) h le = omega arith
within near far (Err kind) h le = tt

pub ignored_within : (text : List ℕ) → Each (Within text) (ignored_at text)
unfolding ignored_at
ignored_within text =
    each_if (Within text) (starts_with nat_eq text (codes "--")) (comment_at (drop 2 text)) (if is_doctype text then doctype_at (drop 7 text) else Err Lexical)
    (within (drop 2 text) text (comment_at (drop 2 text)) (comment_within (drop 2 text)) (omega (arith, length-drop 2 text)))
    (each_if (Within text) (is_doctype text) (doctype_at (drop 7 text)) (Err Lexical)
    (within (drop 7 text) text (doctype_at (drop 7 text)) (doctype_within (drop 7 text)) (omega (arith, length-drop 7 text))) tt)

pub tag_short : (text : List ℕ) → Each (Short text) (tag_at text)
unfolding tag_at
tag_short text =
    each_if (Short text) (begins 33 text) (behind 33 text >>= ignored_at) (if begins 47 text then (behind 47 text >>= λ rest. if begins_so is_ascii_alphabetic rest then end_at rest else Err Lexical) else (if begins_so is_ascii_alphabetic text then start_at text else Err Lexical))
    (byte_then 33 text ignored_at (λ rest lt. shorter_still rest text (ignored_at rest) (ignored_within rest) lt))
    (each_if (Short text) (begins 47 text) (behind 47 text >>= λ rest. if begins_so is_ascii_alphabetic rest then end_at rest else Err Lexical) (if begins_so is_ascii_alphabetic text then start_at text else Err Lexical)
    (byte_short 47 text (λ rest. if begins_so is_ascii_alphabetic rest then end_at rest else Err Lexical) (λ rest. each_if (Short rest) (begins_so is_ascii_alphabetic rest) (end_at rest) (Err Lexical) (end_short rest) tt))
    (each_if (Short text) (begins_so is_ascii_alphabetic text) (start_at text) (Err Lexical) (start_short text) tt))

pub characters_short : (place : Context) (text : List ℕ) → Each (Short text) (characters_at place text)
unfolding characters_at
characters_short place text = each_bind (Short text) (Short text) (chunk_at place text) _ (chunk_short place text) (λ x h. h)

pub piece_short : (text : List ℕ) → Each (Short text) (piece_at text)
unfolding piece_at
piece_short text = each_if (Short text) (begins 60 text) (behind 60 text >>= tag_at) (characters_at contexts.Content text) (byte_short 60 text tag_at tag_short) (characters_short contexts.Content text)

pub raw_short : (text : List ℕ) → Each (Short text) (raw_at text)
unfolding raw_at
raw_short text = each_if (Short text) (closes_textarea text) (behind 60 text >>= tag_at) (characters_at contexts.Textarea text) (byte_short 60 text tag_at tag_short) (characters_short contexts.Textarea text)

pub piece_shorter : (outers : List Outer) (text : List ℕ) (p : Piece) (rest : List ℕ) → piece_in outers text ≡ Ok (p, rest) → length rest < length text
piece_shorter outers text p rest e = each_at (Short text) (piece_in outers text) (p, rest) (each_if (Short text) (is_in_textarea outers) (raw_at text) (piece_at text) (raw_short text) (piece_short text)) e
