-- A tag is read so as the definitions say, of what is kept of its attributes.
use Rattle.std.proofs.Common.{◌≡◌, ℕ, List, [], Bool, true, false, Result, Ok, Err, refl, sym, ap, ◌∙◌, if◌then◌else◌}
use Rattle.form_tokens.specs.Attributes.{attributes_at, firsts_behind, is_oversized}
use Rattle.form_tokens.specs.Kept.{kept_of}
use Rattle.form_tokens.specs.Readers.{◌>>=◌}
use Rattle.form_tokens.specs.Runs.{behind_space, run_at}
use Rattle.form_tokens.specs.declared.attributes.Attributes.{Attributes}
use Rattle.form_tokens.specs.declared.class.Class.TheVariants as classes
use Rattle.form_tokens.specs.declared.fault.Fault.{Fault}
use Rattle.form_tokens.proofs.Laws.{Attr, IsKept, kept_is}
use Rattle.form_markup.specs.Contents.{Piece, Start, Void, Oversized}
use Rattle.form_markup.specs.Pieces.{behind_tag, is_void, start_at, tag_end, tag_piece}
use Rattle.form_markup.specs.Tags.{start_kept, tag_kept}

pub tag_law : (name : List ℕ) (attrs : List Attr) → tag_kept name (kept_of attrs) ≡ tag_piece name attrs
tag_law name attrs = go (is_oversized attrs) refl (kept_is attrs)
  where
    piece : Bool → List Attr → Piece
    piece over kept = if over then Oversized else (if is_void name then Void (record { name = name; attrs = kept }) else Start (record { name = name; attrs = kept }))

    go : (b : Bool) → is_oversized attrs ≡ b → IsKept attrs (kept_of attrs) → tag_kept name (kept_of attrs) ≡ tag_piece name attrs
    go true e k = ap (λ b. piece b (kept_of attrs).kept) (k.over ∙ e) ∙ sym (ap (λ b. piece b (firsts_behind [] attrs)) e)
    go false e k = ap (λ b. piece b (kept_of attrs).kept) k.over ∙ ap (λ (xs : List Attr). piece (is_oversized attrs) xs) (k.kept e)

-- a tag is read so as the definitions say
pub start_law : (text : List ℕ) → start_kept text ≡ start_at text
unfolding start_kept start_at
start_law text = named (run_at classes.Name text)
  where
    ended : (name : List ℕ) (attrs : List Attr) (r : Result (List ℕ) Fault)
        → (r >>= λ rest. let x : Piece × List ℕ = (tag_kept name (kept_of attrs), behind_tag name rest) in Ok x) ≡ (r >>= λ rest. let x : Piece × List ℕ = (tag_piece name attrs, behind_tag name rest) in Ok x)
    ended name attrs (Err kind) = refl
    ended name attrs (Ok rest) = ap (λ (p : Piece). Ok (let x : Piece × List ℕ = (p, behind_tag name rest) in x)) (tag_law name attrs)

    reader : List Attr × List ℕ → Result (Attributes × List ℕ) Fault
    reader xs = let x : Attributes × List ℕ = (kept_of xs.0, xs.1) in Ok x

    kept_end : List ℕ → Attributes × List ℕ → Result (Piece × List ℕ) Fault
    kept_end name attrs = tag_end name (behind_space attrs.1) >>= λ rest. let x : Piece × List ℕ = (tag_kept name attrs.0, behind_tag name rest) in Ok x

    all_end : List ℕ → List Attr × List ℕ → Result (Piece × List ℕ) Fault
    all_end name attrs = tag_end name (behind_space attrs.1) >>= λ rest. let x : Piece × List ℕ = (tag_piece name attrs.0, behind_tag name rest) in Ok x

    read : (name : List ℕ) (r : Result (List Attr × List ℕ) Fault) → (r >>= reader >>= kept_end name) ≡ (r >>= all_end name)
    read name (Err kind) = refl
    read name (Ok xs) = ended name xs.0 (tag_end name (behind_space xs.1))

    named : (r : Result (List ℕ × List ℕ) Fault)
        → (r >>= λ name. attributes_at name.1 >>= reader >>= kept_end name.0) ≡ (r >>= λ name. attributes_at name.1 >>= all_end name.0)
    named (Err kind) = refl
    named (Ok name) = read name.0 (attributes_at name.1)
