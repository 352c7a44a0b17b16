use Rattle.std.proofs.Common.{◌≡◌, length, Some, None, refl, sym, true≢false}
use Rattle.form_pattern.specs.Grouping.{read}
use Rattle.form_pattern.specs.Pieces.{tree_of, pieces}
use Rattle.form_pattern.specs.Reading.{tokens}
use Rattle.form_pattern.specs.Tables.{AreTables}
use Rattle.form_pattern.proofs.CompilingLemmas.{light_compiles, heavy_not, nothing_not, no_tokens, piece_is, does_compile_is}
use Rattle.form_pattern.proofs.WholeLemmas.{made_stands}
use Rattle.form_pattern.proofs.pattern.parts.Goals as goal

pub returns-in_default-clause-compiles : goal.returns-in_default-clause-compiles
returns-in_default-clause-compiles c =
    let nothing : tokens (length c.args.text.now) c.args.text.now ≡ None = sym (rw c.in_default.is at c.in_ok-tokens.ensures) in
    (λ e. absurd (true≢false (sym e)), λ h. absurd (nothing_not c.args.text.now (no_tokens c.args.text.now nothing) h))

pub returns-in_default-2-clause-compiles : goal.returns-in_default-2-clause-compiles
returns-in_default-2-clause-compiles c =
    let lexed : tokens (length c.args.text.now) c.args.text.now ≡ Some c.in-Some.tokens.items = sym (rw c.in-Some.is at c.in_ok-tokens.ensures) in
    let nothing : read pieces c.in-Some.tokens.items ≡ None = sym (rw (c.in_default-2.is, c.as_slice.ensures.value) at c.in_ok-piece.ensures) in
    (λ e. absurd (true≢false (sym e)), λ h. absurd (nothing_not c.args.text.now (piece_is c.args.text.now c.in-Some.tokens.items None lexed nothing) h))

pub returns-in-Heavy-clause-compiles : goal.returns-in-Heavy-clause-compiles
returns-in-Heavy-clause-compiles c =
    let lexed : tokens (length c.args.text.now) c.args.text.now ≡ Some c.in-Some.tokens.items = sym (rw c.in-Some.is at c.in_ok-tokens.ensures) in
    let heavy : read pieces c.in-Some.tokens.items ≡ Some None = sym (rw (c.in-Some-2.is, c.in-Heavy.is, c.as_slice.ensures.value) at c.in_ok-piece.ensures) in
    (λ e. absurd (true≢false (sym e)), λ h. absurd (heavy_not c.args.text.now (piece_is c.args.text.now c.in-Some.tokens.items (Some None) lexed heavy) h))

pub returns-clause-compiles : goal.returns-clause-compiles
returns-clause-compiles c =
    let lexed : tokens (length c.args.text.now) c.args.text.now ≡ Some c.in-Some.tokens.items = sym (rw c.in-Some.is at c.in_ok-tokens.ensures) in
    let light : read pieces c.in-Some.tokens.items ≡ Some (Some (c.in-Light.field-0, tree_of c.in-Light.node)) = sym (rw (c.in-Some-2.is, c.in-Light.is, c.as_slice.ensures.value) at c.in_ok-piece.ensures) in
    (λ e. light_compiles c.args.text.now (c.in-Light.field-0, tree_of c.in-Light.node) (piece_is c.args.text.now c.in-Some.tokens.items (Some (Some (c.in-Light.field-0, tree_of c.in-Light.node))) lexed light), λ h. refl)

pub returns-clause-stands : goal.returns-clause-stands
returns-clause-stands c =
    let lexed : tokens (length c.args.text.now) c.args.text.now ≡ Some c.in-Some.tokens.items = sym (rw c.in-Some.is at c.in_ok-tokens.ensures) in
    let light : read pieces c.in-Some.tokens.items ≡ Some (Some (c.in-Light.field-0, tree_of c.in-Light.node)) = sym (rw (c.in-Some-2.is, c.in-Light.is, c.as_slice.ensures.value) at c.in_ok-piece.ensures) in
    let tables : AreTables c.in-Some.tokens.items c.in_ok-tables-in-Light.tables.items = rw c.as_slice-in-Light.ensures.value at c.in_ok-tables-in-Light.ensures in
    made_stands c.args.text.now c.in-Some.tokens.items c.in_ok-tables-in-Light.tables.items (c.in-Light.field-0, tree_of c.in-Light.node) lexed tables light

-- the truth value, by what was read
pub returns-in_default-clause-truth : goal.returns-in_default-clause-truth
returns-in_default-clause-truth c =
    let nothing : tokens (length c.args.text.now) c.args.text.now ≡ None = sym (rw c.in_default.is at c.in_ok-tokens.ensures) in
    sym (does_compile_is c.args.text.now None (no_tokens c.args.text.now nothing))

pub returns-in_default-2-clause-truth : goal.returns-in_default-2-clause-truth
returns-in_default-2-clause-truth c =
    let lexed : tokens (length c.args.text.now) c.args.text.now ≡ Some c.in-Some.tokens.items = sym (rw c.in-Some.is at c.in_ok-tokens.ensures) in
    let nothing : read pieces c.in-Some.tokens.items ≡ None = sym (rw (c.in_default-2.is, c.as_slice.ensures.value) at c.in_ok-piece.ensures) in
    sym (does_compile_is c.args.text.now None (piece_is c.args.text.now c.in-Some.tokens.items None lexed nothing))

pub returns-in-Heavy-clause-truth : goal.returns-in-Heavy-clause-truth
returns-in-Heavy-clause-truth c =
    let lexed : tokens (length c.args.text.now) c.args.text.now ≡ Some c.in-Some.tokens.items = sym (rw c.in-Some.is at c.in_ok-tokens.ensures) in
    let heavy : read pieces c.in-Some.tokens.items ≡ Some None = sym (rw (c.in-Some-2.is, c.in-Heavy.is, c.as_slice.ensures.value) at c.in_ok-piece.ensures) in
    sym (does_compile_is c.args.text.now (Some None) (piece_is c.args.text.now c.in-Some.tokens.items (Some None) lexed heavy))

pub returns-clause-truth : goal.returns-clause-truth
returns-clause-truth c =
    let lexed : tokens (length c.args.text.now) c.args.text.now ≡ Some c.in-Some.tokens.items = sym (rw c.in-Some.is at c.in_ok-tokens.ensures) in
    let light : read pieces c.in-Some.tokens.items ≡ Some (Some (c.in-Light.field-0, tree_of c.in-Light.node)) = sym (rw (c.in-Some-2.is, c.in-Light.is, c.as_slice.ensures.value) at c.in_ok-piece.ensures) in
    sym (does_compile_is c.args.text.now (Some (Some (c.in-Light.field-0, tree_of c.in-Light.node))) (piece_is c.args.text.now c.in-Some.tokens.items (Some (Some (c.in-Light.field-0, tree_of c.in-Light.node))) lexed light))
