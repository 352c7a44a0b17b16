use Rattle.std.proofs.Common.{refl, sym, ◌∙◌}
use Rattle.std.proofs.lemmas.List.{at_drop_all}
use Rattle.form_types.specs.TypeTable.{kind_in, type_table}
use Rattle.form_types.proofs.KeywordSearch.{kind_in-turn, kind_in-found}
use Rattle.form_types.proofs.kind.kind_named.Goals as goal

pub returns-then-is_keyword : goal.returns-then-is_keyword
returns-then-is_keyword c = kind_in-found c.args.keyword.now c.keyword_of.result.now c.loop-kind.kind-index _ _ c.is_keyword.result c.loop-kind-test.true refl c.keyword_of.ensures c.is_keyword.ensures c.if-is_keyword.true ∙ c.loop-kind.invariant

pub loop-kind-preserved : goal.loop-kind-preserved
loop-kind-preserved c = kind_in-turn c.args.keyword.now c.keyword_of.result.now c.loop-kind.kind-index _ _ c.is_keyword.result c.loop-kind-test.true refl c.keyword_of.ensures c.is_keyword.ensures c.if-is_keyword.false ∙ c.loop-kind.invariant

pub returns : goal.returns
unfolding kind_in
returns c = sym (at_drop_all (kind_in c.args.keyword.now) type_table c.loop-kind.kind-index c.loop-kind-test.false) ∙ c.loop-kind.invariant
