-- The reply to an act.
use Rattle.std.proofs.Common.{◌≡◌, ℕ, List, ◌++◌, Some, None, sym, ap, ◌∙◌}
use Rattle.form_tree.specs.declared.node.Key.{Key}
use Rattle.form_page.specs.Page.{Page}
use Rattle.form_page.specs.Views.{changes}
use Rattle.form_changes.specs.declared.act.Act.{Act}
use Rattle.form_changes.specs.declared.act.ActFault.{ActFault}
use Rattle.form_acts.specs.Acts.{outcome}
use Rattle.form_acts.specs.Refusals.{refusal_of}
use Rattle.form_replies.specs.Replies.{act_reply, ok_line, refusal_word, refused_line, seen_lines}

module _ (page : Page) (act : Act) where
  -- of one that is done
  pub done_reply : (new : Page) (keys : List Key) (text : List ℕ) → refusal_of page act ≡ None → new ≡ outcome page act → keys ≡ changes page (outcome page act)
      → text ≡ seen_lines new keys ++ ok_line → text ≡ act_reply (refusal_of page act) (outcome page act) (changes page (outcome page act))
  done_reply new keys text none then same said =
      said
      ∙ ap (λ p. seen_lines p keys ++ ok_line) then
      ∙ ap (λ ks. seen_lines (outcome page act) ks ++ ok_line) same
      ∙ sym (ap (λ refusal. act_reply refusal (outcome page act) (changes page (outcome page act))) none)

  -- of one that is refused
  pub refused_reply : (fault : ActFault) (word : List ℕ) → refusal_of page act ≡ Some fault → word ≡ refusal_word fault
      → refused_line word ≡ act_reply (refusal_of page act) (outcome page act) (changes page (outcome page act))
  refused_reply fault word refused is =
      ap refused_line is ∙ sym (ap (λ refusal. act_reply refusal (outcome page act) (changes page (outcome page act))) refused)
