-- A submission has one outcome where the files that it reads tell their content.
use Rattle.std.proofs.Common.{◌≡◌, ℕ, List, [], ◌∷◌, Option, Some, None, refl, sym, ap, ◌∙◌}
use Rattle.std.specs.Prelude.{All, IsSome, flat_map}
use Rattle.std.specs.List.{AllZip}
use Rattle.std.proofs.lemmas.Bool.{false≢true}
use Rattle.std.proofs.lemmas.List.Elements.{All-head}
use Rattle.form_encode.specs.declared.entry.Entry.{Entry}
use Rattle.form_encode.specs.declared.entry.Given.{Given}
use Rattle.form_encode.specs.declared.entry.Given.TheVariants.{Text, File}
use Rattle.form_ports.specs.Shelf.{HasTold, told}
use Rattle.form_parts.specs.Parts as multipart
use Rattle.form_submit.specs.declared.outcome.Outcome.{Outcome}
use Rattle.form_submit.specs.declared.route.Route.{Route}
use Rattle.form_submit.specs.declared.route.Route.TheVariants as routes
use Rattle.form_submit.specs.Outcome.{IsOutcomeBy, files_read, outcome_by}
use Rattle.form_submit.proofs.PieceLaws.{All-back, All-front}

-- the files of these numbers tell their content
abbrev AllTold : List (Option (Option (List ℕ))) → List ℕ → Type 0
AllTold contents numbers = All (λ number. IsSome (told contents number)) numbers

module _ (contents : List (Option (Option (List ℕ)))) where
  same_content : (content : Option (List ℕ)) (one other : List ℕ) → IsSome content → HasTold content one → HasTold content other → one ≡ other
  same_content None one other some p q = absurd (false≢true some)
  same_content (Some all) one other some p q = p ∙ sym q

  same_value : (value : Given) (one other : List ℕ) → AllTold contents (multipart.given_number value)
      → multipart.IsGivenPart contents value one → multipart.IsGivenPart contents value other → one ≡ other
  same_value (Text text) one other tell p q = p ∙ sym q
  same_value (File None name) one other tell p q = p ∙ sym q
  same_value (File (Some number) name) one other tell p q =
      same_content (told contents number) one other (All-head (λ n. IsSome (told contents n)) number [] tell) p q

  same_parts : (entries : List Entry) (ones others : List (List ℕ)) → AllTold contents (flat_map multipart.file_number entries)
      → AllZip (multipart.IsPart contents) entries ones → AllZip (multipart.IsPart contents) entries others → ones ≡ others
  same_parts [] [] [] tell p q = refl
  same_parts [] [] (other ∷ others) tell p q = absurd q
  same_parts [] (one ∷ ones) others tell p q = absurd p
  same_parts (entry ∷ entries) [] others tell p q = absurd p
  same_parts (entry ∷ entries) (one ∷ ones) [] tell p q = absurd q
  same_parts (entry ∷ entries) (one ∷ ones) (other ∷ others) tell p q =
      let T : ℕ → Type 0 = λ n. IsSome (told contents n) in
      let numbers = multipart.given_number entry.value in
      let rest = flat_map multipart.file_number entries in
      ap (λ part. part ∷ ones) (same_value entry.value one other (All-front T numbers rest tell) p.0 q.0)
      ∙ ap (λ parts. other ∷ parts) (same_parts entries ones others (All-back T numbers rest tell) p.1 q.1)

  -- two outcomes of one submission are the same
  pub one_outcome : (route : Route) (entries : List Entry) (bounds : List (List ℕ)) (one other : Outcome) → AllTold contents (files_read route entries)
      → IsOutcomeBy contents route entries bounds one → IsOutcomeBy contents route entries bounds other → one ≡ other
  unfolding multipart.file_numbers
  one_outcome (routes.Direct direct) entries bounds one other tell p q = p.is ∙ sym q.is
  one_outcome (routes.Multipart url) entries bounds one other tell p q =
      p.is ∙ ap (λ parts. outcome_by (routes.Multipart url) entries bounds parts) (same_parts entries p.bytes q.bytes tell p.each q.each) ∙ sym q.is
