-- The page is sound as it opens, and after each line.
use Rattle.std.proofs.Common.{◌≡◌, ℕ, List, [], ◌∷◌, Ok}
use Rattle.url.specs.Parts.{Parts}
use Rattle.form_tree.specs.declared.node.Raw.{Raw}
use Rattle.form_markup.proofs.Sound.{spelled_no_email, spelled_tree, spelled_within}
use Rattle.form_page.specs.Page.{Page}
use Rattle.form_acts.specs.Soundness.{IsSound}
use Rattle.form_acts.proofs.Laws.{act_sound, opened_sound}
use Rattle.form_run.specs.declared.asked.Asked.{Asked}
use Rattle.form_run.specs.declared.asked.Asked.TheVariants as asks
use Rattle.form_run.specs.Replies.{session_after_all}
use Rattle.form_run.specs.Session.{Session, after, asked_in, opened, page_after}
use Rattle.form_run.specs.Taken.{page_in, page_of}
use Rattle.form_run.proofs.OpenableLaws.{openable_read}
use Rattle.form_run.proofs.PageLaws.{page_spelled}

asked_sound : (page : Page) (asked : Asked) → IsSound page → IsSound (page_after page asked)
asked_sound page asks.NoCommand sound = sound
asked_sound page asks.Syntax sound = sound
asked_sound page (asks.Refused fault) sound = sound
asked_sound page asks.Nothing sound = sound
asked_sound page (asks.Act act) sound = act_sound page act sound
asked_sound page (asks.Show key) sound = sound
asked_sound page (asks.Boundaries boundaries) sound = sound
asked_sound page (asks.Submit s) sound = sound

-- the page is sound after each line
pub session_sound : (session : Session) (line : List ℕ) → IsSound session.page → IsSound (after session line).page
session_sound session line sound = asked_sound session.page (asked_in session.page line) sound

-- and so after all lines
sound_after_all : (session : Session) (lines : List (List ℕ)) → IsSound session.page → IsSound (session_after_all session lines).page
unfolding session_after_all
sound_after_all session [] sound = sound
sound_after_all session (line ∷ lines) sound = sound_after_all (after session line) lines (session_sound session line sound)

-- The page of an input is sound as it opens, and after each command.
pub run_sound : (input : List ℕ) (raws : List Raw) (base : Parts) (names lines : List (List ℕ)) → page_in input ≡ Ok raws
    → IsSound (session_after_all (opened base raws names) lines).page
run_sound input raws base names lines taken =
    let text = page_of input in
    let s = page_spelled input raws taken in
    sound_after_all (opened base raws names) lines
    (opened_sound raws names (openable_read raws (spelled_tree [] text raws s) (spelled_within [] text raws s) (spelled_no_email [] text raws s)))
