use Rattle.form_ports.proofs.Laws.{found-at, IsThere-from_one, IsThere-within, IsThere-not_none, contents_of-set, NoneFell-set, at_number-set_other, told-at, number-set_done}
use Rattle.form_submit.proofs.SendLaws.{told-found, NumberCause-from}
use Rattle.form_submit.proofs.body.send_numbered.Goals as goal

pub overflow_sub-number : goal.overflow_sub-number
overflow_sub-number g c = IsThere-from_one _ _ c.requires.there

pub index_mut-requires : goal.index_mut-requires
index_mut-requires g c = rw c.args.shelf.now.ok.0 (IsThere-within _ _ _ c.requires.there)

pub unreachable-requires : goal.unreachable-requires
unreachable-requires g c =
    IsThere-not_none _ _ _ c.requires.there (found-at _ _ _ _ _ c.requires.there c.index_mut.ensures.value c.in-None.is)

pub send_file-requires-clause-told : goal.send_file-requires-clause-told
send_file-requires-clause-told g c =
    told-found _ _ _ _ _ (found-at _ _ _ _ _ c.requires.there c.index_mut.ensures.value c.in-Some.is) c.requires.told

pub returns-clause-kept : goal.returns-clause-kept
returns-clause-kept g c =
    contents_of-set _ _ _ _ _ _ c.index_mut.ensures.value c.in-Some.is c.send_file.ensures.same

pub returns-clause-counts : goal.returns-clause-counts
returns-clause-counts g c =
    NoneFell-set _ _ _ _ _ (IsThere-from_one _ _ c.requires.there)
    (found-at _ _ _ _ _ c.requires.there c.index_mut.ensures.value c.in-Some.is) c.send_file.ensures.later

pub returns-clause-others : goal.returns-clause-others
returns-clause-others g c = λ k other. at_number-set_other _ _ k _ (IsThere-from_one _ _ c.requires.there) other

pub returns-clause-gathers : goal.returns-clause-gathers
returns-clause-gathers g c =
    rw (told-at _ _ _ _ (found-at _ _ _ _ _ c.requires.there c.index_mut.ensures.value c.in-Some.is)) c.send_file.ensures.gathers

pub returns-clause-position : goal.returns-clause-position
returns-clause-position g c =
    number-set_done _ _ _ _ _ _ c.send_file.result
    (found-at _ _ _ _ _ c.requires.there c.index_mut.ensures.value c.in-Some.is) c.send_file.ensures.position

pub returns-clause-part : goal.returns-clause-part
returns-clause-part g c =
    rw (told-at _ _ _ _ (found-at _ _ _ _ _ c.requires.there c.index_mut.ensures.value c.in-Some.is)) c.send_file.ensures.part

pub returns-clause-cause : goal.returns-clause-cause
returns-clause-cause g c =
    NumberCause-from _ _ _ _ _ _ _ _ _ c.send_file.result
    (found-at _ _ _ _ _ c.requires.there c.index_mut.ensures.value c.in-Some.is) c.send_file.ensures.cause
