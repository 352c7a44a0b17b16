use Rattle.form_ports.proofs.Laws.{found-at, IsThere-from_one, IsThere-within, number-set, number-set_ok, FileRose-set, IsThere-not_none, contents_of-set, NoneFell-set, at_number-set_other, told-at}
use Rattle.form_parts.proofs.file.scan_numbered.Goals as goal

pub unreachable-requires : goal.unreachable-requires
unreachable-requires g c =
    IsThere-not_none _ _ _ c.requires.there (found-at _ _ _ _ _ c.requires.there c.index_mut.ensures.value c.in-None.is)

pub overflow_sub-number : goal.overflow_sub-number
overflow_sub-number g c = IsThere-from_one _ _ c.requires.there

pub index_mut-requires : goal.index_mut-requires
index_mut-requires g c = rw c.args.shelf.now.ok.0 (IsThere-within _ _ _ c.requires.there)

pub returns-clause-kept : goal.returns-clause-kept
returns-clause-kept g c =
    contents_of-set _ _ _ _ _ _ c.index_mut.ensures.value c.in-Some.is c.scan_file.ensures.same

pub returns-clause-counts : goal.returns-clause-counts
returns-clause-counts g c =
    NoneFell-set _ _ _ _ _ (IsThere-from_one _ _ c.requires.there)
    (found-at _ _ _ _ _ c.requires.there c.index_mut.ensures.value c.in-Some.is) c.scan_file.ensures.later

pub returns-clause-others : goal.returns-clause-others
returns-clause-others g c = λ k other. at_number-set_other _ _ k _ (IsThere-from_one _ _ c.requires.there) other

pub returns-clause-fed : goal.returns-clause-fed
returns-clause-fed g c =
    rw (told-at _ _ _ _ (found-at _ _ _ _ _ c.requires.there c.index_mut.ensures.value c.in-Some.is))
    c.scan_file.ensures.fed

pub returns-clause-longer : goal.returns-clause-longer
returns-clause-longer g c =
    rw (told-at _ _ _ _ (found-at _ _ _ _ _ c.requires.there c.index_mut.ensures.value c.in-Some.is))
    c.scan_file.ensures.longer

pub returns-clause-position : goal.returns-clause-position
returns-clause-position g c =
    number-set_ok _ _ _ _ _ _ c.scan_file.result
    (found-at _ _ _ _ _ c.requires.there c.index_mut.ensures.value c.in-Some.is)
    c.scan_file.ensures.position

pub returns-clause-past : goal.returns-clause-past
returns-clause-past g c = λ long.
    number-set _ _ _ _ _ (found-at _ _ _ _ _ c.requires.there c.index_mut.ensures.value c.in-Some.is)
    (c.scan_file.ensures.long long)

pub returns-clause-fault : goal.returns-clause-fault
returns-clause-fault g c = λ failed.
    FileRose-set _ _ _ _ _ (found-at _ _ _ _ _ c.requires.there c.index_mut.ensures.value c.in-Some.is)
    (c.scan_file.ensures.fault failed)
