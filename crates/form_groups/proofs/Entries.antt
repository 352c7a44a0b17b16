-- A group is the filter of the entries, however the groups are kept.
use Rattle.std.proofs.Common.{◌≡◌, ℕ, zero, suc, ◌<◌, Bool, true, false, not, ◌||◌, cond, List, [], ◌∷◌, ◌++◌, length, map, get_or, set, filter, Option, Some, None, position, nat_eq, refl, sym, ap, ◌∙◌, subst, arith}
use Rattle.std.specs.List.{list_any, slice_get}
use Rattle.std.specs.Str.{bytes_eq}
use Rattle.std.proofs.lemmas.Bool.{and_from, and_parts, false_from_ne_true, false≢true, or_from, or_parts}
use Rattle.std.proofs.lemmas.Grind.{common_steps, flat_map-append}
use Rattle.std.proofs.lemmas.List.{append-nil, get_or-set_same, map-append}
use Rattle.std.proofs.lemmas.List.Elements.{filter-append}
use Rattle.std.proofs.lemmas.List.Folds.{list_any-append, list_any_at}
use Rattle.std.proofs.lemmas.List.Quantifiers.{position-Some}
use Rattle.std.proofs.lemmas.Bool.Decides.{nat_tests}
use Rattle.std.proofs.lemmas.Option.{slice_get-get_or}
use Rattle.std.proofs.lemmas.Slice.Eq.{bytes_eq-Decides}
use Rattle.form_tree.specs.declared.node.Key.{Key}
use Rattle.form_tree.specs.Elements.{same_owner}
use Rattle.form_tree.proofs.Laws.{owner_same, same_key-refl}
use Rattle.form_groups.specs.declared.group.Member.{Member}
use Rattle.form_groups.specs.Groups.{AreApart, ChangesGroup, Entries, Entry, Group, all_entries, entered, entries_of, group_of, has_no_member, is_named, is_of, members_or_none, same_group}

-- ---- names of groups

pub same_parts : (o : Option Key) (n : List ℕ) (p : Option Key) (m : List ℕ) → same_group o n p m ≡ true → (o ≡ p) × (n ≡ m)
same_parts o n p m same =
    let both = and_parts (same_owner o p) (bytes_eq n m) same in
    (owner_same o p both.0, (bytes_eq-Decides n m).0 both.1)

pub same-refl : (o : Option Key) (n : List ℕ) → same_group o n o n ≡ true
same-refl o n = and_from _ _ (own o) ((bytes_eq-Decides n n).1 refl)
  where
    own : (q : Option Key) → same_owner q q ≡ true
    own None = refl
    own (Some k) = same_key-refl k

-- another group is another from the other side too
pub other-sym : (o : Option Key) (n : List ℕ) (p : Option Key) (m : List ℕ) → same_group o n p m ≡ false → same_group p m o n ≡ false
other-sym o n p m other = false_from_ne_true _ (λ same.
    let parts = same_parts p m o n same in
    false≢true (sym other ∙ subst (λ (q : Option Key). same_group o n q m ≡ true) (sym parts.0) (subst (λ (l : List ℕ). same_group o n o l ≡ true) (sym parts.1) (same-refl o n))))

-- a group of that name goes by no other name
named_once : (o : Option Key) (n : List ℕ) (p : Option Key) (m : List ℕ) (g : Group) → same_group o n p m ≡ false → is_named o n g ≡ true → is_named p m g ≡ false
named_once o n p m g other named = false_from_ne_true _ (λ also.
    let one = same_parts o n g.owner g.name named in
    let two = same_parts p m g.owner g.name also in
    false≢true (sym other ∙ rw (one.0 ∙ sym two.0, one.1 ∙ sym two.1) (same-refl p m)))

-- ---- the members of a group

group_of-append : (es fs : Entries) (o : Option Key) (n : List ℕ) → group_of (es ++ fs) o n ≡ group_of es o n ++ group_of fs o n
group_of-append es fs o n = ap (map (λ (e : Entry). e.member)) (filter-append (is_of o n) es fs) ∙ map-append (λ (e : Entry). e.member) (filter (is_of o n) es) (filter (is_of o n) fs)

group_of-entries : (g : Group) (o : Option Key) (n : List ℕ) → group_of (entries_of g) o n ≡ cond (is_named o n g) g.members []
group_of-entries g o n = go g.members (is_named o n g) refl
  where
    made : Member → Entry
    made m = record { owner = g.owner; name = g.name; member = m }

    go : (ms : List Member) (b : Bool) → is_named o n g ≡ b → group_of (map made ms) o n ≡ cond b ms []
    go [] true e = refl
    go [] false e = refl
    go (m ∷ ms) true e = rw e (ap (λ l. m ∷ l) (go ms true e))
    go (m ∷ ms) false e = rw e (go ms false e)

group_of-cons : (g : Group) (gs : List Group) (o : Option Key) (n : List ℕ) → group_of (all_entries (g ∷ gs)) o n ≡ cond (is_named o n g) g.members [] ++ group_of (all_entries gs) o n
group_of-cons g gs o n = group_of-append (entries_of g) (all_entries gs) o n ∙ ap (λ l. l ++ group_of (all_entries gs) o n) (group_of-entries g o n)

nobody : (gs : List Group) (o : Option Key) (n : List ℕ) → list_any (is_named o n) gs ≡ false → group_of (all_entries gs) o n ≡ []
nobody [] o n none = refl
nobody (g ∷ gs) o n none =
    let parts = or_parts (is_named o n g) (list_any (is_named o n) gs) none in
    group_of-cons g gs o n ∙ rw (parts.0, nobody gs o n parts.1) refl

-- a test of the name is that of a group which goes by it
named_test : (g : Group) (gs : List Group) (o : Option Key) (n : List ℕ) → is_named o n g ≡ true → list_any (is_named g.owner g.name) gs ≡ false → list_any (is_named o n) gs ≡ false
named_test g gs o n named none =
    let parts = same_parts o n g.owner g.name named in
    rw (parts.0, parts.1) none

somebody : (gs : List Group) (i : ℕ) (d : Group) (o : Option Key) (n : List ℕ) → AreApart gs → i < length gs → is_named o n (get_or gs i d) ≡ true → group_of (all_entries gs) o n ≡ (get_or gs i d).members
somebody [] i d o n apart below named = absurd (omega arith)
somebody (g ∷ gs) zero d o n apart below named =
    group_of-cons g gs o n ∙ rw (named, nobody gs o n (named_test g gs o n named apart.0)) (append-nil g.members)
somebody (g ∷ gs) (suc i) d o n apart below named =
    let first : is_named o n g ≡ false = false_from_ne_true _ (λ also. false≢true (sym (named_test g gs o n also apart.0) ∙ list_any_at (is_named o n) gs i d (omega arith) named)) in
    group_of-cons g gs o n ∙ rw first (somebody gs i d o n apart.1 (omega arith) named)

-- the members of the group whose place is found
pub placed : (gs : List Group) (i : ℕ) (o : Option Key) (n : List ℕ) → AreApart gs → position (is_named o n) gs ≡ Some i → group_of (all_entries gs) o n ≡ members_or_none (slice_get gs i)
placed gs i o n apart found =
    let none : Group = record { owner = o; name = n; members = [] } in
    let at = position-Some (is_named o n) gs i none found in
    somebody gs i none o n apart at.0 at.1 ∙ ap members_or_none (sym (slice_get-get_or gs i none at.0))

-- where no place is found, nobody passes
absent_any : (p : Group → Bool) (gs : List Group) → position p gs ≡ None → list_any p gs ≡ false
absent_any p [] absent = refl
absent_any p (g ∷ gs) absent = grind (arith, common_steps, absent_any p gs)

pub absent : (gs : List Group) (o : Option Key) (n : List ℕ) → position (is_named o n) gs ≡ None → group_of (all_entries gs) o n ≡ []
absent gs o n none = nobody gs o n (absent_any (is_named o n) gs none)

-- ---- one group changes

any-set : (p : Group → Bool) (gs : List Group) (i : ℕ) (g d : Group) → i < length gs → p g ≡ p (get_or gs i d) → list_any p (set gs i g) ≡ list_any p gs
any-set p [] i g d below same = refl
any-set p (h ∷ gs) zero g d below same = ap (λ b. b || list_any p gs) same
any-set p (h ∷ gs) (suc i) g d below same = ap (λ b. p h || b) (any-set p gs i g d (omega arith) same)

set_apart : (gs : List Group) (i : ℕ) (g d : Group) → i < length gs → g.owner ≡ (get_or gs i d).owner → g.name ≡ (get_or gs i d).name → AreApart gs → AreApart (set gs i g)
set_apart [] i g d below owner name apart = apart
set_apart (h ∷ gs) zero g d below owner name apart = (rw (owner, name) apart.0, apart.1)
set_apart (h ∷ gs) (suc i) g d below owner name apart =
    (any-set (is_named h.owner h.name) gs i g d (omega arith) (rw (owner, name) refl) ∙ apart.0, set_apart gs i g d (omega arith) owner name apart.1)

-- a group that keeps its name
pub kept_apart : (gs : List Group) (i : ℕ) (old new : Group) (o : Option Key) (n : List ℕ) → AreApart gs → position (is_named o n) gs ≡ Some i → old ≡ get_or gs i old
    → new.owner ≡ old.owner → new.name ≡ old.name → AreApart (set gs i new)
kept_apart gs i old new o n apart placed read owner name =
    let at = position-Some (is_named o n) gs i old placed in
    set_apart gs i new old at.0 (owner ∙ ap (λ (g : Group). g.owner) read) (name ∙ ap (λ (g : Group). g.name) read) apart

set_other : (gs : List Group) (i : ℕ) (g d : Group) (o : Option Key) (n : List ℕ) → i < length gs → is_named o n (get_or gs i d) ≡ false → is_named o n g ≡ false → group_of (all_entries (set gs i g)) o n ≡ group_of (all_entries gs) o n
set_other [] i g d o n below was now = refl
set_other (h ∷ gs) zero g d o n below was now = group_of-cons g gs o n ∙ rw now (sym (group_of-cons h gs o n ∙ rw was refl))
set_other (h ∷ gs) (suc i) g d o n below was now =
    group_of-cons h (set gs i g) o n ∙ ap (λ l. cond (is_named o n h) h.members [] ++ l) (set_other gs i g d o n (omega arith) was now) ∙ sym (group_of-cons h gs o n)

-- a group of which only the members change
pub made_apart : (gs : List Group) (i : ℕ) (old new : Group) (o : Option Key) (n : List ℕ) (f : List Member → List Member) → AreApart gs → position (is_named o n) gs ≡ Some i → old ≡ get_or gs i old
    → new ≡ record old { members = f old.members } → AreApart (set gs i new)
made_apart gs i old new o n f apart placed read is = kept_apart gs i old new o n apart placed read (ap (λ (g : Group). g.owner) is) (ap (λ (g : Group). g.name) is)

pub changed : (gs : List Group) (i : ℕ) (old new : Group) (o : Option Key) (n : List ℕ) (f : List Member → List Member) → AreApart gs → position (is_named o n) gs ≡ Some i → old ≡ get_or gs i old
    → new ≡ record old { members = f old.members } → ChangesGroup (all_entries gs) (all_entries (set gs i new)) o n f
changed gs i old new o n f apart placed read is =
    let at = position-Some (is_named o n) gs i old placed in
    let below : i < length gs = at.0 in
    let within : i < length (set gs i new) = grind (arith, common_steps) in
    let named : is_named o n old ≡ true = subst (λ (g : Group). is_named o n g ≡ true) (sym read) at.1 in
    let still : is_named o n new ≡ true = subst (λ (g : Group). is_named o n g ≡ true) (sym is) named in
    let put : get_or (set gs i new) i old ≡ new = get_or-set_same gs i new old below in
    let whole : AreApart (set gs i new) = made_apart gs i old new o n f apart placed read is in
    let had : group_of (all_entries gs) o n ≡ old.members = somebody gs i old o n apart below at.1 ∙ ap (λ (g : Group). g.members) (sym read) in
    let has : group_of (all_entries (set gs i new)) o n ≡ new.members =
    somebody (set gs i new) i old o n whole within (subst (λ (g : Group). is_named o n g ≡ true) (sym put) still) ∙ ap (λ (g : Group). g.members) put in
    record {
      this = has ∙ ap (λ (g : Group). g.members) is ∙ ap f (sym had);
      others = λ p m other. set_other gs i new old p m below (subst (λ (g : Group). is_named p m g ≡ false) read (named_once o n p m old other named)) (named_once o n p m new other still);
    }

pub unchanged : (gs : List Group) (o : Option Key) (n : List ℕ) (f : List Member → List Member) → position (is_named o n) gs ≡ None → f [] ≡ [] → ChangesGroup (all_entries gs) (all_entries gs) o n f
unchanged gs o n f none empty = record { this = rw (absent gs o n none) (sym empty); others = λ p m other. refl }

-- ---- a group comes in, and empty ones go

push_apart : (gs : List Group) (g : Group) → AreApart gs → list_any (is_named g.owner g.name) gs ≡ false → AreApart (gs ++ g ∷ [])
push_apart [] g apart none = (refl, tt)
push_apart (h ∷ gs) g apart none =
    let parts = or_parts (is_named g.owner g.name h) _ none in
    (list_any-append (is_named h.owner h.name) gs (g ∷ []) ∙ or_from _ _ apart.0 (or_from _ _ (other-sym g.owner g.name h.owner h.name parts.0) refl), push_apart gs g apart.1 parts.1)

pushed : (gs : List Group) (g : Group) (o : Option Key) (n : List ℕ) → group_of (all_entries (gs ++ g ∷ [])) o n ≡ group_of (all_entries gs) o n ++ cond (is_named o n g) g.members []
pushed gs g o n =
    ap (λ (es : Entries). group_of es o n) (flat_map-append entries_of gs (g ∷ []))
    ∙ group_of-append (all_entries gs) (all_entries (g ∷ [])) o n
    ∙ ap (λ l. group_of (all_entries gs) o n ++ l) (group_of-cons g [] o n ∙ append-nil _)

pub came : (gs : List Group) (g : Group) (o : Option Key) (n : List ℕ) (m : Member) → g ≡ record { owner = o; name = n; members = m ∷ [] } → AreApart gs → position (is_named o n) gs ≡ None
    → AreApart (gs ++ g ∷ []) × ChangesGroup (all_entries gs) (all_entries (gs ++ g ∷ [])) o n (entered m)
came gs g o n m is apart absent = subst (λ (h : Group). AreApart (gs ++ h ∷ []) × ChangesGroup (all_entries gs) (all_entries (gs ++ h ∷ [])) o n (entered m)) (sym is) (
  push_apart gs fresh apart (absent_any (is_named o n) gs absent),
  record {
    this = pushed gs fresh o n ∙ rw (same-refl o n) refl;
    others = λ p q other. pushed gs fresh p q ∙ rw (other-sym o n p q other) (append-nil _);
  },
)
  where
    fresh : Group
    fresh = record { owner = o; name = n; members = m ∷ [] }

any-filter : (p q : Group → Bool) (gs : List Group) → list_any p gs ≡ false → list_any p (filter q gs) ≡ false
any-filter p q [] none = refl
any-filter p q (g ∷ gs) none = let parts = or_parts (p g) (list_any p gs) none in go (q g) parts.0 (any-filter p q gs parts.1)
  where
    go : (b : Bool) → p g ≡ false → list_any p (filter q gs) ≡ false → list_any p (cond b (g ∷ filter q gs) (filter q gs)) ≡ false
    go true first rest = or_from _ _ first rest
    go false first rest = rest

pub filter_apart : (q : Group → Bool) (gs : List Group) → AreApart gs → AreApart (filter q gs)
filter_apart q [] apart = apart
filter_apart q (g ∷ gs) apart = go (q g) (any-filter (is_named g.owner g.name) q gs apart.0) (filter_apart q gs apart.1)
  where
    go : (b : Bool) → list_any (is_named g.owner g.name) (filter q gs) ≡ false → AreApart (filter q gs) → AreApart (cond b (g ∷ filter q gs) (filter q gs))
    go true first rest = (first, rest)
    go false first rest = rest

pub empty_gone : (gs : List Group) → all_entries (filter (λ g. not (has_no_member g)) gs) ≡ all_entries gs
empty_gone [] = refl
empty_gone (g ∷ gs) = go g.members (empty_gone gs)
  where
    kept : List Group
    kept = filter (λ h. not (has_no_member h)) gs

    go : (ms : List Member) → all_entries kept ≡ all_entries gs → all_entries (cond (not (nat_eq (length ms) 0)) (record { owner = g.owner; name = g.name; members = ms } ∷ kept) kept) ≡ entries_of (record { owner = g.owner; name = g.name; members = ms }) ++ all_entries gs
    go [] same = same
    go (m ∷ ms) same = let some : nat_eq (suc (length ms)) 0 ≡ false = grind (arith, nat_tests) in rw some (ap (λ es. entries_of (record { owner = g.owner; name = g.name; members = m ∷ ms }) ++ es) same)
