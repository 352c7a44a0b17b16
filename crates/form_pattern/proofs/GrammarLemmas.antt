-- The reader of groups reads exactly what the grammar spells.
use Rattle.std.proofs.Common.{◌≡◌, ℕ, zero, suc, ◌+◌, ◌<◌, ◌≤◌, nat_lt, Bool, true, false, cond, List, [], ◌∷◌, ◌++◌, length, Option, Some, None, refl, sym, ap, ◌∙◌, subst, arith, append_assoc, append-nil}
use Rattle.std.proofs.lemmas.Option.{none-some, same_Some}
use Rattle.std.proofs.lemmas.Bool.{lt-ltb, ltb-true}
use Rattle.form_pattern.specs.declared.tokens.High.{High}
use Rattle.form_pattern.specs.declared.groups.TheConstants.{DEEPEST}
use Rattle.form_pattern.specs.declared.tokens.Token.{Token}
use Rattle.form_pattern.specs.declared.tokens.Token.TheVariants.{Start, Finish, Bar, Open, Ahead, Close, Quantifier}
use Rattle.form_pattern.specs.declared.tokens.Token.TheVariants as token
use Rattle.form_pattern.specs.Pattern.{Pattern}
use Rattle.form_pattern.specs.Grammar.{IsAtom, characters, in_group, IsTerm, at_start, at_finish, looking_ahead, once, repeated, IsBranch, no_term, term_more, IsWhole, one_branch, alternative}
use Rattle.form_pattern.specs.Grouping.{Level, fresh, with_last, after_bar, terms, whole, with_atom, with_term, quantified, inside, opened, on_top, run, read}
use Rattle.form_pattern.specs.Trees.{patterns}

abbrev Frame : Type 0
Frame = Level Pattern

abbrev goes_on : List Token → Frame → List Frame → Option Pattern
goes_on = run patterns

-- reading these tokens leads to a frame of which Q holds
abbrev Goes : List Token → (Frame → Type 0) → Frame → List Frame → List Token → Type 0
Goes ts Q f gs rest = (g : Frame) × (goes_on (ts ++ rest) f gs ≡ goes_on rest g gs) × Q g

-- ---- only: what is spelled is read

-- a group is opened where it is not too deep
enter : (o : Option Bool) (ts : List Token) (f : Frame) (gs : List Frame) → length gs < DEEPEST → elim (opened patterns o f gs) [ None ↦ None | Some h ↦ goes_on ts h.0 h.1 ] ≡ goes_on ts (fresh patterns o None) (f ∷ gs)
enter o ts f gs room = let test : nat_lt (length gs) DEEPEST ≡ true = lt-ltb _ _ room in rw test refl

record Adds (f : Frame) (t : Pattern) (g : Frame) : Type 0 where
  terms_are : terms patterns g ≡ Pattern.next (terms patterns f) t
  before : g.before ≡ f.before
  ahead : g.ahead ≡ f.ahead

record Branch (o : Option Bool) (before : Option Pattern) (b : Pattern) (g : Frame) : Type 0 where
  terms_are : terms patterns g ≡ b
  same_before : g.before ≡ before
  ahead : g.ahead ≡ o

record Whole (o : Option Bool) (p : Pattern) (g : Frame) : Type 0 where
  whole_is : whole patterns g ≡ p
  ahead : g.ahead ≡ o

mutual
  atom_run : (d : ℕ) (ts : List Token) (p : Pattern) → IsAtom d ts p → (f : Frame) (gs : List Frame) (rest : List Token) → length gs + d ≤ DEEPEST → goes_on (ts ++ rest) f gs ≡ goes_on rest (with_atom patterns f p) gs
  atom_run _ _ _ (characters d cs) f gs rest le = refl
  atom_run _ _ _ (in_group d inner q w) f gs rest le =
      let h = whole_run d inner q w None (f ∷ gs) (Close ∷ rest) (omega arith) in
      enter None ((inner ++ Close ∷ []) ++ rest) f gs (omega arith)
      ∙ ap (λ xs. goes_on xs (fresh patterns None None) (f ∷ gs)) (append_assoc inner (Close ∷ []) rest)
      ∙ h.1
      ∙ ap (λ o. goes_on rest (inside patterns o f (whole patterns h.0)) gs) h.2.ahead
      ∙ ap (λ x. goes_on rest (with_atom patterns f x) gs) h.2.whole_is

  term_run : (d : ℕ) (ts : List Token) (t : Pattern) → IsTerm d ts t → (f : Frame) (gs : List Frame) (rest : List Token) → length gs + d ≤ DEEPEST → Goes ts (Adds f t) f gs rest
  term_run _ _ _ (at_start d) f gs rest le = (with_term patterns f Pattern.start, refl, record { terms_are = refl; before = refl; ahead = refl })
  term_run _ _ _ (at_finish d) f gs rest le = (with_term patterns f Pattern.finish, refl, record { terms_are = refl; before = refl; ahead = refl })
  term_run _ _ _ (looking_ahead d absent inner q w) f gs rest le =
      let h = whole_run d inner q w (Some absent) (f ∷ gs) (Close ∷ rest) (omega arith) in (
        with_term patterns f (Pattern.ahead absent q),
        enter (Some absent) ((inner ++ Close ∷ []) ++ rest) f gs (omega arith)
            ∙ ap (λ xs. goes_on xs (fresh patterns (Some absent) None) (f ∷ gs)) (append_assoc inner (Close ∷ []) rest)
            ∙ h.1
            ∙ ap (λ o. goes_on rest (inside patterns o f (whole patterns h.0)) gs) h.2.ahead
            ∙ ap (λ x. goes_on rest (with_term patterns f (Pattern.ahead absent x)) gs) h.2.whole_is,
        record { terms_are = refl; before = refl; ahead = refl },
      )
  term_run _ _ _ (once d xs p a) f gs rest le = (with_atom patterns f p, atom_run d xs p a f gs rest le, record { terms_are = refl; before = refl; ahead = refl })
  term_run _ _ _ (repeated d xs p low high a) f gs rest le = (
    record { ahead = f.ahead; before = f.before; branch = Pattern.next (terms patterns f) (Pattern.repeat low high p); atom = None },
    ap (λ ys. goes_on ys f gs) (append_assoc xs (Quantifier low high ∷ []) rest) ∙ atom_run d xs p a f gs (Quantifier low high ∷ rest) le,
    record { terms_are = refl; before = refl; ahead = refl },
  )

  branch_run : (d : ℕ) (ts : List Token) (b : Pattern) → IsBranch d ts b → (o : Option Bool) (before : Option Pattern) (gs : List Frame) (rest : List Token) → length gs + d ≤ DEEPEST → Goes ts (Branch o before b) (fresh patterns o before) gs rest
  branch_run _ _ _ (no_term d) o before gs rest le = (fresh patterns o before, refl, record { terms_are = refl; same_before = refl; ahead = refl })
  branch_run _ _ _ (term_more d xs ys c t x y) o before gs rest le =
      let one = branch_run d xs c x o before gs (ys ++ rest) le in
      let two = term_run d ys t y one.0 gs rest le in (
        two.0,
        ap (λ zs. goes_on zs (fresh patterns o before) gs) (append_assoc xs ys rest) ∙ one.1 ∙ two.1,
        record { terms_are = two.2.terms_are ∙ ap (λ z. Pattern.next z t) one.2.terms_are; same_before = two.2.before ∙ one.2.same_before; ahead = two.2.ahead ∙ one.2.ahead },
      )

  whole_run : (d : ℕ) (ts : List Token) (p : Pattern) → IsWhole d ts p → (o : Option Bool) (gs : List Frame) (rest : List Token) → length gs + d ≤ DEEPEST → Goes ts (Whole o p) (fresh patterns o None) gs rest
  whole_run _ _ _ (one_branch d xs b x) o gs rest le =
      let one = branch_run d xs b x o None gs rest le in
      (one.0, one.1, record { whole_is = ap (λ z. after_bar patterns z (terms patterns one.0)) one.2.same_before ∙ one.2.terms_are; ahead = one.2.ahead })
  whole_run _ _ _ (alternative d xs ys q b x y) o gs rest le =
      let one = whole_run d xs q x o gs (Bar ∷ (ys ++ rest)) le in
      let two = branch_run d ys b y one.0.ahead (Some (whole patterns one.0)) gs rest le in (
        two.0,
        ap (λ zs. goes_on zs (fresh patterns o None) gs) (append_assoc xs (Bar ∷ ys) rest) ∙ one.1 ∙ two.1,
        record {
          whole_is = ap (λ z. after_bar patterns z (terms patterns two.0)) two.2.same_before ∙ ap (λ z. Pattern.either (whole patterns one.0) z) two.2.terms_are ∙ ap (λ z. Pattern.either z b) one.2.whole_is;
          ahead = two.2.ahead ∙ one.2.ahead;
        },
      )

pub grammar_reads : (ts : List Token) (p : Pattern) → IsWhole DEEPEST ts p → read patterns ts ≡ Some p
grammar_reads ts p w =
    let h = whole_run DEEPEST ts p w None [] [] (omega arith) in
    ap (λ xs. goes_on xs (fresh patterns None None) []) (sym (append-nil ts)) ∙ h.1 ∙ ap Some h.2.whole_is

-- ---- found: what is read is spelled

abbrev BeforeOk : ℕ → List Token → Option Pattern → Type 0
BeforeOk d xs None = xs ≡ []
BeforeOk d xs (Some p) = (ys : List Token) × (xs ≡ ys ++ Bar ∷ []) × IsWhole d ys p

abbrev TermsOk : ℕ → List Token → Pattern → Option Pattern → Type 0
TermsOk d bs b None = IsBranch d bs b
TermsOk d bs b (Some a) = (xs : List Token) × (ys : List Token) × (bs ≡ xs ++ ys) × IsBranch d xs b × IsAtom d ys a

-- the tokens since a group was opened spell what its frame holds
record FrameOk (d : ℕ) (ts : List Token) (f : Frame) : Type 0 where
  front : List Token
  back : List Token
  parts : ts ≡ front ++ back
  start : BeforeOk d front f.before
  rest : TermsOk d back f.branch f.atom

abbrev opener : Option Bool → Token
opener None = Open
opener (Some absent) = Ahead absent

-- the tokens before the group on top spell what the frames below it hold
abbrev StackOk : List Frame → ℕ → Option Bool → List Token → Type 0
StackOk [] d o xs = (xs ≡ []) × (d ≡ DEEPEST)
StackOk (g ∷ gs) d o xs = (under : List Token) × (bs : List Token) × (xs ≡ under ++ (bs ++ opener o ∷ [])) × StackOk gs (suc d) g.ahead under × FrameOk (suc d) bs g

stack_depth : (gs : List Frame) (d : ℕ) (o : Option Bool) (xs : List Token) → StackOk gs d o xs → d + length gs ≡ DEEPEST
stack_depth [] d o xs st = omega (arith, st.1)
stack_depth (g ∷ gs) d o xs st = omega (arith, stack_depth gs (suc d) g.ahead st.0 st.3)

terms_ok : (d : ℕ) (bs : List Token) (b : Pattern) (a : Option Pattern) → TermsOk d bs b a → IsBranch d bs (with_last patterns b a)
terms_ok d bs b None h = h
terms_ok d bs b (Some a) h = subst (λ ts. IsBranch d ts (Pattern.next b a)) (sym h.2) (term_more d h.0 h.1 b a h.3 (once d h.1 a h.4))

whole_parts : (d : ℕ) (ts front back : List Token) (before : Option Pattern) (b : Pattern) → ts ≡ front ++ back → BeforeOk d front before → IsBranch d back b → IsWhole d ts (after_bar patterns before b)
whole_parts d ts front back None b e h x = subst (λ xs. IsWhole d xs b) (sym (e ∙ ap (λ xs. xs ++ back) h)) (one_branch d back b x)
whole_parts d ts front back (Some p) b e h x = subst (λ xs. IsWhole d xs (Pattern.either p b)) (sym (e ∙ ap (λ xs. xs ++ back) h.1 ∙ append_assoc h.0 (Bar ∷ []) back)) (alternative d h.0 back p b h.2 x)

whole_ok : (d : ℕ) (ts : List Token) (f : Frame) → FrameOk d ts f → IsWhole d ts (whole patterns f)
whole_ok d ts f ok = whole_parts d ts ok.front ok.back f.before (terms patterns f) ok.parts ok.start (terms_ok d ok.back f.branch f.atom ok.rest)

atom_ok : (d : ℕ) (ts zs : List Token) (f : Frame) (a : Pattern) → FrameOk d ts f → IsAtom d zs a → FrameOk d (ts ++ zs) (with_atom patterns f a)
atom_ok d ts zs f a ok x = record { front = ok.front; back = ok.back ++ zs; parts = ap (λ xs. xs ++ zs) ok.parts ∙ append_assoc ok.front ok.back zs; start = ok.start; rest = (ok.back, zs, refl, terms_ok d ok.back f.branch f.atom ok.rest, x) }

term_ok : (d : ℕ) (ts zs : List Token) (f : Frame) (t : Pattern) → FrameOk d ts f → IsTerm d zs t → FrameOk d (ts ++ zs) (with_term patterns f t)
term_ok d ts zs f t ok x = record { front = ok.front; back = ok.back ++ zs; parts = ap (λ xs. xs ++ zs) ok.parts ∙ append_assoc ok.front ok.back zs; start = ok.start; rest = term_more d ok.back zs (terms patterns f) t (terms_ok d ok.back f.branch f.atom ok.rest) x }

bar_ok : (d : ℕ) (ys : List Token) (f : Frame) → FrameOk d ys f → FrameOk d (ys ++ Bar ∷ []) (fresh patterns f.ahead (Some (whole patterns f)))
bar_ok d ys f ok = record { front = ys ++ Bar ∷ []; back = []; parts = sym (append-nil (ys ++ Bar ∷ [])); start = (ys, refl, whole_ok d ys f ok); rest = no_term d }

fresh_ok : (d : ℕ) (o : Option Bool) → FrameOk d [] (fresh patterns o None)
fresh_ok d o = record { front = []; back = []; parts = refl; start = refl; rest = no_term d }

inside_ok : (d : ℕ) (o : Option Bool) (bs ys : List Token) (g : Frame) (q : Pattern) → FrameOk (suc d) bs g → IsWhole d ys q → FrameOk (suc d) (bs ++ (opener o ∷ (ys ++ Close ∷ []))) (inside patterns o g q)
inside_ok d None bs ys g q ok w = atom_ok (suc d) bs (Open ∷ (ys ++ Close ∷ [])) g q ok (in_group d ys q w)
inside_ok d (Some absent) bs ys g q ok w = term_ok (suc d) bs (Ahead absent ∷ (ys ++ Close ∷ [])) g (Pattern.ahead absent q) ok (looking_ahead d absent ys q w)

inside_ahead : (o : Option Bool) (g : Frame) (q : Pattern) → (inside patterns o g q).ahead ≡ g.ahead
inside_ahead None g q = refl
inside_ahead (Some absent) g q = refl

repeat_ok : (d : ℕ) (ts : List Token) (f : Frame) (low : ℕ) (high : High) (a : Pattern) → f.atom ≡ Some a → FrameOk d ts f →
    FrameOk d (ts ++ Quantifier low high ∷ []) (record { ahead = f.ahead; before = f.before; branch = Pattern.next f.branch (Pattern.repeat low high a); atom = None })
repeat_ok d ts f low high a is ok =
    let h : TermsOk d ok.back f.branch (Some a) = subst (TermsOk d ok.back f.branch) is ok.rest in
    let last : List Token = Quantifier low high ∷ [] in
    let long : (ok.back ++ last) ≡ h.0 ++ (h.1 ++ last) = ap (λ xs. xs ++ last) h.2 ∙ append_assoc h.0 h.1 last in
    let branch : IsBranch d (ok.back ++ last) (Pattern.next f.branch (Pattern.repeat low high a)) = subst (λ xs. IsBranch d xs (Pattern.next f.branch (Pattern.repeat low high a))) (sym long) (term_more d h.0 (h.1 ++ last) f.branch (Pattern.repeat low high a) h.3 (repeated d h.1 a low high h.4)) in
    record { front = ok.front; back = ok.back ++ last; parts = ap (λ xs. xs ++ last) ok.parts ∙ append_assoc ok.front ok.back last; start = ok.start; rest = branch }

-- a group was opened, and was not too deep
entered : (o : Option Bool) (ts : List Token) (f : Frame) (gs : List Frame) (p : Pattern) → elim (opened patterns o f gs) [ None ↦ None | Some h ↦ goes_on ts h.0 h.1 ] ≡ Some p → (length gs < DEEPEST) × (goes_on ts (fresh patterns o None) (f ∷ gs) ≡ Some p)
entered o ts f gs p e = go (nat_lt (length gs) DEEPEST) refl e
  where
    go : (b : Bool) → nat_lt (length gs) DEEPEST ≡ b → elim (cond {A = Option (Frame × List Frame)} b (Some (fresh patterns o None, f ∷ gs)) None) [ None ↦ None | Some h ↦ goes_on ts h.0 h.1 ] ≡ Some p → (length gs < DEEPEST) × (goes_on ts (fresh patterns o None) (f ∷ gs) ≡ Some p)
    go true t h = (ltb-true _ _ t, h)
    go false t h = absurd (none-some p h)

opened_stack : (d : ℕ) (o : Option Bool) (xs ys : List Token) (f : Frame) (gs : List Frame) → StackOk gs (suc d) f.ahead xs → FrameOk (suc d) ys f → StackOk (f ∷ gs) d o (xs ++ (ys ++ opener o ∷ []))
opened_stack d o xs ys f gs st ok = (xs, ys, refl, st, ok)

sound : (ts : List Token) (f : Frame) (gs : List Frame) (p : Pattern) (d : ℕ) (xs ys : List Token) → StackOk gs d f.ahead xs → FrameOk d ys f → goes_on ts f gs ≡ Some p → IsWhole DEEPEST (xs ++ (ys ++ ts)) p
sound [] f [] p d xs ys st ok e =
    subst (λ zs. IsWhole DEEPEST zs p) (sym (ap (λ zs. zs ++ (ys ++ [])) st.0 ∙ append-nil ys)) (subst (λ n. IsWhole n ys p) st.1 (subst (IsWhole d ys) (same_Some _ _ e) (whole_ok d ys f ok)))
sound [] f (g ∷ gs) p d xs ys st ok e = absurd (none-some p e)
sound (token.Chars cs ∷ ts) f gs p d xs ys st ok e =
    subst (λ zs. IsWhole DEEPEST (xs ++ zs) p) (append_assoc ys (token.Chars cs ∷ []) ts)
    (sound ts (with_atom patterns f (Pattern.one cs)) gs p d xs (ys ++ token.Chars cs ∷ []) st (atom_ok d ys (token.Chars cs ∷ []) f (Pattern.one cs) ok (characters d cs)) e)
sound (Start ∷ ts) f gs p d xs ys st ok e =
    subst (λ zs. IsWhole DEEPEST (xs ++ zs) p) (append_assoc ys (Start ∷ []) ts)
    (sound ts (with_term patterns f Pattern.start) gs p d xs (ys ++ Start ∷ []) st (term_ok d ys (Start ∷ []) f Pattern.start ok (at_start d)) e)
sound (Finish ∷ ts) f gs p d xs ys st ok e =
    subst (λ zs. IsWhole DEEPEST (xs ++ zs) p) (append_assoc ys (Finish ∷ []) ts)
    (sound ts (with_term patterns f Pattern.finish) gs p d xs (ys ++ Finish ∷ []) st (term_ok d ys (Finish ∷ []) f Pattern.finish ok (at_finish d)) e)
sound (Bar ∷ ts) f gs p d xs ys st ok e =
    subst (λ zs. IsWhole DEEPEST (xs ++ zs) p) (append_assoc ys (Bar ∷ []) ts)
    (sound ts (fresh patterns f.ahead (Some (whole patterns f))) gs p d xs (ys ++ Bar ∷ []) st (bar_ok d ys f ok) e)
sound (Open ∷ ts) f gs p zero xs ys st ok e = let h = entered None ts f gs p e in absurd (omega (arith, h.0, stack_depth gs zero f.ahead xs st))
sound (Open ∷ ts) f gs p (suc d) xs ys st ok e =
    let h = entered None ts f gs p e in
    subst (λ zs. IsWhole DEEPEST zs p) (append_assoc xs (ys ++ Open ∷ []) ts ∙ ap (λ zs. xs ++ zs) (append_assoc ys (Open ∷ []) ts))
    (sound ts (fresh patterns None None) (f ∷ gs) p d (xs ++ (ys ++ Open ∷ [])) [] (opened_stack d None xs ys f gs st ok) (fresh_ok d None) h.1)
sound (Ahead absent ∷ ts) f gs p zero xs ys st ok e = let h = entered (Some absent) ts f gs p e in absurd (omega (arith, h.0, stack_depth gs zero f.ahead xs st))
sound (Ahead absent ∷ ts) f gs p (suc d) xs ys st ok e =
    let h = entered (Some absent) ts f gs p e in
    subst (λ zs. IsWhole DEEPEST zs p) (append_assoc xs (ys ++ Ahead absent ∷ []) ts ∙ ap (λ zs. xs ++ zs) (append_assoc ys (Ahead absent ∷ []) ts))
    (sound ts (fresh patterns (Some absent) None) (f ∷ gs) p d (xs ++ (ys ++ Ahead absent ∷ [])) [] (opened_stack d (Some absent) xs ys f gs st ok) (fresh_ok d (Some absent)) h.1)
sound (Close ∷ ts) f [] p d xs ys st ok e = absurd (none-some p e)
sound (Close ∷ ts) f (g ∷ gs) p d xs ys st ok e =
    let group : List Token = opener f.ahead ∷ (ys ++ Close ∷ []) in
    let under : StackOk gs (suc d) (inside patterns f.ahead g (whole patterns f)).ahead st.0 = subst (λ o. StackOk gs (suc d) o st.0) (sym (inside_ahead f.ahead g (whole patterns f))) st.3 in
    let deeper = sound ts (inside patterns f.ahead g (whole patterns f)) gs p (suc d) st.0 (st.1 ++ group) under (inside_ok d f.ahead st.1 ys g (whole patterns f) st.4 (whole_ok d ys f ok)) e in
    let same : st.0 ++ ((st.1 ++ group) ++ ts) ≡ xs ++ (ys ++ Close ∷ ts) = rw st.2 (simp append_assoc) in
    subst (λ zs. IsWhole DEEPEST zs p) same deeper
sound (Quantifier low high ∷ ts) f gs p d xs ys st ok e = go (λ a is h. subst (λ zs. IsWhole DEEPEST (xs ++ zs) p) (append_assoc ys (Quantifier low high ∷ []) ts) (sound ts (record { ahead = f.ahead; before = f.before; branch = Pattern.next f.branch (Pattern.repeat low high a); atom = None }) gs p d xs (ys ++ Quantifier low high ∷ []) st (repeat_ok d ys f low high a is ok) h)) f.atom refl e
  where
    go : ((a : Pattern) → f.atom ≡ Some a → goes_on ts (record { ahead = f.ahead; before = f.before; branch = Pattern.next f.branch (Pattern.repeat low high a); atom = None }) gs ≡ Some p → IsWhole DEEPEST (xs ++ (ys ++ Quantifier low high ∷ ts)) p) →
        (o : Option Pattern) → f.atom ≡ o → elim (on_top patterns gs (quantified patterns f low high o)) [ None ↦ None | Some h ↦ goes_on ts h.0 h.1 ] ≡ Some p → IsWhole DEEPEST (xs ++ (ys ++ Quantifier low high ∷ ts)) p
    go deeper None is h = absurd (none-some p h)
    go deeper (Some a) is h = deeper a is h

pub grammar_found : (ts : List Token) (p : Pattern) → read patterns ts ≡ Some p → IsWhole DEEPEST ts p
grammar_found ts p e = sound ts (fresh patterns None None) [] p DEEPEST [] [] (refl, refl) (fresh_ok DEEPEST None) e
