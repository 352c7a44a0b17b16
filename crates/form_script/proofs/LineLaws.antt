-- What spells a command is read, and what is read is spelled so.
use Rattle.std.proofs.Common.{◌≡◌, ℕ, ◌<◌, Bool, true, false, List, [], ◌∷◌, ◌++◌, length, length-append, drop, is_some, Option, Some, None, option_map, refl, sym, ap, subst, ◌∙◌, arith, append-nil, append_assoc, ◌&&◌, if◌then◌else◌, ◌==◌}
use Rattle.std.specs.Cmp.Lexicographic.{same_text}
use Rattle.std.specs.List.{flat_map, list_all}
use Rattle.std.specs.Str.{bytes_eq}
use Rattle.std.proofs.lemmas.Bool.{eqb-true}
use Rattle.form_script.specs.Gives.{Fails}
use Rattle.form_script.specs.declared.fault.LineFault.TheVariants as faults
use Rattle.form_script.specs.declared.fault.LineFault.{LineFault}
use Rattle.form_script.specs.LineReading.{all_of, all_verbs, onto_first, pair_at, verb_in, verb_of, words_of}
use Rattle.form_script.specs.Lines.{ArePair, AreSpaced, verb_text}
use Rattle.form_script.specs.Reading.{◌>>=◌, cut}
use Rattle.form_script.specs.declared.verb.KeyVerb.TheVariants as key_verbs
use Rattle.form_script.specs.declared.verb.MarkVerb.TheVariants as mark_verbs
use Rattle.form_script.specs.declared.verb.TextVerb.TheVariants as text_verbs
use Rattle.form_script.specs.declared.verb.Verb.TheVariants as verbs
use Rattle.form_script.specs.declared.verb.Verb.{Verb}
use Rattle.form_script.proofs.CutLaws.{Parts, cut_found, cut_here, none_first}

-- ---- verbs

verb_in_found : (rest : List Verb) (word : List ℕ) (verb : Verb) → verb_in rest word ≡ Some verb → word ≡ verb_text verb
verb_in_found [] word verb h = absurd (cc)
verb_in_found (v ∷ vs) word verb h = go (bytes_eq word (verb_text v)) refl (verb_in_found vs word verb) h
  where
    go : (t : Bool) → bytes_eq word (verb_text v) ≡ t → (verb_in vs word ≡ Some verb → word ≡ verb_text verb) → (if t then Some v else verb_in vs word) ≡ Some verb → word ≡ verb_text verb
    go true e again h = let is : v ≡ verb = cc in same_text word (verb_text v) (sym e) ∙ ap verb_text is
    go false e again h = again h

pub verb_found : (word : List ℕ) (verb : Verb) → verb_of word ≡ Some verb → word ≡ verb_text verb
unfolding verb_of
verb_found word verb h = verb_in_found all_verbs word verb h

pub verb_there : (verb : Verb) → (verb_of (verb_text verb) ≡ Some verb) × (cut 32 (verb_text verb) ≡ None)
unfolding verb_of
verb_there (verbs.Key key_verbs.Check) = (refl, refl)
verb_there (verbs.Key key_verbs.Uncheck) = (refl, refl)
verb_there (verbs.Key key_verbs.Pick) = (refl, refl)
verb_there (verbs.Key key_verbs.Reset) = (refl, refl)
verb_there (verbs.Key key_verbs.Click) = (refl, refl)
verb_there (verbs.Key key_verbs.Enter) = (refl, refl)
verb_there (verbs.Key key_verbs.Submit) = (refl, refl)
verb_there (verbs.Key key_verbs.Show) = (refl, refl)
verb_there (verbs.Text text_verbs.User) = (refl, refl)
verb_there (verbs.Text text_verbs.Set) = (refl, refl)
verb_there (verbs.Text text_verbs.Text) = (refl, refl)
verb_there (verbs.Text text_verbs.Custom) = (refl, refl)
verb_there (verbs.Mark mark_verbs.SetChecked) = (refl, refl)
verb_there (verbs.Mark mark_verbs.SetSelected) = (refl, refl)
verb_there verbs.Attr = (refl, refl)
verb_there verbs.Unattr = (refl, refl)
verb_there verbs.Choose = (refl, refl)
verb_there verbs.Withdraw = (refl, refl)
verb_there verbs.ClickAt = (refl, refl)
verb_there verbs.RequestSubmit = (refl, refl)
verb_there verbs.Boundary = (refl, refl)

-- ---- two parts

pub pair_there : {A B : Type 0} (P : List ℕ → A → Type 0) (Q : List ℕ → B → Type 0) (first : List ℕ → Option A) (second : List ℕ → Option B)
    → ((t : List ℕ) (x : A) → P t x → cut 32 t ≡ None) → ((t : List ℕ) (x : A) → P t x → first t ≡ Some x) → ((t : List ℕ) (y : B) → Q t y → second t ≡ Some y)
    → (text : List ℕ) (x : A) (y : B) → ArePair P Q text x y → pair_at first second text ≡ Some (x, y)
pair_there {A} {B} P Q first second whole reads more text x y h =
    ap (pair_at first second) h.text_is
    ∙ ap (λ (o : Option Parts). o >>= λ parts. first parts.0 >>= λ x. second parts.1 >>= λ y. (let p : A × B = (x, y) in Some p)) (cut_here 32 h.first h.second (whole h.first x h.first_is))
    ∙ ap (λ (o : Option A). o >>= λ x. second h.second >>= λ y. (let p : A × B = (x, y) in Some p)) (reads h.first x h.first_is)
    ∙ ap (λ (o : Option B). o >>= λ y. (let p : A × B = (x, y) in Some p)) (more h.second y h.second_is)

pub pair_found : {A B : Type 0} (P : List ℕ → A → Type 0) (Q : List ℕ → B → Type 0) (first : List ℕ → Option A) (second : List ℕ → Option B)
    → ((t : List ℕ) (x : A) → first t ≡ Some x → P t x) → ((t : List ℕ) (y : B) → second t ≡ Some y → Q t y)
    → (text : List ℕ) (z : A × B) → pair_at first second text ≡ Some z → ArePair P Q text z.0 z.1
pair_found {A} {B} P Q first second reads more text z h = go (cut 32 text) refl h
  where
    Pair : A × B → Type 0
    Pair z = ArePair P Q text z.0 z.1

    third : (parts : Parts) → text ≡ parts.0 ++ (32 ∷ parts.1) → (x : A) → first parts.0 ≡ Some x → (o : Option B) → second parts.1 ≡ o → (o >>= λ y. (let p : A × B = (x, y) in Some p)) ≡ Some z → Pair z
    third parts e x f None g h = absurd (cc)
    third parts e x f (Some y) g h =
        let is : (let p : A × B = (x, y) in p) ≡ z = cc in
        subst Pair is (record { first = parts.0; second = parts.1; text_is = e; first_is = reads parts.0 x f; second_is = more parts.1 y g })

    next : (parts : Parts) → text ≡ parts.0 ++ (32 ∷ parts.1) → (o : Option A) → first parts.0 ≡ o → (o >>= λ x. second parts.1 >>= λ y. (let p : A × B = (x, y) in Some p)) ≡ Some z → Pair z
    next parts e None f h = absurd (cc)
    next parts e (Some x) f h = third parts e x f (second parts.1) refl h

    go : (o : Option Parts) → cut 32 text ≡ o → (o >>= λ parts. first parts.0 >>= λ x. second parts.1 >>= λ y. (let p : A × B = (x, y) in Some p)) ≡ Some z → Pair z
    go None e h = absurd (cc)
    go (Some parts) e h = next parts (cut_found 32 text parts.0 parts.1 e).0 (first parts.0) refl h

-- ---- parts with one space before each

pub words_whole : (text : List ℕ) → cut 32 text ≡ None → words_of text ≡ text ∷ []
words_whole [] h = refl
words_whole (b ∷ bs) h = go (b == 32) (none_first 32 b bs h).0 (words_whole bs (none_first 32 b bs h).1)
  where
    go : (t : Bool) → t ≡ false → words_of bs ≡ bs ∷ [] → (if t then [] ∷ words_of bs else onto_first b (words_of bs)) ≡ (b ∷ bs) ∷ []
    go true e again = absurd (cc)
    go false e again = ap (onto_first b) again

pub words_cut : (front rest : List ℕ) → cut 32 front ≡ None → words_of (front ++ (32 ∷ rest)) ≡ front ∷ words_of rest
words_cut [] rest h = refl
words_cut (b ∷ bs) rest h = go (b == 32) (none_first 32 b bs h).0 (words_cut bs rest (none_first 32 b bs h).1)
  where
    go : (t : Bool) → t ≡ false → words_of (bs ++ (32 ∷ rest)) ≡ bs ∷ words_of rest
        → (if t then [] ∷ words_of (bs ++ (32 ∷ rest)) else onto_first b (words_of (bs ++ (32 ∷ rest)))) ≡ (b ∷ bs) ∷ words_of rest
    go true e again = absurd (cc)
    go false e again = ap (onto_first b) again

abbrev after_space : List ℕ → List ℕ
after_space word = 32 ∷ word

joined_words : (text : List ℕ) → flat_map after_space (words_of text) ≡ 32 ∷ text
joined_words [] = refl
joined_words (b ∷ bs) = go (b == 32) refl (words_of bs) (joined_words bs)
  where
    more : (ws : List (List ℕ)) → flat_map after_space ws ≡ 32 ∷ bs → flat_map after_space (onto_first b ws) ≡ 32 ∷ b ∷ bs
    more [] e = absurd (cc)
    more (w ∷ ws) e = ap (λ xs. 32 ∷ b ∷ drop 1 xs) e

    go : (t : Bool) → b == 32 ≡ t → (ws : List (List ℕ)) → flat_map after_space ws ≡ 32 ∷ bs → flat_map after_space (if t then [] ∷ ws else onto_first b ws) ≡ 32 ∷ b ∷ bs
    go true e ws f = ap (λ xs. 32 ∷ xs) f ∙ ap (λ x. 32 ∷ x ∷ bs) (sym (eqb-true b 32 e))
    go false e ws f = more ws f

module _ {A : Type 0} (P : List ℕ → A → Type 0) (read : List ℕ → Option A) where
  all_found : ((t : List ℕ) (x : A) → read t ≡ Some x → P t x) → (ws : List (List ℕ)) (xs : List A) → all_of read ws ≡ Some xs → AreSpaced P (flat_map after_space ws) xs
  all_found found [] xs h = let is : [] ≡ xs = cc in subst (AreSpaced P []) is refl
  all_found found (w ∷ ws) xs h = go (read w) refl (all_found found ws) h
    where
      more : (x : A) → read w ≡ Some x → ((ys : List A) → all_of read ws ≡ Some ys → AreSpaced P (flat_map after_space ws) ys) → (o : Option (List A)) → all_of read ws ≡ o
          → (o >>= λ ys. Some (x ∷ ys)) ≡ Some xs → AreSpaced P (32 ∷ (w ++ flat_map after_space ws)) xs
      more x e again None f h = absurd (cc)
      more x e again (Some ys) f h =
          let is : x ∷ ys ≡ xs = cc in
          subst (AreSpaced P (32 ∷ (w ++ flat_map after_space ws))) is (w, flat_map after_space ws, refl, found w x e, again ys f)

      go : (o : Option A) → read w ≡ o → ((ys : List A) → all_of read ws ≡ Some ys → AreSpaced P (flat_map after_space ws) ys)
          → (o >>= λ x. all_of read ws >>= λ ys. Some (x ∷ ys)) ≡ Some xs → AreSpaced P (32 ∷ (w ++ flat_map after_space ws)) xs
      go None e again h = absurd (cc)
      go (Some x) e again h = more x e again (all_of read ws) refl h

  pub spaced_found : ((t : List ℕ) (x : A) → read t ≡ Some x → P t x) → (text : List ℕ) (xs : List A) → all_of read (words_of text) ≡ Some xs → AreSpaced P (32 ∷ text) xs
  spaced_found found text xs h = subst (λ t. AreSpaced P t xs) (joined_words text) (all_found found (words_of text) xs h)

  pub spaced_there : ((t : List ℕ) (x : A) → P t x → cut 32 t ≡ None) → ((t : List ℕ) (x : A) → P t x → read t ≡ Some x)
      → (text : List ℕ) (xs : List A) → AreSpaced P (32 ∷ text) xs → all_of read (words_of text) ≡ Some xs
  spaced_there whole reads text [] h = absurd (cc)
  spaced_there whole reads text (x ∷ []) h =
      let rest : h.1 ≡ [] = h.4 in
      let is : text ≡ h.0 = ap (drop 1) h.2 ∙ ap (λ r. h.0 ++ r) rest ∙ append-nil h.0 in
      ap (λ t. all_of read (words_of t)) is ∙ ap (all_of read) (words_whole h.0 (whole h.0 x h.3)) ∙ ap (λ (o : Option A). o >>= λ x. Some (x ∷ [])) (reads h.0 x h.3)
  spaced_there whole reads text (x ∷ y ∷ ys) h =
      let after : List ℕ = h.4.0 ++ h.4.1 in
      let rest : h.1 ≡ 32 ∷ after = h.4.2 in
      let is : text ≡ h.0 ++ (32 ∷ after) = ap (drop 1) h.2 ∙ ap (λ r. h.0 ++ r) rest in
      let again : all_of read (words_of after) ≡ Some (y ∷ ys) = spaced_there whole reads after (y ∷ ys) (h.4.0, h.4.1, refl, h.4.3, h.4.4) in
      ap (λ t. all_of read (words_of t)) is ∙ ap (all_of read) (words_cut h.0 after (whole h.0 x h.3))
      ∙ ap (λ (o : Option A). o >>= λ x. all_of read (words_of after) >>= λ xs. Some (x ∷ xs)) (reads h.0 x h.3)
      ∙ ap (λ (o : Option (List A)). o >>= λ xs. Some (x ∷ xs)) again

-- ---- all words, one by one

words_all : (text front rest : List ℕ) → Some (front, rest) ≡ cut 32 text → words_of text ≡ front ∷ words_of rest
words_all text front rest e = let found = cut_found 32 text front rest (sym e) in ap words_of found.0 ∙ words_cut front rest found.1

pub rest_short : (text front rest : List ℕ) → Some (front, rest) ≡ cut 32 text → length rest < length text
rest_short text front rest e =
    let found = cut_found 32 text front rest (sym e) in
    subst (λ t. length rest < length t) (sym found.0) (omega (arith, length-append front (32 ∷ rest)))

and_true : (t : Bool) → (t && true) ≡ t
and_true true = refl
and_true false = refl

pub pass_cut : (p : List ℕ → Bool) (whole : Bool) (text front rest : List ℕ) → whole ≡ list_all p (words_of text) → Some (front, rest) ≡ cut 32 text → true ≡ p front → whole ≡ list_all p (words_of rest)
pass_cut p whole text front rest w e h = w ∙ ap (list_all p) (words_all text front rest e) ∙ ap (λ t. t && list_all p (words_of rest)) (sym h)

pub pass_not : (p : List ℕ → Bool) (whole : Bool) (text front rest : List ℕ) → whole ≡ list_all p (words_of text) → Some (front, rest) ≡ cut 32 text → false ≡ p front → false ≡ whole
pass_not p whole text front rest w e h = sym (w ∙ ap (list_all p) (words_all text front rest e) ∙ ap (λ t. t && list_all p (words_of rest)) (sym h))

pub pass_last : (p : List ℕ → Bool) (whole : Bool) (text : List ℕ) → whole ≡ list_all p (words_of text) → None ≡ cut 32 text → p text ≡ whole
pass_last p whole text w e = sym (w ∙ ap (list_all p) (words_whole text (sym e)) ∙ and_true (p text))

pub some_all : {A : Type 0} (read : List ℕ → Option A) (words : List (List ℕ)) → list_all (λ word. is_some (read word)) words ≡ is_some (all_of read words)
some_all read [] = refl
some_all {A} read (word ∷ words) = go (read word) (all_of read words) (some_all read words)
  where
    go : (o : Option A) (os : Option (List A)) → list_all (λ word. is_some (read word)) words ≡ is_some os
        → (is_some o && list_all (λ word. is_some (read word)) words) ≡ is_some (o >>= λ x. os >>= λ xs. Some (x ∷ xs))
    go None os h = refl
    go (Some x) None h = h
    go (Some x) (Some xs) h = h

module _ {A : Type 0} (read : List ℕ → Option A) where
  abbrev Reads : Option (List A) → List A → List ℕ → Type 0
  Reads whole done text = whole ≡ option_map (λ xs. done ++ xs) (all_of read (words_of text))

  moved : (done : List A) (x : A) (o : Option (List A)) → option_map (λ xs. done ++ xs) (o >>= λ xs. Some (x ∷ xs)) ≡ option_map (λ xs. (done ++ (x ∷ [])) ++ xs) o
  moved done x None = refl
  moved done x (Some xs) = ap Some (sym (append_assoc done (x ∷ []) xs))

  pub read_on : (whole : Option (List A)) (done more : List A) (text front rest : List ℕ) (x : A) → Reads whole done text → Some (front, rest) ≡ cut 32 text → Some x ≡ read front → more ≡ done ++ (x ∷ []) → Reads whole more rest
  read_on whole done more text front rest x w e h is =
      subst (λ m. Reads whole m rest) (sym is)
      (w ∙ ap (λ ws. option_map (λ xs. done ++ xs) (all_of read ws)) (words_all text front rest e)
      ∙ ap (λ (o : Option A). option_map (λ xs. done ++ xs) (o >>= λ x. all_of read (words_of rest) >>= λ xs. Some (x ∷ xs))) (sym h)
      ∙ moved done x (all_of read (words_of rest)))

  pub read_fails : (whole : Option (List A)) (done : List A) (text front rest : List ℕ) → Reads whole done text → Some (front, rest) ≡ cut 32 text → read front ≡ None → whole ≡ None
  read_fails whole done text front rest w e h =
      w ∙ ap (λ ws. option_map (λ xs. done ++ xs) (all_of read ws)) (words_all text front rest e)
      ∙ ap (λ (o : Option A). option_map (λ xs. done ++ xs) (o >>= λ x. all_of read (words_of rest) >>= λ xs. Some (x ∷ xs))) h

  pub read_last : (whole : Option (List A)) (done more : List A) (text : List ℕ) (x : A) → Reads whole done text → None ≡ cut 32 text → Some x ≡ read text → more ≡ done ++ (x ∷ []) → whole ≡ Some more
  read_last whole done more text x w e h is =
      w ∙ ap (λ ws. option_map (λ xs. done ++ xs) (all_of read ws)) (words_whole text (sym e))
      ∙ ap (λ (o : Option A). option_map (λ xs. done ++ xs) (o >>= λ x. Some (x ∷ []))) (sym h) ∙ ap Some (sym is)

  pub last_fails : (whole : Option (List A)) (done : List A) (text : List ℕ) → Reads whole done text → None ≡ cut 32 text → read text ≡ None → whole ≡ None
  last_fails whole done text w e h =
      w ∙ ap (λ ws. option_map (λ xs. done ++ xs) (all_of read ws)) (words_whole text (sym e))
      ∙ ap (λ (o : Option A). option_map (λ xs. done ++ xs) (o >>= λ x. Some (x ∷ []))) h

  pub failed_on : (fault : LineFault) (whole : Option (List A)) (done : List A) (text front rest : List ℕ) → Reads whole done text → Some (front, rest) ≡ cut 32 text → Fails fault (read front) → Fails fault whole
  failed_on faults.Syntax whole done text front rest w e h = read_fails whole done text front rest w e h
  failed_on faults.Memory whole done text front rest w e h = tt

  pub failed_last : (fault : LineFault) (whole : Option (List A)) (done : List A) (text : List ℕ) → Reads whole done text → None ≡ cut 32 text → Fails fault (read text) → Fails fault whole
  failed_last faults.Syntax whole done text w e h = last_fails whole done text w e h
  failed_last faults.Memory whole done text w e h = tt
