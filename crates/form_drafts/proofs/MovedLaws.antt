-- The owners of the elements so far, by the moves from those of the page.
use Rattle.std.proofs.Common.{◌≡◌, ℕ, ◌+◌, ◌<◌, suc, add-one, drop, Bool, true, false, not, ◌&&◌, cond, List, [], ◌∷◌, length, map, get_or, Option, Some, None, Result, unwrap_or, refl, sym, ap, ◌∙◌, subst, codes, arith}
use Rattle.std.specs.BTreeMap.{get}
use Rattle.std.specs.List.{filter}
use Rattle.std.specs.Option.{option_map_or}
use Rattle.std.specs.Result.{OnOk}
use Rattle.std.proofs.lemmas.Result.{on_ok_weaker}
use Rattle.std.specs.Ordering.{is_eq, nat_cmp}
use Rattle.std.specs.Cmp.{unsigned_tied}
use Rattle.std.proofs.Math.Seq.{drop-cons}
use Rattle.std.proofs.lemmas.Option.{none-some}
use Rattle.form_tree.proofs.Laws.{key_same, owner_same, passes_found, same_key-sym}
use Rattle.form_tree.specs.declared.node.Key.{Key}
use Rattle.form_tree.specs.declared.node.Node.{Node}
use Rattle.form_tree.specs.Elements.{is_input, is_listed, passes, same_key, same_owner}
use Rattle.form_tree.specs.Ownership.{owner_by, owner_of}
use Rattle.form_tree.specs.Tree.{IsTree, Nodes, at_key, attr_of, is_key}
use Rattle.form_owner.specs.declared.moves.Move.{Move}
use Rattle.form_owner.specs.Owners.{is_moved, move_of, moves_between}
use Rattle.form_page.specs.Settling.{moved_inputs, with_radios}
use Rattle.form_drafts.proofs.KeyPlaces.{at_place, keys_differ}
use Rattle.form_drafts.proofs.SoFarLaws.{frame_none}
use Rattle.form_drafts.specs.Drafts.{AreFramed, AreOwnedBy, Draft, Moved, becomes_by, framed}

abbrev keys : Nodes → List Key
keys ns = map (λ n. n.key) ns

-- nobody owns what is not there
owner_none : (ns : Nodes) (k : Key) → at_key ns k ≡ None → owner_of ns k ≡ None
owner_none ns k none = ap (λ (b : Bool). cond b (owner_by ns k (attr_of ns k (codes "form"))) None) (ap (λ (o : Option Node). option_map_or is_listed o false) none)

module _ (before after : Nodes) where
  -- what was found so far says the owner of a key
  abbrev Says : Key → Option (Option Key) → Type 0
  Says k so_far = unwrap_or so_far (owner_of before k) ≡ owner_of after k

  abbrev moves : Nodes → List Move
  moves ns = map (move_of before after) (filter (is_moved before after) ns)

  -- further moves say it too
  still_says : (k : Key) (ns : Nodes) (so_far : Option (Option Key)) → Says k so_far → Says k (becomes_by (moves ns) so_far k)
  still_says k [] so_far says = says
  still_says k (n ∷ ns) so_far says = go (still_says k ns) (is_moved before after n)
    where
      one : (b : Bool) → same_key n.key k ≡ b → Says k (cond b (Some (owner_of after n.key)) so_far)
      one true e = ap (owner_of after) (key_same n.key k e)
      one false e = says

      go : ((x : Option (Option Key)) → Says k x → Says k (becomes_by (moves ns) x k)) → (b : Bool) → Says k (becomes_by (map (move_of before after) (cond b (n ∷ filter (is_moved before after) ns) (filter (is_moved before after) ns))) so_far k)
      go more true = more (cond (same_key n.key k) (Some (owner_of after n.key)) so_far) (one (same_key n.key k) refl)
      go more false = more so_far says

  -- the move of the key itself says it
  moved_says : (k : Key) → not (same_owner (owner_of before k) (owner_of after k)) ≡ true → (ns : Nodes) (so_far : Option (Option Key)) (n : Node) → at_key ns k ≡ Some n → Says k (becomes_by (moves ns) so_far k)
  moved_says k moved [] so_far n found = absurd (none-some n found)
  moved_says k moved (x ∷ xs) so_far n found = go (moved_says k moved xs) (is_key k x) refl found
    where
      with_first : Bool → Option (Option Key)
      with_first b = becomes_by (map (move_of before after) (cond b (x ∷ filter (is_moved before after) xs) (filter (is_moved before after) xs))) so_far k

      go : ((y : Option (Option Key)) (m : Node) → at_key xs k ≡ Some m → Says k (becomes_by (moves xs) y k)) → (b : Bool) → is_key k x ≡ b → cond b (Some x) (at_key xs k) ≡ Some n → Says k (with_first (is_moved before after x))
      go more true e h =
          let same : k ≡ x.key = key_same k x.key e in
          let is_same : same_key x.key k ≡ true = same_key-sym x.key k ∙ e in
          subst (λ (b : Bool). Says k (with_first b)) (sym (subst (λ (j : Key). not (same_owner (owner_of before j) (owner_of after j)) ≡ true) same moved))
          (still_says k xs (cond (same_key x.key k) (Some (owner_of after x.key)) so_far)
          (subst (λ (b : Bool). Says k (cond b (Some (owner_of after x.key)) so_far)) (sym is_same) (ap (owner_of after) (sym same))))
      go more false e h = either (is_moved before after x)
        where
          either : (b : Bool) → Says k (with_first b)
          either true = more (cond (same_key x.key k) (Some (owner_of after x.key)) so_far) n h
          either false = more so_far n h

  -- all moves say it of every key
  all_say : AreFramed after before → (k : Key) → Says k (becomes_by (moves before) None k)
  all_say like k = go (same_owner (owner_of before k) (owner_of after k)) refl
    where
      go : (b : Bool) → same_owner (owner_of before k) (owner_of after k) ≡ b → Says k (becomes_by (moves before) None k)
      go true e = still_says k before None (owner_same (owner_of before k) (owner_of after k) e)
      go false e = at (at_key before k) refl
        where
          at : (o : Option Node) → at_key before k ≡ o → Says k (becomes_by (moves before) None k)
          at None none = still_says k before None (owner_none before k none ∙ sym (owner_none after k (frame_none after before like k none)))
          at (Some n) found = moved_says k (ap not e) before None n found

  pub owned_by_moves : AreFramed after before → (moved : Moved) → ((k : Key) → get nat_cmp moved k.0 ≡ becomes_by (moves_between before after) None k) → AreOwnedBy after before moved
  owned_by_moves like moved told k = sym (ap (λ (o : Option (Option Key)). unwrap_or o (owner_of before k)) (told k) ∙ all_say like k)

  -- ---- the inputs that moved

  abbrev goes : Key → Bool
  goes k = not (same_owner (owner_of before k) (owner_of after k))

  inputs_framed : (ns : Nodes) → keys (filter (λ n. is_input n && goes n.key) (map framed ns)) ≡ keys (filter (λ n. is_input n && goes n.key) ns)
  inputs_framed [] = refl
  inputs_framed (n ∷ ns) = go (inputs_framed ns) (is_input n && goes n.key)
    where
      go : keys (filter (λ m. is_input m && goes m.key) (map framed ns)) ≡ keys (filter (λ m. is_input m && goes m.key) ns) → (b : Bool) → keys (cond b (framed n ∷ filter (λ m. is_input m && goes m.key) (map framed ns)) (filter (λ m. is_input m && goes m.key) (map framed ns))) ≡ keys (cond b (n ∷ filter (λ m. is_input m && goes m.key) ns) (filter (λ m. is_input m && goes m.key) ns))
      go more true = ap (λ (rest : List Key). n.key ∷ rest) more
      go more false = more

  abbrev input_keys : List Move → List Key
  input_keys ms = map (λ m. m.key) (filter (λ m. passes is_input before m.key) ms)

  inputs_found : (xs : Nodes) → ((i : ℕ) (d : Node) → i < length xs → at_key before (get_or xs i d).key ≡ Some (get_or xs i d)) → input_keys (moves xs) ≡ keys (filter (λ n. is_input n && goes n.key) xs)
  inputs_found [] own = refl
  inputs_found (x ∷ xs) own = go (inputs_found xs (λ i d below. own (suc i) d (omega arith))) (goes x.key) (is_input x) (passes_found is_input before x.key x (own 0 x (omega arith)))
    where
      rest : Nodes
      rest = filter (λ n. is_input n && goes n.key) xs

      first : Bool → List Key
      first c = map (λ (m : Move). m.key) (cond c (move_of before after x ∷ filter (λ m. passes is_input before m.key) (moves xs)) (filter (λ m. passes is_input before m.key) (moves xs)))

      go : input_keys (moves xs) ≡ keys rest → (a b : Bool) → passes is_input before x.key ≡ b → input_keys (map (move_of before after) (cond a (x ∷ filter (is_moved before after) xs) (filter (is_moved before after) xs))) ≡ keys (cond (b && a) (x ∷ rest) rest)
      go more true true e = ap first e ∙ ap (λ (ks : List Key). x.key ∷ ks) more
      go more true false e = ap first e ∙ more
      go more false true e = more
      go more false false e = more

  pub inputs_moved : IsTree before → AreFramed after before → input_keys (moves_between before after) ≡ moved_inputs before after
  inputs_moved tree like =
      inputs_found before (λ i d below. at_place before (keys_differ before tree) i d below)
      ∙ sym (inputs_framed before) ∙ ap (λ (ns : Nodes). keys (filter (λ n. is_input n && goes n.key) ns)) (sym like) ∙ inputs_framed after

-- ---- the owners that elements have come to

abbrev pub no_move : Move
no_move = record { key = record { 0 = 0 }; was = None; becomes = None }

-- one move more
pub moved_more : (moves : List Move) (i : ℕ) (d m : Move) → i < length moves → m ≡ get_or moves i d → (moved with_next : Moved) → ((q : ℕ) → get nat_cmp with_next q ≡ cond (is_eq (nat_cmp m.key.0 q)) (Some m.becomes) (get nat_cmp moved q))
    → ((k : Key) → becomes_by (drop i moves) (get nat_cmp moved k.0) k ≡ becomes_by moves None k) → (k : Key) → becomes_by (drop (i + 1) moves) (get nat_cmp with_next k.0) k ≡ becomes_by moves None k
moved_more moves i d m below read moved with_next told so_far k =
    rw add-one (
    ap (λ (o : Option (Option Key)). becomes_by (drop (suc i) moves) o k) (told k.0 ∙ ap (λ (b : Bool). cond b (Some m.becomes) (get nat_cmp moved k.0)) (unsigned_tied m.key.0 k.0))
    ∙ ap (λ (ms : List Move). becomes_by ms (get nat_cmp moved k.0) k) (ap (λ (x : Move). x ∷ drop (suc i) moves) read ∙ sym (drop-cons moves i d below))
    ∙ so_far k)

-- the draft after the inputs that moved were taken
pub moved_done : {T E : Type 0} (r : Result T E) (draft next : Draft) (read : Nodes) (moves : List Move) (ks lent : List Key) → read ≡ draft.page.tree.nodes → IsTree read → AreFramed draft.nodes draft.page.tree.nodes → moves ≡ moves_between draft.page.tree.nodes draft.nodes
    → ks ≡ map (λ m. m.key) (filter (λ m. passes is_input read m.key) moves) → lent ≡ ks → OnOk r (next ≡ record draft { nodes = with_radios draft.nodes lent }) → OnOk r (next ≡ record draft { nodes = with_radios draft.nodes (moved_inputs draft.page.tree.nodes draft.nodes) })
moved_done r draft next read moves ks lent same tree like are listed is made =
    on_ok_weaker r
    (λ e. e ∙ ap (λ (js : List Key). let x : Draft = record draft { nodes = with_radios draft.nodes js } in x)
    (is ∙ listed ∙ ap (λ (ns : Nodes). input_keys ns draft.nodes moves) same ∙ ap (input_keys draft.page.tree.nodes draft.nodes) are
    ∙ inputs_moved draft.page.tree.nodes draft.nodes (subst (λ (ns : Nodes). IsTree ns) same tree) like))
    made
