-- Where a walk in a trie of whole keys ends.
use Rattle.std.proofs.Common.{◌≡◌, ◌<◌, ◌≤◌, ℕ, List, [], ◌∷◌, ◌++◌, Bool, true, false, not, ◌&&◌, cond, length, take, get_or, sym, ap, subst, ◌∙◌, arith, inl, inr, length-append}
use Rattle.std.specs.Prelude.{Some, None, count_by}
use Rattle.std.specs.List.{Contains, list_any}
use Rattle.std.proofs.Math.Seq.{take-length}
use Rattle.std.proofs.lemmas.Bool.{and_parts, false_from_ne_true, not-true}
use Rattle.std.proofs.lemmas.List.{append-nil, get_or_default, get_or-map, length-map, length-take-le}
use Rattle.std.proofs.lemmas.List.Elements.{All-contains, Contains-get_or}
use Rattle.byte_fields.specs.Spelling.{IsBytes}
use Rattle.filter_model.proofs.Counts.{count_by-cons, count_none}
use Rattle.filter_model.proofs.Pairs.{Contains-cases, Contains-map, Contains-nil}
use Rattle.filter_model.proofs.Shared.{extends-prefix, extends_longer}
use Rattle.filter_model.proofs.Stubs.{IsBytes-take}
use Rattle.filter_model.specs.Image.{in_slots}
use Rattle.filter_model.specs.Keys.{IsKeyList}
use Rattle.filter_model.specs.Leaves.{Leaf}
use Rattle.filter_model.specs.Strings.{extends, is_prefix}
use Rattle.filter_model.specs.Trie.{END, path, slots}
use Rattle.filter_model.specs.Valid.{IsLeaf}
use Rattle.filter_trie.proofs.Reached.{found, prefix_refl, prefix_take}
use Rattle.filter_trie.specs.Walks.{IsSlotAt, ReachesLeaf}
use Rattle.fst_map.proofs.Strings.{begins_longer, ended, ended_alike, ended_begins}
use Rattle.fst_map.specs.Slots.{IsSlotOfKey}
use Rattle.map_file_model.proofs.Slotted.{held, same_leaf, tries}
use Rattle.map_file_model.specs.Maps.{Bytes, slotted}
use Rattle.trie_laws.proofs.Paths.{any_leaf, take_extends}
use Rattle.trie_laws.proofs.Slots.{leaves_have_slots}
use Rattle.trie_model.specs.Walks.{slot_of_key}
use Rattle.whole_keys.proofs.Answered.{one_is_run_past}
use Rattle.whole_keys.proofs.Listed.{keys_are_leaf_list, stubs_are}
use Rattle.whole_keys.specs.Whole.{runs_past, whole_leaf, whole_leaves}

count_some : {X : Type 0} (p : X → Bool) (xs : List X) (x : X) → Contains xs x → p x ≡ true → 1 ≤ count_by p xs
count_some p [] x c e = absurd (Contains-nil x c)
count_some {X} p (y ∷ ys) x c e = elim (Contains-cases y ys x c) [
  | inl here ↦
      let one : cond {A = ℕ} (p y) 1 0 ≡ 1 = ap (λ (t : Bool). cond {A = ℕ} t 1 0) (ap p here ∙ e) in omega (arith, count_by-cons p y ys, one)
  | inr there ↦ omega (arith, count_by-cons p y ys, count_some p ys x there e)
]

some_alike : (m n : ℕ) → Some m ≡ Some n → m ≡ n
some_alike m n e = cc

none_alike : (n : ℕ) → Some n ≡ None → ⊥
none_alike n e = cc

-- a key in its slot, from which another one goes on or not
pub record IsKeyAt (keys : List Bytes) (slot : ℕ) (key : Bytes) (goes_on : Bool) : Type 0 where
  pub is_key : Contains keys key
  pub ends : list_any (extends key) keys ≡ goes_on
  pub at : IsSlotOfKey keys key slot

-- the string of the slot where a walk by x ends, behind so many bytes
record IsMet (ls : List Leaf) (x : Bytes) (slot stub : ℕ) (q : List ℕ) : Type 0 where
  there : IsSlotAt ls slot q
  begins : is_prefix q (x ++ END ∷ []) ≡ true
  long : stub ≤ length q

met : (ls : List Leaf) (x : Bytes) (slot stub : ℕ) → ReachesLeaf ls x slot stub → stub ≤ length x → (q : List ℕ) × IsMet ls x slot stub q
met ls x slot stub (inl a) le =
    (take stub x, record { there = a; begins = prefix_take stub x (END ∷ []); long = omega (arith, length-take-le stub x le) })
met ls x slot stub (inr a) le =
    (x ++ END ∷ [], record { there = a.1; begins = prefix_refl (x ++ END ∷ []); long = omega (arith, length-append x (END ∷ []), le) })

module _ (keys : List Bytes) (h : IsKeyList keys) where
  abbrev leaves : List Leaf
  leaves = whole_leaves keys

  -- the key of a slot is what its path spells
  pub key_at : (slot : ℕ) (key : Bytes) (e : Bool) → IsBytes key → IsSlotAt leaves slot (key ++ ended e) → IsKeyAt keys slot key e
  unfolding slotted path
  key_at slot key e w at =
      let s = leaves_have_slots leaves (tries keys h) in
      let size : slot < length (in_slots leaves) = omega (arith, at.within, ap length s.leaf_of_slot, length-map (in_slots leaves) path) in
      let l = get_or (in_slots leaves) slot any_leaf in
      let cl = held keys h l (Contains-get_or (in_slots leaves) slot any_leaf size) in
      let bytes = (All-contains (IsLeaf 0 0) leaves l (keys_are_leaf_list keys h).leaves cl).stub.bytes in
      let spelled : l.stub ++ ended l.ends ≡ key ++ ended e =
      sym (get_or-map path (in_slots leaves) slot any_leaf [] size) ∙ ap (λ (qs : List (List ℕ)). get_or qs slot []) s.leaf_of_slot ∙ at.is in
      let alike = ended_alike l.stub key l.ends e bytes w spelled in
      let own = same_leaf keys l cl in
      let its = subst (λ (ks : List Bytes). Contains ks l.stub) (stubs_are keys) (Contains-map (λ (o : Leaf). o.stub) leaves l cl) in
      record {
        is_key = subst (Contains keys) alike.1 its;
        ends = sym (ap (λ (k : Bytes). list_any (extends k) keys) alike.1) ∙ ap (λ (o : Leaf). o.ends) own ∙ alike.0;
        at = record {
          within = omega (arith, at.within, s.as_many, length-map keys (whole_leaf keys));
          is = get_or-map (λ (o : Leaf). o.stub) (in_slots leaves) slot any_leaf [] size ∙ alike.1;
        };
      }

  -- and each key has one
  slot_of : (k : Bytes) → Contains keys k → (s : ℕ) × IsSlotAt leaves s (k ++ ended (list_any (extends k) keys))
  unfolding path
  slot_of k c =
      let l = whole_leaf keys k in
      let s = leaves_have_slots leaves (tries keys h) in
      let there = All-contains (λ (o : Leaf). Contains (slots leaves) (path o)) leaves l s.slot_of_leaf (Contains-map (whole_leaf keys) keys k c) in
      (there.0, record { within = there.1; is = get_or_default (slots leaves) there.0 [] (path l) there.1 ∙ there.2 })

  -- a walk by x ends there where its path begins x
  reached : (x k : Bytes) (c : Contains keys k) → is_prefix (k ++ ended (list_any (extends k) keys)) (x ++ END ∷ []) ≡ true
      → Some (slot_of k c).0 ≡ slot_of_key leaves x
  reached x k c e = let s = slot_of k c in found leaves (tries keys h) x s.0 (k ++ ended (list_any (extends k) keys)) s.1 e

  -- and nowhere else
  one_met : (x k : Bytes) (c : Contains keys k) (slot stub : ℕ) → is_prefix (k ++ ended (list_any (extends k) keys)) (x ++ END ∷ []) ≡ true
      → ReachesLeaf leaves x slot stub → stub ≤ length x → stub ≤ length (k ++ ended (list_any (extends k) keys))
  one_met x k c slot stub e at le =
      let q = met leaves x slot stub at le in
      let s = slot_of k c in
      let same = some_alike slot s.0 (found leaves (tries keys h) x slot q.0 q.1.there q.1.begins ∙ sym (reached x k c e)) in
      let one : q.0 ≡ k ++ ended (list_any (extends k) keys) = sym q.1.there.is ∙ ap (λ (n : ℕ). get_or (slots leaves) n []) same ∙ s.1.is in
      omega (arith, q.1.long, ap (λ (l : List ℕ). length l) one)

  -- ---- a key

  pub unmet_is_no_key : (x : Bytes) → None ≡ slot_of_key leaves x → Contains keys x → ⊥
  unmet_is_no_key x none c = none_alike (slot_of x c).0 (reached x x c (ended_begins x (list_any (extends x) keys)) ∙ sym none)

  pub whole_is_key : (x : Bytes) (slot stub : ℕ) → IsBytes x → ReachesLeaf leaves x slot stub → stub ≡ length x → IsSlotOfKey keys x slot
  whole_is_key x slot stub w (inl a) same =
      let all : take stub x ≡ x ++ ended false = ap (λ (n : ℕ). take n x) same ∙ take-length x ∙ sym (append-nil x) in
      (key_at slot x false w (record { within = a.within; is = a.is ∙ all })).at
  whole_is_key x slot stub w (inr a) same = (key_at slot x true w a.1).at

  -- a walk that ends before the last byte of x: there ends a key that x runs past, and x is none
  pub short_is_past : (x : Bytes) (slot stub : ℕ) → IsBytes x → ReachesLeaf leaves x slot stub → stub < length x
      → Contains keys (take stub x) × (runs_past keys x (take stub x) ≡ true)
  short_is_past x slot stub w (inl a) lt =
      let at = key_at slot (take stub x) false (IsBytes-take stub x w) (record { within = a.within; is = a.is ∙ sym (append-nil (take stub x)) }) in
      (at.is_key, λ i. not (at.ends i) && take_extends stub x lt i)
  short_is_past x slot stub w (inr a) lt = absurd (omega (arith, a.0, lt))

  pub short_is_no_key : (x : Bytes) (slot stub : ℕ) → IsBytes x → ReachesLeaf leaves x slot stub → stub < length x → Contains keys x → ⊥
  short_is_no_key x slot stub w (inl a) lt c =
      let at = slot_of x c in
      let mine = reached x x c (ended_begins x (list_any (extends x) keys)) in
      let theirs = found leaves (tries keys h) x slot (take stub x) a (prefix_take stub x (END ∷ [])) in
      let same = some_alike slot at.0 (theirs ∙ sym mine) in
      let one : take stub x ≡ x ++ ended (list_any (extends x) keys) = sym a.is ∙ ap (λ (n : ℕ). get_or (slots leaves) n []) same ∙ at.1.is in
      absurd (omega (arith, ap (λ (l : List ℕ). length l) one, length-take-le stub x (omega (arith, lt)), length-append x (ended (list_any (extends x) keys)), lt))
  short_is_no_key x slot stub w (inr a) lt c = absurd (omega (arith, a.0, lt))

  -- ---- keys that a string runs past

  pub one_past : (x : Bytes) (slot stub : ℕ) → IsBytes x → ReachesLeaf leaves x slot stub → stub < length x → count_by (runs_past keys x) keys ≡ 1
  one_past x slot stub w at lt =
      let past = short_is_past x slot stub w at lt in
      let most = one_is_run_past keys x h in
      omega (arith, most, count_some (runs_past keys x) keys (take stub x) past.0 past.1)

  past_begins : (x k : Bytes) → runs_past keys x k ≡ true
      → (is_prefix (k ++ ended (list_any (extends k) keys)) (x ++ END ∷ []) ≡ true) × (length (k ++ ended (list_any (extends k) keys)) < length x)
  past_begins x k runs =
      let parts = and_parts (not (list_any (extends k) keys)) (extends k x) runs in
      let last : k ++ ended (list_any (extends k) keys) ≡ k =
      ap (λ (e : Bool). k ++ ended e) (not-true (list_any (extends k) keys) parts.0) ∙ append-nil k in (
        ap (λ (y : List ℕ). is_prefix y (x ++ END ∷ [])) last ∙ begins_longer k x (END ∷ []) (extends-prefix k x parts.1),
        omega (arith, ap (λ (l : List ℕ). length l) last, extends_longer k x parts.1),
      )

  pub unmet_is_past_none : (x : Bytes) → None ≡ slot_of_key leaves x → count_by (runs_past keys x) keys ≡ 0
  unmet_is_past_none x none =
      count_none (runs_past keys x) keys (λ k c. false_from_ne_true (runs_past keys x k) (λ runs.
      none_alike (slot_of k c).0 (reached x k c (past_begins x k runs).0 ∙ sym none)))

  pub whole_is_past_none : (x : Bytes) (slot stub : ℕ) → ReachesLeaf leaves x slot stub → stub ≡ length x → count_by (runs_past keys x) keys ≡ 0
  whole_is_past_none x slot stub at same =
      count_none (runs_past keys x) keys (λ k c. false_from_ne_true (runs_past keys x k) (λ runs.
      let begins = past_begins x k runs in
      absurd (omega (arith, same, begins.1, one_met x k c slot stub begins.0 at (omega (arith, same))))))
