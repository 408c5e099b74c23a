-- The pair where a cursor stands.
use Rattle.std.proofs.Common.{◌≡◌, ◌<◌, ◌≤◌, ◌+◌, ◌^◌, ℕ, zero, suc, List, [], ◌∷◌, ◌++◌, Bool, true, false, cond, Option, Some, length, get_or, take, drop, map, sym, ap, subst, ◌∙◌, arith, inl, inr}
use Rattle.std.specs.Prelude.{◌-◌, ◌↔◌, IfSome, IsTrue, if◌then◌else◌, slice_get, slice_index_or}
use Rattle.std.specs.List.{AllPairs}
use Rattle.std.specs.Option.{option_map}
use Rattle.std.proofs.Math.Seq.{take-append_seam}
use Rattle.std.proofs.lemmas.Bool.{cases_lt, false≢true}
use Rattle.std.proofs.lemmas.List.{get_or-map, length-map}
use Rattle.std.proofs.lemmas.List.Elements.{All-contains, Contains-get_or}
use Rattle.std.proofs.lemmas.Option.{slice_get-get_or, slice_get-map}
use Rattle.filter_iter.specs.Cursors.{IsSlotOf, Standing, moved as goes}
use Rattle.filter_model.proofs.Counts.{AllPairs-head, AllPairs-tail}
use Rattle.filter_model.proofs.Fronts.{same-itself}
use Rattle.filter_model.proofs.Stubs.{same-false}
use Rattle.filter_model.specs.Keys.{IsKey}
use Rattle.filter_model.specs.Leaves.{Leaf}
use Rattle.filter_model.specs.Trie.{path}
use Rattle.filter_model.specs.Valid.{IsLeaf, IsLeafList}
use Rattle.filter_trie.specs.Walks.{IsSlotAt}
use Rattle.fst_map.proofs.Asked.{as_many, got, its_keys, key_list, leaf_list, slot_fits, slot_low}
use Rattle.fst_map.proofs.Strings.{ended}
use Rattle.fst_map.proofs.Walks.{key_at}
use Rattle.fst_map.specs.Places.{IsAt, IsWritten}
use Rattle.fst_map.specs.Slots.{IsSlotOfKey}
use Rattle.fst_map.specs.Opened.{IsOpened}
use Rattle.map_file_model.proofs.Slotted.{keys_once}
use Rattle.map_file_model.specs.Maps.{Bytes, Map, get, keys_of}
use Rattle.map_file_model.specs.Reading.{map_in, values_in}
use Rattle.map_parts.specs.declared.parts.Parts.{Parts}
use Rattle.trie_laws.proofs.Paths.{any_leaf}
use Rattle.trie_levels.proofs.Distinct.{Apart}
use Rattle.whole_keys.proofs.Listed.{lists_are_whole}
use Rattle.whole_keys.specs.Whole.{stubs, whole_leaves}

-- ---- a key that is written

pub written_by : (ls : List Leaf) (v : IsLeafList 0 0 ls) (n : ℕ) (out old : Bytes) (len : ℕ) → n < length ls → IfSome (slice_get ls n) (λ l. out ≡ l.stub ++ drop len old)
    → IfSome (slice_get ls n) (λ l. len ≡ length l.stub) → IsWritten (stubs ls) n out len
written_by ls v n out old len within spelled counted =
    let l = get_or ls n any_leaf in
    let here = slice_get-get_or ls n any_leaf within in
    let is : out ≡ l.stub ++ drop len old = subst (λ (o : Option Leaf). IfSome o (λ k. out ≡ k.stub ++ drop len old)) here spelled in
    let size : len ≡ length l.stub = subst (λ (o : Option Leaf). IfSome o (λ k. len ≡ length k.stub)) here counted in
    record {
      within = omega (arith, within, length-map ls (λ (k : Leaf). k.stub));
      fits = omega (arith, size, (All-contains (IsLeaf 0 0) ls l v.leaves (Contains-get_or ls n any_leaf within)).stub.short);
      key = get_or-map (λ (k : Leaf). k.stub) ls n any_leaf [] within ∙ sym (take-append_seam l.stub (drop len old)) ∙ (λ i. take (sym size i) (sym is i));
    }

-- ---- the value under a key by its number

get_at : (pairs : Map) (n : ℕ) → AllPairs Apart (keys_of pairs) → n < length pairs → get pairs (get_or (keys_of pairs) n []) ≡ option_map (λ pair. pair.1) (slice_get pairs n)
get_at [] n h l = absurd (omega (arith, l))
get_at ((key, value) ∷ more) zero h l = ap (λ t. if t then Some value else get more key) (same-itself key)
get_at ((key, value) ∷ more) (suc n) h l =
    let k = get_or (keys_of more) n [] in
    let size = length-map more (λ (pair : Bytes × Bytes). pair.0) in
    ap (λ t. if t then Some value else get more k) (same-false key k (AllPairs-head Apart key (keys_of more) h k (Contains-get_or (keys_of more) n [] (omega (arith, l, size)))))
    ∙ get_at more n (AllPairs-tail Apart key (keys_of more) h) (omega (arith, l))

-- ---- the slot of a leaf of whole keys is that of its key

slot_is : (ls : List Leaf) (v : IsLeafList 0 0 ls) (n slot : ℕ) → n < length ls → IsSlotOf ls n slot → IsSlotOfKey (stubs ls) (get_or (stubs ls) n []) slot
unfolding path
slot_is ls v n slot within at =
    let whole = lists_are_whole ls v in
    let l = get_or ls n any_leaf in
    let stub = get_or-map (λ (k : Leaf). k.stub) ls n any_leaf [] within in
    let size = length-map ls (λ (k : Leaf). k.stub) in
    let bytes = (All-contains IsKey (stubs ls) (get_or (stubs ls) n []) whole.keys.each (Contains-get_or (stubs ls) n [] (omega (arith, within, size)))).bytes in
    let spelled : get_or (map path ls) n [] ≡ get_or (stubs ls) n [] ++ ended l.ends = get_or-map path ls n any_leaf [] within ∙ ap (λ (x : Bytes). x ++ ended l.ends) (sym stub) in
    let there : IsSlotAt (whole_leaves (stubs ls)) slot (get_or (stubs ls) n [] ++ ended l.ends) =
    subst (λ (k : List Leaf). IsSlotAt k slot (get_or (stubs ls) n [] ++ ended l.ends)) (sym whole.same) (subst (IsSlotAt ls slot) spelled at) in
    (key_at (stubs ls) whole.keys slot (get_or (stubs ls) n []) l.ends bytes there).at

-- ---- a leaf after another one

pub next_low : (s new : Standing) (r : Bool) → new ≡ goes s (s.leaf + cond r 1 0) → IsTrue r ↔ (s.leaf + 1 < length s.image.leaves) → r ≡ true → new.leaf < length new.image.leaves
next_low s new r e more y =
    let here : new.leaf ≡ s.leaf + 1 = ap (λ (t : Standing). t.leaf) e ∙ ap (λ (b : Bool). s.leaf + cond b 1 0) y in
    let size = ap (λ (t : Standing). length t.image.leaves) e in
    omega (arith, here, size, more.0 y)

pub last_one : (s : Standing) (r : Bool) → IsTrue r ↔ (s.leaf + 1 < length s.image.leaves) → r ≡ false → length s.image.leaves ≤ s.leaf + 1
last_one s r more n = elim (cases_lt (s.leaf + 1) (length s.image.leaves)) [
  | inl less ↦ absurd (false≢true (sym n ∙ more.1 less))
  | inr last ↦ last
]

-- ---- what a cursor says

module _ (bytes : Bytes) (parts : Parts) (leaf : Standing) (buffer : Bytes) (len : ℕ) (at : IsAt bytes parts leaf buffer len) where
  abbrev leaves : List Leaf
  leaves = leaf.image.leaves

  keys_are : stubs leaf.image.leaves ≡ keys_of (map_in bytes)
  keys_are = its_keys bytes parts leaf.image at.opened

  within : leaf.leaf < length leaf.image.leaves
  within = omega (arith, at.written.within, length-map leaves (λ (k : Leaf). k.stub))

  pub key_is : option_map (λ pair. pair.0) (slice_get (map_in bytes) leaf.leaf) ≡ Some (take len buffer)
  key_is =
      sym (slice_get-map (λ (pair : Bytes × Bytes). pair.0) (map_in bytes) leaf.leaf) ∙ ap (λ (ks : List Bytes). slice_get ks leaf.leaf) (sym keys_are)
      ∙ slice_get-get_or (stubs leaves) leaf.leaf [] at.written.within ∙ ap (λ (k : Bytes). Some k) at.written.key

  pub slot_of_key : (slot : ℕ) → IsSlotOf leaf.image.leaves leaf.leaf slot → IsSlotOfKey (stubs leaf.image.leaves) (get_or (stubs leaf.image.leaves) leaf.leaf []) slot
  slot_of_key slot there = slot_is leaves (leaf_list bytes parts leaf.image at.opened) leaf.leaf slot within there

  pub value_is : (slot : ℕ) → IsSlotOf leaf.image.leaves leaf.leaf slot
      → option_map (λ pair. pair.1) (slice_get (map_in bytes) leaf.leaf) ≡ Some (slice_index_or (values_in bytes) slot [])
  value_is slot there =
      let key = get_or (stubs leaves) leaf.leaf [] in
      let once = keys_once (keys_of (map_in bytes)) (key_list bytes parts leaf.image at.opened) in
      let size = length-map (map_in bytes) (λ (pair : Bytes × Bytes). pair.0) in
      let found = get_at (map_in bytes) leaf.leaf once (omega (arith, at.written.within, ap (λ (ks : List Bytes). length ks) keys_are, size)) in
      sym found ∙ ap (λ (ks : List Bytes). get (map_in bytes) (get_or ks leaf.leaf [])) (sym keys_are) ∙ got bytes parts leaf.image at.opened slot key (slot_of_key slot there)

  pub slot_is_low : (slot : ℕ) → IsSlotOf leaf.image.leaves leaf.leaf slot → slot < parts.pairs
  slot_is_low slot there = slot_low bytes parts leaf.image at.opened slot (get_or (stubs leaves) leaf.leaf []) (slot_of_key slot there)

  pub slot_is_short : (slot : ℕ) → IsSlotOf leaf.image.leaves leaf.leaf slot → slot < 2 ^ 32
  slot_is_short slot there = slot_fits bytes parts leaf.image at.opened slot (get_or (stubs leaves) leaf.leaf []) (slot_of_key slot there)

  -- ---- moves

  -- whether there is a next pair
  pub end_is : (r t : Bool) → r ≡ t → IsTrue r ↔ (leaf.leaf + 1 < length leaf.image.leaves) → IsTrue t ↔ (leaf.leaf + 1 < length (map_in bytes))
  end_is r t e h =
      subst (λ (n : ℕ). IsTrue t ↔ (leaf.leaf + 1 < n)) (as_many bytes parts leaf.image at.opened)
      (subst (λ (b : Bool). IsTrue b ↔ (leaf.leaf + 1 < length leaf.image.leaves)) e h)

  stepped : (new : Standing) (out old : Bytes) (n : ℕ) → new.image ≡ leaf.image → new.leaf < length new.image.leaves
      → IfSome (slice_get new.image.leaves new.leaf) (λ l. out ≡ l.stub ++ drop n old) → IfSome (slice_get new.image.leaves new.leaf) (λ l. n ≡ length l.stub)
      → IsAt bytes parts new out n
  stepped new out old n same low spelled counted =
      let o = subst (IsOpened bytes parts) (sym same) at.opened in
      record { opened = o; written = written_by new.image.leaves (leaf_list bytes parts new.image o) new.leaf out old n low spelled counted }

  pub next_at : (new : Standing) (r : Bool) (out old : Bytes) (n : ℕ) → new ≡ goes leaf (leaf.leaf + cond r 1 0)
      → IsTrue r ↔ (leaf.leaf + 1 < length leaf.image.leaves) → r ≡ true
      → IfSome (slice_get new.image.leaves new.leaf) (λ l. out ≡ l.stub ++ drop n old) → IfSome (slice_get new.image.leaves new.leaf) (λ l. n ≡ length l.stub)
      → IsAt bytes parts new out n
  next_at new r out old n e more y spelled counted =
      stepped new out old n (ap (λ (s : Standing). s.image) e) (next_low leaf new r e more y) spelled counted

  pub prev_at : (new : Standing) (r : Bool) (out old : Bytes) (n : ℕ) → new ≡ goes leaf (leaf.leaf - cond r 1 0)
      → IfSome (slice_get new.image.leaves new.leaf) (λ l. out ≡ l.stub ++ drop n old) → IfSome (slice_get new.image.leaves new.leaf) (λ l. n ≡ length l.stub)
      → IsAt bytes parts new out n
  prev_at new r out old n e spelled counted =
      let here : new.leaf ≡ leaf.leaf - cond r 1 0 = ap (λ (s : Standing). s.leaf) e in
      let size = ap (λ (s : Standing). length s.image.leaves) e in
      stepped new out old n (ap (λ (s : Standing). s.image) e) (omega (arith, here, size, within)) spelled counted
