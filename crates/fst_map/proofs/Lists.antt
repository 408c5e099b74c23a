-- Where a walk ends in the trie of any leaf list without bits: its keys are the stubs.
use Rattle.std.proofs.Common.{◌≡◌, ◌≤◌, ℕ, List, Bool, cond, length, sym, ap, subst, ◌∙◌, arith, inl, inr}
use Rattle.std.specs.Prelude.{None, count_by, nat_lt}
use Rattle.std.specs.List.{Contains}
use Rattle.std.proofs.lemmas.Bool.{cases_lt, le-ltb, lt-ltb}
use Rattle.byte_fields.specs.Spelling.{IsBytes}
use Rattle.filter_model.specs.Leaves.{Leaf}
use Rattle.filter_model.specs.Valid.{IsLeafList}
use Rattle.filter_trie.specs.Walks.{ReachesLeaf}
use Rattle.fst_map.proofs.Walks.{one_past, short_is_no_key, unmet_is_no_key, unmet_is_past_none, whole_is_key, whole_is_past_none}
use Rattle.fst_map.specs.Slots.{IsSlotOfKey}
use Rattle.map_file_model.specs.Maps.{Bytes}
use Rattle.trie_model.specs.Walks.{slot_of_key}
use Rattle.whole_keys.proofs.Listed.{lists_are_whole}
use Rattle.whole_keys.specs.Laws.{IsWhole}
use Rattle.whole_keys.specs.Whole.{runs_past, stubs, whole_leaves}

module _ (ls : List Leaf) (v : IsLeafList 0 0 ls) where
  whole : IsWhole ls
  whole = lists_are_whole ls v

  unmet : (x : Bytes) → None ≡ slot_of_key ls x → None ≡ slot_of_key (whole_leaves (stubs ls)) x
  unmet x none = none ∙ ap (λ (l : List Leaf). slot_of_key l x) (sym whole.same)

  meets : (x : Bytes) (slot stub : ℕ) → ReachesLeaf ls x slot stub → ReachesLeaf (whole_leaves (stubs ls)) x slot stub
  meets x slot stub at = subst (λ (l : List Leaf). ReachesLeaf l x slot stub) (sym whole.same) at

  pub no_walk_no_key : (x : Bytes) → None ≡ slot_of_key ls x → Contains (stubs ls) x → ⊥
  no_walk_no_key x none = unmet_is_no_key (stubs ls) whole.keys x (unmet x none)

  pub short_walk_no_key : (x : Bytes) (slot stub : ℕ) → IsBytes x → ReachesLeaf ls x slot stub → stub ≤ length x → (stub ≡ length x → ⊥) → Contains (stubs ls) x → ⊥
  short_walk_no_key x slot stub w at le other c = elim (cases_lt stub (length x)) [
    | inl less ↦ short_is_no_key (stubs ls) whole.keys x slot stub w (meets x slot stub at) less c
    | inr more ↦ other (omega (arith, le, more))
  ]

  pub whole_walk_key : (x : Bytes) (slot stub : ℕ) → IsBytes x → ReachesLeaf ls x slot stub → stub ≡ length x → IsSlotOfKey (stubs ls) x slot
  whole_walk_key x slot stub w at same = whole_is_key (stubs ls) whole.keys x slot stub w (meets x slot stub at) same

  pub no_walk_past : (x : Bytes) → None ≡ slot_of_key ls x → count_by (runs_past (stubs ls) x) (stubs ls) ≡ 0
  no_walk_past x none = unmet_is_past_none (stubs ls) whole.keys x (unmet x none)

  pub walk_past : (x : Bytes) (slot stub : ℕ) → IsBytes x → ReachesLeaf ls x slot stub → stub ≤ length x
      → cond {A = ℕ} (nat_lt stub (length x)) 1 0 ≡ count_by (runs_past (stubs ls) x) (stubs ls)
  walk_past x slot stub w at le = elim (cases_lt stub (length x)) [
    | inl less ↦
        ap (λ (t : Bool). cond {A = ℕ} t 1 0) (lt-ltb stub (length x) less) ∙ sym (one_past (stubs ls) whole.keys x slot stub w (meets x slot stub at) less)
    | inr more ↦
        ap (λ (t : Bool). cond {A = ℕ} t 1 0) (le-ltb _ _ more)
        ∙ sym (whole_is_past_none (stubs ls) whole.keys x slot stub (meets x slot stub at) (omega (arith, le, more)))
  ]
