-- Where a step has no cause of a fault it is the answer.
use Rattle.std.proofs.Common.{◌≡◌, ◌⊎◌, inl, inr, ℕ, ◌<◌, List, [], refl, sym, ap, ◌∙◌, Bool, true, false, cond, arith}
use Rattle.std.specs.Prelude.{Option, Some, None, Result, Ok, Err, IsOk, count_by, filter, sum_by, suc, take}
use Rattle.byte_fields.specs.declared.parts.Damage.{Damage}
use Rattle.key_base.specs.Limits.{last_epoch}
use Rattle.map_model.specs.SortedMap.{Bytes, Map}
use Rattle.map_model.specs.Slices.{is_before, slice}
use Rattle.entry_model.specs.Entries.{put_entry, del_entry}
use Rattle.entry_model.specs.Newest.{lookup}
use Rattle.state_model.specs.State.{State, without_job}
use Rattle.table_model.specs.Tables.{FilterBytes, Table}
use Rattle.state_model.specs.View.{memory, changes_of, state_map}
use Rattle.state_model.specs.Bounds.{unless_found, searched, get_bound, seek_bound, tables_between, looks_to, stepped, admits_range}
use Rattle.state_model.specs.Changes.{written, flushed, compacted_outputs}
use Rattle.state_model.specs.Merges.{NoRoom, placed}
use Rattle.state_model.specs.Taken.{taken}
use Rattle.line_model.specs.Requests.{Request, Put, Del, Get, Seek, Range, Count, Estimate, Explain, Flush, Compact, Quit, Bad}
use Rattle.line_model.specs.Replies.{Reply, Pairs, Device, Damaged}
use Rattle.state_model.specs.Causes.{WriteFailed}
use Rattle.state_model.specs.Steps.{answer, TakesMemory, Reads, Writes, Step, answers, no_memory, read_failed, damage_met, write_failed}
use Rattle.state_model.specs.SoundLaws.{Ever}
use Rattle.state_model.specs.FaultLaws.{Only, is_change, IsAnswered, OfReads, OfDevice, IsSaidOf}
use Rattle.state_model.proofs.FaultsMet.{answer_plain, no_fault}
use Rattle.range_model.specs.Sources.{Sets}

-- ---- no cause, no fault

module _ (filter_bytes : FilterBytes) (s after : State) (request : Request) (reply : Reply) where
  by_nothing : (TakesMemory s request → ⊥) → (Reads s request → ⊥) → (Writes filter_bytes s request → ⊥)
      → Step Ever filter_bytes s request reply after → IsAnswered filter_bytes s request reply after
  by_nothing none_taken none_read none_written d = elim d as (λ r new _. IsAnswered filter_bytes s request r new) [
    | answers ↦ (refl, refl)
    | no_memory within takes cause ↦ absurd (none_taken takes)
    | read_failed said within reads cause so ↦ absurd (none_read reads)
    | damage_met damage said within reads cause so ↦ absurd (none_read reads)
    | write_failed new within writes cause left same ↦ absurd (none_written writes)
  ]

  by_no_device : (Reads s request → ⊥) → (Writes filter_bytes s request → ⊥)
      → Step OfDevice filter_bytes s request reply after → IsAnswered filter_bytes s request reply after
  by_no_device none_read none_written d = elim d as (λ r new _. IsAnswered filter_bytes s request r new) [
    | answers ↦ (refl, refl)
    | no_memory within takes cause ↦ absurd cause
    | read_failed said within reads cause so ↦ absurd (none_read reads)
    | damage_met damage said within reads cause so ↦ absurd (none_read reads)
    | write_failed new within writes cause left same ↦ absurd (none_written writes)
  ]

  by_no_read : (Reads s request → ⊥) → Step OfReads filter_bytes s request reply after → IsAnswered filter_bytes s request reply after
  by_no_read none_read d = elim d as (λ r new _. IsAnswered filter_bytes s request r new) [
    | answers ↦ (refl, refl)
    | no_memory within takes cause ↦ absurd cause
    | read_failed said within reads cause so ↦ absurd (none_read reads)
    | damage_met damage said within reads cause so ↦ absurd (none_read reads)
    | write_failed new within writes cause left same ↦ absurd cause
  ]

  by_no_write : (Writes filter_bytes s request → ⊥) → Step (Only WriteFailed) filter_bytes s request reply after → IsAnswered filter_bytes s request reply after
  by_no_write none_written d = elim d as (λ r new _. IsAnswered filter_bytes s request r new) [
    | answers ↦ (refl, refl)
    | no_memory within takes cause ↦ absurd cc
    | read_failed said within reads cause so ↦ absurd cc
    | damage_met damage said within reads cause so ↦ absurd cc
    | write_failed new within writes cause left same ↦ absurd (none_written writes)
  ]

-- ---- bounds of nothing

not_below : (n : ℕ) → n ≡ 0 → 0 < n → ⊥
not_below n e some = omega (arith, e, some)

refused_is_not : (done : Result State Reply) (why : Reply) → done ≡ Err why → IsOk done → ⊥
refused_is_not (Ok t) why e ok = absurd cc
refused_is_not (Err refusal) why e ok = let wrong : false ≡ true = ok in cc

pub not_placed : (done : Result (List Table) NoRoom) (refusal : NoRoom) → done ≡ Err refusal → IsOk done → ⊥
not_placed (Ok made) refusal e ok = absurd cc
not_placed (Err other) refusal e ok = let wrong : false ≡ true = ok in cc

pub crossed_bound : (s : State) (lo hi : Bytes) → is_before hi lo ≡ true → seek_bound s lo hi ≡ 0
crossed_bound s lo hi e = ap (λ (b : Bool). cond b 0 (sum_by (λ (t : Table). suc (stepped (state_map s) lo hi t)) (filter (admits_range lo (looks_to (state_map s) lo hi)) s.tables))) e

pub crossed_tables : (s : State) (lo hi : Bytes) → is_before hi lo ≡ true → tables_between s lo hi ≡ 0
crossed_tables s lo hi e = ap (λ (b : Bool). cond b 0 (count_by (admits_range lo hi) s.tables)) e

no_branch : (b : Bool) (n : ℕ) → cond b n n ≡ n
no_branch true n = refl
no_branch false n = refl

pub bare_bound : (s : State) (lo hi : Bytes) → s.tables ≡ [] → seek_bound s lo hi ≡ 0
bare_bound s lo hi e =
    ap (λ (ts : List Table). cond (is_before hi lo) 0 (sum_by (λ (t : Table). suc (stepped (state_map s) lo hi t)) (filter (admits_range lo (looks_to (state_map s) lo hi)) ts))) e
    ∙ no_branch (is_before hi lo) 0

pub bare_tables : (s : State) (lo hi : Bytes) → s.tables ≡ [] → tables_between s lo hi ≡ 0
bare_tables s lo hi e = ap (λ (ts : List Table). cond (is_before hi lo) 0 (count_by (admits_range lo hi) ts)) e ∙ no_branch (is_before hi lo) 0

pub found_bound : (s : State) (key : Bytes) (value : Option Bytes) → lookup (memory s) key ≡ Some value → get_bound s key ≡ 0
found_bound s key value e = ap (λ (o : Option (Option Bytes)). unless_found o (searched key s.tables)) e

none_more : (o : Option (Option Bytes)) → unless_found o 0 ≡ 0
none_more None = refl
none_more (Some value) = refl

pub bare_get : (s : State) (key : Bytes) → s.tables ≡ [] → get_bound s key ≡ 0
bare_get s key e =
    ap (λ (ts : List Table). unless_found (lookup (memory s) key) (searched key ts)) e
    ∙ none_more (lookup (memory s) key)

-- ---- where there is no cause

module _ (filter_bytes : FilterBytes) (s after : State) (reply : Reply) where
  pub put_refused : (key value : Bytes) (why : Reply) → written filter_bytes s (Sets (put_entry key value)) ≡ Err why
      → Step OfDevice filter_bytes s (Put key value) reply after → IsAnswered filter_bytes s (Put key value) reply after
  put_refused key value why e = by_no_device filter_bytes s after (Put key value) reply (λ r. r) (refused_is_not (written filter_bytes s (Sets (put_entry key value))) why e)

  pub del_refused : (key : Bytes) (why : Reply) → written filter_bytes s (Sets (del_entry key)) ≡ Err why
      → Step OfDevice filter_bytes s (Del key) reply after → IsAnswered filter_bytes s (Del key) reply after
  del_refused key why e = by_no_device filter_bytes s after (Del key) reply (λ r. r) (refused_is_not (written filter_bytes s (Sets (del_entry key))) why e)

  pub flush_refused : (why : Reply) → flushed filter_bytes s ≡ Err why
      → Step OfDevice filter_bytes s Flush reply after → IsAnswered filter_bytes s Flush reply after
  flush_refused why e = by_no_device filter_bytes s after Flush reply (λ r. r) (λ w. refused_is_not (flushed filter_bytes s) why e w.1)

  pub flush_none : memory s ≡ [] → Step Ever filter_bytes s Flush reply after → IsAnswered filter_bytes s Flush reply after
  flush_none e = by_nothing filter_bytes s after Flush reply (λ t. t e) (λ r. r) (λ w. w.0 e)

  pub compaction_none : changes_of s ≡ [] → Step Ever filter_bytes s Compact reply after → IsAnswered filter_bytes s Compact reply after
  compaction_none e = by_nothing filter_bytes s after Compact reply (λ t. t.0 e) (λ r. r.0.0 e) (λ w. w.0.0 e)

  pub compaction_last : s.epoch ≡ last_epoch → Step Ever filter_bytes s Compact reply after → IsAnswered filter_bytes s Compact reply after
  compaction_last e = by_nothing filter_bytes s after Compact reply (λ t. t.1 e) (λ r. r.0.1 e) (λ w. w.0.1 e)

  pub compaction_bare : s.tables ≡ [] → Step OfReads filter_bytes s Compact reply after → IsAnswered filter_bytes s Compact reply after
  compaction_bare e = by_no_read filter_bytes s after Compact reply (λ r. r.1 e)

  pub compaction_cramped : (refusal : NoRoom) → placed filter_bytes s.settings s.pages (taken (without_job s)) 6 (take 1 (compacted_outputs s)) ≡ Err refusal
      → Step (Only WriteFailed) filter_bytes s Compact reply after → IsAnswered filter_bytes s Compact reply after
  compaction_cramped refusal e = by_no_write filter_bytes s after Compact reply (λ w. not_placed _ refusal e w.1)

  pub get_of_none : (key : Bytes) → get_bound s key ≡ 0 → Step Ever filter_bytes s (Get key) reply after → IsAnswered filter_bytes s (Get key) reply after
  get_of_none key e = by_nothing filter_bytes s after (Get key) reply (λ t. t) (not_below (get_bound s key) e) (λ w. w)

  pub open_bare : (lo : Bytes) → s.tables ≡ [] → Step OfDevice filter_bytes s (Seek lo None) reply after → IsAnswered filter_bytes s (Seek lo None) reply after
  open_bare lo e = by_no_device filter_bytes s after (Seek lo None) reply (λ r. r e) (λ w. w)

  pub seek_of_none : (lo hi : Bytes) → seek_bound s lo hi ≡ 0 → Step OfDevice filter_bytes s (Seek lo (Some hi)) reply after → IsAnswered filter_bytes s (Seek lo (Some hi)) reply after
  seek_of_none lo hi e = by_no_device filter_bytes s after (Seek lo (Some hi)) reply (not_below (seek_bound s lo hi) e) (λ w. w)

  pub range_of_none : (lo hi : Bytes) (n : ℕ) → tables_between s lo hi ≡ 0 → Step OfDevice filter_bytes s (Range lo hi n) reply after → IsAnswered filter_bytes s (Range lo hi n) reply after
  range_of_none lo hi n e = by_no_device filter_bytes s after (Range lo hi n) reply (λ r. not_below (tables_between s lo hi) e r.1) (λ w. w)

  pub count_of_none : (lo hi : Bytes) → tables_between s lo hi ≡ 0 → Step OfDevice filter_bytes s (Count lo hi) reply after → IsAnswered filter_bytes s (Count lo hi) reply after
  count_of_none lo hi e = by_no_device filter_bytes s after (Count lo hi) reply (not_below (tables_between s lo hi) e) (λ w. w)

  pub range_none : (lo hi : Bytes) → Step OfDevice filter_bytes s (Range lo hi 0) reply after → IsAnswered filter_bytes s (Range lo hi 0) reply after
  range_none lo hi = by_no_device filter_bytes s after (Range lo hi 0) reply (λ r. not_below 0 refl r.0) (λ w. w)

-- what asks for no change writes nothing
writes_none : (filter_bytes : FilterBytes) (s : State) (request : Request) → is_change request ≡ false → Writes filter_bytes s request → ⊥
writes_none filter_bytes s (Get key) other writes = writes
writes_none filter_bytes s (Seek lo hi) other writes = writes
writes_none filter_bytes s (Range lo hi n) other writes = writes
writes_none filter_bytes s (Count lo hi) other writes = writes
writes_none filter_bytes s (Estimate lo hi) other writes = writes
writes_none filter_bytes s (Explain key) other writes = writes
writes_none filter_bytes s Quit other writes = writes
writes_none filter_bytes s (Bad code) other writes = writes
writes_none filter_bytes s (Put key value) other writes = let wrong : true ≡ false = other in absurd cc
writes_none filter_bytes s (Del key) other writes = let wrong : true ≡ false = other in absurd cc
writes_none filter_bytes s Flush other writes = let wrong : true ≡ false = other in absurd cc
writes_none filter_bytes s Compact other writes = let wrong : true ≡ false = other in absurd cc

module _ (filter_bytes : FilterBytes) (s after : State) where
  pub others_write_none : (request : Request) (reply : Reply) → is_change request ≡ false
      → Step (Only WriteFailed) filter_bytes s request reply after → IsAnswered filter_bytes s request reply after
  others_write_none request reply other = by_no_write filter_bytes s after request reply (writes_none filter_bytes s request other)

  pub estimate_answered : (reply : Reply) (lo hi : Bytes) → Step Ever filter_bytes s (Estimate lo hi) reply after → IsAnswered filter_bytes s (Estimate lo hi) reply after
  estimate_answered reply lo hi = by_nothing filter_bytes s after (Estimate lo hi) reply (λ t. t) (λ r. r) (λ w. w)

  pub explain_answered : (reply : Reply) (key : Bytes) → Step Ever filter_bytes s (Explain key) reply after → IsAnswered filter_bytes s (Explain key) reply after
  explain_answered reply key = by_nothing filter_bytes s after (Explain key) reply (λ t. t) (λ r. r) (λ w. w)

  pub put_reads_none : (reply : Reply) (key value : Bytes) → Step OfReads filter_bytes s (Put key value) reply after → IsAnswered filter_bytes s (Put key value) reply after
  put_reads_none reply key value = by_no_read filter_bytes s after (Put key value) reply (λ r. r)

  pub del_reads_none : (reply : Reply) (key : Bytes) → Step OfReads filter_bytes s (Del key) reply after → IsAnswered filter_bytes s (Del key) reply after
  del_reads_none reply key = by_no_read filter_bytes s after (Del key) reply (λ r. r)

  pub flush_reads_none : (reply : Reply) → Step OfReads filter_bytes s Flush reply after → IsAnswered filter_bytes s Flush reply after
  flush_reads_none reply = by_no_read filter_bytes s after Flush reply (λ r. r)

-- ---- what a range has said

pairs_of : Reply → Map
pairs_of (Pairs said end) = said
pairs_of reply = []

end_of : Reply → Reply
end_of (Pairs said end) = end
end_of reply = reply

pub range_said : (filter_bytes : FilterBytes) (s after : State) (lo hi : Bytes) (n : ℕ) (said : Map)
    → Step OfReads filter_bytes s (Range lo hi n) (Pairs said Device) after → IsSaidOf s lo hi n said
unfolding pairs_of end_of
range_said filter_bytes s after lo hi n said d = (elim d as (λ reply _ _. reply ≡ Pairs said Device → IsSaidOf s lo hi n said) [
  | answers ↦ λ e. absurd (no_fault (answer filter_bytes s (Range lo hi n)).0 (Pairs said Device) (answer_plain filter_bytes s (Range lo hi n)).0 refl e)
  | no_memory within takes cause ↦ λ _. absurd cause
  | read_failed reply within reads cause so ↦ λ e. by_read reply so e
  | damage_met damage reply within reads cause so ↦ λ e. by_damage damage reply so e
  | write_failed new within writes cause left same ↦ λ _. absurd cause
]) refl
  where
    by_read : (reply : Reply) → (reply ≡ Device) ⊎ ((k : ℕ) × (k < n) × (reply ≡ Pairs (take k (slice (state_map s) lo (Some hi) n)) Device)) → reply ≡ Pairs said Device → IsSaidOf s lo hi n said
    by_read reply (inl bare) e = absurd (not_pairs (sym bare ∙ e))
      where
        not_pairs : Device ≡ Pairs said Device → ⊥
        not_pairs e = cc
    by_read reply (inr (k, few, so)) e = (k, few, ap pairs_of (sym e ∙ so))

    by_damage : (damage : Damage) (reply : Reply) → (reply ≡ Damaged damage) ⊎ ((k : ℕ) × (k < n) × (reply ≡ Pairs (take k (slice (state_map s) lo (Some hi) n)) (Damaged damage))) → reply ≡ Pairs said Device → IsSaidOf s lo hi n said
    by_damage damage reply (inl bare) e = absurd (not_pairs (sym bare ∙ e))
      where
        not_pairs : Damaged damage ≡ Pairs said Device → ⊥
        not_pairs e = cc
    by_damage damage reply (inr (k, few, so)) e = absurd (not_device (ap end_of (sym so ∙ e)))
      where
        not_device : Damaged damage ≡ Device → ⊥
        not_device e = cc

pub range_damaged : (filter_bytes : FilterBytes) (s after : State) (lo hi : Bytes) (n : ℕ) (said : Map) (damage : Damage)
    → Step OfReads filter_bytes s (Range lo hi n) (Pairs said (Damaged damage)) after → IsSaidOf s lo hi n said
unfolding pairs_of end_of
range_damaged filter_bytes s after lo hi n said damage d = (elim d as (λ reply _ _. reply ≡ Pairs said (Damaged damage) → IsSaidOf s lo hi n said) [
  | answers ↦ λ e. absurd (no_fault (answer filter_bytes s (Range lo hi n)).0 (Pairs said (Damaged damage)) (answer_plain filter_bytes s (Range lo hi n)).0 refl e)
  | no_memory within takes cause ↦ λ _. absurd cause
  | read_failed reply within reads cause so ↦ λ e. from Device reply not_read so e
  | damage_met other reply within reads cause so ↦ λ e. from (Damaged other) reply (not_bare other) so e
  | write_failed new within writes cause left same ↦ λ _. absurd cause
]) refl
  where
    not_read : Device ≡ Pairs said (Damaged damage) → ⊥
    not_read e = cc

    not_bare : (other : Damage) → Damaged other ≡ Pairs said (Damaged damage) → ⊥
    not_bare other e = cc

    from : (why reply : Reply) → (why ≡ Pairs said (Damaged damage) → ⊥) → (reply ≡ why) ⊎ ((k : ℕ) × (k < n) × (reply ≡ Pairs (take k (slice (state_map s) lo (Some hi) n)) why)) → reply ≡ Pairs said (Damaged damage) → IsSaidOf s lo hi n said
    from why reply not (inl bare) e = absurd (not (sym bare ∙ e))
    from why reply not (inr (k, few, so)) e = (k, few, ap pairs_of (sym e ∙ so))
