-- When a limit or lack of room refuses a call.
use Rattle.std.proofs.Common.{◌≡◌, ◌≢◌, ◌⊎◌, inl, inr, ◌<◌, ◌+◌, ◌∙◌, Bool, true, false, cond, List, [], sym, ap, subst}
use Rattle.std.specs.Prelude.{IfErr, OnOk, Option, Some, Result, Ok, Err}
use Rattle.disk_trait.proofs.Calls.{reads_none}
use Rattle.disk_trait.specs.World.{ReadMoves, World}
use Rattle.entry_model.specs.Entries.{Entry, need}
use Rattle.entry_model.specs.Newest.{with_entry}
use Rattle.extent_model.specs.Gaps.{first_gap}
use Rattle.key_base.specs.Limits.{log_bytes}
use Rattle.line_model.specs.Replies.{Reply}
use Rattle.manifest.specs.declared.fault.ManifestFault.{ManifestFault}
use Rattle.manifest.specs.declared.fault.ManifestFault.TheVariants as fault
use Rattle.mem_table.specs.Table.{MemoryTable}
use Rattle.store_core.specs.Answers.{IsLimitOf, IsWriteFailure}
use Rattle.store_core.specs.Compacting.{IsCompactFault}
use Rattle.store_core.specs.Faults.{of_manifest_fault}
use Rattle.store_core.specs.Flushing.{IsFlushFault, IsPlanRefusal, need_under}
use Rattle.state_model.specs.Changes.{is_long}
use Rattle.store_core.specs.Refusing.{AsksForFlush, IsCompactDue, IsEntryAllowed, IsFlushAllowed, IsFlushDue, IsRefusedBefore, IsRefusedFlush, IsWriteDue, MayBeCompacted, MayBeFlushed, flushed_for}
use Rattle.store_core.specs.Running.{extents_with, outputs_in}
use Rattle.store_core.specs.StoreValue.{StoreValue}
use Rattle.store_core.specs.declared.error.Limit.TheVariants as limit
use Rattle.store_core.specs.declared.error.StoreError.{StoreError}
use Rattle.store_core.specs.declared.error.StoreError.TheVariants as error
use Rattle.store_core.proofs.Limiting.{IsOfEntry}
use Rattle.table_model.specs.Tables.{FilterBytes}

module _ (bytes : FilterBytes) where
  -- ---- of a flush

  -- nothing is planned, and nothing was called
  pub plan_due : (store : StoreValue) (entries : List Entry) (x : StoreError) (w : World) → entries ≢ [] → IsPlanRefusal bytes store.manifest.version (outputs_in store.job) entries x
      → IsFlushDue bytes store entries w w x
  plan_due store entries error.Memory w some why = (some, inl (reads_none 0 w))
  plan_due store entries (error.Device cause) w some why = tt
  plan_due store entries error.Stopped w some why = tt
  plan_due store entries (error.Limit limit) w some why = record { some = some; planned = why; no_call = reads_none 0 w }
  plan_due store entries (error.Full need gap) w some why = record { some = some; planned = why; no_call = reads_none 0 w }
  plan_due store entries (error.Damaged damage) w some why = tt
  plan_due store entries error.NotAStore w some why = tt
  plan_due store entries error.AlreadyAStore w some why = tt
  plan_due store entries (error.BadSettings field) w some why = tt

  -- memory was wanted for it
  pub wanted_due : {T : Type 0} (r : Result T StoreError) (store : StoreValue) (entries : List Entry) (w : World) → Err error.Memory ≡ r → entries ≢ [] → IfErr r (IsFlushDue bytes store entries w w)
  wanted_due {T = T} r store entries w is some = subst (λ (q : Result T StoreError). IfErr q (IsFlushDue bytes store entries w w)) is (some, inl (reads_none 0 w))

  -- what was planned is not written: no limit is met
  by_fault : (store : StoreValue) (entries : List Entry) (f : ManifestFault) (a b : World) → entries ≢ [] → MayBeFlushed bytes store entries → IsFlushFault a b f → IsFlushDue bytes store entries a b (of_manifest_fault f)
  by_fault store entries fault.Memory a b some may why = (some, inr may)
  by_fault store entries (fault.Device cause) a b some may why = tt
  by_fault store entries fault.NotAStore a b some may why = absurd why
  by_fault store entries fault.AlreadyAStore a b some may why = absurd why
  by_fault store entries fault.Epoch a b some may why = absurd why
  by_fault store entries (fault.Damaged damage) a b some may why = absurd why

  pub fault_due : (store : StoreValue) (entries : List Entry) (f : ManifestFault) (x : StoreError) (a b : World) → x ≡ of_manifest_fault f → entries ≢ [] → MayBeFlushed bytes store entries → IsFlushFault a b f
      → IsFlushDue bytes store entries a b x
  fault_due store entries f x a b is some may why = subst (IsFlushDue bytes store entries a b) (sym is) (by_fault store entries f a b some may why)

  -- ---- of an entry

  pub limit_due : (store : StoreValue) (e : Entry) (broken : Option Reply) (x : StoreError) (w : World) → IsOfEntry broken → IsLimitOf broken x → IsWriteDue bytes store e w w x
  limit_due store e broken (error.Limit (limit.Key size)) w of is = reads_none 0 w
  limit_due store e broken (error.Limit (limit.Value size)) w of is = reads_none 0 w
  limit_due store e broken (error.Limit limit.Tables) w of is = absurd (of.0 is)
  limit_due store e broken (error.Limit limit.Epoch) w of is = absurd (of.1 is)
  limit_due store e broken error.Memory w of is = absurd is
  limit_due store e broken (error.Device cause) w of is = absurd is
  limit_due store e broken error.Stopped w of is = absurd is
  limit_due store e broken (error.Full need gap) w of is = absurd is
  limit_due store e broken (error.Damaged damage) w of is = absurd is
  limit_due store e broken error.NotAStore w of is = absurd is
  limit_due store e broken error.AlreadyAStore w of is = absurd is
  limit_due store e broken (error.BadSettings field) w of is = absurd is

  -- before any call
  pub wanted_entry : {T : Type 0} (r : Result T StoreError) (store : StoreValue) (e : Entry) (w : World) → Err error.Memory ≡ r → IfErr r (IsWriteDue bytes store e w w)
  wanted_entry {T = T} r store e w is = subst (λ (q : Result T StoreError). IfErr q (IsWriteDue bytes store e w w)) is (inl (reads_none 0 w))

  -- a write that failed is neither
  pub failure_due : {T : Type 0} (r : Result T StoreError) (store : StoreValue) (e : Entry) (a b c d : World) → IfErr r (IsWriteFailure a b) → IfErr r (IsWriteDue bytes store e c d)
  failure_due (Ok x) store e a b c d why = tt
  failure_due (Err error.Memory) store e a b c d why = absurd why
  failure_due (Err (error.Device cause)) store e a b c d why = tt
  failure_due (Err error.Stopped) store e a b c d why = absurd why
  failure_due (Err (error.Limit limit)) store e a b c d why = absurd why
  failure_due (Err (error.Full need gap)) store e a b c d why = absurd why
  failure_due (Err (error.Damaged damage)) store e a b c d why = absurd why
  failure_due (Err error.NotAStore) store e a b c d why = absurd why
  failure_due (Err error.AlreadyAStore) store e a b c d why = absurd why
  failure_due (Err (error.BadSettings field)) store e a b c d why = absurd why

  -- ---- of one whose record does not fit

  -- what is flushed before an entry that is not long, and for one that is
  flushed_before : (store : StoreValue) (e : Entry) → is_long e ≡ false → flushed_for store e ≡ store.memory.entries
  flushed_before store e short = ap (λ (b : Bool). cond b (with_entry store.memory.entries e) store.memory.entries) short

  flushed_over : (store : StoreValue) (e : Entry) → is_long e ≡ true → flushed_for store e ≡ with_entry store.memory.entries e
  flushed_over store e long = ap (λ (b : Bool). cond b (with_entry store.memory.entries e) store.memory.entries) long

  -- what may be flushed when room was taken for an entry might be flushed before
  may_before : (store : StoreValue) (m : MemoryTable) (entries others : List Entry) → entries ≡ others → MayBeFlushed bytes (record store { memory = m }) entries → MayBeFlushed bytes store others
  may_before store m entries others same here =
      let v = store.manifest.version in
      record {
        few = here.few;
        page = here.page;
        gap = subst (λ (es : List Entry). first_gap v.pages (extents_with v (outputs_in store.job)) (need_under bytes v es) ≡ Some here.page) same here.gap;
        epoch = here.epoch;
      }

  -- a flush of these entries, for one that asks for it, is refused when room was taken
  module _ (store : StoreValue) (m : MemoryTable) (e : Entry) (entries : List Entry) (a b : World) (same : entries ≡ flushed_for store e) (asks : AsksForFlush store e) where
    before : (x : StoreError) → IsRefusedFlush bytes (record store { memory = m }) entries x a b → IsRefusedBefore bytes store e x a b
    before x is = record {
      asks = asks;
      flush = record {
        some = subst (λ (es : List Entry). es ≢ []) same is.some;
        planned = subst (λ (es : List Entry). IsPlanRefusal bytes store.manifest.version (outputs_in store.job) es x) same is.planned;
        no_call = is.no_call;
      };
    }

    wanted_before : entries ≢ [] → ReadMoves 0 a b ⊎ MayBeFlushed bytes (record store { memory = m }) entries → IsWriteDue bytes store e a b error.Memory
    wanted_before some (inl none) = inl none
    wanted_before some (inr may) = inr (asks, subst (λ (es : List Entry). es ≢ []) same some, may_before store m entries (flushed_for store e) same may)

    flush_before : (x : StoreError) → IsFlushDue bytes (record store { memory = m }) entries a b x → IsWriteDue bytes store e a b x
    flush_before error.Memory is = wanted_before is.0 is.1
    flush_before (error.Device cause) is = tt
    flush_before error.Stopped is = tt
    flush_before (error.Limit (limit.Key size)) is = is.no_call
    flush_before (error.Limit (limit.Value size)) is = is.no_call
    flush_before (error.Limit limit.Tables) is = before (error.Limit limit.Tables) is
    flush_before (error.Limit limit.Epoch) is = before (error.Limit limit.Epoch) is
    flush_before (error.Full need gap) is = before (error.Full need gap) is
    flush_before (error.Damaged damage) is = tt
    flush_before error.NotAStore is = tt
    flush_before error.AlreadyAStore is = tt
    flush_before (error.BadSettings field) is = tt

  -- before an entry, of the store as it was seen before
  pub flush_due : (store seen : StoreValue) (m : MemoryTable) (e : Entry) (a b : World) (x : StoreError) → is_long e ≡ false → store ≡ seen → m.entries ≡ store.memory.entries → log_bytes < store.log.filled + need e
      → IsFlushDue bytes (record store { memory = m }) m.entries a b x → IsWriteDue bytes seen e a b x
  flush_due store seen m e a b x short same kept wide is =
      subst (λ (k : StoreValue). IsWriteDue bytes k e a b x) same (flush_before store m e m.entries a b (kept ∙ sym (flushed_before store e short)) (inr wide) x is)

  -- with a long one over the memory
  long_before : (store : StoreValue) (e : Entry) (a b : World) (x : StoreError) → is_long e ≡ true → IsFlushDue bytes store (with_entry store.memory.entries e) a b x → IsWriteDue bytes store e a b x
  long_before store e a b x long is = flush_before store store.memory e (with_entry store.memory.entries e) a b (sym (flushed_over store e long)) (inl long) x is

  pub long_due : {T : Type 0} (r : Result T StoreError) (store : StoreValue) (e : Entry) (a b : World) → is_long e ≡ true → IfErr r (IsFlushDue bytes store (with_entry store.memory.entries e) a b)
      → IfErr r (IsWriteDue bytes store e a b)
  long_due (Ok x) store e a b long is = tt
  long_due (Err x) store e a b long is = long_before store e a b x long is

  -- ---- where none of them is met

  -- an entry that asks for none
  none_asked : (store : StoreValue) (e : Entry) → is_long e ≡ false → (log_bytes < store.log.filled + need e → ⊥) → AsksForFlush store e → ⊥
  none_asked store e short fits (inl long) = absurd (let both = sym short ∙ long in cc)
  none_asked store e short fits (inr wide) = fits wide

  -- the record fits, or fits after a flush of the store as it was seen before
  pub fits_allowed : {T : Type 0} (r : Result T StoreError) (seen : StoreValue) (e : Entry) → is_long e ≡ false → (log_bytes < seen.log.filled + need e → ⊥) → OnOk r (IsEntryAllowed bytes seen e)
  fits_allowed (Ok x) seen e short fits = λ asks some. absurd (none_asked seen e short fits asks)
  fits_allowed (Err x) seen e short fits = tt

  behind_flush : (store : StoreValue) (m : MemoryTable) (entries others : List Entry) → entries ≡ others → IsFlushAllowed bytes (record store { memory = m }) entries → IsFlushAllowed bytes store others
  behind_flush store m entries others same allowed some = may_before store m entries others same (allowed (λ none. some (sym same ∙ none)))

  pub flush_allowed : {T : Type 0} (r : Result T StoreError) (store seen : StoreValue) (m : MemoryTable) (e : Entry) → is_long e ≡ false → store ≡ seen → m.entries ≡ store.memory.entries
      → IsFlushAllowed bytes (record store { memory = m }) m.entries → OnOk r (IsEntryAllowed bytes seen e)
  flush_allowed (Ok x) store seen m e short same kept allowed = λ asks.
      subst (λ (k : StoreValue). IsFlushAllowed bytes k (flushed_for k e)) same (behind_flush store m m.entries (flushed_for store e) (kept ∙ sym (flushed_before store e short)) allowed)
  flush_allowed (Err x) store seen m e short same kept allowed = tt

  may_over : (store : StoreValue) (e : Entry) → is_long e ≡ true → MayBeFlushed bytes store (with_entry store.memory.entries e) → IsEntryAllowed bytes store e
  may_over store e long may = λ asks some. may_before store store.memory (with_entry store.memory.entries e) (flushed_for store e) (sym (flushed_over store e long)) may

  pub long_allowed : {T : Type 0} (r : Result T StoreError) (store : StoreValue) (e : Entry) → is_long e ≡ true → OnOk r (MayBeFlushed bytes store (with_entry store.memory.entries e)) → OnOk r (IsEntryAllowed bytes store e)
  long_allowed (Ok x) store e long may = may_over store e long may
  long_allowed (Err x) store e long may = tt

-- ---- of a compaction

-- once it is begun it meets no limit
pub fault_compacts : {T : Type 0} (r : Result T StoreError) (store : StoreValue) (a b : World) → MayBeCompacted store → IfErr r (IsCompactFault a b) → IfErr r (IsCompactDue store a b)
fault_compacts (Ok x) store a b may why = tt
fault_compacts (Err error.Memory) store a b may why = may
fault_compacts (Err (error.Device cause)) store a b may why = may
fault_compacts (Err error.Stopped) store a b may why = absurd why
fault_compacts (Err (error.Limit limit)) store a b may why = absurd why
fault_compacts (Err (error.Full need gap)) store a b may why = may
fault_compacts (Err (error.Damaged damage)) store a b may why = may
fault_compacts (Err error.NotAStore) store a b may why = absurd why
fault_compacts (Err error.AlreadyAStore) store a b may why = absurd why
fault_compacts (Err (error.BadSettings field)) store a b may why = absurd why
