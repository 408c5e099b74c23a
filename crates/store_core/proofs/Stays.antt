-- What is refused leaves the store as it was.
use Rattle.std.proofs.Common.{◌≡◌, ◌≢◌, ◌⊎◌, inl, inr, ◌∙◌, Bool, false, List, [], refl, sym, ap, subst}
use Rattle.std.specs.Prelude.{IfErr, Option, None, Result, Ok, Err}
use Rattle.disk_trait.specs.World.{World}
use Rattle.level_merge.specs.JobValue.{JobValue}
use Rattle.mem_table.specs.Table.{MemoryTable}
use Rattle.store_core.specs.Answers.{IsWriteFailure, stopped_by, stops}
use Rattle.store_core.specs.Staying.{IsAsItWas, Stays}
use Rattle.store_core.specs.StoreValue.{StoreValue}
use Rattle.store_core.specs.Tending.{SliceStays}
use Rattle.store_core.specs.declared.error.StoreError.{StoreError}
use Rattle.store_core.specs.declared.tending.Tended.{Tended}
use Rattle.store_core.specs.declared.tending.Tended.TheVariants as tended
use Rattle.store_core.proofs.Writing.{never, stops_it}
use Rattle.table_file.specs.Opened.{Opened}

-- whatever is answered
pub stays_at : {T : Type 0} (r : Result T StoreError) (before after : StoreValue) → IsAsItWas before after → Stays r before after
stays_at (Ok done) before after is = tt
stays_at (Err why) before after is = λ runs. is

-- a write that failed stops the store
pub stopped_stays : {T : Type 0} (r : Result T StoreError) (a b : World) (before after : StoreValue) → IfErr r (IsWriteFailure a b) → Stays r before after
stopped_stays {T = T} (Ok done) a b before after why = tt
stopped_stays {T = T} (Err e) a b before after why = λ runs. absurd (never (stops e) (stops_it {T = T} (Err e) a b why) runs)

-- ---- room that was taken

-- in the memory table, for an entry
with_room : (store : StoreValue) (m : MemoryTable) → m ≡ record store.memory { spare = m.spare } → IsAsItWas store (record store { memory = m })
with_room store m kept = ap (λ (n : MemoryTable). record store { memory = n }) kept

pub room_taken : {T : Type 0} (r : Result T StoreError) (store before : StoreValue) (m : MemoryTable) → store ≡ before → m ≡ record store.memory { spare = m.spare } → Stays r before (record store { memory = m })
room_taken r store before m same kept = stays_at r before (record store { memory = m }) (subst (λ (k : StoreValue). IsAsItWas k (record store { memory = m })) same (with_room store m kept))

-- and then a flush was refused
pub flush_stays : {T : Type 0} (r : Result T StoreError) (x : StoreError) (store before after : StoreValue) (m : MemoryTable) → Err x ≡ r → store ≡ before → m ≡ record store.memory { spare = m.spare }
    → (stops x ≡ false → IsAsItWas (record store { memory = m }) after) → Stays r before after
flush_stays {T = T} r x store before after m passed same kept stays = subst (λ (q : Result T StoreError). Stays q before after) passed
    (λ runs. subst (λ (k : StoreValue). IsAsItWas k after) same
    (stays runs ∙ ap (λ (n : MemoryTable). record store { memory = record n { spare = after.memory.spare }; buffer = after.buffer }) kept))

-- for tables
pub tables_stay : {T : Type 0} (r : Result T StoreError) (store before : StoreValue) (ts : List Opened) → store ≡ before → ts ≡ store.tables → Stays r before (record store { tables = ts })
tables_stay r store before ts same kept = stays_at r before (record store { tables = ts })
    (subst (λ (k : StoreValue). IsAsItWas k (record store { tables = ts })) same (ap (λ (l : List Opened). record store { tables = l }) kept))

-- and the store is stopped, or not
pub stopped_or_stays : (x : StoreError) (store before : StoreValue) (stopped : Bool) (ts : List Opened) → store ≡ before → before.stopped ≡ false → ts ≡ store.tables → stopped ≡ stops x
    → stops x ≡ false → IsAsItWas before (record store { stopped = stopped; tables = ts })
stopped_or_stays x store before stopped ts same running kept is runs =
    let stands : stopped ≡ store.stopped = is ∙ runs ∙ sym (ap (λ (k : StoreValue). k.stopped) same ∙ running) in
    subst (λ (k : StoreValue). IsAsItWas k (record store { stopped = stopped; tables = ts })) same
    (ap (λ (b : Bool). record store { stopped = b; tables = ts }) stands ∙ ap (λ (l : List Opened). record store { tables = l }) kept)

-- ---- without the merge that ran

-- the store as it was, with the merge that runs in another
abbrev as_in : StoreValue → StoreValue → StoreValue
as_in before k = record before { job = k.job; memory = record before.memory { spare = k.memory.spare }; buffer = k.buffer }

pub without_merge : (before after : StoreValue) → after ≡ record before { job = None } → IsAsItWas (record before { job = after.job }) after
without_merge before after is = is ∙ ap (as_in before) (sym is)

-- as it was, its merge too
pub with_merge : (before after : StoreValue) → IsAsItWas before after → IsAsItWas (record before { job = after.job }) after
with_merge before after is =
    is ∙ ap (λ (running : Option JobValue). record before { job = running; memory = record before.memory { spare = after.memory.spare }; buffer = after.buffer }) (sym (ap (λ (k : StoreValue). k.job) is))

-- its merge was dropped first
pub dropped_stays : {T : Type 0} (r : Result T StoreError) (before between after : StoreValue) → between ≡ record before { job = None } → Stays r between after → Stays r (record before { job = after.job }) after
dropped_stays (Ok done) before between after is stays = tt
dropped_stays (Err why) before between after is stays = λ runs. with_merge (record before { job = None }) after (subst (λ (k : StoreValue). IsAsItWas k after) is (stays runs))

-- it held something before that, too
pub holds_some : (before between : StoreValue) → between ≡ record before { job = None } → (between.memory.entries ≢ []) ⊎ (between.tables ≢ []) → before.memory.entries ≡ [] → before.tables ≡ [] → ⊥
holds_some before between is (inl some) none no_tables = some (ap (λ (k : StoreValue). k.memory.entries) is ∙ none)
holds_some before between is (inr some) none no_tables = some (ap (λ (k : StoreValue). k.tables) is ∙ no_tables)

-- ---- a merge slice

pub slice_left : (r : Result Tended StoreError) (before after : StoreValue) → IsAsItWas before after → SliceStays r before after
slice_left (Ok tended.Worked) before after is = tt
slice_left (Ok tended.Idle) before after is = is
slice_left (Ok (tended.Full need gap)) before after is = is
slice_left (Err why) before after is = λ runs. is

unstopped : (before after : StoreValue) (stopped : Bool) → before.stopped ≡ false → after ≡ record before { stopped = stopped } → stopped ≡ false → IsAsItWas (record before { job = after.job }) after
unstopped before after stopped running is runs =
    let same : after ≡ before = is ∙ ap (λ (b : Bool). record before { stopped = b }) (runs ∙ sym running) in
    same ∙ ap (as_in before) (sym same)

-- it was refused, or had no room
pub refused_slice : (r : Result Tended StoreError) (before after : StoreValue) → before.stopped ≡ false → after ≡ record before { stopped = stopped_by r } → SliceStays r (record before { job = after.job }) after
refused_slice (Ok tended.Worked) before after running is = tt
refused_slice (Ok tended.Idle) before after running is = unstopped before after false running is refl
refused_slice (Ok (tended.Full need gap)) before after running is = unstopped before after false running is refl
refused_slice (Err why) before after running is = λ runs. unstopped before after (stops why) running is runs

-- its install was refused
pub install_stays : (r : Result Tended StoreError) (x : StoreError) (before after : StoreValue) → Err x ≡ r → (stops x ≡ false → IsAsItWas before after) → SliceStays r (record before { job = after.job }) after
install_stays r x before after passed stays =
    subst (λ (q : Result Tended StoreError). SliceStays q (record before { job = after.job }) after) passed (λ runs. with_merge before after (stays runs))
