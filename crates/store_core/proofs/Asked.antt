-- What a get leaves of a store.
use Rattle.std.proofs.Common.{◌≡◌, ◌≤◌, ◌+◌, ℕ, Bool, true, false, List, length, refl, sym, ap, subst, ◌∙◌, arith}
use Rattle.std.specs.Option.{option_map, option_or}
use Rattle.std.specs.Prelude.{is_some, IsTrue, Option, None, Result, Ok, Err}
use Rattle.std.specs.Result.{IsErrAnd}
use Rattle.block_cache.specs.Kept.{KeptBlock}
use Rattle.disk_trait.proofs.Calls.{reads_more}
use Rattle.disk_trait.specs.World.{ReadMoves, World}
use Rattle.entry_model.specs.Entries.{Entry}
use Rattle.entry_model.specs.Newest.{lookup}
use Rattle.filter_api.specs.Spellings.{Spelling}
use Rattle.line_model.specs.Limits.{key_limit}
use Rattle.map_model.specs.SortedMap.{Bytes}
use Rattle.state_model.specs.Bounds.{get_bound, searched, unless_found}
use Rattle.state_model.specs.State.{State}
use Rattle.state_model.proofs.WithoutRanges.{view_alone}
use Rattle.state_model.specs.View.{memory, view}
use Rattle.state_model.specs.WithoutRanges.{HasOnlyEntries, first_found}
use Rattle.store_search.specs.Caching.{AreNumbered, CacheAgrees, Cached, unkept, unkept_named}
use Rattle.store_core.specs.Faults.{of_table_fault}
use Rattle.store_core.specs.Getting.{Asked, GetsKey, IsGetRefusal, IsMet, IsShown, IsUndamaged, said_at, unkept_bound}
use Rattle.store_search.specs.Searching.{IsFaultIn, IsLookFault, entries_by_table, said_in}
use Rattle.store_core.specs.StoreValue.{IsConsistent, StoreValue}
use Rattle.store_search.specs.TablesAgree.{TablesAgree}
use Rattle.store_core.specs.Represents.{Represents}
use Rattle.store_core.specs.declared.error.StoreError.{StoreError}
use Rattle.store_core.specs.declared.getting.Place.{Place}
use Rattle.store_search.specs.declared.searching.Spot.{Spot}
use Rattle.store_search.proofs.Caches.{left_itself}
use Rattle.store_search.proofs.Lookings.{named_few, none_of}
use Rattle.store_search.proofs.ReadBounds.{bound_is}
use Rattle.store_core.proofs.ShownBlocks.{told_fault}
use Rattle.store_core.proofs.Recorded.{entries_in}
use Rattle.store_core.proofs.Ties.{tied_read}
use Rattle.table_file.specs.Faults.{IsNoDamage}
use Rattle.table_file.specs.Opened.{Opened}
use Rattle.table_file.specs.declared.fault.TableFault.{TableFault}
use Rattle.table_file.specs.declared.fault.TableFault.TheVariants as table
use Rattle.table_model.specs.Tables.{FilterBytes, Table}

-- other blocks are kept, whose numbers were given
pub whole_asked : (store : StoreValue) (buffer : Bytes) (blocks : Cached) → AreNumbered blocks (length store.tables) → IsConsistent store → IsConsistent (record store { buffer = buffer; blocks = blocks })
whole_asked store buffer blocks numbered whole = record {
  version = whole.version;
  slot = whole.slot;
  rows = whole.rows;
  area = whole.area;
  changes = whole.changes;
  job = whole.job;
  numbered = numbered;
}

-- where nothing is looked for
pub asked_still : (spelling : Spelling) (bytes : FilterBytes) (tells : Bool) (store : StoreValue) (w : World) → Asked spelling bytes tells store store w w
asked_still spelling bytes tells store w = record { same = refl; kept = left_itself store.blocks; tied = λ s told tied. tied }

-- and they say what their tables say
pub tied_asked : (spelling : Spelling) (bytes : FilterBytes) (store after : StoreValue) (s : State) (n : ℕ) (a b : World) → after ≡ record store { buffer = after.buffer; blocks = after.blocks }
    → ReadMoves n a b → CacheAgrees after.blocks store.tables s.tables → Represents spelling bytes store s a → Represents spelling bytes after s b
tied_asked spelling bytes store after s n a b same moves says tied =
    let read = tied_read spelling bytes store s a b n moves tied in
    subst (λ (k : StoreValue). Represents spelling bytes k s b) (sym same)
    (record { sound = read.sound; none_kept = read.none_kept; images = read.images; log = read.log; memory = read.memory; ranges = read.ranges; blocks = says })

-- ---- where nothing of the key is in memory

pub no_memory : {X : Type 0} (f : X → Option Bytes) (found : Option X) (some : Bool) (entries : List Entry) (s : State) (key : Bytes) → option_map f found ≡ lookup entries key → some ≡ is_some found
    → some ≡ false → entries ≡ memory s → lookup (memory s) key ≡ None
no_memory f found some entries s key said is none same = ap (λ (es : List Entry). lookup es key) (sym same) ∙ sym said ∙ ap (option_map f) (none_of found (sym is ∙ none))

-- the memory of a store says nothing of it
pub unsaid : {X : Type 0} (f : X → Option Bytes) (found : Option X) (some : Bool) (entries : List Entry) (store : StoreValue) (key : Bytes) → option_map f found ≡ lookup entries key → some ≡ is_some found
    → some ≡ false → entries ≡ store.memory.entries → lookup store.memory.entries key ≡ None
unsaid f found some entries store key said is none same = ap (λ (es : List Entry). lookup es key) (sym same) ∙ sym said ∙ ap (option_map f) (none_of found (sym is ∙ none))

-- the tables say it, or a block that was kept of them
pub found_view : (place : Place) (after : StoreValue) (s : State) (key : Bytes) (found : Option Spot) (buffer : Bytes) (kept : List KeptBlock)
    → ((store : StoreValue) (k : Bytes) → said_at place store k ≡ said_in found store.buffer store.blocks.kept k) → after.buffer ≡ buffer → after.blocks.kept ≡ kept → lookup (memory s) key ≡ None
    → said_in found buffer kept key ≡ first_found (entries_by_table s.tables) key → HasOnlyEntries s (entries_in s) → said_at place after key ≡ view s key
found_view place after s key found buffer kept said buffer_is kept_is none is only =
    said after key ∙ ap (λ (b : Bytes). said_in found b after.blocks.kept key) buffer_is ∙ ap (λ (l : List KeptBlock). said_in found buffer l key) kept_is
    ∙ is ∙ ap (λ (o : Option (Option Bytes)). option_or o (first_found (entries_by_table s.tables) key)) (sym none) ∙ sym (view_alone s (entries_in s) key only)

-- ---- how many blocks are read

-- none that is kept
unkept_read : (store : StoreValue) (s : State) (key : Bytes) (blocks : Cached) (opened : List Opened) (reads after : ℕ) → store.blocks ≡ blocks → store.tables ≡ opened → lookup (memory s) key ≡ None
    → after ≤ reads + unkept blocks key opened s.tables → after ≤ reads + unkept_bound store s key
unkept_read store s key blocks opened reads after same_blocks same_tables none le =
    let is : unkept_bound store s key ≡ unkept blocks key opened s.tables =
    ap (λ (said : Option (Option Bytes)). unless_found said (unkept store.blocks key store.tables s.tables)) none
    ∙ ap (λ (b : Cached). unkept b key store.tables s.tables) same_blocks ∙ ap (λ (ts : List Opened). unkept blocks key ts s.tables) same_tables in
    subst (λ (n : ℕ). after ≤ reads + n) (sym is) le

-- ---- why no block was looked through

undamaged_fault : (f : TableFault) → IsNoDamage f → IsUndamaged (of_table_fault f)
undamaged_fault table.Memory is = tt
undamaged_fault (table.Device cause) is = tt
undamaged_fault (table.Damaged d) is = is

met_fault : (f : TableFault) (most : ℕ) → 1 ≤ most → IsMet most (of_table_fault f)
met_fault table.Memory most some = tt
met_fault (table.Device cause) most some = some
met_fault (table.Damaged d) most some = tt

refused_fault : (f : TableFault) (stopped : Bool) (key : Bytes) (a b : World) → stopped ≡ false → key_limit key ≡ None → IsLookFault a b f → IsGetRefusal stopped key a b (of_table_fault f)
refused_fault table.Memory stopped key a b runs limit is = is
refused_fault (table.Device cause) stopped key a b runs limit is = (runs, limit, is)
refused_fault (table.Damaged d) stopped key a b runs limit is = (runs, limit, is)

-- ---- the key was looked for in these tables, of which these blocks are kept

module _ (spelling : Spelling) (filter_bytes : FilterBytes) (tells : Bool) (store : StoreValue) (key : Bytes) (opened : List Opened) (blocks : Cached) (a b : World)
    (same_tables : opened ≡ store.tables) (same_blocks : blocks ≡ store.blocks) (current : IsTrue tells → a.leaves a.moment a.seen.held) where
  pub held_of : (s : State) → IsTrue tells → Represents spelling filter_bytes store s a → TablesAgree spelling opened s.tables a.seen.held
  held_of s t tied = subst (λ (ts : List Opened). TablesAgree spelling ts s.tables a.seen.held) (sym same_tables) (tied.images a.seen.held (current t)).tables

  pub true_of : (s : State) → Represents spelling filter_bytes store s a → CacheAgrees blocks opened s.tables
  true_of s tied = subst (λ (c : Cached). CacheAgrees c opened s.tables) (sym same_blocks) (subst (λ (ts : List Opened). CacheAgrees store.blocks ts s.tables) (sym same_tables) tied.blocks)

  module _ (runs : store.stopped ≡ false) (limit : key_limit key ≡ None) (none : (s : State) → store.memory.entries ≡ memory s → lookup (memory s) key ≡ None) (moves : ReadMoves (unkept_named blocks key opened) a b)
      (within : (states : List Table) → IsTrue tells → TablesAgree spelling opened states a.seen.held → CacheAgrees blocks opened states
      → b.seen.reads ≤ a.seen.reads + searched key states)
      (bounded : (states : List Table) → IsTrue tells → TablesAgree spelling opened states a.seen.held → CacheAgrees blocks opened states
      → b.seen.reads ≤ a.seen.reads + unkept blocks key opened states) where
    bounded_of : (s : State) → IsTrue tells → Represents spelling filter_bytes store s a → b.seen.reads ≤ a.seen.reads + get_bound s key
    bounded_of s t tied = omega (arith, within s.tables t (held_of s t tied) (true_of s tied), bound_is s key (none s tied.memory))

    unkept_of : (s : State) → IsTrue tells → Represents spelling filter_bytes store s a → b.seen.reads ≤ a.seen.reads + unkept_bound store s key
    unkept_of s t tied =
        unkept_read store s key blocks opened a.seen.reads b.seen.reads (sym same_blocks) (sym same_tables) (none s tied.memory) (bounded s.tables t (held_of s t tied) (true_of s tied))

    still_of : store.stopped ≡ true → ReadMoves 0 a b
    still_of stopped = absurd (let is : false ≡ true = sym runs ∙ stopped in cc)

    moves_of : ReadMoves (length store.tables) a b
    moves_of = subst (λ (ts : List Opened). ReadMoves (length ts) a b) same_tables (reads_more _ _ a b (named_few blocks key opened) moves)

    named_of : b.seen.reads ≤ a.seen.reads + unkept_named store.blocks key store.tables
    named_of =
        subst (λ (ts : List Opened). b.seen.reads ≤ a.seen.reads + unkept_named store.blocks key ts) same_tables
        (subst (λ (c : Cached). b.seen.reads ≤ a.seen.reads + unkept_named c key opened) same_blocks moves.reads)

    pub gets_found : {T : Type 0} (found : T) → GetsKey spelling filter_bytes tells store key (Ok found) a b
    gets_found found = record {
      undamaged = λ s t tied. tt;
      shown = λ t. tt;
      only_if_read = λ s t tied. tt;
      refused = (runs, limit);
      bounded = bounded_of;
      unkept = unkept_of;
      no_call = still_of;
      moves = moves_of;
      named = named_of;
    }

    -- and a table could not be looked through
    pub gets_refused : {T : Type 0} (r : Result T StoreError) (f : TableFault) → IsErrAnd r (λ why. why ≡ of_table_fault f)
        → ((states : List Table) → IsTrue tells → TablesAgree spelling opened states a.seen.held → IsNoDamage f)
        → (IsTrue tells → IsFaultIn opened key a.seen.held f)
        → ((states : List Table) → IsTrue tells → TablesAgree spelling opened states a.seen.held → CacheAgrees blocks opened states → 1 ≤ searched key states)
        → IsLookFault a b f → GetsKey spelling filter_bytes tells store key r a b
    gets_refused (Ok v) f told undamaged shown met cause = absurd told
    gets_refused (Err e) f told undamaged shown met cause = record {
      undamaged = λ s t tied. subst IsUndamaged (sym told) (undamaged_fault f (undamaged s.tables t (held_of s t tied)));
      shown = λ t. subst (IsShown store.tables key a.seen.held) (sym told) (told_fault store.tables key a.seen.held f (subst (λ (ts : List Opened). IsFaultIn ts key a.seen.held f) same_tables (shown t)));
      only_if_read = λ s t tied.
          let some = met s.tables t (held_of s t tied) (true_of s tied) in
          subst (IsMet (get_bound s key)) (sym told) (met_fault f (get_bound s key) (omega (arith, some, bound_is s key (none s tied.memory))));
      refused = subst (IsGetRefusal store.stopped key a b) (sym told) (refused_fault f store.stopped key a b runs limit cause);
      bounded = bounded_of;
      unkept = unkept_of;
      no_call = still_of;
      moves = moves_of;
      named = named_of;
    }
