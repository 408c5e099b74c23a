-- A scan that is made of a store.
use Rattle.std.proofs.Common.{◌≡◌, ◌∙◌, ◌≤◌, ℕ, zero, suc, Bool, false, ◌&&◌, List, [], ◌∷◌, map, refl, sym, ap, subst, arith}
use Rattle.std.specs.Prelude.{Option, Some, None, sum_by}
use Rattle.std.specs.List.{AllByRecursion}
use Rattle.std.specs.Option.{option_map_or}
use Rattle.std.proofs.lemmas.List.{length-map}
use Rattle.block_model.specs.Laws.{joined}
use Rattle.byte_fields.specs.Spelling.{IsBytes}
use Rattle.disk_trait.specs.Image.{Image}
use Rattle.entry_model.specs.Entries.{Entry, IsEntry}
use Rattle.entry_model.specs.Newest.{KeysRise, entries_from}
use Rattle.filter_api.specs.Spellings.{Spelling}
use Rattle.late_rows.specs.Late.{LateMerge, late_from, late_rows}
use Rattle.late_rows.specs.Laws.{LateMergeIsWhole, StandingSleepers}
use Rattle.map_model.specs.Slices.{between, first_pair, is_up_to, seek}
use Rattle.map_model.specs.SortedMap.{Bytes, Map}
use Rattle.merge_rows.proofs.Begins.{walks_known}
use Rattle.merge_rows.specs.Merges.{numbered, walk_at}
use Rattle.merge_rows.specs.RowLaws.{MergedLaws}
use Rattle.merge_rows.specs.Rows.{merged_rows}
use Rattle.merge_rows.specs.Steps.{AreNumbersIn, AreWalksIn, stands}
use Rattle.state_model.proofs.Sayings.{source_sound}
use Rattle.range_model.specs.Sources.{Source}
use Rattle.state_model.proofs.SoundLogs.{changes_entries, logged_changes}
use Rattle.state_model.specs.Bounds.{is_passed, seek_bound}
use Rattle.state_model.specs.State.{State}
use Rattle.state_model.specs.View.{memory, state_map}
use Rattle.store_core.proofs.ScanBounds.{may_read, owed_bound}
use Rattle.store_core.proofs.ScanStates.{as_many_keys, blocks_joined, blocks_opened, keys_up_to, numbers_there, opened_stand, sleep_opened, state_pairs}
use Rattle.store_core.specs.StoreValue.{IsOfChanges, StoreValue}
use Rattle.store_core.specs.Scans.{AreUpTo, MayRead, ScanWalk, StillComes, at_most, blocks_of_step, blocks_on_way, keys_admitting, looks_up_to, numbers_admitting, owed, pairs_up_to, opened_tables, step_bound, woken_up_to}
use Rattle.store_core.specs.Telling.{IsHighOfBytes}
use Rattle.store_core.specs.Represents.{ReadsAs}
use Rattle.table_file.specs.Laws.{StandingBlocks, StandingKeys, StandingWalks}
use Rattle.table_file.specs.Opened.{Opened}
use Rattle.table_model.specs.Tables.{FilterBytes}
use Rattle.store_core.proofs.Recorded.{entries_in, shown_only}

-- ---- what a merge is made of

pub memory_sound : (log : _) (memory : Source) → IsOfChanges log memory → AllByRecursion IsEntry memory.entries
memory_sound log memory of = subst (λ (source : Source). AllByRecursion IsEntry source.entries) (sym of.memory_is) (changes_entries of.changes (logged_changes of.changes of.sound))

pub there : (low : Bytes) (high : Option Bytes) (tables : List Opened) (which : List ℕ) → which ≡ numbers_admitting low high tables → AreNumbersIn tables which
there low high tables which is = subst (AreNumbersIn tables) (sym is) (numbers_there low high tables)

-- a merge that is made has room for the blocks of its tables, and its waking keys are up to the upper bound
pub made_numbers : (low : Bytes) (high : Option Bytes) (tables : List Opened) (which : List ℕ) (waking : List (Option Bytes)) (entries : Option (List Entry)) (rows : LateMerge) → rows ≡ late_from which waking tables entries low
    → AreNumbersIn tables which → waking ≡ keys_admitting low high tables → AreWalksIn tables (stands rows.merge.walks) × (rows.merge.drops ≡ false) × AreUpTo high rows.asleep
made_numbers low high tables which waking entries rows is all keys = (
  subst (AreWalksIn tables) (sym (ap (λ (l : LateMerge). stands l.merge.walks) is)) (walks_known which tables low all),
  ap (λ (l : LateMerge). l.merge.drops) is,
  subst (AreUpTo high) (sym (ap (λ (l : LateMerge). l.asleep) is ∙ keys)) (keys_up_to low high tables),
)

-- ---- the scan

abbrev pub made_late : Bytes → Option Bytes → List Opened → List Entry → LateMerge
made_late low high tables entries = late_from (numbers_admitting low high tables) (keys_admitting low high tables) tables (Some entries) low

abbrev pub made_scan : Bytes → Option Bytes → List Opened → List Entry → Option ℕ → ScanWalk
made_scan low high tables entries most = record {
  tables = tables;
  merge = (made_late low high tables entries).merge;
  asleep = (made_late low high tables entries).asleep;
  high = high;
  left = most;
  now = None;
}

-- by the parts that it is made of
pub scan_is : (low : Bytes) (high : Option Bytes) (store inside : StoreValue) (which : List ℕ) (waking : List (Option Bytes)) (rows : LateMerge) (copy : Option Bytes) (most : Option ℕ) → inside ≡ store
    → which ≡ numbers_admitting low high inside.tables → waking ≡ keys_admitting low high inside.tables → rows ≡ late_from which waking inside.tables (Some inside.memory.entries) low → copy ≡ high
    → record { tables = inside.tables; merge = rows.merge; asleep = rows.asleep; high = copy; left = most; now = None } ≡ made_scan low high store.tables store.memory.entries most
scan_is low high store inside which waking rows copy most same which_is waking_is rows_is copy_is =
    let made : rows ≡ made_late low high inside.tables inside.memory.entries =
    rows_is ∙ ap (λ (w : List ℕ). late_from w waking inside.tables (Some inside.memory.entries) low) which_is
    ∙ ap (λ (k : List (Option Bytes)). late_from (numbers_admitting low high inside.tables) k inside.tables (Some inside.memory.entries) low) waking_is in
    (λ i. record { tables = inside.tables; merge = (made i).merge; asleep = (made i).asleep; high = copy_is i; left = most; now = None })
    ∙ ap (λ (k : StoreValue). made_scan low high k.tables k.memory.entries most) same

module _ (laws : MergedLaws) (standing : StandingSleepers) (blocks : StandingBlocks) (found : StandingKeys) (walks : StandingWalks) (spelling : Spelling) (filter_bytes : FilterBytes) (store : StoreValue) (s : State) (image : Image)
    (seen : ReadsAs spelling filter_bytes store s image) (low : Bytes) (low_bytes : IsBytes low) (high : Option Bytes) (high_bytes : IsHighOfBytes high) where
  abbrev late : LateMerge
  late = made_late low high store.tables store.memory.entries

  abbrev opened : List (List (List Entry))
  opened = blocks_opened found spelling image low high store.tables s.tables seen.under.tables

  whole : LateMergeIsWhole (numbers_admitting low high store.tables) (keys_admitting low high store.tables) store.tables (Some store.memory.entries) low image opened
  whole = standing spelling store.tables image (numbers_admitting low high store.tables) (keys_admitting low high store.tables) opened (Some store.memory.entries) low
      (as_many_keys low high store.tables)
      (opened_stand found spelling image low high store.tables s.tables seen.under.tables)
      (subst KeysRise (sym seen.memory) (source_sound s.log).rises)
      (sleep_opened found spelling image low low_bytes high store.tables s.tables seen.under.tables seen.sound.tables)

  made_pairs : pairs_up_to high (late_rows late store.tables image) ≡ between (state_map s) low high
  made_pairs =
      ap (pairs_up_to high) (whole.rows
      ∙ ap (λ (entries : List Entry). entries_from (merged_rows (entries ∷ map (λ (b : List (List Entry)). joined b) opened)) low) seen.memory
      ∙ ap (λ (lists : List (List Entry)). entries_from (merged_rows (memory s ∷ lists)) low) (blocks_joined found spelling image low high store.tables s.tables seen.under.tables))
      ∙ state_pairs laws found spelling filter_bytes s image low low_bytes high high_bytes seen.sound (entries_in s) (shown_only spelling store.manifest store.tables store.job s image seen.under) store.tables
      seen.under.tables

  pub made_shows : (scan : ScanWalk) (most : Option ℕ) → scan ≡ made_scan low high store.tables store.memory.entries most → StillComes spelling scan (at_most most (between (state_map s) low high)) image
  made_shows scan most is = subst (λ (w : ScanWalk). StillComes spelling w (at_most most (between (state_map s) low high)) image) (sym is) (record {
    states = s.tables;
    held = seen.under.tables;
    sound = whole.sound;
    pairs_are = ap (at_most most) made_pairs;
  })

  pub made_met : (scan : ScanWalk) (most : Option ℕ) → scan ≡ made_scan low high store.tables store.memory.entries most → 1 ≤ opened_tables scan → MayRead s low high
  made_met scan most is some =
      let many = ap opened_tables is ∙ length-map (numbers_admitting low high store.tables) (λ (number : ℕ). record { number = number; walk = walk_at (numbered store.tables number) low }) in
      may_read blocks walks spelling s image low store.tables seen.under.tables high (omega (arith, many, some))

no_more : (left : Option ℕ) (n : ℕ) → blocks_of_step left n ≤ n
no_more None n = omega arith
no_more (Some zero) n = omega arith
no_more (Some (suc m)) n = omega arith

looks_same : (answer : Option (Bytes × Bytes)) (high : Bytes) → option_map_or (λ (pair : Bytes × Bytes). Some pair.0) answer (Some high) ≡ Some (option_map_or (λ (pair : Bytes × Bytes). pair.0) answer high)
looks_same None high = refl
looks_same (Some pair) high = refl

-- between two bounds
pub made_bounded : MergedLaws → StandingSleepers → StandingBlocks → StandingKeys → StandingWalks → (spelling : Spelling) (filter_bytes : FilterBytes) (store : StoreValue) (s : State) (image : Image)
    → ReadsAs spelling filter_bytes store s image → (low : Bytes) → IsBytes low → (high : Bytes) → IsBytes high → (scan : ScanWalk) (most : Option ℕ) → scan ≡ made_scan low (Some high) store.tables store.memory.entries most
    → step_bound scan image ≤ seek_bound s low high
made_bounded laws standing blocks found walks spelling filter_bytes store s image seen low low_bytes high high_bytes scan most is =
    let late = made_late low (Some high) store.tables store.memory.entries in
    let pairs = made_pairs laws standing blocks found walks spelling filter_bytes store s image seen low low_bytes (Some high) high_bytes in
    let way : (Bytes → Bool) → Option Bytes → ℕ = λ below looks. sum_by (owed below (record { key = low; passed = false }) store.tables image) (woken_up_to looks late.asleep late.merge.walks) in
    let same = ap (λ (p : Map). way (λ (key : Bytes). is_up_to (Some high) key && is_passed (first_pair p) key) (looks_up_to (Some high) p)) pairs in
    let near = ap (way (λ (key : Bytes). is_up_to (Some high) key && is_passed (seek (state_map s) low (Some high)) key)) (looks_same (seek (state_map s) low (Some high)) high) in
    let owing = owed_bound blocks walks spelling s image low store.tables seen.under.tables found seen.sound.tables low_bytes high in
    subst (λ (w : ScanWalk). step_bound w image ≤ seek_bound s low high) (sym is) (omega (
      arith,
      no_more most (blocks_on_way (Some high) late store.tables image),
      same,
      near,
      owing,
    ))
