-- Tables that are placed are on the device, and apart from one another and from what is taken.
use Rattle.std.proofs.Common.{◌≡◌, ℕ, ◌≤◌, ◌<◌, ◌*◌, List, [], ◌∷◌, ◌++◌, length, refl, sym, ap, subst, true, map, arith}
use Rattle.std.specs.Prelude.{Some, None, Result, Ok, Err, nat_le, nat_lt, sum_by}
use Rattle.std.specs.List.{AllByRecursion}
use Rattle.std.proofs.lemmas.List.{length-append, map-append}
use Rattle.std.proofs.lemmas.List.Concat.{flat_map-cons}
use Rattle.std.proofs.lemmas.List.Sums.{sum_by-cons}
use Rattle.entry_model.specs.Entries.{Entry}
use Rattle.block_model.specs.Block.{IsTable}
use Rattle.filter_api.specs.Ranges.{InRange}
use Rattle.filter_api.specs.declared.settings.Settings.{Settings}
use Rattle.block_model.specs.Laws.{joined}
use Rattle.block_model.specs.Pages.{pages_for, block_length, block_pages, blocks_of, data_pages, has_room, max_block_entries, page_bytes}
use Rattle.block_model.proofs.Cutting.{each_block, blocks_joined}
use Rattle.std.proofs.lemmas.Bool.{and_parts, ltb-true}
use Rattle.table_model.specs.Tables.{FilterBytes, Table, table_from, source_pages}
use Rattle.extent_model.specs.Extents.{Extent, IsOnDevice, AreApart}
use Rattle.extent_model.specs.Gaps.{first_gap, largest_gap}
use Rattle.state_model.specs.Taken.{extent_of}
use Rattle.state_model.specs.Merges.{NoRoom, placed, before, at_page}
use Rattle.state_model.specs.Sound.{IsSoundTable, AreMade}
use Rattle.extent_model.proofs.Lists.{Pairs, Mutual}
use Rattle.extent_model.proofs.Free.{gap_is_free, Laid, apart_mutual}
use Rattle.state_model.proofs.Orders.{all_out, pairs_out, all_of_map, all_to_map, pairs_of_map, pairs_to_map}
use Rattle.range_model.specs.Sources.{Source, IsSource}
use Rattle.range_model.specs.Ranges.{HasBounds}

-- ---- a table with entries has pages

some_pages : (bytes : ℕ) → 1 ≤ bytes → 1 ≤ pages_for bytes
unfolding pages_for
some_pages bytes some = omega arith

some_block_pages : (block : List Entry) → 1 ≤ block_pages block
unfolding block_pages block_length
some_block_pages block = some_pages _ (omega arith)

abbrev pub IsSmall : List Entry → Type 0
IsSmall block = length block ≤ 255

small_more : (block : List Entry) (e : Entry) → IsSmall block → has_room block e ≡ true → IsSmall (block ++ (e ∷ []))
small_more block e small room =
    let lt = ltb-true (length block) 255 (and_parts (nat_le (block_length (block ++ (e ∷ []))) page_bytes) (nat_lt (length block) max_block_entries) room).1 in
    omega (arith, length-append block (e ∷ []), lt)

small_joined : (blocks : List (List Entry)) → AllByRecursion IsSmall blocks → length (joined blocks) ≤ 255 * sum_by block_pages blocks
small_joined [] all = omega arith
small_joined (block ∷ more) all =
    omega (
      arith,
      ap (λ (l : List Entry). length l) (flat_map-cons (λ (b : List Entry). b) block more),
      length-append block (joined more),
      sum_by-cons block_pages block more,
      some_block_pages block,
      all.0,
      small_joined more all.1,
    )

all_unit : (entries : List Entry) → AllByRecursion (λ (_ : Entry). Unit {0}) entries
all_unit [] = tt
all_unit (e ∷ more) = (tt, all_unit more)

-- a page of data has at most 255 entries
pub entries_in_pages : (entries : List Entry) → length entries ≤ 255 * data_pages entries
unfolding data_pages
entries_in_pages entries =
    let small = each_block (λ (_ : Entry). Unit {0}) IsSmall (λ e _. omega arith) (λ block e is _ room. small_more block e is room) entries (all_unit entries) in
    subst (λ (l : List Entry). length l ≤ 255 * sum_by block_pages (blocks_of entries)) (blocks_joined entries) (small_joined (blocks_of entries) small)

pub blocks_joined_small : (blocks : List (List Entry)) → AllByRecursion IsSmall blocks → length (joined blocks) ≤ 255 * length blocks
blocks_joined_small [] all = omega arith
blocks_joined_small (block ∷ more) all =
    omega (arith, ap (λ (l : List Entry). length l) (flat_map-cons (λ (b : List Entry). b) block more), length-append block (joined more), all.0, blocks_joined_small more all.1)

blocks_within : (blocks : List (List Entry)) → length blocks ≤ sum_by block_pages blocks
blocks_within [] = omega arith
blocks_within (block ∷ more) = omega (arith, sum_by-cons block_pages block more, some_block_pages block, blocks_within more)

-- a block has at most 255 entries
pub entries_in_blocks : (entries : List Entry) → length entries ≤ 255 * length (blocks_of entries)
entries_in_blocks entries =
    let small = each_block (λ (_ : Entry). Unit {0}) IsSmall (λ e _. omega arith) (λ block e is _ room. small_more block e is room) entries (all_unit entries) in
    subst (λ (l : List Entry). length l ≤ 255 * length (blocks_of entries)) (blocks_joined entries) (blocks_joined_small (blocks_of entries) small)

-- a table of one entry or more has one block or more, each of a page or more
pub blocks_have_pages : (filter_bytes : FilterBytes) (settings : Settings) (s : Source) → 1 ≤ length s.entries
    → (1 ≤ length (blocks_of s.entries)) × (length (blocks_of s.entries) ≤ source_pages filter_bytes settings s)
unfolding data_pages
blocks_have_pages filter_bytes settings s some = (omega (arith, entries_in_blocks s.entries, some), omega (arith, blocks_within (blocks_of s.entries)))

-- a sound source with the entries of a table, whose ranges have keys as bounds
pub record IsTableSource (s : Source) : Type 0 where
  pub entries : IsTable s.entries
  pub source : IsSource s
  pub bounds : AllByRecursion HasBounds s.ranges

-- the table that is made of one is sound
pub table_is_sound : (filter_bytes : FilterBytes) (settings : Settings) (level page : ℕ) (s : Source) → level ≤ 6 → InRange settings → settings.ratio ≤ 65535 → IsTableSource s
    → IsSoundTable (table_from filter_bytes settings level page s)
table_is_sound filter_bytes settings level page s deep range ratio is = record {
  level = deep;
  entries = is.entries;
  source = is.source;
  bounds = is.bounds;
  blocks = blocks_have_pages filter_bytes settings s is.entries.some;
  few = entries_in_blocks s.entries;
  settings = range;
  ratio = ratio;
}

pub has_pages : (filter_bytes : FilterBytes) (settings : Settings) (s : Source) → 1 ≤ length s.entries → 0 < source_pages filter_bytes settings s
has_pages filter_bytes settings s some = omega (arith, entries_in_pages s.entries)

-- ---- tables that are placed

-- what was placed before a table, where it was
pub record Front (t : Table) (done : Result (List Table) NoRoom) (made : List Table) : Type 0 where
  pub rest : List Table
  pub first : made ≡ t ∷ rest
  pub later : done ≡ Ok rest

pub front_of : (t : Table) (done : Result (List Table) NoRoom) (made : List Table) → before t done ≡ Ok made → Front t done made
front_of t (Ok tables) made e = record { rest = tables; first = cc; later = refl }
front_of t (Err refusal) made e = absurd cc

-- Outputs that are placed beside laid extents are laid with them, and made as they should be.
pub placed_laid : (filter_bytes : FilterBytes) (settings : Settings) (pages : ℕ) (xs : List Extent) (level : ℕ) (outputs : List Source) (made : List Table)
    → AllByRecursion (λ (output : Source). 1 ≤ length output.entries) outputs → Laid pages xs
    → placed filter_bytes settings pages xs level outputs ≡ Ok made → Laid pages (map extent_of made ++ xs) × AreMade filter_bytes settings level outputs made
placed_laid filter_bytes settings pages xs level [] made some laid e =
    subst (λ (l : List Table). Laid pages (map extent_of l ++ xs) × AreMade filter_bytes settings level [] l) (let same : [] ≡ made = cc in same) (laid, tt)
placed_laid filter_bytes settings pages xs level (output ∷ more) made some laid e =
    let need = source_pages filter_bytes settings output in
    let there = λ (page : ℕ). before (table_from filter_bytes settings level page output) (placed filter_bytes settings pages ((page, need) ∷ xs) level more) in
    let refused : NoRoom = record { need = need; gap = largest_gap pages xs } in
    elim (first_gap pages xs need) as (λ o. first_gap pages xs need ≡ o → at_page o there refused ≡ Ok made
    → Laid pages (map extent_of made ++ xs) × AreMade filter_bytes settings level (output ∷ more) made) [
      | None ↦ λ is so. absurd cc
      | Some page ↦ λ is so.
          let t = table_from filter_bytes settings level page output in
          let free = gap_is_free pages xs need page (has_pages filter_bytes settings output some.0) laid.0 is in
          let front = front_of t (placed filter_bytes settings pages ((page, need) ∷ xs) level more) made so in
          let rest = placed_laid filter_bytes settings pages ((page, need) ∷ xs) level more front.rest some.1 ((free.0, laid.0), (free.1, laid.1)) front.later in
          subst (λ (l : List Table). Laid pages (map extent_of l ++ xs) × AreMade filter_bytes settings level (output ∷ more) l) (sym front.first) (
            (
              all_out (IsOnDevice pages) (map extent_of front.rest) (page, need) xs rest.0.0,
              pairs_out AreApart apart_mutual (map extent_of front.rest) (page, need) xs rest.0.1,
            ),
            (refl, rest.1),
          )
    ] refl e

-- ---- extents of tables

abbrev pub OnDevice : ℕ → Table → Type 0
OnDevice pages t = IsOnDevice pages (extent_of t)

abbrev pub Clear : Table → Table → Type 0
Clear t u = AreApart (extent_of t) (extent_of u)

pub clear_mutual : Mutual Clear
clear_mutual t u clear = apart_mutual (extent_of t) (extent_of u) clear

-- these tables are on the device, and no two of them meet
abbrev pub Stand : ℕ → List Table → Type 0
Stand pages tables = AllByRecursion (OnDevice pages) tables × Pairs Clear tables

pub stand_of : (pages : ℕ) (tables : List Table) → Laid pages (map extent_of tables) → Stand pages tables
stand_of pages tables laid = (all_of_map (IsOnDevice pages) extent_of tables laid.0, pairs_of_map AreApart extent_of tables laid.1)

pub laid_tables : (pages : ℕ) (tables : List Table) → Stand pages tables → Laid pages (map extent_of tables)
laid_tables pages tables stand = (all_to_map (IsOnDevice pages) extent_of tables stand.0, pairs_to_map AreApart extent_of tables stand.1)

-- placed beside tables that are there, they are with them
pub placed_stand : (filter_bytes : FilterBytes) (settings : Settings) (pages : ℕ) (beside : List Table) (level : ℕ) (outputs : List Source) (made : List Table)
    → AllByRecursion (λ (output : Source). 1 ≤ length output.entries) outputs → Stand pages beside
    → placed filter_bytes settings pages (map extent_of beside) level outputs ≡ Ok made → Stand pages (made ++ beside) × AreMade filter_bytes settings level outputs made
placed_stand filter_bytes settings pages beside level outputs made some stand e =
    let laid = placed_laid filter_bytes settings pages (map extent_of beside) level outputs made some (laid_tables pages beside stand) e in
    (stand_of pages (made ++ beside) (subst (Laid pages) (sym (map-append extent_of made beside)) laid.0), laid.1)
