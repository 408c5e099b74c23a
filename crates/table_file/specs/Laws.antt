-- The laws of tables that are opened, and of tables that are on a device.
use Rattle.std.specs.Prelude.{◌≡◌, ◌<◌, ◌-◌, ℕ, not, ◌&&◌, List, [], length, slice_index_or, Some, None, is_some}
use Rattle.byte_fields.specs.declared.parts.Row.{Row}
use Rattle.disk_trait.specs.Image.{Image, Torn}
use Rattle.filter_api.specs.Spellings.{Spelling, SpellsOne}
use Rattle.filter_api.specs.declared.settings.Settings.{Settings}
use Rattle.filter_model.specs.Answers.{point}
use Rattle.filter_model.specs.Leaves.{leaves_of}
use Rattle.key_base.specs.ByteOrder.{is_before}
use Rattle.map_model.specs.SortedMap.{Bytes}
use Rattle.entry_model.specs.Entries.{Entry, keys_of}
use Rattle.entry_model.specs.Newest.{entries_from, lookup}
use Rattle.range_model.specs.Sources.{Source}
use Rattle.block_model.specs.BlockReading.{block_in}
use Rattle.block_model.specs.Laws.{joined}
use Rattle.block_model.specs.Pages.{first_key, last_key}
use Rattle.table_model.specs.Images.{IsTableAt}
use Rattle.table_model.specs.Laws.{IsApartFromRow}
use Rattle.table_model.specs.Written.{ArePartsShown}
use Rattle.table_file.specs.Faults.{IsNoDamage}
use Rattle.table_file.specs.Opened.{IsOpen, Opened}
use Rattle.table_file.specs.Search.{IsGetFault, IsSoundBlock, StandsThere, block_for, bytes_at, row_at}
use Rattle.table_file.specs.Walks.{BeginsWell, CursorWalk, WalkGoesOn, blocks_on, to_come, walk_from}
use Rattle.table_file.specs.Writing.{AreWritten}
use Rattle.table_file.specs.declared.fault.TableFault.{TableFault}

-- what was opened from bytes that spell the table of some blocks is that table
abbrev pub OpenedStands : Type 0
OpenedStands =
    (spelling : Spelling) (t : Opened) (blocks : List (List Entry)) (image : Image) → SpellsOne spelling → IsOpen spelling t image
    → IsTableAt spelling t.row blocks image → StandsThere spelling t blocks image

-- what is written shows the parts of its table
abbrev pub WrittenIsShown : Type 0
WrittenIsShown = (row : Row) (s : Source) (filter_bytes : Bytes) (image : Image) → AreWritten row s filter_bytes image → ArePartsShown row s filter_bytes image

-- ---- a table that is there

-- Its blocks are read as they are, and no read of one is damage.
pub record BlocksAreRead (t : Opened) (blocks : List (List Entry)) (image : Image) : Type 0 where
  pub many : length t.index.rows ≡ length blocks
  pub on_device : blocks_on t image ≡ blocks
  pub sound : (n : ℕ) → n < length blocks → IsSoundBlock t n image
  pub read : (n : ℕ) → n < length blocks → block_in (bytes_at t n image) ≡ slice_index_or blocks n []
  pub no_damage : (n : ℕ) (fault : TableFault) → n < length blocks → IsGetFault t n image fault → IsNoDamage fault

-- The block of a key says of it what the table says, and where there is none the table says nothing. There is one exactly where
-- the filter of the keys admits the key, and it is neither below the least of them nor above the greatest.
pub record KeysAreFound (t : Opened) (blocks : List (List Entry)) (image : Image) : Type 0 where
  pub there : (key : Bytes) (n : ℕ) → block_for t key ≡ Some n → n < length blocks
  pub answer : (key : Bytes) (n : ℕ) → block_for t key ≡ Some n → lookup (block_in (bytes_at t n image)) key ≡ lookup (joined blocks) key
  pub no_answer : (key : Bytes) → block_for t key ≡ None → lookup (joined blocks) key ≡ None
  pub least : t.index.least ≡ first_key (joined blocks)
  pub greatest : (row_at t.index.rows (length t.index.rows - 1)).last ≡ last_key (joined blocks)
  pub searched :
      (key : Bytes)
      → is_some (block_for t key)
      ≡ (point t.row.hash_bits t.row.real_bits (leaves_of t.row.hash_bits t.row.real_bits (keys_of (joined blocks))) key
      && (not (is_before key (first_key (joined blocks))) && not (is_before (last_key (joined blocks)) key)))

-- A walk from a bound on gives the entries from there on, and the block that it reads next always has one.
pub record WalksAreWhole (t : Opened) (blocks : List (List Entry)) : Type 0 where
  pub all : (low : Bytes) → to_come (walk_from t low) blocks ≡ entries_from (joined blocks) low
  pub begins : (low : Bytes) → BeginsWell (walk_from t low) blocks
  pub goes_on : (old new : CursorWalk) → WalkGoesOn old new → BeginsWell old blocks → BeginsWell new blocks

-- what is written apart from its pages, done or cut short, keeps it
abbrev pub StandingIsKept : Type 0
StandingIsKept =
    (spelling : Spelling) (t : Opened) (blocks : List (List Entry)) (at n : ℕ) (old new : Image) → IsApartFromRow at n t.row
    → Torn at n old new → StandsThere spelling t blocks old → StandsThere spelling t blocks new

abbrev pub StandingBlocks : Type 0
StandingBlocks = (spelling : Spelling) (t : Opened) (blocks : List (List Entry)) (image : Image) → StandsThere spelling t blocks image → BlocksAreRead t blocks image

abbrev pub StandingKeys : Type 0
StandingKeys = (spelling : Spelling) (t : Opened) (blocks : List (List Entry)) (image : Image) → StandsThere spelling t blocks image → KeysAreFound t blocks image

abbrev pub StandingWalks : Type 0
StandingWalks = (spelling : Spelling) (t : Opened) (blocks : List (List Entry)) (image : Image) → StandsThere spelling t blocks image → WalksAreWhole t blocks
