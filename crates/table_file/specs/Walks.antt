-- A walk over the entries of a table, block by block.
use Rattle.std.specs.Prelude.{◌≡◌, ◌⊎◌, max, ◌<◌, ◌≤◌, ℕ, ◌+◌, Bool, false, ◌&&◌, ◌==◌, nat_lt, List, [], ◌∷◌, ◌++◌, length, drop, slice_index_or, Option, Some, None, MatchOption}
use Rattle.std.specs.List.{position_or_len}
use Rattle.disk_trait.specs.Image.{Image}
use Rattle.map_model.specs.SortedMap.{Bytes}
use Rattle.entry_model.specs.Entries.{Entry}
use Rattle.block_model.specs.BlockReading.{block_in}
use Rattle.block_model.specs.Index.{IndexRow}
use Rattle.block_model.specs.Laws.{joined}
use Rattle.block_model.specs.Order.{is_from}
use Rattle.block_format.specs.Walking.{kept_from}
use Rattle.table_model.specs.Damage.{block_part}
use Rattle.table_file.specs.Opened.{Opened}

-- what the bytes of the blocks spell that have these rows, one after the other from this page on
abbrev pub blocks_there : ℕ → List IndexRow → Image → List (List Entry)
blocks_there page [] image = []
blocks_there page (row ∷ later) image = block_in (block_part page row image) ∷ blocks_there (page + row.pages) later image

-- so with the blocks of a table, whatever is on the device
abbrev pub blocks_on : Opened → Image → List (List Entry)
blocks_on t image = blocks_there t.row.first_page t.index.rows image

-- the most pages that one of the blocks has with these rows
abbrev pub most_block_pages : List IndexRow → ℕ
most_block_pages [] = 0
most_block_pages (row ∷ later) = max row.pages (most_block_pages later)

-- Where a walk is: its bound until a block was read, the block that is read next, the entry at hand, and those of the
-- last block that are still to come; and for how many pages of a block it has room.
pub record CursorWalk : Type 0 where
  pub room : ℕ
  pub bound : Option Bytes
  pub block : ℕ
  pub now : Option Entry
  pub later : List Entry

-- the entries of some blocks, those of the first from a bound on
abbrev pub joined_from : Option Bytes → List (List Entry) → List Entry
joined_from bound [] = []
joined_from bound (block ∷ more) = kept_from bound block ++ joined more

-- the entries that are still to come, in a table of these blocks
abbrev pub to_come : CursorWalk → List (List Entry) → List Entry
to_come walk blocks = walk.later ++ joined_from walk.bound (drop walk.block blocks)

-- a walk from a bound on begins at the first block whose last key is not below it, and has room for each block of the table
abbrev pub walk_from : Opened → Bytes → CursorWalk
walk_from t low = record {
  room = most_block_pages t.index.rows;
  bound = Some low;
  block = position_or_len (λ (row : IndexRow). is_from low row.last) t.index.rows;
  now = None;
  later = [];
}

-- the next step reads a block, in a table of that many
abbrev pub is_due : CursorWalk → ℕ → Bool
is_due walk blocks = length walk.later == 0 && nat_lt walk.block blocks

-- no block is due, or one was read: then the next one has an entry
abbrev pub IsSettled : CursorWalk → ℕ → Type 0
IsSettled walk blocks = (is_due walk blocks ≡ false) ⊎ (walk.bound ≡ None)

-- a step hands out the first of the entries that are still to come, and none where there are none
abbrev pub HandsOut : CursorWalk → CursorWalk → List (List Entry) → Type 0
HandsOut old new blocks = MatchOption new.now (to_come old blocks ≡ []) (λ entry. to_come old blocks ≡ entry ∷ to_come new blocks)

-- the block that is read next has an entry for the walk
abbrev pub BeginsWell : CursorWalk → List (List Entry) → Type 0
BeginsWell walk blocks = walk.block < length blocks → 1 ≤ length (kept_from walk.bound (slice_index_or blocks walk.block []))

-- the same bound and block, or none any more
abbrev pub WalkGoesOn : CursorWalk → CursorWalk → Type 0
WalkGoesOn old new = (new.bound ≡ None) ⊎ ((new.bound ≡ old.bound) × (new.block ≡ old.block))

-- ---- a block in memory: the first of some entries, and the others

abbrev pub first_of : List Entry → Option Entry
first_of [] = None
first_of (entry ∷ later) = Some entry

abbrev pub others_of : List Entry → List Entry
others_of [] = []
others_of (entry ∷ later) = later

pub record BlockInHand : Type 0 where
  pub room : ℕ
  pub now : Option Entry
  pub later : List Entry
