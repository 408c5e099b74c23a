-- What is found of a block, and what is known after it.
use Rattle.std.specs.Prelude.{◌≡◌, ◌&&◌, ◌++◌, ℕ, is_none, Option, None}
use Rattle.disk_trait.specs.Image.{Image}
use Rattle.entry_model.specs.Entries.{keys_of}
use Rattle.image_model.specs.Findings.{Finding, block_at, findings_at, known_behind}
use Rattle.table_file.specs.Opened.{RowIndex}
use Rattle.table_file.specs.Search.{row_at}
use Rattle.store_check.specs.Befores.{before_of}
use Rattle.store_check.specs.Lists.{listed}
use Rattle.store_check.specs.Places.{damage_at, page_of}
use Rattle.store_check.specs.declared.blocks.BlocksSeen.{BlocksSeen}

-- The block number n was judged: this was found of it, and this is known after it.
pub record IsJudged (x : RowIndex) (n : ℕ) (image : Image) (old new : BlocksSeen) (found : Option Finding) : Type 0 where
  pub found_is : listed found ≡ findings_at (page_of x n) (before_of old.before) (row_at x.index.rows n) (damage_at x n image) image
  pub before_is : before_of new.before ≡ known_behind (page_of x n) (row_at x.index.rows n) (damage_at x n image) image
  pub sound_is : new.sound ≡ (old.sound && is_none (damage_at x n image))
  pub keys_are : damage_at x n image ≡ None → new.keys ≡ old.keys ++ keys_of (block_at (page_of x n) (row_at x.index.rows n) image)
