-- Tables that stand on a device, and sleep.
use Rattle.std.proofs.Common.{◌≡◌, ◌∙◌, ◌<◌, ℕ, zero, suc, List, [], ◌∷◌, length, map, get_or, sym, ap, subst, arith}
use Rattle.std.specs.Prelude.{Option, Some}
use Rattle.block_model.specs.Laws.{joined}
use Rattle.disk_trait.specs.Image.{Image}
use Rattle.entry_model.specs.Entries.{Entry}
use Rattle.entry_model.specs.Newest.{entries_from}
use Rattle.filter_api.specs.Spellings.{Spelling}
use Rattle.map_model.specs.SortedMap.{Bytes}
use Rattle.merge_rows.specs.Laws.{NumberedStand}
use Rattle.merge_rows.specs.Merges.{TableWalk, blocks_in, numbered, walk_at, walk_left, with_hand}
use Rattle.table_file.specs.Laws.{StandingBlocks, StandingWalks}
use Rattle.table_file.specs.Opened.{Opened}
use Rattle.table_file.specs.Search.{StandsThere}
use Rattle.table_file.specs.Walks.{to_come, walk_from}
use Rattle.late_rows.proofs.Awake.{sleeps_within}
use Rattle.late_rows.specs.Late.{AreFrom, SleepWell, walk_in}
use Rattle.late_rows.specs.Laws.{NoneBefore}

module _ (blocks_law : StandingBlocks) (walks_law : StandingWalks) (spelling : Spelling) (tables : List Opened) (image : Image) (low : Bytes) where
  abbrev source : ℕ → TableWalk
  source number = record { number = number; walk = walk_at (numbered tables number) low }

  -- what is left of a walk that begins: the entries of its table from the bound on
  left : (number : ℕ) (blocks : List (List Entry)) → ((t : Opened) × (numbered tables number ≡ Some t) × StandsThere spelling t blocks image)
      → walk_left tables image (source number) ≡ entries_from (joined blocks) low
  left number blocks stand =
      let t = stand.0 in
      ap (λ (o : Option Opened). with_hand (walk_at o low).now (to_come (walk_at o low) (blocks_in o image))) stand.1
      ∙ ap (to_come (walk_from t low)) (blocks_law spelling t blocks image stand.2).on_device
      ∙ (walks_law spelling t blocks image stand.2).all low

  -- so of that of each place
  left_at : (which : List ℕ) (blocks : List (List (List Entry))) (at : ℕ) (key : Bytes) → at < length which → NumberedStand spelling tables image which blocks
      → AreFrom key (entries_from (joined (get_or blocks at [])) low) → AreFrom key (walk_left tables image (walk_in (map source which) at))
  left_at [] blocks at key lt stand from = absurd (omega (arith, lt))
  left_at (number ∷ which) [] at key lt stand from = absurd stand
  left_at (number ∷ which) (b ∷ blocks) zero key lt stand from = subst (AreFrom key) (sym (left number b stand.0)) from
  left_at (number ∷ which) (b ∷ blocks) (suc at) key lt stand from = left_at which blocks at key (omega (arith, lt)) stand.1 from

  pub sleep_well : (which : List ℕ) (asleep : List (Option Bytes)) (blocks : List (List (List Entry))) → length asleep ≡ length which → NumberedStand spelling tables image which blocks
      → NoneBefore low asleep blocks → SleepWell tables image asleep (map source which)
  sleep_well which asleep blocks many stand before at key is =
      let within = sleeps_within asleep at key is in
      left_at which blocks at key (omega (arith, within, many)) stand (before at key is)
