-- How many blocks a scan has still to read.
use Rattle.std.proofs.Common.{◌≡◌, ◌∙◌, ◌≤◌, ◌+◌, ◌-◌, ℕ, Bool, true, false, cond, List, [], ◌∷◌, ◌++◌, length, map, refl, sym, ap, subst, arith}
use Rattle.std.specs.Prelude.{Option, Some, None, sum_by}
use Rattle.std.proofs.lemmas.List.{append_assoc}
use Rattle.std.proofs.lemmas.List.Sums.{sum_by-cons}
use Rattle.entry_model.specs.Entries.{Entry}
use Rattle.map_model.specs.SortedMap.{Bytes}
use Rattle.merge_rows.specs.Merges.{TableWalk, numbered, row_count, walk_at}
use Rattle.merge_rows.specs.Reads.{blocks_left, blocks_left_in}
use Rattle.store_core.proofs.ScanMade.{made_scan}
use Rattle.store_core.proofs.ScanStates.{numbered_at}
use Rattle.store_core.specs.Scans.{ScanWalk, admits_keys, blocks_admitting, blocks_to_come, keys_admitting, numbers_admitting, walks_between}
use Rattle.table_file.specs.Opened.{Opened}

module _ (low : Bytes) (high : Option Bytes) where
  abbrev start : List Opened → ℕ → TableWalk
  start all number = record { number = number; walk = walk_at (numbered all number) low }

  -- a walk that begins has no more blocks to read than its table has
  one_left : (all : List Opened) (number : ℕ) (t : Opened) → numbered all number ≡ Some t → blocks_left_in all (start all number) ≤ length t.index.rows
  one_left all number t is =
      let rows : row_count (numbered all number) ≡ length t.index.rows = ap row_count is in
      omega (arith, rows)

  left_behind : (front tables : List Opened) → blocks_left (front ++ tables) (map (start (front ++ tables)) (numbers_admitting low high tables)) ≤ blocks_admitting low high tables
  left_behind front [] = omega arith
  left_behind front (t ∷ older) =
      by_test (subst (λ (all : List Opened). blocks_left all (map (start all) (numbers_admitting low high older)) ≤ blocks_admitting low high older)
      (append_assoc front (t ∷ []) older) (left_behind (front ++ t ∷ []) older))
      (admits_keys low high t)
    where
      by_test : blocks_left (front ++ t ∷ older) (map (start (front ++ t ∷ older)) (numbers_admitting low high older)) ≤ blocks_admitting low high older → (yes : Bool)
          → blocks_left (front ++ t ∷ older) (map (start (front ++ t ∷ older)) (cond yes (length older ∷ numbers_admitting low high older) (numbers_admitting low high older)))
          ≤ cond yes (length t.index.rows + blocks_admitting low high older) (blocks_admitting low high older)
      by_test rest true =
          omega (
            arith,
            rest,
            sum_by-cons (blocks_left_in (front ++ t ∷ older)) (start (front ++ t ∷ older) (length older)) (map (start (front ++ t ∷ older)) (numbers_admitting low high older)),
            one_left (front ++ t ∷ older) (length older) t (numbered_at front t older),
          )
      by_test rest false = rest

-- a scan that is made has those of the tables that may have a key between its bounds
pub made_blocks : (low : Bytes) (high : Option Bytes) (tables : List Opened) (entries : List Entry) (scan : ScanWalk) (most : Option ℕ) → scan ≡ made_scan low high tables entries most
    → blocks_to_come scan ≤ blocks_admitting low high tables
made_blocks low high tables entries scan most is = subst (λ (w : ScanWalk). blocks_to_come w ≤ blocks_admitting low high tables) (sym is) (left_behind low high [] tables)

-- and its walks begin at its lower bound
pub made_walks : (low : Bytes) (high : Option Bytes) (tables : List Opened) (entries : List Entry) (scan : ScanWalk) (most : Option ℕ) → scan ≡ made_scan low high tables entries most
    → (scan.high ≡ high) × (scan.merge.walks ≡ walks_between low high tables) × (scan.asleep ≡ keys_admitting low high tables)
made_walks low high tables entries scan most is = subst (λ (w : ScanWalk). (w.high ≡ high) × (w.merge.walks ≡ walks_between low high tables) × (w.asleep ≡ keys_admitting low high tables)) (sym is) (refl, refl, refl)
