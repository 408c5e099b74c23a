-- A block that is wanted is left to read.
use Rattle.std.proofs.Common.{◌≡◌, ◌≤◌, ◌<◌, List, [], ◌∷◌, length, Bool, true, false, refl, sym, ap, arith}
use Rattle.std.specs.Prelude.{◌&&◌, ◌==◌, nat_lt}
use Rattle.std.proofs.lemmas.Bool.{false≢true, ltb-true}
use Rattle.std.proofs.lemmas.List.Sums.{sum_by-cons}
use Rattle.merge_rows.specs.Merges.{TableWalk, numbered, row_count}
use Rattle.merge_rows.specs.Reads.{blocks_left, blocks_left_in, is_used_up, ones, wanted_by, wants}
use Rattle.merge_rows.specs.Rows.{KeyFloor}
use Rattle.table_file.specs.Opened.{Opened}
use Rattle.table_file.specs.Walks.{is_due}

wants_some : (floor : KeyFloor) (tables : List Opened) (w : TableWalk) → wants floor tables w ≡ true → 1 ≤ blocks_left_in tables w
wants_some floor tables w e =
    let due : is_due w.walk (row_count (numbered tables w.number)) ≡ true = second (is_used_up floor w.walk.now) (is_due w.walk (row_count (numbered tables w.number))) e in
    let less : w.walk.block < row_count (numbered tables w.number) =
    ltb-true w.walk.block (row_count (numbered tables w.number)) (second (length w.walk.later == 0) (nat_lt w.walk.block (row_count (numbered tables w.number))) due) in
    omega (arith, less)
  where
    second : (a b : Bool) → (a && b) ≡ true → b ≡ true
    second true b e = e
    second false b e = absurd (false≢true e)

-- so one is left of all
pub wanted_left : (floor : KeyFloor) (tables : List Opened) (walks : List TableWalk) → 1 ≤ wanted_by floor tables walks → 1 ≤ blocks_left tables walks
wanted_left floor tables [] some = absurd (none some)
  where
    none : 1 ≤ wanted_by floor tables [] → ⊥
    none some = absurd (omega arith)
wanted_left floor tables (w ∷ more) some = by_want (wants floor tables w) refl (wanted_left floor tables more)
  where
    by_want : (want : Bool) → wants floor tables w ≡ want → (1 ≤ wanted_by floor tables more → 1 ≤ blocks_left tables more) → 1 ≤ blocks_left tables (w ∷ more)
    by_want true e rest = let here = wants_some floor tables w e in let sum = sum_by-cons (blocks_left_in tables) w more in omega (arith, here, sum)
    by_want false e rest =
        let own : ones (wants floor tables w) ≡ 0 = ap ones e in
        let counted = sum_by-cons (λ (x : TableWalk). ones (wants floor tables x)) w more in
        let later = rest (omega (arith, own, counted, some)) in
        let sum = sum_by-cons (blocks_left_in tables) w more in
        omega (arith, later, sum)
