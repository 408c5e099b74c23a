-- A merge that begins has room for each block of its tables.
use Rattle.std.proofs.Common.{◌≡◌, ◌-◌, ◌<◌, ℕ, zero, suc, List, [], ◌∷◌, length, map, sym, ap, subst, arith}
use Rattle.std.specs.Prelude.{Option, slice_get}
use Rattle.map_model.specs.SortedMap.{Bytes}
use Rattle.merge_rows.specs.Merges.{TableWalk, numbered, walk_at}
use Rattle.merge_rows.specs.Steps.{AreNumbersIn, AreWalksIn, HasRoomFor, numbers, stands}
use Rattle.table_file.specs.Opened.{Opened}

room_at : (tables : List Opened) (i : ℕ) (low : Bytes) → i < length tables → HasRoomFor (slice_get tables i) (walk_at (slice_get tables i) low).room
room_at [] i low lt = absurd (omega (arith, lt))
room_at (t ∷ more) zero low lt = omega arith
room_at (t ∷ more) (suc i) low lt = room_at more i low (omega (arith, lt))

pub walks_known : (which : List ℕ) (tables : List Opened) (low : Bytes) → AreNumbersIn tables which
    → AreWalksIn tables (stands (map (λ (number : ℕ). record { number = number; walk = walk_at (numbered tables number) low }) which))
walks_known [] tables low there = tt
walks_known (n ∷ more) tables low there = ((there.0, room_at tables (length tables - 1 - n) low (omega (arith, there.0))), walks_known more tables low there.1)

-- the numbers of such walks are those of tables
pub numbers_known : (walks : List TableWalk) (tables : List Opened) → AreWalksIn tables (stands walks) → AreNumbersIn tables (numbers walks)
numbers_known [] tables there = tt
numbers_known (w ∷ more) tables there = (there.0.0, numbers_known more tables there.1)

-- a table that comes before all others changes no number
same_number : (opened : Opened) (tables : List Opened) (n : ℕ) → n < length tables → numbered (opened ∷ tables) n ≡ numbered tables n
same_number opened tables n lt =
    let place : length (opened ∷ tables) - 1 - n ≡ suc (length tables - 1 - n) = omega (arith, lt) in
    ap (λ (k : ℕ). slice_get (opened ∷ tables) k) place

pub walks_then : (opened : Opened) (tables : List Opened) (walks : List TableWalk) → AreWalksIn tables (stands walks) → AreWalksIn (opened ∷ tables) (stands walks)
walks_then opened tables [] there = tt
walks_then opened tables (w ∷ more) there = (
  (omega (arith, there.0.0), subst (λ (t : Option Opened). HasRoomFor t w.walk.room) (sym (same_number opened tables w.number there.0.0)) there.0.1),
  walks_then opened tables more there.1,
)
