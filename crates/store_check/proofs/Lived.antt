-- How a merge goes on, row by row, and why it does not.
use Rattle.std.proofs.Common.{◌≡◌, ◌≤◌, ◌+◌, ◌-◌, ℕ, zero, suc, Bool, true, false, List, [], ◌∷◌, length, sym, ap, subst, arith}
use Rattle.std.specs.Prelude.{IsTrue, Option, Some, None, is_some, slice_get}
use Rattle.disk_trait.specs.Image.{Image}
use Rattle.disk_trait.specs.World.{World}
use Rattle.entry_model.specs.Entries.{Entry}
use Rattle.filter_api.specs.Spellings.{Spelling}
use Rattle.block_model.specs.Places.{byte_of_page}
use Rattle.merge_rows.specs.Merges.{Merge, rows_left}
use Rattle.merge_rows.specs.Reads.{SomeBlock}
use Rattle.merge_rows.specs.Steps.{HandsOutRow, IsRowStep, IsSoundMerge, SourcesStay}
use Rattle.store_check.specs.Causes.{HasFaultCause}
use Rattle.store_check.specs.Summaries.{AreTablesThere}
use Rattle.table_file.specs.Faults.{HasReadCause, IsNoDamage}
use Rattle.table_file.specs.Laws.{StandingBlocks}
use Rattle.table_file.specs.Opened.{Opened}
use Rattle.table_file.specs.Search.{IsGetFault, StandsThere, page_at}
use Rattle.table_file.specs.declared.fault.TableFault.{TableFault}
use Rattle.table_file.specs.declared.fault.TableFault.TheVariants as table
use Rattle.table_model.specs.Tables.{Table}

-- one row is fewer
pub one_fewer : (now : Option Entry) (old new : List Entry) → is_some now ≡ true → HandsOutRow now old new → length old ≡ length new + 1
one_fewer None old new some is = absurd cc
one_fewer (Some row) old new some is = omega (arith, ap length is)

module _ (tells : Bool) (tables : List Opened) (image there : Image) (held : there ≡ image) (old new : Merge) where
  pub sound_on : SourcesStay tells tables there old new → IsTrue tells → IsSoundMerge old tables image → IsSoundMerge new tables image
  sound_on stay = (subst (λ (f : Image). SourcesStay tells tables f old new) held stay).sound

  pub rows_on : IsRowStep tells tables there old new → (some : Bool) → some ≡ is_some new.now → some ≡ true → IsTrue tells → IsSoundMerge old tables image
      → length (rows_left old tables image) ≡ length (rows_left new tables image) + 1
  rows_on step false said some_is is sound = absurd cc
  rows_on step true said some_is is sound =
      one_fewer new.now (rows_left old tables image) (rows_left new tables image) (sym said) ((subst (λ (f : Image). IsRowStep tells tables f old new) held step).rows is sound)

-- ---- a fault

table_at : (spelling : Spelling) (image : Image) (opened : List Opened) (tables : List Table) → AreTablesThere spelling opened tables image → (place : ℕ) (t : Opened) → slice_get opened place ≡ Some t
    → (blocks : List (List Entry)) × StandsThere spelling t blocks image
table_at spelling image [] [] there place t is = absurd cc
table_at spelling image [] (s ∷ tables) there place t is = elim there [ ]
table_at spelling image (o ∷ opened) [] there place t is = elim there [ ]
table_at spelling image (o ∷ opened) (s ∷ tables) there zero t is =
    let same : o ≡ t = cc in
    (there.0.blocks, subst (λ (x : Opened). StandsThere spelling x there.0.blocks image) same there.0.there)
table_at spelling image (o ∷ opened) (s ∷ tables) there (suc place) t is = table_at spelling image opened tables there.1 place t is

pub block_undamaged : StandingBlocks → (spelling : Spelling) (image : Image) (opened : List Opened) (tables : List Table) → AreTablesThere spelling opened tables image → (which : List ℕ) (why : TableFault)
    → SomeBlock opened which (λ t n. IsGetFault t n image why) → IsNoDamage why
block_undamaged laws spelling image opened tables there which why is =
    let at = table_at spelling image opened tables there (length opened - 1 - is.0) is.2.0 is.2.2 in
    let read = laws spelling is.2.0 at.0 image at.1 in
    read.no_damage is.2.1 why (omega (arith, is.2.3, read.many)) is.2.4

read_cause : (a b c : World) (at : ℕ) (why : TableFault) → a.seen.read_faults ≤ b.seen.read_faults → HasReadCause at b c why → HasFaultCause a c why
read_cause a b c at table.Memory le is = tt
read_cause a b c at (table.Device cause) le is = omega (arith, le, is.1)
read_cause a b c at (table.Damaged d) le is = tt

pub block_cause : (a b c : World) (opened : List Opened) (which : List ℕ) (why : TableFault) → a.seen.read_faults ≤ b.seen.read_faults
    → SomeBlock opened which (λ t n. HasReadCause (byte_of_page (page_at t n)) b c why) → HasFaultCause a c why
block_cause a b c opened which why le is = read_cause a b c (byte_of_page (page_at is.2.0 is.2.1)) why le is.2.4
