-- Why a scan does not go on.
use Rattle.std.proofs.Common.{◌≡◌, ◌∙◌, ◌≤◌, ◌+◌, ◌-◌, ℕ, zero, suc, Bool, true, false, List, [], ◌∷◌, length, refl, sym, ap, subst, arith}
use Rattle.std.specs.Prelude.{Contains, Err, IfErr, Ok, Option, Result, Some, None, is_some, slice_get}
use Rattle.std.specs.Option.{option_map}
use Rattle.std.proofs.lemmas.Bool.{false≢true}
use Rattle.disk_trait.proofs.Calls.{reads_then}
use Rattle.disk_trait.specs.Image.{Image}
use Rattle.disk_trait.specs.World.{World}
use Rattle.late_rows.specs.Going.{IsLatePaced}
use Rattle.late_rows.specs.Late.{LateMerge}
use Rattle.late_rows.specs.Opening.{IsLateFault, IsLateStep, OpensLate}
use Rattle.merge_rows.specs.Merges.{TableWalk}
use Rattle.merge_rows.specs.Reads.{OnlyReads, SomeBlock}
use Rattle.merge_rows.specs.Steps.{number_of_walk, numbers}
use Rattle.block_model.specs.Places.{byte_of_page}
use Rattle.disk_trait.specs.declared.fault.DiskFault.{DiskFault}
use Rattle.entry_model.specs.Entries.{Entry}
use Rattle.filter_api.specs.Spellings.{Spelling}
use Rattle.map_model.specs.SortedMap.{Bytes, Map}
use Rattle.store_core.specs.Faults.{of_table_fault}
use Rattle.store_core.specs.Getting.{IsUndamaged}
use Rattle.store_search.specs.Searching.{IsLookFault}
use Rattle.store_core.specs.Scans.{IsScanShown, IsStepFault, IsWalkShown, ScanWalk, StillComes, is_ended, pair_at, pair_in, pair_of}
use Rattle.store_search.specs.TablesAgree.{TablesAgree}
use Rattle.store_core.specs.declared.error.StoreError.{StoreError}
use Rattle.std.specs.Result.{IsErrAnd}
use Rattle.table_file.specs.Faults.{HasReadCause, IsNoDamage, IsNotMemory}
use Rattle.table_file.specs.Laws.{StandingBlocks}
use Rattle.table_model.specs.Tables.{Table}
use Rattle.table_file.specs.Opened.{Opened}
use Rattle.table_file.specs.Search.{IsGetFault, StandsThere, page_at}
use Rattle.table_file.specs.declared.fault.TableFault.{TableFault}
use Rattle.table_file.specs.declared.fault.TableFault.TheVariants as table
use Rattle.std.proofs.lemmas.List.{length-map}

look_since : (a b c : World) (at : ℕ) (why : TableFault) → a.seen.read_faults ≤ b.seen.read_faults → IsNotMemory why → HasReadCause at b c why → IsLookFault a c why
look_since a b c at table.Memory earlier taken is = absurd taken
look_since a b c at (table.Device cause) earlier taken is = (ap (λ (f : DiskFault). f.op) is.0, omega (arith, earlier, is.1))
look_since a b c at (table.Damaged d) earlier taken is = taken

-- a read of some block failed, after other reads
pub block_cause : (a b c : World) (tables : List Opened) (which : List ℕ) (why : TableFault) → OnlyReads a b → IsNotMemory why → SomeBlock tables which (λ t n. HasReadCause (byte_of_page (page_at t n)) b c why) → IsLookFault a c why
block_cause a b c tables which why moves taken is = look_since a b c (byte_of_page (page_at is.2.0 is.2.1)) why moves.1.read_faults taken is.2.4

pub reads_on : (a b c : World) → OnlyReads a b → OnlyReads b c → OnlyReads a c
reads_on a b c first second = (first.0 + second.0, reads_then first.0 second.0 a b c first.1 second.1)

-- ---- by the image before those reads

module _ (tells : Bool) (tables : List Opened) (f h : Image) (same : f ≡ h) (a b : LateMerge) where
  pub opens_at : OpensLate tells tables f a b → OpensLate tells tables h a b
  opens_at is = subst (λ (i : Image). OpensLate tells tables i a b) same is

  pub step_at : IsLateStep tells tables f a b → IsLateStep tells tables h a b
  step_at is = subst (λ (i : Image). IsLateStep tells tables i a b) same is

  pub fault_at : IsLateFault tells tables f a b → IsLateFault tells tables h a b
  fault_at is = subst (λ (i : Image). IsLateFault tells tables i a b) same is

  pub paced_at : IsLatePaced tables f a b → IsLatePaced tables h a b
  paced_at is = subst (λ (i : Image). IsLatePaced tables i a b) same is

-- as many walks as numbers
pub as_many_walks : (a b : List TableWalk) → numbers a ≡ numbers b → length a ≡ length b
as_many_walks a b same = sym (length-map a number_of_walk) ∙ ap (λ (l : List ℕ). length l) same ∙ length-map b number_of_walk

pub some_mapped : {A B : Type 0} (f : A → B) (o : Option A) → is_some (option_map f o) ≡ is_some o
some_mapped f None = refl
some_mapped f (Some x) = refl

pub pair_some : (key : Bytes) (value : Option Bytes) → is_some (pair_of key value) ≡ is_some value
pair_some key None = refl
pair_some key (Some value) = refl

pub none_value : (value : Option Bytes) → is_some value ≡ false → value ≡ None
none_value None none = refl
none_value (Some value) none = absurd (false≢true (sym none))

-- ---- what is told of a fault

pub told_step : (a b : World) (why : TableFault) → IsLookFault a b why → IsStepFault a b (of_table_fault why)
told_step a b table.Memory is = is
told_step a b (table.Device cause) is = is
told_step a b (table.Damaged d) is = is

contains_at : (tables : List Opened) (place : ℕ) (t : Opened) → slice_get tables place ≡ Some t → Contains tables t
contains_at [] place t is = absurd cc
contains_at (o ∷ tables) zero t is = (0, omega arith, some_same o t is)
  where
    some_same : (o t : Opened) → Some o ≡ Some t → o ≡ t
    some_same o t is = cc
contains_at (o ∷ tables) (suc place) t is = let rest = contains_at tables place t is in (suc rest.0, omega (arith, rest.1), rest.2)

pub told_block : (tables : List Opened) (which : List ℕ) (image : Image) (why : TableFault) → SomeBlock tables which (λ t n. IsGetFault t n image why) → IsScanShown tables image (of_table_fault why)
told_block tables which image table.Memory is = tt
told_block tables which image (table.Device cause) is = tt
told_block tables which image (table.Damaged d) is = (is.2.0, contains_at tables (length tables - 1 - is.0) is.2.0 is.2.2, (is.2.1, is.2.3, is.2.4))

pub told_walk : (tables : List Opened) (which : List ℕ) (image : Image) (why : TableFault) → SomeBlock tables which (λ t n. IsGetFault t n image why) → IsWalkShown tables which image (of_table_fault why)
told_walk tables which image table.Memory is = tt
told_walk tables which image (table.Device cause) is = tt
told_walk tables which image (table.Damaged d) is = is

pub told_as : {T : Type 0} (P : StoreError → Type 0) (r : Result T StoreError) (why : StoreError) → IsErrAnd r (λ x. x ≡ why) → P why → IfErr r P
told_as P (Ok v) why told is = tt
told_as P (Err e) why told is = subst P (sym told) is

-- a block of a table that is there is not damaged
held_at : (spelling : Spelling) (image : Image) (opened : List Opened) (states : List Table) → TablesAgree spelling opened states image → (place : ℕ) (t : Opened) → slice_get opened place ≡ Some t
    → (blocks : List (List Entry)) × StandsThere spelling t blocks image
held_at spelling image [] [] held place t is = absurd cc
held_at spelling image [] (s ∷ states) held place t is = elim held [ ]
held_at spelling image (o ∷ opened) [] held place t is = elim held [ ]
held_at spelling image (o ∷ opened) (s ∷ states) held zero t is =
    let same : o ≡ t = cc in
    (held.0.blocks, subst (λ (x : Opened). StandsThere spelling x held.0.blocks image) same held.0.stands)
held_at spelling image (o ∷ opened) (s ∷ states) held (suc place) t is = held_at spelling image opened states held.1 place t is

undamaged_of : (why : TableFault) → IsNoDamage why → IsUndamaged (of_table_fault why)
undamaged_of table.Memory is = tt
undamaged_of (table.Device cause) is = tt
undamaged_of (table.Damaged d) is = absurd is

pub no_damage : StandingBlocks → (spelling : Spelling) (scan : ScanWalk) (m : Map) (image : Image) → StillComes spelling scan m image → (which : List ℕ) (why : TableFault)
    → SomeBlock scan.tables which (λ t n. IsGetFault t n image why) → IsUndamaged (of_table_fault why)
no_damage laws spelling scan m image shows which why is =
    let there = held_at spelling image scan.tables shows.states shows.held (length scan.tables - 1 - is.0) is.2.0 is.2.2 in
    let read = laws spelling is.2.0 there.0 image there.1 in
    undamaged_of why (read.no_damage is.2.1 why (omega (arith, is.2.3, read.many)) is.2.4)

pub not_ended : (left : Option ℕ) → is_ended left ≡ false → left ≡ Some 0 → ⊥
not_ended left going is = false≢true (sym going ∙ ap is_ended is)

pub told_scan : {T : Type 0} (r : Result T StoreError) (tables : List Opened) (image : Image) (why : TableFault) → IsErrAnd r (λ x. x ≡ of_table_fault why) → IsScanShown tables image (of_table_fault why)
    → IfErr r (IsScanShown tables image)
told_scan (Ok v) tables image why told is = tt
told_scan (Err e) tables image why told is = subst (IsScanShown tables image) (sym told) is

pub said_of : (found : Bool) (row : Option Entry) → (found ≡ true → is_some (pair_in row) ≡ true) → found ≡ is_some (pair_at found row)
said_of true row some = sym (some refl)
said_of false row some = refl
