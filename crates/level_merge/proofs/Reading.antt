-- Reads of a merge, one after the other, and their faults.
use Rattle.std.proofs.Common.{◌≡◌, ◌∙◌, ◌+◌, ◌*◌, ◌-◌, ◌<◌, ◌≤◌, ℕ, List, refl, ap, subst, arith}
use Rattle.std.specs.Prelude.{Bool, true, false, IsTrue, Result, Err, nat_lt}
use Rattle.std.proofs.lemmas.Bool.{ltb-true}
use Rattle.block_model.specs.Places.{byte_of_page}
use Rattle.disk_trait.specs.Image.{Image}
use Rattle.disk_trait.specs.World.{ReadMoves, Rose, World}
use Rattle.disk_trait.specs.declared.fault.DiskFault.{DiskFault}
use Rattle.disk_trait.proofs.Calls.{reads_more, reads_then}
use Rattle.level_merge.specs.Faults.{of_table_fault}
use Rattle.level_merge.specs.SliceSteps.{IsTakeFault, KeepsRows}
use Rattle.level_merge.specs.declared.fault.JobFault.{JobFault}
use Rattle.level_merge.specs.declared.fault.JobFault.TheVariants as fault
use Rattle.merge_rows.specs.Merges.{Merge}
use Rattle.merge_rows.specs.Reads.{IsFewer, OnlyReads, SomeBlock}
use Rattle.merge_rows.specs.Steps.{StaysAt}
use Rattle.table_file.specs.Faults.{HasReadCause, IsNotMemory}
use Rattle.table_file.specs.Opened.{Opened}
use Rattle.table_file.specs.Search.{IsGetFault, page_at}
use Rattle.table_file.specs.declared.fault.TableFault.{TableFault}
use Rattle.table_file.specs.declared.fault.TableFault.TheVariants as table

-- ---- faults

rose_later : (a b c : ℕ) → a ≤ b → Rose b c → Rose a c
rose_later a b c le rose = omega (arith, le, rose)

-- a fault after some reads
pub later_fault : (tells : Bool) (tables : List Opened) (now which : List ℕ) (first mid after : World) (why : JobFault) → now ≡ which → OnlyReads first mid
    → IsTakeFault tells tables now mid after why → IsTakeFault tells tables which first after why
later_fault tells tables now which first mid after fault.Memory same reads is = tt
later_fault tells tables now which first mid after (fault.Device cause) same reads is = (is.0, rose_later first.seen.read_faults mid.seen.read_faults after.seen.read_faults reads.1.read_faults is.1)
later_fault tells tables now which first mid after (fault.Damaged d) same reads is = (
  is.0,
  λ t. subst (λ (numbers : List ℕ). SomeBlock tables numbers (λ place n. IsGetFault place n first.seen.held (table.Damaged d))) same
      (subst (λ (h : Image). SomeBlock tables now (λ place n. IsGetFault place n h (table.Damaged d))) reads.1.held (is.1 t)),
)
later_fault tells tables now which first mid after (fault.Full need gap) same reads is = absurd is

-- a fault of a read of rows is one of the merge
pub read_fault : (tells : Bool) (tables : List Opened) (which : List ℕ) (before after : World) (why : TableFault) → IsNotMemory why
    → SomeBlock tables which (λ t n. HasReadCause (byte_of_page (page_at t n)) before after why)
    → (IsTrue tells → SomeBlock tables which (λ t n. IsGetFault t n before.seen.held why)) → IsTakeFault tells tables which before after (of_table_fault why)
read_fault tells tables which before after table.Memory want cause damage = absurd want
read_fault tells tables which before after (table.Device why) want cause damage = (ap (λ (f : DiskFault). f.op) cause.2.4.0, cause.2.4.1)
read_fault tells tables which before after (table.Damaged d) want cause damage = (want, damage)

-- ---- rows that are kept

pub kept_none : (tells : Bool) (tables : List Opened) (image : Image) (m : Merge) → KeepsRows tells tables image m m
kept_none tells tables image m = record {
  sources = record { numbers_are = refl; stands_are = refl; drops_are = refl; sound = λ t s. s };
  floor_is = refl;
  left = λ t. refl;
}

pub kept_then : (tells : Bool) (tables : List Opened) (image : Image) (a b c : Merge) → KeepsRows tells tables image a b → StaysAt tells tables image b c → KeepsRows tells tables image a c
kept_then tells tables image a b c one two = record {
  sources = record {
    numbers_are = two.sources.numbers_are ∙ one.sources.numbers_are;
    stands_are = two.sources.stands_are ∙ one.sources.stands_are;
    drops_are = two.sources.drops_are ∙ one.sources.drops_are;
    sound = λ t s. two.sources.sound t (one.sources.sound t s);
  };
  floor_is = two.floor_is ∙ one.floor_is;
  left = λ t. two.left t ∙ one.left t;
}

-- ---- how many

pub one_more : (blocks left : ℕ) (a b c : World) → 0 < left → left ≤ blocks → ReadMoves (blocks - left) a b → ReadMoves 1 b c → ReadMoves (blocks - (left - 1)) a c
one_more blocks left a b c some le first more = reads_more (blocks - left + 1) (blocks - (left - 1)) a c (omega (arith, some, le)) (reads_then (blocks - left) 1 a b c first more)

pub none_more : (blocks left : ℕ) (a b c : World) → ReadMoves (blocks - left) a b → ReadMoves 0 b c → ReadMoves (blocks - left) a c
none_more blocks left a b c first more = reads_more (blocks - left + 0) (blocks - left) a c (omega arith) (reads_then (blocks - left) 0 a b c first more)

-- those of two steps of which the second may read what the first has left
pub both_within : (blocks left rest : ℕ) (a b c : World) → rest ≤ left → left ≤ blocks → ReadMoves (blocks - left) a b → ReadMoves (left - rest) b c → ReadMoves (blocks - rest) a c
both_within blocks left rest a b c less le first more =
    reads_more (blocks - left + (left - rest)) (blocks - rest) a c (omega (arith, less, le)) (reads_then (blocks - left) (left - rest) a b c first more)

pub within_all : (blocks left : ℕ) (a b : World) → ReadMoves (blocks - left) a b → ReadMoves blocks a b
within_all blocks left a b reads = reads_more (blocks - left) blocks a b (omega arith) reads

-- the same on any device, where one step reads two blocks at most
pub one_twice : (blocks left : ℕ) (a b c : World) → 0 < left → left ≤ blocks → ReadMoves (2 * (blocks - left)) a b → ReadMoves 2 b c → ReadMoves (2 * (blocks - (left - 1))) a c
one_twice blocks left a b c some le first more = reads_more (2 * (blocks - left) + 2) (2 * (blocks - (left - 1))) a c (omega (arith, some, le)) (reads_then (2 * (blocks - left)) 2 a b c first more)

pub none_twice : (blocks left : ℕ) (a b c : World) → ReadMoves (2 * (blocks - left)) a b → ReadMoves 0 b c → ReadMoves (2 * (blocks - left)) a c
none_twice blocks left a b c first more = reads_more (2 * (blocks - left) + 0) (2 * (blocks - left)) a c (omega arith) (reads_then (2 * (blocks - left)) 0 a b c first more)

pub both_twice : (blocks left rest : ℕ) (a b c : World) → rest ≤ left → left ≤ blocks → ReadMoves (2 * (blocks - left)) a b → ReadMoves (2 * (left - rest)) b c → ReadMoves (2 * (blocks - rest)) a c
both_twice blocks left rest a b c less le first more =
    reads_more (2 * (blocks - left) + 2 * (left - rest)) (2 * (blocks - rest)) a c (omega (arith, less, le)) (reads_then (2 * (blocks - left)) (2 * (left - rest)) a b c first more)

pub then_twice : (blocks left more : ℕ) (a b c : World) → more ≤ 2 * left → left ≤ blocks → ReadMoves (2 * (blocks - left)) a b → ReadMoves more b c → ReadMoves (2 * blocks) a c
then_twice blocks left more a b c less le first last = reads_more (2 * (blocks - left) + more) (2 * blocks) a c (omega (arith, less, le)) (reads_then (2 * (blocks - left)) more a b c first last)

pub all_twice : (blocks left : ℕ) (a b : World) → ReadMoves (2 * (blocks - left)) a b → ReadMoves (2 * blocks) a b
all_twice blocks left a b reads = reads_more (2 * (blocks - left)) (2 * blocks) a b (omega arith) reads

-- ---- blocks that are wanted

-- where a read failed, one was wanted
pub one_wanted : {E : Type 0} (result : Result Bool E) (why : E) (old new : ℕ) → result ≡ Err why → IsFewer result old new → 1 ≤ old
one_wanted {E} result why old new is fewer = subst (λ (r : Result Bool E). IsFewer r old new) is fewer

-- a block was read in one of two steps
pub some_then : (blocks left rest first old new : ℕ) → rest ≤ left → old ≤ first → new ≤ old → (left < blocks → old < first) → (rest < left → new < old) → rest < blocks → new < first
some_then blocks left rest first old new le one two before here less = by_test (nat_lt rest left) refl
  where
    by_test : (test : Bool) → nat_lt rest left ≡ test → new < first
    by_test true e = let fell = here (ltb-true rest left e) in omega (arith, fell, one)
    by_test false e = let same : left ≤ rest = not_less rest left e in let fell = before (omega (arith, same, less)) in omega (arith, fell, two)
      where
        not_less : (m n : ℕ) → nat_lt m n ≡ false → n ≤ m
        not_less m n e = grind arith
