-- A block that is read for a walk.
use Rattle.std.proofs.Common.{◌≡◌, ◌∙◌, ◌≤◌, ℕ, List, [], length, refl, sym, ap, subst, Bool, true, false, arith}
use Rattle.std.specs.Prelude.{IfErr, IfOk, OnOk, Option, Some, Result, Ok, Err, ◌&&◌, is_some}
use Rattle.disk_trait.specs.Image.{Image}
use Rattle.disk_trait.specs.World.{Rose, World}
use Rattle.entry_model.specs.Entries.{Entry}
use Rattle.merge_rows.specs.Merges.{TableWalk, blocks_in, left_above, numbered, row_count, with_hand}
use Rattle.merge_rows.specs.Reads.{is_used_up, ones, wanted_block_of}
use Rattle.merge_rows.specs.Rows.{KeyFloor, above_floor}
use Rattle.merge_rows.proofs.Steps.{advanced_same, walk_ended}
use Rattle.table_file.specs.Faults.{HasReadCause}
use Rattle.table_file.specs.Opened.{Opened}
use Rattle.table_file.specs.Walks.{CursorWalk, HandsOut, blocks_on, is_due, to_come}
use Rattle.table_file.specs.declared.fault.TableFault.{TableFault}
use Rattle.table_file.specs.declared.fault.TableFault.TheVariants as table

pub first_true : (a b : Bool) → (a && b) ≡ true → a ≡ true
first_true true b both = refl
first_true false b both = both

-- a read that fails since a later moment fails since an earlier one
pub cause_since : (at : ℕ) (before old new : World) (why : TableFault) → before.seen.read_faults ≤ old.seen.read_faults → HasReadCause at old new why → HasReadCause at before new why
cause_since at before old new table.Memory le cause = tt
cause_since at before old new (table.Device fault) le cause = (cause.0, rose before.seen.read_faults old.seen.read_faults new.seen.read_faults le cause.1)
  where
    rose : (a b n : ℕ) → a ≤ b → Rose b n → Rose a n
    rose a b n le since = omega (arith, le, since)
cause_since at before old new (table.Damaged damage) le cause = tt

pub left_of : (tables : List Opened) (image : Image) (t : Opened) (number : ℕ) (floor : KeyFloor) (w : TableWalk) → numbered tables number ≡ Some t → w.number ≡ number
    → left_above floor tables image w ≡ above_floor floor (with_hand w.walk.now (to_come w.walk (blocks_on t image)))
left_of tables image t number floor w is same =
    ap (λ (o : Option Opened). above_floor floor (with_hand w.walk.now (to_come w.walk (blocks_in o image)))) (ap (numbered tables) same ∙ is)

pub wants_of : (floor : KeyFloor) (tables : List Opened) (t : Opened) (w : TableWalk) → numbered tables w.number ≡ Some t
    → wanted_block_of floor tables w ≡ ones (is_used_up floor w.walk.now && is_due w.walk (length t.index.rows))
wants_of floor tables t w is = ap (λ (o : Option Opened). ones (is_used_up floor w.walk.now && is_due w.walk (row_count o))) is

-- a step at Ok loses nothing that is above the floor
pub read_same : (floor : KeyFloor) (t : Opened) (image : Image) (old new : CursorWalk) (some : Bool) → is_used_up floor old.now ≡ true → HandsOut old new (blocks_on t image)
    → some ≡ is_some new.now → (some ≡ false → (length t.index.rows ≤ new.block) × (new.later ≡ []))
    → above_floor floor (with_hand new.now (to_come new (blocks_on t image))) ≡ above_floor floor (with_hand old.now (to_come old (blocks_on t image)))
read_same floor t image old new some used out said ends =
    advanced_same floor old new (blocks_on t image) used out (λ none. walk_ended t image new (ends (said ∙ ap (λ (o : Option Entry). is_some o) none)))

-- a result that is known
pub err_is : {T E : Type 0} (P : E → Type 0) (result : Result T E) (why : E) → result ≡ Err why → P why → IfErr result P
err_is P result why is holds = subst (λ (r : Result _ _). IfErr r P) (sym is) holds

pub ok_is : {T E : Type 0} (P : E → Type 0) (result : Result T E) (value : T) → result ≡ Ok value → IfErr result P
ok_is P result value is = subst (λ (r : Result _ _). IfErr r P) (sym is) tt

-- what follows from what a result says
pub err_then : {T E : Type 0} (result : Result T E) (P Q : E → Type 0) → IfErr result P → ((why : E) → P why → Q why) → IfErr result Q
err_then (Ok value) P Q is next = tt
err_then (Err why) P Q is next = next why is

pub ok_then : {T E : Type 0} (result : Result T E) (P Q : T → Type 0) → IfOk result P → ((value : T) → P value → Q value) → IfOk result Q
ok_then (Ok value) P Q is next = next value is
ok_then (Err why) P Q is next = tt

pub on_ok_then : {T E : Type 0} (result : Result T E) (P Q : Type 0) → OnOk result P → (P → Q) → OnOk result Q
on_ok_then (Ok value) P Q is next = next is
on_ok_then (Err why) P Q is next = tt
