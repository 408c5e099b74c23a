-- Why pairs are not counted.
use Rattle.std.specs.Prelude.{◌≡◌, Bool, true, false, Option, Some}
use Rattle.disk_trait.specs.World.{World}
use Rattle.line_model.specs.Replies.{Reply}
use Rattle.store_core.specs.Answers.{IsTried, told_limit}
use Rattle.store_search.specs.Searching.{ReadRose}
use Rattle.store_core.specs.declared.error.StoreError.{StoreError}
use Rattle.store_core.specs.declared.error.StoreError.TheVariants as error
use Rattle.table_file.specs.Faults.{IsBlockDamage}

-- of a store that was stopped or not, where this limit was broken
abbrev pub IsCountRefusal : Bool → Option Reply → World → World → StoreError → Type 0
IsCountRefusal stopped broken old new error.Memory = IsTried stopped broken
IsCountRefusal stopped broken old new error.Stopped = stopped ≡ true
IsCountRefusal stopped broken old new (error.Limit limit) = (stopped ≡ false) × (broken ≡ Some (told_limit limit))
IsCountRefusal stopped broken old new (error.Device cause) = IsTried stopped broken × ReadRose old new cause
IsCountRefusal stopped broken old new (error.Damaged damage) = IsTried stopped broken × IsBlockDamage damage
IsCountRefusal stopped broken old new (error.Full need gap) = ⊥
IsCountRefusal stopped broken old new error.NotAStore = ⊥
IsCountRefusal stopped broken old new error.AlreadyAStore = ⊥
IsCountRefusal stopped broken old new (error.BadSettings field) = ⊥
