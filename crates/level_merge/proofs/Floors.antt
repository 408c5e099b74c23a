-- The keys of an output that is built, and those that are still to come.
use Rattle.std.proofs.Common.{◌≡◌, List, [], ◌∷◌, ◌++◌, Bool, true, refl}
use Rattle.key_base.specs.ByteOrder.{is_before}
use Rattle.block_model.specs.Order.{Follow, is_any}
use Rattle.entry_model.specs.Entries.{Entry, keys_of}
use Rattle.level_merge.specs.JobValue.{AreBelow}
use Rattle.map_model.specs.SortedMap.{Bytes}
use Rattle.merge_rows.specs.Rows.{KeyFloor}
use Rattle.merge_rows.specs.Steps.{FloorRises, passed_at}

follow_more : (test : Bytes → Bool) (entries : List Entry) (e f : Entry) → Follow test (keys_of (entries ++ e ∷ [])) → is_before e.key f.key ≡ true
    → Follow test (keys_of ((entries ++ e ∷ []) ++ f ∷ []))
follow_more test [] e f follow above = (follow.0, (above, tt))
follow_more test (x ∷ more) e f follow above = (follow.0, follow_more (is_before x.key) more e f follow.1 above)

-- keys above the one that was added
pub below_added : (built : List Entry) (e : Entry) → Follow is_any (keys_of (built ++ e ∷ [])) → AreBelow (passed_at e.key) (built ++ e ∷ [])
below_added built e follow = λ f clear. follow_more is_any built e f follow clear

pub below_rises : (old new : KeyFloor) (built : List Entry) → FloorRises old new → AreBelow old built → AreBelow new built
below_rises old new built rises below = λ f clear. below f (rises f.key clear)

pub below_none : (floor : KeyFloor) → AreBelow floor []
below_none floor = λ f clear. (refl, tt)
