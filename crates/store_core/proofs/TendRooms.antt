-- What a merge slice that has no room says of its need and of the gap, whatever the device is.
use Rattle.std.proofs.Common.{◌≡◌, ◌∙◌, ℕ, List, sym, subst}
use Rattle.std.specs.Prelude.{IfErr, IfOk, None, Result, Ok, Err}
use Rattle.std.specs.List.Sorted.{IsPermutation}
use Rattle.byte_fields.specs.declared.parts.Row.{Row}
use Rattle.extent_model.specs.Extents.{Extent}
use Rattle.filter_api.specs.declared.settings.Settings.{Settings}
use Rattle.level_merge.specs.JobValue.{JobValue}
use Rattle.level_merge.specs.SliceSteps.{HasNoRoom}
use Rattle.level_merge.specs.declared.fault.JobFault.{JobFault}
use Rattle.level_merge.specs.declared.fault.JobFault.TheVariants as fault
use Rattle.level_merge.specs.declared.fault.Sliced.{Sliced}
use Rattle.manifest_model.specs.Version.{Version}
use Rattle.store_core.specs.Running.{extents_with}
use Rattle.store_core.specs.StoreValue.{StoreValue}
use Rattle.store_core.specs.Tending.{IsMergeAtHand, IsWithoutRoom, IsWithoutRoomOf, answer_to}
use Rattle.store_core.specs.declared.error.StoreError.{StoreError}
use Rattle.store_core.specs.declared.tending.Tended.{Tended}
use Rattle.store_core.specs.declared.tending.Tended.TheVariants as tended
use Rattle.store_core.proofs.PlansMade.{largest_gap_is}
use Rattle.table_model.specs.Tables.{FilterBytes}

-- beside the extents of a version and of some outputs, which are these in some order
pub room_beside : (filter_bytes : FilterBytes) (settings : Settings) (v : Version) (outputs : List Row) (pages : ℕ) (extents : List Extent) → pages ≡ v.pages
    → IsPermutation (extents_with v outputs) extents → (r : Result Sliced JobFault) → IfErr r (HasNoRoom filter_bytes settings pages extents)
    → IfErr r (HasNoRoom filter_bytes settings v.pages (extents_with v outputs))
room_beside filter_bytes settings v outputs pages extents pages_are same (Ok sliced) is = tt
room_beside filter_bytes settings v outputs pages extents pages_are same (Err fault.Memory) is = tt
room_beside filter_bytes settings v outputs pages extents pages_are same (Err (fault.Device cause)) is = tt
room_beside filter_bytes settings v outputs pages extents pages_are same (Err (fault.Damaged damage)) is = tt
room_beside filter_bytes settings v outputs pages extents pages_are same (Err (fault.Full need gap)) is = (is.0, is.1 ∙ sym (largest_gap_is v outputs pages extents pages_are same), is.2)

-- as it is answered
pub room_answered : (filter_bytes : FilterBytes) (v : Version) (m : JobValue) (why : JobFault) → HasNoRoom filter_bytes m.settings v.pages (extents_with v m.outputs) why
    → IfOk (answer_to why) (IsWithoutRoomOf filter_bytes v m)
room_answered filter_bytes v m fault.Memory is = tt
room_answered filter_bytes v m (fault.Device cause) is = tt
room_answered filter_bytes v m (fault.Damaged damage) is = tt
room_answered filter_bytes v m (fault.Full need gap) is = is

-- of the merge that was taken up
pub room_of_taken : (filter_bytes : FilterBytes) (before between : StoreValue) (m : JobValue) (r : Result Tended StoreError) → between ≡ record before { job = None } → IsMergeAtHand before m
    → IfOk r (IsWithoutRoomOf filter_bytes between.manifest.version m) → IfOk r (IsWithoutRoom filter_bytes before)
room_of_taken filter_bytes before between m (Ok tended.Worked) same up is = tt
room_of_taken filter_bytes before between m (Ok tended.Idle) same up is = tt
room_of_taken filter_bytes before between m (Ok (tended.Full need gap)) same up is = (m, up, subst (λ (k : StoreValue). IsWithoutRoomOf filter_bytes k.manifest.version m (tended.Full need gap)) same is)
room_of_taken filter_bytes before between m (Err why) same up is = tt
