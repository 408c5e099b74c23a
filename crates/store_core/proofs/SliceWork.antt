-- What a merge slice has done, by the merge that was taken up, whatever the device is.
use Rattle.std.proofs.Common.{◌≡◌, inl, inr, sym, subst}
use Rattle.std.specs.Prelude.{IfOk, Option, Some, None, Result, Ok, Err}
use Rattle.disk_trait.specs.Image.{Image}
use Rattle.image_model.specs.Stands.{settings_of}
use Rattle.level_merge.specs.JobValue.{JobValue}
use Rattle.level_merge.specs.declared.fault.JobFault.{JobFault}
use Rattle.level_merge.specs.declared.fault.JobFault.TheVariants as fault
use Rattle.store_core.specs.StoreValue.{StoreValue}
use Rattle.store_core.specs.Tending.{HasWorked, IsBegunAmong, IsMergeTakenOut, IsMergeAtHand, IsSoundWork, IsSoundWorkOf, IsWork, IsWorkOf, WorksOnSound, answer_to}
use Rattle.store_core.specs.declared.error.StoreError.{StoreError}
use Rattle.store_core.specs.declared.tending.Tended.{Tended}
use Rattle.store_core.specs.declared.tending.Tended.TheVariants as tended

-- the slice was refused
pub no_work : (before after : StoreValue) (m : JobValue) (why : JobFault) → IfOk (answer_to why) (IsWorkOf before m after)
no_work before after m fault.Memory = tt
no_work before after m (fault.Device cause) = tt
no_work before after m (fault.Damaged damage) = tt
no_work before after m (fault.Full need gap) = tt

-- whichever merge the store had
with_no_job : (before after : StoreValue) (m : JobValue) → HasWorked (record before { job = None }) m after → HasWorked before m after
with_no_job before after m (later, same, inl is) = (later, same, inl is)
with_no_job before after m (later, same, inr is) = (later, same, inr (record { written = is.written; tables = is.tables; rows = is.rows; no_job = is.no_job; epoch = is.epoch }))

-- a merge was taken up
pub of_taken : (before between after : StoreValue) (m : JobValue) (r : Result Tended StoreError) → between ≡ record before { job = None } → IsMergeAtHand before m → IfOk r (IsWorkOf between m after)
    → IfOk r (IsWork before after)
of_taken before between after m (Ok tended.Worked) same up is = (m, up, with_no_job before after m (subst (λ (k : StoreValue). HasWorked k m after) same is))
of_taken before between after m (Ok tended.Idle) same up is = tt
of_taken before between after m (Ok (tended.Full need gap)) same up is = tt
of_taken before between after m (Err why) same up is = tt

-- ---- what the merge passed

pub no_sound_work : (before after : StoreValue) (image : Image) (m : JobValue) (why : JobFault) → IfOk (answer_to why) (IsSoundWorkOf before image m after)
no_sound_work before after image m fault.Memory = tt
no_sound_work before after image m (fault.Device cause) = tt
no_sound_work before after image m (fault.Damaged damage) = tt
no_sound_work before after image m (fault.Full need gap) = tt

sound_with_no_job : (before after : StoreValue) (image : Image) (m : JobValue) → WorksOnSound (record before { job = None }) image m after → WorksOnSound before image m after
sound_with_no_job before after image m is = record { later = is.later; passes = is.passes; done = is.done }

pub sound_of_taken : (before between after : StoreValue) (image : Image) (m : JobValue) (r : Result Tended StoreError) → between ≡ record before { job = None } → IsMergeAtHand before m
    → IfOk r (IsSoundWorkOf between image m after) → IfOk r (IsSoundWork before image after)
sound_of_taken before between after image m (Ok tended.Worked) same up is = (m, up, sound_with_no_job before after image m (subst (λ (k : StoreValue). WorksOnSound k image m after) same is))
sound_of_taken before between after image m (Ok tended.Idle) same up is = tt
sound_of_taken before between after image m (Ok (tended.Full need gap)) same up is = tt
sound_of_taken before between after image m (Err why) same up is = tt

-- ---- what is taken up

pub running_taken : (store : StoreValue) (found : Option JobValue) → found ≡ store.job → IsMergeTakenOut store found
running_taken store None is = tt
running_taken store (Some m) is = inl (sym is)

pub begun_taken : (store : StoreValue) (found : Option JobValue) → store.job ≡ None → IsBegunAmong store.tables (settings_of store.manifest.version) found → IsMergeTakenOut store found
begun_taken store None none is = tt
begun_taken store (Some m) none is = inr (none, (is.0, is.1, is.2))
