use Rattle.std.proofs.Common.{inl, inr, ◌*◌, List, refl, sym, ap, subst, arith}
use Rattle.std.specs.Prelude.{IfErr, IfOk, Some, Result, Ok}
use Rattle.level_merge.specs.SliceSteps.{ReadyAtEnd}
use Rattle.level_merge.specs.declared.fault.Sliced.{Sliced}
use Rattle.state_model.proofs.SoundJobs.{drop_sound}
use Rattle.state_model.specs.State.{without_job}
use Rattle.state_model.specs.Tends.{with_job}
use Rattle.table_file.specs.Opened.{Opened}
use Rattle.table_model.specs.Tables.{filter_bytes_of}
use Rattle.store_core.specs.Answers.{stopped_by}
use Rattle.store_core.specs.StoreValue.{StoreValue}
use Rattle.store_core.specs.Scans.{IsScanShown}
use Rattle.store_core.specs.Tending.{IsSoundWorkOf, IsWithoutRoomOf, IsWorkOf, SlicesJob, Tends, told_slice}
use Rattle.store_core.specs.declared.error.StoreError.{StoreError}
use Rattle.store_core.specs.declared.tending.Tended.{Tended}
use Rattle.store_core.specs.declared.tending.Tended.TheVariants as tended
use Rattle.store_core.proofs.Agreed.{tied_agree}
use Rattle.store_core.specs.Framing.{IsInUse}
use Rattle.store_core.proofs.FlushAnswers.{passed_on}
use Rattle.store_core.proofs.Framing.{leaves_then}
use Rattle.store_core.proofs.SliceWork.{no_sound_work, no_work}
use Rattle.store_core.proofs.Stays.{install_stays, refused_slice}
use Rattle.store_core.proofs.TendAnswers.{installs_it, not_installed, slice_refused, tied_none, works_on}
use Rattle.store_core.proofs.TendRefusals.{both_moved, slice_shown}
use Rattle.store_core.proofs.TendRooms.{room_answered}
use Rattle.store_core.proofs.store.Store.work.Goals as goal

-- ---- something is left

pub returns-in-Ok-Working-clause-works : goal.returns-in-Ok-Working-clause-works
returns-in-Ok-Working-clause-works g c s running tells runs tied =
    let spelling = g.F.RangeFilter.spelling in
    let bytes = filter_bytes_of spelling g.F.RangeFilter.built_cutoff in
    let store = c.args.self.now in
    let a = g.D.Disk.world c.args.disk.now in
    let b = g.D.Disk.world c.slice_job.new.disk in
    let m = c.slice_job.new.job in
    let slices = subst (λ (x : Sliced). SlicesJob spelling bytes store (with_job s running) running m (Ok x) a b) c.in-Ok-Working.field-0-is
    (c.in-Ok-Working.ensures.slices (with_job s running) running tells refl tied) in
    subst (λ (k : StoreValue). Tends spelling bytes s (told_slice (Ok tended.Worked)) (record k { job = Some m }) a b) (sym c.self.view_is) (works_on spelling bytes s running runs store m a b slices)

-- ---- nothing is left

pub returns-in_ok-install_merge-in-Ok-Ready-clause-works : goal.returns-in_ok-install_merge-in-Ok-Ready-clause-works
returns-in_ok-install_merge-in-Ok-Ready-clause-works g c s running tells runs tied =
    let spelling = g.F.RangeFilter.spelling in
    let bytes = filter_bytes_of spelling g.F.RangeFilter.built_cutoff in
    let store = c.args.self.now in
    let a = g.D.Disk.world c.args.disk.now in
    let b = g.D.Disk.world c.slice_job.new.disk in
    let m = c.slice_job.new.job in
    let slices = subst (λ (x : Sliced). SlicesJob spelling bytes store (with_job s running) running m (Ok x) a b) c.in-Ok-Ready.field-0-is
    (c.in-Ok-Ready.ensures.slices (with_job s running) running tells refl tied) in
    let later = slices.done.later in
    installs_it spelling bytes s running runs store m a b slices c.install_merge.new.self (g.D.Disk.world c.install_merge.new.disk) _
    (c.in_ok-install_merge-in-Ok-Ready.ensures.installs (with_job s later) later tells refl slices.done.said slices.done.tied)

pub returns-in_err-install_merge-in-Ok-Ready-clause-works : goal.returns-in_err-install_merge-in-Ok-Ready-clause-works
returns-in_err-install_merge-in-Ok-Ready-clause-works g c s running tells runs tied =
    let spelling = g.F.RangeFilter.spelling in
    let bytes = filter_bytes_of spelling g.F.RangeFilter.built_cutoff in
    let store = c.args.self.now in
    let v = store.manifest.version in
    let a = g.D.Disk.world c.args.disk.now in
    let b = g.D.Disk.world c.slice_job.new.disk in
    let d = g.D.Disk.world c.install_merge.new.disk in
    let m = c.slice_job.new.job in
    let slices = subst (λ (x : Sliced). SlicesJob spelling bytes store (with_job s running) running m (Ok x) a b) c.in-Ok-Ready.field-0-is
    (c.in-Ok-Ready.ensures.slices (with_job s running) running tells refl tied) in
    let later = slices.done.later in
    let why = c.in_err-install_merge-in-Ok-Ready.field-0.0 in
    let agrees = tied_agree spelling bytes (record store { job = Some c.args.job }) (with_job s running) a (g.met.D.Disk.current c.args.disk.now tells) tied in
    subst (λ (r : Result Tended StoreError). Tends spelling bytes s (told_slice r) c.install_merge.new.self a d) (passed_on c.from_residual.result why c.from_residual.ensures.1)
    (not_installed spelling bytes s running runs store m a b slices c.install_merge.new.self d v.epoch agrees.epoch (drop_sound bytes (with_job s running) tied.sound) c.slice_job.ensures.moves.1.write_faults
    v why refl (c.in_err-install_merge-in-Ok-Ready.ensures.installs (with_job s later) later tells refl slices.done.said slices.done.tied) c.in_err-install_merge-in-Ok-Ready.ensures.refused)

pub returns-in_ok-install_merge-in-Ok-Ready-clause-reads : goal.returns-in_ok-install_merge-in-Ok-Ready-clause-reads
returns-in_ok-install_merge-in-Ok-Ready-clause-reads g c s running tells here tied =
    let slice = c.slice_job.ensures.reads s running tells here tied in
    let install = c.install_merge.ensures.moves.reads in
    omega (arith, slice, install)

pub returns-in_err-install_merge-in-Ok-Ready-clause-reads : goal.returns-in_err-install_merge-in-Ok-Ready-clause-reads
returns-in_err-install_merge-in-Ok-Ready-clause-reads g c s running tells here tied =
    let slice = c.slice_job.ensures.reads s running tells here tied in
    let install = c.install_merge.ensures.moves.reads in
    omega (arith, slice, install)

pub returns-in_ok-install_merge-in-Ok-Ready-clause-moves : goal.returns-in_ok-install_merge-in-Ok-Ready-clause-moves
returns-in_ok-install_merge-in-Ok-Ready-clause-moves g c =
    both_moved (4096 * c.args.self.now.manifest.version.pages) _ _ _ c.slice_job.ensures.moves c.install_merge.ensures.moves

pub returns-in_err-install_merge-in-Ok-Ready-clause-moves : goal.returns-in_err-install_merge-in-Ok-Ready-clause-moves
returns-in_err-install_merge-in-Ok-Ready-clause-moves g c =
    both_moved (4096 * c.args.self.now.manifest.version.pages) _ _ _ c.slice_job.ensures.moves c.install_merge.ensures.moves

-- ---- the slice was refused

pub returns-in-Err-clause-works : goal.returns-in-Err-clause-works
returns-in-Err-clause-works g c s running tells runs tied =
    let spelling = g.F.RangeFilter.spelling in
    let bytes = filter_bytes_of spelling g.F.RangeFilter.built_cutoff in
    let store = c.args.self.now in
    let a = g.D.Disk.world c.args.disk.now in
    let b = g.D.Disk.world c.slice_job.new.disk in
    let slices = c.in-Err.ensures.slices (with_job s running) running tells refl tied in
    let stopped = stopped_by c.refuse.result in
    subst (λ (k : StoreValue). Tends spelling bytes s (told_slice c.refuse.result) k a b) (sym c.refuse.ensures.rest)
    (subst (λ (r : Result Tended StoreError). Tends spelling bytes s (told_slice r) (record store { stopped = stopped }) a b) (sym c.refuse.ensures.answer)
    (slice_refused spelling bytes s (record store { stopped = stopped }) a b slices.meanwhile (λ _. tied_none spelling bytes store (without_job s) b stopped c.requires.taken_out (slices.dropped refl)) running runs
    c.in-Err.why (drop_sound bytes (with_job s running) tied.sound) slices.done))

pub returns-in-Err-clause-shown : goal.returns-in-Err-clause-shown
returns-in-Err-clause-shown g c tells =
    let b = g.D.Disk.world c.slice_job.new.disk in
    subst (λ (tables : List Opened). IfErr c.refuse.result (IsScanShown tables b.seen.held)) (sym (ap (λ (k : StoreValue). k.tables) c.refuse.ensures.rest))
    (subst (λ (r : Result Tended StoreError). IfErr r (IsScanShown c.args.self.now.tables b.seen.held)) (sym c.refuse.ensures.answer)
    (slice_shown g.D.Disk.tells c.args.self.now.tables _ (g.D.Disk.world c.args.disk.now) b c.in-Err.why tells c.in-Err.ensures.fault c.in-Err.ensures.unwritten))

-- ---- what a refusal leaves

pub returns-in_err-install_merge-in-Ok-Ready-clause-stays : goal.returns-in_err-install_merge-in-Ok-Ready-clause-stays
returns-in_err-install_merge-in-Ok-Ready-clause-stays g c =
    let why = c.in_err-install_merge-in-Ok-Ready.field-0.0 in
    install_stays c.from_residual.result why c.args.self.now c.install_merge.new.self (passed_on c.from_residual.result why c.from_residual.ensures.1) c.in_err-install_merge-in-Ok-Ready.ensures.stays

pub returns-in-Err-clause-stays : goal.returns-in-Err-clause-stays
returns-in-Err-clause-stays g c = refused_slice c.refuse.result c.args.self.now c.refuse.new.self c.requires.running c.refuse.ensures.rest

-- ---- by its merge

pub returns-in-Ok-Working-clause-worked : goal.returns-in-Ok-Working-clause-worked
returns-in-Ok-Working-clause-worked g c =
    let m = c.slice_job.new.job in
    (m, c.slice_job.ensures.same, inl (ap (λ (k : StoreValue). record k { job = Some m }) c.self.view_is, c.in-Ok-Working.ensures.ends c.in-Ok-Working.field-0-is))

pub returns-in_ok-install_merge-in-Ok-Ready-clause-worked : goal.returns-in_ok-install_merge-in-Ok-Ready-clause-worked
returns-in_ok-install_merge-in-Ok-Ready-clause-worked g c =
    (c.slice_job.new.job, c.slice_job.ensures.same, inr c.in_ok-install_merge-in-Ok-Ready.ensures.installed)

pub returns-in_err-install_merge-in-Ok-Ready-clause-worked : goal.returns-in_err-install_merge-in-Ok-Ready-clause-worked
returns-in_err-install_merge-in-Ok-Ready-clause-worked g c =
    subst (λ (r : Result Tended StoreError). IfOk r (IsWorkOf c.args.self.now c.args.job c.install_merge.new.self)) (passed_on c.from_residual.result c.in_err-install_merge-in-Ok-Ready.field-0.0 c.from_residual.ensures.1) tt

pub returns-in-Err-clause-worked : goal.returns-in-Err-clause-worked
returns-in-Err-clause-worked g c =
    subst (λ (r : Result Tended StoreError). IfOk r (IsWorkOf c.args.self.now c.args.job c.refuse.new.self)) (sym c.refuse.ensures.answer) (no_work c.args.self.now c.refuse.new.self c.args.job c.in-Err.why)

-- ---- where an output has no room

pub returns-in_err-install_merge-in-Ok-Ready-clause-no_room : goal.returns-in_err-install_merge-in-Ok-Ready-clause-no_room
returns-in_err-install_merge-in-Ok-Ready-clause-no_room g c =
    subst (λ (r : Result Tended StoreError). IfOk r (IsWithoutRoomOf (filter_bytes_of g.F.RangeFilter.spelling g.F.RangeFilter.built_cutoff) c.args.self.now.manifest.version c.args.job))
    (passed_on c.from_residual.result c.in_err-install_merge-in-Ok-Ready.field-0.0 c.from_residual.ensures.1) tt

pub returns-in-Err-clause-no_room : goal.returns-in-Err-clause-no_room
returns-in-Err-clause-no_room g c =
    let bytes = filter_bytes_of g.F.RangeFilter.spelling g.F.RangeFilter.built_cutoff in
    let v = c.args.self.now.manifest.version in
    subst (λ (r : Result Tended StoreError). IfOk r (IsWithoutRoomOf bytes v c.args.job)) (sym c.refuse.ensures.answer) (room_answered bytes v c.args.job c.in-Err.why c.in-Err.ensures.no_room)

-- ---- what is left as it was

pub returns-in-Ok-Working-clause-frame : goal.returns-in-Ok-Working-clause-frame
returns-in-Ok-Working-clause-frame g c = c.slice_job.ensures.frame

pub returns-in_ok-install_merge-in-Ok-Ready-clause-frame : goal.returns-in_ok-install_merge-in-Ok-Ready-clause-frame
returns-in_ok-install_merge-in-Ok-Ready-clause-frame g c = leaves_then (IsInUse c.args.self.now.manifest 262144) (g.D.Disk.world c.args.disk.now) (g.D.Disk.world c.slice_job.new.disk) (g.D.Disk.world c.install_merge.new.disk) c.slice_job.ensures.frame c.install_merge.ensures.frame

pub returns-in_err-install_merge-in-Ok-Ready-clause-frame : goal.returns-in_err-install_merge-in-Ok-Ready-clause-frame
returns-in_err-install_merge-in-Ok-Ready-clause-frame g c = leaves_then (IsInUse c.args.self.now.manifest 262144) (g.D.Disk.world c.args.disk.now) (g.D.Disk.world c.slice_job.new.disk) (g.D.Disk.world c.install_merge.new.disk) c.slice_job.ensures.frame c.install_merge.ensures.frame

pub returns-in-Err-clause-frame : goal.returns-in-Err-clause-frame
returns-in-Err-clause-frame g c = c.slice_job.ensures.frame

-- ---- what the merge passed is sound

pub returns-in-Ok-Working-clause-sound : goal.returns-in-Ok-Working-clause-sound
returns-in-Ok-Working-clause-sound g c tells = record {
  later = c.slice_job.new.job;
  passes = c.slice_job.ensures.passes tells;
  done = inl refl;
}

pub returns-in_ok-install_merge-in-Ok-Ready-clause-sound : goal.returns-in_ok-install_merge-in-Ok-Ready-clause-sound
returns-in_ok-install_merge-in-Ok-Ready-clause-sound g c tells =
    let m = c.slice_job.new.job in
    record {
      later = m;
      passes = c.slice_job.ensures.passes tells;
      done = inr (c.in_ok-install_merge-in-Ok-Ready.ensures.installed.no_job, subst (λ (x : Sliced). ReadyAtEnd c.args.self.now.tables m x) c.in-Ok-Ready.field-0-is c.in-Ok-Ready.ensures.done);
    }

pub returns-in_err-install_merge-in-Ok-Ready-clause-sound : goal.returns-in_err-install_merge-in-Ok-Ready-clause-sound
returns-in_err-install_merge-in-Ok-Ready-clause-sound g c tells =
    subst (λ (r : Result Tended StoreError). IfOk r (IsSoundWorkOf c.args.self.now (g.D.Disk.world c.args.disk.now).seen.held c.args.job c.install_merge.new.self))
    (passed_on c.from_residual.result c.in_err-install_merge-in-Ok-Ready.field-0.0 c.from_residual.ensures.1) tt

pub returns-in-Err-clause-sound : goal.returns-in-Err-clause-sound
returns-in-Err-clause-sound g c tells =
    let image = (g.D.Disk.world c.args.disk.now).seen.held in
    subst (λ (r : Result Tended StoreError). IfOk r (IsSoundWorkOf c.args.self.now image c.args.job c.refuse.new.self)) (sym c.refuse.ensures.answer) (no_sound_work c.args.self.now c.refuse.new.self image c.args.job c.in-Err.why)
