use Rattle.std.proofs.Common.{◌≡◌, refl, sym, subst}
use Rattle.std.specs.Prelude.{Some, None, Result, Ok, Err}
use Rattle.state_model.specs.Tends.{with_job}
use Rattle.table_model.specs.Tables.{filter_bytes_of}
use Rattle.store_core.specs.StoreValue.{IsConsistent, StoreValue}
use Rattle.store_core.specs.Tending.{IsNext, IsMergeTakenOut, SliceStays, Tends, told_slice}
use Rattle.store_core.specs.Represents.{Represents}
use Rattle.store_core.specs.declared.error.StoreError.{StoreError}
use Rattle.store_core.specs.declared.tending.Tended.{Tended}
use Rattle.store_core.specs.declared.tending.Tended.TheVariants as tended
use Rattle.store_core.specs.Framing.{IsInUse, LeavesPlaces}
use Rattle.store_core.proofs.FlushAnswers.{passed_on}
use Rattle.store_core.proofs.Framing.{leaves_none}
use Rattle.store_core.proofs.SliceWork.{of_taken, sound_of_taken}
use Rattle.store_core.proofs.Stays.{slice_left, without_merge}
use Rattle.store_core.proofs.TendAnswers.{idles, none_begun, taken_up}
use Rattle.store_core.proofs.TendRooms.{room_of_taken}
use Rattle.store_core.proofs.store.Store.tend.Goals as goal

pub returns-in_err-job-clause-answered : goal.returns-in_err-job-clause-answered
returns-in_err-job-clause-answered g c s tells going tied =
    let spelling = g.F.RangeFilter.spelling in
    let bytes = filter_bytes_of spelling g.F.RangeFilter.built_cutoff in
    let w = g.D.Disk.world c.args.disk.now in
    let result = c.from_residual.result in
    let is = subst (λ (why : StoreError). Err why ≡ result) c.in_err-job.ensures.memory (passed_on result c.in_err-job.field-0.0 c.from_residual.ensures.1) in
    subst (λ (k : StoreValue). Tends spelling bytes s (told_slice result) k w w) (sym c.take_job.ensures.rest)
    (subst (λ (r : Result Tended StoreError). Tends spelling bytes s (told_slice r) (record c.args.self.now { job = None }) w w) is
    (none_begun spelling bytes s c.args.self.now w tied (subst IsConsistent c.self.view_is c.self.invariant.0)))

pub returns-in-None-clause-answered : goal.returns-in-None-clause-answered
returns-in-None-clause-answered g c s tells going tied =
    let spelling = g.F.RangeFilter.spelling in
    let bytes = filter_bytes_of spelling g.F.RangeFilter.built_cutoff in
    let w = g.D.Disk.world c.args.disk.now in
    let next = subst (IsNext spelling c.args.self.now s) c.in-None.is
    (c.in_ok-job.ensures.next s w.seen.held (tied.images w.seen.held (g.met.D.Disk.current c.args.disk.now tells))) in
    subst (λ (k : StoreValue). Tends spelling bytes s (told_slice (Ok tended.Idle)) k w w) (sym c.take_job.ensures.rest)
    (idles spelling bytes s c.args.self.now w tied (subst IsConsistent c.self.view_is c.self.invariant.0) (c.in_ok-job.ensures.none c.in-None.is).0 next)

pub returns-in-Some-clause-answered : goal.returns-in-Some-clause-answered
returns-in-Some-clause-answered g c s tells going tied =
    let spelling = g.F.RangeFilter.spelling in
    let bytes = filter_bytes_of spelling g.F.RangeFilter.built_cutoff in
    let w = g.D.Disk.world c.args.disk.now in
    let m = c.in-Some.job in
    let next = subst (IsNext spelling c.args.self.now s) c.in-Some.is
    (c.in_ok-job.ensures.next s w.seen.held (tied.images w.seen.held (g.met.D.Disk.current c.args.disk.now tells))) in
    c.work.ensures.works s next.0 tells next.1
    (subst (λ (k : StoreValue). Represents spelling bytes (record k { job = Some m }) (with_job s next.0) w) (sym c.take_job.ensures.rest) (taken_up spelling bytes s c.args.self.now w tied m next))

pub returns-in-Some-clause-reads : goal.returns-in-Some-clause-reads
returns-in-Some-clause-reads g c s tells tied =
    let spelling = g.F.RangeFilter.spelling in
    let bytes = filter_bytes_of spelling g.F.RangeFilter.built_cutoff in
    let w = g.D.Disk.world c.args.disk.now in
    let m = c.in-Some.job in
    let next = subst (IsNext spelling c.args.self.now s) c.in-Some.is
    (c.in_ok-job.ensures.next s w.seen.held (tied.images w.seen.held (g.met.D.Disk.current c.args.disk.now tells))) in
    c.work.ensures.reads (with_job s next.0) next.0 tells refl
    (subst (λ (k : StoreValue). Represents spelling bytes (record k { job = Some m }) (with_job s next.0) w) (sym c.take_job.ensures.rest) (taken_up spelling bytes s c.args.self.now w tied m next))

-- ---- what a refusal leaves

pub returns-in_err-job-clause-stays : goal.returns-in_err-job-clause-stays
returns-in_err-job-clause-stays g c =
    let after = c.take_job.new.self in
    slice_left c.from_residual.result (record c.args.self.now { job = after.job }) after (without_merge c.args.self.now after c.take_job.ensures.rest)

pub returns-in-None-clause-stays : goal.returns-in-None-clause-stays
returns-in-None-clause-stays g c = without_merge c.args.self.now c.take_job.new.self c.take_job.ensures.rest

pub returns-in-Some-clause-stays : goal.returns-in-Some-clause-stays
returns-in-Some-clause-stays g c =
    let after = c.work.new.self in
    subst (λ (k : StoreValue). SliceStays c.work.result (record k { job = after.job }) after) c.take_job.ensures.rest c.work.ensures.stays

-- ---- by the merge that is taken up

pub returns-in-Some-clause-worked : goal.returns-in-Some-clause-worked
returns-in-Some-clause-worked g c =
    of_taken c.args.self.now c.take_job.new.self c.work.new.self c.in-Some.job c.work.result c.take_job.ensures.rest (subst (IsMergeTakenOut c.args.self.now) c.in-Some.is c.in_ok-job.ensures.taken_up) c.work.ensures.worked

pub returns-in-Some-clause-sound : goal.returns-in-Some-clause-sound
returns-in-Some-clause-sound g c tells =
    sound_of_taken c.args.self.now c.take_job.new.self c.work.new.self (g.D.Disk.world c.args.disk.now).seen.held c.in-Some.job c.work.result c.take_job.ensures.rest
    (subst (IsMergeTakenOut c.args.self.now) c.in-Some.is c.in_ok-job.ensures.taken_up) (c.work.ensures.sound tells)

pub returns-in-Some-clause-no_room : goal.returns-in-Some-clause-no_room
returns-in-Some-clause-no_room g c =
    room_of_taken (filter_bytes_of g.F.RangeFilter.spelling g.F.RangeFilter.built_cutoff) c.args.self.now c.take_job.new.self c.in-Some.job c.work.result c.take_job.ensures.rest
    (subst (IsMergeTakenOut c.args.self.now) c.in-Some.is c.in_ok-job.ensures.taken_up) c.work.ensures.no_room

-- ---- what is left as it was

pub returns-then-self-clause-frame : goal.returns-then-self-clause-frame
returns-then-self-clause-frame g c = leaves_none (IsInUse c.args.self.now.manifest 262144) (g.D.Disk.world c.args.disk.now)

pub returns-in_err-job-clause-frame : goal.returns-in_err-job-clause-frame
returns-in_err-job-clause-frame g c = leaves_none (IsInUse c.args.self.now.manifest 262144) (g.D.Disk.world c.args.disk.now)

pub returns-in-None-clause-frame : goal.returns-in-None-clause-frame
returns-in-None-clause-frame g c = leaves_none (IsInUse c.args.self.now.manifest 262144) (g.D.Disk.world c.args.disk.now)

pub returns-in-Some-clause-frame : goal.returns-in-Some-clause-frame
returns-in-Some-clause-frame g c =
    let a = g.D.Disk.world c.args.disk.now in
    let b = g.D.Disk.world c.work.new.disk in
    subst (λ (k : StoreValue). LeavesPlaces (IsInUse k.manifest 262144) a b) c.take_job.ensures.rest c.work.ensures.frame
