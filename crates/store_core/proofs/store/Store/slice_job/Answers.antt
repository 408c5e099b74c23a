use Rattle.std.proofs.Common.{◌≡◌, ◌∙◌, ◌<◌, List, refl, sym, ap, subst, arith}
use Rattle.std.specs.Prelude.{IfOk}
use Rattle.std.specs.List.Sorted.{IsPermutation}
use Rattle.byte_fields.specs.declared.parts.Row.{Row}
use Rattle.level_merge.specs.Follows.{FollowsAnyJob}
use Rattle.level_merge.specs.JobValue.{work_left}
use Rattle.level_merge.specs.SliceSteps.{ReadyAtEnd}
use Rattle.level_merge.specs.declared.fault.Sliced.{Sliced}
use Rattle.level_merge.specs.declared.fault.Sliced.TheVariants as sliced
use Rattle.merge_rows.proofs.SoundPasses.{pass_same}
use Rattle.merge_rows.specs.Reads.{PassSound}
use Rattle.merge_rows.specs.Steps.{IsSoundMerge}
use Rattle.table_file.specs.Opened.{Opened}
use Rattle.table_model.specs.Tables.{filter_bytes_of}
use Rattle.store_core.specs.StoreValue.{IsConsistent, StoreValue}
use Rattle.store_core.specs.Running.{extents_with}
use Rattle.store_core.specs.Framing.{IsInUse}
use Rattle.store_core.proofs.Framing.{leaves_none}
use Rattle.store_core.proofs.SlicesLeft.{slice_left}
use Rattle.store_core.proofs.TendRooms.{room_beside}
use Rattle.store_core.proofs.TendRuns.{slice_moved, slices_more, slices_run}
use Rattle.store_core.proofs.TendSlices.{now_follows, slices_job, wants_memory}
use Rattle.store_core.proofs.store.Store.slice_job.Goals as goal

pub returns-in_err-extents-clause-slices : goal.returns-in_err-extents-clause-slices
returns-in_err-extents-clause-slices g c s running tells here tied =
    let whole = subst IsConsistent c.self.view_is c.self.invariant.0 in
    wants_memory c.jobs_are_followed.ensures.image g.F.RangeFilter.spelling g.F.RangeFilter.built_cutoff c.args.self.now s running c.args.job.now (g.D.Disk.world c.args.disk.now) whole.slot whole.rows
    (g.met.D.Disk.current c.args.disk.now tells) here tied c.from_residual.result c.from_residual.ensures.1

pub returns-clause-run : goal.returns-clause-run
returns-clause-run g c =
    let old = c.args.job.now in
    let free = c.in_ok-extents.extents in
    let v = c.args.self.now.manifest.version in
    let pages = c.in_ok-extents.ensures.pages ∙ ap (λ (k : StoreValue). k.manifest.version.pages) c.self.view_is in
    let extents = subst (λ (k : StoreValue). IsPermutation (extents_with k.manifest.version old.outputs) free.extents) c.self.view_is
    (subst (λ (rows : List Row). IsPermutation (extents_with c.self.inside.version.version rows) free.extents) c.outputs.ensures c.in_ok-extents.ensures.extents) in
    let level = c.slice.ensures.slices.level.1 in
    let same = c.slice.ensures.slices.same.0 in
    slices_run g.F.RangeFilter.spelling g.F.RangeFilter.built_cutoff v c.args.self.now.tables old c.slice.new.self free c.slice.new.extents c.requires.run pages extents
    (g.D.Disk.world c.args.disk.now) (g.D.Disk.world c.slice.new.disk) c.slice.ensures.slices.moves c.slice.result (omega (arith, level, same)) c.requires.more c.slice.ensures.slices.numbers_are c.slice.ensures.slices.stands_are
    (c.slice.ensures.slices.rows c.requires.run.written) c.slice.ensures.slices.few

pub returns-clause-more : goal.returns-clause-more
returns-clause-more g c =
    let old = c.args.job.now in
    let free = c.in_ok-extents.extents in
    let v = c.args.self.now.manifest.version in
    let pages = c.in_ok-extents.ensures.pages ∙ ap (λ (k : StoreValue). k.manifest.version.pages) c.self.view_is in
    let extents = subst (λ (k : StoreValue). IsPermutation (extents_with k.manifest.version old.outputs) free.extents) c.self.view_is
    (subst (λ (rows : List Row). IsPermutation (extents_with c.self.inside.version.version rows) free.extents) c.outputs.ensures c.in_ok-extents.ensures.extents) in
    slices_more g.F.RangeFilter.spelling g.F.RangeFilter.built_cutoff v c.args.self.now.tables old c.slice.new.self free c.slice.new.extents c.requires.run pages extents
    (g.D.Disk.world c.args.disk.now) (g.D.Disk.world c.slice.new.disk) c.slice.ensures.slices.moves c.slice.result c.requires.more c.slice.ensures.slices.numbers_are c.slice.ensures.slices.few

pub returns-clause-slices : goal.returns-clause-slices
returns-clause-slices g c s running tells here tied =
    let spelling = g.F.RangeFilter.spelling in
    let cutoff = g.F.RangeFilter.built_cutoff in
    let old = c.args.job.now in
    let free = c.in_ok-extents.extents in
    let before = g.D.Disk.world c.args.disk.now in
    let after = g.D.Disk.world c.slice.new.disk in
    let whole = subst IsConsistent c.self.view_is c.self.invariant.0 in
    let pages = c.in_ok-extents.ensures.pages ∙ ap (λ (k : StoreValue). k.manifest.version.pages) c.self.view_is in
    let extents = subst (λ (k : StoreValue). IsPermutation (extents_with k.manifest.version old.outputs) free.extents) c.self.view_is
    (subst (λ (rows : List Row). IsPermutation (extents_with c.self.inside.version.version rows) free.extents) c.outputs.ensures c.in_ok-extents.ensures.extents) in
    let follow = subst (λ (k : StoreValue). FollowsAnyJob spelling (filter_bytes_of spelling cutoff) k.tables old c.slice.new.self free c.slice.new.extents c.slice.result before after) c.self.view_is (c.slice.ensures.follows tells) in
    slices_job c.jobs_are_followed.ensures.image spelling cutoff c.args.self.now s running old before whole.slot whole.rows (g.met.D.Disk.current c.args.disk.now tells) here tied free pages extents
    c.slice.new.self c.slice.new.extents after c.slice.ensures.slices.moves c.slice.result follow

pub returns-clause-reads : goal.returns-clause-reads
returns-clause-reads g c s running tells here tied =
    let before = g.D.Disk.world c.args.disk.now in
    let whole = subst IsConsistent c.self.view_is c.self.invariant.0 in
    let follows = now_follows c.jobs_are_followed.ensures.image g.F.RangeFilter.spelling g.F.RangeFilter.built_cutoff c.args.self.now s running c.args.job.now before whole.slot whole.rows
    (g.met.D.Disk.current c.args.disk.now tells) here tied in
    c.slice.ensures.slices.bounded tells
    (subst (λ (tables : List Opened). IsSoundMerge c.args.job.now.merge tables before.seen.held) (sym (ap (λ (k : StoreValue). k.tables) c.self.view_is)) follows.makes.sound)

pub returns-clause-moves : goal.returns-clause-moves
returns-clause-moves g c =
    let old = c.args.job.now in
    let free = c.in_ok-extents.extents in
    let v = c.args.self.now.manifest.version in
    let pages = c.in_ok-extents.ensures.pages ∙ ap (λ (k : StoreValue). k.manifest.version.pages) c.self.view_is in
    let extents = subst (λ (k : StoreValue). IsPermutation (extents_with k.manifest.version old.outputs) free.extents) c.self.view_is
    (subst (λ (rows : List Row). IsPermutation (extents_with c.self.inside.version.version rows) free.extents) c.outputs.ensures c.in_ok-extents.ensures.extents) in
    slice_moved g.F.RangeFilter.spelling g.F.RangeFilter.built_cutoff v c.args.self.now.tables old c.slice.new.self free c.slice.new.extents c.requires.run pages extents
    (g.D.Disk.world c.args.disk.now) (g.D.Disk.world c.slice.new.disk) c.slice.ensures.slices.moves

pub returns-clause-ends : goal.returns-clause-ends
returns-clause-ends g c =
    subst (λ (k : StoreValue). IfOk c.slice.result (λ (said : Sliced). said ≡ sliced.Working → work_left k.tables c.slice.new.self < work_left k.tables c.args.job.now)) c.self.view_is c.slice.ensures.slices.ends

pub returns-in_err-extents-clause-same : goal.returns-in_err-extents-clause-same
returns-in_err-extents-clause-same g c = (refl, refl, refl)

pub returns-clause-same : goal.returns-clause-same
returns-clause-same g c = (c.slice.ensures.slices.numbers_are, c.slice.ensures.slices.same.0, c.slice.ensures.slices.same.1)

-- ---- what is left as it was

pub returns-in_err-extents-clause-frame : goal.returns-in_err-extents-clause-frame
returns-in_err-extents-clause-frame g c = leaves_none (IsInUse c.args.self.now.manifest 262144) (g.D.Disk.world c.args.disk.now)

pub returns-clause-frame : goal.returns-clause-frame
returns-clause-frame g c =
    let old = c.args.job.now in
    let free = c.in_ok-extents.extents in
    let v = c.args.self.now.manifest.version in
    let whole = subst IsConsistent c.self.view_is c.self.invariant.0 in
    let extents = subst (λ (k : StoreValue). IsPermutation (extents_with k.manifest.version old.outputs) free.extents) c.self.view_is
    (subst (λ (rows : List Row). IsPermutation (extents_with c.self.inside.version.version rows) free.extents) c.outputs.ensures c.in_ok-extents.ensures.extents) in
    slice_left g.F.RangeFilter.spelling g.F.RangeFilter.built_cutoff c.args.self.now.manifest whole.version whole.slot old c.slice.new.self free c.slice.new.extents extents
    (g.D.Disk.world c.args.disk.now) (g.D.Disk.world c.slice.new.disk) c.slice.ensures.slices.moves

-- ---- where an output has no room

pub returns-clause-no_room : goal.returns-clause-no_room
returns-clause-no_room g c =
    let old = c.args.job.now in
    let free = c.in_ok-extents.extents in
    let v = c.args.self.now.manifest.version in
    let pages = c.in_ok-extents.ensures.pages ∙ ap (λ (k : StoreValue). k.manifest.version.pages) c.self.view_is in
    let extents = subst (λ (k : StoreValue). IsPermutation (extents_with k.manifest.version old.outputs) free.extents) c.self.view_is
    (subst (λ (rows : List Row). IsPermutation (extents_with c.self.inside.version.version rows) free.extents) c.outputs.ensures c.in_ok-extents.ensures.extents) in
    room_beside (filter_bytes_of g.F.RangeFilter.spelling g.F.RangeFilter.built_cutoff) old.settings v old.outputs free.pages free.extents pages extents c.slice.result c.slice.ensures.slices.no_room

-- ---- what was passed is sound

pub returns-in_err-extents-clause-passes : goal.returns-in_err-extents-clause-passes
returns-in_err-extents-clause-passes g c tells = pass_same c.args.self.now.tables (g.D.Disk.world c.args.disk.now).seen.held c.args.job.now.merge.walks

pub returns-clause-passes : goal.returns-clause-passes
returns-clause-passes g c tells =
    subst (λ (k : StoreValue). PassSound k.tables (g.D.Disk.world c.args.disk.now).seen.held c.args.job.now.merge.walks c.slice.new.self.merge.walks) c.self.view_is (c.slice.ensures.slices.passes tells)

pub returns-clause-done : goal.returns-clause-done
returns-clause-done g c = subst (λ (k : StoreValue). IfOk c.slice.result (ReadyAtEnd k.tables c.slice.new.self)) c.self.view_is c.slice.ensures.slices.done
