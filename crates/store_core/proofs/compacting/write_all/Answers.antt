use Rattle.std.proofs.Common.{◌≡◌, ◌∙◌, List, length, map, sym, ap, subst}
use Rattle.std.specs.Prelude.{Ok, None}
use Rattle.std.specs.List.{AllByRecursion}
use Rattle.std.proofs.lemmas.List.{append-nil}
use Rattle.byte_fields.specs.declared.parts.Row.{Row}
use Rattle.disk_trait.proofs.Moments.{now_at, started}
use Rattle.extent_model.specs.Extents.{AreLaid}
use Rattle.filter_api.specs.declared.settings.Settings.{Settings}
use Rattle.image_model.specs.Stands.{settings_of}
use Rattle.level_merge.specs.Making.{MakesAnyOutputs}
use Rattle.level_merge.specs.JobValue.{JobValue, all_numbers, compaction}
use Rattle.level_merge.specs.SliceSteps.{MayMakeAsMany, ReadyAtEnd}
use Rattle.level_merge.specs.declared.fault.Sliced.{Sliced}
use Rattle.level_merge.specs.declared.fault.Sliced.TheVariants as sliced
use Rattle.manifest.specs.Manifest.{Manifest}
use Rattle.manifest_model.proofs.Rows.{rows_keep}
use Rattle.manifest_model.specs.Rows.{extent_of}
use Rattle.merge_rows.specs.Steps.{numbers}
use Rattle.table_file.specs.Opened.{Opened}
use Rattle.table_model.specs.Tables.{filter_bytes_of}
use Rattle.store_core.specs.Compacting.{AreAllMade, AreCompact, HasItsPages, IsWritingCause, IsWritingFault}
use Rattle.store_core.specs.Faults.{of_job_fault}
use Rattle.store_core.specs.StoreValue.{rows_of}
use Rattle.store_core.specs.Scans.{IsScanShown}
use Rattle.std.proofs.lemmas.List.Sorted.{IsPermutation-sym}
use Rattle.store_core.specs.Framing.{IsInUse}
use Rattle.store_core.specs.Running.{extents_with}
use Rattle.store_core.proofs.Framing.{leaves_none, leaves_then}
use Rattle.store_core.proofs.SlicesLeft.{slice_left}
use Rattle.store_core.proofs.CompactFaults.{fails_so, none_moved, refused_so, slice_moved, writing_fault, writing_shown}
use Rattle.store_core.proofs.CompactRuns.{IsCompacting, compacted_rows, compacting_begun, compacting_more}
use Rattle.store_core.proofs.CompactSlices.{IsGoing, all_are_made, free_begun, going_begun, makes_not, makes_on, slice_goes_on, slice_refused, slice_stays, taken_is}
use Rattle.store_core.proofs.CompactSound.{SoundBefore, all_passed, before_on, begun_before, begun_numbers}
use Rattle.store_core.proofs.Recorded.{shown_only}
use Rattle.store_core.proofs.compacting.write_all.Goals as goal

pub extents_of-requires-clause-laid : goal.extents_of-requires-clause-laid
extents_of-requires-clause-laid g c =
    let v = c.args.version.now.version in
    subst (λ (rs : List Row). AreLaid v.pages (map extent_of rs)) (sym (append-nil v.rows)) (rows_keep.kept v c.requires.sound.placed).laid

pub returns-in_err-extents-clause-stays : goal.returns-in_err-extents-clause-stays
returns-in_err-extents-clause-stays g c s tells held = started _ _ held.images

pub returns-in_err-job-clause-stays : goal.returns-in_err-job-clause-stays
returns-in_err-job-clause-stays g c s tells held = started _ _ held.images

pub loop-job-init : goal.loop-job-init
loop-job-init g c =
    let spelling = g.F.RangeFilter.spelling in
    let bytes = filter_bytes_of g.F.RangeFilter.spelling g.F.RangeFilter.built_cutoff in
    let m = c.args.version.now in
    let opened = c.args.tables.now.tables in
    let entries = c.args.memory.now.entries in
    let a = g.D.Disk.world c.args.disk.now in
    let free = c.in_ok-extents.extents in
    let settings : c.version.inside.settings ≡ settings_of m.version = ap (λ (n : Manifest). settings_of n.version) c.version.view_is in
    record {
      on = subst (λ (x : JobValue). IsCompacting m.version opened x free) (sym c.in_ok-job.ensures.begun)
          (compacting_begun m.version opened entries c.version.inside.settings free c.requires.sound c.requires.rows c.in_ok-extents.ensures.pages c.in_ok-extents.ensures.extents);
      going = λ s tells held.
          let under = held.images a.seen.held (g.met.D.Disk.current c.args.disk.now tells) in
          let is = taken_is spelling bytes m opened c.requires.slot c.requires.rows s held.no_job held.none_kept a.seen.held under in
          let same = free_begun spelling bytes m opened c.requires.slot c.requires.rows s held.no_job held.none_kept free.extents c.in_ok-extents.ensures.extents is in
          let begun = going_begun spelling bytes m opened c.requires.slot c.requires.rows s held.no_job held.none_kept c.merges_begin.ensures.compaction (shown_only spelling m opened None s a.seen.held under) a entries free held.memory held.images under.tables
          (c.in_ok-extents.ensures.pages ∙ sym under.ready.named.pages) same is in
          subst (λ (x : JobValue). IsGoing spelling bytes m opened s a a x free) (sym c.in_ok-job.ensures.begun)
          (subst (λ (set : Settings). IsGoing spelling bytes m opened s a a (compaction entries set opened) free) (under.ready.named.settings ∙ sym settings) begun);
      read = λ tells. subst (λ (x : JobValue). AllByRecursion (SoundBefore opened a.seen.held) x.merge.walks) (sym c.in_ok-job.ensures.begun) (begun_before opened a.seen.held (all_numbers (length opened)));
      numbers_are = subst (λ (x : JobValue). numbers x.merge.walks ≡ all_numbers (length opened)) (sym c.in_ok-job.ensures.begun) (begun_numbers opened (all_numbers (length opened)));
      moves = none_moved _ a;
      frame = leaves_none (IsInUse m 262144) a;
    }

pub slice-requires-clause-there : goal.slice-requires-clause-there
slice-requires-clause-there g c = c.loop-job.invariant.on.numbers

pub returns-in_err-slice-clause-stays : goal.returns-in_err-slice-clause-stays
returns-in_err-slice-clause-stays g c s tells held =
    let spelling = g.F.RangeFilter.spelling in
    let bytes = filter_bytes_of g.F.RangeFilter.spelling g.F.RangeFilter.built_cutoff in
    let a = g.D.Disk.world c.args.disk.now in
    let w = g.D.Disk.world c.loop-job.disk in
    let going = c.loop-job.invariant.going s tells held in
    let under = now_at _ a w going.meanwhile w.seen.held (g.met.D.Disk.current c.loop-job.disk tells) in
    slice_stays spelling bytes c.args.version.now c.args.tables.now.tables c.requires.slot c.requires.rows s held.no_job held.none_kept g.F.RangeFilter.built_cutoff a w _ _ _ _ _ going under.tables c.slice.ensures.slices.moves

pub returns-in_err-slice-clause-made : goal.returns-in_err-slice-clause-made
returns-in_err-slice-clause-made g c s tells held =
    let spelling = g.F.RangeFilter.spelling in
    let bytes = filter_bytes_of g.F.RangeFilter.spelling g.F.RangeFilter.built_cutoff in
    let m = c.args.version.now in
    let opened = c.args.tables.now.tables in
    let a = g.D.Disk.world c.args.disk.now in
    let w = g.D.Disk.world c.loop-job.disk in
    let x = g.D.Disk.world c.slice.new.disk in
    let going = c.loop-job.invariant.going s tells held in
    let under = now_at _ a w going.meanwhile w.seen.held (g.met.D.Disk.current c.loop-job.disk tells) in
    let not = makes_not spelling bytes m opened c.requires.slot c.requires.rows s held.no_job held.none_kept g.F.RangeFilter.built_cutoff a w x c.loop-job.job c.slice.new.self c.loop-job.extents c.slice.new.extents going under.tables
    c.in_err-slice.field-0.0 (c.in_err-slice.ensures.slices.makes tells) in
    let why = slice_refused spelling bytes m opened c.requires.slot c.requires.rows s held.no_job held.none_kept g.F.RangeFilter.built_cutoff a w x c.loop-job.job c.slice.new.self c.loop-job.extents c.slice.new.extents going under.tables
    c.in_err-slice.field-0.0 c.slice.ensures.slices.moves not in
    refused_so c.from_residual-in_err-slice.result c.in_err-slice.field-0.0 (λ made. AreAllMade spelling bytes s made.items x) (IsWritingCause bytes s a x) c.from_residual-in_err-slice.ensures.1 why

pub returns-in_err-slice-clause-fault : goal.returns-in_err-slice-clause-fault
returns-in_err-slice-clause-fault g c =
    let a = g.D.Disk.world c.args.disk.now in
    let w = g.D.Disk.world c.loop-job.disk in
    let x = g.D.Disk.world c.slice.new.disk in
    fails_so c.from_residual-in_err-slice.result c.in_err-slice.field-0.0 (IsWritingFault a x) c.from_residual-in_err-slice.ensures.1
    (writing_fault g.D.Disk.tells c.args.tables.now.tables _ _ a w x c.loop-job.invariant.moves c.in_err-slice.field-0.0 c.in_err-slice.ensures.slices.fault)

pub returns-in_err-slice-clause-shown : goal.returns-in_err-slice-clause-shown
returns-in_err-slice-clause-shown g c tells =
    let a = g.D.Disk.world c.args.disk.now in
    let w = g.D.Disk.world c.loop-job.disk in
    let x = g.D.Disk.world c.slice.new.disk in
    fails_so c.from_residual-in_err-slice.result c.in_err-slice.field-0.0 (λ why. IsScanShown c.args.tables.now.tables x.seen.held (of_job_fault why)) c.from_residual-in_err-slice.ensures.1
    (writing_shown g.D.Disk.tells c.args.tables.now.tables _ _ a w x c.loop-job.invariant.moves c.in_err-slice.field-0.0 tells c.in_err-slice.ensures.slices.fault c.in_err-slice.ensures.slices.unwritten)

pub returns-in_err-slice-clause-moves : goal.returns-in_err-slice-clause-moves
returns-in_err-slice-clause-moves g c =
    slice_moved g.F.RangeFilter.spelling g.F.RangeFilter.built_cutoff c.args.version.now.version.pages c.loop-job.job c.slice.new.self c.loop-job.extents c.slice.new.extents (g.D.Disk.world c.args.disk.now)
    (g.D.Disk.world c.loop-job.disk) (g.D.Disk.world c.slice.new.disk) c.loop-job.invariant.on.pages c.loop-job.invariant.moves c.slice.ensures.slices.moves

pub loop-job-smaller : goal.loop-job-smaller
loop-job-smaller g c = c.in_ok-slice.ensures.slices.ends c.in-Working.is

pub loop-job-preserved : goal.loop-job-preserved
loop-job-preserved g c =
    let spelling = g.F.RangeFilter.spelling in
    let cutoff = g.F.RangeFilter.built_cutoff in
    let bytes = filter_bytes_of g.F.RangeFilter.spelling g.F.RangeFilter.built_cutoff in
    let m = c.args.version.now in
    let opened = c.args.tables.now.tables in
    let a = g.D.Disk.world c.args.disk.now in
    let w = g.D.Disk.world c.loop-job.disk in
    let x = g.D.Disk.world c.slice.new.disk in
    let old = c.loop-job.job in
    let new = c.slice.new.self in
    let free = c.loop-job.extents in
    let now = c.slice.new.extents in
    let on = c.loop-job.invariant.on in
    let within = subst (λ (said : Sliced). MayMakeAsMany old new said) c.in-Working.is c.in_ok-slice.ensures.slices.few in
    record {
      on = compacting_more spelling cutoff m.version opened old new free now w x on c.slice.ensures.slices.stands_are c.slice.ensures.slices.same.0 c.slice.ensures.slices.moves within (c.in_ok-slice.ensures.slices.rows on.written);
      going = λ s tells held.
          let going = c.loop-job.invariant.going s tells held in
          let under = now_at _ a w going.meanwhile w.seen.held (g.met.D.Disk.current c.loop-job.disk tells) in
          let made = makes_on spelling bytes m opened c.requires.slot c.requires.rows s held.no_job held.none_kept cutoff a w x old new free now going under.tables c.in_ok-slice.field-0 (c.in_ok-slice.ensures.slices.makes tells) in
          slice_goes_on spelling bytes m opened c.requires.slot c.requires.rows s held.no_job held.none_kept cutoff a w x old new free now going under.tables c.in_ok-slice.field-0 made c.slice.ensures.slices.moves;
      read = λ tells. before_on m opened c.requires.rows (subst (AllByRecursion HasItsPages) c.as_slice.ensures c.have_their_pages.ensures) a.seen.held w.seen.held c.loop-job.invariant.frame.held old.merge.walks new.merge.walks
          (c.slice.ensures.slices.passes tells) (c.loop-job.invariant.read tells);
      numbers_are = c.slice.ensures.slices.numbers_are ∙ c.loop-job.invariant.numbers_are;
      moves = slice_moved spelling cutoff m.version.pages old new free now a w x on.pages c.loop-job.invariant.moves c.slice.ensures.slices.moves;
      frame = leaves_then (IsInUse m 262144) a w x c.loop-job.invariant.frame
          (slice_left spelling cutoff m c.requires.sound c.requires.slot old new free now (IsPermutation-sym free.extents (extents_with m.version old.outputs) on.extents) w x c.slice.ensures.slices.moves);
    }

pub returns-in-Ready-clause-stays : goal.returns-in-Ready-clause-stays
returns-in-Ready-clause-stays g c s tells held =
    let spelling = g.F.RangeFilter.spelling in
    let bytes = filter_bytes_of g.F.RangeFilter.spelling g.F.RangeFilter.built_cutoff in
    let a = g.D.Disk.world c.args.disk.now in
    let w = g.D.Disk.world c.loop-job.disk in
    let going = c.loop-job.invariant.going s tells held in
    let under = now_at _ a w going.meanwhile w.seen.held (g.met.D.Disk.current c.loop-job.disk tells) in
    slice_stays spelling bytes c.args.version.now c.args.tables.now.tables c.requires.slot c.requires.rows s held.no_job held.none_kept g.F.RangeFilter.built_cutoff a w _ _ _ _ _ going under.tables c.slice.ensures.slices.moves

pub returns-in-Ready-clause-made : goal.returns-in-Ready-clause-made
returns-in-Ready-clause-made g c s tells held =
    let spelling = g.F.RangeFilter.spelling in
    let cutoff = g.F.RangeFilter.built_cutoff in
    let bytes = filter_bytes_of g.F.RangeFilter.spelling g.F.RangeFilter.built_cutoff in
    let m = c.args.version.now in
    let opened = c.args.tables.now.tables in
    let a = g.D.Disk.world c.args.disk.now in
    let w = g.D.Disk.world c.loop-job.disk in
    let x = g.D.Disk.world c.slice.new.disk in
    let going = c.loop-job.invariant.going s tells held in
    let under = now_at _ a w going.meanwhile w.seen.held (g.met.D.Disk.current c.loop-job.disk tells) in
    let makes = subst (λ (said : Sliced). MakesAnyOutputs spelling bytes opened c.loop-job.job c.slice.new.self c.loop-job.extents c.slice.new.extents (Ok said) w x) c.in-Ready.is (c.in_ok-slice.ensures.slices.makes tells) in
    let on = makes_on spelling bytes m opened c.requires.slot c.requires.rows s held.no_job held.none_kept cutoff a w x c.loop-job.job c.slice.new.self c.loop-job.extents c.slice.new.extents going under.tables sliced.Ready makes in
    let all = all_are_made spelling bytes m opened c.requires.slot c.requires.rows s held.no_job held.none_kept cutoff a w x c.loop-job.job c.slice.new.self c.loop-job.extents c.slice.new.extents going under.tables sliced.Ready on
    c.slice.ensures.slices.moves on.said.1 in
    subst (λ (made : List Opened). AreAllMade spelling bytes s made x) (sym c.into_tables.ensures) all

pub returns-in-Ready-clause-compact : goal.returns-in-Ready-clause-compact
returns-in-Ready-clause-compact g c =
    let on = c.loop-job.invariant.on in
    let within = subst (λ (said : Sliced). MayMakeAsMany c.loop-job.job c.slice.new.self said) c.in-Ready.is c.in_ok-slice.ensures.slices.few in
    subst (λ (made : List Opened). AreCompact c.args.version.now.version (rows_of made)) (sym c.into_tables.ensures)
    (compacted_rows g.F.RangeFilter.spelling g.F.RangeFilter.built_cutoff c.args.version.now.version c.args.tables.now.tables c.loop-job.job c.slice.new.self c.loop-job.extents c.slice.new.extents
    (g.D.Disk.world c.loop-job.disk) (g.D.Disk.world c.slice.new.disk) on c.slice.ensures.slices.stands_are c.slice.ensures.slices.same.0 c.slice.ensures.slices.moves within (c.in_ok-slice.ensures.slices.rows on.written))

pub returns-in-Ready-clause-moves : goal.returns-in-Ready-clause-moves
returns-in-Ready-clause-moves g c =
    slice_moved g.F.RangeFilter.spelling g.F.RangeFilter.built_cutoff c.args.version.now.version.pages c.loop-job.job c.slice.new.self c.loop-job.extents c.slice.new.extents (g.D.Disk.world c.args.disk.now)
    (g.D.Disk.world c.loop-job.disk) (g.D.Disk.world c.slice.new.disk) c.loop-job.invariant.on.pages c.loop-job.invariant.moves c.slice.ensures.slices.moves

-- ---- what is left as it was

pub returns-in_err-extents-clause-frame : goal.returns-in_err-extents-clause-frame
returns-in_err-extents-clause-frame g c = leaves_none (IsInUse c.args.version.now 262144) (g.D.Disk.world c.args.disk.now)

pub returns-in_err-job-clause-frame : goal.returns-in_err-job-clause-frame
returns-in_err-job-clause-frame g c = leaves_none (IsInUse c.args.version.now 262144) (g.D.Disk.world c.args.disk.now)

pub returns-in_err-slice-clause-frame : goal.returns-in_err-slice-clause-frame
returns-in_err-slice-clause-frame g c =
    (leaves_then (IsInUse c.args.version.now 262144) (g.D.Disk.world c.args.disk.now) (g.D.Disk.world c.loop-job.disk) (g.D.Disk.world c.slice.new.disk) c.loop-job.invariant.frame
    (slice_left g.F.RangeFilter.spelling g.F.RangeFilter.built_cutoff c.args.version.now c.requires.sound c.requires.slot c.loop-job.job c.slice.new.self c.loop-job.extents c.slice.new.extents
    (IsPermutation-sym c.loop-job.extents.extents (extents_with c.args.version.now.version c.loop-job.job.outputs) c.loop-job.invariant.on.extents) (g.D.Disk.world c.loop-job.disk) (g.D.Disk.world c.slice.new.disk) c.slice.ensures.slices.moves))

pub returns-in-Ready-clause-frame : goal.returns-in-Ready-clause-frame
returns-in-Ready-clause-frame g c =
    (leaves_then (IsInUse c.args.version.now 262144) (g.D.Disk.world c.args.disk.now) (g.D.Disk.world c.loop-job.disk) (g.D.Disk.world c.slice.new.disk) c.loop-job.invariant.frame
    (slice_left g.F.RangeFilter.spelling g.F.RangeFilter.built_cutoff c.args.version.now c.requires.sound c.requires.slot c.loop-job.job c.slice.new.self c.loop-job.extents c.slice.new.extents
    (IsPermutation-sym c.loop-job.extents.extents (extents_with c.args.version.now.version c.loop-job.job.outputs) c.loop-job.invariant.on.extents) (g.D.Disk.world c.loop-job.disk) (g.D.Disk.world c.slice.new.disk) c.slice.ensures.slices.moves))

-- ---- each block was passed, and is sound

pub returns-in-Ready-clause-passed : goal.returns-in-Ready-clause-passed
returns-in-Ready-clause-passed g c tells =
    let opened = c.args.tables.now.tables in
    let a = g.D.Disk.world c.args.disk.now in
    let w = g.D.Disk.world c.loop-job.disk in
    let old = c.loop-job.job in
    let new = c.slice.new.self in
    let has = subst (AllByRecursion HasItsPages) c.as_slice.ensures c.have_their_pages.ensures in
    all_passed opened a.seen.held new.merge.walks (c.slice.ensures.slices.numbers_are ∙ c.loop-job.invariant.numbers_are) (subst (ReadyAtEnd opened new) c.in-Ready.is c.in_ok-slice.ensures.slices.done)
    (before_on c.args.version.now opened c.requires.rows has a.seen.held w.seen.held c.loop-job.invariant.frame.held old.merge.walks new.merge.walks (c.slice.ensures.slices.passes tells) (c.loop-job.invariant.read tells))
