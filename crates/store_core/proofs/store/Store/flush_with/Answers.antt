use Rattle.std.proofs.Common.{◌≡◌, ◌≢◌, List, [], ◌∷◌, ◌∙◌, refl, sym, ap, subst, arith}
use Rattle.std.specs.Prelude.{ℕ, IfErr, IfSome, Result, Ok, Err}
use Rattle.block_model.specs.Block.{IsTable}
use Rattle.byte_fields.specs.declared.parts.Row.{Row}
use Rattle.extent_model.specs.Extents.{AreLaid}
use Rattle.state_model.specs.Changes.{flushed}
use Rattle.table_file.specs.Opened.{Opened}
use Rattle.table_file.specs.Writing.{opened_of}
use Rattle.table_model.specs.Tables.{filter_bytes_of}
use Rattle.store_core.specs.Answers.{WroteEntry}
use Rattle.manifest.specs.Manifest.{Manifest}
use Rattle.store_core.proofs.Framing.{leaves_none}
use Rattle.store_core.specs.Framing.{IsInUse}
use Rattle.store_core.specs.Flushing.{IsPlan, IsPlanRefusal, entries_with, need_under, over_of, state_with}
use Rattle.store_core.specs.StoreValue.{IsConsistent, StoreValue}
use Rattle.store_core.specs.Refusing.{IsFlushDue}
use Rattle.store_core.specs.Running.{extents_with, outputs_in}
use Rattle.store_core.specs.Represents.{Represents}
use Rattle.store_core.specs.declared.error.StoreError.{StoreError}
use Rattle.store_core.specs.declared.error.StoreError.TheVariants as error
use Rattle.store_core.proofs.FlushAnswers.{flush_done, flush_failed, passed_on, plan_of_records, plan_refused, row_again, row_within, wanted_with, wrote_over}
use Rattle.store_core.proofs.Overs.{flushed_entries_are, flushed_table, memory_each, memory_rises, over_is_entry}
use Rattle.store_core.proofs.Plans.{row_free}
use Rattle.store_core.proofs.Refusals.{fault_due, plan_due, wanted_due}
use Rattle.store_core.proofs.Stays.{stays_at, stopped_or_stays, tables_stay}
use Rattle.store_core.proofs.Wholes.{flushed_whole, laid_with, whole_stopped}
use Rattle.range_model.specs.Sources.{empty_source}
use Rattle.store_core.proofs.Recorded.{no_range_with, same_source, shown_only}
use Rattle.store_core.proofs.store.Store.flush_with.Goals as goal

pub plan_flush-requires-clause-rises : goal.plan_flush-requires-clause-rises
plan_flush-requires-clause-rises g c = memory_rises _ c.self.invariant.0

pub plan_flush-requires-clause-each : goal.plan_flush-requires-clause-each
plan_flush-requires-clause-each g c = memory_each _ c.self.invariant.0

pub plan_flush-requires-clause-table : goal.plan_flush-requires-clause-table
plan_flush-requires-clause-table g c =
    let over = over_of c.args.over in
    flushed_table _ c.self.invariant.0 over (over_is_entry c.args.over c.requires.sound) (subst (λ (k : StoreValue). entries_with k.memory.entries over ≢ []) (sym c.self.view_is) c.requires.some)

pub plan_flush-requires-clause-need : goal.plan_flush-requires-clause-need
plan_flush-requires-clause-need g c =
    let bytes = filter_bytes_of g.F.RangeFilter.spelling g.F.RangeFilter.built_cutoff in
    subst (λ (k : StoreValue). IfSome c.args.need (λ (pages : ℕ). pages ≡ need_under bytes k.manifest.version (entries_with k.memory.entries (over_of c.args.over)))) (sym c.self.view_is) c.requires.need

pub plan_flush-requires-clause-laid : goal.plan_flush-requires-clause-laid
plan_flush-requires-clause-laid g c =
    let v = c.self.inside.version.version in
    subst (λ (rs : List Row). AreLaid v.pages (extents_with v rs)) (sym c.outputs_of-outputs.ensures) (laid_with _ c.self.invariant.0)

pub returns-in_err-plan-clause-wrote : goal.returns-in_err-plan-clause-wrote
returns-in_err-plan-clause-wrote g c s tells tied =
    let spelling = g.F.RangeFilter.spelling in
    let bytes = filter_bytes_of g.F.RangeFilter.spelling g.F.RangeFilter.built_cutoff in
    let x = c.in_err-plan.field-0.0 in
    let v = c.self.inside.version.version in
    let here = subst (λ (rs : List Row). IsPlanRefusal bytes v rs (entries_with c.self.inside.memory.entries (over_of c.args.over)) x) c.outputs_of-outputs.ensures c.in_err-plan.ensures.refused in
    let why = subst (λ (k : StoreValue). IsPlanRefusal bytes k.manifest.version (outputs_in k.job) (entries_with k.memory.entries (over_of c.args.over)) x) c.self.view_is here in
    let w = g.D.Disk.world c.args.disk.now in
    let store = c.args.self.now in
    let over = over_of c.args.over in
    subst (λ (r : Result (Unit {0}) StoreError). WroteEntry spelling bytes s (flushed bytes (state_with s over)) r store w w) (passed_on c.from_residual.result x c.from_residual.ensures.1)
    (wrote_over spelling bytes s over (Err x) store w w
    (plan_refused spelling bytes store s w (g.met.D.Disk.current c.args.disk.now tells) tied (state_with s over).log (entries_with store.memory.entries over) (flushed_entries_are s over store.memory.entries tied.memory)
    (no_range_with s over (shown_only spelling store.manifest store.tables store.job s w.seen.held (tied.images w.seen.held (g.met.D.Disk.current c.args.disk.now tells)))) c.requires.some (subst IsConsistent c.self.view_is c.self.invariant.0) x why))

pub returns-in_err-reserve-clause-wrote : goal.returns-in_err-reserve-clause-wrote
returns-in_err-reserve-clause-wrote g c s tells tied =
    let spelling = g.F.RangeFilter.spelling in
    let bytes = filter_bytes_of g.F.RangeFilter.spelling g.F.RangeFilter.built_cutoff in
    let w = g.D.Disk.world c.args.disk.now in
    wanted_with spelling bytes _ s (flushed bytes (state_with s (over_of c.args.over))) c.from_residual-in_err-reserve.result c.reserve.new.self.tables w c.from_residual-in_err-reserve.ensures.1 c.reserve.ensures.tables c.self.invariant.0
    (subst (λ (k : StoreValue). Represents spelling bytes k s w) (sym c.self.view_is) tied)

pub into_table-requires-clause-row : goal.into_table-requires-clause-row
into_table-requires-clause-row g c = row_again g.F.RangeFilter.spelling g.F.RangeFilter.built_cutoff _ _ _ c.in_ok-plan.plan.parts c.in_ok-plan.plan.row _ c.in_ok-plan.ensures.plan

pub into_table-requires-clause-within : goal.into_table-requires-clause-within
into_table-requires-clause-within g c =
    let v = c.self.inside.version.version in
    let laid = subst (λ (rs : List Row). AreLaid v.pages (extents_with v rs)) (sym c.outputs_of-outputs.ensures) (laid_with _ c.self.invariant.0) in
    row_within g.F.RangeFilter.spelling g.F.RangeFilter.built_cutoff _ _ _ c.in_ok-plan.plan.parts c.in_ok-plan.plan.row _ c.in_ok-plan.ensures.plan c.self.invariant.0.version laid c.in_ok-plan.ensures.next
    c.in_ok-plan.ensures.fits

pub invariant_of-self-in-Err-1 : goal.invariant_of-self-in-Err-1
invariant_of-self-in-Err-1 g c = (whole_stopped _ _ _ c.reserve.ensures.tables c.self.invariant.0, c.self.invariant.1, c.self.invariant.2)

pub invariant_of-self-in-Ok : goal.invariant_of-self-in-Ok
invariant_of-self-in-Ok g c =
    let parts = c.in_ok-plan.plan.parts in
    let row = c.in_ok-plan.plan.row in
    let next = c.in_ok-plan.plan.next in
    let m = c.self.inside.version in
    let entries = (entries_with c.self.inside.memory.entries (over_of c.args.over)) in
    let plan = subst (λ (rs : List Row). IsPlan g.F.RangeFilter.spelling g.F.RangeFilter.built_cutoff m rs entries parts row next) c.outputs_of-outputs.ensures c.in_ok-plan.ensures.plan in
    let free = row_free g.F.RangeFilter.spelling g.F.RangeFilter.built_cutoff m _ entries parts row next c.self.invariant.0.version (laid_with _ c.self.invariant.0) plan in (
      flushed_whole _ _ c.into_table.result c.in_ok-plan.plan.row c.in_ok-plan.plan.next c.self.invariant.0 c.in_ok-plan.ensures.next
          (omega (arith, plan.epoch, ap (λ (m : _). m.version.epoch) plan.next_is)) plan.next_is c.installed.ensures
          (c.insert.ensures.tables ∙ ap (λ (ts : List Opened). c.into_table.result ∷ ts) c.reserve.ensures.tables) (ap (λ (t : Opened). t.row) c.into_table.ensures.table) refl refl free
          c.in-Ok.ensures.log.1 c.in-Ok.ensures.log.0 (same_source _ empty_source c.clear.ensures.empty c.clear.ensures.no_range),
      c.self.invariant.1,
      tt,
    )

pub returns-in-Ok-clause-wrote : goal.returns-in-Ok-clause-wrote
returns-in-Ok-clause-wrote g c s tells tied =
    let spelling = g.F.RangeFilter.spelling in
    let cutoff = g.F.RangeFilter.built_cutoff in
    let store = c.args.self.now in
    let parts = c.in_ok-plan.plan.parts in
    let row = c.in_ok-plan.plan.row in
    let next = c.in_ok-plan.plan.next in
    let old = g.D.Disk.world c.args.disk.now in
    let new = g.D.Disk.world c.write_plan.new.disk in
    let current = g.met.D.Disk.current c.args.disk.now tells in
    let over = over_of c.args.over in
    let records = (state_with s over).log in
    let entries = entries_with store.memory.entries over in
    let are = flushed_entries_are s over store.memory.entries tied.memory in
    let no_range = no_range_with s over (shown_only spelling store.manifest store.tables store.job s old.seen.held (tied.images old.seen.held current)) in
    let whole = subst IsConsistent c.self.view_is c.self.invariant.0 in
    let here = subst (λ (rs : List Row). IsPlan spelling cutoff c.self.inside.version rs (entries_with c.self.inside.memory.entries (over_of c.args.over)) parts row next) c.outputs_of-outputs.ensures c.in_ok-plan.ensures.plan in
    let plan = subst (λ (k : StoreValue). IsPlan spelling cutoff k.manifest (outputs_in k.job) (entries_with k.memory.entries (over_of c.args.over)) parts row next) c.self.view_is here in
    let replaces = c.in-Ok.ensures.replaces store s (record s { log = records }) tells whole tied (refl, no_range) (plan_of_records spelling cutoff store s old new current tied records entries are no_range c.requires.some parts row next plan) in
    wrote_over spelling (filter_bytes_of spelling cutoff) s over _ _ old new
    (flush_done spelling cutoff store s old new current tied records entries are no_range c.requires.some parts row next plan c.in-Ok.log _ _
    (subst IsTable are (flushed_table store whole over (over_is_entry c.args.over c.requires.sound) c.requires.some)) replaces c.installed.ensures
    (c.insert.ensures.tables ∙ ap (λ (t : Opened). t ∷ c.reserve.new.self.tables) c.into_table.ensures.table
    ∙ ap (λ (ts : List Opened). opened_of cutoff parts row ∷ ts) (c.reserve.ensures.tables ∙ ap (λ (k : StoreValue). k.tables) c.self.view_is))
    (ap (λ (k : StoreValue). k.job) c.self.view_is) (ap (λ (k : StoreValue). k.blocks) c.self.view_is) whole c.in-Ok.ensures.log.0 (same_source _ empty_source c.clear.ensures.empty c.clear.ensures.no_range))

pub returns-in-Err-clause-wrote : goal.returns-in-Err-clause-wrote
returns-in-Err-clause-wrote g c s tells tied =
    let spelling = g.F.RangeFilter.spelling in
    let cutoff = g.F.RangeFilter.built_cutoff in
    let store = c.args.self.now in
    let parts = c.in_ok-plan.plan.parts in
    let row = c.in_ok-plan.plan.row in
    let next = c.in_ok-plan.plan.next in
    let old = g.D.Disk.world c.args.disk.now in
    let new = g.D.Disk.world c.write_plan.new.disk in
    let current = g.met.D.Disk.current c.args.disk.now tells in
    let over = over_of c.args.over in
    let records = (state_with s over).log in
    let entries = entries_with store.memory.entries over in
    let are = flushed_entries_are s over store.memory.entries tied.memory in
    let no_range = no_range_with s over (shown_only spelling store.manifest store.tables store.job s old.seen.held (tied.images old.seen.held current)) in
    let whole = subst IsConsistent c.self.view_is c.self.invariant.0 in
    let here = subst (λ (rs : List Row). IsPlan spelling cutoff c.self.inside.version rs (entries_with c.self.inside.memory.entries (over_of c.args.over)) parts row next) c.outputs_of-outputs.ensures c.in_ok-plan.ensures.plan in
    let plan = subst (λ (k : StoreValue). IsPlan spelling cutoff k.manifest (outputs_in k.job) (entries_with k.memory.entries (over_of c.args.over)) parts row next) c.self.view_is here in
    let replaces = c.in-Err.ensures.replaces store s (record s { log = records }) tells whole tied (refl, no_range) (plan_of_records spelling cutoff store s old new current tied records entries are no_range c.requires.some parts row next plan) in
    wrote_over spelling (filter_bytes_of spelling cutoff) s over _ _ old new
    (flush_failed spelling cutoff store s old new current tied records entries are no_range c.requires.some parts row next plan _ (ap (λ (k : StoreValue). k.manifest) c.self.view_is) (c.reserve.ensures.tables ∙ ap (λ (k : StoreValue). k.tables) c.self.view_is)
    (ap (λ (k : StoreValue). k.job) c.self.view_is) (ap (λ (k : StoreValue). k.log) c.self.view_is) (ap (λ (k : StoreValue). k.memory) c.self.view_is) (ap (λ (k : StoreValue). k.blocks) c.self.view_is)
    c.in-Err.fault c.from-why.result c.from-why.ensures replaces c.in-Err.ensures.cause c.stops_store-self-inside.ensures)

-- ---- what a refusal leaves

pub returns-in_err-plan-clause-stays : goal.returns-in_err-plan-clause-stays
returns-in_err-plan-clause-stays g c = stays_at c.from_residual.result c.args.self.now c.args.self.now refl

pub returns-in_err-reserve-clause-stays : goal.returns-in_err-reserve-clause-stays
returns-in_err-reserve-clause-stays g c =
    tables_stay c.from_residual-in_err-reserve.result _ c.args.self.now c.reserve.new.self.tables c.self.view_is c.reserve.ensures.tables

pub returns-in-Err-clause-stays : goal.returns-in-Err-clause-stays
returns-in-Err-clause-stays g c runs =
    stopped_or_stays c.from-why.result _ c.args.self.now _ c.reserve.new.self.tables c.self.view_is c.requires.running c.reserve.ensures.tables c.stops_store-self-inside.ensures runs

-- ---- when a limit or lack of room refuses it

pub returns-in_err-plan-clause-due : goal.returns-in_err-plan-clause-due
returns-in_err-plan-clause-due g c =
    let bytes = filter_bytes_of g.F.RangeFilter.spelling g.F.RangeFilter.built_cutoff in
    let store = c.args.self.now in
    let w = g.D.Disk.world c.args.disk.now in
    let x = c.in_err-plan.field-0.0 in
    let v = c.self.inside.version.version in
    let here = subst (λ (rs : List Row). IsPlanRefusal bytes v rs (entries_with c.self.inside.memory.entries (over_of c.args.over)) x) c.outputs_of-outputs.ensures c.in_err-plan.ensures.refused in
    let why = subst (λ (k : StoreValue). IsPlanRefusal bytes k.manifest.version (outputs_in k.job) (entries_with k.memory.entries (over_of c.args.over)) x) c.self.view_is here in
    subst (λ (r : Result (Unit {0}) StoreError). IfErr r (IsFlushDue bytes store (entries_with store.memory.entries (over_of c.args.over)) w w)) (passed_on c.from_residual.result x c.from_residual.ensures.1) (plan_due bytes store (entries_with store.memory.entries (over_of c.args.over)) x w c.requires.some why)

pub returns-in_err-reserve-clause-due : goal.returns-in_err-reserve-clause-due
returns-in_err-reserve-clause-due g c =
    wanted_due (filter_bytes_of g.F.RangeFilter.spelling g.F.RangeFilter.built_cutoff) c.from_residual-in_err-reserve.result c.args.self.now
    (entries_with c.args.self.now.memory.entries (over_of c.args.over)) (g.D.Disk.world c.args.disk.now) (passed_on c.from_residual-in_err-reserve.result error.Memory c.from_residual-in_err-reserve.ensures.1) c.requires.some

pub returns-in-Err-clause-due : goal.returns-in-Err-clause-due
returns-in-Err-clause-due g c =
    let spelling = g.F.RangeFilter.spelling in
    let cutoff = g.F.RangeFilter.built_cutoff in
    let parts = c.in_ok-plan.plan.parts in
    let row = c.in_ok-plan.plan.row in
    let next = c.in_ok-plan.plan.next in
    let here = subst (λ (rs : List Row). IsPlan spelling cutoff c.self.inside.version rs (entries_with c.self.inside.memory.entries (over_of c.args.over)) parts row next) c.outputs_of-outputs.ensures c.in_ok-plan.ensures.plan in
    let plan = subst (λ (k : StoreValue). IsPlan spelling cutoff k.manifest (outputs_in k.job) (entries_with k.memory.entries (over_of c.args.over)) parts row next) c.self.view_is here in
    fault_due (filter_bytes_of spelling cutoff) c.args.self.now (entries_with c.args.self.now.memory.entries (over_of c.args.over)) c.in-Err.fault c.from-why.result (g.D.Disk.world c.args.disk.now) (g.D.Disk.world c.write_plan.new.disk)
    c.from-why.ensures c.requires.some (record { few = plan.few; page = row.first_page; gap = plan.place; epoch = plan.epoch }) c.in-Err.ensures.cause

-- ---- where none of them is met

pub returns-in-Ok-clause-allowed : goal.returns-in-Ok-clause-allowed
returns-in-Ok-clause-allowed g c =
    let spelling = g.F.RangeFilter.spelling in
    let cutoff = g.F.RangeFilter.built_cutoff in
    let parts = c.in_ok-plan.plan.parts in
    let row = c.in_ok-plan.plan.row in
    let next = c.in_ok-plan.plan.next in
    let here = subst (λ (rs : List Row). IsPlan spelling cutoff c.self.inside.version rs (entries_with c.self.inside.memory.entries (over_of c.args.over)) parts row next) c.outputs_of-outputs.ensures c.in_ok-plan.ensures.plan in
    let plan = subst (λ (k : StoreValue). IsPlan spelling cutoff k.manifest (outputs_in k.job) (entries_with k.memory.entries (over_of c.args.over)) parts row next) c.self.view_is here in
    record { few = plan.few; page = row.first_page; gap = plan.place; epoch = plan.epoch }

-- ---- what is left as it was

pub returns-in_err-plan-clause-frame : goal.returns-in_err-plan-clause-frame
returns-in_err-plan-clause-frame g c = leaves_none (IsInUse c.args.self.now.manifest 262144) (g.D.Disk.world c.args.disk.now)

pub returns-in_err-reserve-clause-frame : goal.returns-in_err-reserve-clause-frame
returns-in_err-reserve-clause-frame g c = leaves_none (IsInUse c.args.self.now.manifest 262144) (g.D.Disk.world c.args.disk.now)

pub returns-in-Ok-clause-frame : goal.returns-in-Ok-clause-frame
returns-in-Ok-clause-frame g c =
    let spelling = g.F.RangeFilter.spelling in
    let cutoff = g.F.RangeFilter.built_cutoff in
    let parts = c.in_ok-plan.plan.parts in
    let row = c.in_ok-plan.plan.row in
    let next = c.in_ok-plan.plan.next in
    let here = subst (λ (rs : List Row). IsPlan spelling cutoff c.self.inside.version rs (entries_with c.self.inside.memory.entries (over_of c.args.over)) parts row next) c.outputs_of-outputs.ensures c.in_ok-plan.ensures.plan in
    let plan = subst (λ (k : StoreValue). IsPlan spelling cutoff k.manifest (outputs_in k.job) (entries_with k.memory.entries (over_of c.args.over)) parts row next) c.self.view_is here in
    let store = c.args.self.now in
    let whole = subst IsConsistent c.self.view_is c.self.invariant.0 in
    c.write_plan.ensures.frame store.manifest (outputs_in store.job) (entries_with store.memory.entries (over_of c.args.over)) whole.version whole.slot (laid_with store whole) plan

pub returns-in-Err-clause-frame : goal.returns-in-Err-clause-frame
returns-in-Err-clause-frame g c =
    let spelling = g.F.RangeFilter.spelling in
    let cutoff = g.F.RangeFilter.built_cutoff in
    let parts = c.in_ok-plan.plan.parts in
    let row = c.in_ok-plan.plan.row in
    let next = c.in_ok-plan.plan.next in
    let here = subst (λ (rs : List Row). IsPlan spelling cutoff c.self.inside.version rs (entries_with c.self.inside.memory.entries (over_of c.args.over)) parts row next) c.outputs_of-outputs.ensures c.in_ok-plan.ensures.plan in
    let plan = subst (λ (k : StoreValue). IsPlan spelling cutoff k.manifest (outputs_in k.job) (entries_with k.memory.entries (over_of c.args.over)) parts row next) c.self.view_is here in
    let store = c.args.self.now in
    let whole = subst IsConsistent c.self.view_is c.self.invariant.0 in
    c.write_plan.ensures.frame store.manifest (outputs_in store.job) (entries_with store.memory.entries (over_of c.args.over)) whole.version whole.slot (laid_with store whole) plan

-- the other log is in use then
pub returns-in-Ok-clause-other : goal.returns-in-Ok-clause-other
returns-in-Ok-clause-other g c =
    let spelling = g.F.RangeFilter.spelling in
    let cutoff = g.F.RangeFilter.built_cutoff in
    let parts = c.in_ok-plan.plan.parts in
    let row = c.in_ok-plan.plan.row in
    let next = c.in_ok-plan.plan.next in
    let here = subst (λ (rs : List Row). IsPlan spelling cutoff c.self.inside.version rs (entries_with c.self.inside.memory.entries (over_of c.args.over)) parts row next) c.outputs_of-outputs.ensures c.in_ok-plan.ensures.plan in
    let plan = subst (λ (k : StoreValue). IsPlan spelling cutoff k.manifest (outputs_in k.job) (entries_with k.memory.entries (over_of c.args.over)) parts row next) c.self.view_is here in
    sym (ap (λ (m : Manifest). m.version.log_page) plan.next_is) ∙ c.in-Ok.ensures.log.1
