use Rattle.std.proofs.Common.{◌≢◌, ◌⊎◌, ◌∙◌, List, [], refl, sym, ap, subst, arith}
use Rattle.std.specs.Prelude.{OnOk}
use Rattle.disk_trait.proofs.Calls.{reads_none}
use Rattle.table_model.specs.Tables.{filter_bytes_of}
use Rattle.store_core.specs.Framing.{IsInUse, LeavesPlaces}
use Rattle.store_core.specs.Refusing.{MayBeCompacted}
use Rattle.store_core.proofs.Framing.{leaves_none}
use Rattle.store_core.specs.Scans.{AreAllSound}
use Rattle.store_core.specs.StoreValue.{IsConsistent, StoreValue}
use Rattle.table_file.specs.Opened.{Opened}
use Rattle.store_core.specs.declared.store.Store.TheInside.{Inside}
use Rattle.store_core.proofs.CompactBegins.{answered_empty, answered_last, is_at_last, is_below_last, tied_without}
use Rattle.store_core.proofs.Refusals.{fault_compacts}
use Rattle.store_core.proofs.Stays.{dropped_stays, holds_some, without_merge}
use Rattle.store_core.proofs.Writing.{never}
use Rattle.store_core.proofs.store.Store.compact.Goals as goal

pub returns-then-holds_nothing-clause-answered : goal.returns-then-holds_nothing-clause-answered
returns-then-holds_nothing-clause-answered g c s tells running tied =
    let none = c.holds_nothing.ensures.nothing c.if-holds_nothing.true in
    answered_empty c.args.self.now c.drop_job.new.self c.drop_job.ensures g.F.RangeFilter.spelling (filter_bytes_of g.F.RangeFilter.spelling g.F.RangeFilter.built_cutoff) s (g.D.Disk.world c.args.disk.now)
    (subst IsConsistent c.self.view_is c.self.invariant.0) tied (g.met.D.Disk.current c.args.disk.now tells) none.0 none.1

pub returns-then-self-2-clause-answered : goal.returns-then-self-2-clause-answered
returns-then-self-2-clause-answered g c s tells running tied =
    answered_last c.args.self.now c.drop_job.new.self c.drop_job.ensures g.F.RangeFilter.spelling (filter_bytes_of g.F.RangeFilter.spelling g.F.RangeFilter.built_cutoff) s (g.D.Disk.world c.args.disk.now)
    (subst IsConsistent c.self.view_is c.self.invariant.0) tied (g.met.D.Disk.current c.args.disk.now tells) (c.holds_nothing.ensures.some c.if-holds_nothing.false)
    (sym (ap (λ (k : StoreValue). k.manifest.version.epoch) c.self-2.view_is) ∙ (sym (ap (λ (i : Inside _). i.version.version.epoch) c.self-inside.view_is) ∙ c.if-self-2.true))

pub returns-then-self-2-clause-refused : goal.returns-then-self-2-clause-refused
returns-then-self-2-clause-refused g c = (
  sym (ap (λ (k : StoreValue). k.stopped) c.self.view_is) ∙ c.if-self.false,
  refl,
  is_at_last c.args.self.now c.drop_job.new.self c.drop_job.ensures (sym (ap (λ (k : StoreValue). k.manifest.version.epoch) c.self-2.view_is) ∙ (sym (ap (λ (i : Inside _). i.version.version.epoch) c.self-inside.view_is) ∙ c.if-self-2.true)),
)

pub compact_all-requires-clause-epoch : goal.compact_all-requires-clause-epoch
compact_all-requires-clause-epoch g c = is_below_last c.args.self.now c.drop_job.new.self c.drop_job.ensures (subst IsConsistent c.self.view_is c.self.invariant.0)
    (λ last. c.if-self-2.false (ap (λ (i : Inside _). i.version.version.epoch) c.self-inside.view_is ∙ (ap (λ (k : StoreValue). k.manifest.version.epoch) c.self-2.view_is ∙ last)))

pub returns-clause-answered : goal.returns-clause-answered
returns-clause-answered g c s tells running tied = c.compact_all.ensures.answered s tells
    (tied_without c.args.self.now c.drop_job.new.self c.drop_job.ensures g.F.RangeFilter.spelling (filter_bytes_of g.F.RangeFilter.spelling g.F.RangeFilter.built_cutoff) s (g.D.Disk.world c.args.disk.now)
    (subst IsConsistent c.self.view_is c.self.invariant.0) tied)

-- ---- what a refusal leaves

pub returns-then-self-2-clause-stays : goal.returns-then-self-2-clause-stays
returns-then-self-2-clause-stays g c runs = without_merge c.args.self.now c.drop_job.new.self c.drop_job.ensures

pub returns-clause-stays : goal.returns-clause-stays
returns-clause-stays g c = dropped_stays c.compact_all.result c.args.self.now c.drop_job.new.self c.compact_all.new.self c.drop_job.ensures c.compact_all.ensures.stays

-- ---- where the store holds nothing

pub returns-then-self-clause-nothing : goal.returns-then-self-clause-nothing
returns-then-self-clause-nothing g c runs none no_tables = absurd (never c.args.self.now.stopped (sym (ap (λ (k : StoreValue). k.stopped) c.self.view_is) ∙ c.if-self.true) runs)

pub returns-then-holds_nothing-clause-nothing : goal.returns-then-holds_nothing-clause-nothing
returns-then-holds_nothing-clause-nothing g c runs none no_tables = record { done = refl; same = c.drop_job.ensures; no_call = reads_none 0 (g.D.Disk.world c.args.disk.now) }

pub returns-then-self-2-clause-nothing : goal.returns-then-self-2-clause-nothing
returns-then-self-2-clause-nothing g c runs none no_tables =
    absurd (holds_some c.args.self.now c.drop_job.new.self c.drop_job.ensures (c.holds_nothing.ensures.some c.if-holds_nothing.false) none no_tables)

pub returns-clause-nothing : goal.returns-clause-nothing
returns-clause-nothing g c runs none no_tables =
    absurd (holds_some c.args.self.now c.drop_job.new.self c.drop_job.ensures (c.holds_nothing.ensures.some c.if-holds_nothing.false) none no_tables)

-- ---- at the last epoch

pub returns-then-self-clause-limited : goal.returns-then-self-clause-limited
returns-then-self-clause-limited g c last = reads_none 0 (g.D.Disk.world c.args.disk.now)

pub returns-then-holds_nothing-clause-limited : goal.returns-then-holds_nothing-clause-limited
returns-then-holds_nothing-clause-limited g c last = reads_none 0 (g.D.Disk.world c.args.disk.now)

pub returns-then-self-2-clause-limited : goal.returns-then-self-2-clause-limited
returns-then-self-2-clause-limited g c last = reads_none 0 (g.D.Disk.world c.args.disk.now)

pub returns-clause-limited : goal.returns-clause-limited
returns-clause-limited g c last =
    let left = is_below_last c.args.self.now c.drop_job.new.self c.drop_job.ensures (subst IsConsistent c.self.view_is c.self.invariant.0)
    (λ at. c.if-self-2.false (ap (λ (i : Inside _). i.version.version.epoch) c.self-inside.view_is ∙ (ap (λ (k : StoreValue). k.manifest.version.epoch) c.self-2.view_is ∙ at))) in
    absurd (omega (arith, left, ap (λ (k : StoreValue). k.manifest.version.epoch) c.drop_job.ensures, last))

-- ---- when a limit refuses it

pub returns-then-self-2-clause-due : goal.returns-then-self-2-clause-due
returns-then-self-2-clause-due g c = (
  subst (λ (k : StoreValue). (k.memory.entries ≢ []) ⊎ (k.tables ≢ [])) c.drop_job.ensures (c.holds_nothing.ensures.some c.if-holds_nothing.false),
  reads_none 0 (g.D.Disk.world c.args.disk.now),
)

pub returns-clause-due : goal.returns-clause-due
returns-clause-due g c =
    let left = is_below_last c.args.self.now c.drop_job.new.self c.drop_job.ensures (subst IsConsistent c.self.view_is c.self.invariant.0)
    (λ last. c.if-self-2.false (ap (λ (i : Inside _). i.version.version.epoch) c.self-inside.view_is ∙ (ap (λ (k : StoreValue). k.manifest.version.epoch) c.self-2.view_is ∙ last))) in
    fault_compacts c.compact_all.result c.args.self.now (g.D.Disk.world c.args.disk.now) (g.D.Disk.world c.compact_all.new.disk)
    (subst MayBeCompacted c.drop_job.ensures (c.holds_nothing.ensures.some c.if-holds_nothing.false, left)) c.compact_all.ensures.fault

-- ---- what is left as it was

pub returns-then-self-clause-frame : goal.returns-then-self-clause-frame
returns-then-self-clause-frame g c = leaves_none (IsInUse c.args.self.now.manifest 262144) (g.D.Disk.world c.args.disk.now)

pub returns-then-holds_nothing-clause-frame : goal.returns-then-holds_nothing-clause-frame
returns-then-holds_nothing-clause-frame g c = leaves_none (IsInUse c.args.self.now.manifest 262144) (g.D.Disk.world c.args.disk.now)

pub returns-then-self-2-clause-frame : goal.returns-then-self-2-clause-frame
returns-then-self-2-clause-frame g c = leaves_none (IsInUse c.args.self.now.manifest 262144) (g.D.Disk.world c.args.disk.now)

pub returns-clause-frame : goal.returns-clause-frame
returns-clause-frame g c =
    subst (λ (k : StoreValue). LeavesPlaces (IsInUse k.manifest 262144) (g.D.Disk.world c.args.disk.now) (g.D.Disk.world c.compact_all.new.disk)) c.drop_job.ensures c.compact_all.ensures.frame

-- ---- each block of its tables is sound

pub returns-then-holds_nothing-clause-sound : goal.returns-then-holds_nothing-clause-sound
returns-then-holds_nothing-clause-sound g c tells =
    let none = (c.holds_nothing.ensures.nothing c.if-holds_nothing.true).1 in
    subst (λ (ts : List Opened). AreAllSound ts (g.D.Disk.world c.args.disk.now).seen.held) (sym (sym (ap (λ (k : StoreValue). k.tables) c.drop_job.ensures) ∙ none)) tt

pub returns-clause-sound : goal.returns-clause-sound
returns-clause-sound g c tells =
    subst (λ (k : StoreValue). OnOk c.compact_all.result (AreAllSound k.tables (g.D.Disk.world c.args.disk.now).seen.held)) c.drop_job.ensures (c.compact_all.ensures.sound tells)
