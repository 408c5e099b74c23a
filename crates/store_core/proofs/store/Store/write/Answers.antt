use Rattle.std.proofs.Common.{◌≡◌, ◌+◌, ◌*◌, ◌≤◌, ◌<◌, ℕ, Bool, false, ◌∙◌, sym, ap, subst, arith, inl, inr}
use Rattle.std.specs.Prelude.{IfErr, Result, IsTrue}
use Rattle.disk_trait.proofs.Calls.{moves_then}
use Rattle.disk_trait.specs.World.{WriteMoves}
use Rattle.std.proofs.lemmas.Bool.{cases_lt}
use Rattle.entry_model.specs.Entries.{Entry, IsLogged, entry_of, need}
use Rattle.gate_log.specs.Values.{value_of}
use Rattle.log_model.specs.Area.{start_of}
use Rattle.state_model.specs.Changes.{written}
use Rattle.table_model.specs.Tables.{filter_bytes_of}
use Rattle.store_core.specs.Answers.{WroteEntry}
use Rattle.store_core.specs.Framing.{IsBesideRecord, IsInUse, LeavesPlaces}
use Rattle.store_core.specs.Refusing.{IsWriteDue}
use Rattle.store_core.proofs.RecordsLeft.{flush_left, flush_own_left, flush_then_own_left, flush_then_record_left, own_left, record_left, small_need}
use Rattle.store_core.proofs.Framing.{leaves_none}
use Rattle.store_core.specs.StoreValue.{StoreValue}
use Rattle.store_core.specs.Represents.{Represents}
use Rattle.store_core.specs.declared.error.StoreError.{StoreError}
use Rattle.store_core.specs.declared.error.StoreError.TheVariants as error
use Rattle.store_core.proofs.FlushAnswers.{passed_on, wanted_room}
use Rattle.store_core.proofs.Refusals.{failure_due, fits_allowed, flush_allowed, flush_due, wanted_entry}
use Rattle.store_core.proofs.Stays.{flush_stays, room_taken, stopped_stays}
use Rattle.store_core.proofs.Ties.{short_of_logged}
use Rattle.store_core.proofs.Writing.{flush_failed, flush_then, kept_room, need_fits, need_over, never, tied_with, wrote_as, wrote_logged}
use Rattle.range_model.specs.Sources.{Sets}
use Rattle.store_core.proofs.Recorded.{entries_in}
use Rattle.store_core.proofs.store.Store.write.Goals as goal

pub returns-in_err-entry-clause-wrote : goal.returns-in_err-entry-clause-wrote
returns-in_err-entry-clause-wrote g c s tells tied =
    let spelling = g.F.RangeFilter.spelling in
    let bytes = filter_bytes_of g.F.RangeFilter.spelling g.F.RangeFilter.built_cutoff in
    let w = g.D.Disk.world c.args.disk.now in
    wanted_room spelling bytes _ s (written bytes s (Sets (entry_of c.args.key.now (value_of c.args.value)))) c.from_residual.result c.reserve_for.new.self w c.from_residual.ensures.1 (kept_room c.reserve_for.new.self c.self.inside.memory c.reserve_for.ensures.kept c.reserve_for.ensures.ranges c.reserve_for.ensures.range_spare) c.self.invariant.0
    (subst (λ (k : StoreValue). Represents spelling bytes k s w) (sym c.self.view_is) tied)

-- a test that fails
not_within : (size : ℕ) (test : Bool) → (size ≤ 262144 → IsTrue test) → test ≡ false → 262144 < size
not_within size test only fails = elim (cases_lt 262144 size) [
  | inl wide ↦ wide
  | inr within ↦ absurd (never test (only within) fails)
]

pub returns-then-fits-clause-wrote : goal.returns-then-fits-clause-wrote
returns-then-fits-clause-wrote g c s tells tied =
    let spelling = g.F.RangeFilter.spelling in
    let bytes = filter_bytes_of g.F.RangeFilter.spelling g.F.RangeFilter.built_cutoff in
    let old = g.D.Disk.world c.args.disk.now in
    let new = g.D.Disk.world c.append.new.disk in
    let e : Entry = c.in_ok-entry.entry in
    let same = c.in_ok-entry.ensures.prepared in
    let inside = subst (λ (k : StoreValue). Represents spelling bytes k s old) (sym c.self.view_is) tied in
    let within = subst (λ (n : ℕ). c.self.inside.log.filled + n ≤ 262144) (c.record_need.ensures ∙ sym (ap need same)) (c.fits.ensures.0 c.if-fits.true) in
    wrote_as spelling bytes s e (entry_of c.args.key.now (value_of c.args.value)) c.append.result c.append.new.self old new same
    (wrote_logged spelling bytes s e c.append.result c.append.new.self old new (short_of_logged e (subst IsLogged (sym same) c.requires.sound)) (need_fits c.self.inside.log.filled (need e) (entries_in s) inside.log within) c.append.ensures.failure
    (c.append.ensures.turns s tells (tied_with spelling bytes _ s old c.reserve_for.new.self (kept_room c.reserve_for.new.self c.self.inside.memory c.reserve_for.ensures.kept c.reserve_for.ensures.ranges c.reserve_for.ensures.range_spare) inside)))

pub returns-in_err-flush_memory-clause-wrote : goal.returns-in_err-flush_memory-clause-wrote
returns-in_err-flush_memory-clause-wrote g c s tells tied =
    let spelling = g.F.RangeFilter.spelling in
    let bytes = filter_bytes_of g.F.RangeFilter.spelling g.F.RangeFilter.built_cutoff in
    let old = g.D.Disk.world c.args.disk.now in
    let new = g.D.Disk.world c.flush_memory.new.disk in
    let x = entry_of c.args.key.now (value_of c.args.value) in
    let inside = subst (λ (k : StoreValue). Represents spelling bytes k s old) (sym c.self.view_is) tied in
    let wide = subst (λ (n : ℕ). 262144 < c.self.inside.log.filled + n) c.record_need.ensures (not_within (c.self.inside.log.filled + c.record_need.result) c.fits.result c.fits.ensures.1 c.if-fits.false) in
    subst (λ (r : Result (Unit {0}) StoreError). WroteEntry spelling bytes s (written bytes s (Sets x)) r c.flush_memory.new.self old new)
    (passed_on c.from_residual-in_err-flush_memory.result c.in_err-flush_memory.field-0.0 c.from_residual-in_err-flush_memory.ensures.1)
    (flush_failed spelling bytes s x (short_of_logged x c.requires.sound) (need_over c.self.inside.log.filled (need x) (entries_in s) inside.log inside.sound.log_fits wide) c.in_err-flush_memory.field-0.0 c.flush_memory.new.self old new
    (c.in_err-flush_memory.ensures.wrote s tells (tied_with spelling bytes _ s old c.reserve_for.new.self (kept_room c.reserve_for.new.self c.self.inside.memory c.reserve_for.ensures.kept c.reserve_for.ensures.ranges c.reserve_for.ensures.range_spare) inside)))

pub returns-clause-wrote : goal.returns-clause-wrote
returns-clause-wrote g c s tells tied =
    let spelling = g.F.RangeFilter.spelling in
    let bytes = filter_bytes_of g.F.RangeFilter.spelling g.F.RangeFilter.built_cutoff in
    let old = g.D.Disk.world c.args.disk.now in
    let flushed_at = g.D.Disk.world c.flush_memory.new.disk in
    let new = g.D.Disk.world c.append-2.new.disk in
    let e : Entry = c.in_ok-entry.entry in
    let same = c.in_ok-entry.ensures.prepared in
    let inside = subst (λ (k : StoreValue). Represents spelling bytes k s old) (sym c.self.view_is) tied in
    let wide = subst (λ (n : ℕ). 262144 < c.self.inside.log.filled + n) (c.record_need.ensures ∙ sym (ap need same))
    (not_within (c.self.inside.log.filled + c.record_need.result) c.fits.result c.fits.ensures.1 c.if-fits.false) in
    wrote_as spelling bytes s e (entry_of c.args.key.now (value_of c.args.value)) c.append-2.result c.append-2.new.self old new same
    (flush_then spelling bytes s e (short_of_logged e (subst IsLogged (sym same) c.requires.sound)) (need_over c.self.inside.log.filled (need e) (entries_in s) inside.log inside.sound.log_fits wide) c.in_ok-flush_memory.field-0 c.append-2.result
    c.flush_memory.new.self c.append-2.new.self old flushed_at new c.append-2.ensures.failure c.append-2.ensures.stopped
    (c.in_ok-flush_memory.ensures.wrote s tells (tied_with spelling bytes _ s old c.reserve_for.new.self (kept_room c.reserve_for.new.self c.self.inside.memory c.reserve_for.ensures.kept c.reserve_for.ensures.ranges c.reserve_for.ensures.range_spare) inside))
    (λ to tied_then. c.append-2.ensures.turns to tells tied_then))

pub returns-clause-moves : goal.returns-clause-moves
returns-clause-moves g c =
    let old = g.D.Disk.world c.args.disk.now in
    let flushed_at = g.D.Disk.world c.flush_memory.new.disk in
    let new = g.D.Disk.world c.append-2.new.disk in
    subst (λ (k : StoreValue). WriteMoves 0 (4096 * k.manifest.version.pages) old new) c.self.view_is
    (moves_then 0 (4096 * c.self.inside.version.version.pages) old flushed_at new c.flush_memory.ensures.moves
    (subst (λ (n : ℕ). WriteMoves 0 (4096 * n) flushed_at new) c.flush_memory.ensures.pages c.append-2.ensures.moves))

-- ---- what a refusal leaves

pub returns-in_err-entry-clause-stays : goal.returns-in_err-entry-clause-stays
returns-in_err-entry-clause-stays g c =
    room_taken c.from_residual.result _ c.args.self.now c.reserve_for.new.self c.self.view_is (kept_room c.reserve_for.new.self c.self.inside.memory c.reserve_for.ensures.kept c.reserve_for.ensures.ranges c.reserve_for.ensures.range_spare)

pub returns-then-fits-clause-stays : goal.returns-then-fits-clause-stays
returns-then-fits-clause-stays g c =
    stopped_stays c.append.result (g.D.Disk.world c.args.disk.now) (g.D.Disk.world c.append.new.disk) c.args.self.now c.append.new.self c.append.ensures.failure

pub returns-in_err-flush_memory-clause-stays : goal.returns-in_err-flush_memory-clause-stays
returns-in_err-flush_memory-clause-stays g c =
    let result = c.from_residual-in_err-flush_memory.result in
    let why = c.in_err-flush_memory.field-0.0 in
    flush_stays result why _ c.args.self.now c.flush_memory.new.self c.reserve_for.new.self (passed_on result why c.from_residual-in_err-flush_memory.ensures.1) c.self.view_is (kept_room c.reserve_for.new.self c.self.inside.memory c.reserve_for.ensures.kept c.reserve_for.ensures.ranges c.reserve_for.ensures.range_spare)
    c.in_err-flush_memory.ensures.stays

pub returns-clause-stays : goal.returns-clause-stays
returns-clause-stays g c =
    stopped_stays c.append-2.result (g.D.Disk.world c.flush_memory.new.disk) (g.D.Disk.world c.append-2.new.disk) c.args.self.now c.append-2.new.self c.append-2.ensures.failure

-- ---- when a limit or lack of room refuses it

pub returns-in_err-entry-clause-due : goal.returns-in_err-entry-clause-due
returns-in_err-entry-clause-due g c =
    wanted_entry (filter_bytes_of g.F.RangeFilter.spelling g.F.RangeFilter.built_cutoff) c.from_residual.result c.args.self.now (entry_of c.args.key.now (value_of c.args.value)) (g.D.Disk.world c.args.disk.now)
    (passed_on c.from_residual.result error.Memory c.from_residual.ensures.1)

pub returns-then-fits-clause-due : goal.returns-then-fits-clause-due
returns-then-fits-clause-due g c =
    let old = g.D.Disk.world c.args.disk.now in
    let new = g.D.Disk.world c.append.new.disk in
    failure_due (filter_bytes_of g.F.RangeFilter.spelling g.F.RangeFilter.built_cutoff) c.append.result c.args.self.now (entry_of c.args.key.now (value_of c.args.value)) old new old new c.append.ensures.failure

pub returns-in_err-flush_memory-clause-due : goal.returns-in_err-flush_memory-clause-due
returns-in_err-flush_memory-clause-due g c =
    let bytes = filter_bytes_of g.F.RangeFilter.spelling g.F.RangeFilter.built_cutoff in
    let old = g.D.Disk.world c.args.disk.now in
    let new = g.D.Disk.world c.flush_memory.new.disk in
    let x = entry_of c.args.key.now (value_of c.args.value) in
    let why = c.in_err-flush_memory.field-0.0 in
    let wide = subst (λ (n : ℕ). 262144 < c.self.inside.log.filled + n) c.record_need.ensures (not_within (c.self.inside.log.filled + c.record_need.result) c.fits.result c.fits.ensures.1 c.if-fits.false) in
    subst (λ (r : Result (Unit {0}) StoreError). IfErr r (IsWriteDue bytes c.args.self.now x old new)) (passed_on c.from_residual-in_err-flush_memory.result why c.from_residual-in_err-flush_memory.ensures.1)
    (flush_due bytes _ c.args.self.now c.reserve_for.new.self x old new why (short_of_logged x c.requires.sound) c.self.view_is c.reserve_for.ensures.kept wide c.in_err-flush_memory.ensures.due)

pub returns-clause-due : goal.returns-clause-due
returns-clause-due g c =
    let old = g.D.Disk.world c.args.disk.now in
    let flushed_at = g.D.Disk.world c.flush_memory.new.disk in
    let new = g.D.Disk.world c.append-2.new.disk in
    failure_due (filter_bytes_of g.F.RangeFilter.spelling g.F.RangeFilter.built_cutoff) c.append-2.result c.args.self.now (entry_of c.args.key.now (value_of c.args.value)) flushed_at new old new c.append-2.ensures.failure

-- ---- where none of them is met

pub returns-then-fits-clause-allowed : goal.returns-then-fits-clause-allowed
returns-then-fits-clause-allowed g c =
    let x = entry_of c.args.key.now (value_of c.args.value) in
    let within = subst (λ (n : ℕ). c.self.inside.log.filled + n ≤ 262144) c.record_need.ensures (c.fits.ensures.0 c.if-fits.true) in
    let seen = subst (λ (k : StoreValue). k.log.filled + need x ≤ 262144) c.self.view_is within in
    fits_allowed (filter_bytes_of g.F.RangeFilter.spelling g.F.RangeFilter.built_cutoff) c.append.result c.args.self.now x (short_of_logged x c.requires.sound) (λ wide. omega (arith, wide, seen))

pub returns-clause-allowed : goal.returns-clause-allowed
returns-clause-allowed g c =
    flush_allowed (filter_bytes_of g.F.RangeFilter.spelling g.F.RangeFilter.built_cutoff) c.append-2.result _ c.args.self.now c.reserve_for.new.self (entry_of c.args.key.now (value_of c.args.value))
    (short_of_logged (entry_of c.args.key.now (value_of c.args.value)) c.requires.sound) c.self.view_is c.reserve_for.ensures.kept
    c.in_ok-flush_memory.ensures.allowed

-- ---- what is left as it was

pub returns-in_err-entry-clause-frame : goal.returns-in_err-entry-clause-frame
returns-in_err-entry-clause-frame g c = leaves_none (IsInUse c.args.self.now.manifest c.args.self.now.log.filled) (g.D.Disk.world c.args.disk.now)

pub returns-then-fits-clause-frame : goal.returns-then-fits-clause-frame
returns-then-fits-clause-frame g c =
    let e : Entry = c.in_ok-entry.entry in
    let within = subst (λ (n : ℕ). c.self.inside.log.filled + n ≤ 262144) (c.record_need.ensures ∙ sym (ap need c.in_ok-entry.ensures.prepared)) (c.fits.ensures.0 c.if-fits.true) in
    let a = g.D.Disk.world c.args.disk.now in
    let b = g.D.Disk.world c.append.new.disk in
    subst (λ (k : StoreValue). LeavesPlaces (IsInUse k.manifest k.log.filled) a b) c.self.view_is (record_left _ c.self.invariant.0 (need e) within a b c.append.ensures.own)

pub returns-in_err-flush_memory-clause-frame : goal.returns-in_err-flush_memory-clause-frame
returns-in_err-flush_memory-clause-frame g c =
    let a = g.D.Disk.world c.args.disk.now in
    let b = g.D.Disk.world c.flush_memory.new.disk in
    subst (λ (k : StoreValue). LeavesPlaces (IsInUse k.manifest k.log.filled) a b) c.self.view_is (flush_left _ c.self.invariant.0 a b c.flush_memory.ensures.frame)

pub returns-clause-frame : goal.returns-clause-frame
returns-clause-frame g c =
    let e : Entry = c.in_ok-entry.entry in
    let a = g.D.Disk.world c.args.disk.now in
    let b = g.D.Disk.world c.flush_memory.new.disk in
    let d = g.D.Disk.world c.append-2.new.disk in
    let wide = subst (λ (n : ℕ). 262144 < c.self.inside.log.filled + n) (c.record_need.ensures ∙ sym (ap need c.in_ok-entry.ensures.prepared))
    (not_within (c.self.inside.log.filled + c.record_need.result) c.fits.result c.fits.ensures.1 c.if-fits.false) in
    subst (λ (k : StoreValue). LeavesPlaces (IsInUse k.manifest k.log.filled) a d) c.self.view_is
    (flush_then_record_left _ c.self.invariant.0 c.reserve_for.new.self c.reserve_for.ensures.kept c.flush_memory.new.self.log.area c.flush_memory.new.self.log.filled (need e) wide
    (subst (λ (x : Entry). need x ≤ 262144) (sym c.in_ok-entry.ensures.prepared) (small_need (entry_of c.args.key.now (value_of c.args.value)) c.requires.sound))
    c.in_ok-flush_memory.ensures.begun c.in_ok-flush_memory.ensures.other a b d c.flush_memory.ensures.frame c.append-2.ensures.own)

-- ---- and all but its own record

pub returns-in_err-entry-clause-own : goal.returns-in_err-entry-clause-own
returns-in_err-entry-clause-own g c =
    leaves_none (IsBesideRecord c.args.self.now.manifest c.args.self.now.log.filled (need (entry_of c.args.key.now (value_of c.args.value)))) (g.D.Disk.world c.args.disk.now)

pub returns-then-fits-clause-own : goal.returns-then-fits-clause-own
returns-then-fits-clause-own g c =
    let x = entry_of c.args.key.now (value_of c.args.value) in
    let within = subst (λ (n : ℕ). c.self.inside.log.filled + n ≤ 262144) c.record_need.ensures (c.fits.ensures.0 c.if-fits.true) in
    let a = g.D.Disk.world c.args.disk.now in
    let b = g.D.Disk.world c.append.new.disk in
    let written = subst (λ (y : Entry). WriteMoves (start_of c.self.inside.log.area + c.self.inside.log.filled) (need y) a b) c.in_ok-entry.ensures.prepared c.append.ensures.own in
    subst (λ (k : StoreValue). LeavesPlaces (IsBesideRecord k.manifest k.log.filled (need x)) a b) c.self.view_is (own_left _ c.self.invariant.0 (need x) within a b written)

pub returns-in_err-flush_memory-clause-own : goal.returns-in_err-flush_memory-clause-own
returns-in_err-flush_memory-clause-own g c =
    let x = entry_of c.args.key.now (value_of c.args.value) in
    let a = g.D.Disk.world c.args.disk.now in
    let b = g.D.Disk.world c.flush_memory.new.disk in
    subst (λ (k : StoreValue). LeavesPlaces (IsBesideRecord k.manifest k.log.filled (need x)) a b) c.self.view_is (flush_own_left _ c.self.invariant.0 (need x) a b c.flush_memory.ensures.frame)

pub returns-clause-own : goal.returns-clause-own
returns-clause-own g c =
    let x = entry_of c.args.key.now (value_of c.args.value) in
    let a = g.D.Disk.world c.args.disk.now in
    let b = g.D.Disk.world c.flush_memory.new.disk in
    let d = g.D.Disk.world c.append-2.new.disk in
    let wide = subst (λ (n : ℕ). 262144 < c.self.inside.log.filled + n) c.record_need.ensures
    (not_within (c.self.inside.log.filled + c.record_need.result) c.fits.result c.fits.ensures.1 c.if-fits.false) in
    let written = subst (λ (y : Entry). WriteMoves (start_of c.flush_memory.new.self.log.area + c.flush_memory.new.self.log.filled) (need y) b d) c.in_ok-entry.ensures.prepared c.append-2.ensures.own in
    subst (λ (k : StoreValue). LeavesPlaces (IsBesideRecord k.manifest k.log.filled (need x)) a d) c.self.view_is
    (flush_then_own_left _ c.self.invariant.0 c.reserve_for.new.self c.reserve_for.ensures.kept c.flush_memory.new.self.log.area c.flush_memory.new.self.log.filled (need x) wide (small_need x c.requires.sound)
    c.in_ok-flush_memory.ensures.begun c.in_ok-flush_memory.ensures.other a b d c.flush_memory.ensures.frame written)
