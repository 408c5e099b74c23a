use Rattle.std.proofs.Common.{◌≡◌, ◌≢◌, ◌≤◌, ◌∙◌, [], refl, sym, ap, subst}
use Rattle.std.specs.Prelude.{ℕ, IfSome, OnErr, OnOk, Result, Ok, Err}
use Rattle.disk_trait.proofs.Calls.{reads_none}
use Rattle.manifest_model.specs.Version.{log_page_of}
use Rattle.state_model.specs.Changes.{flushed}
use Rattle.table_model.specs.Tables.{filter_bytes_of}
use Rattle.store_core.specs.Answers.{WroteEntry}
use Rattle.store_core.proofs.FlushAnswers.{nothing_to_flush}
use Rattle.store_core.proofs.Framing.{leaves_none}
use Rattle.store_core.proofs.Needs.{full_for}
use Rattle.store_core.specs.Flushing.{need_under}
use Rattle.store_core.specs.Framing.{IsInUse}
use Rattle.store_core.specs.Staying.{Stays}
use Rattle.store_core.specs.StoreValue.{IsConsistent, StoreValue}
use Rattle.store_core.proofs.Wholes.{begun_where_none}
use Rattle.store_core.proofs.Writing.{never}
use Rattle.store_core.proofs.store.Store.flush_memory.Goals as goal

at_ok : {T E P Q : Type 0} (r : Result T E) → (P → Q) → OnOk r P → OnOk r Q
at_ok (Ok x) weaker p = weaker p
at_ok (Err e) weaker p = tt

at_err : {T E P : Type 0} (r : Result T E) → P → OnErr r P
at_err (Ok x) p = tt
at_err (Err e) p = p

pub returns-then-is_empty-clause-wrote : goal.returns-then-is_empty-clause-wrote
returns-then-is_empty-clause-wrote g c s tells tied =
    nothing_to_flush g.F.RangeFilter.spelling (filter_bytes_of g.F.RangeFilter.spelling g.F.RangeFilter.built_cutoff) c.args.self.now s _ _
    (subst IsConsistent c.self.view_is c.self.invariant.0) tied (subst (λ (k : StoreValue). k.memory.entries ≡ []) c.self.view_is (c.is_empty.ensures.0 c.if-is_empty.true))

pub returns-then-is_empty-clause-begun : goal.returns-then-is_empty-clause-begun
returns-then-is_empty-clause-begun g c =
    begun_where_none c.args.self.now (subst IsConsistent c.self.view_is c.self.invariant.0) (subst (λ (k : StoreValue). k.memory.entries ≡ []) c.self.view_is (c.is_empty.ensures.0 c.if-is_empty.true))

pub returns-then-is_empty-clause-nothing : goal.returns-then-is_empty-clause-nothing
returns-then-is_empty-clause-nothing g c none = record { done = refl; same = refl; no_call = reads_none 0 (g.D.Disk.world c.args.disk.now) }

pub returns-then-is_empty-clause-allowed : goal.returns-then-is_empty-clause-allowed
returns-then-is_empty-clause-allowed g c some = absurd (some (subst (λ (k : StoreValue). k.memory.entries ≡ []) c.self.view_is (c.is_empty.ensures.0 c.if-is_empty.true)))

pub returns-then-is_empty-clause-frame : goal.returns-then-is_empty-clause-frame
returns-then-is_empty-clause-frame g c = leaves_none (IsInUse c.args.self.now.manifest 262144) (g.D.Disk.world c.args.disk.now)

pub returns-then-is_empty-clause-other : goal.returns-then-is_empty-clause-other
returns-then-is_empty-clause-other g c some = absurd (some (subst (λ (k : StoreValue). k.memory.entries ≡ []) c.self.view_is (c.is_empty.ensures.0 c.if-is_empty.true)))

-- ---- where there is something

pub flush_with-flushed-requires-clause-some : goal.flush_with-flushed-requires-clause-some
flush_with-flushed-requires-clause-some g c = subst (λ (k : StoreValue). k.memory.entries ≢ []) c.self.view_is (λ none. never c.is_empty.result (c.is_empty.ensures.1 none) c.if-is_empty.false)

pub flush_with-flushed-requires-clause-need : goal.flush_with-flushed-requires-clause-need
flush_with-flushed-requires-clause-need g c =
    let bytes = filter_bytes_of g.F.RangeFilter.spelling g.F.RangeFilter.built_cutoff in
    subst (λ (k : StoreValue). IfSome c.self.inside.need (λ (pages : ℕ). pages ≡ need_under bytes k.manifest.version k.memory.entries)) c.self.view_is c.self.invariant.2

pub keep_need-requires : goal.keep_need-requires
keep_need-requires g c =
    full_for (filter_bytes_of g.F.RangeFilter.spelling g.F.RangeFilter.built_cutoff) c.args.self.now c.flush_with-flushed.new.self (g.D.Disk.world c.args.disk.now) (g.D.Disk.world c.flush_with-flushed.new.disk) c.flush_with-flushed.result
    c.flush_with-flushed.ensures.due c.flush_with-flushed.ensures.stays

pub returns-clause-wrote : goal.returns-clause-wrote
returns-clause-wrote g c s tells tied =
    let spelling = g.F.RangeFilter.spelling in
    let bytes = filter_bytes_of spelling g.F.RangeFilter.built_cutoff in
    subst (λ (k : StoreValue). WroteEntry spelling bytes s (flushed bytes s) c.flush_with-flushed.result k (g.D.Disk.world c.args.disk.now) (g.D.Disk.world c.flush_with-flushed.new.disk)) (sym c.keep_need.ensures)
    (c.flush_with-flushed.ensures.wrote s tells tied)

pub returns-clause-due : goal.returns-clause-due
returns-clause-due g c = c.flush_with-flushed.ensures.due

pub returns-clause-allowed : goal.returns-clause-allowed
returns-clause-allowed g c = at_ok c.flush_with-flushed.result (λ may some. may) c.flush_with-flushed.ensures.allowed

pub returns-clause-nothing : goal.returns-clause-nothing
returns-clause-nothing g c none =
    absurd (never c.is_empty.result (c.is_empty.ensures.1 (subst (λ (k : StoreValue). k.memory.entries ≡ []) (sym c.self.view_is) none)) c.if-is_empty.false)

pub returns-clause-some : goal.returns-clause-some
returns-clause-some g c = at_err c.flush_with-flushed.result (λ none.
    never c.is_empty.result (c.is_empty.ensures.1 (subst (λ (k : StoreValue). k.memory.entries ≡ []) (sym c.self.view_is) none)) c.if-is_empty.false)

-- ---- the store that is left

pub returns-clause-stays : goal.returns-clause-stays
returns-clause-stays g c = subst (λ (k : StoreValue). Stays c.flush_with-flushed.result c.args.self.now k) (sym c.keep_need.ensures) c.flush_with-flushed.ensures.stays

pub returns-clause-stopped : goal.returns-clause-stopped
returns-clause-stopped g c = ap (λ (k : StoreValue). k.stopped) c.keep_need.ensures ∙ c.flush_with-flushed.ensures.stopped

pub returns-clause-empty : goal.returns-clause-empty
returns-clause-empty g c = at_ok c.flush_with-flushed.result (λ none. ap (λ (k : StoreValue). k.memory.entries) c.keep_need.ensures ∙ none) c.flush_with-flushed.ensures.empty

pub returns-clause-begun : goal.returns-clause-begun
returns-clause-begun g c = at_ok c.flush_with-flushed.result (λ begun. ap (λ (k : StoreValue). k.log.filled) c.keep_need.ensures ∙ begun) c.flush_with-flushed.ensures.begun

pub returns-clause-other : goal.returns-clause-other
returns-clause-other g c = at_ok c.flush_with-flushed.result (λ is some. is ∙ sym (ap (λ (k : StoreValue). log_page_of k.log.area) c.keep_need.ensures)) c.flush_with-flushed.ensures.other

pub returns-clause-pages : goal.returns-clause-pages
returns-clause-pages g c = ap (λ (k : StoreValue). k.manifest.version.pages) c.keep_need.ensures ∙ c.flush_with-flushed.ensures.pages

pub returns-clause-spare : goal.returns-clause-spare
returns-clause-spare g c = subst (λ (k : StoreValue). c.args.self.now.memory.spare ≤ k.memory.spare) (sym c.keep_need.ensures) c.flush_with-flushed.ensures.spare

pub returns-clause-frame : goal.returns-clause-frame
returns-clause-frame g c = c.flush_with-flushed.ensures.frame
