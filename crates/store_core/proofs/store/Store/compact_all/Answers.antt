use Rattle.std.proofs.Common.{◌≢◌, ◌⊎◌, ◌∙◌, [], length, refl, sym, ap, subst}
use Rattle.state_model.specs.State.{without_job}
use Rattle.table_model.specs.Tables.{filter_bytes_of}
use Rattle.store_search.specs.Caching.{AreNumbered, CacheAgrees, Cached, renumbered}
use Rattle.store_core.specs.Compacting.{FailsSo, IsHeldBy}
use Rattle.store_core.specs.Framing.{IsInUse, LeavesPlaces}
use Rattle.store_core.specs.Scans.{AreAllSound}
use Rattle.store_core.specs.StoreValue.{StoreValue}
use Rattle.store_search.proofs.Caches.{numbered_anew, true_anew}
use Rattle.store_core.proofs.CompactAnswers.{answered_done, answered_failed, compacted_whole, entries_sound, held_by}
use Rattle.range_model.specs.Sources.{empty_source}
use Rattle.store_core.proofs.Recorded.{same_source}
use Rattle.store_core.proofs.Stays.{stopped_or_stays}
use Rattle.store_core.proofs.store.Store.compact_all.Goals as goal

pub replace_all-requires-clause-entries : goal.replace_all-requires-clause-entries
replace_all-requires-clause-entries g c = entries_sound _ c.self.invariant.0

pub invariant_of-self : goal.invariant_of-self
invariant_of-self g c = (
  compacted_whole _ _ c.in-Ok.ensures.whole (same_source _ empty_source c.clear.ensures.empty c.clear.ensures.no_range) (ap (λ (k : StoreValue). k.job) c.self.view_is ∙ c.requires.none_runs)
      (subst (λ (b : Cached). AreNumbered b (length c.in-Ok.done.tables.tables)) (sym (c.renumber.ensures ∙ ap (renumbered c.self.inside.blocks) c.len.ensures))
      (numbered_anew c.self.inside.blocks (length c.self.inside.tables.tables) (length c.in-Ok.done.tables.tables) c.self.invariant.0.numbered)),
  c.self.invariant.1,
  tt,
)

pub returns-in-Ok-clause-answered : goal.returns-in-Ok-clause-answered
returns-in-Ok-clause-answered g c s tells tied =
    let spelling = g.F.RangeFilter.spelling in
    let bytes = filter_bytes_of g.F.RangeFilter.spelling g.F.RangeFilter.built_cutoff in
    let a = g.D.Disk.world c.args.disk.now in
    let b = g.D.Disk.world c.replace_all.new.disk in
    let held = subst (λ (k : StoreValue). IsHeldBy spelling bytes k.manifest k.tables k.memory.entries (without_job s) a) (sym c.self.view_is) (held_by spelling bytes c.args.self.now s a c.requires.none_runs tied) in
    let some = subst (λ (k : StoreValue). (k.memory.entries ≢ []) ⊎ (k.tables ≢ [])) (sym c.self.view_is) c.requires.some in
    answered_done spelling bytes c.args.self.now _ s a b c.requires.none_runs tied (g.met.D.Disk.current c.args.disk.now tells) c.requires.some c.requires.epoch (c.in-Ok.ensures.meanwhile (without_job s) tells held some)
    (c.in-Ok.ensures.done (without_job s) tells held some) (ap (λ (k : StoreValue). k.job) c.self.view_is ∙ c.requires.none_runs) c.in-Ok.ensures.whole.begun (same_source _ empty_source c.clear.ensures.empty c.clear.ensures.no_range)
    (λ ts. subst (λ (b : Cached). CacheAgrees b c.in-Ok.done.tables.tables ts) (sym (c.renumber.ensures ∙ ap (renumbered c.self.inside.blocks) c.len.ensures))
    (true_anew c.self.inside.blocks (length c.self.inside.tables.tables) c.in-Ok.done.tables.tables ts c.self.invariant.0.numbered))

pub returns-in-Err-clause-answered : goal.returns-in-Err-clause-answered
returns-in-Err-clause-answered g c s tells tied =
    let spelling = g.F.RangeFilter.spelling in
    let bytes = filter_bytes_of g.F.RangeFilter.spelling g.F.RangeFilter.built_cutoff in
    let a = g.D.Disk.world c.args.disk.now in
    let b = g.D.Disk.world c.replace_all.new.disk in
    let held = subst (λ (k : StoreValue). IsHeldBy spelling bytes k.manifest k.tables k.memory.entries (without_job s) a) (sym c.self.view_is) (held_by spelling bytes c.args.self.now s a c.requires.none_runs tied) in
    let some = subst (λ (k : StoreValue). (k.memory.entries ≢ []) ⊎ (k.tables ≢ [])) (sym c.self.view_is) c.requires.some in
    let fails = subst (λ (k : StoreValue). FailsSo spelling bytes k.manifest k.tables (without_job s) a b c.in-Err.why) c.self.view_is (c.in-Err.ensures.done (without_job s) tells held some) in
    answered_failed spelling bytes c.args.self.now _ s a b c.requires.none_runs tied (g.met.D.Disk.current c.args.disk.now tells) c.requires.some c.requires.epoch (c.in-Err.ensures.meanwhile (without_job s) tells held some)
    c.in-Err.why fails c.stops_store-self-inside.ensures (ap (λ (k : StoreValue). k.manifest) c.self.view_is) (ap (λ (k : StoreValue). k.tables) c.self.view_is) (ap (λ (k : StoreValue). k.job) c.self.view_is ∙ c.requires.none_runs)
    (ap (λ (k : StoreValue). k.log) c.self.view_is) (ap (λ (k : StoreValue). k.memory) c.self.view_is) (ap (λ (k : StoreValue). k.blocks) c.self.view_is)

pub returns-in-Err-clause-stays : goal.returns-in-Err-clause-stays
returns-in-Err-clause-stays g c runs =
    stopped_or_stays c.in-Err.why _ c.args.self.now _ c.self.inside.tables.tables c.self.view_is c.requires.running refl c.stops_store-self-inside.ensures runs

-- ---- what is left as it was

pub returns-in-Ok-clause-frame : goal.returns-in-Ok-clause-frame
returns-in-Ok-clause-frame g c = subst (λ (k : StoreValue). LeavesPlaces (IsInUse k.manifest 262144) (g.D.Disk.world c.args.disk.now) (g.D.Disk.world c.replace_all.new.disk)) c.self.view_is c.replace_all.ensures.frame

pub returns-in-Err-clause-frame : goal.returns-in-Err-clause-frame
returns-in-Err-clause-frame g c = subst (λ (k : StoreValue). LeavesPlaces (IsInUse k.manifest 262144) (g.D.Disk.world c.args.disk.now) (g.D.Disk.world c.replace_all.new.disk)) c.self.view_is c.replace_all.ensures.frame

-- ---- each block of its tables is sound

pub returns-in-Ok-clause-sound : goal.returns-in-Ok-clause-sound
returns-in-Ok-clause-sound g c tells = subst (λ (k : StoreValue). AreAllSound k.tables (g.D.Disk.world c.args.disk.now).seen.held) c.self.view_is (c.in-Ok.ensures.passed tells)
