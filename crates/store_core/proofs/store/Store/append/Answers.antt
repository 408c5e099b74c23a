use Rattle.std.proofs.Common.{◌≡◌, ◌≤◌, ◌+◌, ◌*◌, ◌++◌, ◌∷◌, [], ◌∙◌, refl, sym, ap, subst, arith, true, List}
use Rattle.std.specs.Prelude.{Option}
use Rattle.disk_trait.specs.World.{WriteMoves}
use Rattle.entry_model.specs.Entries.{Entry, entry_of, need}
use Rattle.log_model.proofs.Logs.{all_push}
use Rattle.log_model.specs.Area.{start_of}
use Rattle.log_model.specs.Changes.{IsLoggedChange}
use Rattle.map_model.specs.SortedMap.{Bytes}
use Rattle.range_model.specs.Sources.{Sets, Source, with_change}
use Rattle.state_model.specs.View.{in_memory}
use Rattle.table_model.specs.Tables.{filter_bytes_of}
use Rattle.store_core.specs.StoreValue.{StoreValue}
use Rattle.store_core.specs.Represents.{Represents}
use Rattle.store_core.proofs.Ties.{append_done, append_fails, append_moves, filled_logged}
use Rattle.store_core.proofs.Recorded.{one_more, same_source}
use Rattle.entry_model.specs.Newest.{with_entry}
use Rattle.store_core.proofs.store.Store.append.Goals as goal
use Rattle.store_core.proofs.store.Store.append.Goals.{in-Some-1, in-None-1}

-- the memory with the entry
memory_set : (new old : Source) (e : Entry) → new.entries ≡ with_entry old.entries e → new.ranges ≡ old.ranges → new ≡ with_change old (Sets e)
memory_set new old e set kept = same_source new (with_change old (Sets e)) set kept

-- the entry of its own key and value
same_entry : (e : Entry) (key : Bytes) (value : Option Bytes) → key ≡ e.key → value ≡ e.value → entry_of key value ≡ e
same_entry e key value same_key same_value = ap (λ (k : Bytes). entry_of k value) same_key ∙ ap (entry_of e.key) same_value

pub invariant_of-self : goal.invariant_of-self
invariant_of-self g c =
    let whole = c.self.invariant.0 in
    let before = whole.changes in
    let e = c.args.entry in
    let same = same_entry e _ _ c.key.ensures c.value.ensures in
    let fits = subst (λ (k : StoreValue). k.log.filled + need e ≤ 262144) (sym c.self.view_is) c.requires.fits in
    let more = subst (λ (x : Entry). c.append.new.self.filled + 1 ≡ c.self.inside.log.filled + need x) same c.in-Ok.ensures.filled in
    let filled_is = filled_logged before.changes e c.self.inside.log.filled c.append.new.self.filled before.filled_is more in (
      record {
        version = whole.version;
        slot = whole.slot;
        rows = whole.rows;
        area = whole.area ∙ ap (λ (n : _). 64 * (n + 1)) (sym c.append.ensures.area);
        changes = record {
          changes = before.changes ++ Sets e ∷ [];
          sound = all_push IsLoggedChange before.changes (Sets e) before.sound c.requires.sound;
          fits = omega (arith, filled_is, more, fits);
          filled_is = filled_is;
          memory_is = memory_set _ _ e c.set.ensures.set c.set.ensures.ranges ∙ ap (λ (source : Source). with_change source (Sets e)) before.memory_is ∙ sym (one_more before.changes e);
        };
        job = whole.job;
        numbered = whole.numbered;
      },
      c.lengthen_for.ensures.room,
      tt,
    )

pub returns-in-Ok-clause-turns : goal.returns-in-Ok-clause-turns
returns-in-Ok-clause-turns g c s tells is =
    let spelling = g.F.RangeFilter.spelling in
    let bytes = filter_bytes_of g.F.RangeFilter.spelling g.F.RangeFilter.built_cutoff in
    let e = c.args.entry in
    let tied = subst (λ (k : StoreValue). Represents spelling bytes k s (g.D.Disk.world c.args.disk.now)) (sym c.self.view_is) is in
    let fits = subst (λ (k : StoreValue). k.log.filled + need e ≤ 262144) (sym c.self.view_is) c.requires.fits in
    append_done c.jobs_are_followed.ensures.image spelling bytes _ s e _ _ _ (same_entry e _ _ c.key.ensures c.value.ensures) tied c.self.invariant.0 fits c.append.ensures.moves _ _ _
    (c.in-Ok.ensures.crash s.log tells tied.log) refl refl refl refl c.in-Ok.ensures.filled
    (memory_set _ _ e c.set.ensures.set c.set.ensures.ranges ∙ ap (λ (source : Source). with_change source (Sets e)) (same_source _ (in_memory s) tied.memory tied.ranges)) c.requires.sound

pub returns-in-Ok-clause-moves : goal.returns-in-Ok-clause-moves
returns-in-Ok-clause-moves g c =
    let e = c.args.entry in
    let whole = c.self.invariant.0 in
    subst (λ (k : StoreValue). WriteMoves 0 (4096 * k.manifest.version.pages) (g.D.Disk.world c.args.disk.now) (g.D.Disk.world c.append.new.disk)) c.self.view_is
    (append_moves _ c.self.inside.log.area c.self.inside.log.filled e _ _ _ whole.version whole.area (same_entry e _ _ c.key.ensures c.value.ensures)
    (subst (λ (k : StoreValue). k.log.filled + need e ≤ 262144) (sym c.self.view_is) c.requires.fits) c.append.ensures.moves)

pub returns-in-Err-clause-turns : goal.returns-in-Err-clause-turns
returns-in-Err-clause-turns g c s tells is =
    let spelling = g.F.RangeFilter.spelling in
    let bytes = filter_bytes_of g.F.RangeFilter.spelling g.F.RangeFilter.built_cutoff in
    let e = c.args.entry in
    let tied = subst (λ (k : StoreValue). Represents spelling bytes k s (g.D.Disk.world c.args.disk.now)) (sym c.self.view_is) is in
    let fits = subst (λ (k : StoreValue). k.log.filled + need e ≤ 262144) (sym c.self.view_is) c.requires.fits in
    let stopped : c.match-entry.self.stopped ≡ true = elim c.match-entry.branch [ in-Some-1 w ↦ ap (λ (k : StoreValue). k.stopped) w.self-is | in-None-1 w ↦ ap (λ (k : StoreValue). k.stopped) w.self-is ] in
    append_fails c.jobs_are_followed.ensures.image spelling bytes _ s e _ _ _ (same_entry e _ _ c.key.ensures c.value.ensures) tied c.self.invariant.0 fits c.append.ensures.moves _ _ _
    (c.in-Err.ensures.crash s.log tells tied.log) stopped

pub returns-in-Err-clause-moves : goal.returns-in-Err-clause-moves
returns-in-Err-clause-moves g c =
    let e = c.args.entry in
    let whole = c.self.invariant.0 in
    subst (λ (k : StoreValue). WriteMoves 0 (4096 * k.manifest.version.pages) (g.D.Disk.world c.args.disk.now) (g.D.Disk.world c.append.new.disk)) c.self.view_is
    (append_moves _ c.self.inside.log.area c.self.inside.log.filled e _ _ _ whole.version whole.area (same_entry e _ _ c.key.ensures c.value.ensures)
    (subst (λ (k : StoreValue). k.log.filled + need e ≤ 262144) (sym c.self.view_is) c.requires.fits) c.append.ensures.moves)

-- ---- where it writes

pub returns-in-Ok-clause-own : goal.returns-in-Ok-clause-own
returns-in-Ok-clause-own g c =
    let e = c.args.entry in
    let a = g.D.Disk.world c.args.disk.now in
    let b = g.D.Disk.world c.append.new.disk in
    subst (λ (k : StoreValue). WriteMoves (start_of k.log.area + k.log.filled) (need e) a b) c.self.view_is
    (subst (λ (x : Entry). WriteMoves (start_of c.self.inside.log.area + c.self.inside.log.filled) (need x) a b) (same_entry e _ _ c.key.ensures c.value.ensures) c.append.ensures.moves)

pub returns-in-Err-clause-own : goal.returns-in-Err-clause-own
returns-in-Err-clause-own g c =
    let e = c.args.entry in
    let a = g.D.Disk.world c.args.disk.now in
    let b = g.D.Disk.world c.append.new.disk in
    subst (λ (k : StoreValue). WriteMoves (start_of k.log.area + k.log.filled) (need e) a b) c.self.view_is
    (subst (λ (x : Entry). WriteMoves (start_of c.self.inside.log.area + c.self.inside.log.filled) (need x) a b) (same_entry e _ _ c.key.ensures c.value.ensures) c.append.ensures.moves)
