-- What a compaction answers: it is a step of the state under the store.
use Rattle.std.proofs.Common.{◌≡◌, ◌≢◌, ◌⊎◌, inl, inr, ◌∙◌, ◌<◌, ◌≤◌, ℕ, Bool, true, false, cond, List, [], ◌∷◌, ◌++◌, length, refl, sym, ap, ap₂, subst, arith}
use Rattle.std.specs.Prelude.{Option, None, Some, Result, Ok, Err, ◌==◌}
use Rattle.std.specs.List.{AllByRecursion}
use Rattle.disk_trait.specs.Image.{Image}
use Rattle.disk_trait.specs.World.{Meanwhile, Now, World}
use Rattle.disk_trait.proofs.Moments.{meanwhile_weaker, started}
use Rattle.disk_trait.specs.declared.fault.DiskFault.{DiskFault}
use Rattle.entry_model.specs.Entries.{IsEntry}
use Rattle.filter_api.specs.Spellings.{Spelling}
use Rattle.image_model.proofs.Frames.{ready_is_state}
use Rattle.image_model.specs.Stands.{StandsForMap}
use Rattle.key_base.specs.Limits.{last_epoch}
use Rattle.store_search.specs.TablesAgree.{TablesAgree}
use Rattle.line_model.specs.Replies.{LastEpoch, Reply}
use Rattle.line_model.specs.Replies as reply
use Rattle.line_model.specs.Requests.{Compact}
use Rattle.log_model.proofs.Logs.{none_filled}
use Rattle.manifest.specs.Manifest.{Manifest, other_place, place_of}
use Rattle.mem_table.specs.Table.{source_in}
use Rattle.state_model.proofs.EmptyStores.{compaction_left}
use Rattle.state_model.proofs.SoundCompaction.{compacted_sound}
use Rattle.state_model.proofs.SoundLogs.{changes_entries, logged_changes, source_none}
use Rattle.state_model.specs.Changes.{compact_placed, compacted_with}
use Rattle.state_model.specs.Merges.{NoRoom}
use Rattle.state_model.specs.Sound.{IsSound}
use Rattle.state_model.specs.State.{Job, State, without_job}
use Rattle.state_model.specs.Steps.{Answer, Step, answer, answers, done_or_refused, no_memory, read_failed, write_failed}
use Rattle.range_model.specs.Sources.{Change, Source, empty_source}
use Rattle.state_model.specs.View.{changes_of, oldest_first, state_map}
use Rattle.table_file.specs.Opened.{Opened}
use Rattle.table_model.specs.Tables.{FilterBytes, Table}
use Rattle.store_core.specs.Answers.{AnswersRequest, HasCause, stops, told}
use Rattle.store_core.specs.Compacting.{FailsSo, IsFailedCall, IsHeldBy, IsInstalledWhole, StandAlone, compact_tables, compacted_into}
use Rattle.store_search.specs.Caching.{AreNumbered, CacheAgrees, Cached}
use Rattle.store_core.specs.StoreValue.{IsConsistent, StoreValue}
use Rattle.store_core.specs.Running.{MayRunIn, RunsAs}
use Rattle.store_core.specs.Represents.{Represents, RepresentsOn}
use Rattle.store_core.specs.declared.error.StoreError.{StoreError}
use Rattle.store_core.specs.declared.error.StoreError.TheVariants as error
use Rattle.store_core.proofs.CompactLeads.{compacted_ok, compacted_so, some_entries}
use Rattle.store_core.proofs.CompactSlices.{none_open}
use Rattle.store_core.proofs.Dropped.{tied_dropped}
use Rattle.store_core.proofs.Frames.{are_slots}

-- ---- a compaction that is begun

module _ (spelling : Spelling) (bytes : FilterBytes) (store after : StoreValue) (s : State) (a b : World) (some : changes_of s ≢ []) (left : s.epoch ≢ last_epoch) where
  abbrev dropped : State
  dropped = without_job s

  abbrev Map : Image → Type 0
  Map = StandsForMap spelling (state_map s)

  -- the map of the state is that before it and that after it
  crash : Meanwhile (StandsForMap spelling (state_map s)) a b
      → Meanwhile (λ image. StandsForMap spelling (state_map s) image ⊎ StandsForMap spelling (state_map (answer bytes s Compact).1) image) a b
  crash meanwhile = meanwhile_weaker (StandsForMap spelling (state_map s)) _ a b meanwhile (λ image map. inl map)

  answer_so : (done : Result (List Table) NoRoom) → compact_tables bytes (without_job s) ≡ done → answer bytes s Compact ≡ done_or_refused (without_job s) (compact_placed s done)
  answer_so done is = ap (done_or_refused (without_job s)) (compacted_so bytes s some left ∙ ap (compact_placed s) is)

  -- ---- it is done

  module _ (m : Manifest) (opened : List Opened) (alone : StandAlone spelling bytes (without_job s) m opened b) (sound : IsSound bytes (compacted_into alone.tables (without_job s))) (none_kept : s.kept ≡ []) where
    done_is : answer bytes s Compact ≡ (reply.Done, compacted_into alone.tables (without_job s))
    done_is = answer_so (Ok alone.tables) alone.placed_so

    pub compact_done : Meanwhile (StandsForMap spelling (state_map s)) a b → after.manifest ≡ m → after.tables ≡ opened → after.job ≡ None → after.log.filled ≡ 0 → source_in after.memory ≡ empty_source
        → ((tables : List Table) → CacheAgrees after.blocks after.tables tables) → AnswersRequest spelling bytes s Compact (Some reply.Done) after a b
    compact_done meanwhile manifest_is tables_are none begun cleared are = record {
      reply = reply.Done;
      told_is = refl;
      after = compacted_into alone.tables (without_job s);
      step = subst (λ (w : Answer). Step (HasCause a b) bytes s Compact w.0 w.1) done_is answers;
      crash = crash meanwhile;
      kept = λ _ _. meanwhile;
      tied = λ _. record {
        sound = sound;
        none_kept = none_kept;
        images = λ image here.
            subst (λ (j : Option _). RepresentsOn spelling after.manifest after.tables j (compacted_into alone.tables (without_job s)) image) (sym none)
            (subst (λ (ts : List Opened). RepresentsOn spelling after.manifest ts None (compacted_into alone.tables (without_job s)) image) (sym tables_are)
            (subst (λ (n : Manifest). RepresentsOn spelling n opened None (compacted_into alone.tables (without_job s)) image) (sym manifest_is) (alone.images image here)));
        log = begun ∙ sym none_filled;
        memory = ap (λ (source : Source). source.entries) cleared;
        ranges = ap (λ (source : Source). source.ranges) cleared;
        blocks = are alone.tables;
      };
    }

  -- ---- it fails

  module _ (tied : Represents spelling bytes store (without_job s) a) (same_manifest : after.manifest ≡ store.manifest) (same_tables : after.tables ≡ store.tables) (same_job : after.job ≡ None) (same_log : after.log ≡ store.log)
      (same_memory : after.memory ≡ store.memory) (same_blocks : after.blocks ≡ store.blocks) (meanwhile : Meanwhile (StandsForMap spelling (state_map s)) a b) where
    tied_as : Now (RepresentsOn spelling store.manifest store.tables None (without_job s)) b → Represents spelling bytes after (without_job s) b
    tied_as here = record {
      sound = tied.sound;
      none_kept = tied.none_kept;
      images = λ image left_there.
          subst (λ (j : Option _). RepresentsOn spelling after.manifest after.tables j (without_job s) image) (sym same_job)
          (subst (λ (ts : List Opened). RepresentsOn spelling after.manifest ts None (without_job s) image) (sym same_tables)
          (subst (λ (n : Manifest). RepresentsOn spelling n store.tables None (without_job s) image) (sym same_manifest) (here image left_there)));
      log = ap (λ (p : _). p.filled) same_log ∙ tied.log;
      memory = ap (λ (m : _). m.entries) same_memory ∙ tied.memory;
      ranges = ap (λ (m : _). m.ranges) same_memory ∙ tied.ranges;
      blocks = subst (λ (b : Cached). CacheAgrees b after.tables s.tables) (sym same_blocks) (subst (λ (ts : List Opened). CacheAgrees store.blocks ts s.tables) (sym same_tables) tied.blocks);
    }

    ties : (why : StoreError) → (stops why ≡ false → Now (RepresentsOn spelling store.manifest store.tables None (without_job s)) b) → after.stopped ≡ stops why
        → after.stopped ≡ false → Represents spelling bytes after (without_job s) b
    ties why stays stopped runs = tied_as (stays (sym stopped ∙ runs))

    call_failed : (cause : DiskFault) → IsFailedCall bytes (without_job s) a b cause → (after.stopped ≡ false → Represents spelling bytes after (without_job s) b)
        → AnswersRequest spelling bytes s Compact (Some reply.Device) after a b
    call_failed cause (inl read) ties_so = record {
      reply = reply.Device;
      told_is = refl;
      after = without_job s;
      step = read_failed reply.Device refl ((some, left), read.1) read.0.1 refl;
      crash = crash meanwhile;
      kept = λ _ _. meanwhile;
      tied = ties_so;
    }
    call_failed cause (inr write) ties_so = record {
      reply = reply.Device;
      told_is = refl;
      after = without_job s;
      step = write_failed (without_job s) refl ((some, left), write.2) write.1 (record { settings = refl; pages = refl; no_job = refl; sound = tied.sound }) (inl refl);
      crash = crash meanwhile;
      kept = λ _ _. meanwhile;
      tied = ties_so;
    }

    full_is : (need gap : ℕ) → compact_tables bytes (without_job s) ≡ Err (record { need = need; gap = gap }) → answer bytes s Compact ≡ (reply.Full need gap, without_job s)
    full_is need gap is = answer_so (Err (record { need = need; gap = gap })) is

    pub compact_failed : (why : StoreError) → FailsSo spelling bytes store.manifest store.tables (without_job s) a b why → after.stopped ≡ stops why
        → AnswersRequest spelling bytes s Compact (told why) after a b
    compact_failed error.Memory fails stopped = record {
      reply = reply.Memory;
      told_is = refl;
      after = without_job s;
      step = no_memory refl (some, left) tt;
      crash = crash meanwhile;
      kept = λ _ _. meanwhile;
      tied = ties error.Memory fails.stays stopped;
    }
    compact_failed (error.Device cause) fails stopped = call_failed cause fails.cause (ties (error.Device cause) fails.stays stopped)
    compact_failed (error.Full need gap) fails stopped = record {
      reply = reply.Full need gap;
      told_is = refl;
      after = without_job s;
      step = subst (λ (w : Answer). Step (HasCause a b) bytes s Compact w.0 w.1) (full_is need gap fails.cause) answers;
      crash = crash meanwhile;
      kept = λ _ _. meanwhile;
      tied = ties (error.Full need gap) fails.stays stopped;
    }
    compact_failed error.Stopped fails stopped = absurd fails.cause
    compact_failed (error.Limit limit) fails stopped = absurd fails.cause
    compact_failed (error.Damaged damage) fails stopped = absurd fails.cause
    compact_failed error.NotAStore fails stopped = absurd fails.cause
    compact_failed error.AlreadyAStore fails stopped = absurd fails.cause
    compact_failed (error.BadSettings field) fails stopped = absurd fails.cause

-- ---- nothing is done

module _ (spelling : Spelling) (bytes : FilterBytes) (store : StoreValue) (s : State) (w : World) (slot : store.manifest.slot ≤ 1) (tied : Represents spelling bytes store s w) where
  under_map : (image : Image) → RepresentsOn spelling store.manifest store.tables store.job s image → StandsForMap spelling (state_map s) image
  under_map image under = (
    s,
    (store.manifest.version, ready_is_state spelling (place_of store.manifest.slot) (other_place store.manifest.slot) store.manifest.other_open store.manifest.version s image (are_slots store.manifest.slot slot) under.ready),
    refl,
  )

  still : Meanwhile (λ image. StandsForMap spelling (state_map s) image ⊎ StandsForMap spelling (state_map (answer bytes s Compact).1) image) w w
  still = started _ w (λ image here. inl (under_map image (tied.images image here)))

  -- on an empty store
  module _ (current : w.leaves w.moment w.seen.held) (no_memory : store.memory.entries ≡ []) (no_tables : store.tables ≡ []) where
    no_tables_held : (opened : List Opened) (tables : List Table) → opened ≡ [] → TablesAgree spelling opened tables w.seen.held → tables ≡ []
    no_tables_held [] [] none held = refl
    no_tables_held [] (t ∷ tables) none held = absurd held
    no_tables_held (o ∷ opened) tables none held = absurd cc

    tables_none : s.tables ≡ []
    tables_none = no_tables_held store.tables s.tables no_tables (tied.images w.seen.held current).tables

    entries_none : changes_of s ≡ []
    entries_none = ap₂ (λ (ts : List Table) (log : List Change). oldest_first ts ++ log) tables_none (source_none s.log tied.sound.log (sym tied.memory ∙ no_memory))

    empty_is : answer bytes s Compact ≡ (reply.Done, s)
    empty_is = ap (λ (changes : List Change). done_or_refused (without_job s) (compacted_with bytes s changes)) entries_none

    no_job : s.job ≡ None
    no_job = ap (λ (x : Answer). x.1.job) (sym empty_is) ∙ compaction_left bytes s (answer bytes s Compact).1 (answer bytes s Compact).0 tied.sound answers

    pub compact_empty : AnswersRequest spelling bytes s Compact (Some reply.Done) (record store { job = None }) w w
    compact_empty = record {
      reply = reply.Done;
      told_is = refl;
      after = s;
      step = subst (λ (x : Answer). Step (HasCause w w) bytes s Compact x.0 x.1) empty_is answers;
      crash = still;
      kept = λ other _. absurd (other refl);
      tied = λ _. record {
        sound = tied.sound;
        none_kept = tied.none_kept;
        images = λ image here.
            let under = tied.images image here in
            record { ready = under.ready; tables = under.tables; job = subst (λ (j : Option Job). RunsAs spelling store.tables None s j image) (sym no_job) tt };
        log = tied.log;
        memory = tied.memory;
        ranges = tied.ranges;
        blocks = tied.blocks;
      };
    }

  -- at the last epoch
  last_with : (changes : List Change) → changes ≢ [] → (s.epoch == last_epoch) ≡ true → compacted_with bytes s changes ≡ Err LastEpoch
  last_with [] some last = absurd (some refl)
  last_with (e ∷ more) some last = ap (λ (b : Bool). cond b (Err LastEpoch) (compact_placed s (compact_tables bytes (without_job s)))) last

  pub compact_last : (why : StoreError) → why ≡ error.Limit Rattle.store_core.specs.declared.error.Limit.TheVariants.Epoch → changes_of s ≢ [] → (s.epoch == last_epoch) ≡ true
      → AnswersRequest spelling bytes s Compact (told why) (record store { job = None }) w w
  compact_last why is some last =
      let answer_is : answer bytes s Compact ≡ (LastEpoch, without_job s) = ap (done_or_refused (without_job s)) (last_with (changes_of s) some last) in
      subst (λ (e : StoreError). AnswersRequest spelling bytes s Compact (told e) (record store { job = None }) w w) (sym is) (record {
        reply = LastEpoch;
        told_is = refl;
        after = without_job s;
        step = subst (λ (x : Answer). Step (HasCause w w) bytes s Compact x.0 x.1) answer_is answers;
        crash = still;
        kept = λ _ _. started _ w (λ image here. under_map image (tied.images image here));
        tied = λ _. tied_dropped spelling bytes store s w tied;
      })

-- ---- a store in which no merge runs

-- on a device that stands for its state
pub held_by : (spelling : Spelling) (bytes : FilterBytes) (store : StoreValue) (s : State) (w : World) → store.job ≡ None → Represents spelling bytes store (without_job s) w
    → IsHeldBy spelling bytes store.manifest store.tables store.memory.entries (without_job s) w
held_by spelling bytes store s w none tied = record {
  sound = tied.sound;
  no_job = refl;
  none_kept = tied.none_kept;
  images = λ image left. subst (λ (j : Option _). RepresentsOn spelling store.manifest store.tables j (without_job s) image) none (tied.images image left);
  memory = tied.memory;
}

module _ (spelling : Spelling) (bytes : FilterBytes) (store after : StoreValue) (s : State) (a b : World) (none : store.job ≡ None) (tied : Represents spelling bytes store (without_job s) a) (current : a.leaves a.moment a.seen.held)
    (premise : (store.memory.entries ≢ []) ⊎ (store.tables ≢ [])) (epoch : store.manifest.version.epoch < last_epoch) (meanwhile : Meanwhile (StandsForMap spelling (state_map s)) a b) where
  under : RepresentsOn spelling store.manifest store.tables store.job (without_job s) a.seen.held
  under = tied.images a.seen.held current

  some_are : changes_of s ≢ []
  some_are = some_entries bytes (without_job s) tied.sound (elim premise [
    | inl entry ↦ inl (λ empty. entry (tied.memory ∙ empty))
    | inr table ↦ inr (λ empty. table (none_open spelling a.seen.held store.tables s.tables under.tables empty))
  ])

  is_left : s.epoch ≢ last_epoch
  is_left last = let same : s.epoch ≡ store.manifest.version.epoch = under.ready.named.epoch in absurd (omega (arith, last, same, epoch))

  pub answered_done : StandAlone spelling bytes (without_job s) after.manifest after.tables b → after.job ≡ None → after.log.filled ≡ 0 → source_in after.memory ≡ empty_source
      → ((tables : List Table) → CacheAgrees after.blocks after.tables tables) → AnswersRequest spelling bytes s Compact (Some reply.Done) after a b
  answered_done alone gone begun cleared are =
      let sound = compacted_sound bytes (without_job s) (compacted_into alone.tables (without_job s)) tied.sound (compacted_ok bytes (without_job s) alone.tables refl some_are is_left alone.placed_so) in
      compact_done spelling bytes store after s a b some_are is_left after.manifest after.tables alone sound tied.none_kept meanwhile refl refl gone begun cleared are

  pub answered_failed : (why : StoreError) → FailsSo spelling bytes store.manifest store.tables (without_job s) a b why → after.stopped ≡ stops why
      → after.manifest ≡ store.manifest → after.tables ≡ store.tables → after.job ≡ None → after.log ≡ store.log → after.memory ≡ store.memory → after.blocks ≡ store.blocks
      → AnswersRequest spelling bytes s Compact (told why) after a b
  answered_failed why fails stopped manifest_is tables_are gone log_is memory_is blocks_is =
      compact_failed spelling bytes store after s a b some_are is_left tied manifest_is tables_are gone log_is memory_is blocks_is meanwhile why fails stopped

-- ---- whatever the device is

pub entries_sound : (store : StoreValue) → IsConsistent store → AllByRecursion IsEntry store.memory.entries
entries_sound store whole = subst (λ (source : Source). AllByRecursion IsEntry source.entries) (sym whole.changes.memory_is) (changes_entries whole.changes.changes (logged_changes whole.changes.changes whole.changes.sound))

pub compacted_whole : (after : StoreValue) (old : Manifest) → IsInstalledWhole old after.manifest after.tables after.log → source_in after.memory ≡ empty_source → after.job ≡ None → AreNumbered after.blocks (length after.tables) → IsConsistent after
compacted_whole after old is cleared gone numbered = record {
  version = is.version;
  slot = is.slot;
  rows = is.rows;
  area = is.area;
  changes = record { changes = []; sound = tt; fits = omega (arith, none_filled); filled_is = is.begun ∙ sym none_filled; memory_is = cleared };
  job = subst (MayRunIn after.manifest.version after.tables) (sym gone) tt;
  numbered = numbered;
}
