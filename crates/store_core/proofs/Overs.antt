-- The memory entries of a state, with an entry over them where there is one, as they are flushed.
use Rattle.std.proofs.Common.{◌≡◌, ◌≢◌, inl, inr, ◌∙◌, ◌<◌, ◌≤◌, ◌+◌, ℕ, suc, Bool, true, false, cond, not, List, [], ◌∷◌, ◌++◌, length, refl, sym, ap, subst, arith}
use Rattle.std.specs.Prelude.{IfSome, Option, Some, None, nat_lt, ◌||◌, ◌==◌}
use Rattle.std.specs.Borrow.{Bor}
use Rattle.std.specs.List.{AllByRecursion, list_any}
use Rattle.block_model.specs.Block.{IsTable}
use Rattle.block_model.specs.Order.{is_any}
use Rattle.entry_model.specs.Entries.{Entry, IsEntry, put_entry}
use Rattle.entry_model.specs.Newest.{KeysRise, with_entry}
use Rattle.extent_model.proofs.Free.{gap_is_free}
use Rattle.extent_model.proofs.Lists.{all_pairs, pairs_of}
use Rattle.extent_model.specs.Extents.{AreApart}
use Rattle.extent_model.specs.Gaps.{first_gap}
use Rattle.filter_api.specs.declared.settings.Settings.{Settings}
use Rattle.key_base.specs.Limits.{last_epoch}
use Rattle.map_model.proofs.Maps.{by_order}
use Rattle.map_model.specs.SortedMap.{Bytes, in_place}
use Rattle.state_model.proofs.Places.{table_is_sound}
use Rattle.state_model.proofs.Sayings.{alone_is, rises_follow, source_sound}
use Rattle.state_model.proofs.SoundChanges.{next_epoch}
use Rattle.state_model.proofs.SoundLogs.{changes_entries, filled_none, logged_changes, over_is_table}
use Rattle.range_model.specs.Sources.{Sets, Source, alone, source_of}
use Rattle.state_model.specs.Merges.{Plan, cut_for, lasting_of, merged_of, on_level, planned}
use Rattle.state_model.specs.Sound.{AreMade, IsJob, IsSound, MayRun, StandsBefore, plan_of_job}
use Rattle.state_model.specs.State.{Job, State}
use Rattle.state_model.specs.Taken.{extent_of, taken}
use Rattle.state_model.specs.View.{memory}
use Rattle.table_model.specs.Tables.{FilterBytes, Table, table_of, table_pages}
use Rattle.store_core.specs.Flushing.{DiffersInLog, entries_with, over_of, state_with}
use Rattle.store_core.specs.StoreValue.{IsConsistent, StoreValue}
use Rattle.store_core.proofs.Flushes.{first_of_all, some_pages}
use Rattle.store_core.proofs.Recorded.{entries_in, no_range_with, one_more_made}
use Rattle.store_core.proofs.Wholes.{memory_table}
use Rattle.state_model.specs.WithoutRanges.{HasOnlyEntries}

-- ---- what is flushed

-- it differs from the state in its log alone
pub differs : (s : State) (over : Option Entry) → HasOnlyEntries s (entries_in s) → DiffersInLog s (state_with s over)
differs s None only = (refl, no_range_with s None only)
differs s (Some e) only = (refl, no_range_with s (Some e) only)

-- and its memory entries are those that are flushed
pub memory_with : (s : State) (over : Option Entry) → memory (state_with s over) ≡ entries_with (memory s) over
memory_with s None = refl
memory_with s (Some e) = one_more_made s.log e

pub flushed_entries_are : (s : State) (over : Option Entry) (entries : List Entry) → entries ≡ memory s → entries_with entries over ≡ memory (state_with s over)
flushed_entries_are s over entries are = ap (λ (es : List Entry). entries_with es over) are ∙ sym (memory_with s over)

pub over_is_entry : (over : Option (Bor Bytes × Bor Bytes)) → IfSome over (λ pair. IsEntry (put_entry pair.0.now pair.1.now)) → IfSome (over_of over) IsEntry
over_is_entry None is = tt
over_is_entry (Some pair) is = is

-- with an entry over them they are some
pub with_some : (entries : List Entry) (e : Entry) → with_entry entries e ≢ []
with_some [] e = λ none. cc
with_some (x ∷ more) e = by_order (λ o. in_place o e x more (with_entry more e) ≢ []) e.key x.key (λ _ none. cc) (λ _ none. cc) (λ _ none. cc)

some_length : (entries : List Entry) → entries ≢ [] → 1 ≤ length entries
some_length [] some = absurd (some refl)
some_length (e ∷ more) some = omega arith

module _ (store : StoreValue) (whole : IsConsistent store) where
  pub memory_rises : KeysRise store.memory.entries
  memory_rises = subst (λ (source : Source). KeysRise source.entries) (sym whole.changes.memory_is) (source_sound whole.changes.changes).rises

  pub memory_each : AllByRecursion IsEntry store.memory.entries
  memory_each =
      subst (λ (source : Source). AllByRecursion IsEntry source.entries) (sym whole.changes.memory_is)
      (changes_entries whole.changes.changes (logged_changes whole.changes.changes whole.changes.sound))

  -- they are a table
  pub flushed_table : (over : Option Entry) → IfSome over IsEntry → entries_with store.memory.entries over ≢ [] → IsTable (entries_with store.memory.entries over)
  flushed_table None is some = memory_table store whole some
  flushed_table (Some e) is some =
      let of = whole.changes in
      let same : (source_of (of.changes ++ Sets e ∷ [])).entries ≡ with_entry store.memory.entries e =
      one_more_made of.changes e ∙ ap (λ (source : Source). with_entry source.entries e) (sym of.memory_is) in
      subst IsTable same
      (over_is_table of.changes (Sets e) of.sound is of.fits (subst (λ (es : List Entry). 1 ≤ length es) (sym same) (some_length (with_entry store.memory.entries e) some))).entries

-- ---- a table more, in front of all

level_0 : (n : ℕ) → nat_lt n 0 ≡ false
level_0 n = grind arith

planned_again : (tables : List Table) (t : Table) (plan : Plan) → t.level ≡ 0 → planned tables plan ≡ planned (t ∷ tables) plan
planned_again tables t plan zero_level =
    let shallow : nat_lt plan.output t.level ≡ false = ap (nat_lt plan.output) zero_level ∙ level_0 plan.output in
    ap (λ (b : Bool). cut_for plan.inputs (lasting_of (not (b || list_any (λ (u : Table). nat_lt plan.output u.level) tables)) (merged_of plan.inputs))) (sym shallow)

job_behind : (filter_bytes : FilterBytes) (settings : Settings) (tables : List Table) (t : Table) (job : Option Job) → t.level ≡ 0 → MayRun filter_bytes settings tables job → MayRun filter_bytes settings (t ∷ tables) job
job_behind filter_bytes settings tables t None zero_level may = tt
job_behind filter_bytes settings tables t (Some job) zero_level is = record {
  flushes = suc is.flushes;
  few = let first : (t.level == 0) ≡ true = grind arith in
      subst (λ (b : Bool). suc is.flushes ≤ length (cond b (t ∷ on_level 0 tables) (on_level 0 tables))) (sym first) (omega (arith, is.few));
  chosen = is.chosen;
  to_read = is.to_read;
  written = subst (λ (outputs : List Source). AreMade filter_bytes settings job.output outputs job.written) (planned_again tables t (plan_of_job job) zero_level) is.written;
}

-- A sound state with a table of these entries at the first gap that holds it is sound, whether they are those of its memory or not.
pub placed_sound : (filter_bytes : FilterBytes) (s : State) (entries : List Entry) (page : ℕ) → IsSound filter_bytes s → IsTable entries → length s.tables < 1024 → s.epoch < last_epoch
    → first_gap s.pages (taken s) (table_pages filter_bytes s.settings entries) ≡ Some page
    → IsSound filter_bytes (record s { epoch = s.epoch + 1; log = []; tables = table_of filter_bytes s.settings 0 page entries ∷ s.tables })
placed_sound filter_bytes s entries page sound table few left gap =
    let t = table_of filter_bytes s.settings 0 page entries in
    let free = gap_is_free s.pages (taken s) (table_pages filter_bytes s.settings entries) page (some_pages filter_bytes s.settings entries) sound.on_device gap in
    record {
      settings = sound.settings;
      ratio = sound.ratio;
      device = sound.device;
      epoch = next_epoch s.epoch sound.epoch.1 (λ last. absurd (omega (arith, last, left)));
      log = tt;
      log_fits = omega (arith, filled_none);
      few = omega (arith, few);
      tables = (
        table_is_sound filter_bytes s.settings 0 page (alone entries) (omega arith) sound.settings sound.ratio
            (record { entries = table; source = alone_is entries (rises_follow is_any entries table.rising); bounds = tt }),
        sound.tables,
      );
      order = all_pairs StandsBefore (t ∷ s.tables) (first_of_all t s.tables refl, pairs_of StandsBefore s.tables sound.order);
      on_device = (free.0, sound.on_device);
      apart = all_pairs AreApart (extent_of t ∷ taken s) (free.1, pairs_of AreApart (taken s) sound.apart);
      job = job_behind filter_bytes s.settings s.tables t s.job refl sound.job;
    }
