-- A store as it is made is sound, and a flush and a change that is written keep soundness.
use Rattle.std.proofs.Common.{◌≡◌, ◌≢◌, inl, inr, ℕ, suc, ◌≤◌, ◌<◌, ◌+◌, List, [], ◌∷◌, ◌++◌, length, refl, sym, ap, ◌∙◌, subst, Bool, true, false, cond, map, arith}
use Rattle.std.specs.Prelude.{Option, Some, None, Result, Ok, Err, nat_le, nat_lt, not, ◌||◌, ◌==◌}
use Rattle.std.specs.List.{AllByRecursion, list_any}
use Rattle.std.proofs.lemmas.List.{length-map}
use Rattle.std.proofs.lemmas.Bool.{eqb-false}
use Rattle.block_model.proofs.Cutting.{all_append}
use Rattle.block_model.proofs.Lengths.{length-body}
use Rattle.key_base.specs.Limits.{last_epoch, max_tables}
use Rattle.state_model.proofs.Outputs.{placed_lists}
use Rattle.filter_api.specs.declared.settings.Settings.{Settings}
use Rattle.filter_api.specs.Ranges.{InRange}
use Rattle.entry_model.specs.Entries.{Entry, body, need, gap, IsEntry, IsLogged}
use Rattle.range_model.specs.Ranges.{DeletedRange}
use Rattle.range_model.specs.Sources.{Change, Clears, Sets, Source}
use Rattle.state_model.specs.Logs.{IsChange, IsLoggedChange, filled_by, gap_after, need_of, recorded}
use Rattle.state_model.specs.State.{State, Job, new_state}
use Rattle.table_model.specs.Tables.{FilterBytes, Table, as_source}
use Rattle.state_model.specs.View.{in_memory, memory}
use Rattle.state_model.specs.Taken.{extent_of, taken}
use Rattle.state_model.specs.Merges.{NoRoom, Plan, cut_for, lasting_of, merged_of, on_level, placed, planned}
use Rattle.state_model.specs.Changes.{with_tables, flush_placed, flushed_with, flushed, is_long, logged, logged_then, written}
use Rattle.line_model.specs.Replies.{Reply, ManyTables, LastEpoch}
use Rattle.extent_model.specs.Extents.{AreApart}
use Rattle.state_model.specs.Sound.{IsSoundTable, IsSound, StandsBefore, AreMade, IsJob, MayRun, plan_of_job}
use Rattle.extent_model.proofs.Lists.{pairs_of, all_pairs}
use Rattle.extent_model.proofs.Free.{Laid}
use Rattle.state_model.proofs.Places.{IsTableSource, table_is_sound, placed_laid}
use Rattle.state_model.proofs.Overs.{flushed_over, over_some}
use Rattle.state_model.proofs.SoundLogs.{memory_is_table, source_none, over_is_table, filled_none, filled_with}

not_le : (m n : ℕ) → nat_le m n ≡ false → n < m
not_le m n e = grind arith

le_of : (m n : ℕ) → nat_le m n ≡ true → m ≤ n
le_of m n e = grind arith

-- ---- a new store

le_last : (n : ℕ) → n < 18446744073709551616 → n ≤ last_epoch
unfolding last_epoch
le_last n l = omega arith

pub new_sound : (filter_bytes : FilterBytes) (settings : Settings) (pages : ℕ) → InRange settings → settings.ratio ≤ 65535 → 512 ≤ pages → pages ≤ 16777216 → IsSound filter_bytes (new_state settings pages)
new_sound filter_bytes settings pages ranges ratio least most = record {
  settings = ranges;
  ratio = ratio;
  device = (least, most);
  epoch = (omega arith, le_last 1 (omega arith));
  log = tt;
  log_fits = omega (arith, filled_none);
  few = omega arith;
  tables = tt;
  order = all_pairs StandsBefore [] tt;
  on_device = tt;
  apart = all_pairs AreApart [] tt;
  job = tt;
}

-- ---- a job of a state with the same settings

-- ---- flush

-- what is made where the change is done is sound
abbrev pub IfSound : FilterBytes → Result State Reply → Type 0
IfSound filter_bytes (Ok t) = IsSound filter_bytes t
IfSound filter_bytes (Err refusal) = Unit {0}

pub if_sound : (filter_bytes : FilterBytes) (done : Result State Reply) (t : State) → IfSound filter_bytes done → done ≡ Ok t → IsSound filter_bytes t
if_sound filter_bytes done t so e = subst (IfSound filter_bytes) e so

pub next_epoch : (n : ℕ) → n ≤ last_epoch → n ≢ last_epoch → (1 ≤ n + 1) × (n + 1 ≤ last_epoch)
next_epoch n l other = (omega arith, omega (arith, other))

level_0 : (n : ℕ) → nat_lt n 0 ≡ false
level_0 n = grind arith

-- a table of level 0 is before all
first_of_all : (t : Table) (tables : List Table) → t.level ≡ 0 → AllByRecursion (StandsBefore t) tables
first_of_all t [] zero_level = tt
first_of_all t (u ∷ more) zero_level = (
  elim (nat_lt 0 u.level) as (λ b. nat_lt 0 u.level ≡ b → StandsBefore t u) [
    | true ↦ λ e. inl (grind arith)
    | false ↦ λ e. inr (grind arith, inl zero_level)
  ] refl,
  first_of_all t more zero_level,
)

-- the state with one more table of level 0 in front, and an empty log
abbrev in_front : State → Table → State
in_front s t = record s { epoch = s.epoch + 1; log = []; tables = t ∷ s.tables }

planned_again : (tables : List Table) (t : Table) (plan : Plan) → t.level ≡ 0 → planned tables plan ≡ planned (t ∷ tables) plan
planned_again tables t plan zero_level =
    let shallow : nat_lt plan.output t.level ≡ false = ap (nat_lt plan.output) zero_level ∙ level_0 plan.output in
    ap (λ (b : Bool). cut_for plan.inputs (lasting_of (not (b || list_any (λ (u : Table). nat_lt plan.output u.level) tables)) (merged_of plan.inputs))) (sym shallow)

job_behind : (filter_bytes : FilterBytes) (settings : Settings) (tables : List Table) (t : Table) (job : Job) → t.level ≡ 0 → IsJob filter_bytes settings tables job → IsJob filter_bytes settings (t ∷ tables) job
job_behind filter_bytes settings tables t job zero_level is = record {
  flushes = suc is.flushes;
  few = let first : (t.level == 0) ≡ true = grind arith in
      subst (λ (b : Bool). suc is.flushes ≤ length (cond b (t ∷ on_level 0 tables) (on_level 0 tables))) (sym first) (omega (arith, is.few));
  chosen = is.chosen;
  to_read = is.to_read;
  written = subst (λ (outputs : List Source). AreMade filter_bytes settings job.output outputs job.written) (planned_again tables t (plan_of_job job) zero_level) is.written;
}

may_run_behind : (filter_bytes : FilterBytes) (settings : Settings) (tables : List Table) (t : Table) (job : Option Job) → t.level ≡ 0 → MayRun filter_bytes settings tables job → MayRun filter_bytes settings (t ∷ tables) job
may_run_behind filter_bytes settings tables t None zero_level may = tt
may_run_behind filter_bytes settings tables t (Some job) zero_level is = job_behind filter_bytes settings tables t job zero_level is

-- one more table in front of a sound state
front_sound : (filter_bytes : FilterBytes) (s : State) (t : Table) → IsSound filter_bytes s → t.level ≡ 0 → IsSoundTable t → s.epoch ≢ last_epoch → length s.tables < max_tables
    → Laid s.pages (extent_of t ∷ taken s) → IsSound filter_bytes (in_front s t)
front_sound filter_bytes s t sound zero_level table other few laid = record {
  settings = sound.settings;
  ratio = sound.ratio;
  device = sound.device;
  epoch = next_epoch s.epoch sound.epoch.1 other;
  log = tt;
  log_fits = omega (arith, filled_none);
  few = omega arith;
  tables = (table, sound.tables);
  order = all_pairs StandsBefore (t ∷ s.tables) (first_of_all t s.tables zero_level, pairs_of StandsBefore s.tables sound.order);
  on_device = laid.0;
  apart = all_pairs AreApart (extent_of t ∷ taken s) laid.1;
  job = may_run_behind filter_bytes s.settings s.tables t s.job zero_level sound.job;
}

with_tables_sound : (filter_bytes : FilterBytes) (s : State) (source : Source) (made : List Table) → IsSound filter_bytes s → IsTableSource source → length s.tables < max_tables
    → Laid s.pages (map extent_of made ++ taken s) → AreMade filter_bytes s.settings 0 (source ∷ []) made → length made ≡ 1 → IfSound filter_bytes (with_tables s (made ++ s.tables))
with_tables_sound filter_bytes s source [] sound table few laid are one = absurd (omega arith)
with_tables_sound filter_bytes s source (t ∷ u ∷ more) sound table few laid are one = absurd (omega arith)
with_tables_sound filter_bytes s source (t ∷ []) sound table few laid are one =
    elim (s.epoch == last_epoch) as (λ b. (s.epoch == last_epoch) ≡ b → IfSound filter_bytes (cond b (Err LastEpoch) (Ok (in_front s t)))) [
      | true ↦ λ _. tt
      | false ↦ λ e. front_sound filter_bytes s t sound (ap (λ (u : Table). u.level) are.0) (subst IsSoundTable (sym are.0)
          (table_is_sound filter_bytes s.settings 0 t.first_page source (omega arith) sound.settings sound.ratio table))
          (eqb-false s.epoch last_epoch e) few laid
    ] refl

flush_placed_sound : (filter_bytes : FilterBytes) (s : State) (source : Source) (done : Result (List Table) NoRoom) → IsSound filter_bytes s → IsTableSource source → length s.tables < max_tables
    → placed filter_bytes s.settings s.pages (taken s) 0 (source ∷ []) ≡ done → IfSound filter_bytes (flush_placed s done)
flush_placed_sound filter_bytes s source (Err refusal) sound table few e = tt
flush_placed_sound filter_bytes s source (Ok made) sound table few e =
    let laid = placed_laid filter_bytes s.settings s.pages (taken s) 0 (source ∷ []) made (table.entries.some, tt) (sound.on_device, pairs_of AreApart (taken s) sound.apart) e in
    let one = sym (length-map made as_source) ∙ ap (λ (l : List Source). length l) (placed_lists filter_bytes s (taken s) 0 (source ∷ []) made e) in
    with_tables_sound filter_bytes s source made sound table few laid.0 laid.1 one

flushed_with_sound : (filter_bytes : FilterBytes) (s : State) (source : Source) (entries : List Entry) → IsSound filter_bytes s → (1 ≤ length entries → IsTableSource source) → IfSound filter_bytes (flushed_with filter_bytes s source entries)
flushed_with_sound filter_bytes s source [] sound table = sound
flushed_with_sound filter_bytes s source (entry ∷ more) sound table =
    let done = placed filter_bytes s.settings s.pages (taken s) 0 (source ∷ []) in
    elim (nat_le max_tables (length s.tables)) as (λ b. nat_le max_tables (length s.tables) ≡ b → IfSound filter_bytes (cond b (Err ManyTables) (flush_placed s done))) [
      | true ↦ λ _. tt
      | false ↦ λ few. flush_placed_sound filter_bytes s source done sound (table (omega arith)) (not_le max_tables (length s.tables) few) refl
    ] refl

pub flushed_done : (filter_bytes : FilterBytes) (s : State) → IsSound filter_bytes s → IfSound filter_bytes (flushed filter_bytes s)
flushed_done filter_bytes s sound = flushed_with_sound filter_bytes s (in_memory s) (memory s) sound (memory_is_table s.log sound.log sound.log_fits)

pub flushed_sound : (filter_bytes : FilterBytes) (s t : State) → IsSound filter_bytes s → flushed filter_bytes s ≡ Ok t → IsSound filter_bytes t
flushed_sound filter_bytes s t sound e = if_sound filter_bytes (flushed filter_bytes s) t (flushed_done filter_bytes s sound) e

-- ---- the log after a flush

abbrev IfEmpty : Result State Reply → Type 0
IfEmpty (Ok t) = t.log ≡ []
IfEmpty (Err refusal) = Unit {0}

with_tables_empty : (s : State) (tables : List Table) → IfEmpty (with_tables s tables)
with_tables_empty s tables = elim (s.epoch == last_epoch) as (λ b. IfEmpty (cond b (Err LastEpoch) (Ok (record s { epoch = s.epoch + 1; log = []; tables = tables })))) [ true ↦ tt | false ↦ refl ]

flush_placed_empty : (s : State) (done : Result (List Table) NoRoom) → IfEmpty (flush_placed s done)
flush_placed_empty s (Ok made) = with_tables_empty s (made ++ s.tables)
flush_placed_empty s (Err refusal) = tt

flushed_with_empty : (filter_bytes : FilterBytes) (s : State) (entries : List Entry) → AllByRecursion IsLoggedChange s.log → memory s ≡ entries → IfEmpty (flushed_with filter_bytes s (in_memory s) entries)
flushed_with_empty filter_bytes s [] each e = source_none s.log each e
flushed_with_empty filter_bytes s (entry ∷ more) each e =
    let done = placed filter_bytes s.settings s.pages (taken s) 0 (in_memory s ∷ []) in
    elim (nat_le max_tables (length s.tables)) as (λ b. IfEmpty (cond b (Err ManyTables) (flush_placed s done))) [ true ↦ tt | false ↦ flush_placed_empty s done ]

-- ---- a change more

job_logged : (filter_bytes : FilterBytes) (s : State) (job : Option Job) → MayRun filter_bytes s.settings s.tables job → MayRun filter_bytes s.settings s.tables job
job_logged filter_bytes s None may = tt
job_logged filter_bytes s (Some job) is = record {
  flushes = is.flushes;
  few = is.few;
  chosen = is.chosen;
  to_read = is.to_read;
  written = is.written;
}

logged_sound : (filter_bytes : FilterBytes) (s : State) (change : Change) → IsSound filter_bytes s → IsLoggedChange change → filled_by s.log + length (body (recorded change)) + 1 < 262144 → IsSound filter_bytes (logged s change)
logged_sound filter_bytes s change sound is room = record {
  settings = sound.settings;
  ratio = sound.ratio;
  device = sound.device;
  epoch = sound.epoch;
  log = all_append IsLoggedChange s.log (change ∷ []) sound.log (is, tt);
  log_fits = omega (arith, filled_with s.log change);
  few = sound.few;
  tables = sound.tables;
  order = sound.order;
  on_device = sound.on_device;
  apart = sound.apart;
  job = job_logged filter_bytes s s.job sound.job;
}

body_bound : (change : Change) → IsLoggedChange change → length (body (recorded change)) ≤ 66567
body_bound (Sets entry) is = omega (arith, length-body entry, is.sound.short_key, is.short)
body_bound (Clears range) is = omega (arith, length-body (recorded (Clears range)), is.1.0.short, is.1.1.short)

room_left : (s : State) (change : Change) → need_of change ≤ gap_after s.log → filled_by s.log + length (body (recorded change)) + 1 < 262144
unfolding gap
room_left s change fits = omega arith

logged_then_sound : (filter_bytes : FilterBytes) (change : Change) (done : Result State Reply) → IsLoggedChange change → IfSound filter_bytes done → IfEmpty done → IfSound filter_bytes (logged_then change done)
logged_then_sound filter_bytes change (Err refusal) is sound empty = tt
logged_then_sound filter_bytes change (Ok t) is sound empty = logged_sound filter_bytes t change sound is (omega (arith, ap filled_by empty, filled_none, body_bound change is))

-- an entry over what is in memory, with this, is flushed
over_sound : (filter_bytes : FilterBytes) (s : State) (entry : Entry) → IsSound filter_bytes s → IsEntry entry → IfSound filter_bytes (flushed filter_bytes (logged s (Sets entry)))
over_sound filter_bytes s entry sound is = subst (IfSound filter_bytes) (sym (flushed_over filter_bytes s (Sets entry) (over_some s entry)))
    (flushed_with_sound filter_bytes s (in_memory (logged s (Sets entry))) (memory (logged s (Sets entry))) sound (over_is_table s.log (Sets entry) sound.log is sound.log_fits))

short_entry : (entry : Entry) → IsEntry entry → is_long entry ≡ false → IsLogged entry
short_entry entry is short = record { sound = is; short = grind arith }

short_done : (filter_bytes : FilterBytes) (s : State) (change : Change) → IsSound filter_bytes s → IsLoggedChange change
    → IfSound filter_bytes (cond (nat_le (need_of change) (gap_after s.log)) (Ok (logged s change)) (logged_then change (flushed filter_bytes s)))
short_done filter_bytes s change sound is = elim (nat_le (need_of change) (gap_after s.log)) as (λ b. nat_le (need_of change) (gap_after s.log) ≡ b → IfSound filter_bytes (cond b (Ok (logged s change)) (logged_then change (flushed filter_bytes s)))) [
  | true ↦ λ e. logged_sound filter_bytes s change sound is (room_left s change (le_of (need_of change) (gap_after s.log) e))
  | false ↦ λ _. logged_then_sound filter_bytes change (flushed filter_bytes s) is (flushed_done filter_bytes s sound) (flushed_with_empty filter_bytes s (memory s) sound.log refl)
] refl

-- a range is not long
short_range : (range : DeletedRange) → IsChange (Clears range) → is_long (recorded (Clears range)) ≡ false
short_range range is = let few = is.1.1.short in grind (arith, few)

pub written_done : (filter_bytes : FilterBytes) (s : State) (change : Change) → IsSound filter_bytes s → IsChange change → IfSound filter_bytes (written filter_bytes s change)
written_done filter_bytes s (Sets entry) sound is = elim (is_long entry) as (λ long. is_long entry ≡ long → IfSound filter_bytes
    (cond long (flushed filter_bytes (logged s (Sets entry))) (cond (nat_le (need entry) (gap_after s.log)) (Ok (logged s (Sets entry))) (logged_then (Sets entry) (flushed filter_bytes s))))) [
      | true ↦ λ _. over_sound filter_bytes s entry sound is
      | false ↦ λ short. short_done filter_bytes s (Sets entry) sound (short_entry entry is short)
    ] refl
written_done filter_bytes s (Clears range) sound is =
    subst (λ (long : Bool). IfSound filter_bytes (cond long (flushed filter_bytes (logged s (Clears range)))
    (cond (nat_le (need_of (Clears range)) (gap_after s.log)) (Ok (logged s (Clears range))) (logged_then (Clears range) (flushed filter_bytes s))))) (sym (short_range range is))
    (short_done filter_bytes s (Clears range) sound is)

pub written_sound : (filter_bytes : FilterBytes) (s t : State) (change : Change) → IsSound filter_bytes s → IsChange change → written filter_bytes s change ≡ Ok t → IsSound filter_bytes t
written_sound filter_bytes s t change sound is e = if_sound filter_bytes (written filter_bytes s change) t (written_done filter_bytes s change sound is) e
