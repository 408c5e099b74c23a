-- A compaction keeps soundness.
use Rattle.std.proofs.Common.{◌≡◌, ◌≢◌, List, [], ◌∷◌, ◌++◌, length, refl, sym, ap, ◌∙◌, subst, true, false, cond, arith}
use Rattle.std.specs.Prelude.{Result, Ok, Err, ◌==◌}
use Rattle.std.specs.List.{AllByRecursion}
use Rattle.std.proofs.lemmas.Bool.{eqb-false}
use Rattle.std.proofs.lemmas.List.{append_assoc, length-map}
use Rattle.range_model.specs.Sources.{Change, Source, alone}
use Rattle.range_model.specs.Laws.{LieApart}
use Rattle.state_model.specs.Logs.{IsChange}
use Rattle.key_base.specs.Limits.{last_epoch}
use Rattle.state_model.specs.State.{State, without_job}
use Rattle.table_model.specs.Tables.{FilterBytes, Table, as_source}
use Rattle.state_model.specs.View.{changes_of, oldest_first}
use Rattle.state_model.specs.Taken.{taken}
use Rattle.state_model.specs.Merges.{NoRoom, placed}
use Rattle.state_model.specs.Changes.{compact_placed, compacted_outputs, compacted_with, compacted, live_entries}
use Rattle.line_model.specs.Replies.{LastEpoch}
use Rattle.extent_model.specs.Extents.{AreApart}
use Rattle.state_model.specs.Sound.{IsSound, StandsBefore}
use Rattle.extent_model.proofs.Lists.{all_pairs}
use Rattle.state_model.proofs.Taken.{all_join}
use Rattle.state_model.proofs.Outputs.{cut_apart, cut_few, cut_some, placed_lists}
use Rattle.state_model.proofs.Disjoint.{rising_order}
use Rattle.state_model.proofs.Orders.{all_out_of, pairs_out_of}
use Rattle.state_model.proofs.Places.{Stand, OnDevice, Clear, laid_tables, placed_stand}
use Rattle.state_model.proofs.SoundLogs.{logged_changes, filled_none}
use Rattle.state_model.proofs.SoundChanges.{IfSound, if_sound, next_epoch}
use Rattle.state_model.proofs.SoundJobs.{taken_tables, sound_stand, drop_sound}
use Rattle.state_model.proofs.SoundOutputs.{cut_outputs, lasting_bounded, made_at, made_sound, tables_changes}

state_changes : (filter_bytes : FilterBytes) (s : State) → IsSound filter_bytes s → AllByRecursion IsChange (changes_of s)
state_changes filter_bytes s sound = all_join IsChange (oldest_first s.tables) s.log (tables_changes s.tables sound.tables) (logged_changes s.log sound.log)

compact_placed_sound : (filter_bytes : FilterBytes) (s : State) (done : Result (List Table) NoRoom) → IsSound filter_bytes s → s.epoch ≢ last_epoch
    → placed filter_bytes s.settings s.pages (taken (without_job s)) 6 (compacted_outputs s) ≡ done → IfSound filter_bytes (compact_placed s done)
compact_placed_sound filter_bytes s (Err refusal) sound other e = tt
compact_placed_sound filter_bytes s (Ok made) sound other e =
    let outputs = compacted_outputs s in
    let live = lasting_bounded true (changes_of s) (state_changes filter_bytes s sound) in
    let put = placed_stand filter_bytes s.settings s.pages (taken_tables (without_job s)) 6 outputs made (cut_some s.tables (alone (live_entries s))) (sound_stand filter_bytes (without_job s) (drop_sound filter_bytes s sound)) e in
    let lists = placed_lists filter_bytes s (taken (without_job s)) 6 outputs made e in
    let many : length made ≡ length outputs = sym (length-map made as_source) ∙ ap (λ (l : List Source). length l) lists in
    let stand = subst (Stand s.pages) (sym (append_assoc made (s.tables ++ []) s.kept)) put.0 in
    let left : Stand s.pages ((made ++ []) ++ s.kept) = (all_out_of (OnDevice s.pages) made (s.tables ++ []) s.kept stand.0, pairs_out_of Clear made (s.tables ++ []) s.kept stand.1) in
    let laid = laid_tables s.pages ((made ++ []) ++ s.kept) left in
    let on = (all_front (OnDevice s.pages) made (taken_tables (without_job s)) put.0.0) in
    let order = rising_order 6 made (made_at filter_bytes s.settings 6 outputs made put.1) (subst LieApart (sym lists) (cut_apart s.tables (alone (live_entries s)) live.source)) in
    record {
      settings = sound.settings;
      ratio = sound.ratio;
      device = sound.device;
      epoch = next_epoch s.epoch sound.epoch.1 other;
      log = tt;
      log_fits = omega (arith, filled_none);
      few = omega (arith, many, cut_few s.tables (alone (live_entries s)), sound.few);
      tables = made_sound filter_bytes s.settings 6 s.pages outputs made (omega arith) sound.settings sound.ratio sound.device.1 put.1 on (cut_outputs s.tables (alone (live_entries s)) live);
      order = all_pairs StandsBefore made order;
      on_device = laid.0;
      apart = all_pairs AreApart _ laid.1;
      job = tt;
    }
  where
    all_front : {X : Type 0} (P : X → Type 0) (xs ys : List X) → AllByRecursion P (xs ++ ys) → AllByRecursion P xs
    all_front P [] ys all = tt
    all_front P (x ∷ xs) ys all = (all.0, all_front P xs ys all.1)

compacted_with_sound : (filter_bytes : FilterBytes) (s : State) (changes : List Change) → IsSound filter_bytes s → IfSound filter_bytes (compacted_with filter_bytes s changes)
compacted_with_sound filter_bytes s [] sound = sound
compacted_with_sound filter_bytes s (change ∷ more) sound =
    let done = placed filter_bytes s.settings s.pages (taken (without_job s)) 6 (compacted_outputs s) in
    elim (s.epoch == last_epoch) as (λ b. (s.epoch == last_epoch) ≡ b → IfSound filter_bytes (cond b (Err LastEpoch) (compact_placed s done))) [
      | true ↦ λ _. tt
      | false ↦ λ e. compact_placed_sound filter_bytes s done sound (eqb-false s.epoch last_epoch e) refl
    ] refl

pub compacted_done : (filter_bytes : FilterBytes) (s : State) → IsSound filter_bytes s → IfSound filter_bytes (compacted filter_bytes s)
compacted_done filter_bytes s sound = compacted_with_sound filter_bytes s (changes_of s) sound

pub compacted_sound : (filter_bytes : FilterBytes) (s t : State) → IsSound filter_bytes s → compacted filter_bytes s ≡ Ok t → IsSound filter_bytes t
compacted_sound filter_bytes s t sound e = if_sound filter_bytes (compacted filter_bytes s) t (compacted_done filter_bytes s sound) e
