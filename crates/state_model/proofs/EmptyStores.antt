-- A sound state without changes has no tables and no job, so a compaction leaves none.
use Rattle.std.proofs.Common.{◌≡◌, ℕ, zero, suc, ◌≤◌, List, [], ◌∷◌, ◌++◌, length, map, refl, sym, ap, ◌∙◌, true, false, cond, arith}
use Rattle.std.specs.Prelude.{Option, Some, None, Result, Ok, Err, ◌==◌, drop}
use Rattle.std.specs.List.{AllByRecursion}
use Rattle.std.proofs.lemmas.List.{length-append, length-map}
use Rattle.key_base.specs.Limits.{last_epoch}
use Rattle.state_model.specs.State.{State, Job, without_job}
use Rattle.table_model.specs.Tables.{FilterBytes, Table, as_source}
use Rattle.state_model.specs.View.{changes_of, oldest_first}
use Rattle.state_model.specs.Taken.{taken}
use Rattle.state_model.specs.Merges.{NoRoom, choose, placed}
use Rattle.state_model.specs.Changes.{compact_placed, compacted_with, compacted_outputs}
use Rattle.line_model.specs.Replies.{Reply, LastEpoch}
use Rattle.line_model.specs.Requests.{Compact}
use Rattle.state_model.specs.Steps.{done_or_refused, Step, answers, no_memory, read_failed, damage_met, write_failed}
use Rattle.state_model.specs.Sound.{IsSound, IsSoundTable, MayRun, plan_of_job}
use Rattle.state_model.specs.SoundLaws.{Ever}
use Rattle.range_model.specs.Sources.{Change, Sets, Clears, changes_in}

no_length : (xs ys : List Change) → xs ++ ys ≡ [] → 1 ≤ length ys → ⊥
no_length xs ys e some = let none : length (xs ++ ys) ≡ 0 = ap (λ (l : List Change). length l) e in absurd (omega (arith, length-append xs ys, none, some))

front_none : (xs ys : List Change) → xs ++ ys ≡ [] → xs ≡ []
front_none [] ys e = refl
front_none (x ∷ xs) ys e = absurd cc

some_changes : (t : Table) → IsSoundTable t → 1 ≤ length (changes_in (as_source t))
some_changes t is = omega (arith, length-append (map Clears t.ranges) (map Sets t.entries), length-map t.entries Sets, is.entries.some)

-- sound tables without changes are none
pub no_tables : (tables : List Table) → AllByRecursion IsSoundTable tables → oldest_first tables ≡ [] → tables ≡ []
no_tables [] sound e = refl
no_tables (t ∷ more) sound e = absurd (no_length (oldest_first more) (changes_in (as_source t)) e (some_changes t sound.0))

pub without_entries : (filter_bytes : FilterBytes) (s : State) → IsSound filter_bytes s → changes_of s ≡ [] → s.tables ≡ []
without_entries filter_bytes s sound e = no_tables s.tables sound.tables (front_none (oldest_first s.tables) s.log e)

drop_none : (n : ℕ) (tables : List Table) → tables ≡ [] → drop n tables ≡ []
drop_none zero tables e = e
drop_none (suc n) [] e = refl
drop_none (suc n) (t ∷ more) e = absurd cc

none_runs : (filter_bytes : FilterBytes) (s : State) (job : Option Job) → s.tables ≡ [] → MayRun filter_bytes s.settings s.tables job → job ≡ None
none_runs filter_bytes s None none may = refl
none_runs filter_bytes s (Some job) none is =
    let chosen : choose [] ≡ Some (plan_of_job job) = sym (ap choose (drop_none is.flushes s.tables none)) ∙ is.chosen in absurd cc

-- a compaction leaves no job
abbrev NoJob : State → Result State Reply → Type 0
NoJob old done = (done_or_refused (without_job old) done).1.job ≡ None

placed_no_job : (s : State) (done : Result (List Table) NoRoom) → NoJob s (compact_placed s done)
placed_no_job s (Ok made) = refl
placed_no_job s (Err refusal) = refl

compacted_no_job : (filter_bytes : FilterBytes) (s : State) (changes : List Change) → IsSound filter_bytes s → changes_of s ≡ changes → NoJob s (compacted_with filter_bytes s changes)
compacted_no_job filter_bytes s [] sound e = none_runs filter_bytes s s.job (without_entries filter_bytes s sound e) sound.job
compacted_no_job filter_bytes s (change ∷ more) sound e =
    let done = placed filter_bytes s.settings s.pages (taken (without_job s)) 6 (compacted_outputs s) in
    elim (s.epoch == last_epoch) as (λ b. NoJob s (cond b (Err LastEpoch) (compact_placed s done))) [ true ↦ refl | false ↦ placed_no_job s done ]

pub compaction_left : (filter_bytes : FilterBytes) (s after : State) (reply : Reply) → IsSound filter_bytes s → Step Ever filter_bytes s Compact reply after → after.job ≡ None
compaction_left filter_bytes s after reply sound d = elim d as (λ _ new _. new.job ≡ None) [
  | answers ↦ compacted_no_job filter_bytes s (changes_of s) sound refl
  | no_memory within takes cause ↦ refl
  | read_failed said within reads cause so ↦ refl
  | damage_met damage said within reads cause so ↦ refl
  | write_failed new within writes cause left same ↦ left.no_job
]
