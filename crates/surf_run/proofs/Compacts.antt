-- How a compaction is answered.
use Rattle.std.proofs.Common.{◌≡◌, ◌⊎◌, inl, inr, ◌≤◌, ◌*◌, ℕ, Bool, true, false, List, refl, sym, ap, ◌∙◌, subst}
use Rattle.std.specs.Prelude.{Some, None, Result, Ok, Err, IfErr, MatchResult, IsTrue}
use Rattle.block_model.specs.Pages.{page_bytes}
use Rattle.byte_fields.specs.declared.parts.Damage.{Damage}
use Rattle.disk_trait.specs.World.{Image, Streams, World}
use Rattle.line_model.specs.Replies.{Damaged, Device, Done, Full, LastEpoch, LongKey, LongValue, ManyTables, Memory, Reply}
use Rattle.line_model.specs.Requests.{Compact}
use Rattle.lines_in.specs.Causes.{LineMoves, SayFailed, WritesWithin}
use Rattle.lines_in.specs.Saying.{Says, end_by}
use Rattle.lines_in.specs.declared.line_end.LineEnd.{LineEnd}
use Rattle.lines_in.specs.declared.line_end.LineEnd.TheVariants.{End}
use Rattle.lines_in.proofs.EndCauses.{line_say, lines_on, no_fall_say}
use Rattle.outside.specs.Streams.{SaidByNow, SayMoves}
use Rattle.state_model.proofs.FaultsMet.{answer_plain, no_fault}
use Rattle.state_model.specs.State.{State}
use Rattle.state_model.specs.Steps.{Step, answer, answers, damage_met, no_memory, read_failed, write_failed}
use Rattle.store_core.specs.Answers as core
use Rattle.store_core.specs.Answers.{HasCause, IsTried, stopped_by, told_change}
use Rattle.store_core.specs.StoreValue.{StoreValue}
use Rattle.store_core.specs.Scans.{IsScanShown}
use Rattle.store_core.specs.Represents.{Represents}
use Rattle.store_core.specs.declared.error.Limit.TheVariants as limit
use Rattle.store_core.specs.declared.error.StoreError.{StoreError}
use Rattle.store_core.specs.declared.error.StoreError.TheVariants as error
use Rattle.surf_run.specs.Answering.{AnswersLine}
use Rattle.surf_run.specs.Causes.{LineShows, SaysDamage}
use Rattle.surf_run.specs.Kind.{Kind}
use Rattle.surf_run.specs.Refusals.{end_of_change}
use Rattle.store_core.specs.Compacting.{IsCompactRefusal}
use Rattle.store_core.specs.Tending.{SomeMoves}
use Rattle.surf_run.proofs.Calms.{says_damage}
use Rattle.surf_run.proofs.Changes.{ChangeTold, change_cause, change_ends, change_runs, some_same}
use Rattle.surf_run.proofs.Footprint.{pages_say}
use Rattle.surf_run.proofs.Tends.{some_moves}
use Rattle.table_file.specs.Opened.{Opened}
use Rattle.table_model.specs.Tables.{FilterBytes}

-- ---- no damage is met on a device that stands for a state

memory_other : (damage : Damage) → Memory ≡ Damaged damage → ⊥
memory_other damage is = absurd cc

device_other : (damage : Damage) → Device ≡ Damaged damage → ⊥
device_other damage is = absurd cc

never_told_damage : (a b : World) (filter_bytes : FilterBytes) (s : State) (reply : Reply) (after : State) → Step (HasCause a b) filter_bytes s Compact reply after
    → (damage : Damage) → reply ≡ Damaged damage → ⊥
never_told_damage a b filter_bytes s reply after d damage = elim d as (λ r _ _. r ≡ Damaged damage → ⊥) [
  | answers ↦ no_fault (answer filter_bytes s Compact).0 (Damaged damage) (answer_plain filter_bytes s Compact).0 refl
  | no_memory within takes cause ↦ memory_other damage
  | read_failed said within reads cause so ↦ λ e. device_other damage (sym so ∙ e)
  | damage_met met said within reads cause so ↦ λ e. absurd cause
  | write_failed new within writes cause left same ↦ device_other damage
]

-- ---- what is known of its answer

pub compact_told : {T : Type 0} (changed : Result T StoreError) (stopped : Bool) (epoch : ℕ) (a b : World) → stopped ≡ false
    → MatchResult changed (λ _. IsTried stopped None) (IsCompactRefusal stopped epoch a b) → ChangeTold changed a b
compact_told (Ok done) stopped epoch a b runs refused = (Done, refl, inr (inl (refl, refl, refl, refl)))
compact_told (Err error.Memory) stopped epoch a b runs refused = (Memory, refl, inr (inl (refl, refl, refl, refl)))
compact_told (Err (error.Device cause)) stopped epoch a b runs refused =
    (Device, refl, inl (refl, elim refused.1 [ inl read ↦ inl read.1 | inr write ↦ inr write.1 ], refl))
compact_told (Err error.Stopped) stopped epoch a b runs refused = absurd (let is : true ≡ false = sym refused ∙ runs in cc)
compact_told (Err (error.Limit (limit.Key size))) stopped epoch a b runs refused = (LongKey size, refl, inr (inl (refl, refl, refl, refl)))
compact_told (Err (error.Limit (limit.Value size))) stopped epoch a b runs refused = (LongValue size, refl, inr (inl (refl, refl, refl, refl)))
compact_told (Err (error.Limit limit.Tables)) stopped epoch a b runs refused = (ManyTables, refl, inr (inl (refl, refl, refl, refl)))
compact_told (Err (error.Limit limit.Epoch)) stopped epoch a b runs refused = (LastEpoch, refl, inr (inl (refl, refl, refl, refl)))
compact_told (Err (error.Full need gap)) stopped epoch a b runs refused = (Full need gap, refl, inr (inl (refl, refl, refl, refl)))
compact_told (Err (error.Damaged damage)) stopped epoch a b runs refused = (Damaged damage, refl, inr (inr (damage, refl)))
compact_told (Err error.NotAStore) stopped epoch a b runs refused = absurd refused
compact_told (Err error.AlreadyAStore) stopped epoch a b runs refused = absurd refused
compact_told (Err (error.BadSettings field)) stopped epoch a b runs refused = absurd refused

-- ---- the damage that it met

shown_so : (tables : List Opened) (image : Image) (damage other : Damage) → error.Damaged damage ≡ error.Damaged other → IsScanShown tables image (error.Damaged damage)
    → IsScanShown tables image (error.Damaged other)
shown_so tables image damage other same shown = subst (IsScanShown tables image) same shown

module _ {T : Type 0} (changed : Result T StoreError) (damage : Damage) (is : changed ≡ Err (error.Damaged damage)) where
  told_damage : told_change changed ≡ Some (Damaged damage)
  told_damage = ap (λ (c : Result T StoreError). told_change c) is

  told_other : (reply : Reply) → told_change changed ≡ Some reply → reply ≡ Damaged damage
  told_other reply told = some_same (told_change changed) reply (Damaged damage) told told_damage

module _ {T : Type 0} (tables : List Opened) (changed : Result T StoreError) (damage : Damage) (is : changed ≡ Err (error.Damaged damage)) (result : LineEnd) (mid b : World) (seen : b.seen ≡ mid.seen)
    (shown : IfErr changed (IsScanShown tables mid.seen.held)) (says : (reply : Reply) → told_change changed ≡ Some reply → Says (end_by reply) reply result mid b) where
  shown_there : IsScanShown tables mid.seen.held (error.Damaged damage)
  shown_there = subst (λ (c : Result T StoreError). IfErr c (IsScanShown tables mid.seen.held)) is shown

  compact_shows : result ≡ End 5 → SaysDamage tables Compact b
  compact_shows five =
      says_damage tables Compact (error.Damaged damage) result mid.seen.held mid b (λ other same. shown_so tables mid.seen.held damage other same shown_there) refl seen
      (λ reply told. says reply (told_damage changed damage is ∙ told)) refl five

-- ---- all that is promised of it

module _ {T : Type 0} (kind : Kind) (tells tells_output : Bool) (changed : Result T StoreError) (before store : StoreValue) (result : LineEnd) (a mid b : World)
    (told : ChangeTold changed a mid) (runs : store.stopped ≡ stopped_by changed) (few : store.manifest.slot ≤ 1) (moves : SomeMoves (page_bytes * before.manifest.version.pages) a mid)
    (now_a : SaidByNow a) (now_mid : SaidByNow mid) (say : SayMoves mid b) (ends : (result ≡ end_of_change changed) ⊎ ((result ≡ End 6) × SayFailed mid b)) where
  moved : LineMoves a mid
  moved = record { input = ap (λ (s : Streams). s.to_take) moves.1.beside; counts = some_moves (page_bytes * before.manifest.version.pages) a mid moves }

  within : WritesWithin (page_bytes * before.manifest.version.pages) a mid
  within = record { held = moves.1.torn; time = moves.1.time }

  pub compact_answers : ((s : State) → IsTrue tells → Represents kind.spelling kind.filter_bytes before s a → core.AnswersRequest kind.spelling kind.filter_bytes s Compact (told_change changed) store a mid)
      → ((reply : Reply) → IsTrue tells_output → told_change changed ≡ Some reply → Says (end_by reply) reply result mid b) → (IsTrue tells → a.leaves a.moment a.seen.held)
      → (IsTrue tells → IfErr changed (IsScanShown before.tables mid.seen.held)) → store.manifest.version.pages ≡ before.manifest.version.pages
      → AnswersLine kind tells tells_output Compact result before store a b
  compact_answers answered says current shown kept = record {
    answered = λ s tell output tied.
        let by = answered s tell tied in
        change_ends kind s Compact changed before store result a mid b tied by told
        (λ damage is. never_told_damage a mid kind.filter_bytes s by.reply by.after by.step damage (told_other changed damage is by.reply by.told_is))
        runs few moves.1.beside (λ never. absurd never) within now_a now_mid say (λ reply is. says reply output is) a.seen.held (current tell);
    running = change_runs changed result a mid b told ends store.stopped runs;
    cause = change_cause changed result a mid b told ends (LineShows (IsTrue tells × IsTrue tells_output) before.tables Compact) moved.counts (no_fall_say mid b say)
        (λ damage is five both. compact_shows before.tables changed damage is result mid b say.seen (shown both.0) (λ reply told. says reply both.1 told) five);
    moves = lines_on a mid b moved (line_say mid b say);
    within = pages_say before store a mid b (record { pages = kept; within = within }) say;
  }
