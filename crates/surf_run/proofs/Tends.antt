-- What a merge slice of the store leads to.
use Rattle.std.proofs.Common.{◌≡◌, ◌⊎◌, inl, inr, ◌≤◌, ◌+◌, ◌*◌, ℕ, Bool, true, false, refl, sym, ap, ◌∙◌, subst, arith}
use Rattle.std.specs.Prelude.{Option, Some, Result, Ok, Err, MatchResult, IfErr, IsTrue}
use Rattle.block_model.specs.Pages.{page_bytes}
use Rattle.byte_fields.specs.declared.parts.Damage.{Damage}
use Rattle.disk_trait.specs.World.{Streams, World}
use Rattle.line_model.specs.Replies.{Damaged, Device, Full, LastEpoch, LongKey, LongValue, ManyTables, Memory}
use Rattle.lines_in.specs.Causes.{DiskFailed, EndCause, NoFall, WritesWithin}
use Rattle.lines_in.specs.declared.line_end.LineEnd.{LineEnd}
use Rattle.lines_in.specs.declared.line_end.LineEnd.TheVariants.{End, Next}
use Rattle.state_model.specs.Script.{AtDevice, Onward, Over, turn_of_slice}
use Rattle.state_model.specs.State.{State}
use Rattle.state_model.specs.Tends.{Idle, Refused, Tend, Tended, Worked}
use Rattle.state_model.specs.Tends as model
use Rattle.store_core.specs.Answers.{HasCause, stopped_by}
use Rattle.store_core.specs.StoreValue.{StoreValue}
use Rattle.store_core.specs.Scans.{IsScanShown}
use Rattle.store_core.specs.Represents.{Represents}
use Rattle.store_core.specs.declared.error.Limit.TheVariants as limit
use Rattle.store_core.specs.declared.error.StoreError.{StoreError}
use Rattle.store_core.specs.declared.error.StoreError.TheVariants as error
use Rattle.surf_run.specs.Answering.{RunsOn}
use Rattle.surf_run.specs.Causes.{SliceShows}
use Rattle.surf_run.specs.Kind.{Kind}
use Rattle.surf_run.specs.Refusals.{end_of_change}
use Rattle.surf_run.specs.Slices.{EndsSlice, MakesSlice}
use Rattle.store_core.specs.Tending.{IsTended, IsTendRefusal, SomeMoves, Tends, told_slice}
use Rattle.store_core.specs.declared.tending.Tended.{Tended as Told}
use Rattle.store_core.specs.declared.tending.Tended.TheVariants as told_as
use Rattle.surf_run.proofs.Moments.{tied_pages, tied_stands}
use Rattle.table_model.specs.Tables.{FilterBytes}

-- ---- no damage is met on a device that stands for a state

abbrev pub IsUnharmed : Tended → Type 0
IsUnharmed (Refused (Damaged damage)) = ⊥
IsUnharmed tended = Unit {0}

never_damaged : (a b : World) (filter_bytes : FilterBytes) (s : State) (tended : Tended) (after : State) → Tend (HasCause a b) filter_bytes s tended after → IsUnharmed tended
never_damaged a b filter_bytes s tended after d = elim d as (λ t new _. IsUnharmed t) [
  | model.idle none chosen ↦ tt
  | model.works job later runs on other more ↦ tt
  | model.installs job later runs on done epoch ↦ tt
  | model.last_epoch_reached job later runs on done epoch ↦ tt
  | model.no_room job later refusal runs on full ↦ tt
  | model.no_memory cause ↦ tt
  | model.read_failed job runs some cause ↦ tt
  | model.damage_met job damage runs some cause ↦ absurd cause
  | model.write_failed job new runs may cause left same ↦ tt
]

-- ---- what is known of its answer

-- the run goes on, or a call failed, or damage is met
abbrev pub IsSliceTold : Result Told StoreError → World → World → Tended → Type 0
IsSliceTold made a b told =
    ((Onward ≡ turn_of_slice told) × (stopped_by made ≡ false) × (end_of_change made ≡ Next))
    ⊎ ((Over AtDevice ≡ turn_of_slice told) × (end_of_change made ≡ End 4) × DiskFailed a b)
    ⊎ ((IsUnharmed told → ⊥) × (damage : Damage) × (made ≡ Err (error.Damaged damage)))

abbrev pub SliceTold : Result Told StoreError → World → World → Type 0
SliceTold made a b = (told : Tended) × (told_slice made ≡ Some told) × IsSliceTold made a b told

pub slice_told : (made : Result Told StoreError) (before after : StoreValue) (stopped : Bool) (epoch : ℕ) (a b : World) → stopped ≡ false
    → MatchResult made (IsTended before after a b) (IsTendRefusal stopped epoch a b) → SliceTold made a b
slice_told (Ok told_as.Worked) before after stopped epoch a b runs refused = (Worked, refl, inl (refl, refl, refl))
slice_told (Ok told_as.Idle) before after stopped epoch a b runs refused = (Idle, refl, inl (refl, refl, refl))
slice_told (Ok (told_as.Full need gap)) before after stopped epoch a b runs refused = (Refused (Full need gap), refl, inl (refl, refl, refl))
slice_told (Err error.Memory) before after stopped epoch a b runs refused = (Refused Memory, refl, inl (refl, refl, refl))
slice_told (Err (error.Device cause)) before after stopped epoch a b runs refused =
    (Refused Device, refl, inr (inl (refl, refl, elim refused.1 [ inl read ↦ inl read.1 | inr write ↦ inr write.1 ])))
slice_told (Err error.Stopped) before after stopped epoch a b runs refused = absurd (let is : true ≡ false = sym refused ∙ runs in cc)
slice_told (Err (error.Limit (limit.Key size))) before after stopped epoch a b runs refused = (Refused (LongKey size), refl, inl (refl, refl, refl))
slice_told (Err (error.Limit (limit.Value size))) before after stopped epoch a b runs refused = (Refused (LongValue size), refl, inl (refl, refl, refl))
slice_told (Err (error.Limit limit.Tables)) before after stopped epoch a b runs refused = (Refused ManyTables, refl, inl (refl, refl, refl))
slice_told (Err (error.Limit limit.Epoch)) before after stopped epoch a b runs refused = (Refused LastEpoch, refl, inl (refl, refl, refl))
slice_told (Err (error.Full need gap)) before after stopped epoch a b runs refused = absurd refused
slice_told (Err (error.Damaged damage)) before after stopped epoch a b runs refused = (Refused (Damaged damage), refl, inr (inr (λ never. never, damage, refl)))
slice_told (Err error.NotAStore) before after stopped epoch a b runs refused = absurd refused
slice_told (Err error.AlreadyAStore) before after stopped epoch a b runs refused = absurd refused
slice_told (Err (error.BadSettings field)) before after stopped epoch a b runs refused = absurd refused

same_told : (told_so : Option Tended) (x y : Tended) → told_so ≡ Some x → told_so ≡ Some y → x ≡ y
same_told told_so x y first then = let is = sym first ∙ then in cc

pub some_moves : (n : ℕ) (a b : World) → SomeMoves n a b → NoFall a b
some_moves n a b moves = record {
  read = moves.1.read_faults;
  write = moves.1.write_faults;
  take = omega (arith, ap (λ (s : Streams). s.take_faults) moves.1.beside);
  say = omega (arith, ap (λ (s : Streams). s.say_faults) moves.1.beside);
}

-- ---- the end of the line

module _ (kind : Kind) (made : Result Told StoreError) (end : LineEnd) (is : end ≡ end_of_change made) (before store : StoreValue) (a b : World) (told : SliceTold made a b)
    (runs : store.stopped ≡ stopped_by made) where
  slice_runs : RunsOn end store.stopped
  slice_runs = elim told.2 [
    | inl goes ↦ subst (λ (e : LineEnd). RunsOn e store.stopped) (sym (is ∙ goes.2)) (runs ∙ goes.1)
    | inr more ↦ elim more [
      | inl device ↦ subst (λ (e : LineEnd). RunsOn e store.stopped) (sym (is ∙ device.1)) tt
      | inr damaged ↦ subst (λ (e : LineEnd). RunsOn e store.stopped) (sym (is ∙ ap (λ (m : Result Told StoreError). end_of_change m) damaged.2)) tt
    ]
  ]

  slice_cause : (tells : Bool) → (IsTrue tells → IfErr made (IsScanShown store.tables b.seen.held)) → EndCause (SliceShows (IsTrue tells) store.tables) end a b
  slice_cause tells shown = elim told.2 [
    | inl goes ↦ subst (λ (e : LineEnd). EndCause (SliceShows (IsTrue tells) store.tables) e a b) (sym (is ∙ goes.2)) tt
    | inr more ↦ elim more [
      | inl device ↦ subst (λ (e : LineEnd). EndCause (SliceShows (IsTrue tells) store.tables) e a b) (sym (is ∙ device.1)) (inl (refl, device.2))
      | inr damaged ↦ subst (λ (e : LineEnd). EndCause (SliceShows (IsTrue tells) store.tables) e a b) (sym (is ∙ ap (λ (m : Result Told StoreError). end_of_change m) damaged.2))
          (inr (inl (
            refl,
            λ tell. record {
              damage = damaged.1;
              shown = subst (λ (m : Result Told StoreError). IfErr m (IsScanShown store.tables b.seen.held)) damaged.2 (shown tell);
            },
          )))
    ]
  ]

  module _ (s : State) (by : Tends kind.spelling kind.filter_bytes s (told_slice made) store a b) (few : store.manifest.slot ≤ 1) where
    said_so : IsSliceTold made a b by.tended
    said_so = subst (IsSliceTold made a b) (same_told (told_slice made) told.0 by.tended told.1 by.told_is) told.2

    slice_ends : EndsSlice kind end s store a b
    slice_ends = elim said_so [
      | inl goes ↦
          let held = by.tied (runs ∙ goes.1) in
          subst (λ (e : LineEnd). EndsSlice kind e s store a b) (sym (is ∙ goes.2))
          (by.tended, by.after, by.slice, goes.0, held, tied_stands kind store by.after b few held)
      | inr more ↦ elim more [
        | inl device ↦ subst (λ (e : LineEnd). EndsSlice kind e s store a b) (sym (is ∙ device.1)) (refl, by.tended, by.after, by.slice, device.0, by.tied)
        | inr damaged ↦ absurd (damaged.0 (never_damaged a b kind.filter_bytes s by.tended by.after by.slice))
      ]
    ]

-- ---- all that is promised of it

module _ (kind : Kind) (tells : Bool) (made : Result Told StoreError) (end : LineEnd) (is : end ≡ end_of_change made) (before store : StoreValue) (a b : World) (told : SliceTold made a b)
    (runs : store.stopped ≡ stopped_by made) (few : store.manifest.slot ≤ 1) (moves : SomeMoves (page_bytes * before.manifest.version.pages) a b)
    (shown : IsTrue tells → IfErr made (IsScanShown store.tables b.seen.held)) (current : IsTrue tells → a.leaves a.moment a.seen.held) (kept : store.manifest.version.pages ≡ before.manifest.version.pages) where
  pub slice_made : (most : ℕ) → ((s : State) → IsTrue tells → Represents kind.spelling kind.filter_bytes before s a → Tends kind.spelling kind.filter_bytes s (told_slice made) store a b)
      → ((s : State) → IsTrue tells → Represents kind.spelling kind.filter_bytes before s a → b.seen.reads ≤ a.seen.reads + most) → MakesSlice most kind tells end before store a b
  slice_made most answered reads = record {
    made = λ s tell tied.
        let by = answered s tell tied in
        record {
          ends = slice_ends kind made end is before store a b told runs s by few;
          crash = by.crash;
          reads = reads s tell tied;
          writes = subst (λ (n : ℕ). WritesWithin (page_bytes * n) a b) (sym (tied_pages kind.spelling kind.filter_bytes before s a a.seen.held (current tell) tied))
              (record { held = moves.1.torn; time = moves.1.time });
        };
    silent = moves.1.beside;
    running = slice_runs kind made end is before store a b told runs;
    cause = slice_cause kind made end is before store a b told runs tells shown;
    counts = some_moves (page_bytes * before.manifest.version.pages) a b moves;
    within = record { pages = kept; within = record { held = moves.1.torn; time = moves.1.time } };
  }
