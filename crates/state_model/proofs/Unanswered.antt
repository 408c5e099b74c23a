-- A step that is not the answer tells of a fault, and changes nothing but where a write failed.
use Rattle.std.proofs.Common.{◌≡◌, ◌⊎◌, inl, inr, ℕ, ◌<◌, refl, sym, ap, ◌∙◌, subst, Bool, true, false, cond, arith}
use Rattle.std.specs.Prelude.{[], Err, Some, None, take}
use Rattle.key_base.specs.Limits.{last_epoch}
use Rattle.map_model.specs.SortedMap.{Map, put, del}
use Rattle.map_model.specs.Slices.{slice}
use Rattle.state_model.specs.State.{State, Job}
use Rattle.table_model.specs.Tables.{FilterBytes}
use Rattle.state_model.specs.View.{state_map}
use Rattle.state_model.specs.Causes.{WriteFailed}
use Rattle.state_model.specs.Merges.{NoRoom}
use Rattle.line_model.specs.Requests.{Request, Put, Del, Get, Seek, Range, Count, Estimate, Explain, Flush, Compact, Quit, Bad}
use Rattle.line_model.specs.Replies.{Reply, Bye, BadLine, LastEpoch, Full, Device, Damaged}
use Rattle.state_model.specs.Laws.{is_done, map_behind}
use Rattle.state_model.specs.Steps.{left_by, said_before, Step, answers, no_memory, read_failed, damage_met, write_failed}
use Rattle.state_model.specs.Tends.{started, next_placed, outstanding, MayWrite, Runs, Tended, Refused, Tend, idle, works, installs, last_epoch_reached, no_room, no_memory as none_for_it, read_failed as not_read, damage_met as was_damaged, write_failed as not_written}
use Rattle.state_model.specs.SoundLaws.{Ever}
use Rattle.state_model.specs.Sound.{IsLeft}
use Rattle.state_model.specs.FaultLaws.{Only, OfReads, ButWrites, IsAnswered, IsUnchanged, TellsOfRead, EndsPairs, TellsOfFault, HasEitherMap}
use Rattle.state_model.proofs.Causes.{not_placed}
use Rattle.state_model.proofs.FaultsMet.{is_fault}
use Rattle.state_model.proofs.Lines.{lines_change}

-- ---- what is left, and what is said

pub left_unchanged : (s : State) (request : Request) → IsUnchanged request s (left_by request s)
left_unchanged s Compact = refl
left_unchanged s (Put key value) = refl
left_unchanged s (Del key) = refl
left_unchanged s Flush = refl
left_unchanged s (Get key) = refl
left_unchanged s (Seek lo hi) = refl
left_unchanged s (Range lo hi n) = refl
left_unchanged s (Count lo hi) = refl
left_unchanged s (Estimate lo hi) = refl
left_unchanged s (Explain key) = refl
left_unchanged s Quit = refl
left_unchanged s (Bad code) = refl

abbrev Told : State → Request → Reply → Type 0
Told s request reply = TellsOfRead reply ⊎ EndsPairs s request reply

told : (s : State) (request : Request) (why reply : Reply) → TellsOfRead why → said_before s request why reply → Told s request reply
told s (Range lo hi n) why reply tells (inl so) = inl (subst TellsOfRead (sym so) tells)
told s (Range lo hi n) why reply tells (inr (k, few, so)) = inr (take k (slice (state_map s) lo (Some hi) n), why, so, (k, few, refl), tells)
told s (Put key value) why reply tells so = inl (subst TellsOfRead (sym so) tells)
told s (Del key) why reply tells so = inl (subst TellsOfRead (sym so) tells)
told s Flush why reply tells so = inl (subst TellsOfRead (sym so) tells)
told s Compact why reply tells so = inl (subst TellsOfRead (sym so) tells)
told s (Get key) why reply tells so = inl (subst TellsOfRead (sym so) tells)
told s (Seek lo hi) why reply tells so = inl (subst TellsOfRead (sym so) tells)
told s (Count lo hi) why reply tells so = inl (subst TellsOfRead (sym so) tells)
told s (Estimate lo hi) why reply tells so = inl (subst TellsOfRead (sym so) tells)
told s (Explain key) why reply tells so = inl (subst TellsOfRead (sym so) tells)
told s Quit why reply tells so = inl (subst TellsOfRead (sym so) tells)
told s (Bad code) why reply tells so = inl (subst TellsOfRead (sym so) tells)

pub step_answered : (filter_bytes : FilterBytes) (s after : State) (request : Request) (reply : Reply) → Step ButWrites filter_bytes s request reply after
    → IsAnswered filter_bytes s request reply after ⊎ (IsUnchanged request s after × TellsOfFault s request reply)
step_answered filter_bytes s after request reply d = elim d as (λ r new _. IsAnswered filter_bytes s request r new ⊎ (IsUnchanged request s new × TellsOfFault s request r)) [
  | answers ↦ inl (refl, refl)
  | no_memory within takes cause ↦ inr (left_unchanged s request, inl refl)
  | read_failed said within reads cause so ↦ inr (left_unchanged s request, inr (told s request Device said (inl refl) so))
  | damage_met damage said within reads cause so ↦ inr (left_unchanged s request, inr (told s request (Damaged damage) said (inr (damage, refl)) so))
  | write_failed new within writes cause left same ↦ absurd cause
]

-- ---- the map

ends_undone : (s : State) (request : Request) (reply : Reply) → EndsPairs s request reply → is_done reply ≡ false
ends_undone s (Range lo hi n) reply (said, end, so, of, tells) = ap is_done so
ends_undone s (Put key value) reply none = absurd none
ends_undone s (Del key) reply none = absurd none
ends_undone s Flush reply none = absurd none
ends_undone s Compact reply none = absurd none
ends_undone s (Get key) reply none = absurd none
ends_undone s (Seek lo hi) reply none = absurd none
ends_undone s (Count lo hi) reply none = absurd none
ends_undone s (Estimate lo hi) reply none = absurd none
ends_undone s (Explain key) reply none = absurd none
ends_undone s Quit reply none = absurd none
ends_undone s (Bad code) reply none = absurd none

undone : (s : State) (request : Request) (reply : Reply) → TellsOfFault s request reply → is_done reply ≡ false
undone s request reply (inl so) = ap is_done so
undone s request reply (inr (inl (inl so))) = ap is_done so
undone s request reply (inr (inl (inr (damage, so)))) = ap is_done so
undone s request reply (inr (inr ends)) = ends_undone s request reply ends

not_changed : (request : Request) (reply : Reply) (map : Map) → is_done reply ≡ false → map_behind request reply map ≡ map
not_changed (Put key value) reply map e = ap (λ (b : Bool). cond b (put map key value) map) e
not_changed (Del key) reply map e = ap (λ (b : Bool). cond b (del map key) map) e
not_changed Flush reply map e = refl
not_changed Compact reply map e = refl
not_changed (Get key) reply map e = refl
not_changed (Seek lo hi) reply map e = refl
not_changed (Range lo hi n) reply map e = refl
not_changed (Count lo hi) reply map e = refl
not_changed (Estimate lo hi) reply map e = refl
not_changed (Explain key) reply map e = refl
not_changed Quit reply map e = refl
not_changed (Bad code) reply map e = refl

map_unchanged : (request : Request) (s after : State) → IsUnchanged request s after → state_map after ≡ state_map s
map_unchanged Compact s after e = ap state_map e
map_unchanged (Put key value) s after e = ap state_map e
map_unchanged (Del key) s after e = ap state_map e
map_unchanged Flush s after e = ap state_map e
map_unchanged (Get key) s after e = ap state_map e
map_unchanged (Seek lo hi) s after e = ap state_map e
map_unchanged (Range lo hi n) s after e = ap state_map e
map_unchanged (Count lo hi) s after e = ap state_map e
map_unchanged (Estimate lo hi) s after e = ap state_map e
map_unchanged (Explain key) s after e = ap state_map e
map_unchanged Quit s after e = ap state_map e
map_unchanged (Bad code) s after e = ap state_map e

map_of_step : (filter_bytes : FilterBytes) (s after : State) (request : Request) (reply : Reply)
    → IsAnswered filter_bytes s request reply after ⊎ (IsUnchanged request s after × TellsOfFault s request reply)
    → state_map after ≡ map_behind request reply (state_map s)
map_of_step filter_bytes s after request reply (inl (so, behind)) =
    ap state_map behind ∙ lines_change filter_bytes s request ∙ ap (λ (r : Reply). map_behind request r (state_map s)) (sym so)
map_of_step filter_bytes s after request reply (inr (old, fault)) =
    map_unchanged request s after old ∙ sym (not_changed request reply (state_map s) (undone s request reply fault))

pub step_map : (filter_bytes : FilterBytes) (s after : State) (request : Request) (reply : Reply) → Step ButWrites filter_bytes s request reply after
    → state_map after ≡ map_behind request reply (state_map s)
step_map filter_bytes s after request reply d = map_of_step filter_bytes s after request reply (step_answered filter_bytes s after request reply d)

-- ---- a failed write

pub write_step : (filter_bytes : FilterBytes) (s after : State) (request : Request) (reply : Reply) → Step (Only WriteFailed) filter_bytes s request reply after
    → IsAnswered filter_bytes s request reply after ⊎ ((reply ≡ Device) × IsLeft filter_bytes s after × HasEitherMap filter_bytes s request after)
write_step filter_bytes s after request reply d = elim d as (λ r new _. IsAnswered filter_bytes s request r new ⊎ ((r ≡ Device) × IsLeft filter_bytes s new × HasEitherMap filter_bytes s request new)) [
  | answers ↦ inl (refl, refl)
  | no_memory within takes cause ↦ absurd cc
  | read_failed said within reads cause so ↦ absurd cc
  | damage_met damage said within reads cause so ↦ absurd cc
  | write_failed new within writes cause left same ↦ inr (refl, left, same)
]

-- ---- a quit and a bad line

pub quit_step : (filter_bytes : FilterBytes) (s after : State) (reply : Reply) → Step Ever filter_bytes s Quit reply after → (reply ≡ Bye) × (after ≡ s)
quit_step filter_bytes s after reply d = elim d as (λ r new _. (r ≡ Bye) × (new ≡ s)) [
  | answers ↦ (refl, refl)
  | no_memory within takes cause ↦ absurd takes
  | read_failed said within reads cause so ↦ absurd reads
  | damage_met damage said within reads cause so ↦ absurd reads
  | write_failed new within writes cause left same ↦ absurd writes
]

pub bad_step : (filter_bytes : FilterBytes) (s after : State) (code : ℕ) (reply : Reply) → Step Ever filter_bytes s (Bad code) reply after → (reply ≡ BadLine code) × (after ≡ s)
bad_step filter_bytes s after code reply d = elim d as (λ r new _. (r ≡ BadLine code) × (new ≡ s)) [
  | answers ↦ (refl, refl)
  | no_memory within takes cause ↦ absurd takes
  | read_failed said within reads cause so ↦ absurd reads
  | damage_met damage said within reads cause so ↦ absurd reads
  | write_failed new within writes cause left same ↦ absurd writes
]

-- ---- a merge slice

-- a state has one job that runs
one_running : (s : State) (job other : Job) → Runs s job → Runs s other → job ≡ other
one_running s job other (inl a) (inl b) = let e : Some job ≡ Some other = sym a ∙ b in cc
one_running s job other (inl a) (inr (plan, none, chosen, so)) = let e : Some job ≡ None = sym a ∙ none in absurd cc
one_running s job other (inr (plan, none, chosen, so)) (inl b) = let e : Some other ≡ None = sym b ∙ none in absurd cc
one_running s job other (inr (plan, none, chosen, so)) (inr (second, again, picked, that)) =
    let e : Some plan ≡ Some second = sym chosen ∙ picked in
    let same : plan ≡ second = cc in
    so ∙ ap started same ∙ sym that

fault_told : (reply : Reply) → TellsOfRead reply → is_fault reply ≡ true
fault_told reply (inl so) = ap is_fault so
fault_told reply (inr (damage, so)) = ap is_fault so

none_told : (reply : Reply) → is_fault reply ≡ false → TellsOfRead reply → ⊥
none_told reply plain tells = let e : false ≡ true = sym plain ∙ fault_told reply tells in cc

none_to_read : (s : State) (job other : Job) → Runs s job → job.to_read ≡ 0 → Runs s other → 0 < other.to_read → ⊥
none_to_read s job other runs none also more = let same : job.to_read ≡ other.to_read = ap (λ (j : Job). j.to_read) (one_running s job other runs also) in absurd (omega (arith, same, none, more))

abbrev TellsOfNone : Tended → Type 0
TellsOfNone (Refused why) = TellsOfRead why → ⊥
TellsOfNone tended = Unit {0}

slice_tells : (filter_bytes : FilterBytes) (s after : State) (job : Job) (tended : Tended) → Runs s job → job.to_read ≡ 0 → Tend OfReads filter_bytes s tended after → TellsOfNone tended
slice_tells filter_bytes s after job tended runs none d = elim d as (λ t _ _. TellsOfNone t) [
  | idle no_job chosen ↦ tt
  | works other later also goes new more ↦ tt
  | installs other later also goes done new ↦ tt
  | last_epoch_reached other later also goes done last ↦ none_told LastEpoch refl
  | no_room other later refusal also goes refused ↦ none_told (Full refusal.need refusal.gap) refl
  | none_for_it cause ↦ absurd cause
  | not_read other also more cause ↦ absurd (none_to_read s job other runs none also more)
  | was_damaged other damage also more cause ↦ absurd (none_to_read s job other runs none also more)
  | not_written other new also may cause left same ↦ absurd cause
]

pub reads_blocks : (filter_bytes : FilterBytes) (s after : State) (job : Job) (why : Reply) → Runs s job → job.to_read ≡ 0 → Tend OfReads filter_bytes s (Refused why) after → TellsOfRead why → ⊥
reads_blocks filter_bytes s after job why runs none d = slice_tells filter_bytes s after job (Refused why) runs none d

-- of what may be written

abbrev MayTell : FilterBytes → State → Tended → Type 0
MayTell filter_bytes s (Refused Device) = (job : Job) × Runs s job × MayWrite filter_bytes s job
MayTell filter_bytes s tended = Unit {0}

slice_writes : (filter_bytes : FilterBytes) (s after : State) (tended : Tended) → Tend (Only WriteFailed) filter_bytes s tended after → MayTell filter_bytes s tended
slice_writes filter_bytes s after tended d = elim d as (λ t _ _. MayTell filter_bytes s t) [
  | idle no_job chosen ↦ tt
  | works job later runs goes new more ↦ tt
  | installs job later runs goes done new ↦ tt
  | last_epoch_reached job later runs goes done last ↦ tt
  | no_room job later refusal runs goes refused ↦ tt
  | none_for_it cause ↦ absurd cc
  | not_read job runs more cause ↦ absurd cc
  | was_damaged job damage runs more cause ↦ absurd cc
  | not_written job new runs may cause left same ↦ (job, runs, may)
]

may_write : (filter_bytes : FilterBytes) (s after : State) (job : Job) → Runs s job → Tend (Only WriteFailed) filter_bytes s (Refused Device) after → MayWrite filter_bytes s job
may_write filter_bytes s after job runs d =
    let told = slice_writes filter_bytes s after (Refused Device) d in
    subst (MayWrite filter_bytes s) (one_running s told.0 job told.1 runs) told.2

pub no_room_to_write : (filter_bytes : FilterBytes) (s after : State) (job : Job) (refusal : NoRoom) → Runs s job → next_placed filter_bytes s job 1 ≡ Err refusal
    → Tend (Only WriteFailed) filter_bytes s (Refused Device) after → ⊥
no_room_to_write filter_bytes s after job refusal runs e d = not_placed (next_placed filter_bytes s job 1) refusal e (may_write filter_bytes s after job runs d).room

pub no_epoch_to_write : (filter_bytes : FilterBytes) (s after : State) (job : Job) → Runs s job → outstanding s.tables job ≡ [] → s.epoch ≡ last_epoch
    → Tend (Only WriteFailed) filter_bytes s (Refused Device) after → ⊥
no_epoch_to_write filter_bytes s after job runs all last d = (may_write filter_bytes s after job runs d).epoch all last
