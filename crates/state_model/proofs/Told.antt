-- What a reply says of its cause, of a line and of a merge slice.
use Rattle.std.proofs.Common.{◌≡◌, ◌⊎◌, inl, inr, ℕ, refl, sym, subst, Bool, true, false}
use Rattle.std.specs.Prelude.{◌≢◌, Some, None, Err, take}
use Rattle.byte_fields.specs.declared.parts.Damage.{Damage}
use Rattle.key_base.specs.Limits.{last_epoch}
use Rattle.map_model.specs.SortedMap.{Map}
use Rattle.map_model.specs.Slices.{slice}
use Rattle.line_model.specs.Requests.{Request, Put, Del, Get, Seek, Range, Count, Estimate, Explain, Flush, Compact, Quit, Bad}
use Rattle.line_model.specs.Replies.{Reply, Done, Value, Missing, At, Pairs, End, Counted, About, Explained, Bye, BadLine, LongKey, LongValue, ManyTables, LastEpoch, Full, Memory, Device, Damaged}
use Rattle.table_model.specs.Tables.{FilterBytes}
use Rattle.state_model.specs.State.{State, Job}
use Rattle.state_model.specs.View.{state_map}
use Rattle.state_model.specs.Causes.{Why, ReadFailed, DamageMet}
use Rattle.state_model.specs.Merges.{choose}
use Rattle.state_model.specs.Steps.{answer, said_before, Reads, Step, answers, no_memory, read_failed, damage_met, write_failed}
use Rattle.state_model.specs.Tends.{Tended, Idle, Worked, Refused, Tend, IsDone, next_placed, with_job, installed, idle, works, installs, last_epoch_reached, no_room, no_memory as none_for_it, read_failed as not_read, damage_met as was_damaged, write_failed as not_written}
use Rattle.state_model.specs.PlayLaws.{Allowed}
use Rattle.state_model.specs.SoundLaws.{Ever}
use Rattle.state_model.specs.FaultLaws.{IsAnswered, IsUnchanged}
use Rattle.state_model.specs.CauseLaws.{HasComeTo, IsRefused, IsTold, SaysFault}
use Rattle.state_model.proofs.FaultsMet.{answer_plain, is_fault}
use Rattle.state_model.proofs.Tied.{says}
use Rattle.state_model.proofs.Unanswered.{left_unchanged}

-- ---- a line

-- it is the fault alone, or some pairs and the fault
said_as : (s : State) (request : Request) (why reply : Reply) → said_before s request why reply → (reply ≡ why) ⊎ ((said : Map) × (reply ≡ Pairs said why))
said_as s (Range lo hi n) why reply (inl so) = inl so
said_as s (Range lo hi n) why reply (inr (k, few, so)) = inr (take k (slice (state_map s) lo (Some hi) n), so)
said_as s (Put key value) why reply so = inl so
said_as s (Del key) why reply so = inl so
said_as s (Get key) why reply so = inl so
said_as s (Seek lo hi) why reply so = inl so
said_as s (Count lo hi) why reply so = inl so
said_as s (Estimate lo hi) why reply so = inl so
said_as s (Explain key) why reply so = inl so
said_as s Flush why reply so = inl so
said_as s Compact why reply so = inl so
said_as s Quit why reply so = inl so
said_as s (Bad code) why reply so = inl so

module _ (causes : Why → Bool) (filter_bytes : FilterBytes) (s : State) (request : Request) where
  -- a reply that tells of no fault is told of the answer
  plain_told : (reply : Reply) (after : State) → is_fault reply ≡ false → IsAnswered filter_bytes s request reply after → IsTold causes filter_bytes s request reply after
  plain_told Done after plain so = so
  plain_told (Value value) after plain so = so
  plain_told Missing after plain so = so
  plain_told (At key value) after plain so = so
  plain_told (Pairs said end) after plain so = by_end end plain so
    where
      by_end : (end : Reply) → is_fault end ≡ false → IsAnswered filter_bytes s request (Pairs said end) after → IsTold causes filter_bytes s request (Pairs said end) after
      by_end Done plain so = so
      by_end (Value value) plain so = so
      by_end Missing plain so = so
      by_end (At key value) plain so = so
      by_end (Pairs more last) plain so = so
      by_end (End n) plain so = so
      by_end (Counted n) plain so = so
      by_end (About n) plain so = so
      by_end (Explained tables admitted blocks) plain so = so
      by_end Bye plain so = so
      by_end (BadLine code) plain so = so
      by_end (LongKey size) plain so = so
      by_end (LongValue size) plain so = so
      by_end ManyTables plain so = so
      by_end LastEpoch plain so = so
      by_end (Full need gap) plain so = so
      by_end Memory plain so = so
      by_end Device plain so = let wrong : true ≡ false = plain in absurd cc
      by_end (Damaged damage) plain so = let wrong : true ≡ false = plain in absurd cc
  plain_told (End n) after plain so = so
  plain_told (Counted n) after plain so = so
  plain_told (About n) after plain so = so
  plain_told (Explained tables admitted blocks) after plain so = so
  plain_told Bye after plain so = so
  plain_told (BadLine code) after plain so = so
  plain_told (LongKey size) after plain so = so
  plain_told (LongValue size) after plain so = so
  plain_told ManyTables after plain so = so
  plain_told LastEpoch after plain so = so
  plain_told (Full need gap) after plain so = so
  plain_told Memory after plain so = let wrong : true ≡ false = plain in absurd cc
  plain_told Device after plain so = let wrong : true ≡ false = plain in absurd cc
  plain_told (Damaged damage) after plain so = let wrong : true ≡ false = plain in absurd cc

  by_read : (reply : Reply) (after : State) → Allowed causes ReadFailed → Reads s request → IsUnchanged request s after → said_before s request Device reply
      → IsTold causes filter_bytes s request reply after
  by_read reply after cause reads same so = by_form (said_as s request Device reply so)
    where
      by_form : (reply ≡ Device) ⊎ ((said : Map) × (reply ≡ Pairs said Device)) → IsTold causes filter_bytes s request reply after
      by_form (inl bare) = subst (λ (r : Reply). IsTold causes filter_bytes s request r after) (sym bare) (inl (cause, reads, same))
      by_form (inr (said, ends)) = subst (λ (r : Reply). IsTold causes filter_bytes s request r after) (sym ends)
          (cause, reads, subst (SaysFault s request Device) ends (says s request Device reply so), same)

  by_damage : (damage : Damage) (reply : Reply) (after : State) → Allowed causes (DamageMet damage) → Reads s request → IsUnchanged request s after
      → said_before s request (Damaged damage) reply → IsTold causes filter_bytes s request reply after
  by_damage damage reply after cause reads same so = by_form (said_as s request (Damaged damage) reply so)
    where
      by_form : (reply ≡ Damaged damage) ⊎ ((said : Map) × (reply ≡ Pairs said (Damaged damage))) → IsTold causes filter_bytes s request reply after
      by_form (inl bare) = subst (λ (r : Reply). IsTold causes filter_bytes s request r after) (sym bare) (cause, reads, same)
      by_form (inr (said, ends)) = subst (λ (r : Reply). IsTold causes filter_bytes s request r after) (sym ends)
          (cause, reads, subst (SaysFault s request (Damaged damage)) ends (says s request (Damaged damage) reply so), same)

pub line_told : (causes : Why → Bool) (filter_bytes : FilterBytes) (s after : State) (request : Request) (reply : Reply)
    → Step (Allowed causes) filter_bytes s request reply after → IsTold causes filter_bytes s request reply after
line_told causes filter_bytes s after request reply d = elim d as (λ r new _. IsTold causes filter_bytes s request r new) [
  | answers ↦ plain_told causes filter_bytes s request (answer filter_bytes s request).0 (answer filter_bytes s request).1 (answer_plain filter_bytes s request).0 (refl, refl)
  | no_memory within takes cause ↦ (cause, takes, left_unchanged s request)
  | read_failed said within reads cause so ↦ by_read causes filter_bytes s request said _ cause reads (left_unchanged s request) so
  | damage_met damage said within reads cause so ↦ by_damage causes filter_bytes s request damage said _ cause reads (left_unchanged s request) so
  | write_failed new within writes cause left same ↦ inr (cause, writes, left, same)
]

-- ---- a merge slice

abbrev IfRefused : (Why → Bool) → FilterBytes → State → Tended → State → Type 0
IfRefused causes filter_bytes s (Refused why) after = IsRefused causes filter_bytes s why after
IfRefused causes filter_bytes s tended after = Unit {0}

slice_told : (causes : Why → Bool) (filter_bytes : FilterBytes) (s after : State) (tended : Tended)
    → Tend (Allowed causes) filter_bytes s tended after → IfRefused causes filter_bytes s tended after
slice_told causes filter_bytes s after tended d = elim d as (λ t new _. IfRefused causes filter_bytes s t new) [
  | idle none chosen ↦ tt
  | works job later runs goes other more ↦ tt
  | installs job later runs goes done other ↦ tt
  | last_epoch_reached job later runs goes done last ↦ refl
  | no_room job later refusal runs goes refused ↦ refl
  | none_for_it cause ↦ (cause, refl)
  | not_read job runs more cause ↦ (job, runs, inl (cause, more, refl))
  | was_damaged job damage runs more cause ↦ (job, runs, cause, more, refl)
  | not_written job new runs may cause left same ↦ (job, runs, inr (cause, may, left, same))
]

pub refused_told : (causes : Why → Bool) (filter_bytes : FilterBytes) (s after : State) (why : Reply)
    → Tend (Allowed causes) filter_bytes s (Refused why) after → IsRefused causes filter_bytes s why after
refused_told causes filter_bytes s after why d = slice_told causes filter_bytes s after (Refused why) d

abbrev Reason : FilterBytes → State → Tended → State → Type 0
Reason filter_bytes s Idle after = (s.job ≡ None) × (choose s.tables ≡ None) × (after ≡ s)
Reason filter_bytes s Worked after =
    (later : Job) × HasComeTo filter_bytes s later
    × ((after ≡ with_job s later) ⊎ (IsDone s.tables later × (s.epoch ≢ last_epoch) × (after ≡ installed s later)))
Reason filter_bytes s (Refused LastEpoch) after = (later : Job) × HasComeTo filter_bytes s later × IsDone s.tables later × (s.epoch ≡ last_epoch)
Reason filter_bytes s (Refused (Full need gap)) after =
    (later : Job) × HasComeTo filter_bytes s later × (next_placed filter_bytes s later 1 ≡ Err (record { need = need; gap = gap }))
Reason filter_bytes s tended after = Unit {0}

reason : (filter_bytes : FilterBytes) (s after : State) (tended : Tended) → Tend Ever filter_bytes s tended after → Reason filter_bytes s tended after
reason filter_bytes s after tended d = elim d as (λ t new _. Reason filter_bytes s t new) [
  | idle none chosen ↦ (none, chosen, refl)
  | works job later runs goes other more ↦ (later, (job, runs, goes), inl refl)
  | installs job later runs goes done other ↦ (later, (job, runs, goes), inr (done, other, refl))
  | last_epoch_reached job later runs goes done last ↦ (later, (job, runs, goes), done, last)
  | no_room job later refusal runs goes refused ↦ (later, (job, runs, goes), refused)
  | none_for_it cause ↦ tt
  | not_read job runs more cause ↦ tt
  | was_damaged job damage runs more cause ↦ tt
  | not_written job new runs may cause left same ↦ tt
]

pub idle_reason : (filter_bytes : FilterBytes) (s after : State) → Tend Ever filter_bytes s Idle after → Reason filter_bytes s Idle after
idle_reason filter_bytes s after d = reason filter_bytes s after Idle d

pub worked_reason : (filter_bytes : FilterBytes) (s after : State) → Tend Ever filter_bytes s Worked after → Reason filter_bytes s Worked after
worked_reason filter_bytes s after d = reason filter_bytes s after Worked d

pub epoch_reason : (filter_bytes : FilterBytes) (s after : State) → Tend Ever filter_bytes s (Refused LastEpoch) after → Reason filter_bytes s (Refused LastEpoch) after
epoch_reason filter_bytes s after d = reason filter_bytes s after (Refused LastEpoch) d

pub room_reason : (filter_bytes : FilterBytes) (s after : State) (need gap : ℕ) → Tend Ever filter_bytes s (Refused (Full need gap)) after → Reason filter_bytes s (Refused (Full need gap)) after
room_reason filter_bytes s after need gap d = reason filter_bytes s after (Refused (Full need gap)) d
