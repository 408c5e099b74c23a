-- Each cause has its own reply.
use Rattle.std.proofs.Common.{◌≡◌, ◌⊎◌, inl, inr, ◌<◌, ℕ, refl, sym, ap, ◌∙◌, subst}
use Rattle.std.specs.Prelude.{Option, Some, None, take}
use Rattle.byte_fields.specs.declared.parts.Damage.{Damage}
use Rattle.map_model.specs.Slices.{slice}
use Rattle.line_model.specs.Limits.{limit_of}
use Rattle.line_model.specs.Requests.{Request, Put, Del, Get, Seek, Range, Count, Estimate, Explain, Flush, Compact, Quit, Bad}
use Rattle.line_model.specs.Replies.{Reply, Full, Memory, Device, Damaged}
use Rattle.table_model.specs.Tables.{FilterBytes}
use Rattle.state_model.specs.State.{State}
use Rattle.state_model.specs.Taken.{taken}
use Rattle.state_model.specs.View.{state_map}
use Rattle.state_model.specs.Causes.{NoMemory, ReadFailed, WriteFailed, DamageMet}
use Rattle.state_model.specs.Sound.{IsLeft}
use Rattle.state_model.specs.Steps.{answer_within, said_before, unless_limit, Step, answers, no_memory, read_failed, damage_met, write_failed}
use Rattle.state_model.specs.Tends.{outstanding, with_job, Tended, Refused, Tend, idle, works, installs, last_epoch_reached, no_room, no_memory as none_for_it, read_failed as not_read, damage_met as was_damaged, write_failed as not_written}
use Rattle.state_model.specs.PlayLaws.{Never}
use Rattle.state_model.specs.SoundLaws.{Ever}
use Rattle.state_model.specs.FaultLaws.{Only, IsAnswered, IsUnchanged}
use Rattle.state_model.specs.CauseLaws.{AnsweredOr, SaysFault, TendedOr}
use Rattle.state_model.proofs.Rooms.{wants_more}
use Rattle.state_model.proofs.Unanswered.{left_unchanged}

-- ---- a line

pub says : (s : State) (request : Request) (why reply : Reply) → said_before s request why reply → SaysFault s request why reply
says s (Range lo hi n) why reply (inl so) = inl so
says s (Range lo hi n) why reply (inr (k, few, so)) = inr (take k (slice (state_map s) lo (Some hi) n), so, (k, few, refl))
says s (Put key value) why reply so = so
says s (Del key) why reply so = so
says s (Get key) why reply so = so
says s (Seek lo hi) why reply so = so
says s (Count lo hi) why reply so = so
says s (Estimate lo hi) why reply so = so
says s (Explain key) why reply so = so
says s Flush why reply so = so
says s Compact why reply so = so
says s Quit why reply so = so
says s (Bad code) why reply so = so

module _ (filter_bytes : FilterBytes) (s after : State) (request : Request) (reply : Reply) where
  pub memory_told : Step (Only NoMemory) filter_bytes s request reply after
      → IsAnswered filter_bytes s request reply after ⊎ ((reply ≡ Memory) × IsUnchanged request s after)
  memory_told d = elim d as (λ r new _. IsAnswered filter_bytes s request r new ⊎ ((r ≡ Memory) × IsUnchanged request s new)) [
    | answers ↦ inl (refl, refl)
    | no_memory within takes cause ↦ inr (refl, left_unchanged s request)
    | read_failed said within reads cause so ↦ absurd cc
    | damage_met damage said within reads cause so ↦ absurd cc
    | write_failed new within writes cause left same ↦ absurd cc
  ]

  pub read_told : Step (Only ReadFailed) filter_bytes s request reply after → AnsweredOr filter_bytes s request Device reply after
  read_told d = elim d as (λ r new _. AnsweredOr filter_bytes s request Device r new) [
    | answers ↦ inl (refl, refl)
    | no_memory within takes cause ↦ absurd cc
    | read_failed said within reads cause so ↦ inr (says s request Device said so, left_unchanged s request)
    | damage_met damage said within reads cause so ↦ absurd cc
    | write_failed new within writes cause left same ↦ absurd cc
  ]

  pub damage_told : (damage : Damage) → Step (Only (DamageMet damage)) filter_bytes s request reply after
      → AnsweredOr filter_bytes s request (Damaged damage) reply after
  damage_told damage d = elim d as (λ r new _. AnsweredOr filter_bytes s request (Damaged damage) r new) [
    | answers ↦ inl (refl, refl)
    | no_memory within takes cause ↦ absurd cc
    | read_failed said within reads cause so ↦ absurd cc
    | damage_met other said within reads cause so ↦
        let same : other ≡ damage = cc in
        inr (subst (λ (m : Damage). SaysFault s request (Damaged m) said) same (says s request (Damaged other) said so), left_unchanged s request)
    | write_failed new within writes cause left same ↦ absurd cc
  ]

  pub limit_told : (why : Reply) → limit_of request ≡ Some why → Step Ever filter_bytes s request reply after → (reply ≡ why) × (after ≡ s)
  limit_told why e d = elim d as (λ r new _. (r ≡ why) × (new ≡ s)) [
    | answers ↦ (
      ap (λ (l : Option Reply). (unless_limit l s (answer_within filter_bytes s request)).0) e,
      ap (λ (l : Option Reply). (unless_limit l s (answer_within filter_bytes s request)).1) e,
    )
    | no_memory within takes cause ↦ absurd (over within)
    | read_failed said within reads cause so ↦ absurd (over within)
    | damage_met damage said within reads cause so ↦ absurd (over within)
    | write_failed new within writes cause left same ↦ absurd (over within)
  ]
    where
      over : limit_of request ≡ None → ⊥
      over within = let wrong : None ≡ Some why = sym within ∙ e in cc

-- ---- a merge slice

module _ (filter_bytes : FilterBytes) (s after : State) (tended : Tended) where
  pub slice_memory_told : Tend (Only NoMemory) filter_bytes s tended after → TendedOr filter_bytes s Memory tended after
  slice_memory_told d = elim d as (λ t new _. TendedOr filter_bytes s Memory t new) [
    | idle none chosen ↦ inl (idle none chosen)
    | works job later runs goes other more ↦ inl (works job later runs goes other more)
    | installs job later runs goes done other ↦ inl (installs job later runs goes done other)
    | last_epoch_reached job later runs goes done last ↦ inl (last_epoch_reached job later runs goes done last)
    | no_room job later refusal runs goes refused ↦ inl (no_room job later refusal runs goes refused)
    | none_for_it cause ↦ inr (refl, refl)
    | not_read job runs more cause ↦ absurd cc
    | was_damaged job damage runs more cause ↦ absurd cc
    | not_written job new runs may cause left same ↦ absurd cc
  ]

  pub slice_read_told : Tend (Only ReadFailed) filter_bytes s tended after → TendedOr filter_bytes s Device tended after
  slice_read_told d = elim d as (λ t new _. TendedOr filter_bytes s Device t new) [
    | idle none chosen ↦ inl (idle none chosen)
    | works job later runs goes other more ↦ inl (works job later runs goes other more)
    | installs job later runs goes done other ↦ inl (installs job later runs goes done other)
    | last_epoch_reached job later runs goes done last ↦ inl (last_epoch_reached job later runs goes done last)
    | no_room job later refusal runs goes refused ↦ inl (no_room job later refusal runs goes refused)
    | none_for_it cause ↦ absurd cc
    | not_read job runs more cause ↦ inr (refl, refl)
    | was_damaged job damage runs more cause ↦ absurd cc
    | not_written job new runs may cause left same ↦ absurd cc
  ]

  pub slice_damage_told : (damage : Damage) → Tend (Only (DamageMet damage)) filter_bytes s tended after → TendedOr filter_bytes s (Damaged damage) tended after
  slice_damage_told damage d = elim d as (λ t new _. TendedOr filter_bytes s (Damaged damage) t new) [
    | idle none chosen ↦ inl (idle none chosen)
    | works job later runs goes other more ↦ inl (works job later runs goes other more)
    | installs job later runs goes done other ↦ inl (installs job later runs goes done other)
    | last_epoch_reached job later runs goes done last ↦ inl (last_epoch_reached job later runs goes done last)
    | no_room job later refusal runs goes refused ↦ inl (no_room job later refusal runs goes refused)
    | none_for_it cause ↦ absurd cc
    | not_read job runs more cause ↦ absurd cc
    | was_damaged job other runs more cause ↦
        let same : other ≡ damage = cc in
        inr (ap (λ (m : Damage). Refused (Damaged m)) same, refl)
    | not_written job new runs may cause left same ↦ absurd cc
  ]

  pub slice_write_told : Tend (Only WriteFailed) filter_bytes s tended after
      → Tend Never filter_bytes s tended after ⊎ ((tended ≡ Refused Device) × IsLeft filter_bytes s after × (state_map after ≡ state_map s))
  slice_write_told d = elim d as (λ t new _. Tend Never filter_bytes s t new ⊎ ((t ≡ Refused Device) × IsLeft filter_bytes s new × (state_map new ≡ state_map s))) [
    | idle none chosen ↦ inl (idle none chosen)
    | works job later runs goes other more ↦ inl (works job later runs goes other more)
    | installs job later runs goes done other ↦ inl (installs job later runs goes done other)
    | last_epoch_reached job later runs goes done last ↦ inl (last_epoch_reached job later runs goes done last)
    | no_room job later refusal runs goes refused ↦ inl (no_room job later refusal runs goes refused)
    | none_for_it cause ↦ absurd cc
    | not_read job runs more cause ↦ absurd cc
    | was_damaged job damage runs more cause ↦ absurd cc
    | not_written job new runs may cause left same ↦ inr (refl, left, same)
  ]

-- what is refused for room needs more than there is
abbrev WantsMore : Tended → Type 0
WantsMore (Refused (Full need gap)) = gap < need
WantsMore tended = Unit {0}

slice_wants : (filter_bytes : FilterBytes) (s after : State) (tended : Tended) → Tend Ever filter_bytes s tended after → WantsMore tended
slice_wants filter_bytes s after tended d = elim d as (λ t _ _. WantsMore t) [
  | idle none chosen ↦ tt
  | works job later runs goes other more ↦ tt
  | installs job later runs goes done other ↦ tt
  | last_epoch_reached job later runs goes done last ↦ tt
  | no_room job later refusal runs goes refused ↦
      wants_more filter_bytes s.settings s.pages (taken (with_job s later)) later.output (take 1 (outstanding s.tables later)) refusal refused
  | none_for_it cause ↦ tt
  | not_read job runs more cause ↦ tt
  | was_damaged job damage runs more cause ↦ tt
  | not_written job new runs may cause left same ↦ tt
]

pub slice_room_told : (filter_bytes : FilterBytes) (s after : State) (need gap : ℕ) → Tend Ever filter_bytes s (Refused (Full need gap)) after → gap < need
slice_room_told filter_bytes s after need gap d = slice_wants filter_bytes s after (Refused (Full need gap)) d
