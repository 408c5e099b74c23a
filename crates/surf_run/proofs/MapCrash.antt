-- What a crash leaves of lines that one sorted map answers.
use Rattle.std.proofs.Common.{◌≡◌, ◌⊎◌, inl, inr, ◌++◌, ℕ, List, [], ◌∷◌, refl, sym, ◌∙◌, subst, Bool, true, false, cond, append_assoc}
use Rattle.std.specs.Prelude.{drop, take}
use Rattle.std.proofs.lemmas.List.{append-nil}
use Rattle.byte_fields.specs.declared.parts.Damage.{Damage}
use Rattle.disk_trait.specs.World.{Image}
use Rattle.image_model.specs.Stands.{StandsForMap}
use Rattle.line_model.specs.Replies.{Device, Reply}
use Rattle.line_model.specs.Requests.{Bad, Compact, Count, Del, Estimate, Explain, Flush, Get, Put, Quit, Range, Request, Seek, request_of}
use Rattle.map_model.specs.SortedMap.{Bytes, Map, del, put}
use Rattle.state_model.proofs.Lines.{lines_change}
use Rattle.state_model.specs.Causes.{DamageMet, Why}
use Rattle.state_model.specs.Laws.{is_done, map_behind}
use Rattle.state_model.specs.PlayLaws.{AnyState}
use Rattle.state_model.specs.Sound.{IsSound}
use Rattle.state_model.specs.State.{State}
use Rattle.state_model.specs.Steps.{Reads, Step, answer, answers, damage_met, left_by, no_memory, read_failed, said_before, write_failed}
use Rattle.state_model.specs.View.{state_map}
use Rattle.surf_run.specs.Crash.{IsAfterPrefix, KeepsAcknowledged}
use Rattle.surf_run.specs.Kind.{Kind}
use Rattle.surf_run.specs.MapCrash.{HasOneMap, IsDevice, IsMapAfter, IsOldOrNewMap}
use Rattle.surf_run.specs.OneMap.{IsMapReply, IsRefusal}
use Rattle.surf_run.proofs.OneMap.{answered, left_map, one_map}
use Rattle.table_model.specs.Tables.{FilterBytes}

-- ---- the map after a reply

either_is : (done : Bool) (changed map : Map) → (cond done changed map ≡ map) ⊎ (cond done changed map ≡ changed)
either_is true changed map = inr refl
either_is false changed map = inl refl

-- a request makes its change, or none
behind_done : (request : Request) (reply : Reply) (map : Map) → IsOldOrNewMap map request (map_behind request reply map)
behind_done (Put key value) reply map = either_is (is_done reply) (put map key value) map
behind_done (Del key) reply map = either_is (is_done reply) (del map key) map
behind_done (Get key) reply map = inl refl
behind_done (Seek lo hi) reply map = inl refl
behind_done (Range lo hi n) reply map = inl refl
behind_done (Count lo hi) reply map = inl refl
behind_done (Estimate lo hi) reply map = inl refl
behind_done (Explain key) reply map = inl refl
behind_done Flush reply map = inl refl
behind_done Compact reply map = inl refl
behind_done Quit reply map = inl refl
behind_done (Bad code) reply map = inl refl

answer_is : (filter_bytes : FilterBytes) (s : State) (request : Request) → IsOldOrNewMap (state_map s) request (state_map (answer filter_bytes s request).1)
answer_is filter_bytes s request =
    subst (IsOldOrNewMap (state_map s) request) (sym (lines_change filter_bytes s request)) (behind_done request (answer filter_bytes s request).0 (state_map s))

-- ---- a step, whatever it is answered

abbrev IsOf : Map → Request → Reply → Type 0
IsOf map request reply = IsMapReply map request reply ⊎ IsRefusal reply ⊎ IsDevice map request reply

abbrev Shows : State → Request → Reply → State → Type 0
Shows s request reply after =
    IsOf (state_map s) request reply × ((state_map after ≡ map_behind request reply (state_map s)) ⊎ ((reply ≡ Device) × IsOldOrNewMap (state_map s) request (state_map after)))

-- a failed write
device_is : (map : Map) (request : Request) → IsDevice map request Device
device_is map (Put key value) = refl
device_is map (Del key) = refl
device_is map (Get key) = refl
device_is map (Seek lo hi) = refl
device_is map (Range lo hi n) = inl refl
device_is map (Count lo hi) = refl
device_is map (Estimate lo hi) = refl
device_is map (Explain key) = refl
device_is map Flush = refl
device_is map Compact = refl
device_is map Quit = refl
device_is map (Bad code) = refl

-- a failed read
faulted : (s : State) (request : Request) (reply : Reply) → Reads s request → said_before s request Device reply
    → IsDevice (state_map s) request reply × (state_map (left_by request s) ≡ map_behind request reply (state_map s))
faulted s (Put key value) reply reads so = absurd reads
faulted s (Del key) reply reads so = absurd reads
faulted s (Get key) reply reads so = (so, refl)
faulted s (Seek lo hi) reply reads so = (so, refl)
faulted s (Range lo hi n) reply reads so = (so, refl)
faulted s (Count lo hi) reply reads so = (so, refl)
faulted s (Estimate lo hi) reply reads so = absurd reads
faulted s (Explain key) reply reads so = absurd reads
faulted s Flush reply reads so = absurd reads
faulted s Compact reply reads so = (so, refl)
faulted s Quit reply reads so = absurd reads
faulted s (Bad code) reply reads so = absurd reads

module _ (C : Why → Type 0) (undamaged : (damage : Damage) → C (DamageMet damage) → ⊥) (filter_bytes : FilterBytes) (s : State) (request : Request) where
  step_shows : (reply : Reply) (after : State) → Step C filter_bytes s request reply after → Shows s request reply after
  step_shows reply after d = elim d as (λ r new _. Shows s request r new) [
    | answers ↦ (elim (answered filter_bytes s request) [ inl of_map ↦ inl of_map | inr refusal ↦ inr (inl refusal) ], inl (lines_change filter_bytes s request))
    | no_memory fits takes cause ↦ (inr (inl (inr refl)), inl (left_map s request))
    | read_failed said fits reads cause so ↦ let is = faulted s request said reads so in (inr (inr is.0), inl is.1)
    | damage_met damage said fits reads cause so ↦ absurd (undamaged damage cause)
    | write_failed new fits writes cause left same ↦ (
      inr (inr (device_is (state_map s) request)),
      inr (refl, elim same [ inl old ↦ inl old | inr made ↦ subst (IsOldOrNewMap (state_map s) request) (sym made) (answer_is filter_bytes s request) ]),
    )
  ]

-- ---- an image of a moment

module _ (C : Why → Type 0) (undamaged : (damage : Damage) → C (DamageMet damage) → ⊥) (kind : Kind) where
  -- between two lines
  here : (map : Map) (later : List Bytes) (then : Bytes) → IsMapAfter map later [] then map
  here map [] then = (refl, refl)
  here map (line ∷ more) then = inl (refl, refl)

  after_prefix : (s : State) (later : List Bytes) (replies told then : Bytes) (image : Image) → IsAfterPrefix C kind s later replies told then image
      → (now : Map) × (part : Bytes) × (told ≡ replies ++ part) × IsMapAfter (state_map s) later part then now × StandsForMap kind.spelling now image
  after_prefix s later replies told then image (inl (is, map)) = (state_map s, [], is ∙ sym (append-nil replies), here (state_map s) later then, map)
  after_prefix s later replies told then image (inr (line, more, reply, after, part, rest, next, step, whole, is, goes, inl map)) =
      let shown = step_shows C undamaged kind.filter_bytes s (request_of line) reply after step in (
        state_map after,
        part,
        is,
        subst (λ (lines : List Bytes). IsMapAfter (state_map s) lines part then (state_map after)) (sym next) (inr (reply, rest, whole, goes, shown.0, shown.1)),
        map,
      )
  after_prefix s later replies told then image (inr (line, more, reply, after, part, rest, next, step, whole, is, goes, inr (device, inl map))) =
      let shown = step_shows C undamaged kind.filter_bytes s (request_of line) reply after step in (
        state_map s,
        part,
        is,
        subst (λ (lines : List Bytes). IsMapAfter (state_map s) lines part then (state_map s)) (sym next) (inr (reply, rest, whole, goes, shown.0, inr (device, inl refl))),
        map,
      )
  after_prefix s later replies told then image (inr (line, more, reply, after, part, rest, next, step, whole, is, goes, inr (device, inr map))) =
      let now = state_map (answer kind.filter_bytes s (request_of line)).1 in
      let shown = step_shows C undamaged kind.filter_bytes s (request_of line) reply after step in (
        now,
        part,
        is,
        subst (λ (lines : List Bytes). IsMapAfter (state_map s) lines part then now) (sym next)
            (inr (reply, rest, whole, goes, shown.0, inr (device, answer_is kind.filter_bytes s (request_of line)))),
        map,
      )

  pub keeps_one_map : (start : State) → IsSound kind.filter_bytes start → (lines : List Bytes) (before told : Bytes) (n : ℕ) (image : Image)
      → KeepsAcknowledged C kind start lines before told n image → HasOneMap kind.spelling (state_map start) lines before told n image
  keeps_one_map start sound lines before told n image ack =
      let left = after_prefix ack.now ack.later (before ++ ack.text) (take n told) (drop n told) image ack.behind in (
        left.0,
        record {
          so_far = ack.so_far;
          later = ack.later;
          split = ack.split;
          text = ack.text;
          map = state_map ack.now;
          replies = one_map C kind.filter_bytes AnyState 0 start ack.now ack.so_far ack.text ack.most sound ack.answered;
          within = ack.within;
          part = left.1;
          said = left.2 ∙ append_assoc before ack.text left.1;
          there = left.3;
        },
        left.4,
      )
