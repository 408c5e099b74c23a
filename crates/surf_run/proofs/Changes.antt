-- How a change of the store is answered.
use Rattle.std.proofs.Common.{◌≡◌, ◌⊎◌, ◌≢◌, inl, inr, ◌≤◌, ◌+◌, ◌*◌, ◌++◌, ℕ, Bool, true, false, refl, sym, ap, ◌∙◌, subst, arith}
use Rattle.std.specs.Prelude.{◌||◌, Option, Some, None, Result, Ok, Err, MatchResult, IsTrue}
use Rattle.block_model.specs.Pages.{page_bytes}
use Rattle.byte_fields.specs.declared.parts.Damage.{Damage}
use Rattle.disk_trait.specs.World.{Image, Meanwhile, Streams, World, WriteMoves}
use Rattle.disk_trait.proofs.Moments.{meanwhile_weaker, now_at}
use Rattle.line_model.specs.Replies.{Device, Done, Full, LastEpoch, LongKey, LongValue, ManyTables, Memory, Reply, text_of}
use Rattle.line_model.specs.Requests.{Request}
use Rattle.lines_in.specs.Causes.{DiskFailed, EndCause, NoFall, SayFailed, WritesWithin}
use Rattle.lines_in.specs.Saying.{Says, end_by}
use Rattle.lines_in.specs.declared.line_end.LineEnd.{LineEnd}
use Rattle.lines_in.specs.declared.line_end.LineEnd.TheVariants.{End, Next}
use Rattle.lines_in.proofs.EndCauses.{disk_then, line_say, line_write, lines_on, no_fall_say, rose_since}
use Rattle.lines_in.proofs.Footprint.{within_write}
use Rattle.outside.specs.Streams.{SaidByNow, SayMoves}
use Rattle.state_model.specs.Script.{Onward, turn_of}
use Rattle.state_model.specs.State.{State}
use Rattle.state_model.specs.Steps.{Step}
use Rattle.store_core.specs.Answers as core
use Rattle.store_core.specs.Answers.{HasCause, IsTried, IsWriteRefusal, stopped_by, told_change}
use Rattle.store_core.specs.StoreValue.{StoreValue}
use Rattle.store_core.specs.Represents.{Represents}
use Rattle.store_core.specs.declared.error.Limit.TheVariants as limit
use Rattle.store_core.specs.declared.error.StoreError.{StoreError}
use Rattle.store_core.specs.declared.error.StoreError.TheVariants as error
use Rattle.surf_run.specs.Answering.{AnswersLine, EndsLine, RunsOn, SaysOnward, Whole}
use Rattle.surf_run.specs.Causes.{LineShows}
use Rattle.surf_run.specs.Crash.{HasMap, HasMapAfter, HasOldOrNewMap}
use Rattle.surf_run.specs.Dialogue.{IsBounded, reply_bound}
use Rattle.surf_run.specs.Kind.{Kind}
use Rattle.surf_run.specs.Refusals.{end_of_change}
use Rattle.surf_run.proofs.Footprint.{pages_say, pages_write}
use Rattle.surf_run.proofs.Moments.{ends_device, ends_next, line_answer, map_of_state, tied_pages, tied_stands, tied_still}
use Rattle.surf_run.proofs.OneMap.{wanted_or_answered}

-- What is known of the reply that tells a change: it is `device`, where a call failed; or the run goes on; or damage was met.
abbrev pub IsTold : {T : Type 0} → Result T StoreError → World → World → Reply → Type 0
IsTold changed a b reply =
    ((reply ≡ Device) × DiskFailed a b × (end_of_change changed ≡ End 4))
    ⊎ ((turn_of reply ≡ Onward) × (end_by reply ≡ Next) × (stopped_by changed ≡ false) × (end_of_change changed ≡ Next))
    ⊎ ((damage : Damage) × (changed ≡ Err (error.Damaged damage)))

abbrev pub ChangeTold : {T : Type 0} → Result T StoreError → World → World → Type 0
ChangeTold changed a b = (reply : Reply) × (told_change changed ≡ Some reply) × IsTold changed a b reply

pub change_told : {T : Type 0} (changed : Result T StoreError) (stopped : Bool) (broken : Option Reply) (a b : World) → stopped ≡ false
    → MatchResult changed (λ _. IsTried stopped broken) (IsWriteRefusal stopped broken a b) → ChangeTold changed a b
change_told (Ok done) stopped broken a b runs refused = (Done, refl, inr (inl (refl, refl, refl, refl)))
change_told (Err error.Memory) stopped broken a b runs refused = (Memory, refl, inr (inl (refl, refl, refl, refl)))
change_told (Err (error.Device cause)) stopped broken a b runs refused = (Device, refl, inl (refl, inr refused.2, refl))
change_told (Err error.Stopped) stopped broken a b runs refused = absurd (let is : true ≡ false = sym refused ∙ runs in cc)
change_told (Err (error.Limit (limit.Key size))) stopped broken a b runs refused = (LongKey size, refl, inr (inl (refl, refl, refl, refl)))
change_told (Err (error.Limit (limit.Value size))) stopped broken a b runs refused = (LongValue size, refl, inr (inl (refl, refl, refl, refl)))
change_told (Err (error.Limit limit.Tables)) stopped broken a b runs refused = (ManyTables, refl, inr (inl (refl, refl, refl, refl)))
change_told (Err (error.Limit limit.Epoch)) stopped broken a b runs refused = (LastEpoch, refl, inr (inl (refl, refl, refl, refl)))
change_told (Err (error.Full need gap)) stopped broken a b runs refused = (Full need gap, refl, inr (inl (refl, refl, refl, refl)))
change_told (Err (error.Damaged damage)) stopped broken a b runs refused = absurd refused
change_told (Err error.NotAStore) stopped broken a b runs refused = absurd refused
change_told (Err error.AlreadyAStore) stopped broken a b runs refused = absurd refused
change_told (Err (error.BadSettings field)) stopped broken a b runs refused = absurd refused

-- a write meets no damage
module _ {T : Type 0} (changed : Result T StoreError) (stopped : Bool) (broken : Option Reply) (a b : World) where
  pub write_unharmed : MatchResult changed (λ _. IsTried stopped broken) (IsWriteRefusal stopped broken a b) → (damage : Damage) → changed ≡ Err (error.Damaged damage) → ⊥
  write_unharmed refused damage is = subst (λ (c : Result T StoreError). MatchResult c (λ _. IsTried stopped broken) (IsWriteRefusal stopped broken a b)) is refused

-- it is told by some reply
pub is_told : {T : Type 0} (changed : Result T StoreError) (a b : World) → ChangeTold changed a b → told_change changed ≢ None
is_told changed a b told none = absurd (let is = sym told.1 ∙ none in cc)

-- of a store that ran, it is stopped as the change stops it
pub stopped_is : (old new by : Bool) → old ≡ false → new ≡ (old || by) → new ≡ by
stopped_is old new by runs is = is ∙ ap (λ (b : Bool). b || by) runs

pub some_same : (told_as : Option Reply) (x y : Reply) → told_as ≡ Some x → told_as ≡ Some y → x ≡ y
some_same told_as x y first then = let is = sym first ∙ then in cc

-- ---- the end of the line

module _ {T : Type 0} (changed : Result T StoreError) (result : LineEnd) (a mid b : World) (told : ChangeTold changed a mid)
    (ends : (result ≡ end_of_change changed) ⊎ ((result ≡ End 6) × SayFailed mid b)) where
  pub change_cause : (Shows : World → Type 0) → NoFall a mid → NoFall mid b → ((damage : Damage) → changed ≡ Err (error.Damaged damage) → result ≡ End 5 → Shows b) → EndCause Shows result a b
  change_cause Shows before after shows = elim ends [
    | inl same ↦ elim told.2 [
      | inl device ↦ subst (λ (e : LineEnd). EndCause Shows e a b) (sym (same ∙ device.2)) (inl (refl, disk_then a mid b device.1 after))
      | inr more ↦ elim more [
        | inl goes ↦ subst (λ (e : LineEnd). EndCause Shows e a b) (sym (same ∙ goes.3)) tt
        | inr damaged ↦
            let five : result ≡ End 5 = same ∙ ap (λ (c : Result T StoreError). end_of_change c) damaged.1 in
            subst (λ (e : LineEnd). EndCause Shows e a b) (sym five) (inr (inl (refl, shows damaged.0 damaged.1 five)))
      ]
    ]
    | inr six ↦ subst (λ (e : LineEnd). EndCause Shows e a b) (sym six.0) (inr (inr (refl, rose_since a.beside.say_faults mid.beside.say_faults b.beside.say_faults before.say six.1)))
  ]

  pub change_runs : (stopped : Bool) → stopped ≡ stopped_by changed → RunsOn result stopped
  change_runs stopped is = elim ends [
    | inl same ↦ elim told.2 [
      | inl device ↦ subst (λ (e : LineEnd). RunsOn e stopped) (sym (same ∙ device.2)) tt
      | inr more ↦ elim more [
        | inl goes ↦ subst (λ (e : LineEnd). RunsOn e stopped) (sym (same ∙ goes.3)) (is ∙ goes.2)
        | inr damaged ↦ subst (λ (e : LineEnd). RunsOn e stopped) (sym (same ∙ ap (λ (c : Result T StoreError). end_of_change c) damaged.1)) tt
      ]
    ]
    | inr six ↦ subst (λ (e : LineEnd). RunsOn e stopped) (sym six.0) tt
  ]

-- ---- what the line leads to

module _ {T : Type 0} (kind : Kind) (s : State) (request : Request) (changed : Result T StoreError) (before store : StoreValue) (result : LineEnd) (a mid b : World)
    (tied : Represents kind.spelling kind.filter_bytes before s a) (answered : core.AnswersRequest kind.spelling kind.filter_bytes s request (told_change changed) store a mid)
    (told : ChangeTold changed a mid) (unharmed : (damage : Damage) → changed ≡ Err (error.Damaged damage) → ⊥) (runs : store.stopped ≡ stopped_by changed) (few : store.manifest.slot ≤ 1)
    (same : mid.beside ≡ a.beside) (reads : IsBounded request → mid.seen.reads ≤ a.seen.reads + reply_bound s request) (writes : WritesWithin (page_bytes * before.manifest.version.pages) a mid)
    (now_a : SaidByNow a) (now_mid : SaidByNow mid) (say : SayMoves mid b) (says : (reply : Reply) → told_change changed ≡ Some reply → Says (end_by reply) reply result mid b) where
  abbrev Both : Image → Type 0
  Both image = HasOldOrNewMap kind s request image

  abbrev OldOrAfter : Image → Type 0
  OldOrAfter image = HasMap kind s image ⊎ HasMapAfter kind s request answered.reply answered.after image

  -- meanwhile each image has the map before or the one after the reply: for lack of memory it is the one before
  kept_or_made : turn_of answered.reply ≡ Onward → Meanwhile OldOrAfter a mid
  kept_or_made on = elim (wanted_or_answered (HasCause a mid) kind.filter_bytes s request answered.reply answered.after answered.step on) [
    | inl memory ↦
        let kept = answered.kept (λ done. let e : Memory ≡ Done = sym memory ∙ done in cc) (λ device. let e : Memory ≡ Device = sym memory ∙ device in cc) in
        meanwhile_weaker (HasMap kind s) OldOrAfter a mid kept (λ image old. inl old)
    | inr same ↦ meanwhile_weaker Both OldOrAfter a mid answered.crash
        (λ image either. elim either [ inl old ↦ inl old | inr new ↦ inr (inl (subst (λ (t : State). HasMap kind t image) (sym same) new)) ])
  ]

  said_so : IsTold changed a mid answered.reply
  said_so = subst (IsTold changed a mid) (some_same (told_change changed) told.0 answered.reply told.1 answered.told_is) told.2

  module _ (image_now : Image) (left_now : a.leaves a.moment image_now) where
    pub change_ends : EndsLine kind result s request store a b
    change_ends =
        let within = subst (λ (n : ℕ). WritesWithin (page_bytes * n) a mid) (sym (tied_pages kind.spelling kind.filter_bytes before s a image_now left_now tied)) writes in
        elim said_so [
          | inl device ↦
              ends_device kind s request answered.after store a mid b same result
              (line_answer kind s request Device answered.after Both a mid b answered.crash same now_a now_mid say
              (subst (λ (r : Reply). Step (HasCause a mid) kind.filter_bytes s request r answered.after) device.0 answered.step)
              (subst (λ (r : Reply). Says (end_by r) r result mid b) device.0 (says answered.reply answered.told_is)).0
              (λ image either. inr (inr (refl, either))) (λ image left. inr (refl, now_at Both a mid answered.crash image left)) reads within)
              (subst (λ (r : Reply). Says (end_by r) r result mid b) device.0 (says answered.reply answered.told_is))
              (λ going. tied_still kind.spelling kind.filter_bytes store answered.after mid b say.time (answered.tied going))
          | inr more ↦ elim more [
            | inl goes ↦
                let held = answered.tied (runs ∙ goes.2) in
                let stand = tied_stands kind store answered.after mid few held in
                let said = subst (λ (e : LineEnd). Says e answered.reply result mid b) goes.1 (says answered.reply answered.told_is) in
                ends_next kind s request answered.after store a mid b same answered.reply result
                (line_answer kind s request answered.reply answered.after OldOrAfter a mid b (kept_or_made goes.0) same now_a now_mid say answered.step said.0
                (λ image held. held) (λ image left. inl (map_of_state kind answered.after image (stand image left))) reads within)
                said goes.0 (tied_still kind.spelling kind.filter_bytes store answered.after mid b say.time held)
                (tied_stands kind store answered.after b few (tied_still kind.spelling kind.filter_bytes store answered.after mid b say.time held))
            | inr damaged ↦ absurd (unharmed damaged.0 damaged.1)
          ]
        ]

-- ---- all that is promised of it

module _ {T : Type 0} (kind : Kind) (tells tells_output : Bool) (request : Request) (changed : Result T StoreError) (before store : StoreValue) (result : LineEnd) (a mid b : World)
    (told : ChangeTold changed a mid) (runs : store.stopped ≡ stopped_by changed) (few : store.manifest.slot ≤ 1)
    (now_a : SaidByNow a) (now_mid : SaidByNow mid) (say : SayMoves mid b) (ends : (result ≡ end_of_change changed) ⊎ ((result ≡ End 6) × SayFailed mid b)) where
  -- of a change that only writes
  pub change_answers : ((s : State) → IsTrue tells → Represents kind.spelling kind.filter_bytes before s a → core.AnswersRequest kind.spelling kind.filter_bytes s request (told_change changed) store a mid)
      → ((reply : Reply) → IsTrue tells_output → told_change changed ≡ Some reply → Says (end_by reply) reply result mid b) → (IsTrue tells → a.leaves a.moment a.seen.held)
      → ((damage : Damage) → changed ≡ Err (error.Damaged damage) → ⊥) → WriteMoves 0 (page_bytes * before.manifest.version.pages) a mid
      → store.manifest.version.pages ≡ before.manifest.version.pages → AnswersLine kind tells tells_output request result before store a b
  change_answers answered says current unharmed moves kept =
      let written = line_write 0 (page_bytes * before.manifest.version.pages) a mid moves in
      record {
        answered = λ s tell output tied. change_ends kind s request changed before store result a mid b tied (answered s tell tied) told unharmed runs few moves.beside
            (λ bounded. omega (arith, moves.reads)) (within_write (page_bytes * before.manifest.version.pages) a mid moves) now_a now_mid say (λ reply is. says reply output is) a.seen.held (current tell);
        running = change_runs changed result a mid b told ends store.stopped runs;
        cause = change_cause changed result a mid b told ends (LineShows (IsTrue tells × IsTrue tells_output) before.tables request) written.counts (no_fall_say mid b say)
            (λ damage is five. absurd (unharmed damage is));
        moves = lines_on a mid b written (line_say mid b say);
        within = pages_say before store a mid b (pages_write before store a mid kept moves) say;
      }

-- ---- a reply that is not the last

next_is_no_end : (status : ℕ) → Next ≡ End status → ⊥
next_is_no_end status is = absurd cc

module _ {T : Type 0} (changed : Result T StoreError) (result : LineEnd) (a mid b : World) (told : ChangeTold changed a mid) (ends : (result ≡ end_of_change changed) ⊎ ((result ≡ End 6) × SayFailed mid b))
    (same : mid.beside ≡ a.beside) (says : (reply : Reply) → told_change changed ≡ Some reply → Says (end_by reply) reply result mid b) (is : result ≡ Next) where
  whole_said : Whole told.0 a b
  whole_said = elim (says told.0 told.1).1 [
    | inl all ↦ all.1 ∙ ap (λ (s : Streams). s.said ++ text_of told.0) same
    | inr six ↦ absurd (next_is_no_end 6 (sym is ∙ six))
  ]

  pub change_onward : SaysOnward a b
  change_onward = elim ends [
    | inl so ↦ elim told.2 [
      | inl device ↦ absurd (next_is_no_end 4 (sym is ∙ so ∙ device.2))
      | inr more ↦ elim more [
        | inl goes ↦ (told.0, goes.0, whole_said)
        | inr damaged ↦ absurd (next_is_no_end 5 (sym is ∙ so ∙ ap (λ (c : Result T StoreError). end_of_change c) damaged.1))
      ]
    ]
    | inr six ↦ absurd (next_is_no_end 6 (sym is ∙ six.0))
  ]
