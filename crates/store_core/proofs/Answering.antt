-- What a change is answered: a step of its request.
use Rattle.std.proofs.Common.{◌≡◌, ◌≢◌, ◌⊎◌, inl, inr, false, refl, sym, ap, subst, ◌∙◌}
use Rattle.std.specs.Prelude.{Option, Some, None, Result, Ok, Err, IfErr, IsErr, IsOk, OnErr}
use Rattle.std.proofs.lemmas.Bool.{true≢false}
use Rattle.disk_trait.specs.Image.{Image}
use Rattle.disk_trait.specs.World.{Meanwhile, Rose, World}
use Rattle.disk_trait.proofs.Moments.{meanwhile_weaker}
use Rattle.filter_api.specs.Spellings.{Spelling}
use Rattle.image_model.specs.Stands.{StandsForMap}
use Rattle.line_model.specs.Limits.{limit_of}
use Rattle.line_model.specs.Replies.{Reply}
use Rattle.line_model.specs.Replies as reply
use Rattle.line_model.specs.Requests.{Request}
use Rattle.state_model.proofs.SoundJobs.{drop_sound}
use Rattle.state_model.specs.Causes.{Why}
use Rattle.state_model.specs.Sound.{IsLeft}
use Rattle.state_model.specs.State.{State, without_job}
use Rattle.state_model.specs.Steps.{Answer, Step, TakesMemory, Writes, answer, answer_within, answers, done_or_refused, left_by, no_memory, unless_limit, write_failed}
use Rattle.state_model.specs.View.{state_map}
use Rattle.table_model.specs.Tables.{FilterBytes}
use Rattle.store_core.specs.Answers.{AnswersRequest, HasCause, IsFailure, IsWriteRefusal, MovesTo, WroteEntry, refused, stopped_by, told_change, turns}
use Rattle.store_core.specs.StoreValue.{StoreValue}
use Rattle.store_core.specs.Represents.{Represents}
use Rattle.store_core.specs.declared.error.StoreError.{StoreError}
use Rattle.store_core.specs.declared.error.StoreError.TheVariants as error

module _ (spelling : Spelling) (bytes : FilterBytes) (s : State) (request : Request) (a b : World) where
  -- the map of a state, or of the one that the answer leaves
  abbrev Both : State → Image → Type 0
  Both to image = StandsForMap spelling (state_map s) image ⊎ StandsForMap spelling (state_map to) image

  -- where this is the reply, the map of the state alone
  abbrev Keeps : Reply → Type 0
  Keeps result = result ≢ reply.Done → result ≢ reply.Device → Meanwhile (StandsForMap spelling (state_map s)) a b

  abbrev Cause : Why → Type 0
  Cause = HasCause a b

  -- the answer of the state
  as_answered : (result : Reply) (to : State) → answer bytes s request ≡ (result, to) → (told_as : Option Reply) → told_as ≡ Some result → (store : StoreValue)
      → Meanwhile (Both to) a b → Keeps result → (store.stopped ≡ false → Represents spelling bytes store to b) → AnswersRequest spelling bytes s request told_as store a b
  as_answered result to is told_as told_is store meanwhile kept tied = record {
    reply = result;
    told_is = told_is;
    after = to;
    step = subst (λ (p : Answer). Step Cause bytes s request p.0 p.1) is answers;
    crash = subst (λ (t : State). Meanwhile (Both t) a b) (sym (ap (λ (p : Answer). p.1) is)) meanwhile;
    kept = kept;
    tied = tied;
  }

  -- a failure that the state does not explain, and what it leaves
  as_failed_in : (left : State) (result : Reply) → Step Cause bytes s request result left → (to : State) → (answer bytes s request).1 ≡ to → (told_as : Option Reply) → told_as ≡ Some result
      → (store : StoreValue) → Meanwhile (Both to) a b → Keeps result → (store.stopped ≡ false → Represents spelling bytes store left b) → AnswersRequest spelling bytes s request told_as store a b
  as_failed_in left result step to is told_as told_is store meanwhile kept tied = record {
    reply = result;
    told_is = told_is;
    after = left;
    step = step;
    crash = subst (λ (t : State). Meanwhile (Both t) a b) (sym is) meanwhile;
    kept = kept;
    tied = tied;
  }

  -- one that leaves the state
  as_failed : (result : Reply) → Step Cause bytes s request result s → (to : State) → (answer bytes s request).1 ≡ to → (told_as : Option Reply) → told_as ≡ Some result → (store : StoreValue)
      → Meanwhile (Both to) a b → Keeps result → (store.stopped ≡ false → Represents spelling bytes store s b) → AnswersRequest spelling bytes s request told_as store a b
  as_failed result step to is told_as told_is store meanwhile kept tied = as_failed_in s result step to is told_as told_is store meanwhile kept tied

  -- the first of a limit that is broken
  pub limited : (limit : Reply) → limit_of request ≡ Some limit → (told_as : Option Reply) → told_as ≡ Some limit → (store : StoreValue)
      → Meanwhile (StandsForMap spelling (state_map s)) a b → Represents spelling bytes store s b → AnswersRequest spelling bytes s request told_as store a b
  limited limit broken told_as told_is store meanwhile tied =
      as_answered limit s (ap (λ (o : Option Reply). unless_limit o s (answer_within bytes s request)) broken) told_as told_is store
      (meanwhile_weaker _ _ a b meanwhile (λ image map. inl map)) (λ _ _. meanwhile) (λ _. tied)

  -- a request that breaks no limit, and is a change
  module _ {T : Type 0} (change : Result State Reply) (result : Result T StoreError) (store : StoreValue) (free : limit_of request ≡ None)
      (is : answer_within bytes s request ≡ done_or_refused s change) (left : left_by request s ≡ s) (takes : IsErr result → TakesMemory s request)
      (writes : IsErr result → (to : State) → change ≡ Ok to → Writes bytes s request) (sound : IsLeft bytes s (without_job s)) (stopped : store.stopped ≡ stopped_by result)
      (cause : IfErr result (IsWriteRefusal false None a b)) where
    answer_is : answer bytes s request ≡ done_or_refused s change
    answer_is = ap (λ (o : Option Reply). unless_limit o s (answer_within bytes s request)) free ∙ is

    done_is : (to : State) → change ≡ Ok to → answer bytes s request ≡ (reply.Done, to)
    done_is to made = answer_is ∙ ap (done_or_refused s) made

    refused_is : (why : Reply) → change ≡ Err why → answer bytes s request ≡ (why, s)
    refused_is why made = answer_is ∙ ap (done_or_refused s) made

    step_memory : IsErr result → Step Cause bytes s request reply.Memory s
    step_memory failed = subst (Step Cause bytes s request reply.Memory) left (no_memory free (takes failed) tt)

    -- after a write that failed no job is left, and the store is stopped
    step_failed : IsErr result → (to : State) → change ≡ Ok to → Rose a.seen.write_faults b.seen.write_faults → Step Cause bytes s request reply.Device (without_job s)
    step_failed failed to made rose = write_failed (without_job s) free (writes failed to made) rose sound (inl refl)

    by_result : (r : Result T StoreError) → r ≡ result → (to : State) → change ≡ Ok to → IfErr r IsFailure → IfErr r (IsWriteRefusal false None a b)
        → MovesTo spelling bytes s to r store a b → AnswersRequest spelling bytes s request (told_change r) store a b
    by_result (Ok x) same to made fails why t = as_answered reply.Done to (done_is to made) (Some reply.Done) refl store t.meanwhile (λ other _. absurd (other refl)) (λ _. t.done)
    by_result (Err error.Memory) same to made fails why t =
        as_failed reply.Memory (step_memory (subst IsErr same refl)) to (ap (λ (p : Answer). p.1) (done_is to made)) (Some reply.Memory) refl store t.meanwhile (λ _ _. t.wanted refl) t.refused
    by_result (Err (error.Device cause)) same to made fails why t =
        as_failed_in (without_job s) reply.Device (step_failed (subst IsErr same refl) to made why.2) to (ap (λ (p : Answer). p.1) (done_is to made)) (Some reply.Device) refl store t.meanwhile (λ _ other. absurd (other refl))
        (λ runs. absurd (true≢false (sym (stopped ∙ ap stopped_by (sym same) ∙ why.1) ∙ runs)))
    by_result (Err error.Stopped) same to made fails why t = absurd fails
    by_result (Err (error.Limit limit)) same to made fails why t = absurd fails
    by_result (Err (error.Full need gap)) same to made fails why t = absurd fails
    by_result (Err (error.Damaged damage)) same to made fails why t = absurd fails
    by_result (Err error.NotAStore) same to made fails why t = absurd fails
    by_result (Err error.AlreadyAStore) same to made fails why t = absurd fails
    by_result (Err (error.BadSettings field)) same to made fails why t = absurd fails

    by_refusal : (why : Reply) → change ≡ Err why → IsErr result → (told_change result ≡ Some why) ⊎ (told_change result ≡ Some reply.Memory)
        → Represents spelling bytes store s b → Meanwhile (StandsForMap spelling (state_map s)) a b → AnswersRequest spelling bytes s request (told_change result) store a b
    by_refusal why made failed (inl told_is) tied meanwhile =
        as_answered why s (refused_is why made) (told_change result) told_is store (meanwhile_weaker _ _ a b meanwhile (λ image map. inl map)) (λ _ _. meanwhile) (λ _. tied)
    by_refusal why made failed (inr told_is) tied meanwhile =
        as_failed reply.Memory (step_memory failed) s (ap (λ (p : Answer). p.1) (refused_is why made)) (told_change result) told_is store
        (meanwhile_weaker _ _ a b meanwhile (λ image map. inl map)) (λ _ _. meanwhile) (λ _. tied)

    pub wrote_answers : WroteEntry spelling bytes s change result store a b → AnswersRequest spelling bytes s request (told_change result) store a b
    wrote_answers (turns to made fails t) = by_result result refl to made fails cause t
    wrote_answers (refused why made failed told_is tied meanwhile) = by_refusal why made failed told_is tied meanwhile

-- what is as it stood is left, but for the job
pub is_left : (spelling : Spelling) (bytes : FilterBytes) (store : StoreValue) (s : State) (w : World) → Represents spelling bytes store s w → IsLeft bytes s (without_job s)
is_left spelling bytes store s w tied = record { settings = refl; pages = refl; no_job = refl; sound = drop_sound bytes s tied.sound }

-- what an error has
pub on_err : {T E : Type 0} (P : Type 0) (r : Result T E) → OnErr r P → IsErr r → P
on_err P (Ok x) own failed = absurd cc
on_err P (Err e) own failed = own

-- a change that is made is one
pub is_made : {T E : Type 0} (r : Result T E) (x : T) → r ≡ Ok x → IsOk r
is_made r x is = subst IsOk (sym is) refl
