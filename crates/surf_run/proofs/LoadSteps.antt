-- Steps of a load, and what they make of the map.
use Rattle.std.proofs.Common.{◌≡◌, ◌++◌, ℕ, Bool, true, false, List, [], ◌∷◌, refl, sym, ap, ◌∙◌, subst, append_assoc}
use Rattle.std.specs.Prelude.{Option, Some, None, Result, Ok, Err, fold}
use Rattle.std.proofs.lemmas.List.{append-nil}
use Rattle.std.proofs.lemmas.List.Sums.{fold-append}
use Rattle.disk_trait.specs.World.{Image}
use Rattle.entry_model.specs.Entries.{Entry, change_by, changed, del_entry, put_entry}
use Rattle.image_model.specs.Stands.{StandsForMap}
use Rattle.line_model.specs.Limits.{limit_of}
use Rattle.line_model.specs.Replies.{Damaged, Device, Done, Memory, Reply}
use Rattle.line_model.specs.Requests.{Del, Put}
use Rattle.map_model.specs.SortedMap.{Bytes, Map, del, put}
use Rattle.state_model.proofs.Lines.{lines_change}
use Rattle.state_model.specs.Causes.{Why}
use Rattle.range_model.specs.Sources.{Sets}
use Rattle.state_model.specs.Changes.{written}
use Rattle.state_model.specs.Laws.{map_behind}
use Rattle.state_model.specs.PlayLaws.{has_slice}
use Rattle.state_model.specs.Script.{AtDevice, Onward, Over}
use Rattle.state_model.specs.State.{State}
use Rattle.state_model.specs.Steps.{Step, answer, answers, damage_met, done_or_refused, no_memory, read_failed, unless_limit, write_failed}
use Rattle.state_model.specs.View.{state_map}
use Rattle.surf_run.specs.Kind.{Kind}
use Rattle.surf_run.specs.Loading.{IsAnswer, stepped_map}
use Rattle.surf_run.specs.Crash.{HasMap}
use Rattle.surf_run.specs.Loads.{FailsAt, HasFirstSteps, IsPassedOver, Loaded, StepMade, change_of, change_to, step_behind}
use Rattle.surf_run.specs.Loads as loads
use Rattle.surf_run.proofs.Dialogues.{between_as, step_as}
use Rattle.table_model.specs.Tables.{FilterBytes}

-- ---- one step

value_slices : (key : Bytes) (value : Option Bytes) → has_slice (change_to key value) ≡ true
value_slices key (Some v) = refl
value_slices key None = refl

-- a merge slice comes after it
pub step_slices : (step : Entry) → has_slice (change_of step) ≡ true
step_slices step = value_slices step.key step.value

-- ---- a step that is done

done_by : (C : Why → Type 0) (filter_bytes : FilterBytes) (s : State) (key : Bytes) (value : Option Bytes) (reply : Reply) (after : State) → Step C filter_bytes s (change_to key value) reply after → reply ≡ Done
    → state_map after ≡ change_by (state_map s) key value
done_by C filter_bytes s key (Some v) reply after d = elim d as (λ r new _. r ≡ Done → state_map new ≡ put (state_map s) key v) [
  | answers ↦ λ is. lines_change filter_bytes s (Put key v) ∙ ap (λ (r : Reply). map_behind (Put key v) r (state_map s)) is
  | no_memory within takes cause ↦ λ is. absurd (let e : Memory ≡ Done = is in cc)
  | read_failed r within reads cause so ↦ λ is. absurd (let e : Device ≡ Done = sym so ∙ is in cc)
  | damage_met damage r within reads cause so ↦ λ is. absurd (let e : Damaged damage ≡ Done = sym so ∙ is in cc)
  | write_failed new within writes cause left same ↦ λ is. absurd (let e : Device ≡ Done = is in cc)
]
done_by C filter_bytes s key None reply after d = elim d as (λ r new _. r ≡ Done → state_map new ≡ del (state_map s) key) [
  | answers ↦ λ is. lines_change filter_bytes s (Del key) ∙ ap (λ (r : Reply). map_behind (Del key) r (state_map s)) is
  | no_memory within takes cause ↦ λ is. absurd (let e : Memory ≡ Done = is in cc)
  | read_failed r within reads cause so ↦ λ is. absurd (let e : Device ≡ Done = sym so ∙ is in cc)
  | damage_met damage r within reads cause so ↦ λ is. absurd (let e : Damaged damage ≡ Done = sym so ∙ is in cc)
  | write_failed new within writes cause left same ↦ λ is. absurd (let e : Device ≡ Done = is in cc)
]

-- ---- a step that is refused

unless_stays : (s : State) (limit : Option Reply) (made : Result State Reply) → ((unless_limit limit s (done_or_refused s made)).0 ≡ Done → ⊥) → (unless_limit limit s (done_or_refused s made)).1 ≡ s
unless_stays s (Some reply) made other = refl
unless_stays s None (Ok new) other = absurd (other refl)
unless_stays s None (Err refusal) other = refl

stays_by : (C : Why → Type 0) (filter_bytes : FilterBytes) (s : State) (key : Bytes) (value : Option Bytes) (reply : Reply) (after : State) → Step C filter_bytes s (change_to key value) reply after
    → (reply ≡ Done → ⊥) → (reply ≡ Device → ⊥) → after ≡ s
stays_by C filter_bytes s key (Some v) reply after d = elim d as (λ r new _. (r ≡ Done → ⊥) → (r ≡ Device → ⊥) → new ≡ s) [
  | answers ↦ λ done device. unless_stays s (limit_of (Put key v)) (written filter_bytes s (Sets (put_entry key v))) done
  | no_memory within takes cause ↦ λ done device. refl
  | read_failed r within reads cause so ↦ λ done device. refl
  | damage_met damage r within reads cause so ↦ λ done device. refl
  | write_failed new within writes cause left same ↦ λ done device. absurd (device refl)
]
stays_by C filter_bytes s key None reply after d = elim d as (λ r new _. (r ≡ Done → ⊥) → (r ≡ Device → ⊥) → new ≡ s) [
  | answers ↦ λ done device. unless_stays s (limit_of (Del key)) (written filter_bytes s (Sets (del_entry key))) done
  | no_memory within takes cause ↦ λ done device. refl
  | read_failed r within reads cause so ↦ λ done device. refl
  | damage_met damage r within reads cause so ↦ λ done device. refl
  | write_failed new within writes cause left same ↦ λ done device. absurd (device refl)
]

module _ (C : Why → Type 0) (filter_bytes : FilterBytes) (s : State) (step : Entry) (reply : Reply) (after : State) (answered : Step C filter_bytes s (change_of step) reply after) where
  pub done_map : reply ≡ Done → state_map after ≡ changed (state_map s) step
  done_map is = done_by C filter_bytes s step.key step.value reply after answered is

  pub refused_stays : (reply ≡ Done → ⊥) → (reply ≡ Device → ⊥) → after ≡ s
  refused_stays done device = stays_by C filter_bytes s step.key step.value reply after answered done device

  -- done, or passed over
  pub answer_makes : (done : Bool) → IsAnswer done reply → state_map after ≡ stepped_map done (state_map s) step
  answer_makes true is = done_map is
  answer_makes false over = ap state_map (refused_stays (λ is. subst IsPassedOver is over) (λ is. subst IsPassedOver is over))

-- ---- the answer to such a step

never_memory : (done : Bool) → IsAnswer done Memory → ⊥
never_memory true is = let e : Memory ≡ Done = is in cc
never_memory false over = over

never_device : (done : Bool) → IsAnswer done Device → ⊥
never_device true is = let e : Device ≡ Done = is in cc
never_device false over = over

-- it is what the step got
answer_by : (C : Why → Type 0) (filter_bytes : FilterBytes) (s : State) (key : Bytes) (value : Option Bytes) (done : Bool) (reply : Reply) (after : State) → Step C filter_bytes s (change_to key value) reply after
    → IsAnswer done reply → IsAnswer done (answer filter_bytes s (change_to key value)).0
answer_by C filter_bytes s key (Some v) done reply after d = elim d as (λ r new _. IsAnswer done r → IsAnswer done (answer filter_bytes s (Put key v)).0) [
  | answers ↦ λ is. is
  | no_memory within takes cause ↦ λ is. absurd (never_memory done is)
  | read_failed r within reads cause so ↦ λ is. absurd reads
  | damage_met damage r within reads cause so ↦ λ is. absurd reads
  | write_failed new within writes cause left same ↦ λ is. absurd (never_device done is)
]
answer_by C filter_bytes s key None done reply after d = elim d as (λ r new _. IsAnswer done r → IsAnswer done (answer filter_bytes s (Del key)).0) [
  | answers ↦ λ is. is
  | no_memory within takes cause ↦ λ is. absurd (never_memory done is)
  | read_failed r within reads cause so ↦ λ is. absurd reads
  | damage_met damage r within reads cause so ↦ λ is. absurd reads
  | write_failed new within writes cause left same ↦ λ is. absurd (never_device done is)
]

-- so a crash leaves the map after the step, and not another one
pub answer_stepped : (C : Why → Type 0) (filter_bytes : FilterBytes) (s : State) (step : Entry) (done : Bool) (reply : Reply) (after : State) → Step C filter_bytes s (change_of step) reply after → IsAnswer done reply
    → state_map (answer filter_bytes s (change_of step)).1 ≡ stepped_map done (state_map s) step
answer_stepped C filter_bytes s step done reply after answered is =
    answer_makes C filter_bytes s step (answer filter_bytes s (change_of step)).0 (answer filter_bytes s (change_of step)).1 answers done (answer_by C filter_bytes s step.key step.value done reply after answered is)

-- ---- steps under other causes

module _ (C D : Why → Type 0) (filter_bytes : FilterBytes) (weaker : (why : Why) → C why → D why) where
  pub step_made_as : (step : Entry) (reply : Reply) (before after : State) → StepMade C filter_bytes step reply before after → StepMade D filter_bytes step reply before after
  step_made_as step reply before after made = record {
    mid = made.mid;
    answered = step_as C D filter_bytes weaker before (change_of step) reply made.mid made.answered;
    between = between_as C D filter_bytes weaker made.mid Onward after (change_of step) made.between;
  }

  pub fails_as : (step : Entry) (before : State) (text : Bytes) → FailsAt C filter_bytes step before text → FailsAt D filter_bytes step before text
  fails_as step before text failed = elim failed as (λ t _. FailsAt D filter_bytes step before t) [
    | loads.in_change after answered ↦ loads.in_change after (step_as C D filter_bytes weaker before (change_of step) Device after answered)
    | loads.in_slice reply mid after answered is between ↦ loads.in_slice reply mid after (step_as C D filter_bytes weaker before (change_of step) reply mid answered) is
        (between_as C D filter_bytes weaker mid (Over AtDevice) after (change_of step) between)
  ]

  module _ (start : State) (seed : ℕ) where
    pub loaded_as : (n : ℕ) (kept : List Entry) (refused : ℕ) (now : State) → Loaded C filter_bytes start seed n kept refused now → Loaded D filter_bytes start seed n kept refused now
    loaded_as n kept refused now loads.none = loads.none
    loaded_as n kept refused now (loads.done m few less before after earlier made) =
        loads.done m few less before after (loaded_as m few less before earlier) (step_made_as (step_behind seed m) Done before after made)
    loaded_as n kept refused now (loads.passed_over m few less before after reply earlier made over) =
        loads.passed_over m few less before after reply (loaded_as m few less before earlier) (step_made_as (step_behind seed m) reply before after made) over

-- ---- the map of steps that were kept

pub kept_more : (map : Map) (kept : List Entry) (step : Entry) → fold changed map (kept ++ (step ∷ [])) ≡ changed (fold changed map kept) step
kept_more map kept step = fold-append changed map kept (step ∷ [])

module _ (kind : Kind) (start : State) (kept : List Entry) where
  -- all of them
  pub first_all : (now : State) → state_map now ≡ fold changed (state_map start) kept → (image : Image) → HasMap kind now image → HasFirstSteps kind start kept image
  first_all now map image has = (kept, [], sym (append-nil kept), subst (λ (m : Map). StandsForMap kind.spelling m image) map has)

  -- some of them are some of more
  pub first_more : (more : List Entry) (image : Image) → HasFirstSteps kind start kept image → HasFirstSteps kind start (kept ++ more) image
  first_more more image has = (has.0, has.1 ++ more, ap (λ (l : List Entry). l ++ more) has.2 ∙ append_assoc has.0 has.1 more, has.3)
