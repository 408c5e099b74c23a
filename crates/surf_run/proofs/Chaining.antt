-- Runs that follow one another, and the map that a crash leaves of one.
use Rattle.std.proofs.Common.{◌≡◌, ◌⊎◌, inl, inr, ◌≤◌, ℕ, Bool, List, refl, sym, subst}
use Rattle.std.specs.Prelude.{IsTrue}
use Rattle.byte_fields.specs.Faults.{Fault}
use Rattle.clap.specs.Walk.{Text}
use Rattle.disk_trait.specs.World.{Image, Now, World}
use Rattle.image_model.specs.Stands.{IsStateOf, as_shown}
use Rattle.line_model.specs.Lines.{lines_of}
use Rattle.map_model.specs.SortedMap.{Bytes, Map}
use Rattle.outside.proofs.Crossing.{during_weaker}
use Rattle.program_words.specs.Asked.{IsServe}
use Rattle.state_model.specs.Sound.{IsSound}
use Rattle.state_model.specs.State.{State}
use Rattle.state_model.specs.View.{state_map}
use Rattle.store_core.specs.Answers.{HasCause}
use Rattle.surf_run.specs.Chaining.{MayLeave}
use Rattle.surf_run.specs.Kind.{Kind}
use Rattle.surf_run.specs.MapCrash.{KeepsOneMap, OneMapLasts}
use Rattle.surf_run.specs.RunContract.{RunContract}
use Rattle.surf_run.specs.ServedOrNot.{NoLineAnswered, ServedOrNot}
use Rattle.surf_run.proofs.MapCrash.{keeps_one_map}

pub one_map_lasts : (kind : Kind) (status : ℕ) (start : State) (old new : World) → IsSound kind.filter_bytes start → ServedOrNot kind status start old new
    → OneMapLasts kind.spelling (state_map start) old new ⊎ NoLineAnswered status start old new
one_map_lasts kind status start old new sound (inl outcome) = inl (
  outcome.taken,
  outcome.input,
  during_weaker _ _ old new outcome.settled.crash (keeps_one_map (HasCause old new) (λ damage never. never) kind start sound (lines_of outcome.taken) old.beside.said new.beside.said),
)
one_map_lasts kind status start old new sound (inr none) = inr none

module _ {X : Type 0} (world : X → World) (tells tells_input tells_output : Bool) (kind : Kind) (first_fault : Bytes → Fault) (words again : List Text) (status next : ℕ) (old new begun ended : X) (start : State)
    (first : RunContract world tells tells_input tells_output kind first_fault words status old new) (second : RunContract world tells tells_input tells_output kind first_fault again next begun ended)
    (telling : IsTrue tells) (input : IsTrue tells_input) (output : IsTrue tells_output) (serves : IsServe words) (serves_again : IsServe again) (now : Now (IsStateOf kind.spelling start) (world old))
    (m : ℕ) (image : Image) (low : (world old).moment ≤ m) (high : m ≤ (world new).moment) (left : (world new).leaves m image) (only : Now (λ i. i ≡ image) (world begun)) where
  again_from : (s : State) → IsStateOf kind.spelling s image → ServedOrNot kind next s (world begun) (world ended)
  again_from s is = second.outcome s telling input output (λ i here. subst (IsStateOf kind.spelling s) (sym (only i here)) is) serves_again

  pub runs_chain : (s : State) × MayLeave status start (world old) (world new) m (state_map s) × ServedOrNot kind next s (world begun) (world ended)
  runs_chain = elim (first.one_map_crash start telling input output now serves) [
    | inl lasts ↦
        let there = lasts.2.each m image low high left in
        let s = as_shown there.2.0 in (
          s,
          inl (
            lasts.0,
            lasts.1,
            subst (λ (map : Map). KeepsOneMap (state_map start) (lines_of lasts.0) (world old).beside.said (world new).beside.said ((world new).beside.said_by m) map) (sym there.2.2) there.1,
          ),
          again_from s there.2.1,
        )
    | inr none ↦ (start, inr (refl, none), again_from start (now image (none.0.crash.each m image low high left)))
  ]
