use Rattle.std.proofs.Common.{◌≡◌, ◌++◌, List, [], ◌∷◌, refl, subst}
use Rattle.std.specs.Prelude.{⊤, codes}
use Rattle.map_model.specs.SortedMap.{Bytes}
use Rattle.line_model.specs.Requests.{Quit, request_of}
use Rattle.line_model.specs.Replies.{Reply}
use Rattle.state_model.specs.Examples.{one_byte, small_store}
use Rattle.state_model.specs.State.{State}
use Rattle.state_model.specs.Script.{AsSaid, Answers, nothing, answered, turn_of}
use Rattle.state_model.specs.Steps.{Step}
use Rattle.state_model.proofs.AnyCause.{ever_steps}
use Rattle.state_model.proofs.Unanswered.{quit_step}
use Rattle.state_model.proofs.examples.what_a_quit_is_said_in.Goals as goal

-- it is answered as said, so in a state that has what none has
said_in_none : (before after : State) (reply : Reply) → Step (λ why. ⊤) one_byte before Quit reply after → AsSaid (turn_of reply) ⊥ → ⊥
said_in_none before after reply step holds =
    let bye = (quit_step one_byte before after reply (ever_steps (λ why. ⊤) one_byte before after Quit reply step)).0 in
    subst (λ (r : Reply). AsSaid (turn_of r) ⊥) bye holds

the_last : (first : List Bytes) (last line : Bytes) → first ++ (last ∷ []) ≡ line ∷ [] → last ≡ line
the_last [] last line e = cc
the_last (x ∷ []) last line e = let wrong : last ∷ [] ≡ [] = cc in absurd cc
the_last (x ∷ (y ∷ more)) last line e = let wrong : y ∷ (more ++ (last ∷ [])) ≡ [] = cc in absurd cc

none_answered : (lines : List Bytes) (text : Bytes) (after : State) → Answers (λ why. ⊤) one_byte (λ said s. ⊥) 0 small_store lines text after → lines ≡ codes "quit" ∷ [] → ⊥
none_answered lines text after d = elim d as (λ ls t new _. ls ≡ codes "quit" ∷ [] → ⊥) [
  | nothing ↦ λ e. absurd cc
  | answered first last all reply new d ↦ λ e. said_in_none d.before new reply
      (subst (λ (l : Bytes). Step (λ why. ⊤) one_byte d.before (request_of l) reply new) (the_last first last (codes "quit") e) d.step) d.holds
]

pub returns-clause-no_answer_where_no_state_has_it : goal.returns-clause-no_answer_where_no_state_has_it
returns-clause-no_answer_where_no_state_has_it c = λ d. none_answered _ _ _ d refl

pub returns-clause-and_no_script : goal.returns-clause-and_no_script
returns-clause-and_no_script c = λ script. said_in_none small_store script.2 script.0 script.4 script.5
