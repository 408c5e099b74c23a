-- Runs that answer no line, and runs in which no call fails.
use Rattle.std.proofs.Common.{◌≡◌, ◌⊎◌, ◌≤◌, ◌∙◌, ◌++◌, inl, inr, ap, subst, ℕ}
use Rattle.disk_trait.specs.World.{Streams, World}
use Rattle.lines_in.specs.Causes.{IsServing}
use Rattle.lines_in.specs.Unserved.{Unserved}
use Rattle.lines_in.proofs.LastLines.{untouched_since}
use Rattle.map_model.specs.SortedMap.{Bytes}
use Rattle.outside.specs.Streams.{SaidByNow, SaysPrefix}
use Rattle.state_model.specs.State.{State}
use Rattle.surf_run.specs.Kind.{Kind}
use Rattle.surf_run.specs.Open.{IsFreeText, OpenMoves}
use Rattle.surf_run.specs.Outcome.{Outcome}

-- the same since before the opening
pub unserved_since : (IsText : ℕ → Bytes → Type 0) (status : ℕ) (old mid new : World) → OpenMoves old mid → SaidByNow old → Unserved IsText status mid new → Unserved IsText status old new
unserved_since IsText status old mid new opened now_old none =
    let said_same : mid.beside.said ≡ old.beside.said = ap (λ (s : Streams). s.said) opened.beside in
    record {
      input = none.input ∙ ap (λ (s : Streams). s.to_take) opened.beside;
      line = (
        none.line.0,
        none.line.1,
        none.line.2,
        elim none.line.3 [
          | inl all ↦ inl (all.0, all.1 ∙ ap (λ (s : Bytes). s ++ none.line.1) said_same)
          | inr part ↦ inr (part.0, subst (λ (s : Bytes). SaysPrefix none.line.1 s new.beside.said) said_same part.1)
        ],
      );
      crash = untouched_since old mid new opened.beside now_old opened.time none.crash;
    }

-- ---- the statuses of a run from a state

-- lines were answered, or there was no memory, or the device failed
pub free_status : (kind : Kind) (status : ℕ) (start : State) (base : ℕ) (a b c d : World) (Reads : Type 0) → Outcome kind status start base a b ⊎ Unserved IsFreeText status c d × Reads → IsServing status ⊎ (status ≡ 7)
free_status kind status start base a b c d Reads ends = elim ends [
  | inl outcome ↦ inl outcome.settled.serving
  | inr none ↦ elim none.0.line.3 [
    | inl all ↦ elim none.0.line.2 [ inl four ↦ inl (inr (inr (inl (all.0 ∙ four.0)))) | inr seven ↦ inr (all.0 ∙ seven.0) ]
    | inr part ↦ inl (inr (inr (inr (inl part.0))))
  ]
]
