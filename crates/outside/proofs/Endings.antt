-- How a take or a say ends, as what any outside promises.
use Rattle.std.proofs.Common.{◌↔◌, ◌⊎◌, ◌≡◌, ◌≤◌, ◌<◌, ◌+◌, ◌++◌, ℕ, List, length, take, refl, sym, ap, ◌∙◌, subst, arith, inl, inr, take-append-drop}
use Rattle.std.specs.Prelude.{Result, Ok, Err, IfOk, IsErr, Contains}
use Rattle.std.proofs.lemmas.List.{nil_from_length}
use Rattle.disk_mem.specs.History.{counted_on}
use Rattle.outside.specs.Session.{Session, TakeEnds, SayEnds, StarvesSay, IsClock, session_world}
use Rattle.outside.specs.Streams.{Takes, SayMoves}
use Rattle.outside.proofs.Sessions.{say_done, say_failed}

-- what was taken is a prefix of what was to take
pub take_takes : {E : Type 0} (into : List ℕ) (room : ℕ) (result : Result ℕ E) (old new : Session) → 0 < room → 1 ≤ old.pace → TakeEnds room result old new
    → IfOk result (λ n. take n into ≡ take n old.to_take) → IfOk result (λ n. Takes n into (session_world old).beside (session_world new).beside)
take_takes into room (Ok n) old new some pace ends same = record {
  bytes = sym (take-append-drop n old.to_take) ∙ (λ i. sym same i ++ ((sym ends.2) i).to_take);
  end = λ none. nil_from_length old.to_take (omega (arith, ends.1, none, some, pace));
}
take_takes into room (Err e) old new some pace ends same = tt

pub say_some : {E : Type 0} (from : List ℕ) (result : Result ℕ E) (old new : Session) → 0 < length from → 1 ≤ old.pace → SayEnds from result old new → IfOk result (λ n. 1 ≤ n)
say_some from (Ok n) old new some pace ends = omega (arith, ends.1, some, pace)
say_some from (Err e) old new some pace ends = tt

pub say_moves : {E : Type 0} (from : List ℕ) (result : Result ℕ E) (old new : Session) → IsClock (length old.disk.calls) (length old.said) old.marks → SayEnds from result old new → SayMoves (session_world old) (session_world new)
say_moves from (Ok n) old new clock ends = subst (λ (s : Session). SayMoves (session_world old) (session_world s)) (sym ends.2) (say_done old (take n from) (length old.said + n) (counted_on old.says) clock)
say_moves from (Err e) old new clock (inl listed) = subst (λ (s : Session). SayMoves (session_world old) (session_world s)) (sym listed.1) (say_failed old (counted_on old.says) (counted_on old.say_faults) clock (omega arith))
say_moves from (Err e) old new clock (inr starved) = subst (λ (s : Session). SayMoves (session_world old) (session_world s)) (sym starved) (say_failed old old.says (counted_on old.say_faults) clock (omega arith))

-- a say fails exactly where its number is listed, or it was without memory
pub say_fails : {E : Type 0} (from : List ℕ) (result : Result ℕ E) (old new : Session) → SayEnds from result old new → IsErr result ↔ (Contains old.failing_says old.says ⊎ StarvesSay old new)
say_fails from (Ok n) old new ends = (
  λ failed. absurd cc,
  elim [
    | inl listed ↦ absurd (ends.0 listed)
    | inr starved ↦ absurd (omega (arith, ap (λ (s : Session). length s.marks) ends.2, ap (λ (s : Session). length s.marks) starved))
  ],
)
say_fails from (Err e) old new (inl listed) = (λ failed. inl listed.0, λ cause. refl)
say_fails from (Err e) old new (inr starved) = (λ failed. inr starved, λ cause. refl)
