-- Calls by their numbers: those of one number more are one call more.
use Rattle.std.proofs.Common.{◌≡◌, ◌<◌, ◌+◌, ◌-◌, ℕ, suc, List, [], ◌∷◌, length, drop, refl, ap, ◌∙◌, arith}
use Rattle.std.proofs.Math.Seq.{drop-cons}
use Rattle.disk_mem.specs.Calls.{Call, call_at, no_call, calls_by}

pub calls_by-next : (number : ℕ) (calls : List Call) → number < length calls → calls_by (number + 1) calls ≡ call_at calls number ∷ calls_by number calls
calls_by-next number calls lt =
    let next : suc (length calls - (number + 1)) ≡ length calls - number = omega (arith, lt) in
    drop-cons calls (length calls - (number + 1)) no_call (omega (arith, lt)) ∙ ap (λ (k : ℕ). call_at calls number ∷ drop k calls) next

pub calls_by-none : (calls : List Call) → calls_by 0 calls ≡ []
calls_by-none [] = refl
calls_by-none (call ∷ calls) = let all : length (call ∷ calls) - 0 ≡ suc (length calls) = omega arith in ap (λ (k : ℕ). drop k (call ∷ calls)) all ∙ past calls where
  past : (l : List Call) → drop (length l) l ≡ []
  past [] = refl
  past (x ∷ l) = past l
