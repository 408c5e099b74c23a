use Rattle.std.proofs.Common.{◌≡◌, ◌≤◌, ◌+◌, ◌-◌, ◌∙◌, ◌∷◌, [], ℕ, List, length, ap, sym, take, drop, refl, arith}
use Rattle.std.specs.Prelude.{◌==◌, Err, IfNone, Option, Some, None}
use Rattle.std.specs.List.{slice_split}
use Rattle.std.proofs.lemmas.List.Splits.{length-slice_split}
use Rattle.map_model.specs.SortedMap.{Bytes}
use Rattle.map_run_model.specs.PairLines.{pair_of}
use Rattle.store_commands.proofs.Cuts.{behind, cut_nowhere, cut_there}
use Rattle.fst_run.proofs.pair_line.two_words.Goals as goal

none_so : {T : Type 0} (r : Option T) (P : Type 0) → P → IfNone r P
none_so (Some x) P p = tt
none_so None P p = p

three : (a b : Bytes) (more : List Bytes) → 1 ≤ length more → pair_of (a ∷ b ∷ more) ≡ Err 3
three a b [] some = absurd (omega (arith, some))
three a b (next ∷ more) some = refl

pub returns-in_err-at-clause-others : goal.returns-in_err-at-clause-others
returns-in_err-at-clause-others c = none_so _ _ (ap pair_of (cut_nowhere 32 c.args.line.now c.in_err-at.ensures))

pub returns-in-Some-clause-others : goal.returns-in-Some-clause-others
returns-in-Some-clause-others c =
    let line = c.args.line.now in
    let at = c.in_ok-at.at in
    let value = take (length line - (at + 1)) (drop (at + 1) line) in
    let rest = slice_split (λ x. x == 32) (drop (c.in-Some.field-0 + 1) value) in
    let split : slice_split (λ x. x == 32) line ≡ take at line ∷ take c.in-Some.field-0 value ∷ rest = cut_there 32 line at c.in_ok-at.ensures.0 c.in_ok-at.ensures.1
    ∙ ap (λ (l : List ℕ). take at line ∷ slice_split (λ x. x == 32) l) (sym (behind line (at + 1)))
    ∙ ap (λ (l : List (List ℕ)). take at line ∷ l) (cut_there 32 value c.in-Some.field-0 c.in-Some.ensures.0 c.in-Some.ensures.1) in
    ap pair_of split ∙ three (take at line) (take c.in-Some.field-0 value) rest (omega (arith, length-slice_split (λ (b : ℕ). b == 32) (drop (c.in-Some.field-0 + 1) value)))

pub returns-in-None-clause-two : goal.returns-in-None-clause-two
returns-in-None-clause-two c =
    let line = c.args.line.now in
    let at = c.in_ok-at.at in
    cut_there 32 line at c.in_ok-at.ensures.0 c.in_ok-at.ensures.1
    ∙ ap (λ (l : List ℕ). take at line ∷ slice_split (λ x. x == 32) l) (sym (behind line (at + 1)))
    ∙ ap (λ (l : List (List ℕ)). take at line ∷ l) (cut_nowhere 32 _ c.in-None.ensures)
