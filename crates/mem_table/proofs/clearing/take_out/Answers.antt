use Rattle.std.proofs.Common.{rules, ◌≡◌, ◌<◌, ◌∙◌, [], ◌∷◌, ℕ, List, length, get_or, refl, ap, arith}
use Rattle.arrayvec.specs.ArrayVec.{ArrayVec}
use Rattle.mem_table.specs.Chunks.{places_outside}
use Rattle.range_model.specs.Ranges.{range_of}
use Rattle.mem_table.proofs.Cleared.{taken_part, taken_whole}
use Rattle.mem_table.proofs.clearing.take_out.Goals as goal
use Rattle.mem_table.proofs.clearing.take_out.Goals.{then-not-is_empty, else-not-is_empty}

none_of : (xs : List ℕ) → length xs ≡ 0 → xs ≡ []
none_of [] e = refl
none_of (x ∷ xs) e = absurd (omega (arith, e))

pub loop-i-preserved : goal.loop-i-preserved
loop-i-preserved c =
    let entries = c.args.entries.now in
    let range = range_of c.args.lo.now c.args.hi.now in
    let old = c.args.chunks.now.items in
    let chunks = c.loop-i.chunks.items in
    let left = c.outside-left.result in
    let here = c.loop-i.invariant in
    let lt : c.loop-i.i < length old = omega (arith, c.loop-i-test.true, c.len-i-end.ensures) in
    let is : left.items ≡ places_outside entries range (get_or chunks c.loop-i.i c.index.result.now).items =
    c.outside-left.ensures ∙ ap (λ (x : ArrayVec ℕ). places_outside entries range x.items) c.index.ensures in
    elim c.if-not-is_empty.branch [
      | then-not-is_empty w ↦
          let some : 0 < length left.items = search rules in
          rw (w.chunks-is, w.kept-is) (record { taken = taken_part entries range old chunks c.loop-i.i c.loop-i.kept here.taken lt left c.index.result.now is some; capacity = here.capacity })
      | else-not-is_empty w ↦
          let none : length left.items ≡ 0 = search rules in
          rw (w.chunks-is, w.kept-is) (record { taken = taken_whole entries range old chunks c.loop-i.i c.loop-i.kept here.taken lt left c.index.result.now is (none_of left.items none); capacity = here.capacity })
    ]
