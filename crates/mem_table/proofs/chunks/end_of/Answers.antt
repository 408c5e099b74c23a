use Rattle.std.proofs.Common.{rules, ◌≡◌, ◌-◌, ◌∙◌, ℕ, length, get_or, ap, arith}
use Rattle.arrayvec.specs.ArrayVec.{ArrayVec, array_vec_len}
use Rattle.mem_table.specs.Chunks.{flat_at}
use Rattle.mem_table.proofs.Flat.{gap_from, end_behind}
use Rattle.mem_table.proofs.chunks.end_of.Goals as goal

pub returns-in-Some-clause-gap : goal.returns-in-Some-clause-gap
returns-in-Some-clause-gap c =
    let last : c.in-Some.chunk.now ≡ get_or c.args.chunks.now (length c.args.chunks.now - 1) c.in-Some.chunk.now = search rules in
    gap_from c.args.chunks.now (length c.args.chunks.now - 1) c.len.result c.in-Some.chunk.now (search rules) (rw (← last) (omega (arith, c.len.ensures.value)))

pub returns-in-Some-clause-end : goal.returns-in-Some-clause-end
returns-in-Some-clause-end c =
    let last : c.in-Some.chunk.now ≡ get_or c.args.chunks.now (length c.args.chunks.now - 1) c.in-Some.chunk.now = search rules in
    ap (flat_at c.args.chunks.now (length c.args.chunks.now - 1)) (c.len.ensures.value ∙ ap (λ (x : ArrayVec ℕ). array_vec_len x) last)
    ∙ end_behind c.args.chunks.now c.in-Some.chunk.now (search rules)
