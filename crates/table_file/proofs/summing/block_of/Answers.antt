use Rattle.std.proofs.Common.{rules, ◌≡◌, ◌+◌, ◌-◌, ◌*◌, ℕ, take, drop, ap, ◌∙◌, arith}
use Rattle.table_file.proofs.BlockSums.{bytes_are, bytes_within}
use Rattle.table_file.proofs.summing.block_of.Goals as goal

pub overflow_mul-at : goal.overflow_mul-at
overflow_mul-at c =
    let within = bytes_within c.args.rows.now c.args.n c.requires.there c.index-rows-n.result c.index-rows-n.is c.args.blocks.now c.requires.rows in
    search rules

pub overflow_add-result : goal.overflow_add-result
overflow_add-result c =
    let within = bytes_within c.args.rows.now c.args.n c.requires.there c.index-rows-n.result c.index-rows-n.is c.args.blocks.now c.requires.rows in
    search rules

pub slice_bounds-result-end : goal.slice_bounds-result-end
slice_bounds-result-end c =
    let within = bytes_within c.args.rows.now c.args.n c.requires.there c.index-rows-n.result c.index-rows-n.is c.args.blocks.now c.requires.rows in
    search rules

pub returns : goal.returns
returns c first k seen =
    let r = c.index-rows-n.result in
    let size : 4096 * r.first + 4096 * r.pages - 4096 * r.first ≡ 4096 * r.pages = omega arith in
    ap (λ (m : ℕ). take m (drop (4096 * r.first) c.args.blocks.now)) size
    ∙ bytes_are c.args.rows.now c.args.n c.requires.there r c.index-rows-n.is c.args.blocks.now c.requires.rows first k seen
