use Rattle.std.proofs.Common.{rules, ◌≡◌, ◌+◌, ◌*◌, ℕ, Bool, true, not, sym, ap, ap₂, ◌∙◌, arith}
use Rattle.std.specs.Prelude.{◌==◌, ◌&&◌}
use Rattle.std.proofs.lemmas.Bool.{eq-eqb}
use Rattle.std.specs.Prelude.{Err}
use Rattle.block_model.specs.Places.{byte_of_page, filter_page}
use Rattle.table_file.proofs.Damages.{fault_damage, leaves_damage, sum_damage, widths_damage}
use Rattle.table_file.proofs.opening.judged_filter.Goals as goal

pub returns-in_err-check_sum-clause-damaged : goal.returns-in_err-check_sum-clause-damaged
returns-in_err-check_sum-clause-damaged g c image part_is =
    let at : 4096 * (c.from.result + c.from-2.result + c.from-3.result) ≡ byte_of_page (filter_page c.args.row.now) = omega (arith, c.from.ensures, c.from-2.ensures, c.from-3.ensures) in
    let here = sum_damage g.F.RangeFilter.spelling g.F.RangeFilter.first_fault c.args.row.now image c.args.bytes.now _ part_is at c.in_err-check_sum.field-0.0 c.in_err-check_sum.ensures.other in
    search rules

pub returns-in-Err-Fault-clause-damaged : goal.returns-in-Err-Fault-clause-damaged
returns-in-Err-Fault-clause-damaged g c image part_is =
    let at : 4096 * (c.from.result + c.from-2.result + c.from-3.result) ≡ byte_of_page (filter_page c.args.row.now) = omega (arith, c.from.ensures, c.from-2.ensures, c.from-3.ensures) in
    let found = c.in-Err-Fault.ensures.fault c.in-Err-Fault.fault (ap Err c.in-Err-Fault.field-0-is) in
    fault_damage g.F.RangeFilter.spelling g.F.RangeFilter.first_fault c.args.row.now image c.args.bytes.now _ part_is at c.in_ok-check_sum.ensures.same c.in-Err-Fault.fault c.shape.result found.0 found.1 c.shape.ensures

pub returns-then-leaves-row-clause-damaged : goal.returns-then-leaves-row-clause-damaged
returns-then-leaves-row-clause-damaged g c image part_is =
    let at : 4096 * (c.from.result + c.from-2.result + c.from-3.result) ≡ byte_of_page (filter_page c.args.row.now) = omega (arith, c.from.ensures, c.from-2.ensures, c.from-3.ensures) in
    leaves_damage g.F.RangeFilter.spelling g.F.RangeFilter.first_fault c.args.row.now image c.args.bytes.now _ part_is at c.in_ok-check_sum.ensures.same _ _ _ _ c.shape-then-leaves-row.result c.in-Ok.ensures.spelled
    (λ e. c.if-leaves-row.true (c.leaves.ensures ∙ e)) c.shape-then-leaves-row.ensures

-- two that are not both so
not_both : (a b m n : ℕ) → not ((a == m) && (b == n)) ≡ true → a ≡ m → b ≡ n → ⊥
not_both a b m n differ same also = let both = sym (ap₂ (λ (x y : Bool). not (x && y)) (eq-eqb a m same) (eq-eqb b n also)) ∙ differ in cc

pub returns-then-ne-clause-damaged : goal.returns-then-ne-clause-damaged
returns-then-ne-clause-damaged g c image part_is =
    let at : 4096 * (c.from.result + c.from-2.result + c.from-3.result) ≡ byte_of_page (filter_page c.args.row.now) = omega (arith, c.from.ensures, c.from-2.ensures, c.from-3.ensures) in
    let row = c.args.row.now in
    widths_damage g.F.RangeFilter.spelling g.F.RangeFilter.first_fault row image c.args.bytes.now _ part_is at c.in_ok-check_sum.ensures.same _ _ _ _ c.shape-then-ne.result c.in-Ok.ensures.spelled
    (sym c.leaves.ensures ∙ c.if-leaves-row.false)
    (λ same. not_both c.widths.result.0 c.widths.result.1 row.hash_bits row.real_bits (sym c.ne.ensures ∙ c.if-ne.true) (c.widths.ensures.hash ∙ same.hash) (c.widths.ensures.real ∙ same.real))
    c.shape-then-ne.ensures
