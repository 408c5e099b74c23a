use Rattle.std.proofs.Common.{◌≡◌, ◌<◌, ◌∙◌, refl, sym, subst, arith, length, inl, inr, List, ℕ}
use Rattle.std.proofs.lemmas.Bool.{eqb-true, eqb-false}
use Rattle.lines_in.specs.Holding.{PendingLine}
use Rattle.lines_in.specs.declared.line_end.LineEnd.TheVariants.{End, Quit}
use Rattle.lines_in.proofs.EndCauses.{lines_none}
use Rattle.lines_in.proofs.Footprint.{within_none}
use Rattle.lines_in.proofs.Readings.{ended_last, read_empty, read_last}
use Rattle.lines_in.proofs.reading.end_input.Goals as goal

pub returns-then-is_empty-clause-ended : goal.returns-then-is_empty-clause-ended
returns-then-is_empty-clause-ended g c start first taken tells output none less served =
    read_empty g.row.MOST (λ lines. g.R.LineReader.has_read start lines c.args.reader.now first c.args.out.now) taken c.args.pending.now served _ (λ end lines line. g.R.LineReader.has_ended end start lines line first c.args.out.now) none less
    (eqb-true _ 0 (sym c.if-is_empty.ensures))

pub returns-in-Next-clause-ended : goal.returns-in-Next-clause-ended
returns-in-Next-clause-ended g c start first taken tells output none less served =
    let some : 0 < length c.args.pending.now = let not = eqb-false _ 0 (sym c.if-is_empty.ensures) in omega arith in
    let handed = subst (λ (n : ℕ). PendingLine n served.rest c.as_slice.result.now) c.requires.longest (subst (λ (l : List ℕ). PendingLine g.row.MOST served.rest l) (sym c.as_slice.ensures) served.held) in
    read_last g.row.MOST (λ lines. g.R.LineReader.has_read start lines c.args.reader.now first c.args.out.now) taken c.args.pending.now served _ (λ end lines line. g.R.LineReader.has_ended end start lines line first c.read_line.new.out) some
    (λ lines. g.R.LineReader.has_read start lines c.read_line.new.self first c.read_line.new.out) (c.read_line.ensures.moves.input ∙ none) less (c.in-Next.ensures.read start first served.lines served.rest tells output handed served.read)

pub returns-in-Quit-clause-ended : goal.returns-in-Quit-clause-ended
returns-in-Quit-clause-ended g c start first taken tells output none less served =
    let some : 0 < length c.args.pending.now = let not = eqb-false _ 0 (sym c.if-is_empty.ensures) in omega arith in
    let handed = subst (λ (n : ℕ). PendingLine n served.rest c.as_slice.result.now) c.requires.longest (subst (λ (l : List ℕ). PendingLine g.row.MOST served.rest l) (sym c.as_slice.ensures) served.held) in
    ended_last g.row.MOST (λ lines. g.R.LineReader.has_read start lines c.args.reader.now first c.args.out.now) taken c.args.pending.now served _ (λ end lines line. g.R.LineReader.has_ended end start lines line first c.read_line.new.out) some
    (λ lines. g.R.LineReader.has_read start lines c.read_line.new.self first c.read_line.new.out) Quit 0 (c.read_line.ensures.moves.input ∙ none) refl (c.in-Quit.ensures.read start first served.lines served.rest tells output handed served.read)

pub returns-in-End-clause-ended : goal.returns-in-End-clause-ended
returns-in-End-clause-ended g c start first taken tells output none less served =
    let some : 0 < length c.args.pending.now = let not = eqb-false _ 0 (sym c.if-is_empty.ensures) in omega arith in
    let handed = subst (λ (n : ℕ). PendingLine n served.rest c.as_slice.result.now) c.requires.longest (subst (λ (l : List ℕ). PendingLine g.row.MOST served.rest l) (sym c.as_slice.ensures) served.held) in
    ended_last g.row.MOST (λ lines. g.R.LineReader.has_read start lines c.args.reader.now first c.args.out.now) taken c.args.pending.now served _ (λ end lines line. g.R.LineReader.has_ended end start lines line first c.read_line.new.out) some
    (λ lines. g.R.LineReader.has_read start lines c.read_line.new.self first c.read_line.new.out) (End c.in-End.status) c.in-End.status (c.read_line.ensures.moves.input ∙ none) refl
    (c.in-End.ensures.read start first served.lines served.rest tells output handed served.read)

pub returns-in-End-clause-cause : goal.returns-in-End-clause-cause
returns-in-End-clause-cause g c = inr c.in-End.ensures.cause

pub returns-then-is_empty-clause-moves : goal.returns-then-is_empty-clause-moves
returns-then-is_empty-clause-moves g c = lines_none _

pub returns-then-is_empty-clause-within : goal.returns-then-is_empty-clause-within
returns-then-is_empty-clause-within g c = within_none _ _
