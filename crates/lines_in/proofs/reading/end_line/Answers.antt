use Rattle.std.proofs.Common.{◌≡◌, ◌∙◌, ◌++◌, ap, sym, subst, List, ℕ, length}
use Rattle.std.proofs.lemmas.Bool.{eqb-true}
use Rattle.lines_in.specs.Holding.{PendingLine}
use Rattle.lines_in.proofs.Readings.{held_whole, line_read}
use Rattle.lines_in.proofs.Texts.{held_none, nothing}
use Rattle.lines_in.proofs.reading.end_line.Goals as goal

pub returns-then-is_empty-clause-after : goal.returns-then-is_empty-clause-after
returns-then-is_empty-clause-after g c start first bytes tells output served =
    let part = c.args.part.now in
    let none : length c.args.pending.now ≡ 0 = eqb-true _ 0 (sym c.if-is_empty.ensures) in
    let empty = held_none g.row.MOST served.rest c.args.pending.now served.held none in
    let whole : part ≡ served.rest ++ part = ap (λ (l : List ℕ). l ++ part) (sym empty) in
    line_read g.row.MOST _ bytes c.args.pending.now served part c.requires.one_line
    (λ lines. g.R.LineReader.has_read start lines c.read_line.new.self first c.read_line.new.out) (λ end lines line. g.R.LineReader.has_ended end start lines line first c.read_line.new.out)
    c.args.pending.now c.read_line.result (nothing c.args.pending.now none)
    (c.read_line.ensures.read start first served.lines (served.rest ++ part) tells output (held_whole g.R.LineReader.longest (served.rest ++ part) part whole) served.read)

pub returns-clause-after : goal.returns-clause-after
returns-clause-after g c start first bytes tells output served =
    let part = c.args.part.now in
    let held : PendingLine g.row.MOST (served.rest ++ part) c.keep.new.self = c.keep.ensures served.rest served.held in
    let handed = subst (λ (n : ℕ). PendingLine n (served.rest ++ part) c.as_slice.result.now) c.requires.longest (subst (λ (l : List ℕ). PendingLine g.row.MOST (served.rest ++ part) l) (sym c.as_slice.ensures) held) in
    line_read g.row.MOST _ bytes c.args.pending.now served part c.requires.one_line
    (λ lines. g.R.LineReader.has_read start lines c.read_line-end.new.self first c.read_line-end.new.out) (λ end lines line. g.R.LineReader.has_ended end start lines line first c.read_line-end.new.out)
    c.clear.new.self c.read_line-end.result c.clear.ensures (c.read_line-end.ensures.read start first served.lines (served.rest ++ part) tells output handed served.read)
