use Rattle.std.proofs.Common.{◌∙◌, ◌++◌, ◌∷◌, [], append_assoc, length-append, length, arith, ap, refl, sym, subst, List, ℕ}
use Rattle.std.proofs.lemmas.List.{append-nil}
use Rattle.store_commands.specs.Cutting.{NoNewline}
use Rattle.lines_in.specs.Reading.{AfterPart, ReadSoFar}
use Rattle.lines_in.proofs.EndCauses.{lines_none, lines_on}
use Rattle.lines_in.proofs.Footprint.{within_none, within_then}
use Rattle.lines_in.proofs.Readings.{after_more, end_cause_as, part_more}
use Rattle.lines_in.proofs.Texts.{all_more, line_more, none_here, piece_split}
use Rattle.lines_in.proofs.reading.feed.Goals as goal

pub loop-line-init : goal.loop-line-init
loop-line-init g c = record {
  read = λ start first bytes tells output served.
      ([], refl, subst (λ (l : List ℕ). ReadSoFar g.row.MOST (λ lines. g.R.LineReader.has_read start lines c.args.reader.now first c.args.out.now) l c.args.pending.now) (sym (append-nil bytes)) served);
  reads_on = c.requires.reads_on;
  moves = lines_none (g.W.Disk.world c.args.out.now);
  within = within_none (g.R.LineReader.reach c.args.reader.now) (g.W.Disk.world c.args.out.now);
  reach = refl;
}

pub end_line-requires : goal.end_line-requires
end_line-requires g c = (omega arith, (c.requires.longest, (c.loop-line.invariant.reads_on, c.in-Some.ensures.found.1)))

-- a line ends the run

pub returns-in_default-end_line-clause-after : goal.returns-in_default-end_line-clause-after
returns-in_default-end_line-clause-after g c start first bytes tells output served =
    let so_far = c.loop-line.invariant.read start first bytes tells output served in
    let found = c.in-Some.ensures.found in
    let piece = c.args.piece.now in
    subst (λ (l : List ℕ). AfterPart g.row.MOST (length piece) (λ lines. g.R.LineReader.has_read start lines c.end_line.new.reader first c.end_line.new.out) (λ end lines line. g.R.LineReader.has_ended end start lines line first c.end_line.new.out) l
    c.end_line.new.pending c.end_line.result)
    (sym (all_more bytes piece so_far.0 _ _ c.in-Some.more.now so_far.1 found.0))
    (after_more g.row.MOST 1 (length piece) (λ lines. g.R.LineReader.has_read start lines c.end_line.new.reader first c.end_line.new.out) (λ end lines line. g.R.LineReader.has_ended end start lines line first c.end_line.new.out)
    (bytes ++ so_far.0 ++ (c.in-Some.line.now ++ 10 ∷ [])) c.in-Some.more.now c.end_line.new.pending c.end_line.new.pending c.end_line.result
    (omega (arith, ap length so_far.1, length-append so_far.0 c.loop-line.rest.now, ap length found.0, length-append c.in-Some.line.now (10 ∷ c.in-Some.more.now))) c.in_default-end_line.not-Next
    (c.end_line.ensures.after start first (bytes ++ so_far.0) tells output so_far.2))

pub returns-in_default-end_line-clause-cause : goal.returns-in_default-end_line-clause-cause
returns-in_default-end_line-clause-cause g c =
    end_cause_as (λ status. g.R.LineReader.end_cause status c.loop-line.out c.end_line.new.out) (λ status. g.R.LineReader.end_cause status c.args.out.now c.end_line.new.out) c.end_line.result
    (λ status. g.met.R.LineReader.kept_cause status c.args.out.now c.loop-line.out c.end_line.new.out c.loop-line.invariant.moves.counts) c.end_line.ensures.cause

pub returns-in_default-end_line-clause-moves : goal.returns-in_default-end_line-clause-moves
returns-in_default-end_line-clause-moves g c = lines_on _ _ _ c.loop-line.invariant.moves c.end_line.ensures.moves

pub returns-in_default-end_line-clause-within : goal.returns-in_default-end_line-clause-within
returns-in_default-end_line-clause-within g c = within_then _ _ _ _ _ c.loop-line.invariant.reach c.loop-line.invariant.within c.end_line.ensures.within

-- the next line follows

pub loop-line-preserved : goal.loop-line-preserved
loop-line-preserved g c = record {
  read = λ start first bytes tells output served.
      let so_far = c.loop-line.invariant.read start first bytes tells output served in
      let found = c.in-Some.ensures.found in (
        so_far.0 ++ (c.in-Some.line.now ++ 10 ∷ []),
        piece_split bytes c.args.piece.now so_far.0 _ c.in-Some.line.now c.in-Some.more.now so_far.1 found.0,
        subst (λ (l : List ℕ). ReadSoFar g.row.MOST (λ lines. g.R.LineReader.has_read start lines c.end_line.new.reader first c.end_line.new.out) l c.end_line.new.pending)
            (sym (line_more bytes c.args.piece.now so_far.0 _ c.in-Some.line.now c.in-Some.more.now so_far.1 found.0))
            (c.in-Next.ensures.after start first (bytes ++ so_far.0) tells output so_far.2),
      );
  reads_on = c.in-Next.ensures.goes_on refl;
  moves = lines_on _ _ _ c.loop-line.invariant.moves c.end_line.ensures.moves;
  within = within_then _ _ _ _ _ c.loop-line.invariant.reach c.loop-line.invariant.within c.end_line.ensures.within;
  reach = c.end_line.ensures.reach ∙ c.loop-line.invariant.reach;
}

-- no line ends in what is left

pub returns-clause-after : goal.returns-clause-after
returns-clause-after g c start first bytes tells output served =
    let so_far = c.loop-line.invariant.read start first bytes tells output served in
    let rest = c.loop-line.rest.now in
    subst (λ (l : List ℕ). ReadSoFar g.row.MOST (λ lines. g.R.LineReader.has_read start lines c.loop-line.reader first c.loop-line.out) l c.keep.new.self)
    (append_assoc bytes so_far.0 rest ∙ sym (ap (λ (l : List ℕ). bytes ++ l) so_far.1))
    (part_more g.row.MOST (λ lines. g.R.LineReader.has_read start lines c.loop-line.reader first c.loop-line.out) (bytes ++ so_far.0) c.loop-line.pending so_far.2 rest
    (none_here c.next_line.result (NoNewline rest) c.in_default.not-Some c.next_line.ensures.none) c.keep.new.self (c.keep.ensures so_far.2.rest so_far.2.held))
