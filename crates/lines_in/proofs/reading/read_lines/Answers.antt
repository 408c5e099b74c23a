use Rattle.std.proofs.Common.{◌++◌, ◌∙◌, [], List, ℕ, sym, ap, refl, arith, take, drop, length, inl, inr}
use Rattle.std.proofs.lemmas.List.{length-append, length-take}
use Rattle.lines_in.specs.declared.line_end.LineEnd.TheVariants.{End, Quit}
use Rattle.lines_in.proofs.EndCauses.{no_fall_none, no_fall_on, no_fall_take, rose_since}
use Rattle.lines_in.proofs.Footprint.{within_none, within_on, within_take, within_then}
use Rattle.lines_in.proofs.Readings.{ended_wider, read_as, read_cut}
use Rattle.lines_in.proofs.Texts.{front_of, taken_all, taken_more}
use Rattle.lines_in.proofs.reading.read_lines.Goals as goal

pub loop-left-init : goal.loop-left-init
loop-left-init g c = record {
  read = λ start first tells input output same served. ([], same, omega arith, served);
  reads_on = c.requires.reads_on;
  counts = no_fall_none (g.W.Disk.world c.args.out.now);
  within = within_none (g.R.LineReader.reach c.args.reader.now) (g.W.Disk.world c.args.out.now);
  reach = refl;
}

-- the input failed

pub returns-in-Err-clause-read : goal.returns-in-Err-clause-read
returns-in-Err-clause-read g c start first tells input output same served =
    let was = c.loop-left.invariant.read start first tells input output same served in
    let reader = c.loop-left.reader in
    let later = c.take.new.self in
    record {
      taken = was.0;
      input = was.1 ∙ ap (λ (l : List ℕ). was.0 ++ l) (sym c.in-Err.ensures.unchanged);
      ended = read_cut g.row.MOST (λ lines. g.R.LineReader.has_read start lines reader first later) was.0 c.loop-left.pending
          (read_as g.row.MOST (λ lines. g.R.LineReader.has_read start lines reader first c.loop-left.out) (λ lines. g.R.LineReader.has_read start lines reader first later) was.0 c.loop-left.pending
          (λ lines. c.take_law.ensures start lines first c.loop-left.out later c.take.ensures.moves) was.3) _ (λ end lines line. g.R.LineReader.has_ended end start lines line first later) 3 (inl refl);
      limit = λ is. absurd cc;
      most = omega (arith, was.2);
    }

pub returns-in-Err-clause-cause : goal.returns-in-Err-clause-cause
returns-in-Err-clause-cause g c =
    inr (inl (refl, rose_since (g.W.Disk.world c.args.out.now).beside.take_faults (g.W.Disk.world c.loop-left.out).beside.take_faults (g.W.Disk.world c.take.new.self).beside.take_faults c.loop-left.invariant.counts.take c.in-Err.ensures.cause))

pub returns-in-Err-clause-within : goal.returns-in-Err-clause-within
returns-in-Err-clause-within g c = within_on _ _ _ _ c.loop-left.invariant.within (within_take _ _ _ c.take.ensures.moves)

-- it is at its end

pub returns-then-taken-eq0-clause-read : goal.returns-then-taken-eq0-clause-read
returns-then-taken-eq0-clause-read g c start first tells input output same served =
    let was = c.loop-left.invariant.read start first tells input output same served in
    let reader = c.loop-left.reader in
    let later = c.take.new.self in
    let took = c.in-Ok.ensures.taken input in
    let all = taken_all _ _ _ was.0 _ was.1 took.bytes (took.end c.if-taken-eq0.true) in
    record {
      taken = was.0;
      input = all.0 ∙ ap (λ (l : List ℕ). was.0 ++ l) (sym c.end_input.ensures.moves.input);
      ended = c.end_input.ensures.ended start first was.0 tells output all.1 (omega (arith, was.2, c.loop-left-test.true))
          (read_as g.row.MOST (λ lines. g.R.LineReader.has_read start lines reader first c.loop-left.out) (λ lines. g.R.LineReader.has_read start lines reader first later) was.0 c.loop-left.pending
          (λ lines. c.take_law.ensures start lines first c.loop-left.out later c.take.ensures.moves) was.3);
      limit = λ is. absurd (elim c.end_input.ensures.cause [ inl zero ↦ cc | inr cause ↦ (g.met.R.LineReader.other_cause c.end_input.result later c.end_input.new.out cause).1 is ]);
      most = omega (arith, was.2);
    }

pub returns-then-taken-eq0-clause-cause : goal.returns-then-taken-eq0-clause-cause
returns-then-taken-eq0-clause-cause g c = elim c.end_input.ensures.cause [
  | inl zero ↦ inl zero
  | inr cause ↦ inr (inr (inr (g.met.R.LineReader.kept_cause c.end_input.result c.args.out.now c.take.new.self c.end_input.new.out (no_fall_on _ _ _ c.loop-left.invariant.counts (no_fall_take _ _ c.take.ensures.moves)) cause)))
]

pub returns-then-taken-eq0-clause-counts : goal.returns-then-taken-eq0-clause-counts
returns-then-taken-eq0-clause-counts g c = no_fall_on _ _ _ (no_fall_on _ _ _ c.loop-left.invariant.counts (no_fall_take _ _ c.take.ensures.moves)) c.end_input.ensures.moves.counts

pub returns-then-taken-eq0-clause-within : goal.returns-then-taken-eq0-clause-within
returns-then-taken-eq0-clause-within g c = within_then _ _ _ _ _ c.loop-left.invariant.reach (within_on _ _ _ _ c.loop-left.invariant.within (within_take _ _ _ c.take.ensures.moves)) c.end_input.ensures.within

-- a piece was taken

pub loop-left-preserved : goal.loop-left-preserved
loop-left-preserved g c = record {
  read = λ start first tells input output same served.
      let was = c.loop-left.invariant.read start first tells input output same served in
      let took = c.in-Ok.ensures.taken input in
      let reader = c.loop-left.reader in
      let later = c.take.new.self in
      let prefix = front_of c.in-Ok.taken c.take.new.into (drop c.room_for-most.result c.loop-left.piece) (omega (arith, c.in-Ok.ensures.count, c.take.auto.into)) in
      let piece = take c.in-Ok.taken (c.take.new.into ++ drop c.room_for-most.result c.loop-left.piece) in (
        was.0 ++ piece,
        taken_more _ _ _ was.0 piece was.1 (took.bytes ∙ ap (λ (l : List ℕ). l ++ (g.W.Disk.world later).beside.to_take) (sym prefix)) ∙ ap (λ (l : List ℕ). (was.0 ++ piece) ++ l) (sym c.feed.ensures.moves.input),
        omega (arith, was.2, length-append was.0 piece, ap length prefix, length-take c.in-Ok.taken c.take.new.into, c.in-Ok.ensures.count, c.take.auto.into, c.room_for-most.ensures.left, length-take c.room_for-most.result c.loop-left.piece),
        c.in-Next.ensures.after start first was.0 tells output
            (read_as g.row.MOST (λ lines. g.R.LineReader.has_read start lines reader first c.loop-left.out) (λ lines. g.R.LineReader.has_read start lines reader first later) was.0 c.loop-left.pending
            (λ lines. c.take_law.ensures start lines first c.loop-left.out later c.take.ensures.moves) was.3),
      );
  reads_on = c.in-Next.ensures.goes_on refl;
  counts = no_fall_on _ _ _ c.loop-left.invariant.counts (no_fall_on _ _ _ (no_fall_take _ _ c.take.ensures.moves) c.feed.ensures.moves.counts);
  within = within_then _ _ _ _ _ c.loop-left.invariant.reach (within_on _ _ _ _ c.loop-left.invariant.within (within_take _ _ _ c.take.ensures.moves)) c.feed.ensures.within;
  reach = c.feed.ensures.reach ∙ c.loop-left.invariant.reach;
}

pub returns-in-Quit-clause-read : goal.returns-in-Quit-clause-read
returns-in-Quit-clause-read g c start first tells input output same served =
    let was = c.loop-left.invariant.read start first tells input output same served in
    let took = c.in-Ok.ensures.taken input in
    let reader = c.loop-left.reader in
    let later = c.take.new.self in
    let prefix = front_of c.in-Ok.taken c.take.new.into (drop c.room_for-most.result c.loop-left.piece) (omega (arith, c.in-Ok.ensures.count, c.take.auto.into)) in
    let piece = take c.in-Ok.taken (c.take.new.into ++ drop c.room_for-most.result c.loop-left.piece) in
    record {
      taken = was.0 ++ piece;
      input = taken_more _ _ _ was.0 piece was.1 (took.bytes ∙ ap (λ (l : List ℕ). l ++ (g.W.Disk.world later).beside.to_take) (sym prefix)) ∙ ap (λ (l : List ℕ). (was.0 ++ piece) ++ l) (sym c.feed.ensures.moves.input);
      ended =
          let read = read_as g.row.MOST (λ lines. g.R.LineReader.has_read start lines reader first c.loop-left.out) (λ lines. g.R.LineReader.has_read start lines reader first later) was.0 c.loop-left.pending
          (λ lines. c.take_law.ensures start lines first c.loop-left.out later c.take.ensures.moves) was.3 in
          inr (inr (
            Quit,
            refl,
            inl (ended_wider (length piece) (λ lines line. g.R.LineReader.has_ended Quit start lines line first c.feed.new.out) (was.0 ++ piece)
                (omega (arith, ap length prefix, length-take c.in-Ok.taken c.take.new.into, c.in-Ok.ensures.count, c.take.auto.into, c.room_for-most.ensures.most, length-take c.room_for-most.result c.loop-left.piece, c.requires.small, c.loop-left.auto.piece))
                (c.in-Quit.ensures.after start first was.0 tells output read)),
          ));
      limit = λ is. absurd cc;
      most = omega (arith, was.2, length-append was.0 piece, ap length prefix, length-take c.in-Ok.taken c.take.new.into, c.in-Ok.ensures.count, c.take.auto.into, c.room_for-most.ensures.left, length-take c.room_for-most.result c.loop-left.piece);
    }

pub returns-in-Quit-clause-counts : goal.returns-in-Quit-clause-counts
returns-in-Quit-clause-counts g c = no_fall_on _ _ _ c.loop-left.invariant.counts (no_fall_on _ _ _ (no_fall_take _ _ c.take.ensures.moves) c.feed.ensures.moves.counts)

pub returns-in-Quit-clause-within : goal.returns-in-Quit-clause-within
returns-in-Quit-clause-within g c = within_then _ _ _ _ _ c.loop-left.invariant.reach (within_on _ _ _ _ c.loop-left.invariant.within (within_take _ _ _ c.take.ensures.moves)) c.feed.ensures.within

pub returns-in-End-clause-read : goal.returns-in-End-clause-read
returns-in-End-clause-read g c start first tells input output same served =
    let was = c.loop-left.invariant.read start first tells input output same served in
    let took = c.in-Ok.ensures.taken input in
    let reader = c.loop-left.reader in
    let later = c.take.new.self in
    let prefix = front_of c.in-Ok.taken c.take.new.into (drop c.room_for-most.result c.loop-left.piece) (omega (arith, c.in-Ok.ensures.count, c.take.auto.into)) in
    let piece = take c.in-Ok.taken (c.take.new.into ++ drop c.room_for-most.result c.loop-left.piece) in
    record {
      taken = was.0 ++ piece;
      input = taken_more _ _ _ was.0 piece was.1 (took.bytes ∙ ap (λ (l : List ℕ). l ++ (g.W.Disk.world later).beside.to_take) (sym prefix)) ∙ ap (λ (l : List ℕ). (was.0 ++ piece) ++ l) (sym c.feed.ensures.moves.input);
      ended =
          let read = read_as g.row.MOST (λ lines. g.R.LineReader.has_read start lines reader first c.loop-left.out) (λ lines. g.R.LineReader.has_read start lines reader first later) was.0 c.loop-left.pending
          (λ lines. c.take_law.ensures start lines first c.loop-left.out later c.take.ensures.moves) was.3 in
          inr (inr (
            End c.in-End.status,
            refl,
            inl (ended_wider (length piece) (λ lines line. g.R.LineReader.has_ended (End c.in-End.status) start lines line first c.feed.new.out) (was.0 ++ piece)
                (omega (arith, ap length prefix, length-take c.in-Ok.taken c.take.new.into, c.in-Ok.ensures.count, c.take.auto.into, c.room_for-most.ensures.most, length-take c.room_for-most.result c.loop-left.piece, c.requires.small, c.loop-left.auto.piece))
                (c.in-End.ensures.after start first was.0 tells output read)),
          ));
      limit = λ is. absurd ((g.met.R.LineReader.other_cause c.in-End.status later c.feed.new.out c.in-End.ensures.cause).1 is);
      most = omega (arith, was.2, length-append was.0 piece, ap length prefix, length-take c.in-Ok.taken c.take.new.into, c.in-Ok.ensures.count, c.take.auto.into, c.room_for-most.ensures.left, length-take c.room_for-most.result c.loop-left.piece);
    }

pub returns-in-End-clause-cause : goal.returns-in-End-clause-cause
returns-in-End-clause-cause g c =
    inr (inr (inr (g.met.R.LineReader.kept_cause c.in-End.status c.args.out.now c.take.new.self c.feed.new.out (no_fall_on _ _ _ c.loop-left.invariant.counts (no_fall_take _ _ c.take.ensures.moves)) c.in-End.ensures.cause)))

pub returns-in-End-clause-counts : goal.returns-in-End-clause-counts
returns-in-End-clause-counts g c = no_fall_on _ _ _ c.loop-left.invariant.counts (no_fall_on _ _ _ (no_fall_take _ _ c.take.ensures.moves) c.feed.ensures.moves.counts)

pub returns-in-End-clause-within : goal.returns-in-End-clause-within
returns-in-End-clause-within g c = within_then _ _ _ _ _ c.loop-left.invariant.reach (within_on _ _ _ _ c.loop-left.invariant.within (within_take _ _ _ c.take.ensures.moves)) c.feed.ensures.within

-- as much was taken as may be

pub returns-clause-read : goal.returns-clause-read
returns-clause-read g c start first tells input output same served =
    let was = c.loop-left.invariant.read start first tells input output same served in
    record {
      taken = was.0;
      input = was.1;
      ended = read_cut g.row.MOST (λ lines. g.R.LineReader.has_read start lines c.loop-left.reader first c.loop-left.out) was.0 c.loop-left.pending was.3 _ (λ end lines line. g.R.LineReader.has_ended end start lines line first c.loop-left.out) 9 (inr refl);
      limit = λ is. omega (arith, was.2);
      most = omega (arith, was.2);
    }
