use Rattle.std.proofs.Common.{◌≡◌, ◌<◌, ◌≤◌, ◌+◌, ◌∙◌, ◌++◌, ℕ, List, append_assoc, ap, arith, drop, length, sym, take, take-append-drop}
use Rattle.std.proofs.lemmas.List.{append-nil, take_all}
use Rattle.outside.proofs.Pieces.{says_then}
use Rattle.store_commands.specs.Puts.{put_text}
use Rattle.lines_in.proofs.Pieces.{laid, laid_count, laid_long, prefix_of, said_on}
use Rattle.surf_run.proofs.Dumped.{short_put}
use Rattle.surf_run.proofs.dumping.add_put.Goals as goal

-- the line is at its end

pub returns-then-used-buffer-clause-said : goal.returns-then-used-buffer-clause-said
returns-then-used-buffer-clause-said g c tells =
    let text = put_text c.args.key.now c.args.value.now in
    let buffer = c.loop-used.buffer in
    let into = c.put_piece-n.new.into in
    let same = c.put_piece-n.auto.into in
    let n = c.put_piece-n.result in
    let all = (take c.args.used c.args.buffer.now) in
    let room = c.loop-used.invariant.room in
    let within = c.loop-used.invariant.within in
    let fewer : c.loop-used.used + n < length (laid text buffer into c.loop-used.used c.loop-used.from n room within same c.put_piece-n.ensures.count c.put_piece-n.ensures.bytes) = c.if-used-buffer.true in
    let count = laid_count text buffer into c.loop-used.used c.loop-used.from n room within same c.put_piece-n.ensures.count c.put_piece-n.ensures.bytes in
    let long = laid_long text buffer into c.loop-used.used c.loop-used.from n room within same c.put_piece-n.ensures.count c.put_piece-n.ensures.bytes in
    said_on text buffer into c.loop-used.used c.loop-used.from n room within same c.put_piece-n.ensures.count c.put_piece-n.ensures.bytes
    (g.W.Disk.world c.args.out.now).beside.said (g.W.Disk.world c.loop-used.out).beside.said all (c.loop-used.invariant.said tells)
    ∙ ap (λ (l : List ℕ). (g.W.Disk.world c.args.out.now).beside.said ++ (all ++ l)) (take_all (c.loop-used.from + n) text (omega (arith, fewer, count, long, within, room)))

pub returns-then-used-buffer-clause-prefix : goal.returns-then-used-buffer-clause-prefix
returns-then-used-buffer-clause-prefix g c tells =
    let text = put_text c.args.key.now c.args.value.now in
    let buffer = c.loop-used.buffer in
    let into = c.put_piece-n.new.into in
    let same = c.put_piece-n.auto.into in
    let n = c.put_piece-n.result in
    let all = (take c.args.used c.args.buffer.now) in
    let room = c.loop-used.invariant.room in
    let within = c.loop-used.invariant.within in
    let fewer : c.loop-used.used + n < length (laid text buffer into c.loop-used.used c.loop-used.from n room within same c.put_piece-n.ensures.count c.put_piece-n.ensures.bytes) = c.if-used-buffer.true in
    let count = laid_count text buffer into c.loop-used.used c.loop-used.from n room within same c.put_piece-n.ensures.count c.put_piece-n.ensures.bytes in
    let long = laid_long text buffer into c.loop-used.used c.loop-used.from n room within same c.put_piece-n.ensures.count c.put_piece-n.ensures.bytes in
    prefix_of (all ++ text) (g.W.Disk.world c.args.out.now).beside.said (g.W.Disk.world c.loop-used.out).beside.said
    (take (c.loop-used.used + n) (laid text buffer into c.loop-used.used c.loop-used.from n room within same c.put_piece-n.ensures.count c.put_piece-n.ensures.bytes))
    (said_on text buffer into c.loop-used.used c.loop-used.from n room within same c.put_piece-n.ensures.count c.put_piece-n.ensures.bytes
    (g.W.Disk.world c.args.out.now).beside.said (g.W.Disk.world c.loop-used.out).beside.said all (c.loop-used.invariant.said tells)
    ∙ ap (λ (l : List ℕ). (g.W.Disk.world c.args.out.now).beside.said ++ (all ++ l)) (take_all (c.loop-used.from + n) text (omega (arith, fewer, count, long, within, room))))
    c.loop-used.invariant.moves.told.longer

-- the buffer is full

pub returns-in_err-say_all-clause-prefix : goal.returns-in_err-say_all-clause-prefix
returns-in_err-say_all-clause-prefix g c tells =
    let text = put_text c.args.key.now c.args.value.now in
    let buffer = c.loop-used.buffer in
    let into = c.put_piece-n.new.into in
    let same = c.put_piece-n.auto.into in
    let n = c.put_piece-n.result in
    let all = (take c.args.used c.args.buffer.now) in
    let room = c.loop-used.invariant.room in
    let within = c.loop-used.invariant.within in
    let old = (g.W.Disk.world c.args.out.now).beside.said in
    let now = (g.W.Disk.world c.loop-used.out).beside.said in
    let later = (g.W.Disk.world c.say_all.new.out).beside.said in
    let full = laid text buffer into c.loop-used.used c.loop-used.from n room within same c.put_piece-n.ensures.count c.put_piece-n.ensures.bytes in
    let enough : length full ≤ c.loop-used.used + n = omega (arith, c.if-used-buffer.false) in
    let part = c.in_err-say_all.ensures.prefix tells in
    let behind = drop (c.loop-used.from + n) text in
    let whole : later ++ (part.rest ++ behind) ≡ old ++ (all ++ text) =
    ap (λ (l : List ℕ). l ++ (part.rest ++ behind)) part.said ∙ append_assoc now part.done (part.rest ++ behind)
    ∙ ap (λ (l : List ℕ). now ++ l) (sym (append_assoc part.done part.rest behind) ∙ ap (λ (l : List ℕ). l ++ behind) (sym part.split)) ∙ sym (append_assoc now full behind)
    ∙ ap (λ (l : List ℕ). l ++ behind) (ap (λ (l : List ℕ). now ++ l) (sym (take_all (c.loop-used.used + n) full enough))
    ∙ said_on text buffer into c.loop-used.used c.loop-used.from n room within same c.put_piece-n.ensures.count c.put_piece-n.ensures.bytes old now all (c.loop-used.invariant.said tells))
    ∙ append_assoc old (all ++ take (c.loop-used.from + n) text) behind
    ∙ ap (λ (l : List ℕ). old ++ l) (append_assoc all (take (c.loop-used.from + n) text) behind ∙ ap (λ (l : List ℕ). all ++ l) (take-append-drop (c.loop-used.from + n) text)) in
    prefix_of (all ++ text) old later (part.rest ++ behind) whole (omega (arith, c.loop-used.invariant.moves.told.longer, c.say_all.ensures.moves.told.longer))

pub overflow_add-from : goal.overflow_add-from
overflow_add-from g c =
    let count = laid_count (put_text c.args.key.now c.args.value.now) c.loop-used.buffer c.put_piece-n.new.into c.loop-used.used c.loop-used.from c.put_piece-n.result c.loop-used.invariant.room c.loop-used.invariant.within c.put_piece-n.auto.into
    c.put_piece-n.ensures.count c.put_piece-n.ensures.bytes in
    omega (arith, count, c.loop-used.invariant.within, short_put c.args.key.now c.args.value.now c.requires.key c.requires.value)

pub loop-used-preserved : goal.loop-used-preserved
loop-used-preserved g c =
    let text = put_text c.args.key.now c.args.value.now in
    let buffer = c.loop-used.buffer in
    let into = c.put_piece-n.new.into in
    let same = c.put_piece-n.auto.into in
    let n = c.put_piece-n.result in
    let all = (take c.args.used c.args.buffer.now) in
    let room = c.loop-used.invariant.room in
    let within = c.loop-used.invariant.within in
    let old = (g.W.Disk.world c.args.out.now).beside.said in
    let now = (g.W.Disk.world c.loop-used.out).beside.said in
    let later = (g.W.Disk.world c.say_all.new.out).beside.said in
    let full = laid text buffer into c.loop-used.used c.loop-used.from n room within same c.put_piece-n.ensures.count c.put_piece-n.ensures.bytes in
    let enough : length full ≤ c.loop-used.used + n = omega (arith, c.if-used-buffer.false) in
    let count = laid_count text buffer into c.loop-used.used c.loop-used.from n room within same c.put_piece-n.ensures.count c.put_piece-n.ensures.bytes in
    let long : length full ≡ length buffer = laid_long text buffer into c.loop-used.used c.loop-used.from n room within same c.put_piece-n.ensures.count c.put_piece-n.ensures.bytes in
    record {
      said = λ tells.
          append-nil later ∙ c.in_ok-say_all.ensures.said tells ∙ ap (λ (l : List ℕ). now ++ l) (sym (take_all (c.loop-used.used + n) full enough))
          ∙ said_on text buffer into c.loop-used.used c.loop-used.from n room within same c.put_piece-n.ensures.count c.put_piece-n.ensures.bytes old now all (c.loop-used.invariant.said tells);
      within = omega (arith, count, within);
      room = let some : 0 < length full = omega (arith, long, room) in some;
      moves = says_then _ _ _ c.loop-used.invariant.moves c.say_all.ensures.moves;
    }
