use Rattle.std.proofs.Common.{◌≡◌, ◌∙◌, ◌++◌, ◌+◌, ap, sym, arith, length, take, drop, min, ◌-◌, List, ℕ, append_assoc}
use Rattle.line_model.specs.Replies.{text_of}
use Rattle.store_commands.specs.Spoken.{spoken}
use Rattle.outside.proofs.Pieces.{says_then}
use Rattle.lines_in.proofs.Pieces.{next_piece, front_on, short_text, none_over, some_is}
use Rattle.lines_in.proofs.saying.say_pieces.Goals as goal

pub returns-in_err-say_all-clause-prefix : goal.returns-in_err-say_all-clause-prefix
returns-in_err-say_all-clause-prefix g c tells =
    front_on _ c.loop-n.buffer c.loop-n.from c.loop-n.n c.loop-n.invariant.size c.loop-n.invariant.bytes _ _ _ (c.loop-n.invariant.said tells) (c.in_err-say_all.ensures.prefix tells)

pub returns-in_default-clause-said : goal.returns-in_default-clause-said
returns-in_default-clause-said g c tells short =
    let small = short_text c.args.reply.now short in
    absurd (none_over c.checked_add.result _ _ c.checked_add.ensures c.in_default.not-Some (omega (arith, small, c.loop-n.invariant.size, c.loop-n.invariant.within)))

pub returns-in_default-clause-prefix : goal.returns-in_default-clause-prefix
returns-in_default-clause-prefix g c tells =
    front_on _ c.loop-n.buffer c.loop-n.from c.loop-n.n c.loop-n.invariant.size c.loop-n.invariant.bytes _ _ _ (c.loop-n.invariant.said tells) (c.in_ok-say_all.ensures.prefix tells)

pub loop-n-preserved : goal.loop-n-preserved
loop-n-preserved g c =
    let text = text_of (spoken c.args.reply.now) in
    let next : c.in-Some.next ≡ c.loop-n.from + c.loop-n.n = some_is c.checked_add.result _ _ c.in-Some.next c.checked_add.ensures c.in-Some.is in
    let same : length c.piece-n-in-loop-n.new.into ≡ length c.loop-n.buffer = omega (arith, c.piece-n-in-loop-n.auto.into) in
    record {
      said = λ tells. c.in_ok-say_all.ensures.said tells ∙ ap (λ (l : List ℕ). l ++ take c.loop-n.n c.loop-n.buffer) (c.loop-n.invariant.said tells)
          ∙ append_assoc _ (take c.loop-n.from text) (take c.loop-n.n c.loop-n.buffer)
          ∙ ap (λ (l : List ℕ). (g.W.Disk.world c.args.out.now).beside.said ++ l) (next_piece text c.loop-n.buffer c.loop-n.from c.loop-n.n c.loop-n.invariant.size c.loop-n.invariant.bytes ∙ ap (λ (k : ℕ). take k text) (sym next));
      within = omega (arith, next, c.loop-n.invariant.size, c.loop-n.invariant.within);
      size = c.piece-n-in-loop-n.ensures.count ∙ ap (λ (k : ℕ). min k (length text - c.in-Some.next)) (sym same);
      bytes = c.piece-n-in-loop-n.ensures.bytes ∙ ap (λ (k : ℕ). take k (drop c.in-Some.next text)) (sym same);
      moves = says_then _ _ _ c.loop-n.invariant.moves c.say_all.ensures.moves;
    }
