use Rattle.std.proofs.Common.{◌≡◌, ◌++◌, ◌∙◌, [], List, ℕ, ap, append_assoc, refl, subst, sym}
use Rattle.hex.specs.Hex.{encode_lower}
use Rattle.outside.specs.Streams.{SaysPrefix}
use Rattle.outside.proofs.Pieces.{says_none, says_then}
use Rattle.store_report.proofs.Parts.{encode_more, encode_none, encode_three, prefix_of_more, prefix_on, split_again}
use Rattle.store_report.proofs.saying.say_hex.Goals as goal

pub loop-rest-init : goal.loop-rest-init
loop-rest-init g c = ([], refl, λ tells. encode_none (g.W.Disk.world c.args.out.now).beside.said, says_none (g.W.Disk.world c.args.out.now) (g.met.W.Outside.said_now c.args.out.now))

pub returns-in_err-say_part-clause-prefix : goal.returns-in_err-say_part-clause-prefix
returns-in_err-say_part-clause-prefix g c tells =
    let old = (g.W.Disk.world c.args.out.now).beside.said in
    let mid = (g.W.Disk.world c.loop-rest.out).beside.said in
    let new = (g.W.Disk.world c.say_part.new.out).beside.said in
    let done = c.loop-rest.invariant.0 in
    let part = c.split_at.result.0.now in
    let later = c.split_at.result.1.now in
    let whole = encode_three c.args.bytes.now done c.loop-rest.rest.now part later c.loop-rest.invariant.1 (split_again c.loop-rest.rest.now part later _ c.split_at.ensures.front c.split_at.ensures.back) in
    subst (λ (t : List ℕ). SaysPrefix t old new) (sym whole)
    (prefix_of_more (encode_lower done ++ encode_lower part) (encode_lower later) old new
    (prefix_on (encode_lower done) (encode_lower part) old mid new (c.loop-rest.invariant.2 tells) (c.in_err-say_part.ensures.prefix tells)))

pub loop-rest-preserved : goal.loop-rest-preserved
loop-rest-preserved g c =
    let old = (g.W.Disk.world c.args.out.now).beside.said in
    let done = c.loop-rest.invariant.0 in
    let part = c.split_at.result.0.now in
    let later = c.split_at.result.1.now in (
      done ++ part,
      c.loop-rest.invariant.1 ∙ ap (λ (l : List ℕ). done ++ l) (split_again c.loop-rest.rest.now part later _ c.split_at.ensures.front c.split_at.ensures.back) ∙ sym (append_assoc done part later),
      λ tells. c.in_ok-say_part.ensures.said tells ∙ ap (λ (l : List ℕ). l ++ encode_lower part) (c.loop-rest.invariant.2 tells) ∙ append_assoc old (encode_lower done) (encode_lower part)
          ∙ ap (λ (l : List ℕ). old ++ l) (sym (encode_more done part)),
      says_then _ _ _ c.loop-rest.invariant.3 c.say_part.ensures.moves,
    )
