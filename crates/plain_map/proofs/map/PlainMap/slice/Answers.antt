use Rattle.std.proofs.Common.{◌≡◌, ◌<◌, ◌+◌, ◌++◌, ◌∷◌, [], length, subst, sym, ap, ◌∙◌, arith}
use Rattle.std.specs.Option.{option_map}
use Rattle.std.proofs.lemmas.List.{length_push}
use Rattle.map_model.specs.SortedMap.{Bytes, Map, Rises}
use Rattle.map_model.proofs.Between.{slice_rises}
use Rattle.plain_map.proofs.Taking.{Takes, takes_all, takes_no_more, takes_one, passes_one}
use Rattle.plain_map.proofs.map.PlainMap.slice.Goals as goal
use Rattle.plain_map.proofs.map.PlainMap.slice.Goals.{then-len-n+then-lies_between+in_ok-copy+in_ok-push, else-len-n, else-len-n-via-then-len-n+else-lies_between, else-len-n-via-else-len-n}

pub loop-pair-preserved : goal.loop-pair-preserved
loop-pair-preserved c =
    let map = c.deref-pair-items.result.now in
    let lo = c.args.lo.now in
    let hi = option_map (λ h. h.now) c.args.hi in
    let taken = c.loop-pair.pairs.items in
    let long : c.len.result ≡ length taken = omega (arith, c.len.ensures, c.loop-pair.pairs.ok.0) in
    elim c.if-len-n.branch [
      | then-len-n+then-lies_between+in_ok-copy+in_ok-push w ↦
          let room : length taken < c.args.n = omega (arith, w.if-len-n.true, long) in
          let new : c.if-len-n.pairs.items ≡ taken ++ c.pair-item.result ∷ [] =
          ap (λ v. v.items) w.pairs-is ∙ w.in_ok-push.ensures.items ∙ ap (λ (p : Bytes × Bytes). taken ++ p ∷ []) w.in_ok-copy.ensures in
          record {
            whole = c.loop-pair.invariant.whole;
            few = omega (arith, room, ap length new, length_push taken c.pair-item.result);
            left = subst (λ (m : Map). Takes m (c.loop-pair.pair-index + 1) map lo hi c.args.n) (sym new)
                (takes_one taken c.loop-pair.pair-index map lo hi c.args.n c.pair-item.result c.loop-pair-test.true c.pair-item.is room (sym w.lies_between.ensures ∙ w.if-lies_between.true) c.loop-pair.invariant.left);
          }
      | else-len-n w ↦
          let same : c.if-len-n.pairs.items ≡ taken = ap (λ v. v.items) w.pairs-is in
          let passed : Takes taken (c.loop-pair.pair-index + 1) map lo hi c.args.n =
          elim w.else-len-n.branch [
            | else-len-n-via-then-len-n+else-lies_between v ↦
                passes_one taken c.loop-pair.pair-index map lo hi c.args.n c.pair-item.result c.loop-pair-test.true c.pair-item.is (sym v.lies_between.ensures ∙ v.if-lies_between.false) c.loop-pair.invariant.left
            | else-len-n-via-else-len-n v ↦
                takes_no_more taken c.loop-pair.pair-index map lo hi c.args.n (omega (arith, v.if-len-n.false, long)) c.loop-pair.invariant.left
          ] in
          record {
            whole = c.loop-pair.invariant.whole;
            few = omega (arith, c.loop-pair.invariant.few, ap length same);
            left = subst (λ (m : Map). Takes m (c.loop-pair.pair-index + 1) map lo hi c.args.n) (sym same) passed;
          }
    ]

pub invariant_of-result : goal.invariant_of-result
invariant_of-result c =
    let map = c.deref-pair-items.result.now in
    let hi = option_map (λ h. h.now) c.args.hi in
    let rises : Rises map = subst Rises (c.self.view_is ∙ sym c.loop-pair.invariant.whole) c.self.invariant in
    subst Rises
    (sym (takes_all c.loop-pair.pairs.items c.loop-pair.pair-index map c.args.lo.now hi c.args.n c.loop-pair-test.false c.loop-pair.invariant.left))
    (slice_rises map c.args.lo.now hi c.args.n rises)
