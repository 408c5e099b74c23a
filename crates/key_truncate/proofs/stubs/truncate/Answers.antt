use Rattle.std.proofs.Common.{◌≡◌, ◌==◌, ◌<◌, ◌+◌, [], ◌∷◌, ◌++◌, length, slice_index_or, min, max, arith, add-one, sym, ap, ◌∙◌}
use Rattle.key_truncate.specs.Stubs.{shared_next}
use Rattle.key_truncate.proofs.Neighbours.{neighbours-le, shared_before, stub_next}
use Rattle.key_truncate.proofs.stubs.truncate.Goals as goal

pub stub_after-requires-clause-most : goal.stub_after-requires-clause-most
stub_after-requires-clause-most c =
    let keys = c.args.keys.now in
    let i = c.loop-i.i in
    let within : i < length keys = omega arith in
    rw (c.get.ensures, c.max.ensures, c.shared_with_next-after.ensures, c.loop-i.invariant.1) (neighbours-le keys c.requires i within)

pub loop-i-preserved : goal.loop-i-preserved
loop-i-preserved c =
    let keys = c.args.keys.now in
    let i = c.loop-i.i in
    let within : i < length keys = omega arith in
    let most : c.max.result ≡ max (shared_before keys i) (shared_next keys i) =
    c.max.ensures ∙ (λ j. max (c.loop-i.invariant.1 j) (c.shared_with_next-after.ensures j)) in
    let stub : c.stub_after.result ≡ record { len = min (max (shared_before keys i) (shared_next keys i) + 1) (length (slice_index_or keys i [])); ends = length (slice_index_or keys i []) == max (shared_before keys i) (shared_next keys i) } =
    c.stub_after.ensures ∙ (λ j. record { len = min (most j + 1) (length (c.get.ensures j)); ends = length (c.get.ensures j) == most j }) in (
      c.in_ok-push.ensures.items ∙ ap (λ l. l ++ c.stub_after.result ∷ []) c.loop-i.invariant.0 ∙ stub_next keys c.requires i within c.stub_after.result stub,
      c.shared_with_next-after.ensures ∙ ap (shared_before keys) (sym (add-one i)),
    )
