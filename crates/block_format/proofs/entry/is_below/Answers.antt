use Rattle.std.proofs.Common.{◌≡◌, ◌≤◌, ◌+◌, ◌*◌, ℕ, length, drop, sym, ap, ◌∙◌, arith}
use Rattle.std.proofs.lemmas.List.{take_rest}
use Rattle.std.specs.Ordering.{is_lt}
use Rattle.byteorder.specs.Endian.{big_number}
use Rattle.map_model.specs.SortedMap.{byte_order}
use Rattle.block_format.proofs.Words.{decided, next, passed}
use Rattle.block_format.proofs.entry.is_below.Goals as goal

pub returns-then-one-other : goal.returns-then-one-other
returns-then-one-other c =
    let low = c.args.low.now in
    let high = c.args.high.now in
    let at = 8 * c.loop-word.word in
    let m = c.read_u64-one.result in
    let n = c.read_u64-other.result in
    let m_is : m ≡ big_number 8 (drop at low) = c.read_u64-one.ensures ∙ ap (big_number 8) (take_rest low at) in
    let n_is : n ≡ big_number 8 (drop at high) = c.read_u64-other.ensures ∙ ap (big_number 8) (take_rest high at) in
    let in_low : at + 8 ≤ length low = omega (arith, c.min-words.ensures, c.loop-word-test.true) in
    let in_high : at + 8 ≤ length high = omega (arith, c.min-words.ensures, c.loop-word-test.true) in
    let step = next at low high m n (λ i. (c.type_inv.low i).fits) (λ i. (c.type_inv.high i).fits) in_low in_high m_is n_is in
    decided m n (byte_order (drop (at + 8) low) (drop (at + 8) high)) c.if-one-other.true
    ∙ sym (ap is_lt (c.loop-word.invariant ∙ step))

pub loop-word-preserved : goal.loop-word-preserved
loop-word-preserved c =
    let low = c.args.low.now in
    let high = c.args.high.now in
    let at = 8 * c.loop-word.word in
    let m = c.read_u64-one.result in
    let n = c.read_u64-other.result in
    let m_is : m ≡ big_number 8 (drop at low) = c.read_u64-one.ensures ∙ ap (big_number 8) (take_rest low at) in
    let n_is : n ≡ big_number 8 (drop at high) = c.read_u64-other.ensures ∙ ap (big_number 8) (take_rest high at) in
    let in_low : at + 8 ≤ length low = omega (arith, c.min-words.ensures, c.loop-word-test.true) in
    let in_high : at + 8 ≤ length high = omega (arith, c.min-words.ensures, c.loop-word-test.true) in
    let step = next at low high m n (λ i. (c.type_inv.low i).fits) (λ i. (c.type_inv.high i).fits) in_low in_high m_is n_is in
    let onward : at + 8 ≡ 8 * (c.loop-word.word + 1) = omega arith in
    c.loop-word.invariant ∙ step
    ∙ passed m n (byte_order (drop (at + 8) low) (drop (at + 8) high)) c.if-one-other.false
    ∙ ap (λ (k : ℕ). byte_order (drop k low) (drop k high)) onward
