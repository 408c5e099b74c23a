use Rattle.std.proofs.Common.{◌<◌, ◌≤◌, ◌*◌, ◌-◌, ◌%◌, ◌^◌, ◌++◌, ◌∷◌, [], ℕ, List, min, take, length, sym, ap, ◌∙◌, arith, lit<}
use Rattle.std.proofs.lemmas.List.{take_more, take_all}
use Rattle.bit_model.specs.Packed.{packed, unpacked}
use Rattle.bit_words.proofs.Packing.{length-unpacked, length-packed, reads_packed, stays_packed}
use Rattle.bit_words.proofs.Bytes.{word_is}
use Rattle.bit_words.proofs.bits.Bits.from_bytes.Goals as goal

pub loop-k-preserved : goal.loop-k-preserved
loop-k-preserved g c =
    let bits = unpacked 8 c.args.bytes.now c.args.len in
    let word = c.low_bits.ensures ∙ ap (λ (n : ℕ). n % 2 ^ min 64 (c.args.len - 64 * c.loop-k.k)) c.word_at.ensures
    ∙ word_is c.args.bytes.now c.args.len c.loop-k.k (λ j. (c.type_inv.bytes j).fits) c.requires in
    let within : c.loop-k.k < length (packed 64 bits) =
    omega (arith, length-packed 64 bits, length-unpacked 8 c.args.bytes.now c.args.len, c.div_ceil-count.ensures) in
    record {
      read =
          c.push_reserved.ensures.items ∙ ap (λ (xs : List ℕ). xs ++ c.low_bits.result ∷ []) c.loop-k.invariant.read
          ∙ ap (λ (n : ℕ). take c.loop-k.k (packed 64 bits) ++ n ∷ []) word
          ∙ sym (take_more (packed 64 bits) c.loop-k.k 0 within);
      room = omega arith;
    }

pub invariant_of-result : goal.invariant_of-result
invariant_of-result g c =
    let bits = unpacked 8 c.args.bytes.now c.args.len in
    let all : length (packed 64 bits) ≤ c.loop-k.k =
    omega (arith, length-packed 64 bits, length-unpacked 8 c.args.bytes.now c.args.len, c.div_ceil-count.ensures) in
    let held = c.loop-k.invariant.read ∙ take_all c.loop-k.k (packed 64 bits) all in
    (stays_packed 64 bits c.loop-k.words.items c.args.len (lit< tt) held (length-unpacked 8 c.args.bytes.now c.args.len), omega arith)

pub returns : goal.returns
returns g c =
    let bits = unpacked 8 c.args.bytes.now c.args.len in
    let all : length (packed 64 bits) ≤ c.loop-k.k =
    omega (arith, length-packed 64 bits, length-unpacked 8 c.args.bytes.now c.args.len, c.div_ceil-count.ensures) in
    let held = c.loop-k.invariant.read ∙ take_all c.loop-k.k (packed 64 bits) all in
    reads_packed 64 bits c.loop-k.words.items c.args.len (lit< tt) held (length-unpacked 8 c.args.bytes.now c.args.len)
