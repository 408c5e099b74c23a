use Rattle.std.proofs.Common.{◌≡◌, ◌<◌, ◌≤◌, ◌*◌, ◌/◌, ◌%◌, ◌^◌, ◌++◌, ◌∷◌, [], ℕ, List, take, length, sym, ap, ◌∙◌, arith}
use Rattle.std.specs.Int.{div_ceil}
use Rattle.std.proofs.lemmas.List.{get_or_read, take_more, take_all, append_assoc}
use Rattle.bit_model.specs.Packed.{packed}
use Rattle.bit_words.proofs.Packing.{length-unpacked, length-packed}
use Rattle.bit_words.proofs.Bytes.{byte_is, byte_place-lt}
use Rattle.bit_words.proofs.bits.Bits.to_bytes.Goals as goal

pub index-requires : goal.index-requires
index-requires g c =
    let long : length c.args.self.now ≡ c.self.inside.len = sym (ap length c.self.view_is) ∙ length-unpacked 64 c.self.inside.words.items c.self.inside.len in
    let held = c.self.invariant.0 ∙ ap (packed 64) c.self.view_is in
    let below : c.loop-k.k < div_ceil c.self.inside.len 8 = omega (arith, c.div_ceil-count.ensures) in
    omega (arith, byte_place-lt c.args.self.now c.self.inside.words.items c.loop-k.k c.self.inside.len held long below, c.self.inside.words.ok.0)

pub loop-k-preserved : goal.loop-k-preserved
loop-k-preserved g c =
    let long : length c.args.self.now ≡ c.self.inside.len = sym (ap length c.self.view_is) ∙ length-unpacked 64 c.self.inside.words.items c.self.inside.len in
    let held = c.self.invariant.0 ∙ ap (packed 64) c.self.view_is in
    let below : c.loop-k.k < div_ceil c.self.inside.len 8 = omega (arith, c.div_ceil-count.ensures) in
    let place = byte_place-lt c.args.self.now c.self.inside.words.items c.loop-k.k c.self.inside.len held long below in
    let read = get_or_read c.self.inside.words.items (c.loop-k.k / 8) c.index.result.now place c.index.ensures 0 in
    let byte = c.byte_of.ensures ∙ ap (λ (n : ℕ). n / 2 ^ (8 * (c.loop-k.k % 8)) % 2 ^ 8) read ∙ byte_is c.args.self.now c.self.inside.words.items c.loop-k.k held in
    let within : c.loop-k.k < length (packed 8 c.args.self.now) = omega (arith, length-packed 8 c.args.self.now, ap (λ (n : ℕ). div_ceil n 8) long) in
    record {
      written =
          c.push_reserved.ensures.items ∙ ap (λ (xs : List ℕ). xs ++ c.byte_of.result ∷ []) c.loop-k.invariant.written
          ∙ append_assoc c.try_reserve.new.self.items (take c.loop-k.k (packed 8 c.args.self.now)) (c.byte_of.result ∷ [])
          ∙ ap (λ (n : ℕ). c.try_reserve.new.self.items ++ (take c.loop-k.k (packed 8 c.args.self.now) ++ n ∷ [])) byte
          ∙ ap (λ (xs : List ℕ). c.try_reserve.new.self.items ++ xs) (sym (take_more (packed 8 c.args.self.now) c.loop-k.k 0 within));
      room = omega arith;
    }

pub returns-clause-written : goal.returns-clause-written
returns-clause-written g c =
    let long : length c.args.self.now ≡ c.self.inside.len = sym (ap length c.self.view_is) ∙ length-unpacked 64 c.self.inside.words.items c.self.inside.len in
    let all : length (packed 8 c.args.self.now) ≤ c.loop-k.k = omega (arith, length-packed 8 c.args.self.now, ap (λ (n : ℕ). div_ceil n 8) long, c.div_ceil-count.ensures) in
    c.loop-k.invariant.written ∙ ap (λ (xs : List ℕ). xs ++ take c.loop-k.k (packed 8 c.args.self.now)) c.in_ok-try_reserve.ensures.items
    ∙ ap (λ (xs : List ℕ). c.args.out.now.items ++ xs) (take_all c.loop-k.k (packed 8 c.args.self.now) all)
