use Rattle.std.proofs.Common.{◌≡◌, ℕ, ◌+◌, ◌++◌, ◌||◌, eqb, List, Bool, length, get_or, sym, ap, ◌∙◌, arith, lit<}
use Rattle.std.specs.Int.{bit_at, div_ceil}
use Rattle.std.proofs.lemmas.List.{append-nil, length-append}
use Rattle.bit_model.specs.Packed.{packed, packed_bit}
use Rattle.bit_model.specs.Numbers.{bits_of}
use Rattle.bit_words.proofs.Packing.{length-packed, length-unpacked, reads_packed, stays_packed}
use Rattle.bit_words.proofs.Numbers.{bits_of-nothing, length-bits_of, number_added}
use Rattle.bit_words.proofs.bits.Bits.push_number.Goals as goal

pub returns-then-count-eq0-clause-added : goal.returns-then-count-eq0-clause-added
returns-then-count-eq0-clause-added g c =
    sym (append-nil c.args.self.now) ∙ ap (λ (bs : List Bool). c.args.self.now ++ bs) (sym (bits_of-nothing c.args.number))
    ∙ ap (λ (n : ℕ). c.args.self.now ++ bits_of n c.args.number) (sym c.if-count-eq0.true)

pub make_room_for-requires-clause-full : goal.make_room_for-requires-clause-full
make_room_for-requires-clause-full g c =
    let long : length c.args.self.now ≡ c.self.inside.len = sym (ap length c.self.view_is) ∙ length-unpacked 64 c.self.inside.words.items c.self.inside.len in
    let held = c.self.invariant.0 ∙ ap (packed 64) c.self.view_is in
    ap length held ∙ length-packed 64 c.args.self.now ∙ ap (λ (n : ℕ). div_ceil n 64) long

pub invariant_of-self-2 : goal.invariant_of-self-2
invariant_of-self-2 g c =
    let bits = c.args.self.now in
    let len = c.self.inside.len in
    let long : length bits ≡ len = sym (ap length c.self.view_is) ∙ length-unpacked 64 c.self.inside.words.items len in
    let held = c.self.invariant.0 ∙ ap (packed 64) c.self.view_is in
    let total : length (bits ++ bits_of c.args.count c.args.number) ≡ len + c.args.count =
    omega (arith, long, length-append bits (bits_of c.args.count c.args.number), length-bits_of c.args.count c.args.number) in
    let new =
    number_added bits c.make_room_for.new.words.items c.set_bits.new.words.items len c.args.number c.args.count long c.requires
    (λ k. c.make_room_for.ensures.same k ∙ ap (λ (ws : List ℕ). get_or ws k 0) held) record {
      long = c.set_bits.ensures.long ∙ c.in_ok-make_room_for.ensures.room;
      fit = c.set_bits.ensures.fit;
      before = c.set_bits.ensures.before;
      set_at = λ j. c.set_bits.ensures.set j ∙ ap (λ (n : ℕ). packed_bit 64 c.make_room_for.new.words.items (len + j) || eqb (bit_at n j) 1) c.low_bits.ensures;
    } in
    (stays_packed 64 (bits ++ bits_of c.args.count c.args.number) c.set_bits.new.words.items (len + c.args.count) (lit< tt) new total, omega (arith, c.in_ok-make_room_for.ensures.below))

pub returns-clause-added : goal.returns-clause-added
returns-clause-added g c =
    let bits = c.args.self.now in
    let len = c.self.inside.len in
    let long : length bits ≡ len = sym (ap length c.self.view_is) ∙ length-unpacked 64 c.self.inside.words.items len in
    let held = c.self.invariant.0 ∙ ap (packed 64) c.self.view_is in
    let total : length (bits ++ bits_of c.args.count c.args.number) ≡ len + c.args.count =
    omega (arith, long, length-append bits (bits_of c.args.count c.args.number), length-bits_of c.args.count c.args.number) in
    let new =
    number_added bits c.make_room_for.new.words.items c.set_bits.new.words.items len c.args.number c.args.count long c.requires
    (λ k. c.make_room_for.ensures.same k ∙ ap (λ (ws : List ℕ). get_or ws k 0) held) record {
      long = c.set_bits.ensures.long ∙ c.in_ok-make_room_for.ensures.room;
      fit = c.set_bits.ensures.fit;
      before = c.set_bits.ensures.before;
      set_at = λ j. c.set_bits.ensures.set j ∙ ap (λ (n : ℕ). packed_bit 64 c.make_room_for.new.words.items (len + j) || eqb (bit_at n j) 1) c.low_bits.ensures;
    } in
    reads_packed 64 (bits ++ bits_of c.args.count c.args.number) c.set_bits.new.words.items (len + c.args.count) (lit< tt) new total
