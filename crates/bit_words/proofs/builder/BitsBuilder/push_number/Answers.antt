use Rattle.std.proofs.Common.{◌≡◌, ℕ, ◌+◌, ◌≤◌, ◌++◌, ◌||◌, eqb, List, Bool, length, get_or, sym, ap, ◌∙◌, arith, lit<}
use Rattle.std.specs.Int.{bit_at, div_ceil}
use Rattle.std.proofs.lemmas.List.{append-nil, length-append}
use Rattle.bit_model.specs.Packed.{packed_bit, unpacked}
use Rattle.bit_model.specs.Numbers.{bits_of}
use Rattle.bit_words.specs.Room.{BitsInRoom}
use Rattle.bit_words.proofs.Packing.{length-packed, length-unpacked, reads_packed, stays_packed}
use Rattle.bit_words.proofs.Numbers.{bits_of-nothing, length-bits_of, number_added}
use Rattle.bit_words.proofs.builder.BitsBuilder.push_number.Goals as goal

pub returns-then-count-eq0 : goal.returns-then-count-eq0
returns-then-count-eq0 g c =
    let same : c.args.self.now.bits ≡ c.args.self.now.bits ++ bits_of c.args.count c.args.number =
    sym (append-nil c.args.self.now.bits) ∙ ap (λ (bs : List Bool). c.args.self.now.bits ++ bs) (sym (bits_of-nothing c.args.number))
    ∙ ap (λ (n : ℕ). c.args.self.now.bits ++ bits_of n c.args.number) (sym c.if-count-eq0.true) in
    ap (λ (bs : List Bool). record c.args.self.now { bits = bs }) same

pub add_word_for-requires-clause-limit : goal.add_word_for-requires-clause-limit
add_word_for-requires-clause-limit g c =
    omega (
      arith,
      c.requires.room,
      ap (λ (b : BitsInRoom). length b.bits) c.self.view_is,
      ap (λ (b : BitsInRoom). b.limit) c.self.view_is,
      length-unpacked 64 c.self.inside.words.items c.self.inside.len,
      c.self.invariant.2,
    )

pub add_word_for-requires-clause-full : goal.add_word_for-requires-clause-full
add_word_for-requires-clause-full g c =
    let bits = unpacked 64 c.self.inside.words.items c.self.inside.len in
    ap length c.self.invariant.0 ∙ length-packed 64 bits ∙ ap (λ (n : ℕ). div_ceil n 64) (length-unpacked 64 c.self.inside.words.items c.self.inside.len)

pub add_word_for-requires-clause-room : goal.add_word_for-requires-clause-room
add_word_for-requires-clause-room g c =
    omega (
      arith,
      c.requires.room,
      ap (λ (b : BitsInRoom). length b.bits) c.self.view_is,
      ap (λ (b : BitsInRoom). b.limit) c.self.view_is,
      length-unpacked 64 c.self.inside.words.items c.self.inside.len,
      c.self.invariant.3,
    )

pub overflow_add-self : goal.overflow_add-self
overflow_add-self g c =
    record {
      fits = omega (
        arith,
        c.requires.room,
        ap (λ (b : BitsInRoom). length b.bits) c.self.view_is,
        ap (λ (b : BitsInRoom). b.limit) c.self.view_is,
        length-unpacked 64 c.self.inside.words.items c.self.inside.len,
        c.self.invariant.2,
      );
    }

pub invariant_of-self : goal.invariant_of-self
invariant_of-self g c =
    let len = c.self.inside.len in
    let bits = unpacked 64 c.self.inside.words.items len in
    let long : length bits ≡ len = length-unpacked 64 c.self.inside.words.items len in
    let total : length (bits ++ bits_of c.args.count c.args.number) ≡ len + c.args.count =
    omega (arith, long, length-append bits (bits_of c.args.count c.args.number), length-bits_of c.args.count c.args.number) in
    let new =
    number_added bits c.add_word_for.new.words.items c.set_bits.new.words.items len c.args.number c.args.count long c.requires.width
    (λ k. c.add_word_for.ensures.same k ∙ ap (λ (ws : List ℕ). get_or ws k 0) c.self.invariant.0) record {
      long = c.set_bits.ensures.long ∙ c.add_word_for.ensures.long;
      fit = c.set_bits.ensures.fit;
      before = c.set_bits.ensures.before;
      set_at = λ j. c.set_bits.ensures.set j ∙ ap (λ (n : ℕ). packed_bit 64 c.add_word_for.new.words.items (len + j) || eqb (bit_at n j) 1) c.low_bits.ensures;
    } in
    let room : len + c.args.count ≤ c.self.inside.limit =
    omega (arith, c.requires.room, ap (λ (b : BitsInRoom). length b.bits) c.self.view_is, ap (λ (b : BitsInRoom). b.limit) c.self.view_is, long) in (
      stays_packed 64 (bits ++ bits_of c.args.count c.args.number) c.set_bits.new.words.items (len + c.args.count) (lit< tt) new total,
      room,
      c.self.invariant.2,
      omega (arith, c.self.invariant.3, c.set_bits.ensures.capacity, c.add_word_for.ensures.capacity),
    )

pub returns : goal.returns
returns g c =
    let len = c.self.inside.len in
    let bits = unpacked 64 c.self.inside.words.items len in
    let long : length bits ≡ len = length-unpacked 64 c.self.inside.words.items len in
    let total : length (bits ++ bits_of c.args.count c.args.number) ≡ len + c.args.count =
    omega (arith, long, length-append bits (bits_of c.args.count c.args.number), length-bits_of c.args.count c.args.number) in
    let new =
    number_added bits c.add_word_for.new.words.items c.set_bits.new.words.items len c.args.number c.args.count long c.requires.width
    (λ k. c.add_word_for.ensures.same k ∙ ap (λ (ws : List ℕ). get_or ws k 0) c.self.invariant.0) record {
      long = c.set_bits.ensures.long ∙ c.add_word_for.ensures.long;
      fit = c.set_bits.ensures.fit;
      before = c.set_bits.ensures.before;
      set_at = λ j. c.set_bits.ensures.set j ∙ ap (λ (n : ℕ). packed_bit 64 c.add_word_for.new.words.items (len + j) || eqb (bit_at n j) 1) c.low_bits.ensures;
    } in
    let read = reads_packed 64 (bits ++ bits_of c.args.count c.args.number) c.set_bits.new.words.items (len + c.args.count) (lit< tt) new total in
    rw (← c.self.view_is) (ap (λ (bs : List Bool). record { bits = bs; limit = c.self.inside.limit }) read)
