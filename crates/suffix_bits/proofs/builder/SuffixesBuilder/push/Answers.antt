use Rattle.std.proofs.Common.{◌≡◌, ℕ, ◌+◌, ◌*◌, ◌++◌, ◌<◌, ◌≤◌, List, Bool, length, subst, sym, ap, ap₂, ◌∙◌, arith}
use Rattle.bit_model.specs.Numbers.{bits_of}
use Rattle.bit_words.specs.Room.{BitsInRoom}
use Rattle.suffix_bits.specs.Room.{SuffixesInRoom}
use Rattle.suffix_bits.specs.Slots.{Suffix, IsOfWidths, suffix_number, unpacked_suffixes}
use Rattle.suffix_bits.proofs.Packing.{unpacked-push, length-pushed, length-unpacked, slot_room}
use Rattle.suffix_bits.proofs.builder.SuffixesBuilder.push.Goals as goal

pub push_number-requires-clause-room : goal.push_number-requires-clause-room
push_number-requires-clause-room g c =
    let h = c.self.inside.hash_bits in
    let r = c.self.inside.real_bits in
    let slots = ap (λ (s : SuffixesInRoom). length s.array.slots) c.self.view_is in
    let limit = ap (λ (s : SuffixesInRoom). s.limit) c.self.view_is in
    let below : c.self.inside.count < c.self.inside.limit =
    omega (arith, c.requires.room, slots, limit, length-unpacked h r c.self.inside.bits.bits c.self.inside.count) in
    let room : (h + r) * c.self.inside.count + (h + r) ≤ c.self.inside.bits.limit =
    slot_room (h + r) c.self.inside.limit c.self.inside.count c.self.inside.bits.limit c.self.invariant.1 below in
    omega (arith, room, c.self.invariant.0, c.from.ensures, c.from-2.ensures)

pub overflow_add-self : goal.overflow_add-self
overflow_add-self g c =
    record {
      fits = omega (
        arith,
        c.requires.room,
        ap (λ (s : SuffixesInRoom). length s.array.slots) c.self.view_is,
        ap (λ (s : SuffixesInRoom). s.limit) c.self.view_is,
        length-unpacked c.self.inside.hash_bits c.self.inside.real_bits c.self.inside.bits.bits c.self.inside.count,
        c.self.ranges.1.1.1.1.0.1,
      );
    }

pub invariant_of-self : goal.invariant_of-self
invariant_of-self g c =
    let h = c.self.inside.hash_bits in
    let r = c.self.inside.real_bits in
    let width : c.from.result + c.from-2.result ≡ h + r = omega (arith, c.from.ensures, c.from-2.ensures) in
    let added : c.push_number.new.self.bits ≡ c.self.inside.bits.bits ++ bits_of (h + r) c.joined.result =
    ap (λ (b : BitsInRoom). b.bits) c.push_number.ensures ∙ ap (λ (w : ℕ). c.self.inside.bits.bits ++ bits_of w c.joined.result) width in (
      rw added (length-pushed h r c.self.inside.bits.bits c.self.inside.count c.joined.result c.self.invariant.0),
      ap (λ (b : BitsInRoom). b.limit) c.push_number.ensures ∙ c.self.invariant.1,
      omega (
        arith,
        c.requires.room,
        ap (λ (s : SuffixesInRoom). length s.array.slots) c.self.view_is,
        ap (λ (s : SuffixesInRoom). s.limit) c.self.view_is,
        length-unpacked h r c.self.inside.bits.bits c.self.inside.count,
      ),
      c.self.invariant.3,
      c.self.invariant.4,
    )

pub returns : goal.returns
returns g c =
    let h = c.self.inside.hash_bits in
    let r = c.self.inside.real_bits in
    let bits = c.self.inside.bits.bits in
    let width : c.from.result + c.from-2.result ≡ h + r = omega (arith, c.from.ensures, c.from-2.ensures) in
    let fits : IsOfWidths h r (c.args.hash, c.args.real) =
    subst (λ (s : SuffixesInRoom). IsOfWidths s.array.hash_bits s.array.real_bits (c.args.hash, c.args.real)) (sym c.self.view_is) c.requires.fits in
    let added : c.push_number.new.self.bits ≡ c.self.inside.bits.bits ++ bits_of (h + r) (suffix_number h (c.args.hash, c.args.real)) =
    ap (λ (b : BitsInRoom). b.bits) c.push_number.ensures ∙ ap₂ (λ (w n : ℕ). c.self.inside.bits.bits ++ bits_of w n) width c.joined.ensures in
    let slots =
    ap (λ (bs : List Bool). unpacked_suffixes h r bs (c.self.inside.count + 1)) added
    ∙ unpacked-push h r bits c.self.inside.count (c.args.hash, c.args.real) c.self.invariant.0 fits in
    rw (← c.self.view_is) (ap (λ (xs : List Suffix). record { array = record { hash_bits = h; real_bits = r; slots = xs }; limit = c.self.inside.limit }) slots)
