use Rattle.std.proofs.Common.{◌≡◌, ℕ, ◌+◌, ◌*◌, ◌^◌, ◌<◌, ◌≤◌, length, get_or, sym, ap, ◌∙◌, arith, lit<}
use Rattle.std.proofs.Math.Nat.{lt_of_lt_of_le, pow-le-pow_right}
use Rattle.bit_model.specs.Numbers.{number_at}
use Rattle.suffix_bits.specs.Slots.{suffix_in, unpacked_suffixes}
use Rattle.suffix_bits.proofs.Packing.{number_at-lt, get_or-unpacked, length-unpacked, slot_room, suffix_in-fits}
use Rattle.suffix_bits.proofs.suffixes.Suffixes.get.Goals as goal

pub overflow_mul-first : goal.overflow_mul-first
overflow_mul-first g c =
    let h = c.self.inside.hash_bits in
    let r = c.self.inside.real_bits in
    let width : c.width-width.result ≡ h + r = c.width-width.ensures.width ∙ sym (ap (λ a. a.hash_bits + a.real_bits) c.self.view_is) in
    let slots : unpacked_suffixes h r c.self.inside.bits c.self.inside.count ≡ c.args.self.now.slots = ap (λ a. a.slots) c.self.view_is in
    let below : c.args.slot < c.self.inside.count = omega (arith, c.requires, length-unpacked h r c.self.inside.bits c.self.inside.count, ap length slots) in
    let there : c.width-width.result * c.args.slot + c.width-width.result ≤ length c.self.inside.bits =
    slot_room c.width-width.result c.self.inside.count c.args.slot (length c.self.inside.bits) (c.self.invariant.0 ∙ ap (λ (w : ℕ). w * c.self.inside.count) (sym width)) below in
    record { fits = omega (arith, there, c.len-len.ensures, c.len-len.type_inv) }

pub overflow_add-first : goal.overflow_add-first
overflow_add-first g c =
    let h = c.self.inside.hash_bits in
    let r = c.self.inside.real_bits in
    let width : c.width-width.result ≡ h + r = c.width-width.ensures.width ∙ sym (ap (λ a. a.hash_bits + a.real_bits) c.self.view_is) in
    let slots : unpacked_suffixes h r c.self.inside.bits c.self.inside.count ≡ c.args.self.now.slots = ap (λ a. a.slots) c.self.view_is in
    let below : c.args.slot < c.self.inside.count = omega (arith, c.requires, length-unpacked h r c.self.inside.bits c.self.inside.count, ap length slots) in
    let there : c.width-width.result * c.args.slot + c.width-width.result ≤ length c.self.inside.bits =
    slot_room c.width-width.result c.self.inside.count c.args.slot (length c.self.inside.bits) (c.self.invariant.0 ∙ ap (λ (w : ℕ). w * c.self.inside.count) (sym width)) below in
    record { fits = omega (arith, there, c.len-len.ensures, c.len-len.type_inv) }

pub prove-unreachable-requires : goal.prove-unreachable-requires
prove-unreachable-requires g c =
    let h = c.self.inside.hash_bits in
    let r = c.self.inside.real_bits in
    let width : c.width-width.result ≡ h + r = c.width-width.ensures.width ∙ sym (ap (λ a. a.hash_bits + a.real_bits) c.self.view_is) in
    let slots : unpacked_suffixes h r c.self.inside.bits c.self.inside.count ≡ c.args.self.now.slots = ap (λ a. a.slots) c.self.view_is in
    let below : c.args.slot < c.self.inside.count = omega (arith, c.requires, length-unpacked h r c.self.inside.bits c.self.inside.count, ap length slots) in
    let there : c.width-width.result * c.args.slot + c.width-width.result ≤ length c.self.inside.bits =
    slot_room c.width-width.result c.self.inside.count c.args.slot (length c.self.inside.bits) (c.self.invariant.0 ∙ ap (λ (w : ℕ). w * c.self.inside.count) (sym width)) below in
    omega (arith, there, c.if-prove.true, c.len-len.ensures)

pub split-requires-clause-fits : goal.split-requires-clause-fits
split-requires-clause-fits g c =
    let width : c.width-width.result ≡ c.self.inside.hash_bits + c.self.inside.real_bits =
    c.width-width.ensures.width ∙ sym (ap (λ a. a.hash_bits + a.real_bits) c.self.view_is) in
    let more : c.width-width.result ≤ 32 + c.self.inside.hash_bits = omega (arith, width, c.self.invariant.2) in
    rw c.number.ensures (lt_of_lt_of_le (number_at-lt c.self.inside.bits (c.width-width.result * c.args.slot) c.width-width.result) (pow-le-pow_right (lit< tt) more))

pub returns-clause-suffix : goal.returns-clause-suffix
returns-clause-suffix g c =
    let h = c.self.inside.hash_bits in
    let r = c.self.inside.real_bits in
    let width : c.width-width.result ≡ h + r = c.width-width.ensures.width ∙ sym (ap (λ a. a.hash_bits + a.real_bits) c.self.view_is) in
    let slots : unpacked_suffixes h r c.self.inside.bits c.self.inside.count ≡ c.args.self.now.slots = ap (λ a. a.slots) c.self.view_is in
    let below : c.args.slot < c.self.inside.count = omega (arith, c.requires, length-unpacked h r c.self.inside.bits c.self.inside.count, ap length slots) in
    c.split.ensures ∙ ap (suffix_in h) (c.number.ensures ∙ ap (λ (w : ℕ). number_at c.self.inside.bits (w * c.args.slot) w) width)
    ∙ sym (get_or-unpacked h r c.self.inside.bits c.self.inside.count c.args.slot (0, 0) below)
    ∙ ap (λ xs. get_or xs c.args.slot (0, 0)) slots

pub returns-clause-fits : goal.returns-clause-fits
returns-clause-fits g c =
    let h = c.self.inside.hash_bits in
    let r = c.self.inside.real_bits in
    let width : c.width-width.result ≡ h + r = c.width-width.ensures.width ∙ sym (ap (λ a. a.hash_bits + a.real_bits) c.self.view_is) in
    let below : c.number.result < 2 ^ (h + r) =
    rw (← width, c.number.ensures) (number_at-lt c.self.inside.bits (c.width-width.result * c.args.slot) c.width-width.result) in
    let fits = suffix_in-fits h r c.number.result below in
    rw (← c.self.view_is, c.split.ensures) fits
