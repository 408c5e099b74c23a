use Rattle.std.proofs.Common.{◌≡◌, ◌+◌, ◌*◌, ◌++◌, ◌<◌, ◌∙◌, ap, arith, length, ℕ}
use Rattle.std.specs.Option.{option_map}
use Rattle.filter_codec.proofs.Endings.{less_wide, rule_found, rule_none, slot_within}
use Rattle.filter_codec.specs.Judging.{seen}
use Rattle.filter_image_model.specs.Reading.{slot_letters}
use Rattle.filter_codec.proofs.ends.ends_fault.Goals as goal

pub returns-in_err-slot : goal.returns-in_err-slot
returns-in_err-slot g c =
    let ns = c.args.packed.now.dense ++ c.args.packed.now.sparse in
    ap (option_map seen) c.from_residual.ensures ∙ rule_none c.args.suffixes.now c.args.place (slot_letters ns) c.in_err-slot.ensures

pub overflow_mul-result : goal.overflow_mul-result
overflow_mul-result g c =
    let array = c.args.suffixes.now in
    let ns = c.args.packed.now.dense ++ c.args.packed.now.sparse in
    let slot = c.in_ok-slot.slot in
    let width : c.from.result + c.from-2.result ≡ array.hash_bits + array.real_bits =
    (λ j. (c.from.ensures ∙ ap (λ (w : ℕ × ℕ). w.0) c.widths-hash_bits.ensures.widths) j + (c.from-2.ensures ∙ ap (λ (w : ℕ × ℕ). w.1) c.widths-hash_bits.ensures.widths) j) in
    let within : slot < length array.slots = omega (arith, c.requires.count, slot_within array ns slot c.in_ok-slot.ensures) in
    omega (arith, ap (λ w. slot * w) width, less_wide slot (length array.slots) (array.hash_bits + array.real_bits) within, c.requires.wide)

pub overflow_add-result : goal.overflow_add-result
overflow_add-result g c =
    let array = c.args.suffixes.now in
    let ns = c.args.packed.now.dense ++ c.args.packed.now.sparse in
    let slot = c.in_ok-slot.slot in
    let width : c.from.result + c.from-2.result ≡ array.hash_bits + array.real_bits =
    (λ j. (c.from.ensures ∙ ap (λ (w : ℕ × ℕ). w.0) c.widths-hash_bits.ensures.widths) j + (c.from-2.ensures ∙ ap (λ (w : ℕ × ℕ). w.1) c.widths-hash_bits.ensures.widths) j) in
    let within : slot < length array.slots = omega (arith, c.requires.count, slot_within array ns slot c.in_ok-slot.ensures) in
    omega (arith, ap (λ w. slot * w) width, less_wide slot (length array.slots) (array.hash_bits + array.real_bits) within, c.requires.place, c.requires.wide)

pub returns : goal.returns
returns g c =
    let array = c.args.suffixes.now in
    let ns = c.args.packed.now.dense ++ c.args.packed.now.sparse in
    let width : c.from.result + c.from-2.result ≡ array.hash_bits + array.real_bits =
    (λ j. (c.from.ensures ∙ ap (λ (w : ℕ × ℕ). w.0) c.widths-hash_bits.ensures.widths) j + (c.from-2.ensures ∙ ap (λ (w : ℕ × ℕ). w.1) c.widths-hash_bits.ensures.widths) j) in
    rule_found array c.args.place c.in_ok-slot.slot (c.from.result + c.from-2.result) (slot_letters ns) c.in_ok-slot.ensures width
