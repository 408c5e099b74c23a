use Rattle.std.proofs.Common.{◌≡◌, ◌+◌, ◌*◌, ◌∙◌, ℕ, drop, ap, sym, arith}
use Rattle.std.specs.Prelude.{Some}
use Rattle.byteorder.specs.Endian.{little_number}
use Rattle.byte_fields.specs.Faults.{fault}
use Rattle.map_file_model.specs.Reading.{offsets_place, pair_count_in}
use Rattle.map_parts.proofs.Offsets.{begun, broken, ended, first_broken, kept_on}
use Rattle.map_parts.proofs.rest.offsets_rule.Goals as goal
use Rattle.map_parts.specs.declared.parts.Parts.{Parts}

pub returns-then-get_u64-ne0 : goal.returns-then-get_u64-ne0
returns-then-get_u64-ne0 c =
    let bytes = c.args.bytes.now in
    let there : c.args.parts.offsets ≡ offsets_place bytes = ap (λ (p : Parts). p.offsets) c.requires.parts in
    c.fault.ensures ∙ ap (λ (p : ℕ). Some (fault p 7)) there
    ∙ sym (first_broken bytes c.get_u64.result (c.get_u64.ensures ∙ ap (λ (p : ℕ). little_number 8 (drop p bytes)) there) c.if-get_u64-ne0.true)

pub loop-slot-init : goal.loop-slot-init
loop-slot-init c =
    let bytes = c.args.bytes.now in
    let there : c.args.parts.offsets ≡ offsets_place bytes = ap (λ (p : Parts). p.offsets) c.requires.parts in
    let none : c.get_u64.result ≡ 0 = omega (arith, c.if-get_u64-ne0.false) in
    begun bytes c.get_u64.result (c.get_u64.ensures ∙ ap (λ (p : ℕ). little_number 8 (drop p bytes)) there) none

pub returns-then-offset-before : goal.returns-then-offset-before
returns-then-offset-before c =
    let bytes = c.args.bytes.now in
    let slot = c.loop-slot.slot in
    let there : c.args.parts.offsets ≡ offsets_place bytes = ap (λ (p : Parts). p.offsets) c.requires.parts in
    let pairs : c.args.parts.pairs ≡ pair_count_in bytes = ap (λ (p : Parts). p.pairs) c.requires.parts in
    let read = c.get_u64-offset.ensures ∙ ap (λ (p : ℕ). little_number 8 (drop (p + 8 * slot + 8) bytes)) there in
    c.fault-then-offset-before.ensures ∙ ap (λ (p : ℕ). Some (fault (p + 8 * slot + 8) 7)) there
    ∙ sym (c.loop-slot.invariant ∙ broken bytes slot c.loop-slot.before c.get_u64-offset.result (omega (arith, pairs)) read (omega (arith, c.if-offset-before.true)))

pub loop-slot-preserved : goal.loop-slot-preserved
loop-slot-preserved c =
    let bytes = c.args.bytes.now in
    let slot = c.loop-slot.slot in
    let there : c.args.parts.offsets ≡ offsets_place bytes = ap (λ (p : Parts). p.offsets) c.requires.parts in
    let pairs : c.args.parts.pairs ≡ pair_count_in bytes = ap (λ (p : Parts). p.pairs) c.requires.parts in
    let read = c.get_u64-offset.ensures ∙ ap (λ (p : ℕ). little_number 8 (drop (p + 8 * slot + 8) bytes)) there in
    c.loop-slot.invariant ∙ kept_on bytes slot c.loop-slot.before c.get_u64-offset.result (omega (arith, pairs)) read (omega (arith, c.if-offset-before.false))

pub returns : goal.returns
returns c =
    let bytes = c.args.bytes.now in
    let pairs : c.args.parts.pairs ≡ pair_count_in bytes = ap (λ (p : Parts). p.pairs) c.requires.parts in
    sym (c.loop-slot.invariant ∙ ended bytes c.loop-slot.slot c.loop-slot.before (omega (arith, pairs, c.loop-slot-test.false)))
