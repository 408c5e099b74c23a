use Rattle.std.proofs.Common.{◌≡◌, ◌≤◌, ◌+◌, ◌-◌, ◌++◌, ℕ, false, length, take, drop, sym, ap, ◌∙◌, arith}
use Rattle.std.specs.Prelude.{Some}
use Rattle.key_base.specs.ByteOrder.{is_before}
use Rattle.map_model.specs.SortedMap.{Bytes}
use Rattle.block_model.specs.Formats.{entry_head_by}
use Rattle.block_format.specs.Judging.{shares_wrongly}
use Rattle.block_format.specs.Reading.{seen}
use Rattle.block_format.specs.Walking.{format_of}
use Rattle.block_format.specs.declared.fault.BlockFault.{BlockFault}
use Rattle.block_format.proofs.OneByte.{apart_after, few_shared}
use Rattle.block_format.proofs.JudgedEntries.{entry_is_cut, head_is_cut, is_not_above, keeps_rules, kind_is_wrong, limits_are_passed, out_of_limits, shares_another_number, wrong_kind}
use Rattle.block_format.proofs.judging.judged_entry.Goals as goal

pub returns-then-rest-head_bytes-clause-broken : goal.returns-then-rest-head_bytes-clause-broken
returns-then-rest-head_bytes-clause-broken c =
    head_is_cut (format_of c.args.format) c.args.i c.args.place c.args.before.now c.args.rest.now (omega (arith, c.if-rest-head_bytes.true, c.head_bytes.ensures))
    ∙ ap (λ (r : BlockFault). Some (seen r)) (sym c.fault_at.ensures)

pub returns-then-has_wrong_kind-clause-broken : goal.returns-then-has_wrong_kind-clause-broken
returns-then-has_wrong_kind-clause-broken c =
    let head = c.head_of-head.result in
    let e = c.head_of-head.ensures in
    let long : entry_head_by (format_of c.args.format) ≤ length c.args.rest.now = omega (arith, c.if-rest-head_bytes.false, c.head_bytes.ensures) in
    kind_is_wrong (format_of c.args.format) c.args.i c.args.place c.args.before.now c.args.rest.now
    head.kind head.shared head.rest head.value head.bytes e.kind e.shared e.rest e.value e.bytes long
    (sym c.has_wrong_kind.ensures ∙ c.if-has_wrong_kind.true)
    ∙ ap (λ (r : BlockFault). Some (seen r)) (sym c.fault_at-then-has_wrong_kind.ensures)

pub is_out_of_limits-requires : goal.is_out_of_limits-requires
is_out_of_limits-requires c =
    c.head_of-head.ensures.small

pub returns-then-is_out_of_limits-clause-broken : goal.returns-then-is_out_of_limits-clause-broken
returns-then-is_out_of_limits-clause-broken c =
    let head = c.head_of-head.result in
    let e = c.head_of-head.ensures in
    let long : entry_head_by (format_of c.args.format) ≤ length c.args.rest.now = omega (arith, c.if-rest-head_bytes.false, c.head_bytes.ensures) in
    let sound : wrong_kind head.kind head.value ≡ false = sym c.has_wrong_kind.ensures ∙ c.if-has_wrong_kind.false in
    limits_are_passed (format_of c.args.format) c.args.i c.args.place c.args.before.now c.args.rest.now
    head.kind head.shared head.rest head.value head.bytes e.kind e.shared e.rest e.value e.bytes long
    sound (sym c.is_out_of_limits.ensures ∙ c.if-is_out_of_limits.true)
    ∙ ap (λ (r : BlockFault). Some (seen r)) (sym c.fault_at-then-is_out_of_limits.ensures)

pub returns-then-rest-head-clause-broken : goal.returns-then-rest-head-clause-broken
returns-then-rest-head-clause-broken c =
    let head = c.head_of-head.result in
    let e = c.head_of-head.ensures in
    let long : entry_head_by (format_of c.args.format) ≤ length c.args.rest.now = omega (arith, c.if-rest-head_bytes.false, c.head_bytes.ensures) in
    let sound : wrong_kind head.kind head.value ≡ false = sym c.has_wrong_kind.ensures ∙ c.if-has_wrong_kind.false in
    let within : out_of_limits (format_of c.args.format) head.shared head.rest head.value ≡ false = sym c.is_out_of_limits.ensures ∙ c.if-is_out_of_limits.false in
    entry_is_cut (format_of c.args.format) c.args.i c.args.place c.args.before.now c.args.rest.now
    head.kind head.shared head.rest head.value head.bytes e.kind e.shared e.rest e.value e.bytes long
    sound within (omega (arith, c.if-rest-head.true))
    ∙ ap (λ (r : BlockFault). Some (seen r)) (sym c.fault_at-then-rest-head.ensures)

pub returns-then-shares_wrongly-clause-broken : goal.returns-then-shares_wrongly-clause-broken
returns-then-shares_wrongly-clause-broken c =
    let head = c.head_of-head.result in
    let e = c.head_of-head.ensures in
    let long : entry_head_by (format_of c.args.format) ≤ length c.args.rest.now = omega (arith, c.if-rest-head_bytes.false, c.head_bytes.ensures) in
    let sound : wrong_kind head.kind head.value ≡ false = sym c.has_wrong_kind.ensures ∙ c.if-has_wrong_kind.false in
    let within : out_of_limits (format_of c.args.format) head.shared head.rest head.value ≡ false = sym c.is_out_of_limits.ensures ∙ c.if-is_out_of_limits.false in
    let whole : head.bytes + head.rest + head.value ≤ length c.args.rest.now = omega (arith, c.if-rest-head.false) in
    let own = take head.rest (drop head.bytes c.args.rest.now) in
    let size : head.bytes + head.rest - head.bytes ≡ head.rest = omega arith in
    let slice : take (head.bytes + head.rest - head.bytes) (drop head.bytes c.args.rest.now) ≡ own = ap (λ (n : ℕ). take n (drop head.bytes c.args.rest.now)) size in
    shares_another_number (format_of c.args.format) c.args.i c.args.place c.args.before.now c.args.rest.now
    head.kind head.shared head.rest head.value head.bytes e.kind e.shared e.rest e.value e.bytes long
    sound within whole (ap (shares_wrongly (format_of c.args.format) c.args.i head.shared c.args.before.now) (sym slice) ∙ sym c.shares_wrongly.ensures ∙ c.if-shares_wrongly.true)
    ∙ ap (λ (r : BlockFault). Some (seen r)) (sym c.fault_at-then-shares_wrongly.ensures)

pub is_above-requires-clause-few : goal.is_above-requires-clause-few
is_above-requires-clause-few c =
    few_shared (format_of c.args.format) c.args.i c.head_of-head.result.shared c.args.before.now _ c.args.rest.now c.head_of-head.ensures.shared
    (sym c.shares_wrongly.ensures ∙ c.if-shares_wrongly.false)

pub is_above-requires-clause-apart : goal.is_above-requires-clause-apart
is_above-requires-clause-apart c =
    apart_after (format_of c.args.format) c.args.i c.head_of-head.result.shared c.args.before.now _ c.args.rest.now c.head_of-head.ensures.shared
    (sym c.shares_wrongly.ensures ∙ c.if-shares_wrongly.false)

pub returns-then-not-is_above-clause-broken : goal.returns-then-not-is_above-clause-broken
returns-then-not-is_above-clause-broken c =
    let head = c.head_of-head.result in
    let e = c.head_of-head.ensures in
    let long : entry_head_by (format_of c.args.format) ≤ length c.args.rest.now = omega (arith, c.if-rest-head_bytes.false, c.head_bytes.ensures) in
    let sound : wrong_kind head.kind head.value ≡ false = sym c.has_wrong_kind.ensures ∙ c.if-has_wrong_kind.false in
    let within : out_of_limits (format_of c.args.format) head.shared head.rest head.value ≡ false = sym c.is_out_of_limits.ensures ∙ c.if-is_out_of_limits.false in
    let whole : head.bytes + head.rest + head.value ≤ length c.args.rest.now = omega (arith, c.if-rest-head.false) in
    let own = take head.rest (drop head.bytes c.args.rest.now) in
    let size : head.bytes + head.rest - head.bytes ≡ head.rest = omega arith in
    let slice : take (head.bytes + head.rest - head.bytes) (drop head.bytes c.args.rest.now) ≡ own = ap (λ (n : ℕ). take n (drop head.bytes c.args.rest.now)) size in
    let rightly : shares_wrongly (format_of c.args.format) c.args.i head.shared c.args.before.now own ≡ false =
    ap (shares_wrongly (format_of c.args.format) c.args.i head.shared c.args.before.now) (sym slice) ∙ sym c.shares_wrongly.ensures ∙ c.if-shares_wrongly.false in
    is_not_above (format_of c.args.format) c.args.i c.args.place c.args.before.now c.args.rest.now
    head.kind head.shared head.rest head.value head.bytes e.kind e.shared e.rest e.value e.bytes long
    sound within whole rightly
    (ap (λ (l : Bytes). is_before c.args.before.now (take head.shared c.args.before.now ++ l)) (sym slice) ∙ sym c.is_above.ensures ∙ c.if-not-is_above.true)
    ∙ ap (λ (r : BlockFault). Some (seen r)) (sym c.fault_at-then-not-is_above.ensures)

pub returns-clause-kept : goal.returns-clause-kept
returns-clause-kept c =
    let head = c.head_of-head.result in
    let e = c.head_of-head.ensures in
    let long : entry_head_by (format_of c.args.format) ≤ length c.args.rest.now = omega (arith, c.if-rest-head_bytes.false, c.head_bytes.ensures) in
    let sound : wrong_kind head.kind head.value ≡ false = sym c.has_wrong_kind.ensures ∙ c.if-has_wrong_kind.false in
    let within : out_of_limits (format_of c.args.format) head.shared head.rest head.value ≡ false = sym c.is_out_of_limits.ensures ∙ c.if-is_out_of_limits.false in
    let whole : head.bytes + head.rest + head.value ≤ length c.args.rest.now = omega (arith, c.if-rest-head.false) in
    let own = take head.rest (drop head.bytes c.args.rest.now) in
    let size : head.bytes + head.rest - head.bytes ≡ head.rest = omega arith in
    let slice : take (head.bytes + head.rest - head.bytes) (drop head.bytes c.args.rest.now) ≡ own = ap (λ (n : ℕ). take n (drop head.bytes c.args.rest.now)) size in
    let rightly : shares_wrongly (format_of c.args.format) c.args.i head.shared c.args.before.now own ≡ false =
    ap (shares_wrongly (format_of c.args.format) c.args.i head.shared c.args.before.now) (sym slice) ∙ sym c.shares_wrongly.ensures ∙ c.if-shares_wrongly.false in
    keeps_rules (format_of c.args.format) c.args.i c.args.place c.args.before.now c.args.rest.now
    head.kind head.shared head.rest head.value head.bytes e.kind e.shared e.rest e.value e.bytes long
    sound within whole rightly
    (ap (λ (l : Bytes). is_before c.args.before.now (take head.shared c.args.before.now ++ l)) (sym slice) ∙ sym c.is_above.ensures ∙ c.if-not-is_above.false)

pub returns-clause-few : goal.returns-clause-few
returns-clause-few c =
    few_shared (format_of c.args.format) c.args.i c.head_of-head.result.shared c.args.before.now _ c.args.rest.now c.head_of-head.ensures.shared
    (sym c.shares_wrongly.ensures ∙ c.if-shares_wrongly.false)
