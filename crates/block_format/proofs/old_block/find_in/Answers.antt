use Rattle.std.proofs.Common.{◌≡◌, ◌≤◌, ◌<◌, ◌+◌, ◌-◌, ℕ, true, false, length, drop, sym, ap, ap₂, ◌∙◌, subst, arith, length-drop}
use Rattle.std.specs.Prelude.{Some, None, bytes_eq, if◌then◌else◌}
use Rattle.std.proofs.lemmas.List.{take_rest, drop-drop}
use Rattle.map_model.specs.SortedMap.{Bytes}
use Rattle.entry_model.specs.Entries.{Entry}
use Rattle.entry_model.specs.Newest.{lookup}
use Rattle.block_model.specs.OldReading.{old_entries_in}
use Rattle.block_model.specs.Order.{is_any}
use Rattle.entry_model.specs.Reading.{entry_in, key_in, width_in}
use Rattle.key_base.specs.ByteOrder.{is_before}
use Rattle.block_format.specs.Reading.{Stand}
use Rattle.block_format.proofs.Standing.{behind, fits, here_or_missing, passed_below}
use Rattle.block_format.proofs.old_block.find_in.Goals as goal

pub entry_here-row-requires : goal.entry_here-row-requires
entry_here-row-requires c =
    subst (λ (l : Bytes). width_in l ≤ length l) (sym (take_rest c.args.bytes.now c.loop-i.at))
    (fits (c.args.count - c.loop-i.i) (drop c.loop-i.at c.args.bytes.now) (omega (arith, c.loop-i-test.true)) c.loop-i.invariant.stand)

pub returns-then-not-is_below : goal.returns-then-not-is_below
returns-then-not-is_below c =
    let bytes = c.args.bytes.now in
    let key = c.args.key.now in
    let here = drop c.loop-i.at bytes in
    let rest = take_rest bytes c.loop-i.at in
    let keys : c.entry_here-row.result.key.now ≡ key_in here = c.entry_here-row.ensures.key ∙ ap key_in rest in
    let not_below : is_before (key_in here) key ≡ false = ap (λ (k : Bytes). is_before k key) (sym keys) ∙ sym c.is_below.ensures ∙ c.if-not-is_below.true in
    c.said.ensures
    ∙ ap₂ (λ (k : Bytes) (e : Entry). if bytes_eq k key then Some e.value else None) keys (c.entry_here-row.ensures.entry ∙ ap entry_in rest)
    ∙ sym (here_or_missing (c.args.count - c.loop-i.i) here (omega (arith, c.loop-i-test.true)) c.loop-i.invariant.stand key not_below)
    ∙ sym c.loop-i.invariant.same

pub loop-i-preserved : goal.loop-i-preserved
loop-i-preserved c =
    let bytes = c.args.bytes.now in
    let key = c.args.key.now in
    let at = c.loop-i.at in
    let n = c.args.count - c.loop-i.i in
    let some : 0 < n = omega (arith, c.loop-i-test.true) in
    let here = drop at bytes in
    let rest = take_rest bytes at in
    let w = c.entry_here-row.result.width in
    let keys : c.entry_here-row.result.key.now ≡ key_in here = c.entry_here-row.ensures.key ∙ ap key_in rest in
    let below : is_before (key_in here) key ≡ true = ap (λ (k : Bytes). is_before k key) (sym keys) ∙ sym c.is_below.ensures ∙ c.if-not-is_below.false in
    let width : w ≡ width_in here = c.entry_here-row.ensures.width ∙ ap width_in rest in
    let fewer : n - 1 ≡ c.args.count - (c.loop-i.i + 1) = omega arith in
    let next : drop (width_in here) here ≡ drop (at + w) bytes = ap (λ (k : ℕ). drop k here) (sym width) ∙ drop-drop w at bytes in
    record {
      within = omega (arith, c.entry_here-row.ensures.within, ap length rest, length-drop at bytes, c.loop-i.invariant.within);
      stand = subst (λ (l : Bytes). Stand (c.args.count - (c.loop-i.i + 1)) is_any l) next (subst (λ (k : ℕ). Stand k is_any (drop (width_in here) here)) fewer (behind n here some c.loop-i.invariant.stand));
      same = c.loop-i.invariant.same ∙ passed_below n here some c.loop-i.invariant.stand key below ∙ ap₂ (λ (k : ℕ) (l : Bytes). lookup (old_entries_in k l) key) fewer next;
    }

pub returns : goal.returns
unfolding old_entries_in
returns c =
    let zero : c.args.count - c.loop-i.i ≡ 0 = omega (arith, c.loop-i-test.false) in
    sym (c.loop-i.invariant.same ∙ ap (λ (k : ℕ). lookup (old_entries_in k (drop c.loop-i.at c.args.bytes.now)) c.args.key.now) zero)
