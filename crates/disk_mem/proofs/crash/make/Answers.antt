use Rattle.std.proofs.Common.{◌≡◌, length, refl, sym, ◌∙◌}
use Rattle.disk_mem.proofs.Picks.{pick_at-past, chosen, picked-other, picked-short}
use Rattle.disk_mem.proofs.crash.make.Goals as goal

pub returns-then-number-choice : goal.returns-then-number-choice
returns-then-number-choice c = rw (pick_at-past c.args.choice.now c.args.number c.if-number-choice.true) refl

pub returns-in-Whole : goal.returns-in-Whole
returns-in-Whole c = rw (chosen c.args.choice.now c.args.number _ _ c.if-number-choice.false c.index-choice-number.is c.in-Whole.is) c.grow_and_put.ensures

pub returns-in-Lost : goal.returns-in-Lost
returns-in-Lost c = rw (chosen c.args.choice.now c.args.number _ _ c.if-number-choice.false c.index-choice-number.is c.in-Lost.is) refl

pub returns-then-len-from : goal.returns-then-len-from
returns-then-len-from c =
    let same : length c.in-Bytes.other.items ≡ length c.args.from.now = sym c.in-Bytes.other.ok.0 ∙ sym c.len.ensures ∙ c.if-len-from.true in
    let done = rw c.deref.ensures.value at c.grow_and_put-then-len-from.ensures in
    rw (chosen c.args.choice.now c.args.number _ _ c.if-number-choice.false c.index-choice-number.is c.in-Bytes.is, picked-other c.args.at c.in-Bytes.other.items c.args.from.now c.args.bytes.now.items same) done

pub returns-else-len-from : goal.returns-else-len-from
returns-else-len-from c =
    let apart : length c.in-Bytes.other.items ≡ length c.args.from.now → ⊥ = λ same. c.if-len-from.false (c.len.ensures ∙ c.in-Bytes.other.ok.0 ∙ same) in
    rw (chosen c.args.choice.now c.args.number _ _ c.if-number-choice.false c.index-choice-number.is c.in-Bytes.is, picked-short c.args.at c.in-Bytes.other.items c.args.from.now c.args.bytes.now.items apart) refl
