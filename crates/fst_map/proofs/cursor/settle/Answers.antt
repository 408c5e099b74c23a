use Rattle.std.proofs.Common.{◌≡◌, ◌<◌, ◌+◌, ℕ, Bool, cond, length, ap, sym, subst, ◌∙◌, arith}
use Rattle.std.specs.Prelude.{Some}
use Rattle.std.specs.Ordering.{is_lt}
use Rattle.std.proofs.lemmas.List.{length-map}
use Rattle.filter_model.specs.Leaves.{Filter, Leaf}
use Rattle.filter_model.specs.Strings.{is_before}
use Rattle.filter_model.specs.Valid.{IsLeafList}
use Rattle.fst_map.proofs.Standing.{last_one, next_low, written_by}
use Rattle.fst_map.proofs.Starts.{first_here, first_next, first_nowhere, first_within}
use Rattle.fst_map.proofs.cursor.settle.Goals as goal
use Rattle.filter_iter.specs.Cursors.{Standing}
use Rattle.fst_map.specs.Places.{IsWritten}
use Rattle.map_file_model.specs.Maps.{Bytes}
use Rattle.whole_keys.specs.Whole.{stubs}

pub shared_ref_as_front-compare : goal.shared_ref_as_front-compare
shared_ref_as_front-compare g c =
    let at = c.args.leaf.now in
    let low = first_within at.image.leaves c.args.lo.now c.requires.list (λ i. (c.type_inv.lo i).fits) at.leaf c.requires.first in
    (written_by at.image.leaves c.requires.list at.leaf c.stub-len.new.out c.args.buffer.now c.stub-len.result low c.stub-len.ensures.stub c.stub-len.ensures.count).fits

pub returns-then-not-is_lt-clause-written : goal.returns-then-not-is_lt-clause-written
returns-then-not-is_lt-clause-written g c =
    let at = c.args.leaf.now in
    let low = first_within at.image.leaves c.args.lo.now c.requires.list (λ i. (c.type_inv.lo i).fits) at.leaf c.requires.first in
    written_by at.image.leaves c.requires.list at.leaf c.stub-len.new.out c.args.buffer.now c.stub-len.result low c.stub-len.ensures.stub c.stub-len.ensures.count

pub returns-then-not-is_lt-clause-found : goal.returns-then-not-is_lt-clause-found
returns-then-not-is_lt-clause-found g c =
    let at = c.args.leaf.now in
    let lo = c.args.lo.now in
    let low = first_within at.image.leaves lo c.requires.list (λ i. (c.type_inv.lo i).fits) at.leaf c.requires.first in
    let key = (written_by at.image.leaves c.requires.list at.leaf c.stub-len.new.out c.args.buffer.now c.stub-len.result low c.stub-len.ensures.stub c.stub-len.ensures.count).key in
    let above = ap (λ (k : Bytes). is_before k lo) key ∙ ap is_lt (sym c.compare.ensures) ∙ sym c.is_lt.ensures ∙ c.if-not-is_lt.true in
    first_here at.image.leaves lo c.requires.list (λ i. (c.type_inv.lo i).fits) at.leaf c.requires.first above

pub returns-then-next-clause-found : goal.returns-then-next-clause-found
returns-then-next-clause-found g c =
    let at = c.args.leaf.now in
    let lo = c.args.lo.now in
    let low = first_within at.image.leaves lo c.requires.list (λ i. (c.type_inv.lo i).fits) at.leaf c.requires.first in
    let key = (written_by at.image.leaves c.requires.list at.leaf c.stub-len.new.out c.args.buffer.now c.stub-len.result low c.stub-len.ensures.stub c.stub-len.ensures.count).key in
    let below = ap (λ (k : Bytes). is_before k lo) key ∙ ap is_lt (sym c.compare.ensures) ∙ sym c.is_lt.ensures ∙ c.if-not-is_lt.false in
    let there : c.next.new.self.leaf ≡ at.leaf + 1 = ap (λ (s : Standing). s.leaf) c.next.ensures.moved ∙ ap (λ (b : Bool). at.leaf + cond b 1 0) c.if-next.true in
    let more : at.leaf + 1 < length (stubs at.image.leaves) = omega (arith, c.next.ensures.end.0 c.if-next.true, length-map at.image.leaves (λ (l : Leaf). l.stub)) in
    ap (λ (n : ℕ). Some n) there ∙ first_next at.image.leaves lo c.requires.list (λ i. (c.type_inv.lo i).fits) at.leaf c.requires.first below more

pub returns-then-next-clause-written : goal.returns-then-next-clause-written
returns-then-next-clause-written g c =
    let at = c.args.leaf.now in
    let new = c.next.new.self in
    let same = ap (λ (s : Standing). s.image) c.next.ensures.moved in
    let list = subst (λ (f : Filter). IsLeafList 0 0 f.leaves) (sym same) c.requires.list in
    let low = next_low at new c.next.result c.next.ensures.moved c.next.ensures.end c.if-next.true in
    subst (λ (f : Filter). IsWritten (stubs f.leaves) new.leaf c.stub.new.out c.stub.result) same
    (written_by new.image.leaves list new.leaf c.stub.new.out c.stub-len.new.out c.stub.result low c.stub.ensures.stub c.stub.ensures.count)

pub returns-else-next-clause-found : goal.returns-else-next-clause-found
returns-else-next-clause-found g c =
    let at = c.args.leaf.now in
    let lo = c.args.lo.now in
    let low = first_within at.image.leaves lo c.requires.list (λ i. (c.type_inv.lo i).fits) at.leaf c.requires.first in
    let key = (written_by at.image.leaves c.requires.list at.leaf c.stub-len.new.out c.args.buffer.now c.stub-len.result low c.stub-len.ensures.stub c.stub-len.ensures.count).key in
    let below = ap (λ (k : Bytes). is_before k lo) key ∙ ap is_lt (sym c.compare.ensures) ∙ sym c.is_lt.ensures ∙ c.if-not-is_lt.false in
    let last = last_one at c.next.result c.next.ensures.end c.if-next.false in
    first_nowhere at.image.leaves lo c.requires.list (λ i. (c.type_inv.lo i).fits) at.leaf c.requires.first below (omega (arith, last, length-map at.image.leaves (λ (l : Leaf). l.stub)))
