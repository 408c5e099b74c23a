use Rattle.std.proofs.Common.{◌≡◌, ◌+◌, ◌-◌, ◌<◌, ◌∙◌, ℕ, false, ap, arith, subst, sym}
use Rattle.std.specs.List.{All}
use Rattle.std.proofs.lemmas.List.{get_or_default, take_all}
use Rattle.louds_dense.specs.Building.{SectionsInRoom, with_byte_bits, with_gap}
use Rattle.louds_dense.proofs.Built.{any, branch_added, bytes_more, gap_added, length-bytes, no_bytes, none_yet}
use Rattle.trie_model.specs.Given.{node_given}
use Rattle.trie_model.specs.declared.parts.Branch.{Branch as ByteBranch}
use Rattle.louds_dense.proofs.sections.Sections.push_bytes.Goals as goal

pub loop-i-init : goal.loop-i-init
loop-i-init g c = (no_bytes (node_given false c.args.branches.now) c.args.self.now, none_yet c.args.branches.now)

pub push_branch-requires-clause-order : goal.push_branch-requires-clause-order
push_branch-requires-clause-order g c =
    omega (arith, c.loop-i.invariant.1.above c.loop-i.i (omega arith) c.loop-i-test.true, ap (λ (b : ByteBranch). b.byte) (get_or_default c.args.branches.now c.loop-i.i any (record { byte = 0; child = false }) c.loop-i-test.true))

pub push_branch-requires-clause-room : goal.push_branch-requires-clause-room
push_branch-requires-clause-room g c =
    omega (arith, c.requires.room, length-bytes c.loop-i.next (node_given false c.args.branches.now) c.args.self.now c.loop-i.self c.loop-i.invariant.0, ap (λ (s : SectionsInRoom). s.limit) c.loop-i.invariant.0)

pub overflow_add-next : goal.overflow_add-next
overflow_add-next g c = omega (arith, c.push_branch.ensures.byte, c.from-next.ensures)

pub loop-i-preserved : goal.loop-i-preserved
loop-i-preserved g c =
    let bs = c.args.branches.now in
    let w = c.loop-i.invariant.1 in
    let e = ap (λ (b : ℕ). b + 1) c.from-next.ensures in (
      c.push_branch.ensures.added
          ∙ branch_added bs c.requires.branches c.loop-i.i c.loop-i.next w c.args.self.now _ _ c.loop-i-test.true (ap (with_gap _) c.loop-i.invariant.0)
          ∙ ap (λ (k : ℕ). with_byte_bits k (node_given false bs) c.args.self.now) (sym e),
      rw e (bytes_more bs c.requires.branches c.loop-i.i c.loop-i.next w _ c.loop-i-test.true c.push_branch.ensures.byte),
    )

pub push_gap-requires : goal.push_gap-requires
push_gap-requires g c =
    omega (arith, c.requires.room, c.loop-i.invariant.1.to, length-bytes c.loop-i.next (node_given false c.args.branches.now) c.args.self.now c.loop-i.self c.loop-i.invariant.0, ap (λ (s : SectionsInRoom). s.limit) c.loop-i.invariant.0)

pub returns-clause-added : goal.returns-clause-added
returns-clause-added g c =
    let bs = c.args.branches.now in
    let w = c.loop-i.invariant.1 in
    let e : c.loop-i.next + (256 - c.loop-i.next) ≡ 256 = omega (arith, w.to) in
    c.push_gap.ensures ∙ ap (with_gap (256 - c.loop-i.next)) c.loop-i.invariant.0
    ∙ gap_added bs c.requires.branches c.loop-i.i c.loop-i.next w (256 - c.loop-i.next) c.args.self.now (λ j le l. absurd (omega (arith, le, l, c.loop-i-test.false)))
    ∙ ap (λ (k : ℕ). with_byte_bits k (node_given false bs) c.args.self.now) e

pub returns-clause-bytes : goal.returns-clause-bytes
returns-clause-bytes g c = subst (All (λ (b : ByteBranch). b.byte < 256)) (take_all c.loop-i.i c.args.branches.now c.loop-i-test.false) c.loop-i.invariant.1.bytes
