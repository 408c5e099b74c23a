use Rattle.std.proofs.Common.{◌≡◌, ℕ, Bool, cond, ◌∙◌, arith, ap, sym}
use Rattle.std.specs.Prelude.{Some, count_by}
use Rattle.fst_map.proofs.Asked.{leaf_list, tallied}
use Rattle.fst_map.proofs.map.FstMap.count.Goals as goal
use Rattle.map_file_model.specs.Maps.{Map}
use Rattle.map_model.specs.Slices.{count}
use Rattle.whole_keys.specs.Whole.{runs_past, stubs}

pub runs_past-requires : goal.runs_past-requires
runs_past-requires g c = let i = c.self.inside in leaf_list i.bytes.now i.parts i.trie c.self.invariant

pub overflow_sub-result : goal.overflow_sub-result
overflow_sub-result g c =
    let i = c.self.inside in
    let all = tallied i.bytes.now i.parts i.trie c.self.invariant c.args.lo.now c.args.hi.now (λ k. (c.type_inv.lo k).fits) (λ k. (c.type_inv.hi k).fits) c.requires in
    let one : 1 ≡ count_by (runs_past (stubs i.trie.leaves) c.args.lo.now) (stubs i.trie.leaves) = ap (λ (t : Bool). cond {A = ℕ} t 1 0) (sym c.if-runs_past.true) ∙ c.runs_past.ensures in
    omega (arith, c.tally-met.ensures, all, one)

pub returns-then-runs_past : goal.returns-then-runs_past
returns-then-runs_past g c =
    let i = c.self.inside in
    let all = tallied i.bytes.now i.parts i.trie c.self.invariant c.args.lo.now c.args.hi.now (λ k. (c.type_inv.lo k).fits) (λ k. (c.type_inv.hi k).fits) c.requires in
    let one : 1 ≡ count_by (runs_past (stubs i.trie.leaves) c.args.lo.now) (stubs i.trie.leaves) = ap (λ (t : Bool). cond {A = ℕ} t 1 0) (sym c.if-runs_past.true) ∙ c.runs_past.ensures in
    omega (arith, c.tally-met.ensures, all, one, ap (λ (m : Map). count m c.args.lo.now (Some c.args.hi.now)) c.self.view_is)

pub returns-else-runs_past : goal.returns-else-runs_past
returns-else-runs_past g c =
    let i = c.self.inside in
    let all = tallied i.bytes.now i.parts i.trie c.self.invariant c.args.lo.now c.args.hi.now (λ k. (c.type_inv.lo k).fits) (λ k. (c.type_inv.hi k).fits) c.requires in
    let none : 0 ≡ count_by (runs_past (stubs i.trie.leaves) c.args.lo.now) (stubs i.trie.leaves) = ap (λ (t : Bool). cond {A = ℕ} t 1 0) (sym c.if-runs_past.false) ∙ c.runs_past.ensures in
    omega (arith, c.tally-met.ensures, all, none, ap (λ (m : Map). count m c.args.lo.now (Some c.args.hi.now)) c.self.view_is)
