use Rattle.std.proofs.Common.{◌++◌, ◌∙◌, length, sym}
use Rattle.filter_codec.proofs.Joining.{counted, some_nodes}
use Rattle.filter_codec.proofs.Places.{or_none, or_some}
use Rattle.filter_codec.proofs.reading.nodes_fault.Goals as goal

pub counts_fault-requires : goal.counts_fault-requires
counts_fault-requires g c = c.requires.cutoff

pub returns-in-Some : goal.returns-in-Some
returns-in-Some g c = or_some _ _ _ c.in-Some.ensures

pub shape_fault-requires : goal.shape_fault-requires
shape_fault-requires g c =
    let h = c.args.header.now in
    let ns = c.args.packed.now.dense ++ c.args.packed.now.sparse in
    some_nodes h.height ns c.requires.height (counted h.height h.cutoff (length c.args.packed.now.dense) h.leaves ns (sym c.in_default.ensures)).0

pub returns-in-Some-shape_fault : goal.returns-in-Some-shape_fault
returns-in-Some-shape_fault g c = or_none _ _ _ c.in_default.ensures (or_some _ _ _ c.in-Some-shape_fault.ensures)

pub ends_fault-requires-clause-count : goal.ends_fault-requires-clause-count
ends_fault-requires-clause-count g c =
    let h = c.args.header.now in
    let ns = c.args.packed.now.dense ++ c.args.packed.now.sparse in
    c.requires.count ∙ sym (counted h.height h.cutoff (length c.args.packed.now.dense) h.leaves ns (sym c.in_default.ensures)).1

pub ends_fault-requires-clause-place : goal.ends_fault-requires-clause-place
ends_fault-requires-clause-place g c = c.requires.place

pub ends_fault-requires-clause-wide : goal.ends_fault-requires-clause-wide
ends_fault-requires-clause-wide g c = c.requires.wide

pub returns : goal.returns
returns g c = or_none _ _ _ c.in_default.ensures (or_none _ _ _ c.in_default-shape_fault.ensures c.ends_fault.ensures)
