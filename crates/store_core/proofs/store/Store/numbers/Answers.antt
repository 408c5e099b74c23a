use Rattle.std.proofs.Common.{List, sym, subst, arith}
use Rattle.std.proofs.lemmas.Grind.{common_steps}
use Rattle.byte_fields.specs.declared.parts.Row.{Row}
use Rattle.extent_model.specs.Extents.{AreLaid}
use Rattle.table_model.specs.Tables.{filter_bytes_of}
use Rattle.store_core.specs.Running.{extents_with}
use Rattle.store_core.proofs.Numberings.{numbers_of}
use Rattle.store_core.proofs.Wholes.{laid_with}
use Rattle.store_core.proofs.store.Store.numbers.Goals as goal

pub gap_beside-requires-clause-laid : goal.gap_beside-requires-clause-laid
gap_beside-requires-clause-laid g c =
    let v = c.self.inside.version.version in
    subst (λ (rs : List Row). AreLaid v.pages (extents_with v rs)) (sym c.outputs_of-outputs.ensures) (laid_with _ c.self.invariant.0)

pub returns-clause-has : goal.returns-clause-has
returns-clause-has g c = grind (arith, common_steps)

pub returns-clause-of : goal.returns-clause-of
returns-clause-of g c s image reads none_kept log =
    let spelling = g.F.RangeFilter.spelling in
    numbers_of spelling (filter_bytes_of spelling g.F.RangeFilter.built_cutoff) c.args.self.now s image _ reads none_kept log (returns-clause-has g c)
