use Rattle.std.proofs.Common.{ℕ, sym, ap, ap₂, ◌∙◌}
use Rattle.map_model.specs.SortedMap.{Map}
use Rattle.entry_model.specs.Entries.{Entry, changed}
use Rattle.load_gen.specs.Generator.{next_number, step_of}
use Rattle.load_gen.proofs.Steps.{number_more, map_more}
use Rattle.line_tests.proofs.plain_load.loaded.Goals as goal

pub loop-preserved : goal.loop-preserved
loop-preserved c = record {
  number = c.next.ensures.number ∙ ap next_number c.loop.invariant.number ∙ sym (number_more c.args.seed c.loop.counter);
  map =
      c.in_ok-take_step.ensures
      ∙ ap₂ (λ (m : Map) (e : Entry). changed m e) c.loop.invariant.map (c.next.ensures.step ∙ ap (λ (x : ℕ). step_of (next_number x)) c.loop.invariant.number)
      ∙ sym (map_more c.args.seed c.loop.counter);
}
