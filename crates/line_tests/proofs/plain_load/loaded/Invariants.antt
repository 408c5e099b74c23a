use Rattle.std.proofs.Common.{◌≡◌}
use Rattle.entry_model.specs.Entries.{map_of}
use Rattle.load_gen.specs.Generator.{number_after, first_steps}
use Rattle.line_tests.proofs.plain_load.loaded.Given as goal

abbrev pub invariant-loop : goal.invariant-loop
invariant-loop l = record {
  number : l.generator ≡ number_after l.seed l.counter;
  map : l.map ≡ map_of (first_steps l.seed l.counter);
}
