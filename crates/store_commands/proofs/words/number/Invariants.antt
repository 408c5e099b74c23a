use Rattle.std.proofs.Common.{◌≡◌, ◌≤◌, take}
use Rattle.line_model.specs.Requests.{decimal_number}
use Rattle.store_commands.proofs.words.number.Given as goal

abbrev pub invariant-loop-i : goal.invariant-loop-i
invariant-loop-i l = record {
  so_far : l.n ≡ decimal_number (take l.i l.fn.word);
  within : l.n ≤ 1000000;
}
