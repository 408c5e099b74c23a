use Rattle.std.proofs.Common.{ℕ, length, ap, arith}
use Rattle.std.proofs.lemmas.List.Splits.{length-slice_split}
use Rattle.std.specs.Prelude.{◌==◌}
use Rattle.store_commands.proofs.words.words_in.Goals as goal

pub returns-in-Some-rest-3-clause-words : goal.returns-in-Some-rest-3-clause-words
returns-in-Some-rest-3-clause-words c =
    let first = rw c.in-Some-rest.is at c.cut.ensures in
    let second = rw c.in-Some-rest-2.is at c.cut-2.ensures in
    let third = rw c.in-Some-rest-3.is at c.cut-3.ensures in
    rw c.in-Some.is (omega (arith, ap length first.words, ap length second.words, ap length third.words, length-slice_split (λ (b : ℕ). b == 32) c.in-Some-rest-3.field-0.now))
