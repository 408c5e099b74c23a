use Rattle.std.proofs.Common.{◌∙◌, ap, Option}
use Rattle.std.specs.Option.{option_map_or}
use Rattle.std.specs.Str.Parse.{ExplainsUnsignedError, HasUnsignedDigitsIfOk, ParsesUnsigned}
use Rattle.clap.proofs.WalkLemmas.{one_text-rows}
use Rattle.clap.specs.Matches.{found_of, one_text}
use Rattle.clap.specs.Walk.{Text}
use Rattle.program_words.proofs.Numbers.{read_number}
use Rattle.program_words.specs.Asked.{number_in_text}
use Rattle.program_words.proofs.asked.number.Goals as goal

pub returns : goal.returns
returns c =
    let found = found_of c.args.matches.now in
    c.unwrap_or.ensures
    ∙ (read_number (λ bs r. ParsesUnsigned 64 10 bs r × ExplainsUnsignedError 10 bs r × HasUnsignedDigitsIfOk bs r) (one_text found c.args.name.now) c.get_one.result (λ u x g. g.0)
    c.get_one.ensures.none c.get_one.ensures.value
    ∙ ap (λ (o : Option Text). option_map_or number_in_text o 0) (one_text-rows found c.args.name.now))
