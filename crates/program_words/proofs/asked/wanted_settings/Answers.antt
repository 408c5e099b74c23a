use Rattle.std.proofs.Common.{rules, ◌≡◌, ◌∙◌, ap, codes, Option}
use Rattle.std.specs.Prelude.{unwrap_or, []}
use Rattle.clap.proofs.WalkLemmas.{first_value-rows}
use Rattle.clap.specs.Matches.{found_of}
use Rattle.clap.specs.Walk.{Text, rows_of}
use Rattle.program_words.proofs.Numbers.{text_or}
use Rattle.program_words.specs.Asked.{text_at}
use Rattle.program_words.specs.WantedSettings.{variant_named}
use Rattle.program_words.proofs.asked.wanted_settings.Goals as goal

pub returns : goal.returns
returns c =
    let found = found_of c.args.matches.now in
    let read : c.unwrap_or.result.now ≡ text_at (codes "variant") (rows_of found) =
    ap (λ s. s.now) c.unwrap_or.ensures ∙ (text_or c.get_str.result _ ∙ ap (λ (o : Option Text). unwrap_or o []) (c.get_str.ensures ∙ first_value-rows found (codes "variant"))) in
    let variant : c.named.result ≡ variant_named (text_at (codes "variant") (rows_of found)) = c.named.ensures ∙ ap variant_named read in
    rw (variant, c.number.ensures, c.number-2.ensures, c.number-3.ensures) (search rules)
