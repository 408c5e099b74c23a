use Rattle.std.proofs.Common.{◌∷◌, ◌∙◌, ap, sym, subst}
use Rattle.std.specs.Prelude.{option_map}
use Rattle.map_model.specs.SortedMap.{Bytes}
use Rattle.line_model.specs.Requests.{Request, asked_by}
use Rattle.store_commands.specs.Asks.{Asks}
use Rattle.store_commands.specs.Cutting.{words_after}
use Rattle.store_commands.proofs.Verbs.{request_is}
use Rattle.store_commands.proofs.parse.parse_line.Goals as goal

pub returns : goal.returns
returns c =
    let words = words_after (option_map (λ rest. rest.now) c.cut.result.1) in
    let asks = request_is c.args.line.now _ words c.if-line-gt-MAX_LINE_BYTES.false c.cut.ensures.words ∙ ap (λ (w : Bytes). asked_by (w ∷ words)) c.in-Some.ensures.word in
    subst (λ (r : Request). Asks c.parse_words.result r) (sym asks) (c.parse_words.ensures words c.words_in.ensures.words)
