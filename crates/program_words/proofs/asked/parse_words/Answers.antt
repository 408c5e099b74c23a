use Rattle.std.proofs.Common.{◌≡◌, ◌∙◌, map, ap, subst, true}
use Rattle.std.proofs.lemmas.Result.{IfOk-weaker}
use Rattle.std.specs.Prelude.{string_bytes}
use Rattle.clap.specs.Faults.{fault_of, is_simple_and_free}
use Rattle.clap.specs.Kinds.{FailsBy}
use Rattle.clap.specs.Simple.{App, app_of, is_simple, subcommand_of}
use Rattle.program_words.specs.CommandLine.{store_app}
use Rattle.program_words.proofs.Known.{matches_known}
use Rattle.program_words.proofs.asked.parse_words.Goals as goal

pub returns-clause-kinds : goal.returns-clause-kinds
returns-clause-kinds c =
    let command = c.in_ok-store_command.field-0 in
    let app : app_of command ≡ store_app = c.in_ok-store_command.ensures in
    let simple : is_simple_and_free (app_of command) ≡ true = ap is_simple_and_free app in
    subst (λ (a : App). FailsBy (fault_of a (map string_bytes c.args.words.now)) c.try_get_matches_from.result) app (c.try_get_matches_from.ensures.kinds simple)

pub returns-clause-found : goal.returns-clause-found
returns-clause-found c =
    let words = map string_bytes c.args.words.now in
    let command = c.in_ok-store_command.field-0 in
    let app : app_of command ≡ store_app = c.in_ok-store_command.ensures in
    let simple : is_simple (app_of command) ≡ true = ap is_simple app in
    IfOk-weaker c.try_get_matches_from.result _ _ (λ m has. (has simple).1 ∙ ap (λ (a : App). subcommand_of a words) app) c.try_get_matches_from.ensures.matches

pub returns-clause-known : goal.returns-clause-known
returns-clause-known c = matches_known (map string_bytes c.args.words.now) c.try_get_matches_from.result (returns-clause-kinds c) (returns-clause-found c)
