use Rattle.std.proofs.Common.{◌≡◌, ◌∙◌, ap, ap₂, codes, true}
use Rattle.std.proofs.lemmas.Result.{IfOk-weaker}
use Rattle.clap.specs.Simple.{App, app_of, new_app, on_top, with_subcommand}
use Rattle.program_words.specs.CommandLine.{check_app, dump_app, format_app, fstbuild_app, grow_app, load_app, serve_app, settings_app, tables_app}
use Rattle.program_words.proofs.command_line.store_command.Goals as goal

abbrev bare : App
bare = on_top (λ s. record s { no_binary_name = true; subcommand_required = true; disable_help_subcommand = true; has_version = true }) (new_app (codes "surfstore"))

pub returns : goal.returns
returns c =
    let bare_is : app_of c.disable_help_subcommand-command.result ≡ bare =
    rw (c.disable_help_subcommand-command.ensures, c.subcommand_required.ensures, c.no_binary_name.ensures, c.override_usage.ensures, c.after_help.ensures, c.about.ensures, c.version.ensures)
    (ap (on_top (λ s. record s { no_binary_name = true; subcommand_required = true; disable_help_subcommand = true; has_version = true })) c.new.ensures.app) in
    let with_format_is : app_of c.in_ok-with_format.with_format ≡ with_subcommand bare format_app.top =
    c.in_ok-with_format.ensures.shape c.in_ok-format.ensures.local ∙ ap₂ with_subcommand bare_is (ap (λ (a : App). a.top) c.in_ok-format.ensures.app) in
    let with_serve_is : app_of c.in_ok-with_serve.with_serve ≡ with_subcommand (with_subcommand bare format_app.top) serve_app.top =
    c.in_ok-with_serve.ensures.shape c.serve_command.ensures.local ∙ ap₂ with_subcommand with_format_is (ap (λ (a : App). a.top) c.serve_command.ensures.app) in
    let with_load_is : app_of c.in_ok-with_load.with_load ≡ with_subcommand (with_subcommand (with_subcommand bare format_app.top) serve_app.top) load_app.top =
    c.in_ok-with_load.ensures.shape c.in_ok-load.ensures.local ∙ ap₂ with_subcommand with_serve_is (ap (λ (a : App). a.top) c.in_ok-load.ensures.app) in
    let with_settings_is : app_of c.in_ok-with_settings.with_settings ≡ with_subcommand (with_subcommand (with_subcommand (with_subcommand bare format_app.top) serve_app.top) load_app.top) settings_app.top =
    c.in_ok-with_settings.ensures.shape c.in_ok-settings.ensures.local ∙ ap₂ with_subcommand with_load_is (ap (λ (a : App). a.top) c.in_ok-settings.ensures.app) in
    let with_grow_is : app_of c.in_ok-with_grow.with_grow ≡ with_subcommand (with_subcommand (with_subcommand (with_subcommand (with_subcommand bare format_app.top) serve_app.top) load_app.top) settings_app.top) grow_app.top =
    c.in_ok-with_grow.ensures.shape c.in_ok-grow.ensures.local ∙ ap₂ with_subcommand with_settings_is (ap (λ (a : App). a.top) c.in_ok-grow.ensures.app) in
    let with_check_is : app_of c.in_ok-with_check.with_check ≡ with_subcommand (with_subcommand (with_subcommand (with_subcommand (with_subcommand (with_subcommand bare format_app.top) serve_app.top) load_app.top) settings_app.top) grow_app.top) check_app.top =
    c.in_ok-with_check.ensures.shape c.check_command.ensures.local ∙ ap₂ with_subcommand with_grow_is (ap (λ (a : App). a.top) c.check_command.ensures.app) in
    let with_tables_is : app_of c.in_ok-with_tables.with_tables ≡ with_subcommand (with_subcommand (with_subcommand (with_subcommand (with_subcommand (with_subcommand (with_subcommand bare format_app.top) serve_app.top) load_app.top) settings_app.top) grow_app.top) check_app.top) tables_app.top =
    c.in_ok-with_tables.ensures.shape c.tables_command.ensures.local ∙ ap₂ with_subcommand with_check_is (ap (λ (a : App). a.top) c.tables_command.ensures.app) in
    let with_dump_is : app_of c.in_ok-with_dump.with_dump ≡ with_subcommand (with_subcommand (with_subcommand (with_subcommand (with_subcommand (with_subcommand (with_subcommand (with_subcommand bare format_app.top) serve_app.top) load_app.top) settings_app.top) grow_app.top) check_app.top) tables_app.top) dump_app.top =
    c.in_ok-with_dump.ensures.shape c.dump_command.ensures.local ∙ ap₂ with_subcommand with_tables_is (ap (λ (a : App). a.top) c.dump_command.ensures.app) in
    let with_fstbuild_is : app_of c.in_ok-with_fstbuild.with_fstbuild ≡ with_subcommand (with_subcommand (with_subcommand (with_subcommand (with_subcommand (with_subcommand (with_subcommand (with_subcommand (with_subcommand bare format_app.top) serve_app.top) load_app.top) settings_app.top) grow_app.top) check_app.top) tables_app.top) dump_app.top) fstbuild_app.top =
    c.in_ok-with_fstbuild.ensures.shape c.fstbuild_command.ensures.local ∙ ap₂ with_subcommand with_dump_is (ap (λ (a : App). a.top) c.fstbuild_command.ensures.app) in
    IfOk-weaker c.subcommand-10.result _ _ (λ r h. h.shape c.fstserve_command.ensures.local ∙ ap₂ with_subcommand with_fstbuild_is (ap (λ (a : App). a.top) c.fstserve_command.ensures.app)) c.subcommand-10.ensures
