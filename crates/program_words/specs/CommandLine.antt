-- The command line, as clap's specification reads its definition.
use Rattle.std.specs.Prelude.{◌∷◌, [], Some, true, codes}
use Rattle.clap.specs.Walk.{Rule, Text}
use Rattle.clap.specs.Simple.{App, new_app, new_rule, on_top, with_rule, with_subcommand}
use Rattle.clap.specs.declared.builder.value_parser.ValueParser.TheVariants as parser

-- an option that takes one value, and one that takes a number below 2^64
abbrev pub option_rule : Text → Rule
option_rule name = record (new_rule name) { long = Some name; value_names = 1 }

abbrev pub number_rule : Text → Rule
number_rule name = record (option_rule name) { parser = Some (parser.Unsigned 0 18446744073709551615) }

abbrev pub required : Rule → Rule
required rule = record rule { required = true }

abbrev pub with_default : Text → Rule → Rule
with_default text rule = record rule { defaults = text ∷ [] }

-- a command with the options for filters: the variant, which may be any word, and numbers
abbrev pub with_number_options : App → App
with_number_options app = with_rule (with_rule (with_rule app
    (with_default (codes "8") (number_rule (codes "hash-bits"))))
    (with_default (codes "8") (number_rule (codes "real-bits"))))
    (with_default (codes "64") (number_rule (codes "ratio")))

abbrev pub with_filter_options : App → App
with_filter_options app = with_number_options (with_rule app (required (option_rule (codes "variant"))))

-- a command with the option for pages
abbrev pub with_pages_option : App → App
with_pages_option app = with_rule app (required (number_rule (codes "pages")))

abbrev pub format_app : App
format_app = with_filter_options (with_pages_option (new_app (codes "format")))

abbrev pub settings_app : App
settings_app = with_filter_options (new_app (codes "settings"))

abbrev pub grow_app : App
grow_app = with_pages_option (new_app (codes "grow"))

abbrev pub serve_app : App
serve_app = new_app (codes "serve")

abbrev pub check_app : App
check_app = new_app (codes "check")

abbrev pub tables_app : App
tables_app = new_app (codes "tables")

abbrev pub dump_app : App
dump_app = new_app (codes "dump")

abbrev pub fstbuild_app : App
fstbuild_app = new_app (codes "fstbuild")

abbrev pub fstserve_app : App
fstserve_app = new_app (codes "fstserve")

abbrev pub load_app : App
load_app = with_rule (with_rule (new_app (codes "load")) (required (number_rule (codes "seed")))) (required (number_rule (codes "count")))

-- One of the ten, with no word before it. `--help` is known everywhere, `--version` before a subcommand, and `help` is no
-- subcommand.
abbrev pub store_app : App
store_app = with_subcommand (with_subcommand (with_subcommand (with_subcommand (with_subcommand (with_subcommand (with_subcommand (with_subcommand (with_subcommand (with_subcommand
    (on_top (λ s. record s { no_binary_name = true; subcommand_required = true; disable_help_subcommand = true; has_version = true }) (new_app (codes "surfstore")))
    format_app.top) serve_app.top) load_app.top) settings_app.top) grow_app.top) check_app.top) tables_app.top) dump_app.top) fstbuild_app.top) fstserve_app.top
