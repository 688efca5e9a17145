-- The command set, as the specification of `clap` sees it.
use Rattle.std.specs.Prelude.{◌≡◌, ℕ, List, Some, true, false, codes}
use Rattle.clap.specs.Words.{app_of}
use Rattle.clap.specs.declared.builder.command.Command.TheViews.{out-Command}
use Rattle.clap.specs.declared.builder.command.Command.{Command}
use Rattle.clap.specs.Words.{App, Rule, Text, new_app, new_rule, with_rule, with_subcommand}
use Rattle.clap.specs.Simple.{on_top}
use Rattle.clap.specs.declared.builder.ArgAction.TheVariants.{SetTrue}

abbrev pub place : Text → Rule
place id = record (new_rule id) { required = true }

abbrev pub number : Text → Rule
number id = record (new_rule id) { long = Some id }

abbrev pub watch : Rule
watch = record (new_rule (codes "watch")) { long = Some (codes "watch"); action = Some SetTrue }

-- what bounds a run
abbrev pub bounded : App → App
bounded command = with_rule (with_rule command (number (codes "steps"))) (number (codes "answers"))

-- one word
abbrev pub taking : Text → Text → App
taking name id = with_rule (new_app name) (place id)

-- a module and a query
abbrev pub judging : Text → App
judging name = with_rule (taking name (codes "module")) (place (codes "query"))

-- the same, with what bounds the run
abbrev pub proving : Text → App
proving name = bounded (judging name)

-- the same, where watchers may watch
abbrev pub asking : Text → App
asking name = with_rule (proving name) watch

-- a module, with what bounds each run
abbrev pub serving : Text → App
serving name = bounded (taking name (codes "module"))

abbrev pub strict : App → App
strict = on_top (λ s. record s { no_binary_name = true; disable_help_flag = true; disable_help_subcommand = true; subcommand_required = true })

-- answers on sources and on images
abbrev pub with_searches : App → App
with_searches app = with_subcommand (with_subcommand (with_subcommand app (asking (codes "solve")).top) (asking (codes "query")).top) (taking (codes "trial") (codes "size")).top

-- files of a module
abbrev pub with_files : App → App
with_files app = with_subcommand (with_subcommand (with_subcommand app (taking (codes "compile") (codes "module")).top) (taking (codes "link") (codes "module")).top)
    (taking (codes "migrate") (codes "module")).top

-- judgements on sources and their certificates
abbrev pub with_judgements : App → App
with_judgements app = with_subcommand (with_subcommand (with_subcommand app (judging (codes "lambda")).top) (proving (codes "prove")).top) (judging (codes "check")).top

abbrev pub lprolog : App
lprolog = with_subcommand (with_judgements (with_files (with_searches (strict (new_app (codes "lprolog")))))) (serving (codes "session")).top

-- a command that a parse reads as this one
abbrev pub Reads : App → Command → Type 0
Reads app c = (app_of c ≡ app) × ((out-Command c).has_globals ≡ false)

-- the line that names the commands
unfoldable pub usage_line : List ℕ
usage_line = codes "usage: solve M Q | compile M | link M | query M Q | trial N | migrate M | lambda M Q | prove M Q | check M Q | session M\n"
