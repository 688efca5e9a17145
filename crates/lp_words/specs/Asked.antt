-- What the words after the program's name ask for.
use Rattle.std.specs.Prelude.{◌≡◌, ◌≢◌, ℕ, List, [], ◌∷◌, Bool, true, false, not, ◌&&◌, is_none, Option, Some, None, option_map, codes, if◌then◌else◌}
use Rattle.std.specs.Option.{option_and_then}
use Rattle.std.specs.Str.{bytes_eq}
use Rattle.clap.specs.Words.{Row, Text, first_of, fault_of, subcommand_of, Kinds}
use Rattle.lp_words.specs.Commands.{lprolog}
use Rattle.lp_words.specs.Words.{has_lone_dash, is_module_name, number_between}
use Rattle.lp_words.specs.declared.asked.Asked as code
use Rattle.lp_words.specs.declared.asked.Asked.TheVariants as variant
use Rattle.lp_words.specs.declared.asked.FileCommand.{FileCommand}
use Rattle.lp_words.specs.declared.asked.FileCommand.TheVariants.{Compile, Link, Migrate}
use Rattle.lp_words.specs.declared.asked.Options.{Options}
use Rattle.lp_words.specs.declared.asked.QueryCommand.{QueryCommand}
use Rattle.lp_words.specs.declared.asked.QueryCommand.TheVariants as on

-- a query on the texts or on the image of a module, by the module's name, within what the options say; the generated query of a size; a file of a
-- module; whether its texts and a query are of the pattern fragment; the certificates of a query's answers, and their test; or many queries on an image
pub data Asked : Type 0 where
  solve : (name query : Text) → Options → Asked
  query_image : (name query : Text) → Options → Asked
  trial : (size : ℕ) → Asked
  files : FileCommand → (name : Text) → Asked
  lambda : (name query : Text) → Asked
  prove : (name query : Text) → Options → Asked
  check : (name query : Text) → Asked
  session : (name : Text) → Options → Asked

abbrev pub asked_of : code.Asked → Asked
asked_of (variant.Solve name query options) = solve name.now query.now options
asked_of (variant.Query name query options) = query_image name.now query.now options
asked_of (variant.Trial size) = trial size
asked_of (variant.Lambda name query) = lambda name.now query.now
asked_of (variant.Prove name query options) = prove name.now query.now options
asked_of (variant.Check name query) = check name.now query.now
asked_of (variant.Session name options) = session name.now options
asked_of (variant.Files command name) = files command name.now

-- no option is given
abbrev pub is_plain : Options → Bool
is_plain o = (is_none o.steps && is_none o.answers) && not o.watch

abbrev pub limit_told : (least most : ℕ) → Option Text → Option (Option ℕ)
limit_told least most None = Some None
limit_told least most (Some text) = option_map Some (number_between least most text)

-- the number that an option gives, where it is given; none where it is no number of this range
unfoldable pub limit_in : (id : Text) → (least most : ℕ) → List Row → Option (Option ℕ)
limit_in id least most rows = limit_told least most (first_of id rows)

abbrev pub is_true : Option Text → Bool
is_true None = false
is_true (Some text) = bytes_eq text (codes "true")

unfoldable pub is_watched : List Row → Bool
is_watched rows = is_true (first_of (codes "watch") rows)

unfoldable pub options_in : List Row → Option Options
options_in rows = option_and_then (λ steps. option_map (λ answers. record { steps = steps; answers = answers; watch = is_watched rows })
    (limit_in (codes "answers") 1 100000 rows)) (limit_in (codes "steps") 0 100000000 rows)

-- the commands on a module and a query
abbrev pub query_command_of : (word : Text) → Option QueryCommand
query_command_of word = if bytes_eq word (codes "solve") then Some on.Solve
    else (if bytes_eq word (codes "query") then Some on.Query
    else (if bytes_eq word (codes "lambda") then Some on.Lambda
    else (if bytes_eq word (codes "prove") then Some on.Prove else (if bytes_eq word (codes "check") then Some on.Check else None))))

abbrev pub queried : QueryCommand → (name query : Text) → Options → Asked
queried on.Solve name query options = solve name query options
queried on.Query name query options = query_image name query options
queried on.Lambda name query options = lambda name query
queried on.Prove name query options = prove name query options
queried on.Check name query options = check name query

-- such a command; those without options find none
abbrev pub query_told : QueryCommand → (name query : Text) → List Row → Option Asked
query_told command name query rows = if is_module_name name then option_map (λ o. queried command name query o) (options_in rows) else None

unfoldable pub query_in : QueryCommand → List Row → Option Asked
query_in command rows = option_and_then (λ name. option_and_then (λ query. query_told command name query rows) (first_of (codes "query") rows)) (first_of (codes "module") rows)

abbrev pub session_told : (name : Text) → List Row → Option Asked
session_told name rows = if is_module_name name then option_map (λ o. session name o) (options_in rows) else None

unfoldable pub session_in : List Row → Option Asked
session_in rows = option_and_then (λ name. session_told name rows) (first_of (codes "module") rows)

unfoldable pub trial_in : List Row → Option Asked
trial_in rows = option_and_then (λ size. option_map (λ n. trial n) (number_between 1 400 size)) (first_of (codes "size") rows)

abbrev pub named_module : FileCommand → (name : Text) → Option Asked
named_module command name = if is_module_name name then Some (files command name) else None

-- the commands that write a file
abbrev pub command_of : (word : Text) → Option FileCommand
command_of word = if bytes_eq word (codes "compile") then Some Compile
    else (if bytes_eq word (codes "link") then Some Link else (if bytes_eq word (codes "migrate") then Some Migrate else None))

unfoldable pub files_in : (word : Text) → List Row → Option Asked
files_in word rows = option_and_then (λ command. option_and_then (λ name. named_module command name) (first_of (codes "module") rows)) (command_of word)

-- a command with one word: a size, or a module's name
abbrev pub word_at : Text × List Row → Option Asked
word_at p = if bytes_eq p.0 (codes "trial") then trial_in p.1 else (if bytes_eq p.0 (codes "session") then session_in p.1 else files_in p.0 p.1)

abbrev pub asked_with : Option QueryCommand → Text × List Row → Option Asked
asked_with None p = word_at p
asked_with (Some command) p = query_in command p.1

abbrev pub asked_at : Text × List Row → Option Asked
asked_at p = asked_with (query_command_of p.0) p

abbrev pub none_at : {X : Type 0} → Kinds → Option X → Option X
none_at [] asked = asked
none_at (k ∷ ks) asked = None

-- what the words ask for, where the command set takes them; it would take a lone `-` for a place
unfoldable pub asked : List Text → Option Asked
asked words = if has_lone_dash words then None else none_at (fault_of lprolog words) (option_and_then asked_at (subcommand_of lprolog words))

abbrev pub IsCommand : List Text → Type 0
IsCommand words = asked words ≢ None

-- the query that is asked on the texts of a module
abbrev pub query_on_texts : Asked → Option Text
query_on_texts (solve name query options) = Some query
query_on_texts (lambda name query) = Some query
query_on_texts (prove name query options) = Some query
query_on_texts (check name query) = Some query
query_on_texts _ = None

-- the watchers are to watch
abbrev pub watches : Asked → Bool
watches (solve name query options) = options.watch
watches (query_image name query options) = options.watch
watches _ = false

-- a file is to be written
abbrev pub writes_file : Asked → Bool
writes_file (files command name) = true
writes_file (prove name query options) = true
writes_file _ = false

-- the words ask that the watchers watch
abbrev pub IsWatched : List Text → Type 0
IsWatched words = option_map watches (asked words) ≡ Some true

-- what the words ask for writes no file
abbrev pub WritesNone : List Text → Type 0
WritesNone words = option_map writes_file (asked words) ≢ Some true
