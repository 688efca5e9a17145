-- The command set is one of those whose parse is said by its rules.
use Rattle.std.proofs.Common.{◌≡◌, List, refl, subst, Result, Ok, Err, true}
use Rattle.std.specs.Prelude.{IfOk}
use Rattle.clap.specs.Faults.{is_simple_and_free}
use Rattle.clap.specs.Simple.{App, HasMatchesOf, is_simple, subcommand_of, subcommand_rows_of}
use Rattle.clap.specs.Words.{Text}
use Rattle.clap.specs.declared.error.Error.{Error}
use Rattle.clap.specs.declared.parser.matches.ArgMatches.{ArgMatches}
use Rattle.lp_words.specs.Commands.{lprolog}

pub simple_set : is_simple lprolog ≡ true
simple_set = refl

pub free_set : is_simple_and_free lprolog ≡ true
free_set = refl

pub matches_as : (r : Result ArgMatches Error) (a b : App) (words : List Text) → a ≡ b → is_simple b ≡ true → IfOk r (HasMatchesOf a words) → IfOk r (λ m. subcommand_rows_of m ≡ subcommand_of b words)
matches_as (Ok m) a b words e s h = (subst (λ x. HasMatchesOf x words m) e h s).1
matches_as (Err x) a b words e s h = tt
