use Rattle.std.proofs.Common.{rules, map, string_bytes, ◌≡◌, ◌∙◌, sym, ap, Bool, None}
use Rattle.std.specs.Option.{option_and_then}
use Rattle.std.specs.Prelude.{if◌then◌else◌}
use Rattle.clap.specs.Words.{fault_of, subcommand_of}
use Rattle.lp_words.specs.Commands.{lprolog}
use Rattle.lp_words.specs.Asked.{asked, asked_at, none_at}
use Rattle.lp_words.specs.declared.asked.WordsFault.TheVariants.{Usage}
use Rattle.lp_words.proofs.Reading.{refused}
use Rattle.lp_words.proofs.asked.read_words.Goals as goal

pub returns-in-Err-clause-usage : goal.returns-in-Err-clause-usage
unfolding asked
returns-in-Err-clause-usage c = λ is.
    let words = map string_bytes c.args.words.now in
    let usage : c.fault_in.result ≡ Usage = search rules in
    let none = refused (fault_of lprolog words) c.in-Err.error (option_and_then asked_at (subcommand_of lprolog words)) c.in-Err.ensures.usage (c.fault_in.ensures usage) in
    ap (λ (b : Bool). if b then None else none_at (fault_of lprolog words) (option_and_then asked_at (subcommand_of lprolog words))) (sym c.has_lone_dash.ensures ∙ c.if-has_lone_dash.false) ∙ none
