use Rattle.std.proofs.Common.{ap, map, string_bytes, subst, ◌∙◌}
use Rattle.clap.specs.Faults.{fault_of, is_simple_and_free}
use Rattle.clap.specs.Kinds.{FailsBy}
use Rattle.lp_words.proofs.Simple.{free_set, matches_as, simple_set}
use Rattle.lp_words.proofs.words.parse.Goals as goal

pub returns-clause-usage : goal.returns-clause-usage
returns-clause-usage c =
    let same = c.in_ok-lprolog.ensures.0 in
    subst (λ a. FailsBy (fault_of a (map string_bytes c.args.words.now)) c.try_get_matches_from.result) same (c.try_get_matches_from.ensures.kinds (ap (λ a. is_simple_and_free a) same ∙ free_set))

pub returns-clause-matches : goal.returns-clause-matches
returns-clause-matches c = matches_as c.try_get_matches_from.result _ _ (map string_bytes c.args.words.now) c.in_ok-lprolog.ensures.0 simple_set c.try_get_matches_from.ensures.matches
