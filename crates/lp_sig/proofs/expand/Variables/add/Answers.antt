use Rattle.std.proofs.Common.{◌∙◌, ap}
use Rattle.std.specs.Prelude.{if◌then◌else◌, Some}
use Rattle.std.specs.Str.{bytes_eq}
use Rattle.std.specs.Map.{lookup}
use Rattle.lp_fixity.proofs.Lookups.{lookup_put}
use Rattle.lp_sig.specs.Knowing.{number_of}
use Rattle.lp_sig.proofs.expand.Variables.add.Goals as goal

pub returns-clause-added : goal.returns-clause-added
unfolding number_of
returns-clause-added c = λ other.
    ap (lookup (λ k. bytes_eq other k.items)) c.in_ok-insert.ensures.entries ∙ lookup_put (λ k. k.items) c.in_ok-key.key c.args.self.now.next other c.args.self.now.numbers.entries ∙
    ap (λ l. if bytes_eq other l then Some c.args.self.now.next else number_of c.args.self.now other) c.in_ok-key.ensures.items
