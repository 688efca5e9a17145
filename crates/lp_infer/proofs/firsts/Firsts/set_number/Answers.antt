use Rattle.std.proofs.Common.{◌∙◌, sym, ap}
use Rattle.std.specs.Prelude.{if◌then◌else◌, Some}
use Rattle.std.specs.Str.{bytes_eq}
use Rattle.std.specs.Map.{lookup}
use Rattle.lp_fixity.proofs.Lookups.{lookup_put}
use Rattle.lp_sig.proofs.Finding.{first_again, first_new}
use Rattle.lp_infer.specs.Firsts.{number_in}
use Rattle.lp_infer.proofs.firsts.Firsts.set_number.Goals as goal

pub returns-then-is_some-clause-numbers : goal.returns-then-is_some-clause-numbers
returns-then-is_some-clause-numbers c = λ names at h other.
    h other ∙ first_again c.args.name.now other names c.number.result (sym c.is_some.ensures ∙ c.if-is_some.true) (c.number.ensures ∙ h c.args.name.now)

pub returns-clause-numbers : goal.returns-clause-numbers
unfolding number_in
returns-clause-numbers c = λ names at h other.
    ap (lookup (λ k. bytes_eq other k.items)) c.in_ok-insert.ensures.entries ∙
    lookup_put (λ k. k.items) c.in_ok-key.key c.args.number other c.args.self.now.numbers.entries ∙
    ap (λ l. if bytes_eq other l then Some c.args.number else number_in c.args.self.now other) c.in_ok-key.ensures.items ∙
    first_new c.args.name.now other names c.args.number (number_in c.args.self.now other) c.number.result at (h other) (sym c.is_some.ensures ∙ c.if-is_some.false) (c.number.ensures ∙ h c.args.name.now)
