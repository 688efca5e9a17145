use Rattle.std.proofs.Common.{◌∙◌, sym, ap}
use Rattle.std.specs.Prelude.{if◌then◌else◌, Some}
use Rattle.std.specs.Str.{bytes_eq}
use Rattle.std.specs.Map.{lookup}
use Rattle.lp_fixity.proofs.Lookups.{lookup_put}
use Rattle.lp_build.specs.inner.Linked.{number_of}
use Rattle.lp_build.proofs.Signing.{name_again, name_new}
use Rattle.lp_build.proofs.links.Numbers.add_name.Goals as goal

pub returns-then-is_some : goal.returns-then-is_some
returns-then-is_some c = λ other. name_again (number_of c.args.self.now) c.args.name.now other c.args.number c.number.result c.number.ensures (sym c.is_some.ensures ∙ c.if-is_some.true)

pub returns : goal.returns
unfolding number_of
returns c = λ other.
    ap (lookup (λ k. bytes_eq other k.items)) c.in_ok-insert.ensures.entries ∙
    lookup_put (λ k. k.items) c.in_ok-key.key c.args.number other c.args.self.now.numbers.entries ∙
    ap (λ l. if bytes_eq other l then Some c.args.number else number_of c.args.self.now other) c.in_ok-key.ensures.items ∙
    name_new (number_of c.args.self.now) c.args.name.now other c.args.number c.number.result c.number.ensures (sym c.is_some.ensures ∙ c.if-is_some.false)
