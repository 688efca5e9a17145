use Rattle.std.proofs.Common.{◌∙◌, map, ◌∷◌, [], ap}
use Rattle.std.proofs.lemmas.List.{map-append}
use Rattle.lp_gen.specs.inner.Listing.{seen, around_of}
use Rattle.lp_gen.proofs.environment.Environment.push.Goals as goal

pub returns : goal.returns
returns c = λ b i. record {
  own = (ap (map (seen b)) c.in_ok-push.ensures.items ∙ map-append (seen b) c.args.self.now.own.items (c.args.variable ∷ [])) i;
  base = c.args.self.now.base;
  captured = (around_of b c.args.self.now).captured;
}
