use Rattle.std.proofs.Common.{ap, sym, refl, true≢false}
use Rattle.lp_calculus.specs.Term.{abs, index}
use Rattle.lp_calculus.specs.Convert.{option_term}
use Rattle.lp_term.proofs.Knowing.{nodes_abs}
use Rattle.lp_term.proofs.facts.Facts.abstracted.Goals as goal

pub returns : goal.returns
returns c = λ t h. record {
  reach = c.lowered.ensures t h.reach;
  normal = λ e. ap (option_term abs) (h.normal e);
  nodes = nodes_abs c.total.result t (c.total.ensures t (index 0) h.nodes refl);
  ground = λ e. absurd (true≢false (sym e));
}
