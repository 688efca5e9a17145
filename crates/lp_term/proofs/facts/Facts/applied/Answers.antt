use Rattle.lp_term.proofs.Knowing.{normal_app}
use Rattle.lp_term.proofs.facts.Facts.applied.Goals as goal

pub returns : goal.returns
returns c = λ t u h n k. record {
  reach = c.higher.ensures t u h.reach k.reach;
  normal = λ e. let b = c.both.ensures e in normal_app t u (n b.0) (h.normal b.0) (k.normal b.1);
  nodes = c.total.ensures t u h.nodes k.nodes;
  ground = λ e. let b = c.both-2.ensures e in (h.ground b.0, k.ground b.1);
}
