use Rattle.lp_plain.specs.inner.Collecting.{Variable, TypeVariable}
use Rattle.lp_plain.proofs.free.free_in_clauses.Goals as goal

pub returns : goal.returns
returns c = record {
  variables = record { same = λ n. c.in_ok-free.ensures.same (Variable n); once = c.in_ok-free.ensures.once (Variable 0) };
  types = record { same = λ n. c.in_ok-free.ensures.same (TypeVariable n); once = c.in_ok-free.ensures.once (TypeVariable 0) };
}
