use Rattle.std.proofs.Common.{sym, subst}
use Rattle.std.specs.Prelude.{OnOk}
use Rattle.lp_verify.specs.inner.Handed.{assumption_of, IsHandedOn}
use Rattle.lp_verify.proofs.record.Work.hand_on.Goals as goal

pub returns-in-Assume : goal.returns-in-Assume
returns-in-Assume c =
    let w = c.args.self.now in
    subst (λ i. OnOk c.hand.result (IsHandedOn (assumption_of i) w.types w.terms c.args.handed.now.items c.hand.new.handed.items)) (sym c.in-Assume.is) (rw (c.as_slice.ensures.value, c.as_slice-in-Assume.ensures.value) at c.hand.ensures)
