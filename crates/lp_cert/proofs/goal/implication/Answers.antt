use Rattle.std.proofs.Common.{refl, inl, inr}
use Rattle.lp_cert.proofs.goal.implication.Goals as goal

pub returns-in_default-sides-clause-none : goal.returns-in_default-sides-clause-none
returns-in_default-sides-clause-none c = λ e D A q. elim q [ inl k ↦ c.in_default.ensures.none refl D A k | inr k ↦ c.in_default-sides.ensures.none refl A D k ]
