use Rattle.std.proofs.Common.{ℕ, []}
use Rattle.lp_calculus.specs.Types.{Ty}
use Rattle.lp_term.specs.Nodes.{Nodes, Extends}
use Rattle.lp_cert.specs.Facts.{IsKnown}
use Rattle.lp_cert.specs.inner.Derives.{Can, Derives, IsTidy, Solves}
use Rattle.lp_cert.proofs.typing.Typing.finish.Given as goal

abbrev pub invariant-loop : goal.invariant-loop
invariant-loop l = record {
  kept : Extends l.fn.bank l.bank;
  known : IsKnown l.bank l.known;
  moves : (b : Nodes) → Extends l.bank b → (θ : ℕ → Ty) → (T : Ty) → Solves b θ l.self.pairs.items → Derives b θ l.self T → Solves b θ l.fn.self.pairs.items × Derives b θ l.fn.self T;
  tidy : IsTidy l.fn.bank l.fn.self → IsTidy l.bank l.self;
  can : IsTidy l.fn.bank l.fn.self → (b : Nodes) → Extends l.bank b → (T : Ty) → Can b l.fn.self [] T → Can b l.self [] T;
}
