use Rattle.std.proofs.Common.{◌≡◌, refl, subst, take_all}
use Rattle.std.specs.Prelude.{All}
use Rattle.std.proofs.lemmas.List.Elements.{All-nil, All-more}
use Rattle.lp_lemmas.proofs.Results.{passed_up}
use Rattle.lp_sig.specs.Said.{a_kind}
use Rattle.lp_sig.specs.Words.{IsMeant, IsNumbered, IsNameFault}
use Rattle.lp_sig.specs.ModuleFaults.{exports_kind, IsLocal, IsLocalFault, IsLocalKindsFault, a_local_kind, many_arguments}
use Rattle.lp_sig.specs.declared.fault.SigFault.{SigFault}
use Rattle.lp_sig.specs.declared.module_fault.ModuleSigFault.TheVariants as wrong
use Rattle.lp_sig.proofs.Refusing.{first_of}
use Rattle.lp_sig.proofs.module_lines.ModuleLines.local_kinds.Goals as goal

pub loop-name-init : goal.loop-name-init
loop-name-init c = λ said k. All-nil (IsLocal (exports_kind c.args.self.now.own.now) c.args.self.now.source.now
    (λ s. IsMeant c.args.self.now.source.now said (a_kind c.args.arity) s × IsNumbered c.args.self.now.source.now said s))

pub loop-name-preserved : goal.loop-name-preserved
loop-name-preserved c = λ said k. All-more (IsLocal (exports_kind c.args.self.now.own.now) c.args.self.now.source.now
    (λ s. IsMeant c.args.self.now.source.now said (a_kind c.args.arity) s × IsNumbered c.args.self.now.source.now said s)) c.args.names.now
    c.loop-name.name-index _ c.loop-name-test.true (c.loop-name.invariant said k) (c.in_ok-local_kind.ensures.taken said k)

pub returns-in_err-local_kind-clause-refused : goal.returns-in_err-local_kind-clause-refused
returns-in_err-local_kind-clause-refused c = λ said k.
    passed_up c.from_residual.result c.in_err-local_kind.field-0.0 (IsLocalKindsFault c.args.self.now.own.now c.args.self.now.source.now said c.args.names.now c.args.arity) c.from_residual.ensures.1
    (a_local_kind (first_of (IsLocalFault (exports_kind c.args.self.now.own.now) c.args.self.now.source.now
    (λ s e. (f : SigFault) × IsNameFault c.args.self.now.source.now said (a_kind c.args.arity) s f × (e ≡ wrong.Sig f)))
    (IsLocal (exports_kind c.args.self.now.own.now) c.args.self.now.source.now (λ s. IsMeant c.args.self.now.source.now said (a_kind c.args.arity)
    s × IsNumbered c.args.self.now.source.now said s))
    c.args.names.now c.loop-name.name-index _ c.in_err-local_kind.field-0.0 c.loop-name-test.true (c.loop-name.invariant said k) (c.in_err-local_kind.ensures.refused said k)))

pub returns-then-arity-clause-refused : goal.returns-then-arity-clause-refused
returns-then-arity-clause-refused c = λ said k. many_arguments (subst (All (IsLocal (exports_kind c.args.self.now.own.now) c.args.self.now.source.now
    (λ s. IsMeant c.args.self.now.source.now said (a_kind c.args.arity) s × IsNumbered c.args.self.now.source.now said s)))
    (take_all c.loop-name.name-index c.args.names.now c.loop-name-test.false) (c.loop-name.invariant said k)) c.if-arity.true refl

pub returns-clause-taken : goal.returns-clause-taken
returns-clause-taken c = λ said k. (
  subst (All (IsLocal (exports_kind c.args.self.now.own.now) c.args.self.now.source.now
      (λ s. IsMeant c.args.self.now.source.now said (a_kind c.args.arity) s × IsNumbered c.args.self.now.source.now said s)))
      (take_all c.loop-name.name-index c.args.names.now c.loop-name-test.false) (c.loop-name.invariant said k),
  c.if-arity.false,
)
