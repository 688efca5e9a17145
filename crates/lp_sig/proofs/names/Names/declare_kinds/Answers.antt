use Rattle.std.proofs.Common.{arith, refl}
use Rattle.std.proofs.lemmas.List.Elements.{All-more}
use Rattle.lp_lemmas.proofs.Results.{passed_up}
use Rattle.lp_sig.specs.Said.{a_kind}
use Rattle.lp_sig.specs.Limits.{IsShort}
use Rattle.lp_sig.specs.Words.{IsMeant, IsNumbered, IsKindsFault, a_name, arguments}
use Rattle.lp_sig.proofs.Wording.{first_name, all_meant, all_numbered, all_short}
use Rattle.lp_sig.proofs.names.Names.declare_kinds.Goals as goal

pub loop-name-init : goal.loop-name-init
loop-name-init c = record { short = λ k d h. absurd (omega (arith, h)); meant = λ said w k d h. absurd (omega (arith, h)); numbered = λ said w k d h. absurd (omega (arith, h)) }

pub loop-name-preserved : goal.loop-name-preserved
loop-name-preserved c = record {
  short = All-more (IsShort c.args.source.now) c.args.names.now c.loop-name.name-index _ c.loop-name-test.true c.loop-name.invariant.short c.in_ok-declare_kind.ensures.taken;
  meant = λ said k. All-more (IsMeant c.args.source.now said (a_kind c.args.arity)) c.args.names.now c.loop-name.name-index _ c.loop-name-test.true (c.loop-name.invariant.meant said k) (c.in_ok-declare_kind.ensures.meant said k).0;
  numbered = λ said k. All-more (IsNumbered c.args.source.now said) c.args.names.now c.loop-name.name-index _ c.loop-name-test.true (c.loop-name.invariant.numbered said k) (c.in_ok-declare_kind.ensures.meant said k).1;
}

pub returns-in_err-declare_kind-clause-why : goal.returns-in_err-declare_kind-clause-why
returns-in_err-declare_kind-clause-why c = λ said k.
    passed_up c.from_residual.result c.in_err-declare_kind.field-0.0 (IsKindsFault c.args.source.now said c.args.names.now c.args.arity) c.from_residual.ensures.1
    (a_name (first_name c.args.source.now said (a_kind c.args.arity) c.args.names.now c.loop-name.name-index _ c.in_err-declare_kind.field-0.0 c.loop-name-test.true (c.loop-name.invariant.meant said k) (c.loop-name.invariant.numbered said k) (c.in_err-declare_kind.ensures.why said k)))

pub returns-then-arity-clause-why : goal.returns-then-arity-clause-why
returns-then-arity-clause-why c = λ said k. arguments refl (all_meant c.args.source.now said (a_kind c.args.arity) c.args.names.now
    c.loop-name.name-index c.loop-name-test.false (c.loop-name.invariant.meant said k))
    (all_numbered c.args.source.now said c.args.names.now c.loop-name.name-index c.loop-name-test.false (c.loop-name.invariant.numbered said k))
    c.if-arity.true

pub returns-clause-meant : goal.returns-clause-meant
returns-clause-meant c = λ said k. (
  all_meant c.args.source.now said (a_kind c.args.arity) c.args.names.now c.loop-name.name-index
      c.loop-name-test.false (c.loop-name.invariant.meant said k),
  all_numbered c.args.source.now said c.args.names.now c.loop-name.name-index
      c.loop-name-test.false (c.loop-name.invariant.numbered said k),
)

pub returns-clause-taken : goal.returns-clause-taken
returns-clause-taken c = (all_short c.args.source.now c.args.names.now c.loop-name.name-index c.loop-name-test.false c.loop-name.invariant.short, c.if-arity.false)
