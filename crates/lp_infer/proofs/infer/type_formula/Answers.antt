use Rattle.std.proofs.Common.{refl, subst}
use Rattle.std.specs.Prelude.{MatchOption}
use Rattle.lp_infer.specs.Scope.{IsFirstUndeclared}
use Rattle.lp_infer.specs.Texts.{HasNoTextTyping}
use Rattle.lp_infer.specs.Numbering.{IsTyped}
use Rattle.lp_infer.proofs.Refusing.{for_memory}
use Rattle.lp_infer.proofs.infer.type_formula.Goals as goal

pub returns-in_err-typing_of_text-clause-refused : goal.returns-in_err-typing_of_text-clause-refused
returns-in_err-typing_of_text-clause-refused c = for_memory c.args.signature.now c.args.source.now c.args.raw.now c.from_residual-in_err-typing_of_text.result c.from_residual-in_err-typing_of_text.ensures.1

pub returns-in-None-clause-refused : goal.returns-in-None-clause-refused
returns-in-None-clause-refused c = (
  refl,
  subst (IsFirstUndeclared c.args.signature.now c.args.source.now c.args.raw.now.nodes.items c.args.raw.now.root) c.in_default.is c.in_ok-spot.ensures,
  subst (λ o. MatchOption o (HasNoTextTyping c.args.signature.now c.args.source.now c.args.raw.now) (IsTyped c.args.signature.now c.args.source.now c.args.raw.now c.typing_of_text.new.bank)) c.in-None.is c.in_ok-typing_of_text.ensures.typed,
)

pub returns-in-Some-2-clause-typed : goal.returns-in-Some-2-clause-typed
returns-in-Some-2-clause-typed c =
    subst (λ o. MatchOption o (HasNoTextTyping c.args.signature.now c.args.source.now c.args.raw.now) (IsTyped c.args.signature.now c.args.source.now c.args.raw.now c.typing_of_text.new.bank)) c.in-Some-2.is c.in_ok-typing_of_text.ensures.typed
