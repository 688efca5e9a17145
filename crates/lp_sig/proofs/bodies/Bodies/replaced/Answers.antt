use Rattle.std.proofs.Common.{◌≡◌, Some, map, ap, sym, subst, ◌∙◌}
use Rattle.std.specs.Prelude.{IfSome, is_some}
use Rattle.lp_calculus.specs.Types.{instance}
use Rattle.lp_term.specs.Nodes.{type_tree}
use Rattle.lp_sig.specs.Copying.{filled}
use Rattle.lp_sig.specs.Holding.{type_done}
use Rattle.lp_sig.proofs.Typing.{filled_on}
use Rattle.lp_sig.proofs.Settled.{no_type}
use Rattle.lp_sig.proofs.bodies.Bodies.replaced.Goals as goal

pub returns-clause-typed : goal.returns-clause-typed
returns-clause-typed c = λ said defs name h at.
    let b = c.args.self.now.types.bank in
    let body = c.in-Some.body in
    record {
      inside = c.in_ok-id.ensures.tree.0;
      body = type_tree b body.0;
      declared = (h name c.args.place body at (sym c.in-Some.ensures)).1;
      parts = c.in-Some-2.parts.items;
      are = subst (λ o. IfSome o (λ types. map (type_done c.args.done.now) c.args.arguments.now ≡ map (λ t. Some t) types.items)) c.in-Some-2.is c.in_ok-parts.ensures.are;
      tree = c.in_ok-id.ensures.tree.1 ∙ ap (λ ids. instance (filled b ids) (type_tree b body.0)) c.as_slice.ensures.value ∙ filled_on b c.in-Some-2.parts.items (type_tree b body.0);
    }

pub returns-in_default-clause-settled : goal.returns-in_default-clause-settled
returns-in_default-clause-settled c = λ settled all is. no_type c.body_at.result c.in_default.is (ap is_some c.body_at.ensures ∙ settled)

pub returns-in_default-2-clause-settled : goal.returns-in_default-2-clause-settled
returns-in_default-2-clause-settled c = λ settled all is. no_type c.in_ok-parts.field-0 c.in_default-2.is (c.in_ok-parts.ensures.made all)
