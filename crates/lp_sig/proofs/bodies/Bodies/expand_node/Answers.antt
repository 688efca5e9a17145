use Rattle.std.proofs.Common.{[], ◌∷◌, length, sym, subst, refl, Some, None}
use Rattle.lp_sig.specs.Types.{IsNode, IsTypeOf}
use Rattle.lp_sig.specs.Holding.{given_number, AreDone, IsNumbered, IsTree, IfType}
use Rattle.lp_sig.proofs.Typing.{done_more}
use Rattle.lp_sig.specs.Abbreviations.{abbreviation_names, uses_in}
use Rattle.lp_sig.specs.Constants.{AreUsesSettled, AllMade}
use Rattle.lp_sig.proofs.Settled.{made_more}
use Rattle.lp_sig.proofs.bodies.Bodies.expand_node.Goals as goal

pub returns-in_ok-push-in-Arrow-clause-typed : goal.returns-in_ok-push-in-Arrow-clause-typed
returns-in_ok-push-in-Arrow-clause-typed c = λ said defs ν nodes k h all at num.
    let b = c.args.self.now.types.bank in
    let text = c.args.source.now in
    let done = c.args.done.now.items in
    done_more b c.between.new.self.types.bank said defs text ν nodes done c.push.new.self.items c.in_ok-made-in-Arrow.made c.between.ensures.kept all c.in_ok-push-in-Arrow.ensures.items
    (c.in_ok-made-in-Arrow.ensures.typed said defs text ν nodes (length done) (subst (AreDone b said defs text ν nodes) (sym c.as_slice.ensures.value) all) (subst (IsNode nodes (length done)) c.in-Arrow.is at))

pub returns-in_ok-push-in-Type-clause-typed : goal.returns-in_ok-push-in-Type-clause-typed
returns-in_ok-push-in-Type-clause-typed c = λ said defs ν nodes k h all at num.
    let b = c.args.self.now.types.bank in
    let now = c.word.new.self.types.bank in
    let text = c.args.source.now in
    let done = c.args.done.now.items in
    let made = c.in_ok-id-in-Word.ensures.typed said defs ν nodes (length done) c.in-Word.arguments k h (subst (AreDone b said defs text ν nodes) (sym c.as_slice-in-Word-2.ensures.value) all) (subst (IsNode nodes (length done)) c.in-Word.is at) c.as_slice-in-Word.ensures.value
    (subst (IsNumbered ν (given_number c.args.variables.now) text (length done)) c.in-Word.is num) in
    done_more b now said defs text ν nodes done c.push-in-Type.new.self.items (Some c.in-Type.id) c.word.ensures.kept all c.in_ok-push-in-Type.ensures.items (subst (λ m. IfType m (IsTree now (IsTypeOf said defs text ν nodes (length done)))) c.in-Type.is made)

pub returns-in_ok-push-in-Open-clause-typed : goal.returns-in_ok-push-in-Open-clause-typed
returns-in_ok-push-in-Open-clause-typed c = λ said defs ν nodes k h all at num.
    done_more c.args.self.now.types.bank c.word.new.self.types.bank said defs c.args.source.now ν nodes c.args.done.now.items c.push-in-Open.new.self.items None c.word.ensures.kept all c.in_ok-push-in-Open.ensures.items tt

pub returns-in_ok-push-in-Unknown-clause-typed : goal.returns-in_ok-push-in-Unknown-clause-typed
returns-in_ok-push-in-Unknown-clause-typed c = λ said defs ν nodes k h all at num.
    done_more c.args.self.now.types.bank c.word.new.self.types.bank said defs c.args.source.now ν nodes c.args.done.now.items c.push-in-Unknown.new.self.items None c.word.ensures.kept all c.in_ok-push-in-Unknown.ensures.items tt

pub returns-in_ok-push-in-Arity-clause-typed : goal.returns-in_ok-push-in-Arity-clause-typed
returns-in_ok-push-in-Arity-clause-typed c = λ said defs ν nodes k h all at num.
    done_more c.args.self.now.types.bank c.word.new.self.types.bank said defs c.args.source.now ν nodes c.args.done.now.items c.push-in-Arity.new.self.items None c.word.ensures.kept all c.in_ok-push-in-Arity.ensures.items tt

pub returns-in_ok-push-in-Arrow-clause-settled : goal.returns-in_ok-push-in-Arrow-clause-settled
returns-in_ok-push-in-Arrow-clause-settled c = λ said k settled all none.
    made_more c.args.done.now.items c.push.new.self.items c.in_ok-made-in-Arrow.made all (c.in_ok-made-in-Arrow.ensures.made (subst AllMade (sym c.as_slice.ensures.value) all)) c.in_ok-push-in-Arrow.ensures.items

pub returns-in_ok-push-in-Type-clause-settled : goal.returns-in_ok-push-in-Type-clause-settled
returns-in_ok-push-in-Type-clause-settled c = λ said k settled all none.
    made_more c.args.done.now.items c.push-in-Type.new.self.items (Some c.in-Type.id) all refl c.in_ok-push-in-Type.ensures.items

pub returns-in_ok-push-in-Open-clause-settled : goal.returns-in_ok-push-in-Open-clause-settled
returns-in_ok-push-in-Open-clause-settled c = λ said k settled all none.
    absurd (c.in_ok-id-in-Word.ensures.settled said c.in-Word.arguments k (subst (λ n. AreUsesSettled c.args.self.now.bodies.items (uses_in (abbreviation_names said) c.args.source.now (n ∷ []))) c.in-Word.is settled) (subst AllMade (sym c.as_slice-in-Word-2.ensures.value) all) c.in-Open.is)

pub returns-in_ok-push-in-Unknown-clause-settled : goal.returns-in_ok-push-in-Unknown-clause-settled
returns-in_ok-push-in-Unknown-clause-settled c = λ said k settled all none. absurd (cc)

pub returns-in_ok-push-in-Arity-clause-settled : goal.returns-in_ok-push-in-Arity-clause-settled
returns-in_ok-push-in-Arity-clause-settled c = λ said k settled all none. absurd (cc)
