use Rattle.std.proofs.Common.{◌∙◌, refl, sym, ap, subst, length, None}
use Rattle.std.proofs.lemmas.Result.{on_ok_weaker}
use Rattle.lp_term.specs.Nodes.{type_tree}
use Rattle.lp_infer.specs.Running.{act}
use Rattle.lp_infer.specs.Postfix.{opens, given_type, IsGivenKnown}
use Rattle.lp_infer.specs.Making.{Acts, state}
use Rattle.lp_infer.proofs.Acting.{acts_as, opens_plain, opens_given}
use Rattle.lp_infer.proofs.generate.Typing.open.Goals as goal

pub returns-in-Some : goal.returns-in-Some
returns-in-Some c = λ known.
    let τ = type_tree c.args.self.now.types in
    on_ok_weaker c.equate.result (λ q.
    subst (λ g. Acts c.args.self.now c.equate.new.self (act (opens (given_type τ g)))) (sym c.in-Some.is)
    (opens_given c.args.self.now c.new_variable.new.self c.equate.new.self c.in_ok-from.from c.in_ok-from.ensures (ap (λ v. v.items) q.context ∙ c.in_ok-push.ensures.items) q.types q.next q.wanted q.stack c.in-Some.id
    (subst (IsGivenKnown (length c.args.self.now.types.types)) c.in-Some.is known) q.pairs)) c.equate.ensures

pub returns-in-None : goal.returns-in-None
returns-in-None c = λ known.
    acts_as c.args.self.now _ (act (opens None)) (act (opens (given_type (type_tree c.args.self.now.types) c.args.given)))
    (λ S. ap (λ g. act (opens (given_type (type_tree c.args.self.now.types) g)) (state c.args.self.now)) c.in-None.is)
    (opens_plain c.args.self.now c.new_variable.new.self _ c.in_ok-from.from c.in_ok-from.ensures c.in_ok-push.ensures.items refl refl refl refl refl)
