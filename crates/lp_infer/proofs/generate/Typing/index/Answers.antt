use Rattle.std.proofs.Common.{◌≡◌, ◌<◌, ◌-◌, ◌∙◌, refl, ap, length, get_or, arith, []}
use Rattle.std.proofs.lemmas.Result.{on_ok_weaker}
use Rattle.lp_calculus.specs.Types.{con, tys}
use Rattle.lp_term.specs.Nodes.{type_tree}
use Rattle.lp_infer.specs.Running.{act, pushed}
use Rattle.lp_infer.specs.Postfix.{is_index}
use Rattle.lp_infer.specs.Making.{state}
use Rattle.lp_infer.proofs.Copying.{known_number}
use Rattle.lp_infer.proofs.Acting.{acts_as, index_past, index_type}
use Rattle.lp_infer.proofs.generate.Typing.index.Goals as goal

pub returns-then-index-count : goal.returns-then-index-count
returns-then-index-count c =
    on_ok_weaker c.push_kind.result (λ h.
    acts_as c.args.self.now c.push_kind.new.self (pushed (con 0 (tys []))) (act (is_index c.args.index))
    (λ S. ap (λ T. pushed T (state c.args.self.now)) (index_past c.args.self.now.types c.args.self.now.context.items c.args.index (omega (arith, c.if-index-count.true, c.len-count.ensures, c.args.self.now.context.ok.0)))) h) c.push_kind.ensures

pub returns : goal.returns
returns c =
    let items = c.args.self.now.context.items in
    let id = c.index-id.result.now in
    let few : c.args.index < length items = omega (arith, c.if-index-count.false, c.len-count.ensures, c.args.self.now.context.ok.0) in
    let at : id ≡ get_or items (length items - 1 - c.args.index) id = c.index-id.ensures ∙ ap (λ n. get_or items (n - 1 - c.args.index) id) (c.len-count.ensures ∙ c.args.self.now.context.ok.0) in
    on_ok_weaker c.push.result (λ h.
    acts_as c.args.self.now c.push.new.self (pushed (type_tree c.args.self.now.types id.0)) (act (is_index c.args.index))
    (λ S. ap (λ T. pushed T (state c.args.self.now)) (index_type c.args.self.now.types items c.args.index id few at))
    (h (type_tree c.args.self.now.types id.0) (λ S. (known_number c.args.self.now.types items (length items - 1 - c.args.index) id at (omega (arith, few)) S.context, refl)))) c.push.ensures
