use Rattle.std.proofs.Common.{◌≡◌, ◌∙◌, ap, sym, reverse}
use Rattle.std.specs.Prelude.{nat_eq, ◌⊎◌}
use Rattle.std.proofs.lemmas.Result.{on_ok_weaker}
use Rattle.lp_term.proofs.Trees.{extends_same}
use Rattle.lp_lemmas.proofs.Results.{on_ok_always}
use Rattle.indexmap.specs.IndexMap.{get}
use Rattle.lp_term.specs.Shapes.{type_shape}
use Rattle.lp_sig.specs.Copying.{filled}
use Rattle.lp_sig.proofs.Copies.{same_visited, con_visited, arrow_visited, one_more_copy}
use Rattle.lp_sig.proofs.Instances.{var_copied, param_copied}
use Rattle.lp_sig.specs.inner.Tasks.{HasCopy}
use Rattle.lp_sig.proofs.Tasks.{go_weaker, con_goes, arrow_goes, copy_kept, copy_there}
use Rattle.lp_sig.proofs.store.Types.visit.Goals as goal

pub returns-then-contains_key-clause-falls : goal.returns-then-contains_key-clause-falls
returns-then-contains_key-clause-falls c = λ b x h r. same_visited b c.args.id c.args.work.now.items r

pub returns-in_ok-push-in-Con-clause-falls : goal.returns-in_ok-push-in-Con-clause-falls
returns-in_ok-push-in-Con-clause-falls c =
    on_ok_weaker c.push_visits.result (λ e b x h r. con_visited b c.args.self.now.bank c.args.id.0 (type_shape c.type_node.result) x h
    c.type_node.ensures.older c.type_node.ensures.tree c.args.work.now.items c.push.new.self.items c.push_visits.new.work.items c.in-Con.field-0
    c.args.id c.in-Con.parts.now h (ap type_shape c.in-Con.is) c.in_ok-push-in-Con.ensures.items e r) c.push_visits.ensures

pub returns-in_ok-push-in-Arrow-3-clause-falls : goal.returns-in_ok-push-in-Arrow-3-clause-falls
returns-in_ok-push-in-Arrow-3-clause-falls c = λ b x h r.
    arrow_visited b c.args.self.now.bank c.args.id.0 (type_shape c.type_node.result) x h c.type_node.ensures.older c.type_node.ensures.tree
    c.args.work.now.items c.push-in-Arrow.new.self.items c.push-in-Arrow-2.new.self.items c.push-in-Arrow-3.new.self.items c.args.id
    c.in-Arrow.from c.in-Arrow.to h (ap type_shape c.in-Arrow.is)
    c.in_ok-push-in-Arrow.ensures.items c.in_ok-push-in-Arrow-2.ensures.items c.in_ok-push-in-Arrow-3.ensures.items r

pub returns-in-Var-clause-falls : goal.returns-in-Var-clause-falls
returns-in-Var-clause-falls c = on_ok_always c.keep.result _ (λ b x h r. same_visited b c.args.id c.args.work.now.items r)

pub returns-in-Param-clause-falls : goal.returns-in-Param-clause-falls
returns-in-Param-clause-falls c = on_ok_always c.keep-in-Param.result _ (λ b x h r. same_visited b c.args.id c.args.work.now.items r)

pub returns-then-contains_key-clause-copies : goal.returns-then-contains_key-clause-copies
returns-then-contains_key-clause-copies c = λ b x h all kept. kept

pub returns-in_ok-push-in-Con-clause-copies : goal.returns-in_ok-push-in-Con-clause-copies
returns-in_ok-push-in-Con-clause-copies c = on_ok_always c.push_visits.result _ (λ b x h all kept. kept)

pub returns-in_ok-push-in-Arrow-3-clause-copies : goal.returns-in_ok-push-in-Arrow-3-clause-copies
returns-in_ok-push-in-Arrow-3-clause-copies c = λ b x h all kept. kept

pub returns-in-Var-clause-copies : goal.returns-in-Var-clause-copies
returns-in-Var-clause-copies c =
    on_ok_weaker c.keep.result (λ put b x h all kept.
    let now = c.args.self.now.bank in
    let p = var_copied b now c.args.id.0 (type_shape c.type_node.result) x h c.type_node.ensures.older c.type_node.ensures.tree c.args.args.now c.in-Var.number c.put_for.result (ap type_shape c.in-Var.is) (c.put_for.ensures.known _ h all) (c.put_for.ensures.tree b) in
    one_more_copy b now now c.args.args.now (get nat_eq c.args.made.now) (get nat_eq c.keep.new.made) c.args.id.0 c.put_for.result.0 put (extends_same now) kept p.0 p.1) c.keep.ensures

pub returns-in-Param-clause-copies : goal.returns-in-Param-clause-copies
returns-in-Param-clause-copies c =
    on_ok_weaker c.keep-in-Param.result (λ put b x h all kept.
    let now = c.args.self.now.bank in
    let p = param_copied b now c.args.id.0 (type_shape c.type_node.result) x h c.type_node.ensures.older c.type_node.ensures.tree (filled b c.args.args.now) c.in-Param.field-0 (ap type_shape c.in-Param.is) in
    one_more_copy b now now c.args.args.now (get nat_eq c.args.made.now) (get nat_eq c.keep-in-Param.new.made) c.args.id.0 c.args.id.0 put (extends_same now) kept p.0 p.1) c.keep-in-Param.ensures

pub returns-then-contains_key-clause-goes : goal.returns-then-contains_key-clause-goes
returns-then-contains_key-clause-goes c = λ b root x h go.
    let Has = HasCopy c.args.made.now in
    go_weaker b root (λ i. Has i ⊎ (i ≡ c.args.id.0)) Has (copy_there Has c.args.id.0 (sym c.contains_key.ensures ∙ c.if-contains_key.true)) (reverse c.args.work.now.items) go

pub returns-in_ok-push-in-Con-clause-goes : goal.returns-in_ok-push-in-Con-clause-goes
returns-in_ok-push-in-Con-clause-goes c =
    on_ok_weaker c.push_visits.result (λ e b root x h go. con_goes b root (HasCopy c.args.made.now) c.args.id c.in-Con.field-0 c.in-Con.parts.now c.args.work.now.items c.push.new.self.items c.push_visits.new.work.items
    (sym (ap type_shape c.in-Con.is) ∙ c.type_node.ensures.node ∙ x.types_stay c.args.id.0 h) c.in_ok-push-in-Con.ensures.items e go) c.push_visits.ensures

pub returns-in_ok-push-in-Arrow-3-clause-goes : goal.returns-in_ok-push-in-Arrow-3-clause-goes
returns-in_ok-push-in-Arrow-3-clause-goes c = λ b root x h go.
    arrow_goes b root (HasCopy c.args.made.now) c.args.id c.in-Arrow.from c.in-Arrow.to c.args.work.now.items c.push-in-Arrow.new.self.items c.push-in-Arrow-2.new.self.items c.push-in-Arrow-3.new.self.items
    (sym (ap type_shape c.in-Arrow.is) ∙ c.type_node.ensures.node ∙ x.types_stay c.args.id.0 h) c.in_ok-push-in-Arrow.ensures.items c.in_ok-push-in-Arrow-2.ensures.items c.in_ok-push-in-Arrow-3.ensures.items go

pub returns-in-Var-clause-goes : goal.returns-in-Var-clause-goes
returns-in-Var-clause-goes c =
    on_ok_weaker c.keep.result (λ put b root x h go. go_weaker b root (λ i. HasCopy c.args.made.now i ⊎ (i ≡ c.args.id.0)) (HasCopy c.keep.new.made)
    (copy_kept (get nat_eq c.args.made.now) (get nat_eq c.keep.new.made) c.args.id.0 c.put_for.result.0 put) (reverse c.args.work.now.items) go) c.keep.ensures

pub returns-in-Param-clause-goes : goal.returns-in-Param-clause-goes
returns-in-Param-clause-goes c =
    on_ok_weaker c.keep-in-Param.result (λ put b root x h go. go_weaker b root (λ i. HasCopy c.args.made.now i ⊎ (i ≡ c.args.id.0)) (HasCopy c.keep-in-Param.new.made)
    (copy_kept (get nat_eq c.args.made.now) (get nat_eq c.keep-in-Param.new.made) c.args.id.0 c.args.id.0 put) (reverse c.args.work.now.items) go) c.keep-in-Param.ensures
