use Rattle.std.proofs.Common.{◌∙◌, ap, sym, subst, map, length, ◌<◌, arith}
use Rattle.std.specs.Prelude.{All}
use Rattle.std.proofs.lemmas.Result.{IfOk-weaker}
use Rattle.lp_calculus.specs.Types.{instance}
use Rattle.lp_term.specs.Nodes.{type_tree}
use Rattle.lp_term.proofs.Within.{kept_then}
use Rattle.lp_term.proofs.Trees.{extends_same}
use Rattle.lp_sig.specs.Copying.{filled}
use Rattle.lp_sig.proofs.Inside.{instance_same}
use Rattle.lp_sig.proofs.store.Types.instance.Goals as goal

pub copied-requires-clause-body : goal.copied-requires-clause-body
copied-requires-clause-body c =
    let b = c.args.self.now.bank in
    let l = (c.in_ok-root.ensures.tree b (extends_same b) c.type_count-count.ensures.count).0 in
    let m = c.all_inside.ensures.kept.more_types in
    omega (arith, l, m)

pub copied-requires-clause-args : goal.copied-requires-clause-args
copied-requires-clause-args c =
    let mid = c.all_inside.new.self.bank in
    subst (λ l. All (λ i. i < length mid.types) (map (λ t. t.0) l)) (sym c.as_slice.ensures.value)
    (c.in_ok-given.ensures.trees c.args.self.now.bank c.inside.ensures.kept c.type_count-count.ensures.count).within

pub returns-in_err-given-clause-kept : goal.returns-in_err-given-clause-kept
returns-in_err-given-clause-kept c = kept_then c.args.self.now.bank c.inside.new.self.bank c.all_inside.new.self.bank c.inside.ensures.kept c.all_inside.ensures.kept

pub returns-clause-kept : goal.returns-clause-kept
returns-clause-kept c =
    let b = c.args.self.now.bank in
    let mid = c.all_inside.new.self.bank in
    kept_then b mid c.copied.new.self.bank (kept_then b c.inside.new.self.bank mid c.inside.ensures.kept c.all_inside.ensures.kept) c.copied.ensures.kept

pub returns-clause-tree : goal.returns-clause-tree
returns-clause-tree c =
    let b = c.args.self.now.bank in
    let mid = c.all_inside.new.self.bank in
    let root = c.in_ok-root.root in
    let one = c.in_ok-root.ensures.tree b (extends_same b) c.type_count-count.ensures.count in
    let same = c.in_ok-given.ensures.trees b c.inside.ensures.kept c.type_count-count.ensures.count in
    IfOk-weaker c.copied.result _ _ (λ id h. (
      h.0,
      h.1 ∙ ap (λ l. instance (filled mid l) (type_tree mid root.0)) c.as_slice.ensures.value ∙
          instance_same mid b c.in_ok-given.given.items c.args.args.now (type_tree mid root.0) (type_tree b c.args.body.0) same (c.all_inside.ensures.kept.same_types root.0 one.0 ∙ one.1),
    )) c.copied.ensures.tree
