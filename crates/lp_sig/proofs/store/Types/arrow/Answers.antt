use Rattle.std.proofs.Common.{◌∙◌, arith}
use Rattle.std.proofs.lemmas.Result.{IfOk-weaker}
use Rattle.lp_term.specs.Nodes.{type_tree}
use Rattle.lp_term.proofs.Within.{kept_then}
use Rattle.lp_term.proofs.Trees.{extends_same}
use Rattle.lp_sig.proofs.Instances.{two_sides}
use Rattle.lp_sig.proofs.store.Types.arrow.Goals as goal

pub put-requires-clause-older : goal.put-requires-clause-older
put-requires-clause-older c =
    let b = c.args.self.now.bank in
    let one = c.in_ok-left.ensures.tree b (extends_same b) c.type_count-count.ensures.count in
    let two = c.in_ok-right.ensures.tree b c.inside.ensures.kept c.type_count-count.ensures.count in
    let l = one.0 in
    let m = c.inside-2.ensures.kept.more_types in
    (omega (arith, l, m), two.0)

pub returns-in_err-right-clause-kept : goal.returns-in_err-right-clause-kept
returns-in_err-right-clause-kept c = kept_then c.args.self.now.bank c.inside.new.self.bank c.inside-2.new.self.bank c.inside.ensures.kept c.inside-2.ensures.kept

pub returns-clause-kept : goal.returns-clause-kept
returns-clause-kept c =
    let b = c.args.self.now.bank in
    let mid = c.inside-2.new.self.bank in
    kept_then b mid c.put.new.self.bank (kept_then b c.inside.new.self.bank mid c.inside.ensures.kept c.inside-2.ensures.kept) c.put.ensures.kept

pub returns-clause-tree : goal.returns-clause-tree
returns-clause-tree c =
    let b = c.args.self.now.bank in
    let mid = c.inside-2.new.self.bank in
    let left = c.in_ok-left.left in
    let one = c.in_ok-left.ensures.tree b (extends_same b) c.type_count-count.ensures.count in
    let two = c.in_ok-right.ensures.tree b c.inside.ensures.kept c.type_count-count.ensures.count in
    IfOk-weaker c.put.result _ _ (λ id h. (h.0, h.1 ∙ two_sides (type_tree mid left.0) (type_tree b c.args.from.0) (type_tree mid c.in_ok-right.right.0) (type_tree b c.args.to.0) (c.inside-2.ensures.kept.same_types left.0 one.0 ∙ one.1) two.1)) c.put.ensures.tree
