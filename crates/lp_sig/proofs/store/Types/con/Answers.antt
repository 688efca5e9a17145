use Rattle.std.proofs.Common.{◌∙◌, ap, sym, subst, map, length, ◌<◌}
use Rattle.std.specs.Prelude.{All}
use Rattle.std.proofs.lemmas.Result.{IfOk-weaker}
use Rattle.lp_calculus.specs.Types.{con, tys}
use Rattle.lp_term.specs.Nodes.{type_tree}
use Rattle.lp_term.proofs.Within.{kept_then}
use Rattle.lp_term.proofs.Trees.{extends_same}
use Rattle.lp_sig.proofs.store.Types.con.Goals as goal

pub put-requires-clause-older : goal.put-requires-clause-older
put-requires-clause-older c =
    let mid = c.all_inside.new.self.bank in
    subst (λ l. All (λ i. i < length mid.types) (map (λ t. t.0) l)) (sym c.as_slice-here.ensures.value)
    (c.in_ok-inside.ensures.trees c.args.self.now.bank (extends_same c.args.self.now.bank) c.type_count-count.ensures.count).within

pub returns-clause-kept : goal.returns-clause-kept
returns-clause-kept c = kept_then c.args.self.now.bank c.all_inside.new.self.bank c.put.new.self.bank c.all_inside.ensures.kept c.put.ensures.kept

pub returns-clause-tree : goal.returns-clause-tree
returns-clause-tree c =
    let mid = c.all_inside.new.self.bank in
    let same = c.in_ok-inside.ensures.trees c.args.self.now.bank (extends_same c.args.self.now.bank) c.type_count-count.ensures.count in
    IfOk-weaker c.put.result _ _ (λ id h. (h.0, h.1 ∙ ap (λ l. con c.args.kind (tys (map (type_tree mid) (map (λ t. t.0) l)))) c.as_slice-here.ensures.value ∙ ap (λ ts. con c.args.kind (tys ts)) same.trees)) c.put.ensures.tree
