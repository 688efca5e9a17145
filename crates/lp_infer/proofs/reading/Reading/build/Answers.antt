use Rattle.std.proofs.Common.{sym, subst}
use Rattle.std.proofs.lemmas.Result.{on_ok_weaker}
use Rattle.lp_calculus.specs.Types.{con, tys, instance}
use Rattle.lp_term.specs.Nodes.{type_tree}
use Rattle.lp_infer.specs.Copies.{trees_of, IsType}
use Rattle.lp_infer.specs.inner.Waiting.{WasRead, PartsRead}
use Rattle.lp_infer.proofs.Memos.{made_kept, con_read, arrow_read}
use Rattle.lp_infer.proofs.Waiting.{put_reads, each_read}
use Rattle.lp_infer.proofs.reading.Reading.build.Goals as goal

pub unreachable-requires : goal.unreachable-requires
unreachable-requires c = subst (PartsRead (WasRead c.args.self.now)) (sym c.in-Var.ensures.node) c.requires

pub unreachable-requires-in-Param : goal.unreachable-requires-in-Param
unreachable-requires-in-Param c = subst (PartsRead (WasRead c.args.self.now)) (sym c.in-Param.ensures.node) c.requires

pub parts-requires : goal.parts-requires
parts-requires c = each_read c.args.self.now c.in-Con.ids.now (subst (PartsRead (WasRead c.args.self.now)) (sym c.in-Con.ensures.node) c.requires)

pub part-one-requires : goal.part-one-requires
part-one-requires c = (subst (PartsRead (WasRead c.args.self.now)) (sym c.in-Arrow.ensures.node) c.requires).0

pub part-other-requires : goal.part-other-requires
part-other-requires c = (subst (PartsRead (WasRead c.args.self.now)) (sym c.in-Arrow.ensures.node) c.requires).1

pub returns-in_ok-made-in-Con-clause-memo : goal.returns-in_ok-made-in-Con-clause-memo
returns-in_ok-made-in-Con-clause-memo c =
    let made = c.in_ok-made-in-Con.ensures in
    on_ok_weaker c.keep.result (λ put θ same M.
    made_kept (λ i. instance θ (type_tree c.args.from.now i)) c.args.to.now c.put_constructor.new.bank c.args.self.now c.keep.new.self c.args.id.0 c.args.top.0 c.in_ok-made-in-Con.made.0 made.kept c.keep.ensures.numbers put same
    (con_read θ (type_tree c.args.from.now) c.args.to.now c.put_constructor.new.bank
    c.args.self.now.numbers.keys c.in-Con.kind c.in-Con.ids.now c.in_ok-parts-in-Con.parts.items (type_tree c.args.from.now c.args.top.0)
    c.in_ok-made-in-Con.made c.in-Con.ensures.tree (c.in_ok-parts-in-Con.ensures (λ i. instance θ (type_tree c.args.from.now i)) c.args.to.now M)
    (subst (λ ids. IsType c.put_constructor.new.bank c.in_ok-made-in-Con.made (con c.in-Con.kind (tys (trees_of c.args.to.now ids)))) c.as_slice.ensures.value (made.within, made.tree))) M) c.keep.ensures.made

pub returns-in_ok-made-in-Con-clause-was : goal.returns-in_ok-made-in-Con-clause-was
returns-in_ok-made-in-Con-clause-was c = on_ok_weaker c.keep.result (λ put. put_reads c.args.id.0 c.args.top.0 c.in_ok-made-in-Con.made.0 c.args.self.now c.keep.new.self put) c.keep.ensures.made

pub returns-in_ok-made-in-Arrow-clause-memo : goal.returns-in_ok-made-in-Arrow-clause-memo
returns-in_ok-made-in-Arrow-clause-memo c =
    let made = c.in_ok-made-in-Arrow.ensures in
    on_ok_weaker c.keep-in-Arrow.result (λ put θ same M.
    made_kept (λ i. instance θ (type_tree c.args.from.now i)) c.args.to.now c.put_arrow.new.bank c.args.self.now c.keep-in-Arrow.new.self c.args.id.0 c.args.top.0 c.in_ok-made-in-Arrow.made.0 made.kept c.keep-in-Arrow.ensures.numbers put same
    (arrow_read θ (type_tree c.args.from.now) c.args.to.now c.put_arrow.new.bank
    c.args.self.now.numbers.keys c.in-Arrow.left.0 c.in-Arrow.right.0 (type_tree c.args.from.now c.args.top.0) c.part-one.result
    c.part-other.result c.in_ok-made-in-Arrow.made
    c.in-Arrow.ensures.tree (c.part-one.ensures (λ i. instance θ (type_tree c.args.from.now i)) c.args.to.now M) (c.part-other.ensures (λ i. instance θ (type_tree c.args.from.now i)) c.args.to.now M) (made.within, made.tree)) M) c.keep-in-Arrow.ensures.made

pub returns-in_ok-made-in-Arrow-clause-was : goal.returns-in_ok-made-in-Arrow-clause-was
returns-in_ok-made-in-Arrow-clause-was c = on_ok_weaker c.keep-in-Arrow.result (λ put. put_reads c.args.id.0 c.args.top.0 c.in_ok-made-in-Arrow.made.0 c.args.self.now c.keep-in-Arrow.new.self put) c.keep-in-Arrow.ensures.made
