use Rattle.std.proofs.Common.{◌≡◌, ◌-◌, ◌+◌, ◌∷◌, [], suc, length, map, replicate, ◌++◌, reverse, ap, ◌∙◌, sym, refl, arith}
use Rattle.std.proofs.lemmas.Result.{err_from_is_err_and}
use Rattle.std.proofs.lemmas.List.{nil_from_length}
use Rattle.lp_lemmas.proofs.Lists.{map_pushed, reverse_pushed}
use Rattle.lp_term.proofs.Trees.{extends_same, extends-trans}
use Rattle.lp_bytes.specs.Reading.{left_of, nested_at}
use Rattle.lp_bytes.proofs.Looping.{part_read, part_fails, parts_over, parts_done}
use Rattle.lp_cert.specs.Arities.{counts_of}
use Rattle.lp_cert.specs.Reading.{nodes_below, node_at, proof_at}
use Rattle.lp_cert.specs.Written.{node_of}
use Rattle.lp_cert.specs.declared.nodes.Sort.TheVariants as sorts
use Rattle.lp_lemmas.proofs.Elements.{All_empty}
use Rattle.lp_cert.specs.Standing.{IsNodeInside}
use Rattle.lp_cert.proofs.Within.{node_more}
use Rattle.lp_cert.proofs.nodes.read_proof.Goals as goal

pub loop-init : goal.loop-init
unfolding proof_at
loop-init c =
    let k : c.len.result + 1 - 0 ≡ suc (length (left_of c.args.reader.now).rest) = omega (arith, c.len.ensures) in
    let one = ap reverse (c.in_ok-push.ensures.items ∙ ap (λ l. l ++ sorts.Proof ∷ []) c.new-sorts.ensures.items) in (
      extends_same _,
      All_empty (IsNodeInside c.args.bank.now) _ c.new-nodes.ensures.items,
      λ b y. ap (λ ns. nested_at (node_at (counts_of c.args.arities.now)) nodes_below (map (node_of b) ns) (c.len.result + 1 - 0) (reverse c.push.new.self.items) (left_of c.args.reader.now)) c.new-nodes.ensures.items
          ∙ ap (λ ss. nested_at (node_at (counts_of c.args.arities.now)) nodes_below [] (c.len.result + 1 - 0) ss (left_of c.args.reader.now)) one
          ∙ ap (λ m. nested_at (node_at (counts_of c.args.arities.now)) nodes_below [] m (sorts.Proof ∷ []) (left_of c.args.reader.now)) k,
    )

pub loop-preserved : goal.loop-preserved
loop-preserved c = (
  extends-trans _ _ _ c.loop.invariant.0 c.in_ok-node.ensures.kept,
  node_more _ _ c.in_ok-node.ensures.kept _ _ c.in_ok-node.node c.in_ok-push-2.ensures.items c.in_ok-node.ensures.inside c.loop.invariant.1,
  λ b y. part_read (node_at (counts_of c.args.arities.now)) nodes_below _ _ (node_of b c.in_ok-node.node) _ _ _ c.in-Some.sort (reverse c.pop.new.self.items) _ _ _ _ (map_pushed (node_of b) _ _ c.in_ok-node.node c.in_ok-push-2.ensures.items) c.loop-test.true
      (reverse_pushed c.loop.sorts.items c.pop.new.self.items c.in-Some.sort c.in-Some.ensures.items) (c.in_ok-push_below.ensures b) (c.in_ok-node.ensures.read b y)
      (c.loop.invariant.2 b (extends-trans _ _ b c.in_ok-node.ensures.kept y)),
)

pub returns-in_err-node-clause-read : goal.returns-in_err-node-clause-read
returns-in_err-node-clause-read c = λ b y.
    let p = err_from_is_err_and c.from_residual-in_err-node.result c.from_residual-in_err-node.ensures.1 in
    rw (p.1, p.2) (part_fails (node_at (counts_of c.args.arities.now)) nodes_below _ _ _ _ _ c.in-Some.sort (reverse c.pop.new.self.items) _ _ c.loop-test.true (reverse_pushed c.loop.sorts.items c.pop.new.self.items c.in-Some.sort c.in-Some.ensures.items)
    (c.in_err-node.ensures.read b y) (c.loop.invariant.2 b (extends-trans _ _ b c.in_err-node.ensures.kept y)))

pub returns-in_default-clause-read : goal.returns-in_default-clause-read
returns-in_default-clause-read c = λ b y. parts_over (node_at (counts_of c.args.arities.now)) nodes_below _ _ _ _ _ (ap reverse (nil_from_length c.loop.sorts.items (omega (arith, c.in_default.ensures.cases.0, c.loop.sorts.ok)))) (c.loop.invariant.2 b y)

pub returns-clause-read : goal.returns-clause-read
returns-clause-read c = λ b y. parts_done (node_at (counts_of c.args.arities.now)) nodes_below _ _ _ _ _ _ c.loop-test.false (c.loop.invariant.2 b y)

pub returns-in_default-clause-inside : goal.returns-in_default-clause-inside
returns-in_default-clause-inside c = c.loop.invariant.1

pub returns-clause-inside : goal.returns-clause-inside
returns-clause-inside c = c.loop.invariant.1
