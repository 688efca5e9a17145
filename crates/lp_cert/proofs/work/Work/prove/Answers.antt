use Rattle.std.proofs.Common.{◌≡◌, subst, refl, ◌⊎◌, length}
use Rattle.std.specs.Prelude.{Ok, IfOk}
use Rattle.lp_term.specs.Nodes.{Nodes, Extends, tree}
use Rattle.lp_model.specs.declared.certificate.ProofNode.TheVariants as node
use Rattle.lp_cert.specs.Same.{types_in}
use Rattle.lp_cert.specs.Written.{back_to, trivial}
use Rattle.lp_cert.specs.Run.{proving}
use Rattle.lp_cert.specs.inner.Left.{Goes}
use Rattle.lp_cert.specs.declared.work.Turn.TheVariants.{On}
use Rattle.lp_cert.proofs.Stepping.{goes_as, goes_where, stays_left}
use Rattle.lp_cert.proofs.Going.{goes_beside, truth_goes, equated_goes, counted_goes}
use Rattle.lp_cert.proofs.Turning.{as_it_is, computed_turned, is_done, plainly, turned_as, where_turned}
use Rattle.lp_term.proofs.Trees.{extends_same}
use Rattle.lp_standard.specs.Connectives.{cut, truth}
use Rattle.lp_cert.specs.inner.Turned.{IsTurned, IsReady, IsReadyWork}
use Rattle.lp_cert.specs.Facts.{AreInside}
use Rattle.lp_cert.proofs.work.Work.prove.Goals as goal

pub returns-in-Conv-clause-goes : goal.returns-in-Conv-clause-goes
returns-in-Conv-clause-goes c = goes_as c.conv.result c.conv.new.bank c.args.self.now c.conv.new.self (λ b. proving (tree b c.args.goal.0)) c.args.node.now (node.Conv c.in-Conv.other) c.in-Conv.is c.conv.ensures.goes

pub returns-in-True-clause-goes : goal.returns-in-True-clause-goes
returns-in-True-clause-goes c = goes_as (Ok c.turn_where.result) c.args.bank.now c.args.self.now c.args.self.now (λ b. proving (tree b c.args.goal.0))
    c.args.node.now node.True c.in-True.is (λ e b g ns h. truth_goes b c.args.self.now ns (tree b c.args.goal.0)
    (c.is_trivial.ensures.yes (c.turn_where.ensures.on e) b g) h)

pub returns-in-And-clause-goes : goal.returns-in-And-clause-goes
returns-in-And-clause-goes c = goes_as c.both.result c.args.bank.now c.args.self.now c.both.new.self (λ b. proving (tree b c.args.goal.0)) c.args.node.now node.And c.in-And.is c.both.ensures.goes

pub returns-in-Left-clause-goes : goal.returns-in-Left-clause-goes
returns-in-Left-clause-goes c = goes_as c.left.result c.args.bank.now c.args.self.now c.left.new.self (λ b. proving (tree b c.args.goal.0)) c.args.node.now node.Left c.in-Left.is c.left.ensures.goes

pub returns-in-Right-clause-goes : goal.returns-in-Right-clause-goes
returns-in-Right-clause-goes c = goes_as c.right.result c.args.bank.now c.args.self.now c.right.new.self (λ b. proving (tree b c.args.goal.0)) c.args.node.now node.Right c.in-Right.is c.right.ensures.goes

pub returns-in-Some-clause-goes : goal.returns-in-Some-clause-goes
returns-in-Some-clause-goes c = goes_as c.witnessed.result c.witnessed.new.bank c.args.self.now c.witnessed.new.self (λ b. proving (tree b c.args.goal.0)) c.args.node.now (node.Some c.in-Some.value) c.in-Some.is c.witnessed.ensures.goes

pub returns-in-All-clause-goes : goal.returns-in-All-clause-goes
returns-in-All-clause-goes c = goes_as c.for_all.result c.for_all.new.bank c.args.self.now c.for_all.new.self (λ b. proving (tree b c.args.goal.0)) c.args.node.now node.All c.in-All.is c.for_all.ensures.goes

pub returns-in-Assume-clause-goes : goal.returns-in-Assume-clause-goes
returns-in-Assume-clause-goes c = goes_as c.assume.result c.args.bank.now c.args.self.now c.assume.new.self (λ b. proving (tree b c.args.goal.0)) c.args.node.now node.Assume c.in-Assume.is c.assume.ensures.goes

pub returns-in-Equal-clause-goes : goal.returns-in-Equal-clause-goes
returns-in-Equal-clause-goes c =
    goes_as c.equal.result c.equal.new.bank c.args.self.now c.equal.new.self (λ b. proving (tree b c.args.goal.0)) c.args.node.now node.Equal c.in-Equal.is
    (goes_beside c.equal.result _ _ _ c.equal.ensures.stays c.equal.ensures.equation (λ s q b g ns h. equated_goes b c.args.self.now ns (tree b c.args.goal.0) (q b g) (stays_left b c.args.self.now c.equal.new.self ns s h)))

pub returns-in-Arith-clause-goes : goal.returns-in-Arith-clause-goes
returns-in-Arith-clause-goes c =
    goes_as c.computed.result c.computed.new.bank c.args.self.now c.args.self.now (λ b. proving (tree b c.args.goal.0)) c.args.node.now node.Arith c.in-Arith.is
    (goes_where c.computed.result _ _ c.computed.ensures.arith (λ q b g ns h. counted_goes b c.args.self.now ns (tree b c.args.goal.0) (q b g) h))

pub returns-in-Back-clause-goes : goal.returns-in-Back-clause-goes
returns-in-Back-clause-goes c =
    goes_as c.back.result c.back.new.bank c.args.self.now c.back.new.self (λ b. proving (tree b c.args.goal.0)) c.args.node.now (node.Back c.in-Back.number c.in-Back.types) c.in-Back.is
    (subst (λ ts. IfOk c.back.result (λ turn. turn ≡ On → (b : Nodes) → Extends c.back.new.bank b → Goes b c.args.self.now c.back.new.self (proving (tree b c.args.goal.0)) (back_to c.in-Back.number (types_in b ts)))) c.as_slice.ensures.value c.back.ensures.goes)

pub returns-in-Conv-clause-turned : goal.returns-in-Conv-clause-turned
returns-in-Conv-clause-turned c = turned_as c.conv.result c.args.bank.now c.conv.new.bank c.args.self.now c.conv.new.self (λ b. proving (tree b c.args.goal.0)) c.args.node.now (node.Conv c.in-Conv.other) c.in-Conv.is _ _ c.conv.ensures.turned

pub returns-in-Some-clause-turned : goal.returns-in-Some-clause-turned
returns-in-Some-clause-turned c = turned_as c.witnessed.result c.args.bank.now c.witnessed.new.bank c.args.self.now c.witnessed.new.self (λ b. proving (tree b c.args.goal.0)) c.args.node.now (node.Some c.in-Some.value) c.in-Some.is _ _ c.witnessed.ensures.turned

pub returns-in-Back-clause-turned : goal.returns-in-Back-clause-turned
returns-in-Back-clause-turned c = turned_as c.back.result c.args.bank.now c.back.new.bank c.args.self.now c.back.new.self (λ b. proving (tree b c.args.goal.0)) c.args.node.now (node.Back c.in-Back.number c.in-Back.types) c.in-Back.is _ _
    (subst (λ ts. IfOk c.back.result (λ turn. IsReadyWork c.args.bank.now c.args.self.now → IsReady c.args.bank.now c.args.goal → AreInside
    (length c.args.bank.now.types) ts → IsTurned c.back.new.bank c.args.self.now c.back.new.self (λ b. proving (tree b c.args.goal.0))
    (λ b. back_to c.in-Back.number (types_in b ts)) turn)) c.as_slice.ensures.value c.back.ensures.turned)

pub returns-in-And-clause-turned : goal.returns-in-And-clause-turned
returns-in-And-clause-turned c = turned_as c.both.result c.args.bank.now c.args.bank.now c.args.self.now c.both.new.self (λ b. proving (tree b c.args.goal.0)) c.args.node.now node.And c.in-And.is _ _ (plainly c.both.result _ _ _ c.both.ensures.turned)

pub returns-in-Left-clause-turned : goal.returns-in-Left-clause-turned
returns-in-Left-clause-turned c = turned_as c.left.result c.args.bank.now c.args.bank.now c.args.self.now c.left.new.self (λ b. proving (tree b c.args.goal.0)) c.args.node.now node.Left c.in-Left.is _ _ (plainly c.left.result _ _ _ c.left.ensures.turned)

pub returns-in-Right-clause-turned : goal.returns-in-Right-clause-turned
returns-in-Right-clause-turned c = turned_as c.right.result c.args.bank.now c.args.bank.now c.args.self.now c.right.new.self (λ b. proving (tree b c.args.goal.0)) c.args.node.now node.Right c.in-Right.is _ _ (plainly c.right.result _ _ _ c.right.ensures.turned)

pub returns-in-All-clause-turned : goal.returns-in-All-clause-turned
returns-in-All-clause-turned c = turned_as c.for_all.result c.args.bank.now c.for_all.new.bank c.args.self.now c.for_all.new.self (λ b. proving (tree b c.args.goal.0)) c.args.node.now node.All c.in-All.is _ _ (plainly c.for_all.result _ _ _ c.for_all.ensures.turned)

pub returns-in-Assume-clause-turned : goal.returns-in-Assume-clause-turned
returns-in-Assume-clause-turned c = turned_as c.assume.result c.args.bank.now c.args.bank.now c.args.self.now c.assume.new.self (λ b. proving (tree b c.args.goal.0)) c.args.node.now node.Assume c.in-Assume.is _ _ (plainly c.assume.result _ _ _ c.assume.ensures.turned)

pub returns-in-Equal-clause-turned : goal.returns-in-Equal-clause-turned
returns-in-Equal-clause-turned c = turned_as c.equal.result c.args.bank.now c.equal.new.bank c.args.self.now c.equal.new.self (λ b. proving (tree b c.args.goal.0)) c.args.node.now node.Equal c.in-Equal.is _ _ (plainly c.equal.result _ _ _ c.equal.ensures.turned)

pub returns-in-True-clause-turned : goal.returns-in-True-clause-turned
returns-in-True-clause-turned c = turned_as (Ok c.turn_where.result) c.args.bank.now c.args.bank.now c.args.self.now c.args.self.now (λ b. proving (tree b c.args.goal.0)) c.args.node.now node.True c.in-True.is _ _ (λ w g u.
    where_turned (IsTurned c.args.bank.now c.args.self.now c.args.self.now (λ b. proving (tree b c.args.goal.0)) (λ b. trivial)) c.turn_where.result _ c.turn_where.ensures.on c.turn_where.ensures.no c.turn_where.ensures.deep
    (λ e. is_done c.args.bank.now c.args.bank.now c.args.self.now c.args.self.now c.args.self.now (λ b. proving (tree b c.args.goal.0)) (λ b. trivial) (extends_same c.args.bank.now) (as_it_is c.args.self.now) refl w (λ b h at. (c.is_trivial.ensures.yes e b h, at)))
    (λ e b h k. c.is_trivial.ensures.no e (subst (λ t. (t ≡ truth) ⊎ (t ≡ cut)) (h.same_terms c.args.goal.0 g.0) k.0)))

pub returns-in-Arith-clause-turned : goal.returns-in-Arith-clause-turned
returns-in-Arith-clause-turned c = turned_as c.computed.result c.args.bank.now c.computed.new.bank c.args.self.now _ (λ b. proving (tree b c.args.goal.0)) c.args.node.now node.Arith c.in-Arith.is _ _
    (computed_turned c.computed.result c.args.bank.now c.computed.new.bank c.args.self.now _ c.args.goal c.computed.ensures.kept (record { theory = refl; eigens = refl; assumed = refl; tasks = refl }) c.computed.ensures.decides)
