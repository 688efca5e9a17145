use Rattle.std.proofs.Common.{ap, reverse}
use Rattle.lp_unify.proofs.TypeCells.{split_even, split_other, split_uneven, split_arrows}
use Rattle.lp_unify.proofs.types.split.Goals.{then-c-d-via-then-c-d, then-c-d-via-else-c-d+then-lefts-rights}
use Rattle.lp_unify.proofs.types.split.Goals as goal

pub returns-then-c-d : goal.returns-then-c-d
returns-then-c-d c = λ h g v w A B r q. elim c.then-c-d.branch [
  | then-c-d-via-then-c-d d ↦ split_other c.args.store.now c.args.one.0 c.args.other.0 c.in-TypeCon.c c.in-TypeCon-read.d c.in-TypeCon.types c.in-TypeCon-read.others A B c.in-TypeCon.ensures.cell c.in-TypeCon-read.ensures.cell d.if-c-d.true r q
  | then-c-d-via-else-c-d+then-lefts-rights d ↦ split_uneven c.args.store.now c.args.one.0 c.args.other.0 c.in-TypeCon.c c.in-TypeCon-read.d c.in-TypeCon.types c.in-TypeCon-read.others c.items-lefts.result.now c.items-rights.result.now A B
      c.in-TypeCon.ensures.cell c.in-TypeCon-read.ensures.cell c.items-lefts.ensures.items c.items-rights.ensures.items d.if-c-d.false d.if-lefts-rights.true r q
]

pub returns-in_ok-push_type_pairs-in-TypeCon-read : goal.returns-in_ok-push_type_pairs-in-TypeCon-read
returns-in_ok-push_type_pairs-in-TypeCon-read c = λ h g v w A B r q.
    split_even c.args.store.now c.args.one.0 c.args.other.0 c.in-TypeCon.c c.in-TypeCon-read.d c.in-TypeCon.types c.in-TypeCon-read.others c.items-lefts.result.now c.items-rights.result.now A B (reverse c.args.todo.now.items) (reverse c.push_type_pairs.new.todo.items)
    c.in-TypeCon.ensures.cell c.in-TypeCon-read.ensures.cell c.items-lefts.ensures.items c.items-rights.ensures.items c.if-c-d.false c.if-lefts-rights.false c.in_ok-push_type_pairs-in-TypeCon-read.ensures r q

pub returns-in_ok-push-in-TypeArrow-read-2 : goal.returns-in_ok-push-in-TypeArrow-read-2
returns-in_ok-push-in-TypeArrow-read-2 c = λ h g v w A B r q.
    split_arrows c.args.store.now c.args.one.0 c.args.other.0 c.in-TypeArrow.a c.in-TypeArrow.b c.in-TypeArrow-read.c c.in-TypeArrow-read.d A B c.args.todo.now.items c.push.new.self.items c.push-in-TypeArrow-read.new.self.items
    c.in-TypeArrow.ensures.cell c.in-TypeArrow-read.ensures.cell c.in_ok-push-in-TypeArrow-read.ensures.items c.in_ok-push-in-TypeArrow-read-2.ensures.items r q
