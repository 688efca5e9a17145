use Rattle.std.proofs.Common.{◌∙◌, ◌*◌, ◌≤◌, ap, sym, subst, length, map, reverse, [], arith}
use Rattle.lp_lemmas.proofs.Results.{passed_up}
use Rattle.lp_copies.specs.Copies.{IsTooMany, IsOpened, IsClosed}
use Rattle.std.proofs.lemmas.List.{length_push}
use Rattle.lp_copies.proofs.Copied.{rows_are}
use Rattle.lp_copies.specs.Trees.{lists_in, frames_of, Turns, Moves}
use Rattle.lp_link.specs.Refusals.{refusal_of}
use Rattle.lp_link.specs.inner.Members.{IsCopiesRefusal}
use Rattle.lp_link.specs.inner.Entering.{ends_of}
use Rattle.lp_link.proofs.Refusing.{tree_told}
use Rattle.lp_link.proofs.MadeCopies.{member_at, coming_begins, coming_enters, coming_leaves, coming_ends}
use Rattle.lp_link.proofs.linking.make.Goals as goal

pub begin-requires : goal.begin-requires
begin-requires c = record {
  few = subst (λ m. length m.object.now.code.records.items ≤ 65535) (sym c.index-members-root.is)
      (c.requires.few c.args.root c.index-members-root.result (omega (arith, c.requires.root, c.requires.members)));
}

pub enter-requires : goal.enter-requires
enter-requires c =
    let turn = subst (Turns (lists_in c.args.uses.now.items) c.copies.copying c.go_on.new.self) c.in-Entered.is c.in_ok-at.ensures.turns in
    let n = rows_are c.args.uses.now.items in
    let l = turn.4 in
    record {
      few = subst (λ m. length m.object.now.code.records.items ≤ 65535) (sym c.index-members-at.is)
          (c.requires.few c.in-Entered.at c.index-members-at.result (omega (arith, l, n, c.requires.members)));
    }

pub leave-requires : goal.leave-requires
leave-requires c = c.copies.invariant.3

pub leave-requires-in-Ended : goal.leave-requires-in-Ended
leave-requires-in-Ended c = c.copies.invariant.3

pub copies-init : goal.copies-init
copies-init c = (
  c.new-copying.ensures.copying,
  c.new-copying.ensures.root,
  let e = ap length c.new-records.ensures.items in omega (arith, e),
  c.in_ok-making.ensures.few,
  λ cc below plan. coming_begins (map (λ m. m.object.now) c.args.members.now) c.args.root cc below c.index-members-root.result
      c.next_firsts-first.result c.in_ok-making.making c.in_ok-making.around.items (frames_of c.new-copying.result)
      c.new-records.result.items (map ends_of (reverse c.args.firsts.items)) (map ends_of (reverse c.next_firsts-first.new.firsts.items)) plan
      (member_at c.args.members.now c.args.root c.index-members-root.result (omega (arith, c.requires.root, c.requires.members))
      c.index-members-root.is) c.next_firsts-first.ensures c.in_ok-making.ensures.begun
      c.new-copying.ensures.frames c.new-records.ensures.items,
)

pub copies-preserved-in-Continue-branch-4 : goal.copies-preserved-in-Continue-branch-4
copies-preserved-in-Continue-branch-4 c =
    let uses = lists_in c.args.uses.now.items in
    let turn = subst (Turns uses c.copies.copying c.go_on.new.self) c.in-Entered.is c.in_ok-at.ensures.turns in
    let move = subst (Moves uses (frames_of c.copies.copying) (frames_of c.go_on.new.self)) c.in-Entered.is c.in_ok-at.ensures.moves in
    let n = rows_are c.args.uses.now.items in
    let l = turn.4 in (
      turn.0,
      turn.1 ∙ c.copies.invariant.1,
      subst (λ x. length c.copies.records.items ≤ 65535 * length x) (sym turn.3) c.copies.invariant.2,
      c.in_ok-enter-in-Entered.ensures.few c.copies.invariant.3,
      λ cc below plan. coming_enters (map (λ m. m.object.now) c.args.members.now) (map ends_of (reverse c.copies.coming.items)) cc below
          c.copies.making c.copies.records.items (frames_of c.copies.copying) (frames_of c.go_on.new.self)
          c.copies.around.items c.enter.new.around.items (map ends_of (reverse c.next_firsts-first-in-Entered.new.firsts.items)) c.in-Entered.at
          c.index-members-at.result c.next_firsts-first-in-Entered.result
          (subst (λ u. IsOpened u (frames_of c.copies.copying) c.in-Entered.at (frames_of c.go_on.new.self)) c.requires.uses move)
          (member_at c.args.members.now c.in-Entered.at c.index-members-at.result (omega (arith, l, n, c.requires.members)) c.index-members-at.is)
          c.next_firsts-first-in-Entered.ensures c.in_ok-enter-in-Entered.ensures.entered
          (c.copies.invariant.4 cc below plan),
    )

pub copies-preserved : goal.copies-preserved
copies-preserved c =
    let uses = lists_in c.args.uses.now.items in
    let turn = subst (Turns uses c.copies.copying c.go_on.new.self) c.in-Left.is c.in_ok-at.ensures.turns in
    let move = subst (Moves uses (frames_of c.copies.copying) (frames_of c.go_on.new.self)) c.in-Left.is c.in_ok-at.ensures.moves in
    let few = c.in_ok-leave-in-Left.ensures.few in
    let bound = c.copies.invariant.2 in
    let k = c.copies.invariant.0.count in
    let f = c.copies.invariant.0.few in (
      turn.0,
      turn.1 ∙ c.copies.invariant.1,
      subst (λ x. length c.leave.new.records.items ≤ 65535 * length x) (sym turn.3) (let l = length_push c.copies.copying.left.items c.in-Left.field-0 in omega (arith, few, bound, l)),
      c.in_ok-leave-in-Left.ensures.open,
      λ cc below plan. coming_leaves (map (λ m. m.object.now) c.args.members.now) (map ends_of (reverse c.copies.coming.items)) cc below
          c.copies.making c.copies.records.items (frames_of c.copies.copying) (frames_of c.go_on.new.self)
          c.copies.around.items c.leave.new.around.items c.in-Left.field-0 c.leave.new.making c.leave.new.records.items
          (subst (λ u. IsClosed u (frames_of c.copies.copying) c.in-Left.field-0 (frames_of c.go_on.new.self)) c.requires.uses move)
          (omega (arith, bound, k, f)) c.in_ok-leave-in-Left.ensures.left (c.copies.invariant.4 cc below plan),
    )

pub returns-in-Ended-clause-made : goal.returns-in-Ended-clause-made
returns-in-Ended-clause-made c =
    let uses = lists_in c.args.uses.now.items in
    let move = subst (Moves uses (frames_of c.copies.copying) (frames_of c.go_on.new.self)) c.in-Ended.is c.in_ok-at.ensures.moves in
    let bound = c.copies.invariant.2 in
    let k = c.copies.invariant.0.count in
    let f = c.copies.invariant.0.few in
    λ cc below plan. coming_ends (map (λ m. m.object.now) c.args.members.now) (map ends_of (reverse c.copies.coming.items)) cc below
    c.leave-in-Ended.new.making c.leave-in-Ended.new.records.items c.leave-in-Ended.new.around.items
    (coming_leaves (map (λ m. m.object.now) c.args.members.now) (map ends_of (reverse c.copies.coming.items)) cc below c.copies.making c.copies.records.items (frames_of c.copies.copying) []
    c.copies.around.items c.leave-in-Ended.new.around.items c.in-Ended.field-0 c.leave-in-Ended.new.making c.leave-in-Ended.new.records.items
    (subst (λ u. IsClosed u (frames_of c.copies.copying) c.in-Ended.field-0 []) c.requires.uses move) (omega (arith, bound, k, f))
    c.in_ok-leave-in-Ended.ensures.left (c.copies.invariant.4 cc below plan))

pub returns-in-Ended-clause-few : goal.returns-in-Ended-clause-few
returns-in-Ended-clause-few c =
    let turn = subst (Turns (lists_in c.args.uses.now.items) c.copies.copying c.go_on.new.self) c.in-Ended.is c.in_ok-at.ensures.turns in
    let few = c.in_ok-leave-in-Ended.ensures.few in
    let bound = c.copies.invariant.2 in
    let l = turn.1 in
    let e = ap length turn.2 in
    let n = length_push c.copies.copying.left.items c.in-Ended.field-0 in
    omega (arith, few, bound, l, e, n)

pub returns-in_err-at-clause-refused : goal.returns-in_err-at-clause-refused
returns-in_err-at-clause-refused c =
    passed_up c.from_residual-in_err-at.result (refusal_of c.in_err-at.field-0.0) (IsCopiesRefusal (lists_in c.args.uses.now.items) c.args.root) c.from_residual-in_err-at.ensures.1
    (tree_told (lists_in c.args.uses.now.items) c.args.root c.in_err-at.field-0.0 (subst
    (λ m. IsTooMany (lists_in c.args.uses.now.items) m c.in_err-at.field-0.0) c.copies.invariant.1 c.in_err-at.ensures.refused))
