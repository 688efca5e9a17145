use Rattle.std.proofs.Common.{◌-◌, ◌∙◌, ◌++◌, ◌∷◌, [], sym, ap, subst, arith, length, reverse}
use Rattle.std.specs.Prelude.{option_to_list, slice_get}
use Rattle.std.proofs.lemmas.List.{length-map}
use Rattle.lp_lemmas.proofs.Results.{passed_up}
use Rattle.lp_copies.specs.Trees.{lists_in, frames_of, Turns, Moves}
use Rattle.lp_link.specs.inner.Members.{AreSameMembers, IsCompareRefusal, IsOtherMember}
use Rattle.lp_link.proofs.Edges.{comparing_begins, comparing_opens, comparing_closes, some_open, last_is, some_same, some_is, refused_first, all_compared}
use Rattle.lp_link.proofs.linking.compare.Goals as goal

pub copies-init : goal.copies-init
copies-init c = (
  c.new-copying.ensures.copying,
  c.new-copying.ensures.root,
  comparing_begins c.args.members.now (lists_in c.args.uses.now.items) c.args.root (frames_of c.new-copying.result) c.push.new.self.items
      c.new-copying.ensures.frames (c.in_ok-push.ensures.items ∙ ap (λ l. l ++ c.args.root ∷ []) c.new-around.ensures.items),
  c.new-compared.ensures c.args.members.now,
)

pub copies-preserved-in-Continue-branch-4 : goal.copies-preserved-in-Continue-branch-4
copies-preserved-in-Continue-branch-4 c =
    let uses = lists_in c.args.uses.now.items in
    let turn = subst (Turns uses c.copies.copying c.go_on.new.self) c.in-Entered.is c.in_ok-at.ensures.turns in
    let move = subst (Moves uses (frames_of c.copies.copying) (frames_of c.go_on.new.self)) c.in-Entered.is c.in_ok-at.ensures.moves in (
      turn.0,
      turn.1 ∙ c.copies.invariant.1,
      comparing_opens c.args.members.now uses c.args.root (frames_of c.copies.copying) (frames_of c.go_on.new.self) c.copies.around.items
          c.push-in-Entered.new.self.items c.in-Entered.at move c.in_ok-push-in-Entered.ensures.items c.copies.invariant.2,
      c.copies.invariant.3,
    )

pub returns-in_err-compare-in-Left-clause-refused : goal.returns-in_err-compare-in-Left-clause-refused
returns-in_err-compare-in-Left-clause-refused c =
    let w = c.go_on.new.self in
    let uses = lists_in c.args.uses.now.items in
    let move = subst (Moves uses (frames_of c.copies.copying) (frames_of w)) c.in-Left.is c.in_ok-at.ensures.moves in
    let now = c.copies.invariant.2 in
    let n = some_open c.args.members.now uses c.args.root (frames_of c.copies.copying) c.in-Left.at (w.at, w.next) (reverse w.around.items) move c.copies.around.items now in
    let p = c.pop-copy.ensures.items ∙ ap (λ o. c.pop-copy.new.self.items ++ option_to_list o) (c.pop-copy.ensures.value 0 (omega (arith, n, c.copies.around.ok))) in
    let last = last_is c.args.members.now uses c.args.root (frames_of c.copies.copying) c.in-Left.at (w.at, w.next) (reverse w.around.items) move
    c.copies.around.items now c.pop-copy.new.self.items _ c.copied.result p
    (c.copied.ensures ∙ c.last.ensures.value ∙ ap (λ l. slice_get l (length l - 1)) c.deref.ensures.value) in
    let above = some_same c.in-Some.above w.at (sym c.in-Some.is ∙ last) in
    passed_up c.from_residual-in_err-compare-in-Left.result c.in_err-compare-in-Left.field-0.0 (IsCompareRefusal c.args.members.now uses c.args.root) c.from_residual-in_err-compare-in-Left.ensures.1
    (refused_first c.args.members.now uses c.args.root (frames_of c.copies.copying) c.in-Left.at (w.at, w.next) (reverse w.around.items) move
    c.copies.around.items now c.in_err-compare-in-Left.field-0.0
    (subst (λ a. IsOtherMember c.args.members.now c.in-Left.at a c.in_err-compare-in-Left.field-0.0) above c.in_err-compare-in-Left.ensures.refused))

pub copies-preserved-in-Continue-branch-5 : goal.copies-preserved-in-Continue-branch-5
copies-preserved-in-Continue-branch-5 c =
    let w = c.go_on.new.self in
    let uses = lists_in c.args.uses.now.items in
    let move = subst (Moves uses (frames_of c.copies.copying) (frames_of w)) c.in-Left.is c.in_ok-at.ensures.moves in
    let now = c.copies.invariant.2 in
    let n = some_open c.args.members.now uses c.args.root (frames_of c.copies.copying) c.in-Left.at (w.at, w.next) (reverse w.around.items) move c.copies.around.items now in
    let p = c.pop-copy.ensures.items ∙ ap (λ o. c.pop-copy.new.self.items ++ option_to_list o) (c.pop-copy.ensures.value 0 (omega (arith, n, c.copies.around.ok))) in
    let last = last_is c.args.members.now uses c.args.root (frames_of c.copies.copying) c.in-Left.at (w.at, w.next) (reverse w.around.items) move
    c.copies.around.items now c.pop-copy.new.self.items _ c.copied.result p
    (c.copied.ensures ∙ c.last.ensures.value ∙ ap (λ l. slice_get l (length l - 1)) c.deref.ensures.value) in
    let turn = subst (Turns uses c.copies.copying w) c.in-Left.is c.in_ok-at.ensures.turns in
    let above = some_same c.in-Some.above w.at (sym c.in-Some.is ∙ last) in (
      turn.0,
      turn.1 ∙ c.copies.invariant.1,
      comparing_closes c.args.members.now uses c.args.root (frames_of c.copies.copying) c.in-Left.at (w.at, w.next) (reverse w.around.items) move
          c.copies.around.items now c.pop-copy.new.self.items _ p
          (subst (λ a. AreSameMembers c.args.members.now (c.in-Left.at, a)) above c.in_ok-compare-in-Left.ensures.same),
      c.in_ok-compare-in-Left.ensures.compared,
    )

pub copies-preserved : goal.copies-preserved
copies-preserved c =
    let w = c.go_on.new.self in
    let uses = lists_in c.args.uses.now.items in
    let move = subst (Moves uses (frames_of c.copies.copying) (frames_of w)) c.in-Left.is c.in_ok-at.ensures.moves in
    let now = c.copies.invariant.2 in
    let n = some_open c.args.members.now uses c.args.root (frames_of c.copies.copying) c.in-Left.at (w.at, w.next) (reverse w.around.items) move c.copies.around.items now in
    let p = c.pop-copy.ensures.items ∙ ap (λ o. c.pop-copy.new.self.items ++ option_to_list o) (c.pop-copy.ensures.value 0 (omega (arith, n, c.copies.around.ok))) in
    let last = last_is c.args.members.now uses c.args.root (frames_of c.copies.copying) c.in-Left.at (w.at, w.next) (reverse w.around.items) move
    c.copies.around.items now c.pop-copy.new.self.items _ c.copied.result p
    (c.copied.ensures ∙ c.last.ensures.value ∙ ap (λ l. slice_get l (length l - 1)) c.deref.ensures.value) in
    let turn = subst (Turns uses c.copies.copying w) c.in-Left.is c.in_ok-at.ensures.turns in
    absurd (some_is w.at (sym c.in_default.is ∙ last))

pub compare-requires-clause-above : goal.compare-requires-clause-above
compare-requires-clause-above c =
    let w = c.go_on.new.self in
    let uses = lists_in c.args.uses.now.items in
    let move = subst (Moves uses (frames_of c.copies.copying) (frames_of w)) c.in-Left.is c.in_ok-at.ensures.moves in
    let now = c.copies.invariant.2 in
    let n = some_open c.args.members.now uses c.args.root (frames_of c.copies.copying) c.in-Left.at (w.at, w.next) (reverse w.around.items) move c.copies.around.items now in
    let p = c.pop-copy.ensures.items ∙ ap (λ o. c.pop-copy.new.self.items ++ option_to_list o) (c.pop-copy.ensures.value 0 (omega (arith, n, c.copies.around.ok))) in
    let last = last_is c.args.members.now uses c.args.root (frames_of c.copies.copying) c.in-Left.at (w.at, w.next) (reverse w.around.items) move
    c.copies.around.items now c.pop-copy.new.self.items _ c.copied.result p
    (c.copied.ensures ∙ c.last.ensures.value ∙ ap (λ l. slice_get l (length l - 1)) c.deref.ensures.value) in
    let turn = subst (Turns uses c.copies.copying w) c.in-Left.is c.in_ok-at.ensures.turns in
    let above = some_same c.in-Some.above w.at (sym c.in-Some.is ∙ last) in
    let inside = turn.0.within 0 (w.at, w.next) (omega arith) in
    let counts = length-map c.args.uses.now.items (λ o. o.items) in
    omega (arith, inside, counts, c.requires.members, above)

pub returns-in-Ended-clause-same : goal.returns-in-Ended-clause-same
returns-in-Ended-clause-same c =
    let uses = lists_in c.args.uses.now.items in
    let move = subst (Moves uses (frames_of c.copies.copying) (frames_of c.go_on.new.self)) c.in-Ended.is c.in_ok-at.ensures.moves in
    all_compared c.args.members.now uses c.args.root (frames_of c.copies.copying) c.in-Ended.field-0 c.copies.around.items move c.copies.invariant.2
