use Rattle.std.proofs.Common.{◌∙◌, ◌∷◌, [], length, ap, sym}
use Rattle.lp_verify.proofs.LooseSeen.{merged_is, merged_none, has_clash, closed_right, closed_left, all_on_left, all_on_right, joined_put}
use Rattle.lp_verify.proofs.loose.Lists.joined.Goals as goal

pub returns-then-closed_right-clause-joined : goal.returns-then-closed_right-clause-joined
returns-then-closed_right-clause-joined c = λ k ts us a b. closed_right k c.args.self.now c.args.left c.args.right ts us a b (sym c.is_closed-closed_right.ensures ∙ c.if-closed_right.true)

pub returns-then-closed_left-clause-joined : goal.returns-then-closed_left-clause-joined
returns-then-closed_left-clause-joined c = λ k ts us a b. closed_left k c.args.self.now c.args.left c.args.right ts us a b (sym c.is_closed-closed_left.ensures ∙ c.if-closed_left.true)

pub returns-then-only_left-clause-joined : goal.returns-then-only_left-clause-joined
returns-then-only_left-clause-joined c = λ k ts us a b.
    let l = c.args.self.now in
    let x = c.args.left in
    let y = c.args.right in
    let v = c.in-Some.merged in
    all_on_left k l x y ts us a b v.items (merged_is l x y c.entries-on_left.result.now c.entries-on_right.result.now c.in_ok-merged.field-0 v c.entries-on_left.ensures c.entries-on_right.ensures c.in_ok-merged.ensures c.in-Some.is)
    (sym (c.len.ensures ∙ v.ok.0) ∙ c.if-only_left.true ∙ ap length c.entries-on_left.ensures)

pub returns-then-only_right-clause-joined : goal.returns-then-only_right-clause-joined
returns-then-only_right-clause-joined c = λ k ts us a b.
    let l = c.args.self.now in
    let x = c.args.left in
    let y = c.args.right in
    let v = c.in-Some.merged in
    all_on_right k l x y ts us a b v.items (merged_is l x y c.entries-on_left.result.now c.entries-on_right.result.now c.in_ok-merged.field-0 v c.entries-on_left.ensures c.entries-on_right.ensures c.in_ok-merged.ensures c.in-Some.is)
    (sym (c.len-2.ensures ∙ v.ok.0) ∙ c.if-only_right.true ∙ ap length c.entries-on_right.ensures)

pub returns-clause-joined : goal.returns-clause-joined
returns-clause-joined c = λ k ts us a b.
    let l = c.args.self.now in
    let x = c.args.left in
    let y = c.args.right in
    let v = c.in-Some.merged in
    joined_put k l x y ts us a b c.put.new.self v c.in_ok-put.put (merged_is l x y c.entries-on_left.result.now c.entries-on_right.result.now c.in_ok-merged.field-0 v c.entries-on_left.ensures c.entries-on_right.ensures c.in_ok-merged.ensures c.in-Some.is)
    c.in_ok-put.ensures.lists c.in_ok-put.ensures.put

pub returns-clause-grow : goal.returns-clause-grow
returns-clause-grow c = (c.in-Some.merged ∷ [], c.in_ok-put.ensures.lists)

pub returns-in_default-clause-joined : goal.returns-in_default-clause-joined
returns-in_default-clause-joined c = λ k ts us a b.
    let l = c.args.self.now in
    let x = c.args.left in
    let y = c.args.right in
    has_clash k l x y ts us a b (merged_none l x y c.entries-on_left.result.now c.entries-on_right.result.now c.in_ok-merged.field-0 c.entries-on_left.ensures c.entries-on_right.ensures c.in_ok-merged.ensures c.in_default.is)
