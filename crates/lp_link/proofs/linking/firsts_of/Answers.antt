use Rattle.std.proofs.Common.{◌∙◌, ap, subst, map, reverse, [], ◌∷◌, ◌++◌, arith}
use Rattle.std.proofs.lemmas.List.{reverse-reverse}
use Rattle.lp_lemmas.proofs.Results.{passed_up}
use Rattle.lp_copies.specs.Copies.{IsTooMany}
use Rattle.lp_copies.specs.Trees.{lists_in, frames_of, Turns, Moves}
use Rattle.lp_link.specs.declared.names.Firsts.{Firsts}
use Rattle.lp_link.specs.Refusals.{refusal_of}
use Rattle.lp_link.specs.inner.Members.{IsCopiesRefusal}
use Rattle.lp_link.specs.inner.Entering.{begun, ends_of}
use Rattle.lp_link.proofs.Refusing.{tree_told}
use Rattle.lp_link.proofs.FilledFirsts.{filled_begins, filled_entered, filled_left, filled_last}
use Rattle.lp_link.proofs.linking.firsts_of.Goals as goal

abbrev unknown : Firsts
unknown = record { kind = 0; constant = 0 }

pub copies-init : goal.copies-init
copies-init c =
    let uses = lists_in c.args.uses.now.items in (
      c.new-copying.ensures.copying,
      c.new-copying.ensures.root,
      λ all end x few. filled_begins uses c.args.counts.now.hidden_kinds.items c.args.counts.now.hidden_constants.items c.args.root
          (begun c.args.begin) end (frames_of c.new-copying.result) (reverse c.push.new.self.items)
          (map ends_of c.push-2.new.self.items) all (ends_of unknown) c.new-copying.ensures.frames (ap reverse (c.in_ok-push.ensures.items ∙ ap (λ l. l ++ 0 ∷ []) c.new-inside.ensures.items))
          (ap (map ends_of) (c.in_ok-push-2.ensures.items ∙ ap (λ l. l ++ unknown ∷ []) c.new-firsts.ensures.items)) x,
    )

pub copies-preserved-in-Continue-branch-6 : goal.copies-preserved-in-Continue-branch-6
copies-preserved-in-Continue-branch-6 c =
    let uses = lists_in c.args.uses.now.items in
    let turn = subst (Turns uses c.copies.copying c.go_on.new.self) c.in-Entered.is c.in_ok-go_on.ensures.turns in
    let move = subst (Moves uses (frames_of c.copies.copying) (frames_of c.go_on.new.self)) c.in-Entered.is c.in_ok-go_on.ensures.moves in (
      turn.0,
      turn.1 ∙ c.copies.invariant.1,
      λ all end x few. filled_entered uses c.args.counts.now.hidden_kinds.items c.args.counts.now.hidden_constants.items c.in-Entered.field-0
          (begun c.copies.ends) end (frames_of c.copies.copying) (frames_of c.go_on.new.self)
          c.copies.inside.items c.push-in-Entered.new.self.items c.len.result c.copies.firsts.items c.push-in-Entered-2.new.self.items unknown all move
          c.in_ok-push-in-Entered.ensures.items (omega (arith, c.len.ensures, c.copies.firsts.ok)) c.in_ok-push-in-Entered-2.ensures.items (c.copies.invariant.2 all end x few),
    )

pub copies-preserved : goal.copies-preserved
copies-preserved c =
    let uses = lists_in c.args.uses.now.items in
    let turn = subst (Turns uses c.copies.copying c.go_on.new.self) c.in-Left.is c.in_ok-go_on.ensures.turns in
    let move = subst (Moves uses (frames_of c.copies.copying) (frames_of c.go_on.new.self)) c.in-Left.is c.in_ok-go_on.ensures.moves in (
      turn.0,
      turn.1 ∙ c.copies.invariant.1,
      λ all end x few. filled_left uses c.args.counts.now.hidden_kinds.items c.args.counts.now.hidden_constants.items c.in-Left.at c.copies.ends
          c.behind-ends.result c.numbers.result end (frames_of c.copies.copying) (frames_of c.go_on.new.self)
          c.copies.inside.items c.fill.new.inside.items c.copies.firsts.items c.fill.new.firsts.items all move few c.numbers.ensures.kind
          c.numbers.ensures.constant c.behind-ends.ensures.kind c.behind-ends.ensures.constant
          c.fill.ensures (c.copies.invariant.2 all end x few),
    )

pub returns-in-Ended-clause-firsts : goal.returns-in-Ended-clause-firsts
returns-in-Ended-clause-firsts c =
    let uses = lists_in c.args.uses.now.items in
    let turn = subst (Turns uses c.copies.copying c.go_on.new.self) c.in-Ended.is c.in_ok-go_on.ensures.turns in
    let move = subst (Moves uses (frames_of c.copies.copying) (frames_of c.go_on.new.self)) c.in-Ended.is c.in_ok-go_on.ensures.moves in
    λ all end x few. ap (λ l. map ends_of (reverse l)) c.reverse.ensures.items ∙ ap (map ends_of) (reverse-reverse c.fill-in-Ended.new.firsts.items)
    ∙ filled_last uses c.args.counts.now.hidden_kinds.items c.args.counts.now.hidden_constants.items c.in-Ended.field-0 c.copies.ends
    c.numbers-in-Ended.result end (frames_of c.copies.copying) c.copies.inside.items c.fill-in-Ended.new.inside.items
    c.copies.firsts.items c.fill-in-Ended.new.firsts.items all move few c.numbers-in-Ended.ensures.kind c.numbers-in-Ended.ensures.constant c.fill-in-Ended.ensures (c.copies.invariant.2 all end x few)

pub returns-in_err-go_on-clause-refused : goal.returns-in_err-go_on-clause-refused
returns-in_err-go_on-clause-refused c =
    passed_up c.from_residual-in_err-go_on.result (refusal_of c.in_err-go_on.field-0.0) (IsCopiesRefusal (lists_in c.args.uses.now.items) c.args.root) c.from_residual-in_err-go_on.ensures.1
    (tree_told (lists_in c.args.uses.now.items) c.args.root c.in_err-go_on.field-0.0 (subst
    (λ m. IsTooMany (lists_in c.args.uses.now.items) m c.in_err-go_on.field-0.0) c.copies.invariant.1 c.in_err-go_on.ensures.refused))
