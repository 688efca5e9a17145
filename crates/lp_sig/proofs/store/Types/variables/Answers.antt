use Rattle.std.proofs.Common.{◌∙◌, ◌++◌, ◌∷◌, [], ap, arith}
use Rattle.std.proofs.lemmas.List.{nil_from_length}
use Rattle.lp_term.specs.Nodes.{type_tree}
use Rattle.lp_sig.specs.Schemes.{first_variables}
use Rattle.lp_sig.proofs.Copies.{type_taken}
use Rattle.lp_sig.proofs.Meetings.{walk_begins, next_taken, walk_ends}
use Rattle.lp_sig.proofs.store.Types.variables.Goals as goal

pub types-init : goal.types-init
types-init c = walk_begins c.args.self.now.bank c.new-found.result.keys c.new-seen.result.keys c.push.new.self.items c.args.body c.new-found.ensures.empty c.new-seen.ensures.empty (c.in_ok-push.ensures.items ∙ ap (λ w. w ++ c.args.body ∷ []) c.new-work.ensures.items)

pub types-preserved : goal.types-preserved
types-preserved c =
    let all = first_variables (type_tree c.args.self.now.bank c.args.body.0) in
    c.in_ok-look.ensures.on_way all (next_taken c.args.self.now.bank c.types.found.keys c.types.seen.keys all c.types.work.items c.pop.new.self.items c.in-Some.id c.in-Some.ensures.items c.types.invariant)

pub types-smaller : goal.types-smaller
types-smaller c = type_taken c.args.self.now.bank c.types.work.items c.pop.new.self.items c.look.new.work.items c.in-Some.id c.in-Some.ensures.items c.in_ok-look.ensures.falls

pub returns : goal.returns
returns c =
    let all = first_variables (type_tree c.args.self.now.bank c.args.body.0) in
    let none = nil_from_length c.types.work.items (omega (arith, c.in_default.ensures.cases.0, c.types.work.ok)) in
    c.in_ok-list.ensures.items ∙ c.as_slice.ensures.keys ∙ walk_ends c.args.self.now.bank c.types.found.keys c.types.seen.keys all c.types.work.items none c.types.invariant
