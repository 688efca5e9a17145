use Rattle.std.proofs.Common.{◌+◌, length, subst}
use Rattle.lp_term.proofs.Trees.{extends_same}
use Rattle.lp_plain.specs.inner.Building.{IsAtomNode}
use Rattle.lp_plain.proofs.Fed.{atom_node, fed_abstraction, fed_application, fed_leaf}
use Rattle.std.proofs.Common.{refl, arith}
use Rattle.lp_plain.proofs.Instances.{visited_shared, visited_atom, visited_index, opened_application, opened_abstraction}
use Rattle.lp_plain.specs.Renewal.{renewing}
use Rattle.lp_plain.proofs.RenewedTypes.{renewing_none}
use Rattle.lp_plain.proofs.instance.visit.Goals as goal

pub returns-then-is_known_below-clause-moves : goal.returns-then-is_known_below-clause-moves
returns-then-is_known_below-clause-moves c = λ nb nv vs w σ s.
    visited_shared (length vs) σ (renewing c.args.values.types) c.args.bank.now c.args.tasks.now.items c.args.id c.args.depth c.args.made.now.items _
    (renewing_none c.args.values.types c.if-values-eq0.true) (c.if-is_known_below.ensures refl) c.in_ok-push.ensures.items

pub returns-in_ok-push-in-Index-clause-moves : goal.returns-in_ok-push-in-Index-clause-moves
returns-in_ok-push-in-Index-clause-moves c = λ nb nv vs w σ s.
    visited_index (length vs) σ (renewing c.args.values.types) c.args.bank.now c.args.tasks.now.items c.args.id c.value_of-new.result c.in-Index.at
    c.args.depth vs c.args.made.now.items _ c.in-Index.ensures.tree s
    c.value_of-new.ensures.bound (λ h. c.value_of-new.ensures.value h nb nv vs w) refl c.in_ok-push-in-Index.ensures.items

pub returns-in_ok-push-in-Abs-2-clause-moves : goal.returns-in_ok-push-in-Abs-2-clause-moves
returns-in_ok-push-in-Abs-2-clause-moves c = λ nb nv vs w σ s.
    opened_abstraction (length vs) σ (renewing c.args.values.types) c.args.bank.now c.args.tasks.now.items _ _ c.args.id c.args.depth
    (c.args.depth + 1) c.args.made.now.items c.in-Abs.body c.in-Abs.ensures.node c.in-Abs.ensures.tree
    c.in-Abs.ensures.older (omega arith) c.in_ok-push-in-Abs.ensures.items c.in_ok-push-in-Abs-2.ensures.items

pub returns-in_ok-push-in-App-2-clause-moves : goal.returns-in_ok-push-in-App-2-clause-moves
returns-in_ok-push-in-App-2-clause-moves c = λ nb nv vs w σ s.
    opened_application (length vs) σ (renewing c.args.values.types) c.args.bank.now c.args.tasks.now.items _ _ _ c.args.id c.args.depth
    c.args.made.now.items c.in-App.head c.in-App.args.now c.in-App.ensures.node c.in-App.ensures.tree
    c.in-App.ensures.older.0 c.in-App.ensures.older.1 c.in_ok-push-in-App.ensures.items c.in_ok-push_visits-in-App.ensures c.in_ok-push-in-App-2.ensures.items

pub returns-in_ok-push-in_default : goal.returns-in_ok-push-in_default
returns-in_ok-push-in_default c = record {
  kept = c.in_ok-new-in_default.ensures.kept;
  fed = fed_leaf c.args.bank.now c.renewed_atom.new.bank c.in_ok-new-in_default.ensures.kept c.args.id c.args.depth c.args.tasks.now.items
      c.args.made.now.items _ c.in_ok-new-in_default.new c.requires c.in_ok-push-in_default.ensures.items;
  moves = λ nb nv vs w σ s.
      visited_atom (length vs) σ (renewing c.args.values.types) c.args.bank.now c.renewed_atom.new.bank c.args.tasks.now.items c.args.id
      c.in_ok-new-in_default.new c.args.depth c.args.made.now.items _ c.in_ok-new-in_default.ensures.kept
      c.in_ok-new-in_default.ensures.within c.in_ok-new-in_default.ensures.renewed c.in_ok-push-in_default.ensures.items;
}

pub returns-then-is_known_below-clause-fed : goal.returns-then-is_known_below-clause-fed
returns-then-is_known_below-clause-fed c =
    fed_leaf c.args.bank.now c.args.bank.now (extends_same c.args.bank.now) c.args.id c.args.depth c.args.tasks.now.items c.args.made.now.items _ c.args.id c.requires c.in_ok-push.ensures.items

pub returns-in_ok-push-in-Index-clause-fed : goal.returns-in_ok-push-in-Index-clause-fed
returns-in_ok-push-in-Index-clause-fed c =
    fed_leaf c.args.bank.now c.args.bank.now (extends_same c.args.bank.now) c.args.id c.args.depth c.args.tasks.now.items c.args.made.now.items _
    c.value_of-new.result c.requires c.in_ok-push-in-Index.ensures.items

pub returns-in_ok-push-in-Abs-2-clause-fed : goal.returns-in_ok-push-in-Abs-2-clause-fed
returns-in_ok-push-in-Abs-2-clause-fed c =
    fed_abstraction c.args.bank.now c.args.id c.in-Abs.body c.args.depth (c.args.depth + 1) c.args.tasks.now.items _ _ (length c.args.made.now.items)
    c.in-Abs.ensures.node c.in-Abs.ensures.tree c.in-Abs.ensures.older (omega arith)
    c.in_ok-push-in-Abs.ensures.items c.in_ok-push-in-Abs-2.ensures.items c.requires

pub returns-in_ok-push-in-App-2-clause-fed : goal.returns-in_ok-push-in-App-2-clause-fed
returns-in_ok-push-in-App-2-clause-fed c =
    fed_application c.args.bank.now c.args.id c.in-App.head c.in-App.args.now c.args.depth c.args.tasks.now.items _ _ _ (length c.args.made.now.items)
    c.in-App.ensures.node c.in-App.ensures.tree c.in-App.ensures.older.0
    c.in-App.ensures.older.1 c.in-App.ensures.older.2 c.in_ok-push-in-App.ensures.items c.in_ok-push_visits-in-App.ensures c.in_ok-push-in-App-2.ensures.items c.requires

pub renewed_atom-requires : goal.renewed_atom-requires
renewed_atom-requires c = subst IsAtomNode c.term_node.ensures.node (atom_node c.term_node.result c.in_default.not-Index c.in_default.not-Abs c.in_default.not-App)
