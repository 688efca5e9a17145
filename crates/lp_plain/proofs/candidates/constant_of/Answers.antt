use Rattle.lp_plain.specs.Candidates.{constant_at}
use Rattle.lp_plain.proofs.Scoped.{get_none}
use Rattle.std.proofs.Common.{◌≡◌, ap, sym, ◌∙◌}
use Rattle.lp_pattern.proofs.Names.{node_kind}
use Rattle.lp_plain.proofs.ListReads.{read_at}
use Rattle.lp_plain.proofs.Indexes.{none_read}
use Rattle.lp_plain.proofs.candidates.constant_of.Goals as goal

pub returns-in-App : goal.returns-in-App
returns-in-App c =
    let s = read_at c.args.rules.now.items c.deref.result.now c.args.number c.in-Some.rule.now _ c.deref.ensures.value c.in-Some.ensures.lookup.3.0 c.in-Some.ensures.lookup.1 in
    none_read c.args.bank.now c.args.rules.now.items c.args.number _ _ c.in-Some.rule.now c.term_node.result s c.term_node.ensures.older
    c.term_node.ensures.tree (λ q. let e : 8 ≡ 1 = ap node_kind (sym c.in-App.is) ∙ q in cc)

pub returns-in_default : goal.returns-in_default
returns-in_default c = sym (ap (constant_at c.args.bank.now) (get_none c.args.rules.now.items c.deref.result.now c.args.number c.deref.ensures.value c.in_default.ensures.lookup.3))
