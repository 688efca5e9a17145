use Rattle.lp_sig.specs.Modules.{declarations}
use Rattle.lp_sig.specs.Types.{definitions_in}
use Rattle.lp_sig.specs.Said.{said_in}
use Rattle.std.proofs.Common.{map, sym, subst, ◌++◌}
use Rattle.lp_sig.specs.Abbreviations.{KnowsUses}
use Rattle.lp_lemmas.proofs.Results.{on_ok_always}
use Rattle.lp_term.specs.Nodes.{Extends}
use Rattle.lp_sig.specs.Sighted.{GrowsBehind}
use Rattle.lp_sig.proofs.KnownConstants.{grows_same}
use Rattle.lp_sig.proofs.module_text.announce_all.Goals as goal

pub returns-clause-grown : goal.returns-clause-grown
returns-clause-grown c = on_ok_always c.settle.result _ (record {
  bank = subst (λ t. Extends t.bank c.settle.new.self.types.bank) c.announce_module.ensures.types c.settle.ensures.kept;
  constants = subst (GrowsBehind c.args.making.now.constants) (sym c.announce_module.ensures.constants) (grows_same c.args.making.now.constants);
})

pub returns-clause-bodies : goal.returns-clause-bodies
returns-clause-bodies c = on_ok_always c.settle.result _ (λ said defs k b.
    let ds = declarations c.args.text.now.lines.items in
    let text = c.args.source.now in
    let known = c.in_ok-announce_module.ensures.bodies said defs k b in
    c.settle.ensures.bodies (said ++ said_in text ds) (defs ++ definitions_in text ds) (c.in_ok-announce_module.ensures.names said k) known.lines known.holds)

pub returns-clause-uses : goal.returns-clause-uses
returns-clause-uses c = on_ok_always c.settle.result _ (λ z k u. c.in_ok-note_module.ensures z (c.in_ok-announce_module.ensures.names z.said k)
    (subst (λ v. KnowsUses (map (λ out. out.items) v.ways.items) z) (sym c.announce_module.ensures.uses) u))
