use Rattle.std.proofs.Common.{◌++◌, map, subst, take_all, arith}
use Rattle.lp_sig.specs.Said.{said_in}
use Rattle.lp_sig.specs.Modules.{declarations}
use Rattle.lp_sig.specs.Abbreviations.{KnowsUses, abbreviation_names}
use Rattle.lp_sig.specs.inner.Noting.{seen_lines}
use Rattle.lp_sig.proofs.SeenUses.{none_noted, next_noted, module_noted}
use Rattle.lp_sig.proofs.walk.Ways.note_module.Goals as goal

pub loop-at-init : goal.loop-at-init
loop-at-init c = λ z k u. none_noted (map (λ out. out.items) c.args.self.now.ways.items) (abbreviation_names (z.said ++ said_in c.args.source.now (declarations c.args.text.now.lines.items))) z c.args.source.now u

pub loop-at-preserved : goal.loop-at-preserved
loop-at-preserved c = λ z k u.
    let lines = c.args.text.now.lines.items in
    next_noted c.args.names.now z c.args.source.now lines c.loop-at.at c.index.result.now (map (λ out. out.items) c.loop-at.self.ways.items) (map (λ out. out.items) c.note_sentence.new.self.ways.items)
    (omega (arith, c.loop-at-test.true, c.len-at-end.ensures, c.args.text.now.lines.ok)) c.index.ensures k (c.loop-at.invariant z k u) c.in_ok-note_sentence.ensures

pub returns : goal.returns
returns c = λ z k u.
    let lines = c.args.text.now.lines.items in
    let ds = declarations lines in
    module_noted (map (λ out. out.items) c.loop-at.self.ways.items) z c.args.source.now ds
    (subst (λ ls. KnowsUses (map (λ out. out.items) c.loop-at.self.ways.items) (seen_lines (abbreviation_names (z.said ++ said_in c.args.source.now ds)) z c.args.source.now (declarations ls)))
    (take_all c.loop-at.at lines (omega (arith, c.loop-at-test.false, c.len-at-end.ensures, c.args.text.now.lines.ok))) (c.loop-at.invariant z k u))
