use Rattle.std.proofs.Common.{◌≤◌, ◌<◌, ◌∙◌, length, ap, map, arith}
use Rattle.std.proofs.lemmas.Grind.{common_steps}
use Rattle.std.proofs.lemmas.List.{take_all}
use Rattle.lp_term.proofs.Trees.{extends_same, extends-trans}
use Rattle.lp_code.specs.Naming.{scheme_in}
use Rattle.lp_model.specs.Readings.{scheme_of}
use Rattle.lp_sig.specs.declared.entries.ConstantEntry.{ConstantEntry}
use Rattle.lp_build.proofs.Coding.{declared_more}
use Rattle.lp_build.proofs.objects.declared_of.Goals as goal

pub loop-entry-init : goal.loop-entry-init
loop-entry-init c = record {
  kept = extends_same c.args.bank.now;
  made = c.new-changed.ensures _ c.args.signature.now.bank c.args.bank.now;
  declared = λ later grown. ap (map (scheme_of later)) c.new-declared.ensures.items;
}

pub loop-entry-preserved : goal.loop-entry-preserved
loop-entry-preserved c =
    let l : c.loop-entry.entry-index < length c.constants-entries.result.now = grind (arith, common_steps) in
    record {
      kept = extends-trans _ _ _ c.loop-entry.invariant.kept c.in_ok-constant.ensures.kept;
      made = c.in_ok-constant.ensures.memo c.loop-entry.invariant.made;
      declared = λ later grown. declared_more c.args.signature.now.bank later c.constants-entries.result.now c.loop-entry.entry-index c.entry-item.result
          c.loop-entry.declared.items c.push.new.self.items c.in_ok-constant.constant l c.entry-item.is c.in_ok-push.ensures.items
          (c.in_ok-constant.ensures.scheme c.loop-entry.invariant.made later grown)
          (c.loop-entry.invariant.declared later (extends-trans _ _ _ c.in_ok-constant.ensures.kept grown));
    }

pub returns-clause-declared : goal.returns-clause-declared
returns-clause-declared c =
    let u : length c.constants-entries.result.now ≤ c.loop-entry.entry-index = grind (arith, common_steps) in
    c.loop-entry.invariant.declared c.loop-entry.bank (extends_same c.loop-entry.bank)
    ∙ ap (map (λ (e : ConstantEntry). scheme_in c.args.signature.now.bank e.type_vars e.scheme.0)) (take_all c.loop-entry.entry-index c.constants-entries.result.now u ∙ c.constants-entries.ensures)
