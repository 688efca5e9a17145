use Rattle.std.proofs.Common.{◌≡◌, ◌∙◌, length, map, ap, arith, add-one}
use Rattle.lp_term.specs.Nodes.{tree}
use Rattle.lp_term.proofs.Trees.{extends_same, extends-trans}
use Rattle.lp_model.specs.Search.{vars_from}
use Rattle.lp_plain.proofs.SlotValues.{longer}
use Rattle.lp_plain.proofs.Starts.{variables_within, variables_more}
use Rattle.lp_lemmas.proofs.Elements.{All_empty}
use Rattle.lp_term.specs.Within.{IsTermOf}
use Rattle.lp_plain.proofs.start.query_variables.Goals as goal

pub numbers-init : goal.numbers-init
numbers-init c =
    let e = c.new-variables.ensures.items in
    let b = c.args.bank.now in
    record { kept = extends_same b; count = ap length e; within = All_empty (IsTermOf b) _ e; trees = ap (map (λ t. tree b t.0)) e }

pub numbers-preserved : goal.numbers-preserved
numbers-preserved c =
    let I = c.numbers.invariant in
    let a = c.args.bank.now in
    let b = c.numbers.bank in
    let d = c.put_logic.new.bank in
    let p = c.in_ok-put_logic.ensures in
    let l = c.in_ok-push.ensures.items in
    record {
      kept = extends-trans a b d I.kept p.kept;
      count = longer c.numbers.variables.items c.push.new.self.items _ c.numbers.number l I.count;
      within = variables_within b d c.numbers.variables.items c.push.new.self.items _ p.kept l I.within p.within;
      trees = variables_more b d c.numbers.variables.items c.push.new.self.items _ c.numbers.number _ p.kept l I.within I.trees p.tree (add-one c.numbers.number);
    }

pub returns-clause-trees : goal.returns-clause-trees
returns-clause-trees c =
    let e : c.numbers.number ≡ c.args.count = omega (arith, c.numbers-test.false, c.numbers.auto.number-end) in
    c.numbers.invariant.trees ∙ ap (λ n. vars_from n 0) e
