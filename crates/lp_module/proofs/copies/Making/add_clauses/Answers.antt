use Rattle.std.proofs.Common.{refl, [], arith}
use Rattle.lp_term.proofs.Trees.{extends_same, extends-trans}
use Rattle.lp_model.specs.declared.program.ClauseFormula as code
use Rattle.lp_module.specs.Program.{map_of}
use Rattle.lp_module.specs.inner.Assembling.{copy_of}
use Rattle.lp_module.proofs.Adding.{is_map, clause_made, clause_next, clauses_none, clauses_all}
use Rattle.lp_module.proofs.Tabled.{adds_none, adds_more, with_clauses, clauses_add}
use Rattle.lp_module.proofs.copies.Making.add_clauses.Goals as goal

pub loop-at-init : goal.loop-at-init
loop-at-init c = ((λ x. x), refl, extends_same c.args.self.now.bank, c.new-terms.ensures (map_of (copy_of 0 c.args.copy.now)) c.args.copy.now.module.now.bank c.args.self.now.bank, clauses_none c.args.self.now c.args.copy.now, adds_none c.args.self.now)

pub loop-at-preserved : goal.loop-at-preserved
loop-at-preserved c =
    let m = map_of (copy_of 0 c.args.copy.now) in
    let is = is_map c.args.copy.now c.args.copy.now.module.now.bank c.loop-at.self.bank in
    let f = c.in_ok-formula.ensures.made m is c.loop-at.invariant.3 in
    let k : code.ClauseFormula = record { type_vars = c.index-clause.result.now.type_vars; formula = c.in_ok-formula.formula } in (
      clause_made c.args.self.now c.loop-at.self c.copy.new.to c.push.new.self c.args.copy.now c.index-clause.result.now k c.loop-at.at c.copy.ensures.kept c.in_ok-push.ensures.items c.in_ok-formula.ensures.within c.loop-at.invariant.0,
      c.loop-at.invariant.1,
      extends-trans c.args.self.now.bank c.loop-at.self.bank c.copy.new.to c.loop-at.invariant.2 c.copy.ensures.kept,
      c.in_ok-formula.ensures.memo m is c.loop-at.invariant.3,
      clause_next c.args.self.now c.loop-at.self c.copy.new.to c.push.new.self c.args.copy.now c.index-clause.result.now k c.loop-at.at
          c.copy.ensures.kept c.in_ok-push.ensures.items (omega (
            arith,
            c.loop-at-test.true,
            c.len-at-end.ensures,
            c.args.copy.now.module.now.clauses.ok,
          )) c.index-clause.ensures c.loop-at.invariant.0
          (λ i. record { type_vars = k.type_vars; formula = f i }) c.loop-at.invariant.4,
      adds_more c.args.self.now c.loop-at.self (with_clauses c.loop-at.self c.copy.new.to c.push.new.self) [] [] [] [] [] [] c.loop-at.invariant.0 c.loop-at.invariant.5 (clauses_add c.loop-at.self c.copy.new.to c.push.new.self c.copy.ensures.kept),
    )

pub returns-clause-clauses : goal.returns-clause-clauses
returns-clause-clauses c = clauses_all c.args.self.now c.loop-at.self c.args.copy.now c.loop-at.at (omega (arith, c.loop-at-test.false, c.len-at-end.ensures, c.args.copy.now.module.now.clauses.ok)) c.loop-at.invariant.0 c.loop-at.invariant.1 c.loop-at.invariant.4

pub returns-clause-names : goal.returns-clause-names
returns-clause-names c = c.loop-at.invariant.5
