use Rattle.std.proofs.Common.{map, subst}
use Rattle.lp_solve.specs.Shown.{constants_in, names_in}
use Rattle.lp_solve.proofs.Lines.{TellsDeep, TellsLines, deep_told, lines_told}
use Rattle.lp_solve.proofs.shown.Shown.answer.Goals as goal

pub returns-clause-text : goal.returns-clause-text
returns-clause-text c =
    lines_told (constants_in c.args.self.now) (names_in c.args.self.now) c.args.number c.args.answer.now c.answer.result
    (subst (λ ns. TellsLines (constants_in c.args.self.now) (map (λ n. n.items) ns) c.args.number c.args.answer.now c.answer.result) c.deref.ensures.value c.answer.ensures.text)

pub returns-clause-refused : goal.returns-clause-refused
returns-clause-refused c =
    deep_told (names_in c.args.self.now) c.args.answer.now c.answer.result
    (subst (λ ns. TellsDeep (map (λ n. n.items) ns) c.args.answer.now c.answer.result) c.deref.ensures.value c.answer.ensures.refused)
