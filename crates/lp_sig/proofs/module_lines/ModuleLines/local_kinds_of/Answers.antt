use Rattle.std.proofs.Common.{sym, subst}
use Rattle.std.proofs.lemmas.Result.{IfErr-weaker, IfOk-weaker}
use Rattle.lp_sig.specs.ModuleFaults.{AreLocalKindsRefused, AreLocalKindsTaken}
use Rattle.lp_sig.proofs.module_lines.ModuleLines.local_kinds_of.Goals as goal

pub returns-in-Some-clause-refused : goal.returns-in-Some-clause-refused
returns-in-Some-clause-refused c = λ said known k h. IfErr-weaker c.local_kinds.result _ _
    (λ e f. subst (λ o. AreLocalKindsRefused c.args.self.now.own.now c.args.self.now.source.now said known c.args.names.now o e) (sym c.in-Some.is) f)
    (c.local_kinds.ensures.refused said k)

pub returns-in-None-clause-refused : goal.returns-in-None-clause-refused
returns-in-None-clause-refused c = λ said known k h. IfErr-weaker c.known_kinds.result _ _
    (λ e f. (subst (λ o. AreLocalKindsRefused c.args.self.now.own.now c.args.self.now.source.now said known c.args.names.now o e) (sym c.in-None.is)
    f)) (c.known_kinds.ensures.refused known h)

pub returns-in-Some-clause-taken : goal.returns-in-Some-clause-taken
returns-in-Some-clause-taken c = λ said known k h. IfOk-weaker c.local_kinds.result _ _
    (λ done t. subst (λ o. AreLocalKindsTaken c.args.self.now.own.now c.args.self.now.source.now said known c.args.names.now o) (sym c.in-Some.is) t)
    (c.local_kinds.ensures.taken said k)

pub returns-in-None-clause-taken : goal.returns-in-None-clause-taken
returns-in-None-clause-taken c = λ said known k h. IfOk-weaker c.known_kinds.result _ _
    (λ done t. subst (λ o. AreLocalKindsTaken c.args.self.now.own.now c.args.self.now.source.now said known c.args.names.now o) (sym c.in-None.is) t)
    (c.known_kinds.ensures.taken known h)
