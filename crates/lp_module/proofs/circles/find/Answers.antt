use Rattle.std.proofs.Common.{sym, ◌∙◌, false}
use Rattle.std.proofs.lemmas.List.{get_or_default}
use Rattle.lp_module.proofs.Reaching.{found_one}
use Rattle.lp_module.proofs.circles.find.Goals as goal

pub returns-clause-found : goal.returns-clause-found
returns-clause-found c = λ ways from leads f.
    found_one ways from c.args.to c.args.marks.now.items c.args.found.now.items c.push.new.self.items c.requires (get_or_default c.args.marks.now.items c.args.to false c.index.result.now c.requires ∙ sym c.index.ensures ∙ c.if-index.false) c.in_ok-push.ensures.items leads f
