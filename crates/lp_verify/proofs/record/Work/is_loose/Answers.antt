use Rattle.std.proofs.Common.{◌∙◌, ap}
use Rattle.std.specs.Prelude.{not}
use Rattle.lp_code.specs.Rules.{has_none}
use Rattle.lp_verify.specs.declared.built.Built.{Built}
use Rattle.lp_verify.specs.Held.{value_in}
use Rattle.lp_verify.specs.inner.Indices.{entries_in}
use Rattle.lp_verify.proofs.TermsMade.{loose_is}
use Rattle.lp_verify.proofs.record.Work.is_loose.Goals as goal

pub returns : goal.returns
returns c =
    let l = c.args.shared.now.lists in
    ap not (c.is_closed.ensures ∙ ap (λ (t : Built). has_none (entries_in l t.loose)) c.term_in-term.ensures ∙ loose_is l (value_in c.args.self.now.terms c.args.register) c.args.shared.now.types.proposition)
