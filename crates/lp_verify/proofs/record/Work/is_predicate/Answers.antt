use Rattle.std.proofs.Common.{◌∙◌, sym, subst}
use Rattle.std.specs.Prelude.{◌&&◌}
use Rattle.lp_code.specs.Symbolic.{term_in}
use Rattle.lp_verify.specs.inner.Indices.{store}
use Rattle.lp_verify.specs.inner.Handed.{SameTerm}
use Rattle.lp_verify.proofs.TermsMade.{term_same}
use Rattle.lp_verify.proofs.record.Work.is_predicate.Goals as goal

pub returns : goal.returns
returns c = λ l s basics same low alls.
    let w = c.args.self.now in
    let x = c.args.types.now in
    let r = c.args.register in
    let m = store x l in
    let b = term_in s.now r in
    let t = subst (λ t. SameTerm m t b) (sym c.term_in-built.ensures) (term_same m w.terms s r x.proposition basics.proposition same) in
    c.both.ensures ∙ (λ j. c.is_all.ensures w.home.records.now w.home.number b.term alls t.2 (low r) j && c.ends_in_o.ensures b.type t.1 j)
