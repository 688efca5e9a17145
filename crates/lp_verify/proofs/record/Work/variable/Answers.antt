use Rattle.std.proofs.Common.{Some, ap, refl, sym, subst}
use Rattle.lp_code.specs.Symbolic.{variable, whole, type_in}
use Rattle.lp_verify.specs.declared.built.Head.TheVariants as head
use Rattle.lp_verify.specs.inner.Indices.{store}
use Rattle.lp_verify.specs.inner.Handed.{SameTerm}
use Rattle.lp_verify.proofs.TermsMade.{type_known, bare_same}
use Rattle.lp_verify.proofs.record.Work.variable.Goals as goal

pub returns : goal.returns
returns c = λ l h s k.
    let m = store c.args.types.now l in
    let b = whole (variable c.args.made h.number) (type_in s.now c.args.of) in
    let e = ap (λ n. Some (c.args.made, n)) k.of_head.number in
    subst (λ v. SameTerm m v b) (sym c.closed.ensures) (bare_same m c.type_in.result (head.Variable c.args.made c.args.self.now.home.number) b refl (type_known m c.args.self.now h s c.args.of c.type_in.result k c.type_in.ensures) e)
