use Rattle.std.proofs.Common.{Some, ap, sym, subst}
use Rattle.std.specs.Prelude.{is_none}
use Rattle.lp_code.specs.Symbolic.{variable, whole, argument_type}
use Rattle.lp_code.specs.Steps.{head_built, argument_at}
use Rattle.lp_verify.specs.declared.typing.Typed.TheVariants as typed
use Rattle.lp_verify.specs.declared.built.Head.TheVariants as head
use Rattle.lp_verify.specs.inner.Made.{MakesTerm}
use Rattle.lp_verify.specs.inner.Indices.{store}
use Rattle.lp_verify.proofs.TermsMade.{head_argument, argument_made, no_argument}
use Rattle.lp_verify.proofs.record.Work.own_argument.Goals as goal

pub returns-in-Some : goal.returns-in-Some
returns-in-Some c = λ l h s k.
    let x = c.args.types.now in
    let w = c.args.self.now in
    let n = c.args.number in
    let a = head_argument x w h s n c.argument_type.result k.head c.argument_type.ensures in
    let t = variable c.args.made h.number in
    subst (λ v. MakesTerm (store x l) (is_none (argument_type (head_built h s).type n)) (whole t (argument_at h s n)) (typed.Built v))
    (sym c.closed.ensures) (argument_made x l w h s n c.argument_type.result c.in-Some.of t (head.Variable c.args.made w.home.number)
    (ap (λ n. Some (c.args.made, n)) k.number) a c.in-Some.is)

pub returns-in-None : goal.returns-in-None
returns-in-None c = λ l h s k.
    let x = c.args.types.now in
    let n = c.args.number in
    let a = head_argument x c.args.self.now h s n c.argument_type.result k.head c.argument_type.ensures in
    no_argument x l c.argument_type.result (argument_type (head_built h s).type n) (whole (variable c.args.made h.number) (argument_at h s n)) a c.in-None.is
