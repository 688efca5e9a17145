use Rattle.std.proofs.Common.{length, sym, subst}
use Rattle.std.specs.Prelude.{IfSome}
use Rattle.lp_calculus.specs.Term.{apply, atom, constant}
use Rattle.lp_standard.specs.Constants.{numbered}
use Rattle.lp_store.specs.Reading.{ReadAll}
use Rattle.lp_goal.specs.Kinds.{StandsKind}
use Rattle.lp_goal.proofs.Told.{IsTold, told, not_told, types_count, kind_stands, constant_call}
use Rattle.lp_goal.proofs.kind.of_constant.Goals as goal

pub returns-in-Some-clause-kind : goal.returns-in-Some-clause-kind
returns-in-Some-clause-kind c = λ Ts us p q.
    let s = c.args.store.now in
    subst (λ o. IsTold s o (apply (atom (constant c.args.number Ts)) us)) (sym c.in-Some.ensures)
    (told s c.args.number Ts (length c.items-count.result.now) (types_count s c.args.types c.items-count.result.now Ts c.items-count.ensures.items p) c.arguments.result.now us (subst (λ l. ReadAll s l us) (sym c.arguments.ensures.cells) q))

pub returns-clause-kind : goal.returns-clause-kind
returns-clause-kind c = λ Ts us p q.
    let s = c.args.store.now in
    constant_call s c.listed.new.store c.args.number c.args.types c.in_ok-arguments.arguments _ c.in_ok-arguments.ensures.kept c.requires.types c.in_ok-arguments.ensures.cells Ts us p q
    (not_told s c.relation.result (apply (atom (constant c.args.number Ts)) us) c.in_default.not-Some
    (subst (λ o. IsTold s o (apply (atom (constant c.args.number Ts)) us)) (sym c.relation.ensures)
    (told s c.args.number Ts (length c.items-count.result.now) (types_count s c.args.types c.items-count.result.now Ts c.items-count.ensures.items p) c.arguments.result.now us (subst (λ l. ReadAll s l us) (sym c.arguments.ensures.cells) q))))

pub returns-in-Some-clause-stands : goal.returns-in-Some-clause-stands
returns-in-Some-clause-stands c =
    let s = c.args.store.now in
    subst (λ o. IfSome o (StandsKind s)) (sym c.in-Some.ensures) (kind_stands s (numbered c.args.number) (length c.items-count.result.now) c.arguments.result.now c.arguments.ensures.within)
