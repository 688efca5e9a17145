use Rattle.std.proofs.Common.{◌++◌, map, sym, subst, take, take_all, append-nil}
use Rattle.std.specs.Prelude.{nat_eq}
use Rattle.indexmap.specs.IndexMap.{get}
use Rattle.lp_sig.specs.Knowing.{Knows}
use Rattle.lp_sig.specs.Modules.{kind_said}
use Rattle.lp_sig.specs.Sighted.{HasItsNumber}
use Rattle.lp_sig.proofs.Worded.{mapped_at}
use Rattle.std.proofs.lemmas.List.Elements.{All-nil}
use Rattle.lp_sig.specs.GoingTogether.{IsSameKind, IsNumbered}
use Rattle.lp_sig.specs.inner.Telling.{IsNumberHere, KindTells, KindsTell}
use Rattle.lp_sig.proofs.SeenKinds.{kinds_step}
use Rattle.lp_sig.proofs.ToldKinds.{kinds_here, kinds_told}
use Rattle.lp_sig.proofs.names.Names.see_kinds.Goals as goal

pub loop-at-init : goal.loop-at-init
loop-at-init c = (
  (λ said k. subst (Knows c.args.self.now) (sym (append-nil said)) k),
  (λ said k numbers none premise j n found. absurd (none j n found)),
  (λ said k numbers none j n found. absurd (none j n found)),
  (λ said more k. All-nil (λ e. IsSameKind ((said ++ map kind_said c.args.entries.now) ++ more) e × IsNumbered ((said ++ map kind_said c.args.entries.now) ++ more) e.name.items)),
)

pub loop-at-preserved : goal.loop-at-preserved
loop-at-preserved c =
    let es = c.args.entries.now in
    let i = c.loop-at.at in
    let e = c.index-entries-at.result in (
      (λ said k.
          subst (Knows c.see_kind.new.self) (mapped_at kind_said es i e said c.loop-at-test.true c.index-entries-at.is)
          (c.in_ok-number.ensures.names (said ++ map kind_said (take i es)) (c.loop-at.invariant.0 said k))),
      (λ said k numbers none.
          let e_is = c.index-entries-at.is in
          kinds_step said es i e c.loop-at-test.true e_is numbers (get nat_eq c.loop-at.kinds) (get nat_eq c.note_kind.new.kinds)
          c.in_ok-number.number c.in_ok-number.sight c.loop-at.all c.and-all.result
          c.in_ok-note_kind.ensures c.and-all.ensures.alike
          (subst (λ r. HasItsNumber r e.name.items (c.in_ok-number.number, c.in_ok-number.sight)) (mapped_at kind_said es i e said c.loop-at-test.true e_is)
          (c.in_ok-number.ensures.number (said ++ map kind_said (take i es)) (c.loop-at.invariant.0 said k)))
          (λ premise. c.loop-at.invariant.1 said k numbers none premise)),
      (λ said k numbers none.
          let e_is = c.index-entries-at.is in
          kinds_here said es i e c.loop-at-test.true e_is numbers (get nat_eq c.loop-at.kinds) (get nat_eq c.note_kind.new.kinds) c.in_ok-number.number c.in_ok-note_kind.ensures
          (subst (λ r. IsNumberHere r e.name.items c.in_ok-number.number) (mapped_at kind_said es i e said c.loop-at-test.true e_is)
          (c.in_ok-number.ensures.here (said ++ map kind_said (take i es)) (c.loop-at.invariant.0 said k)))
          (c.loop-at.invariant.2 said k numbers none)),
      (λ said later k.
          let e_is = c.index-entries-at.is in
          let more = mapped_at kind_said es i e said c.loop-at-test.true e_is in
          kinds_told said es i e c.loop-at-test.true e_is later c.loop-at.all c.in_ok-number.sight c.and-all.result c.in_ok-number.number c.and-all.ensures.first
          (subst (λ r. IsNumberHere r e.name.items c.in_ok-number.number) more (c.in_ok-number.ensures.here (said ++ map kind_said (take i es)) (c.loop-at.invariant.0 said k)))
          (subst (λ r. KindTells r e.name.items e.arity c.in_ok-number.sight) more (c.in_ok-number.ensures.told (said ++ map kind_said (take i es)) (c.loop-at.invariant.0 said k)))
          (c.loop-at.invariant.3 said later k)),
    )

pub returns-clause-names : goal.returns-clause-names
returns-clause-names c = λ said k. subst (λ es. Knows c.loop-at.self (said ++ map kind_said es)) (take_all c.loop-at.at c.args.entries.now c.loop-at-test.false) (c.loop-at.invariant.0 said k)

pub returns-clause-here : goal.returns-clause-here
returns-clause-here c = λ said k numbers none premise j n found. (c.loop-at.invariant.1 said k numbers none premise j n found).1

pub returns-clause-numbers : goal.returns-clause-numbers
returns-clause-numbers c = c.loop-at.invariant.2

pub returns-clause-told : goal.returns-clause-told
returns-clause-told c = λ said more k. subst (λ es. KindsTell ((said ++ map kind_said c.args.entries.now) ++ more) es c.loop-at.all) (take_all c.loop-at.at c.args.entries.now c.loop-at-test.false) (c.loop-at.invariant.3 said more k)
