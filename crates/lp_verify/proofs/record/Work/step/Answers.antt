use Rattle.std.proofs.Common.{◌≡◌, length, None, ap, refl, sym, subst, arith}
use Rattle.std.proofs.lemmas.Result.{IfOk-at_ok}
use Rattle.lp_calculus.specs.Typing.{o_type}
use Rattle.lp_code.specs.Rules.{names_of, breaks_type, breaks_head}
use Rattle.lp_code.specs.States.{State}
use Rattle.lp_code.specs.States as states
use Rattle.lp_verify.specs.declared.record.Work.{Work}
use Rattle.lp_verify.specs.declared.built.Built.{Built}
use Rattle.lp_verify.specs.Named.{was_named}
use Rattle.lp_verify.specs.inner.FirstNumbers.{IsType}
use Rattle.lp_verify.specs.inner.Indices.{Store, StoreGrows}
use Rattle.lp_verify.specs.inner.Known.{Knows}
use Rattle.lp_verify.specs.inner.Told.{told, IsFirst, rule_of}
use Rattle.lp_verify.specs.inner.Handed.{closed_built, IsNamed, IsHandedOn, assumption_of}
use Rattle.lp_verify.specs.inner.Made.{IsJudged, IsPutBy, term_made, built_or}
use Rattle.lp_verify.specs.inner.At.{kept_in}
use Rattle.lp_verify.proofs.LooseSeen.{store_then, grows_same}
use Rattle.lp_verify.proofs.HandedOn.{same_later}
use Rattle.lp_verify.proofs.UsedConstants.{basics_stay}
use Rattle.lp_verify.proofs.Moved.{passed_on}
use Rattle.lp_verify.proofs.TermsMade.{put_by, knows_later}
use Rattle.lp_verify.proofs.record.Work.step.Goals as goal

pub returns : goal.returns
returns c =
    let i = c.args.instr.now in
    let old = c.args.self.now in
    let mid = c.act.new.self in
    let x = c.args.shared.now in
    let z = c.judge.new.shared in
    let y = c.act.new.shared in
    let typed = c.in-Ok.typed in
    let lists = sym c.act.ensures.lists in
    let put : Built = built_or typed (closed_built y.types.proposition) in
    let new : Work =
    record {
      home = mid.home;
      places = mid.places;
      takings = mid.takings;
      own_types = mid.own_types;
      place = c.saturating_add-self.result;
      number = c.saturating_add-self-2.result;
      types = c.settle.new.types;
      terms = c.settle.new.terms;
      in_body = mid.in_body;
      head = mid.head;
      blocks = c.settle.new.blocks;
    } in
    let none : rule_of c.in_ok-typed.field-0 ≡ None = ap rule_of c.in-Ok.is in
    let judged : IsJudged (kept_in x) (kept_in z) old i typed = IfOk-at_ok (IsJudged (kept_in x) (kept_in z) old i) c.in-Ok.is c.in_ok-typed.ensures.made in
    let before : StoreGrows (kept_in x) (kept_in z) = c.in_ok-typed.ensures.grow in
    let more : StoreGrows (kept_in z) (kept_in y) = (subst (λ l. Rattle.lp_verify.specs.inner.Indices.ListsGrow z.lists l) lists (grows_same z.lists), c.in_ok-act.ensures.grow) in
    let l = c.length.ensures in
    let f = c.from.ensures in
    let p = c.saturating_add-self.ensures in
    let n = c.saturating_add-self-2.ensures in
    let acted = c.in_ok-act.ensures.acted in
    let o : (h : states.Home) (s : State) → Knows (kept_in x) old h s → IsType z.types y.types.proposition o_type = λ h s k. subst (λ t. IsType z.types t o_type) (sym c.in_ok-act.ensures.grow.proposition) (basics_stay x.types z.types before.1 k.of_head.constants.basics).proposition in
    let puts : IsPutBy (kept_in x) (kept_in z) old i put = put_by (kept_in x) (kept_in z) old i typed y.types.proposition o judged in (
      λ low few h s k. subst (IsFirst (told old y.lists (was_named x.named) c.args.whole (breaks_type h s i) (breaks_head h s i) i)) none
          (subst (λ l. IsFirst (told old l (was_named x.named) c.args.whole (breaks_type h s i) (breaks_head h s i) i)
          (rule_of c.in_ok-typed.field-0)) lists (c.in_ok-typed.ensures.first low few h s k)),
      store_then (kept_in x) (kept_in z) (kept_in y) before more,
      record {
        type = acted.0;
        value = put;
        runs = passed_on i acted.0 put old mid new acted.1 refl refl refl refl (λ h. omega (arith, l, f, p, h)) (λ h. omega (arith, n, h)) c.settle.ensures.sides c.settle.ensures.ends refl refl c.settle.ensures.types c.settle.ensures.terms;
        typed = λ h s few k set order own. let t = acted.2 h s few (knows_later (kept_in x) (kept_in z) old h s before (judged.1 h s k set).0 k) set order own in record { type = t.type; head = t.head };
        puts = λ h s k set. same_later (kept_in z) (kept_in y) put (term_made h s i) more (puts h s k set);
        names = subst (IsNamed (names_of i) (length x.handed.items) x.named) (sym c.act.ensures.named) (c.in_ok-typed.ensures.named none);
        hands = subst (λ l. IsHandedOn (assumption_of i) old.types old.terms l y.handed.items) (ap (λ v. v.items) c.judge.ensures.handed) c.in_ok-act.ensures.handed;
      },
    )
