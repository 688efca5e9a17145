use Rattle.std.proofs.Common.{◌++◌, ◌∷◌, [], ◌∙◌, map, sym, ap, subst, take, take_all, append-nil}
use Rattle.lp_base.specs.declared.place.Spot.{Spot}
use Rattle.lp_sig.specs.Pieces.{spelled}
use Rattle.lp_sig.specs.Sights.{HasKeys}
use Rattle.lp_sig.proofs.Refusing.{key_more}
use Rattle.lp_sig.proofs.Worded.{mapped_more}
use Rattle.lp_sig.proofs.hearing.note.Goals as goal

pub loop-name-init : goal.loop-name-init
loop-name-init c = λ before h. subst (HasKeys c.args.set.now) (sym (append-nil before)) h

pub loop-name-preserved : goal.loop-name-preserved
loop-name-preserved c = λ before h.
    let f = λ (s : Spot). spelled c.args.source.now s in
    let so = before ++ map f (take c.loop-name.name-index c.args.names.now) in
    subst (HasKeys c.insert.new.self) (ap (λ w. so ++ w ∷ []) c.spelled_at.ensures ∙ mapped_more f c.args.names.now c.loop-name.name-index _ before c.loop-name-test.true)
    (key_more c.loop-name.set c.insert.new.self so c.in_ok-key.key c.spelled_at.result.now c.in_ok-key.ensures.items c.in_ok-insert.ensures.keys (c.loop-name.invariant before h))

pub returns : goal.returns
returns c = λ before h. subst (λ ws. HasKeys c.loop-name.set (before ++ map (λ s. spelled c.args.source.now s) ws))
    (take_all c.loop-name.name-index c.args.names.now c.loop-name-test.false) (c.loop-name.invariant before h)
