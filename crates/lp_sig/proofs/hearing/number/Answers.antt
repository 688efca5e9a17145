use Rattle.std.proofs.Common.{◌++◌, ◌∷◌, [], ◌∙◌, map, sym, ap, subst, take, take_all, append-nil}
use Rattle.lp_base.specs.declared.place.Spot.{Spot}
use Rattle.lp_sig.specs.Pieces.{spelled}
use Rattle.lp_sig.specs.Sights.{HasNumbers}
use Rattle.lp_sig.proofs.Worded.{mapped_more}
use Rattle.lp_sig.proofs.hearing.number.Goals as goal

pub loop-word-init : goal.loop-word-init
loop-word-init c = λ before h. subst (HasNumbers c.args.numbers.now) (sym (append-nil before)) h

pub loop-word-preserved : goal.loop-word-preserved
loop-word-preserved c = λ before h.
    let f = λ (s : Spot). spelled c.args.source.now s in
    let so = before ++ map f (take c.loop-word.word-index c.args.words.now) in
    subst (HasNumbers c.number_word.new.numbers) (ap (λ w. so ++ w ∷ []) c.spelled_at.ensures ∙ mapped_more f c.args.words.now c.loop-word.word-index _ before c.loop-word-test.true)
    (c.in_ok-number_word.ensures so (c.loop-word.invariant before h))

pub returns : goal.returns
returns c = λ before h. subst (λ ws. HasNumbers c.loop-word.numbers (before ++ map (λ s. spelled c.args.source.now s) ws))
    (take_all c.loop-word.word-index c.args.words.now c.loop-word-test.false) (c.loop-word.invariant before h)
