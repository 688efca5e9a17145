use Rattle.std.proofs.Common.{inl, sym, subst}
use Rattle.lp_build.specs.Told.{AreKnown}
use Rattle.lp_lines.proofs.Looking.{looked_judged, text_judged}
use Rattle.lp_lines.proofs.Placing.{source_weaker}
use Rattle.lp_load.proofs.Telling.{looked_gathered, looked_ungathered, none_known}
use Rattle.lp_judge.proofs.Questions.{asked_from}
use Rattle.lp_judge.proofs.asking.prepare_asked.Goals as goal

pub returns-in-Ok-clause-looked : goal.returns-in-Ok-clause-looked
returns-in-Ok-clause-looked g c = looked_judged c.asked_of.result (looked_gathered c.in-Ok.ensures.outside) (text_judged c.asked_of.result c.asked_of.ensures.refused)

pub returns-in-Ok-clause-placed : goal.returns-in-Ok-clause-placed
returns-in-Ok-clause-placed g c =
    let held = g.F.Folder.held c.args.folder.now in
    c.asked_of.ensures.placed held (c.in-Ok.ensures.files (subst (AreKnown held) (sym c.new-known.ensures.items) (none_known held)))

pub returns-in-Err-clause-looked : goal.returns-in-Err-clause-looked
returns-in-Err-clause-looked g c = looked_ungathered c.in-Err.fault c.load_refused.result c.load_refused.ensures.tells c.in-Err.ensures.outside

pub returns-in-Err-clause-placed : goal.returns-in-Err-clause-placed
returns-in-Err-clause-placed g c =
    let held = g.F.Folder.held c.args.folder.now in
    source_weaker _ _ (λ line h. inl h) c.load_refused.result (c.load_refused.ensures.placed held (c.in-Err.ensures.fault (subst (AreKnown held) (sym c.new-known.ensures.items) (none_known held))))

pub returns-in-Ok-clause-asked : goal.returns-in-Ok-clause-asked
returns-in-Ok-clause-asked g c =
    let held = g.F.Folder.held c.args.folder.now in
    asked_from held c.args.name.now c.args.query.now c.in-Ok.sources c.asked_of.result c.in-Ok.ensures.ordered
    (c.in-Ok.ensures.files (subst (AreKnown held) (sym c.new-known.ensures.items) (none_known held))) c.in-Ok.ensures.read
    (c.asked_of.ensures.asked c.in-Ok.ensures.read)
