use Rattle.std.proofs.Common.{◌++◌, [], map, sym, ap, subst}
use Rattle.std.specs.Prelude.{if◌then◌else◌}
use Rattle.std.proofs.lemmas.Result.{on_ok_weaker}
use Rattle.lp_sig.specs.Pieces.{spelled}
use Rattle.lp_sig.specs.Sights.{HasKeys}
use Rattle.lp_sig.proofs.Refusing.{no_keys}
use Rattle.lp_sig.proofs.hearing.note_if.Goals as goal

pub returns-then-not-is_declared : goal.returns-then-not-is_declared
returns-then-not-is_declared c = λ before h. no_keys c.args.set.now before _ (ap (λ t. if t then map (λ s. spelled c.args.source.now s) c.args.names.now else []) c.if-not-is_declared.true) h

pub returns : goal.returns
returns c = on_ok_weaker c.note.result (λ f before h. subst (λ t. HasKeys c.note.new.set
    (before ++ (if t then map (λ s. spelled c.args.source.now s) c.args.names.now else []))) (sym c.if-not-is_declared.false) (f before h))
    c.note.ensures
