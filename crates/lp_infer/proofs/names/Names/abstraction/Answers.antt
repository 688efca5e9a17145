use Rattle.std.proofs.Common.{sym, subst, Some}
use Rattle.std.specs.Prelude.{Contains, IfOk}
use Rattle.lp_sig.specs.Pieces.{spelled}
use Rattle.lp_infer.specs.Names.{note_words, IsNoKind}
use Rattle.lp_infer.specs.Scanning.{Finds, IsEntered}
use Rattle.lp_infer.proofs.Scanning.{entered_past}
use Rattle.lp_infer.proofs.names.Names.abstraction.Goals as goal

pub returns-in-Some-clause-fault : goal.returns-in-Some-clause-fault
returns-in-Some-clause-fault c =
    subst (λ n. Finds (λ s. Contains (note_words n) s × IsNoKind c.args.signature.now (spelled c.args.source.now s)) c.args.self.now.fault c.enter-in-Some.new.self.fault) (sym c.in-Some.is)
    (subst (Finds (λ s. Contains (note_words (Some c.in-Some.given)) s × IsNoKind c.args.signature.now (spelled c.args.source.now s)) c.args.self.now.fault) (sym c.enter-in-Some.ensures.fault) c.check_note.ensures.fault)

pub returns-in-Some-clause-level : goal.returns-in-Some-clause-level
returns-in-Some-clause-level c =
    entered_past (spelled c.args.source.now c.args.spot) c.args.self.now c.check_note.new.self c.enter-in-Some.new.self c.enter-in-Some.result c.check_note.ensures.bound
    (subst (λ x. IfOk c.enter-in-Some.result (IsEntered x c.check_note.new.self c.enter-in-Some.new.self)) c.spelled_at-in-Some.ensures c.enter-in-Some.ensures.level)
