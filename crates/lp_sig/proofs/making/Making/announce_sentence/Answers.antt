use Rattle.lp_sig.specs.Holding.{declared_by_sentence}
use Rattle.std.specs.Prelude.{Some}
use Rattle.std.proofs.Common.{◌∙◌, ap}
use Rattle.std.proofs.lemmas.Result.{on_ok_weaker}
use Rattle.lp_sig.proofs.Sayings.{its_sentence, no_sentence, its_bodies, no_bodies}
use Rattle.lp_sig.proofs.making.Making.announce_sentence.Goals as goal

pub returns-in-Declares-clause-names : goal.returns-in-Declares-clause-names
returns-in-Declares-clause-names c = on_ok_weaker c.announce_line.result (λ h said k. its_sentence c.announce_line.new.self.names c.args.source.now
    c.args.sentence.now c.in-Declares.declaration c.in-Declares.is said (h said k)) c.announce_line.ensures.names

pub returns-in-Says-clause-names : goal.returns-in-Says-clause-names
returns-in-Says-clause-names c = no_sentence c.args.self.now.names c.args.source.now c.args.sentence.now _ c.in-Says.is

pub returns-in-Declares-clause-bodies : goal.returns-in-Declares-clause-bodies
returns-in-Declares-clause-bodies c = on_ok_weaker c.announce_line.result (λ h said defs declared k there known. its_bodies c.announce_line.new.self.bodies.types.bank c.announce_line.new.self.bodies.bodies.items c.args.source.now
    declared c.args.sentence.now c.in-Declares.declaration c.in-Declares.is said defs (h said defs declared k (there ∙ ap (λ s. declared_by_sentence (Some s)) c.in-Declares.is) known)) c.announce_line.ensures.bodies

pub returns-in-Says-clause-bodies : goal.returns-in-Says-clause-bodies
returns-in-Says-clause-bodies c = λ said defs declared k there known. no_bodies c.args.self.now.bodies.types.bank c.args.self.now.bodies.bodies.items c.args.source.now declared c.args.sentence.now _ c.in-Says.is said defs known
