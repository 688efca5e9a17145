use Rattle.std.proofs.lemmas.Result.{on_ok_weaker}
use Rattle.std.proofs.Common.{map}
use Rattle.lp_sig.proofs.SeenUses.{clause_noted, sentence_noted}
use Rattle.lp_sig.proofs.walk.Ways.note_sentence.Goals as goal

pub returns-in-Declares : goal.returns-in-Declares
returns-in-Declares c = on_ok_weaker c.note_line.result (λ f z more k u. sentence_noted c.args.names.now z more c.args.source.now c.args.sentence.now c.in-Declares.line
    (map (λ out. out.items) c.args.self.now.ways.items) (map (λ out. out.items) c.note_line.new.self.ways.items) c.in-Declares.is f k u) c.note_line.ensures

pub returns-in-Says : goal.returns-in-Says
returns-in-Says c = λ z more k u. clause_noted (map (λ out. out.items) c.args.self.now.ways.items) z more c.args.source.now c.args.sentence.now _ c.in-Says.is u
