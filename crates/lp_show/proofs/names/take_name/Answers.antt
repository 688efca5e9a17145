use Rattle.lp_show.proofs.Glossaries.{name_taken}
use Rattle.lp_show.proofs.names.take_name.Goals as goal

pub returns : goal.returns
returns c = λ n. name_taken (λ k. k.items) c.args.taken.now.keys c.insert_full.new.self.keys c.in_ok-key.key n c.args.name.now c.in_ok-key.ensures.items c.in_ok-insert_full.ensures.keys
