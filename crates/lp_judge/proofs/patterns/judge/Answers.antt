use Rattle.lp_lines.proofs.Refusing.{line_grows}
use Rattle.lp_lines.proofs.Statuses.{memory_of_search}
use Rattle.lp_judge.proofs.Telling.{judges_memory, judges_texts, judgement_no_fault, judgement_of_search}
use Rattle.lp_judge.proofs.patterns.judge.Goals as goal

pub refuse-requires : goal.refuse-requires
refuse-requires g c = judgement_no_fault _ _ c.in-Ok.told.line.items c.in-Ok.told.status c.in-Ok.ensures

pub returns-in-Ok-clause-grows : goal.returns-in-Ok-clause-grows
returns-in-Ok-clause-grows g c = line_grows c.refuse.result c.in-Ok.told.status c.in-Ok.told.line.items _ _ c.refuse.ensures.said c.refuse.ensures.prefix

pub returns-in-Ok-clause-of_search : goal.returns-in-Ok-clause-of_search
returns-in-Ok-clause-of_search g c = judgement_of_search _ _ c.in-Ok.told.line.items c.in-Ok.told.status c.in-Ok.ensures c.refuse.result (λ n. (c.refuse.ensures.said n).0)

pub returns-in-Ok-clause-judges : goal.returns-in-Ok-clause-judges
returns-in-Ok-clause-judges g c told name text = λ h.
    judges_texts told name text _ _ c.refuse.result c.args.texts.modules.items c.args.texts.bank c.args.texts.query
    c.in-Ok.told.line.items c.in-Ok.told.status h c.in-Ok.ensures c.refuse.ensures.said

pub returns-in-Err-clause-of_search : goal.returns-in-Err-clause-of_search
returns-in-Err-clause-of_search g c = memory_of_search c.say_memory.result c.say_memory.ensures.said

pub returns-in-Err-clause-judges : goal.returns-in-Err-clause-judges
returns-in-Err-clause-judges g c told name text = λ h. judges_memory told name text _ _ c.say_memory.result c.say_memory.ensures.said
