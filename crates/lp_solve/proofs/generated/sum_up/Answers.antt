use Rattle.lp_lines.proofs.Refusing.{line_grows}
use Rattle.lp_lines.proofs.Statuses.{said_of_search, memory_of_search, search_not_fault}
use Rattle.lp_solve.proofs.generated.sum_up.Goals as goal

pub refuse-requires : goal.refuse-requires
refuse-requires g c =
    search_not_fault c.in-Ok.status c.in-Ok.ensures

pub returns-in-Ok-clause-grows : goal.returns-in-Ok-clause-grows
returns-in-Ok-clause-grows g c =
    line_grows c.refuse.result c.in-Ok.status c.in-Ok.text.items _ _ c.refuse.ensures.said c.refuse.ensures.prefix

pub returns-in-Ok-clause-of_search : goal.returns-in-Ok-clause-of_search
returns-in-Ok-clause-of_search g c =
    said_of_search c.refuse.result c.in-Ok.status c.in-Ok.ensures (λ n. (c.refuse.ensures.said n).0)

pub returns-in-Err-clause-of_search : goal.returns-in-Err-clause-of_search
returns-in-Err-clause-of_search g c =
    memory_of_search c.say_memory.result c.say_memory.ensures.said
