use Rattle.lp_lines.proofs.Leaving.{leaves_file}
use Rattle.lp_lines.proofs.Refusing.{line_grows}
use Rattle.lp_lines.proofs.Statuses.{memory_of_search, said_of_search, search_not_fault}
use Rattle.lp_lines.proofs.store.put.Goals as goal

pub say-requires : goal.say-requires
say-requires g c = search_not_fault c.args.status c.requires

pub returns-in-Ok-clause-grows : goal.returns-in-Ok-clause-grows
returns-in-Ok-clause-grows g c = line_grows c.say.result c.args.status _ _ _ c.say.ensures.said c.say.ensures.prefix

pub returns-in-Ok-clause-of_search : goal.returns-in-Ok-clause-of_search
returns-in-Ok-clause-of_search g c = said_of_search c.say.result c.args.status c.requires (λ n. (c.say.ensures.said n).0)

pub returns-in-Err-Memory-clause-of_search : goal.returns-in-Err-Memory-clause-of_search
returns-in-Err-Memory-clause-of_search g c = memory_of_search c.say_memory.result c.say_memory.ensures.said

pub returns-in-Ok-clause-leaves : goal.returns-in-Ok-clause-leaves
returns-in-Ok-clause-leaves g c =
    λ file line t. leaves_file file line c.args.target.now t c.args.status c.say.result c.args.bytes.now c.in-Ok.field-0 (rw c.as_str.ensures.value at c.in-Ok.ensures.told) c.in-Ok.ensures.write_faults
    (rw c.as_slice.ensures.value at c.say.ensures.said) (rw c.as_slice.ensures.value at c.say.ensures.prefix) c.say.ensures.faults

pub returns-in-Ok-clause-bytes : goal.returns-in-Ok-clause-bytes
returns-in-Ok-clause-bytes g c = λ n m. rw c.as_str.ensures.value at c.in-Ok.ensures.told

pub returns-in-Err-Failed-clause-bytes : goal.returns-in-Err-Failed-clause-bytes
returns-in-Err-Failed-clause-bytes g c = λ n m. absurd (n c.tell_fault.ensures.is_fault)

pub returns-in-Err-Memory-clause-bytes : goal.returns-in-Err-Memory-clause-bytes
returns-in-Err-Memory-clause-bytes g c = λ n m. absurd (m (c.say_memory.ensures.said n))

pub returns-in-Ok-clause-ends : goal.returns-in-Ok-clause-ends
returns-in-Ok-clause-ends g c = λ n m. (c.say.ensures.said n).0

pub returns-in-Err-Failed-clause-ends : goal.returns-in-Err-Failed-clause-ends
returns-in-Err-Failed-clause-ends g c = λ n m. absurd (n c.tell_fault.ensures.is_fault)

pub returns-in-Err-Memory-clause-ends : goal.returns-in-Err-Memory-clause-ends
returns-in-Err-Memory-clause-ends g c = λ n m. absurd (m (c.say_memory.ensures.said n))
