use Rattle.lp_judge.proofs.Checkings.{found_nowhere, found_there}
use Rattle.lp_judge.proofs.checking.bytes_of.Goals as goal

pub returns-clause-nowhere : goal.returns-clause-nowhere
returns-clause-nowhere g c = found_nowhere _ _ _ _ c.read_file.result c.read_file.ensures.found

pub returns-clause-there : goal.returns-clause-there
returns-clause-there g c = found_there _ _ _ _ c.read_file.result c.read_file.ensures.found
