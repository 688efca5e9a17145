use Rattle.lp_files.proofs.Making.{found_there}
use Rattle.lp_files.proofs.Unopening.{found_unread}
use Rattle.lp_files.proofs.open.bytes_of.Goals as goal

pub returns-clause-there : goal.returns-clause-there
returns-clause-there g c = found_there _ _ _ _ c.read_file.result c.read_file.ensures.found

pub returns-clause-unread : goal.returns-clause-unread
returns-clause-unread g c = found_unread _ _ _ _ c.read_file.result c.read_file.ensures.found
