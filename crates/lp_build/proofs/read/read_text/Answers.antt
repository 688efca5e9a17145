use Rattle.lp_build.proofs.Walking.{text_faults}
use Rattle.lp_build.proofs.read.read_text.Goals as goal

pub returns-in-Some-clause-fault : goal.returns-in-Some-clause-fault
returns-in-Some-clause-fault g c = λ known. text_faults (g.F.Folder.held c.args.folder.now) c.args.name.now c.in-Some.bytes.items c.args.number c.text_of.result (c.in-Some.ensures.taken _ known) c.text_of.ensures.refused c.text_of.ensures.fault

pub returns-clause-fault : goal.returns-clause-fault
returns-clause-fault g c = λ known. text_faults (g.F.Folder.held c.args.folder.now) c.args.name.now c.in_ok-bytes.bytes.items c.args.number c.text_of-2.result c.in_ok-bytes.ensures.told c.text_of-2.ensures.refused c.text_of-2.ensures.fault
