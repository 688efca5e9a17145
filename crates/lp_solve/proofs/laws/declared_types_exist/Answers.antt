use Rattle.lp_solve.proofs.Texts.DeclaredTypes.{declared_types}
use Rattle.lp_solve.proofs.laws.declared_types_exist.Goals as goal

pub returns : goal.returns
returns c = λ told name built l. let h = declared_types l.sources built l.program l.read in (h.types, h.are)
