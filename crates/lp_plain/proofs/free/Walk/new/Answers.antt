use Rattle.lp_plain.proofs.Sightings.{nothing_found, nothing_marked}
use Rattle.lp_plain.proofs.free.Walk.new.Goals as goal

pub returns-clause-found : goal.returns-clause-found
returns-clause-found c = λ x. nothing_found (record { left = c.new.result; terms = c.new-2.result; types = c.new-3.result; variables = c.new-4.result; type_variables = c.new-5.result }) c.new-4.ensures.empty c.new-5.ensures.empty x

pub returns-clause-marks : goal.returns-clause-marks
returns-clause-marks c = λ i. nothing_marked (record { left = c.new.result; terms = c.new-2.result; types = c.new-3.result; variables = c.new-4.result; type_variables = c.new-5.result }) c.new-2.ensures.empty c.new-3.ensures.empty i
