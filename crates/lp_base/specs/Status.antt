-- The number of each status.
use Rattle.std.specs.Prelude.{ℕ}
use Rattle.lp_base.specs.declared.status.Status.{Status}
use Rattle.lp_base.specs.declared.status.Status.TheVariants.{Done, Usage, Source, Image, Steps, Flexible, Arithmetic, Deep, ReadFault, WriteFault, Memory, Limit, Missing, OpenNot, No}

-- the number that the program exits with
abbrev pub number_of : Status → ℕ
number_of Done = 0
number_of Usage = 1
number_of Source = 2
number_of Image = 3
number_of Steps = 4
number_of Flexible = 5
number_of Arithmetic = 6
number_of Deep = 7
number_of ReadFault = 8
number_of WriteFault = 9
number_of Memory = 10
number_of Limit = 11
number_of Missing = 12
number_of OpenNot = 13
number_of No = 14
