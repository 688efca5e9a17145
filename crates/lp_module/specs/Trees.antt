-- Why a tree of copies has no order, as a fault of a module.
use Rattle.lp_base.specs.declared.limit.Limit.TheVariants as limit
use Rattle.lp_copies.specs.declared.fault.TreeRefusal.{TreeRefusal}
use Rattle.lp_copies.specs.declared.fault.TreeRefusal.TheVariants as refusal
use Rattle.lp_module.specs.declared.fault.ModuleFault.{ModuleFault}
use Rattle.lp_module.specs.declared.fault.ModuleFault.TheVariants as fault

abbrev pub fault_of : TreeRefusal → ModuleFault
fault_of refusal.TooMany = fault.Limit limit.Copies
fault_of refusal.Memory = fault.Memory
