-- What the faults of texts hold: never a lower crate's want of memory or limit.
use Rattle.lp_fixity.specs.declared.fault.FixFault.TheVariants as fix
use Rattle.lp_infer.specs.declared.fault.InferFault.{InferFault}
use Rattle.lp_infer.specs.declared.fault.InferFault.TheVariants as infer
use Rattle.lp_syntax.specs.declared.fault.SyntaxFault.{SyntaxFault}
use Rattle.lp_syntax.specs.declared.fault.SyntaxFault.TheVariants as syntax
use Rattle.lp_sig.specs.declared.fault.SigFault.{SigFault}
use Rattle.lp_sig.specs.declared.fault.SigFault.TheVariants as sig
use Rattle.lp_module.specs.declared.fault.ModuleFault.{ModuleFault}
use Rattle.lp_module.specs.declared.fault.ModuleFault.TheVariants as modules
use Rattle.lp_build.specs.declared.fault.BuildFault.{BuildFault}
use Rattle.lp_build.specs.declared.fault.BuildFault.TheVariants as fault

-- a fault of syntax itself
abbrev pub IsOfSyntax : SyntaxFault → Type 0
IsOfSyntax syntax.Memory = ⊥
IsOfSyntax (syntax.Limit l) = ⊥
IsOfSyntax (syntax.Operator fix.Memory s) = ⊥
IsOfSyntax _ = Unit {0}

-- a fault of a signature itself
abbrev pub IsOfSignature : SigFault → Type 0
IsOfSignature sig.Memory = ⊥
IsOfSignature (sig.Limit l) = ⊥
IsOfSignature _ = Unit {0}

abbrev pub IsOfTyping : InferFault → Type 0
IsOfTyping infer.Memory = ⊥
IsOfTyping _ = Unit {0}

-- a fault of a module itself
abbrev pub IsOfModule : ModuleFault → Type 0
IsOfModule modules.Memory = ⊥
IsOfModule (modules.Limit l) = ⊥
IsOfModule (modules.Sig e) = IsOfSignature e
IsOfModule (modules.Infer e) = IsOfTyping e
IsOfModule _ = Unit {0}

-- why texts that were read have no program: nothing of the outside, and each limit and want of memory by its own name
abbrev pub IsOfTexts : BuildFault → Type 0
IsOfTexts (fault.Read n) = ⊥
IsOfTexts (fault.Missing n) = ⊥
IsOfTexts (fault.Lex n e) = ⊥
IsOfTexts (fault.Syntax e) = IsOfSyntax e
IsOfTexts (fault.Sig e) = IsOfSignature e
IsOfTexts (fault.Module e) = IsOfModule e
IsOfTexts (fault.Limit l) = Unit {0}
IsOfTexts fault.Memory = Unit {0}
