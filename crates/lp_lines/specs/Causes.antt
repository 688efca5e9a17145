-- What is said of each fault of a text: the message, the spot, and whether the name that stands there is told behind it.
use Rattle.std.specs.Prelude.{◌≡◌, ℕ, List, Bool, true, false, codes}
use Rattle.lp_base.specs.declared.place.Spot.{Spot}
use Rattle.lp_fixity.specs.declared.fault.FixFault.{FixFault}
use Rattle.lp_fixity.specs.declared.fault.FixFault.TheVariants as fix
use Rattle.lp_syntax.specs.declared.fault.SyntaxFault.{SyntaxFault}
use Rattle.lp_syntax.specs.declared.fault.SyntaxFault.TheVariants as syntax
use Rattle.lp_sig.specs.declared.fault.SigFault.{SigFault}
use Rattle.lp_sig.specs.declared.fault.SigFault.TheVariants as sig
use Rattle.lp_infer.specs.declared.fault.InferFault.{InferFault}
use Rattle.lp_infer.specs.declared.fault.InferFault.TheVariants as infer
use Rattle.lp_module.specs.declared.fault.ModuleFault.{ModuleFault}
use Rattle.lp_module.specs.declared.fault.ModuleFault.TheVariants as module_fault
use Rattle.lp_lines.specs.declared.cause.Cause.{Cause}
use Rattle.lp_lines.specs.declared.cause.Cause.TheVariants as cause

-- the cause is this message, of this spot
abbrev pub Blames : (is_named : Bool) → (message : List ℕ) → Spot → Cause → Type 0
Blames is_named message spot (cause.Text b) = (b.is_named ≡ is_named) × (b.text.now ≡ message) × (b.spot ≡ spot)
Blames is_named message spot (cause.Tokens e) = ⊥
Blames is_named message spot (cause.Limit l) = ⊥
Blames is_named message spot cause.Memory = ⊥

abbrev pub TellsOperator : FixFault → Spot → Cause → Type 0
TellsOperator (fix.TooHigh n) s c = Blames false (codes "operator number above 255") s c
TellsOperator fix.Otherwise s c = Blames true (codes "operator declared otherwise") s c
TellsOperator fix.Memory s c = c ≡ cause.Memory

-- of a fault of syntax
abbrev pub TellsSyntax : SyntaxFault → Cause → Type 0
TellsSyntax (syntax.Unexpected s) c = Blames false (codes "unexpected token") s c
TellsSyntax (syntax.Ambiguous s) c = Blames true (codes "ambiguous operator") s c
TellsSyntax (syntax.Unclosed s) c = Blames false (codes "unclosed bracket") s c
TellsSyntax (syntax.Unsupported s) c = Blames true (codes "unsupported") s c
TellsSyntax (syntax.Operator f s) c = TellsOperator f s c
TellsSyntax (syntax.Limit l) c = c ≡ cause.Limit l
TellsSyntax syntax.Memory c = c ≡ cause.Memory

-- of a fault of declarations
abbrev pub TellsDeclarations : SigFault → Cause → Type 0
TellsDeclarations (sig.UnknownKind s) c = Blames true (codes "unknown kind") s c
TellsDeclarations (sig.Arity s) c = Blames true (codes "wrong number of type arguments") s c
TellsDeclarations (sig.Differ s) c = Blames true (codes "declared otherwise") s c
TellsDeclarations (sig.CyclicAbbreviation s) c = Blames true (codes "cyclic abbreviation") s c
TellsDeclarations (sig.CyclicSignature s) c = Blames true (codes "cyclic accum_sig") s c
TellsDeclarations (sig.Header s) c = Blames false (codes "header name differs") s c
TellsDeclarations (sig.Limit l) c = c ≡ cause.Limit l
TellsDeclarations sig.Memory c = c ≡ cause.Memory

-- of a fault of typing
abbrev pub TellsTyping : InferFault → Cause → Type 0
TellsTyping (infer.Undeclared s) c = Blames true (codes "undeclared name") s c
TellsTyping (infer.NoTyping s) c = Blames false (codes "no typing") s c
TellsTyping infer.Memory c = c ≡ cause.Memory

-- of a fault of a module, or of the form of a query
abbrev pub TellsModule : ModuleFault → Cause → Type 0
TellsModule (module_fault.Cyclic s) c = Blames true (codes "cyclic accumulate") s c
TellsModule (module_fault.Header s) c = Blames false (codes "header name differs") s c
TellsModule (module_fault.Otherwise s) c = Blames true (codes "signature name declared otherwise") s c
TellsModule (module_fault.NotClause s) c = Blames false (codes "not a clause") s c
TellsModule (module_fault.InTerm s) c = Blames false (codes "implication or cut in a term") s c
TellsModule (module_fault.Sig f) c = TellsDeclarations f c
TellsModule (module_fault.Infer f) c = TellsTyping f c
TellsModule (module_fault.Limit l) c = c ≡ cause.Limit l
TellsModule module_fault.Memory c = c ≡ cause.Memory
