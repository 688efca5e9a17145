-- Why modules and queries are refused, and at which spots.
use Rattle.std.specs.Prelude.{◌≡◌, ◌≢◌, ℕ, ◌⊎◌, ◌<◌, ◌≤◌, ◌++◌, ◌∷◌, Bool, false, List, Option, All}
use Rattle.lp_base.specs.declared.limits.TheConstants.{MAX_ARGUMENTS, MAX_CONTRACTIONS, MAX_NODES}
use Rattle.lp_base.specs.declared.limit.Limit.{Limit}
use Rattle.lp_base.specs.declared.limit.Limit.TheVariants as limit
use Rattle.lp_base.specs.declared.place.Spot.{Spot}
use Rattle.lp_calculus.specs.Term.{Term}
use Rattle.lp_calculus.specs.Typing.{Scheme}
use Rattle.lp_calculus.specs.Normal.{nodes}
use Rattle.lp_syntax.specs.declared.text.ModuleText.{ModuleText}
use Rattle.lp_syntax.specs.declared.text.RawTerm.{RawTerm}
use Rattle.lp_syntax.specs.declared.text.Sentence.{Sentence}
use Rattle.lp_term.specs.Frame.{IsBetaForm, IsDeepBeta}
use Rattle.lp_term.specs.declared.reduce.TermRefusal.TheVariants.{Deep}
use Rattle.lp_sig.specs.AsWritten.{DeclaresTypes}
use Rattle.lp_sig.specs.ModuleFaults.{IsDeclarationRefusal}
use Rattle.lp_sig.specs.Modules.{HasSeen}
use Rattle.lp_sig.specs.Named.{SeesTheirs}
use Rattle.lp_sig.specs.Pieces.{spelled}
use Rattle.lp_sig.specs.declared.fault.SigFault.TheVariants as sig
use Rattle.lp_sig.specs.declared.module_fault.ModuleSigFault.{ModuleSigFault}
use Rattle.lp_sig.specs.declared.module_fault.ModuleSigFault.TheVariants as declared_wrong
use Rattle.lp_sig.specs.declared.signature.Signature.{Signature}
use Rattle.lp_infer.specs.Refusals.{IsRefusal as IsInferRefusal}
use Rattle.lp_infer.specs.Typing.{Typing}
use Rattle.lp_infer.specs.declared.fault.InferFault.TheVariants as infer
use Rattle.lp_module.specs.Arguments.{HasManyArguments}
use Rattle.lp_module.specs.Clauses.{IsShortForm, IsWithin, IsTypedAs, HasTyping, HasForm}
use Rattle.lp_module.specs.Form.{HasPart, HasNoPart, is_deep, is_wide, is_in_term, is_other, whole}
use Rattle.lp_module.specs.Order.{Way, IsFirstCircle}
use Rattle.lp_module.specs.Schemes.{declared_schemes}
use Rattle.lp_module.specs.Sentences.{said}
use Rattle.lp_module.specs.declared.fault.ModuleFault.{ModuleFault}
use Rattle.lp_module.specs.declared.fault.ModuleFault.TheVariants as fault

-- In each of these want of memory alone is free.

-- why there is no order
abbrev pub IsOrderRefusal : List (List Way) → ModuleFault → Type 0
IsOrderRefusal ways (fault.Cyclic word) = IsFirstCircle ways word
IsOrderRefusal ways fault.Memory = Unit {0}
IsOrderRefusal ways _ = ⊥

-- the limit on normal forms: a formula takes more than 1,000,000 contractions, or its form has more nodes
abbrev pub IsLong : Term → Type 0
IsLong formula = (most : ℕ) × IsDeepBeta MAX_CONTRACTIONS MAX_NODES formula (Deep most)

-- a formula has a normal form within the limit
abbrev pub IsShort : Term → Type 0
IsShort formula = (form : Term) × IsBetaForm MAX_CONTRACTIONS formula form × (nodes form ≤ MAX_NODES)

-- the limits on the normal form of a sentence or query: on its nodes and contractions, then on its depth, then on arguments
abbrev pub IsFormLimit : (goal : Bool) → (type_vars : ℕ) → Term → Limit → Type 0
IsFormLimit goal n formula limit.NormalForm = IsLong formula
IsFormLimit goal n formula limit.Nesting = (form : Term) × IsShortForm formula form × HasPart is_deep (whole goal form)
IsFormLimit goal n formula limit.Arguments = (form : Term) × IsShortForm formula form × HasNoPart is_deep (whole goal form) × (HasPart is_wide (whole goal form) ⊎ (MAX_ARGUMENTS < n))
IsFormLimit goal n formula _ = ⊥

-- why a sentence or query has not its form: the limits go first, then a connective in a term, then any other form. The spot is that of its first token
abbrev pub IsFormFault : (ℕ → Option Scheme) → (goal : Bool) → (type_vars : ℕ) → Term → Spot → ModuleFault → Type 0
IsFormFault d goal n formula first (fault.NotClause s) = (s ≡ first) × ((form : Term) × IsWithin goal n formula form × HasNoPart is_in_term (whole goal form) × HasPart (is_other d) (whole goal form))
IsFormFault d goal n formula first (fault.InTerm s) = (s ≡ first) × ((form : Term) × IsWithin goal n formula form × HasPart is_in_term (whole goal form))
IsFormFault d goal n formula first (fault.Limit l) = IsFormLimit goal n formula l
IsFormFault d goal n formula first fault.Memory = Unit {0}
IsFormFault d goal n formula first _ = ⊥

-- why a sentence has no typing: a head has too many arguments as written, or else as lp_infer says
abbrev pub IsTypingFault : Signature → List ℕ → RawTerm → ModuleFault → Type 0
IsTypingFault names text raw (fault.Infer (infer.Undeclared s)) = (HasManyArguments raw → ⊥) × IsInferRefusal names text raw (infer.Undeclared s)
IsTypingFault names text raw (fault.Infer (infer.NoTyping s)) = (HasManyArguments raw → ⊥) × IsInferRefusal names text raw (infer.NoTyping s)
IsTypingFault names text raw (fault.Infer infer.Memory) = ⊥
IsTypingFault names text raw (fault.Limit l) = (l ≡ limit.Arguments) × HasManyArguments raw
IsTypingFault names text raw fault.Memory = Unit {0}
IsTypingFault names text raw _ = ⊥

-- a sentence of a module has no typing, and those before it have one
abbrev pub IsUntyped : Signature → List ℕ → List Sentence → ModuleFault → Type 0
IsUntyped names text lines e = (front : List RawTerm) × (raw : RawTerm) × (back : List RawTerm) × (said lines ≡ front ++ raw ∷ back) × All (HasTyping names text) front × IsTypingFault names text raw e

-- all sentences of a module have a typing; one has not the form of a clause, and those before it have
abbrev pub IsUnformed : Signature → List ℕ → List Sentence → ModuleFault → Type 0
IsUnformed names text lines e =
    All (HasTyping names text) (said lines) × ((front : List RawTerm) × (raw : RawTerm) × (back : List RawTerm) × (said lines ≡ front ++ raw ∷ back) × All (HasForm names text) front ×
    ((typing : Typing) × (n : ℕ) × IsTypedAs names text raw typing n × IsFormFault (declared_schemes names) false n typing.formula raw.first e))

-- a refusal of a module's declarations, as a module's
abbrev pub declaration_fault : ModuleSigFault → ModuleFault
declaration_fault (declared_wrong.Sig sig.Memory) = fault.Memory
declaration_fault (declared_wrong.Sig (sig.Limit l)) = fault.Limit l
declaration_fault (declared_wrong.Sig (sig.UnknownKind s)) = fault.Sig (sig.UnknownKind s)
declaration_fault (declared_wrong.Sig (sig.Arity s)) = fault.Sig (sig.Arity s)
declaration_fault (declared_wrong.Sig (sig.Differ s)) = fault.Sig (sig.Differ s)
declaration_fault (declared_wrong.Sig (sig.CyclicAbbreviation s)) = fault.Sig (sig.CyclicAbbreviation s)
declaration_fault (declared_wrong.Sig (sig.CyclicSignature s)) = fault.Sig (sig.CyclicSignature s)
declaration_fault (declared_wrong.Sig (sig.Header s)) = fault.Sig (sig.Header s)
declaration_fault (declared_wrong.Exported s) = fault.Otherwise s
declaration_fault (declared_wrong.Undeclared s) = fault.Infer (infer.Undeclared s)

-- a declaration of a module is refused, the first one that is
abbrev pub IsUndeclared : (own : Signature) (used : List Signature) → List ℕ → List Sentence → ModuleFault → Type 0
IsUndeclared own used text lines e = (f : ModuleSigFault) × IsDeclarationRefusal own used text lines f × (e ≡ declaration_fault f)

-- all declarations are taken: of the names that the module sees a sentence has no typing, or not the form of a clause
abbrev pub IsUnsaid : (own : Signature) (used : List Signature) → List ℕ → List Sentence → ModuleFault → Type 0
IsUnsaid own used text lines e = (names : Signature) × HasSeen own used text lines names × SeesTheirs own used text lines names × DeclaresTypes own used text lines names × (IsUntyped names text lines e ⊎ IsUnformed names text lines e)

-- why a module with the right header is refused: a declaration, the typing of a sentence or the form of one
abbrev pub IsWrongInside : (own : Signature) (used : List Signature) → List ℕ → List Sentence → ModuleFault → Type 0
IsWrongInside own used text lines e = (e ≡ fault.Memory) ⊎ (IsUndeclared own used text lines e ⊎ IsUnsaid own used text lines e)

-- why a module is refused, where its own signature and those that it names are these: a header that is another word than the name of the file goes first
abbrev pub IsRefusal : List ℕ → ModuleText → (name : List ℕ) → (own : Signature) (used : List Signature) → ModuleFault → Type 0
IsRefusal text m name own used e = ((spelled text m.header ≢ name) × (e ≡ fault.Header m.header)) ⊎ ((spelled text m.header ≡ name) × IsWrongInside own used text m.lines.items e)
