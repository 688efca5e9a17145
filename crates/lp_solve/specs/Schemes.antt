-- The declared types of a program: those of its constants, and of the names that queries see.
use Rattle.std.specs.Prelude.{◌≡◌, List, Contains, Some, slice_get}
use Rattle.lp_calculus.specs.Typing.{Scheme}
use Rattle.lp_term.specs.Mapped.{mapped_type}
use Rattle.lp_lemmas.specs.Each.{EachOf}
use Rattle.lp_standard.specs.Schemes.{IsStandard}
use Rattle.lp_model.specs.Proofs.{Declared}
use Rattle.lp_sig.specs.declared.entries.ConstantEntry.{ConstantEntry}
use Rattle.lp_sig.specs.declared.signature.Signature.{Signature}
use Rattle.lp_infer.specs.Texts.{entry_scheme}
use Rattle.lp_module.specs.Program.{Copy, map_of}
use Rattle.lp_module.specs.declared.module.Module.{Module}

-- a declared type of a module as it stands in a copy: kinds have their numbers there
abbrev pub scheme_in : Copy → Scheme → Scheme
scheme_in c s = record { count = s.count; body = mapped_type (map_of c) s.body }

-- the constants that a module sees have, under the numbers of a copy, the types that its signature has for them
abbrev pub DeclaresCopy : Declared → Copy → Signature → Type 0
DeclaresCopy d c s = (e : ConstantEntry) → Contains s.constants.items e → d (c.constants e.number) ≡ Some (scheme_in c (entry_scheme s.bank e))

-- so with the names that queries see
abbrev pub DeclaresSeen : Declared → Signature → Type 0
DeclaresSeen d s = (e : ConstantEntry) → Contains s.constants.items e → d e.number ≡ Some (entry_scheme s.bank e)

-- The declared types of a program of these modules, in these copies, and of these names that queries see: those of the language, and of each module in each copy.
pub record AreDeclared (modules : List Module) (copied : List Copy) (seen : Signature) (d : Declared) : Type 0 where
  pub standard : IsStandard d
  pub copies : EachOf (λ c. (m : Module) → slice_get modules c.member ≡ Some m → DeclaresCopy d c m.signature) copied
  pub queries : DeclaresSeen d seen
