-- What the clauses of the modules of texts are flattened to is typed.
use Rattle.std.proofs.Common.{◌≡◌, ℕ, zero, suc, ◌<◌, List, [], Some, refl, arith}
use Rattle.lp_calculus.specs.Term.{constant}
use Rattle.lp_calculus.specs.Types.{arrow}
use Rattle.lp_calculus.specs.Typing.{o_type}
use Rattle.lp_syntax.specs.declared.text.ModuleText.{ModuleText}
use Rattle.lp_syntax.specs.declared.text.SignatureText.{SignatureText}
use Rattle.lp_sig.specs.declared.signature.Signature.{Signature}
use Rattle.lp_module.specs.Program.{clauses_in}
use Rattle.lp_module.specs.declared.module.Module.{Module}
use Rattle.lp_build.specs.Meant.{AreModules, IsModuleAt}
use Rattle.lp_build.specs.Reads.{AreRead}
use Rattle.lp_build.specs.Ready.{FlattenTyped, FlattensTyped, types_in}
use Rattle.lp_build.specs.declared.sources.Sources.{Sources}
use Rattle.lp_build.specs.declared.texts.Group.{Group}
use Rattle.lp_build.proofs.FlatTypes.{TypesConnectives, flattened_typed}
use Rattle.lp_build.proofs.Joined.{meaning_at}
use Rattle.lp_build.proofs.TypedClauses.{has_typed_clauses}

connectives_typed : (sig : Signature) → TypesConnectives (types_in sig)
connectives_typed sig = record { on_two = on_two; for_all = λ T. refl; exists = λ T. refl; not = refl }
  where
    on_two : (c : ℕ) → c < 4 → types_in sig (constant c []) ≡ Some (arrow o_type (arrow o_type o_type))
    on_two zero l = refl
    on_two (suc zero) l = refl
    on_two (suc (suc zero)) l = refl
    on_two (suc (suc (suc zero))) l = refl
    on_two (suc (suc (suc (suc c)))) l = absurd (omega (arith, l))

module _ (sources : Sources) (g : Group SignatureText) (t : Group ModuleText) (place : ℕ) where
  pub flattens_typed : (m : Module) → IsModuleAt sources.files.items g t place m → FlattensTyped m
  flattens_typed m is d cs flat = flattened_typed (types_in m.signature) (connectives_typed m.signature) d (clauses_in m) cs flat (has_typed_clauses sources g t place m is)

module _ (sources : Sources) (modules : List Module) (read : AreRead sources) (are : AreModules sources modules) where
  pub flatten_typed : FlattenTyped modules
  flatten_typed k m at = let (p, is) = meaning_at sources modules read are k m at in flattens_typed sources are.signatures are.texts p m is
