-- The types of the constants that the modules of texts see hold no kinds that these do not see.
use Rattle.std.proofs.Common.{◌≡◌, ℕ, ◌+◌, ◌-◌, ◌<◌, List, Bool, true, false, Some, length, refl, subst, arith}
use Rattle.std.specs.Prelude.{if◌then◌else◌, nat_lt, slice_get}
use Rattle.std.proofs.lemmas.Bool.{ltb-true}
use Rattle.std.proofs.lemmas.List.{length-map}
use Rattle.std.proofs.lemmas.Option.{slice_get_within}
use Rattle.lp_calculus.specs.Types.{Ty, Tys, var, param as type_param, con, arrow, no_types, types}
use Rattle.lp_syntax.specs.declared.text.ModuleText.{ModuleText}
use Rattle.lp_syntax.specs.declared.text.SignatureText.{SignatureText}
use Rattle.lp_term.specs.Nodes.{type_tree}
use Rattle.lp_sig.specs.Named.{AreWhole as AreWholeTypes, IsWhole, all_named, kind_name, kind_names, named, named_in}
use Rattle.lp_sig.specs.Said.{names_in}
use Rattle.lp_sig.specs.Standard.{standard_kinds}
use Rattle.lp_sig.specs.declared.entries.ConstantEntry.{ConstantEntry}
use Rattle.lp_sig.specs.declared.entries.KindEntry.{KindEntry}
use Rattle.lp_sig.specs.declared.signature.Signature.{Signature}
use Rattle.lp_sig.proofs.WholeTypes.{types_whole}
use Rattle.lp_module.specs.declared.module.Module.{Module}
use Rattle.lp_build.specs.Meant.{AreModules, IsModuleAt}
use Rattle.lp_build.specs.Reads.{AreRead}
use Rattle.lp_build.specs.Ready.{AreTypesOver, IsTypeOver}
use Rattle.lp_build.specs.Refused.{AreWhole}
use Rattle.lp_build.specs.SameNames.{HasOwnTypes, HaveOwnTypes}
use Rattle.lp_build.specs.declared.sources.Sources.{Sources}
use Rattle.lp_build.specs.declared.texts.Group.{Group}
use Rattle.lp_build.proofs.Joined.{meaning_at}
use Rattle.lp_build.proofs.TextModules.{meant_ready, texts_are}

-- kinds that have names are seen
module _ (s : Signature) where
  pub kind_over : (k : ℕ) (w : List ℕ) → kind_name (kind_names s) k ≡ Some w → k < 8 + length s.kinds.items
  kind_over k w e = by (nat_lt k 8) refl e
    where
      by : (t : Bool) → nat_lt k 8 ≡ t → (if t then slice_get (names_in standard_kinds) k else slice_get (kind_names s) (k - 8)) ≡ Some w → k < 8 + length s.kinds.items
      by true is e = let l = ltb-true k 8 is in omega (arith, l)
      by false is e =
          let l = slice_get_within (kind_names s) (k - 8) w e in
          let n = length-map s.kinds.items (λ (e : KindEntry). e.name.items) in
          omega (arith, l, n)

  mutual
    type_over : (T : Ty) → IsWhole (named (kind_name (kind_names s)) T) → IsTypeOver (8 + length s.kinds.items) T
    type_over (var i) h = tt
    type_over (type_param k) h = tt
    type_over (con k ts) ((w, e), h) = (kind_over k w e, types_over ts h)
    type_over (arrow a b) (g, h) = (type_over a g, type_over b h)

    types_over : (ts : Tys) → AreWholeTypes (all_named (kind_name (kind_names s)) ts) → AreTypesOver (8 + length s.kinds.items) ts
    types_over no_types h = tt
    types_over (types t ts) (g, h) = (type_over t g, types_over ts h)

module _ (sources : Sources) (g : Group SignatureText) (t : Group ModuleText) (read : AreRead sources) (texts : AreWhole sources g t) (place : ℕ) where
  pub own_types : (m : Module) → IsModuleAt sources.files.items g t place m → HasOwnTypes m
  own_types m is i e at =
      let whole = types_whole is.own is.used is.source.items is.text.lines.items m.signature (meant_ready sources g t read texts place m is) is.meaning.names is.meaning.theirs is.meaning.declared in
      type_over m.signature (type_tree m.signature.bank e.scheme.0) (subst (λ (e : ConstantEntry). IsWhole (named_in m.signature e.scheme)) at.1 (whole i e at.0))

module _ (sources : Sources) (modules : List Module) (read : AreRead sources) (are : AreModules sources modules) where
  pub all_own_types : HaveOwnTypes modules
  all_own_types k m at = let (p, is) = meaning_at sources modules read are k m at in own_types sources are.signatures are.texts read (texts_are sources modules read are) p m is
