-- What the modules of texts have: signatures as texts have them, and the types that are written.
use Rattle.std.proofs.Common.{ℕ, [], List, refl}
use Rattle.std.specs.Prelude.{All, string_bytes}
use Rattle.lp_lemmas.proofs.Elements.{All_empty, All_pushed}
use Rattle.lp_syntax.specs.declared.text.ModuleText.{ModuleText}
use Rattle.lp_syntax.specs.declared.text.SignatureText.{SignatureText}
use Rattle.lp_sig.specs.AsWritten.{AreReady, DeclaresAsWritten}
use Rattle.lp_module.specs.declared.fault.ModuleFault.{ModuleFault}
use Rattle.lp_module.specs.declared.module.Module.{Module}
use Rattle.lp_build.specs.Meant.{AreModules, AreModulesAt, IsAsWritten, IsModuleAt, no_module, one_module}
use Rattle.lp_build.specs.Reads.{AreRead}
use Rattle.lp_build.specs.Refused.{AreWhole, IsModuleFault}
use Rattle.lp_build.specs.declared.sources.Sources.{Sources}
use Rattle.lp_build.specs.declared.texts.Group.{Group}
use Rattle.lp_build.proofs.Joined.{ready}

module _ (sources : Sources) (g : Group SignatureText) (t : Group ModuleText) (read : AreRead sources) (texts : AreWhole sources g t) (place : ℕ) where
  pub meant_ready : (m : Module) (is : IsModuleAt sources.files.items g t place m) → AreReady is.own is.used is.source.items is.text.lines.items
  meant_ready m is = ready sources.files.items g t read.each texts.modules place is.number (string_bytes is.name) is.source is.text is.own is.used is.at_number is.at_source is.at_text is.own_is is.used_are

  pub refused_ready : (e : ModuleFault) (is : IsModuleFault sources.files.items g t place e) → AreReady is.own is.used is.source.items is.text.lines.items
  refused_ready e is = ready sources.files.items g t read.each texts.modules place is.number (string_bytes is.name) is.source is.text is.own is.used is.at_number is.at_source is.at_text is.own_is is.used_are

  pub as_written : (m : Module) (is : IsModuleAt sources.files.items g t place m) → DeclaresAsWritten is.own is.used is.source.items is.text.lines.items m.signature
  as_written m is = is.meaning.declared (meant_ready m is)

module _ (sources : Sources) (modules : List Module) (read : AreRead sources) (are : AreModules sources modules) where
  pub texts_are : AreWhole sources are.signatures are.texts
  texts_are = record { signatures = are.signature_texts; modules = are.module_texts }

  pub all_written : All (IsAsWritten sources.files.items are.signatures are.texts) modules
  all_written = go are.meanings.meanings
    where
      go : {ps : List ℕ} {ms : List Module} → AreModulesAt sources.files.items are.signatures are.texts ps ms → All (IsAsWritten sources.files.items are.signatures are.texts) ms
      go no_module = All_empty (IsAsWritten sources.files.items are.signatures are.texts) [] refl
      go (one_module ps all_ps ms all_ms p m before is e f) =
          All_pushed (IsAsWritten sources.files.items are.signatures are.texts) all_ms ms m f (go before)
          (record { place = p; is = is; declared = as_written sources are.signatures are.texts read texts_are p m is })
