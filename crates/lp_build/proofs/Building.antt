-- The program of modules that are those of files.
use Rattle.std.specs.Borrow.{Bor}
use Rattle.std.specs.Global.{Global}
use Rattle.std.proofs.Common.{◌≡◌, ℕ, ◌+◌, List, length, sym, subst, Option, Some, None}
use Rattle.std.specs.Prelude.{Result, Ok, Err, IfOk, IfSome, All, String, string_bytes}
use Rattle.lp_sig.specs.Refusals.{IsAt}
use Rattle.lp_sig.specs.declared.signature.Signature.{Signature}
use Rattle.lp_module.specs.Program.{IsProgram}
use Rattle.lp_module.specs.declared.copies.Assembled.{Assembled}
use Rattle.lp_module.specs.declared.module.Module.{Module}
use Rattle.lp_build.specs.Meant.{AreModulesOf, IsOwnSignature}
use Rattle.lp_build.specs.Programs.{IsBuilt, IsProgramOf}
use Rattle.lp_build.specs.Queried.{IsSeenByQueries}
use Rattle.lp_build.specs.Uncoded.{IsWithinCode}
use Rattle.lp_build.specs.inner.Wholes.{IsRootSignature, IsSeenOf, IsWhole}
use Rattle.lp_build.specs.declared.build.Built.{Built}
use Rattle.lp_build.specs.declared.build.Whole.{Whole}
use Rattle.lp_build.specs.declared.fault.BuildFault.{BuildFault}
use Rattle.lp_build.specs.declared.sources.File.{File}
use Rattle.lp_build.specs.declared.sources.Sources.{Sources}

pub root_is : (files : List File) (w : Whole) (name : String Global) (bytes : List ℕ) (r : Option (Bor Signature)) → bytes ≡ string_bytes name → IsAt
    w.texts.modules.names.items 0 name → IfSome r (λ own. IsOwnSignature files w.texts.signatures bytes own.now) →
    IfSome r (λ own. IsRootSignature files w own.now)
root_is files w name bytes None e at h = tt
root_is files w name bytes (Some own) e at h = record { name = name; first = at; is = subst (λ n. IsOwnSignature files w.texts.signatures n own.now) e h }

pub program_is : (modules : List Module) (own : Signature) (root : ℕ) (assembled : Assembled) (built : Built) → root + 1 ≡ length modules → IsProgram
    modules root assembled → IsSeenOf own assembled built → IsProgramOf modules own built
program_is modules own root assembled built last h s = record {
  root = root;
  last = last;
  program = subst (IsProgram modules root) (sym s.same) h;
  seen = subst (λ a. IsSeenByQueries own a.kinds.items a.constants.items built.signature) (sym s.same) s.seen;
  operators = s.operators;
}

pub built_is : (sources : Sources) (w : Whole) (modules : List Module) (own : Signature) (r : Result Built BuildFault) → IsWhole sources.files.items w
    → AreModulesOf sources.files.items w.texts.signatures w.texts.modules modules → IsRootSignature sources.files.items w own →
    All IsWithinCode modules → IfOk r (IsProgramOf modules own) → IfOk r (IsBuilt sources)
built_is sources w modules own (Err e) whole are root coded h = tt
built_is sources w modules own (Ok built) whole are root coded h = record {
  modules = modules;
  are = record { signatures = w.texts.signatures; texts = w.texts.modules; signature_texts = whole.texts.signatures; module_texts = whole.texts.modules; meanings = are };
  name = root.name;
  first = root.first;
  own = own;
  own_is = root.is;
  program = h;
  coded = coded;
}
