-- The first module that is refused, and why there is no program, layer by layer.
use Rattle.std.specs.Global.{Global}
use Rattle.std.proofs.Common.{◌≡◌, ℕ, suc, ◌<◌, List, [], ◌∷◌, length, map, take, drop, get_or, subst, inl, inr}
use Rattle.std.specs.Prelude.{◌⊎◌, Result, Ok, Err, IfErr, String, Vec, string_bytes}
use Rattle.lp_syntax.specs.declared.text.ModuleText.{ModuleText}
use Rattle.lp_syntax.specs.declared.text.SignatureText.{SignatureText}
use Rattle.lp_sig.specs.declared.signature.Signature.{Signature}
use Rattle.lp_module.specs.Order.{Visits}
use Rattle.lp_module.specs.Refusals.{IsOrderRefusal}
use Rattle.lp_module.specs.Words.{all_ways}
use Rattle.lp_module.specs.declared.fault.ModuleFault.{ModuleFault}
use Rattle.lp_module.specs.declared.module.Module.{Module}
use Rattle.lp_build.specs.Meant.{AreModulesAt, AreModulesOf}
use Rattle.lp_build.specs.Refused.{IsFirstText, IsModuleFault, IsRefusedModules, IsRefusedProgram, IsRefusedWhole, IsSignaturesFault}
use Rattle.lp_build.specs.Refused.{no_memory, of_codes, of_meaning, of_module, of_modules, of_order, of_program, of_signatures, of_text, of_whole}
use Rattle.lp_build.specs.Programs.{IsProgramOf}
use Rattle.lp_build.specs.Uncoded.{IsFirstUncoded}
use Rattle.lp_build.specs.declared.build.Built.{Built}
use Rattle.lp_build.specs.declared.build.Whole.{Whole}
use Rattle.lp_build.specs.declared.fault.BuildFault.{BuildFault}
use Rattle.lp_build.specs.declared.fault.BuildFault.TheVariants as fault
use Rattle.lp_build.specs.declared.sources.File.{File}
use Rattle.lp_build.specs.declared.sources.Sources.{Sources}
use Rattle.lp_build.specs.declared.texts.Group.{Group}
use Rattle.lp_build.specs.declared.texts.Texts.{Texts}
use Rattle.lp_build.specs.inner.Linked.{AreTextsSoFar}
use Rattle.lp_build.specs.inner.Refusing.{IsRefusedAmong, IsRefusedOf, IsToldOf}
use Rattle.lp_build.specs.inner.Wholes.{IsWhole}
use Rattle.lp_build.proofs.Texting.{split_at}

pub err_as : {T E : Type 0} (r : Result T E) (P Q : E → Type 0) → ((e : E) → P e → Q e) → IfErr r P → IfErr r Q
err_as (Ok x) P Q f h = h
err_as (Err e) P Q f h = f e h

-- a circle of accumulate
pub order_told : (files : List File) (g : Group SignatureText) (t : Group ModuleText) (names : List (String Global)) (sources : List (Vec ℕ Global))
    (texts : List ModuleText) (f : ModuleFault) (e : BuildFault) →
    names ≡ t.names.items → sources ≡ t.sources.items → texts ≡ t.texts.items → IsOrderRefusal (all_ways (map string_bytes names) sources texts) f → e ≡ of_module f → IsRefusedAmong files g t e
order_told files g t names sources texts f e a b d h is = inr (inl (
  f,
  subst (λ x. IsOrderRefusal (all_ways (map string_bytes x) t.sources.items t.texts.items) f) a
      (subst (λ x. IsOrderRefusal (all_ways (map string_bytes names) x t.texts.items) f) b
      (subst (λ x. IsOrderRefusal (all_ways (map string_bytes names) sources x) f) d h)),
  is,
))

-- the walk, over lists that are lent
pub walk_of : (t : Group ModuleText) (names : List (String Global)) (sources : List (Vec ℕ Global)) (texts : List ModuleText) (order : List ℕ) → names ≡ t.names.items → sources ≡ t.sources.items →
    texts ≡ t.texts.items → Visits (all_ways (map string_bytes names) sources texts) [] (0 ∷ []) order → Visits
    (all_ways (map string_bytes t.names.items) t.sources.items t.texts.items) [] (0 ∷ []) order
walk_of t names sources texts order a b d h =
    subst (λ x. Visits (all_ways (map string_bytes x) t.sources.items t.texts.items) [] (0 ∷ []) order) a
    (subst (λ x. Visits (all_ways (map string_bytes names) x t.texts.items) [] (0 ∷ []) order) b
    (subst (λ x. Visits (all_ways (map string_bytes names) sources x) [] (0 ∷ []) order) d h))

-- the first module
pub first_module : (files : List File) (g : Group SignatureText) (t : Group ModuleText) (order : List ℕ) (i p : ℕ) (before : List Module) (e : BuildFault) →
    Visits (all_ways (map string_bytes t.names.items) t.sources.items t.texts.items) [] (0 ∷ []) order → i < length order → p ≡ get_or order i p →
    AreModulesAt files g t (take i order) before → IsToldOf (IsModuleFault files g t p) e → IsRefusedAmong files g t e
first_module files g t order i p before e walk lt at are (inl m) = inl m
first_module files g t order i p before e walk lt at are (inr (f, h, is)) = inr (inr (record {
  order = order;
  front = take i order;
  place = p;
  back = drop (suc i) order;
  before = before;
  cause = f;
  walk = walk;
  split = split_at order i p lt at;
  meanings = are;
  refused = h;
  is = is;
}))

-- the layers
pub text_layer : (sources : Sources) (e : BuildFault) → (e ≡ fault.Memory) ⊎ IsFirstText sources.files.items e → IsRefusedWhole sources e
text_layer sources e (inl m) = no_memory m
text_layer sources e (inr h) = of_text h

pub signatures_layer : (sources : Sources) (texts : Texts) (e : BuildFault) → AreTextsSoFar sources.files.items (length sources.files.items) texts →
    IsSignaturesFault texts.signatures e → IsRefusedWhole sources e
signatures_layer sources texts e so h = of_signatures texts.signatures texts.modules (record { signatures = so.signatures; modules = so.modules }) h

pub modules_layer : (sources : Sources) (w : Whole) (e : BuildFault) → IsWhole sources.files.items w → IsRefusedAmong sources.files.items
    w.texts.signatures w.texts.modules e → IsRefusedModules sources e
modules_layer sources w e h (inl m) = of_whole (no_memory m)
modules_layer sources w e h (inr (inl o)) = of_order w.texts.signatures w.texts.modules (record { signatures = h.texts.signatures; modules = h.texts.modules }) h.every o
modules_layer sources w e h (inr (inr f)) = of_meaning w.texts.signatures w.texts.modules (record { signatures = h.texts.signatures; modules = h.texts.modules }) h.every f

pub program_layer : (sources : Sources) (w : Whole) (modules : List Module) (e : BuildFault) → IsWhole sources.files.items w → AreModulesOf
    sources.files.items w.texts.signatures w.texts.modules modules →
    IsRefusedOf modules e → IsRefusedProgram sources e
program_layer sources w modules e whole are (inl m) = of_modules (of_whole (no_memory m))
program_layer sources w modules e whole are (inr (root, f, last, h, is)) = of_program modules root f (record {
  signatures = w.texts.signatures;
  texts = w.texts.modules;
  signature_texts = whole.texts.signatures;
  module_texts = whole.texts.modules;
  meanings = are;
}) last h is

pub codes_layer : (sources : Sources) (w : Whole) (modules : List Module) (own : Signature) (built : Built) (e : BuildFault) → IsWhole sources.files.items w → AreModulesOf
    sources.files.items w.texts.signatures w.texts.modules modules →
    IsProgramOf modules own built → IsFirstUncoded modules e → IsRefusedProgram sources e
codes_layer sources w modules own built e whole are p h = of_codes modules p.root built.assembled (record {
  signatures = w.texts.signatures;
  texts = w.texts.modules;
  signature_texts = whole.texts.signatures;
  module_texts = whole.texts.modules;
  meanings = are;
}) p.last p.program h
