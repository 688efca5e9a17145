-- The objects of modules, and the image that is linked from them.
use Rattle.std.proofs.Common.{◌≡◌, ◌∷◌, [], ◌+◌, ℕ, zero, suc, List, length, refl, subst, arith}
use Rattle.std.specs.Prelude.{All, Result, Ok, Err, IfOk, zip}
use Rattle.std.proofs.lemmas.List.Elements.{All-head, All-tail}
use Rattle.lp_lemmas.proofs.Elements.{All_empty, All_pushed}
use Rattle.lp_code.specs.declared.object.Object.{Object}
use Rattle.lp_code.specs.declared.image.Image.{Image}
use Rattle.lp_link.specs.Linked.{IsLinked}
use Rattle.lp_link.specs.Names.{IsNamed}
use Rattle.lp_link.specs.Refusals.{CanBeLinked}
use Rattle.lp_sig.specs.Refusals.{IsAt}
use Rattle.lp_syntax.specs.declared.text.ModuleText.{ModuleText}
use Rattle.lp_syntax.specs.declared.text.SignatureText.{SignatureText}
use Rattle.lp_module.specs.Sentences.{AreWithin}
use Rattle.lp_module.specs.declared.module.Module.{Module}
use Rattle.lp_build.specs.Compiled.{ArePaired, HasNamesOf, IsObjectOf}
use Rattle.lp_build.specs.Images.{IsImage, IsImageOf}
use Rattle.lp_build.specs.Meant.{AreModules, AreModulesAt, no_module, one_module}
use Rattle.lp_build.specs.inner.Coded.{IsCoded}
use Rattle.lp_build.specs.declared.fault.BuildFault.{BuildFault}
use Rattle.lp_build.specs.declared.sources.File.{File}
use Rattle.lp_build.specs.declared.sources.Sources.{Sources}
use Rattle.lp_build.specs.declared.texts.Group.{Group}
use Rattle.lp_build.proofs.Coding.{paired_head, paired_tail}

-- one more pair
pub paired_cons : {A B : Type 0} (P : A → B → Type 0) (x : A) (xs : List A) (y : B) (ys : List B) → P x y → ArePaired P xs (length xs) ys → ArePaired P (x ∷ xs) (length (x ∷ xs)) (y ∷ ys)
paired_cons P x xs y ys p h = record { many = let m = h.many in omega (arith, m); each = each }
  where
    each : (i : ℕ) (u : _) (v : _) → IsAt (x ∷ xs) i u → IsAt (y ∷ ys) i v → P u v
    each zero u v a b = subst (λ z. P z v) a.1 (subst (P x) b.1 p)
    each (suc i) u v a b = h.each i u v (let l = a.0 in omega (arith, l), a.1) (let l = b.0 in omega (arith, l), b.1)

-- the objects of modules, from their names and their code
pub objects_are : (ms : List Module) (ns os : List Object) → ArePaired HasNamesOf ms (length ms) ns → All (λ m. AreWithin m.bank m.clauses.items) ms
    → ArePaired IsCoded (zip ms ns) (length (zip ms ns)) os → ArePaired IsObjectOf ms (length ms) os
objects_are [] [] [] named within coded = record { many = refl; each = λ i m o a b. absurd (let l = a.0 in omega (arith, l)) }
objects_are [] [] (o ∷ os) named within coded = absurd (let m = coded.many in omega (arith, m))
objects_are [] (n ∷ ns) os named within coded = absurd (let m = named.many in omega (arith, m))
objects_are (m ∷ ms) [] os named within coded = absurd (let m = named.many in omega (arith, m))
objects_are (m ∷ ms) (n ∷ ns) [] named within coded = absurd (let m = coded.many in omega (arith, m))
objects_are (m ∷ ms) (n ∷ ns) (o ∷ os) named within coded =
    let is = paired_head IsCoded (m, n) (zip ms ns) (length (zip (m ∷ ms) (n ∷ ns))) o os coded in
    let names = is.names (paired_head HasNamesOf m ms (length (m ∷ ms)) n ns named) in
    paired_cons IsObjectOf m ms o os (is.code (All-head (λ m. AreWithin m.bank m.clauses.items) m ms within) names)
    (objects_are ms ns os (paired_tail HasNamesOf m ms n ns named) (All-tail (λ m. AreWithin m.bank m.clauses.items) m ms within) (paired_tail IsCoded (m, n) (zip ms ns) o os coded))

-- the image of modules
pub image_of_is : (ms : List Module) (os : List Object) (r : Result Image BuildFault) → ArePaired IsObjectOf ms (length ms) os
    → IfOk r (λ image. (root : ℕ) × (root + 1 ≡ length os) × CanBeLinked os root × IsLinked os root image × IsNamed os root image) → IfOk r (IsImageOf ms)
image_of_is ms os (Ok image) are (root, last, can, linked, named) = record { objects = os; are = are; root = root; last = last; can = can; linked = linked; named = named }
image_of_is ms os (Err e) are h = tt

-- the clauses of a module stand in its bank
pub modules_within : {files : List File} {g : Group SignatureText} {t : Group ModuleText} {ps : List ℕ} {ms : List Module} → AreModulesAt files g t ps ms → All (λ m. AreWithin m.bank m.clauses.items) ms
modules_within no_module = All_empty (λ (m : Module). AreWithin m.bank m.clauses.items) [] refl
modules_within (one_module ps all_ps ms all_ms p m before is e f) = All_pushed (λ (m : Module). AreWithin m.bank m.clauses.items) all_ms ms m f (modules_within before) is.meaning.clauses

-- the image of files
pub image_is : (sources : Sources) (ms : List Module) (r : Result Image BuildFault) → AreModules sources ms →
    (All (λ m. AreWithin m.bank m.clauses.items) ms → IfOk r (IsImageOf ms)) → IfOk r (IsImage sources)
image_is sources ms r are image = by r (image (modules_within are.meanings.meanings))
  where
    by : (r : Result Image BuildFault) → IfOk r (IsImageOf ms) → IfOk r (IsImage sources)
    by (Ok i) h = record { modules = ms; are = are; is = h }
    by (Err e) h = tt
