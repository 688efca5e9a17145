-- Why a module has no object, and modules have no image, layer by layer.
use Rattle.std.proofs.Common.{◌≡◌, ℕ, zero, suc, ◌+◌, ◌∙◌, List, [], ◌∷◌, length, take, get_or, refl, ap, subst, inl, inr, arith}
use Rattle.std.specs.Prelude.{◌⊎◌, All, Result, Ok, Err, IfErr, zip}
use Rattle.std.proofs.lemmas.List.{get_or_default}
use Rattle.lp_base.specs.declared.limit.Limit.TheVariants as limit
use Rattle.lp_code.specs.declared.image.Image.{Image}
use Rattle.lp_code.specs.declared.object.Object.{Object}
use Rattle.lp_link.specs.Refusals.{HasManyCopies, IsLinkRefusal}
use Rattle.lp_link.specs.declared.fault.LinkRefusal.{LinkRefusal}
use Rattle.lp_link.specs.declared.fault.LinkRefusal.TheVariants as link
use Rattle.lp_syntax.specs.declared.text.ModuleText.{ModuleText}
use Rattle.lp_syntax.specs.declared.text.SignatureText.{SignatureText}
use Rattle.lp_sig.specs.Refusals.{IsAt}
use Rattle.lp_module.specs.Sentences.{AreWithin}
use Rattle.lp_module.specs.declared.module.Module.{Module}
use Rattle.lp_build.specs.Compiled.{ArePaired, HasNamesOf, IsModuleOfFile, IsObjectOf}
use Rattle.lp_build.specs.Faults.{IsOfTexts}
use Rattle.lp_build.specs.Limits.{HasFewNames, HasManyNames, IsUnmade, NamesFew, NamesMany}
use Rattle.lp_build.specs.Meant.{AreModules}
use Rattle.lp_build.specs.Reads.{AreRead}
use Rattle.lp_build.specs.Refused.{AreWhole, IsModuleFault, no_memory}
use Rattle.lp_build.specs.Uncoded.{IsUncoded, IsWithinCode}
use Rattle.lp_build.specs.Unmade.{AreUnlinked, IsFirstUnmade, IsRefusedImage, IsRefusedObject, all_copies, no_image, no_link, no_meaning, no_object, no_texts, one_code, one_names, unlinked_memory}
use Rattle.lp_build.specs.declared.build.Whole.{Whole}
use Rattle.lp_build.specs.declared.fault.BuildFault.{BuildFault}
use Rattle.lp_build.specs.declared.fault.BuildFault.TheVariants as fault
use Rattle.lp_build.specs.declared.sources.File.{File}
use Rattle.lp_build.specs.declared.sources.Sources.{Sources}
use Rattle.lp_build.specs.declared.texts.Group.{Group}
use Rattle.lp_build.specs.inner.Refusing.{IsRefusedOfFile, IsToldOf, NeverDiffer, of_link}
use Rattle.lp_build.specs.inner.Wholes.{IsWhole}
use Rattle.lp_build.proofs.Causing.{err_as}
use Rattle.lp_build.proofs.Imaging.{modules_within}
use Rattle.lp_build.proofs.Refusing.{at_place}
use Rattle.lp_build.proofs.Uncoding.{at_all}
use Rattle.lp_build.proofs.Under.{never_for_a_name}

-- how a refusal of linking is told
pub link_texts : (r : LinkRefusal) → IsOfTexts (of_link r)
link_texts (link.Limit l) = tt
link_texts (link.Differ number part) = tt
link_texts link.Memory = tt

-- the module of a file
pub file_fault : (files : List File) (g : Group SignatureText) (t : Group ModuleText) (place number : ℕ) (r : Result Module BuildFault) → IsAt t.numbers.items place number → IfErr r (IsToldOf (IsModuleFault files g t place)) → IfErr r (IsRefusedOfFile files g t number)
file_fault files g t place number (Ok m) at h = tt
file_fault files g t place number (Err e) at (inl m) = inl m
file_fault files g t place number (Err e) at (inr (f, h, is)) = inr (record { place = place; there = at; cause = f; refused = h; is = is })

texts_of : (sources : Sources) (w : Whole) → IsWhole sources.files.items w → AreWhole sources w.texts.signatures w.texts.modules
texts_of sources w h = record { signatures = h.texts.signatures; modules = h.texts.modules }

pub file_layer : (sources : Sources) (w : Whole) (number : ℕ) (e : BuildFault) → IsWhole sources.files.items w → IsRefusedOfFile sources.files.items w.texts.signatures w.texts.modules number e → IsRefusedObject sources number e
file_layer sources w number e h (inl m) = no_texts (no_memory m)
file_layer sources w number e h (inr f) = no_meaning w.texts.signatures w.texts.modules (texts_of sources w h) h.every f

pub object_layer : (sources : Sources) (w : Whole) (number : ℕ) (m : Module) (r : Result Object BuildFault) → IsWhole sources.files.items w → IsModuleOfFile sources.files.items w.texts.signatures w.texts.modules number m
    → (AreWithin m.bank m.clauses.items → IfErr r (IsUnmade m)) → IfErr r (IsRefusedObject sources number)
object_layer sources w number m r whole is cause =
    err_as r (IsUnmade m) (IsRefusedObject sources number) (λ e u. no_object w.texts.signatures w.texts.modules (texts_of sources w whole) whole.every m is u) (cause is.is.meaning.clauses)

-- the numbers of an object's names are those of its module
pub many_of : (m : Module) (o : Object) → HasNamesOf m o → HasManyNames (length o.kinds.items) (length o.constants.items) → NamesMany m
many_of m o h many = subst (λ n. HasManyNames n (length m.signature.constants.items)) h.kinds.many (subst (HasManyNames (length o.kinds.items)) h.constants.many many)

pub few_of : (m : Module) (o : Object) → HasNamesOf m o → HasFewNames (length o.kinds.items) (length o.constants.items) → NamesFew m
few_of m o h few = subst (λ n. HasFewNames n (length m.signature.constants.items)) h.kinds.many (subst (HasFewNames (length o.kinds.items)) h.constants.many few)

-- modules with their objects
pub zip_front : (ms : List Module) (ns : List Object) (k : ℕ) (m : Module) (n : Object) → IsAt (zip ms ns) k (m, n) → IsAt ms k m
zip_front [] [] k m n (l, e) = absurd (omega (arith, l))
zip_front [] (o ∷ ns) k m n (l, e) = absurd (omega (arith, l))
zip_front (p ∷ ms) [] k m n (l, e) = absurd (omega (arith, l))
zip_front (p ∷ ms) (o ∷ ns) zero m n (l, e) = (omega arith, ap (λ x. x.0) e)
zip_front (p ∷ ms) (o ∷ ns) (suc k) m n (l, e) = let (h, f) = zip_front ms ns k m n (omega (arith, l), e) in (omega (arith, h), f)

pub zip_all : (ms : List Module) (ns : List Object) → length ns ≡ length ms → length (zip ms ns) ≡ length ms
zip_all [] [] e = refl
zip_all [] (o ∷ ns) e = refl
zip_all (p ∷ ms) [] e = absurd (omega (arith, e))
zip_all (p ∷ ms) (o ∷ ns) e = ap (λ n. suc n) (zip_all ms ns (omega (arith, e)))

pub first_unmade : (ms : List Module) (n : ℕ) (m : Module) (e : BuildFault) → IsAt ms n m → All IsWithinCode (take n ms) → IsUncoded m e → (e ≡ fault.Memory) ⊎ IsFirstUnmade ms e
first_unmade ms n m e at before is = inr (record { place = n; «module» = m; at = at; before = before; refused = is })

-- a refusal of the copies, over a list that is lent
pub copies_told : (os lent : List Object) (root : ℕ) (r : LinkRefusal) → root + 1 ≡ length os → lent ≡ os → (r ≡ link.Memory) ⊎ ((r ≡ link.Limit limit.Copies) × HasManyCopies lent root)
    → (of_link r ≡ fault.Memory) ⊎ ((root : ℕ) × (root + 1 ≡ length os) × HasManyCopies os root × (of_link r ≡ fault.Limit limit.Copies))
copies_told os lent root r last same (inl m) = inl (ap of_link m)
copies_told os lent root r last same (inr (is, many)) = inr (root, last, subst (λ l. HasManyCopies l root) same many, ap of_link is)

-- the limits of images
module _ (ms : List Module) where
  pub copies_layer : (named : List Object) (e : BuildFault) → ArePaired HasNamesOf ms (length ms) named
      → (e ≡ fault.Memory) ⊎ ((root : ℕ) × (root + 1 ≡ length named) × HasManyCopies named root × (e ≡ fault.Limit limit.Copies)) → AreUnlinked ms e
  copies_layer named e are (inl m) = unlinked_memory m
  copies_layer named e are (inr (root, last, many, is)) = all_copies named root are (last ∙ are.many) many is

  pub codes_told : (e : BuildFault) → (e ≡ fault.Memory) ⊎ IsFirstUnmade ms e → AreUnlinked ms e
  codes_told e (inl m) = unlinked_memory m
  codes_told e (inr h) = one_code h

  pub names_layer : (os : List Object) (e : BuildFault) → All IsWithinCode ms → ArePaired IsObjectOf ms (length ms) os
      → (e ≡ fault.Limit limit.Names) × ((k : ℕ) × (o : Object) × IsAt os k o × HasManyNames (length o.kinds.items) (length o.constants.items)) → AreUnlinked ms e
  names_layer os e coded are (is, (k, o, at, many)) =
      let (m, there) = at_place ms k (let l = at.0 in let n = are.many in omega (arith, l, n)) in
      one_names coded (record { place = k; «module» = m; at = there; many = many_of m o (are.each k m o there at).names many }) is

  pub names_few : (os : List Object) → ArePaired IsObjectOf ms (length ms) os → All (λ o. HasFewNames (length o.kinds.items) (length o.constants.items)) os → All NamesFew ms
  names_few os are few k d l =
      let m = get_or ms k d in
      let n = are.many in
      let (o, at) = at_place os k (omega (arith, l, n)) in
      few_of m o (are.each k m o (l, get_or_default ms k m d l) at).names (at_all (λ (o : Object). HasFewNames (length o.kinds.items) (length o.constants.items)) os k o at few)

  pub link_layer : (os : List Object) (e : BuildFault) → All IsWithinCode ms → All NamesFew ms → ArePaired IsObjectOf ms (length ms) os
      → NeverDiffer ms → (e ≡ fault.Memory) ⊎ ((root : ℕ) × (f : LinkRefusal) × (root + 1 ≡ length os) × IsLinkRefusal os root f × (e ≡ of_link f)) → AreUnlinked ms e
  link_layer os e coded few are never (inl m) = unlinked_memory m
  link_layer os e coded few are never (inr (root, link.Limit l, last, h, is)) = no_link coded few os root l are (last ∙ are.many) h is
  link_layer os e coded few are never (inr (root, link.Differ number p, last, h, is)) = absurd (never os are root number p h)
  link_layer os e coded few are never (inr (root, link.Memory, last, h, is)) = unlinked_memory is

pub image_layer : (sources : Sources) (ms : List Module) (r : Result Image BuildFault) → AreRead sources → AreModules sources ms → (All (λ m. AreWithin m.bank m.clauses.items) ms → NeverDiffer ms → IfErr r (AreUnlinked ms)) → IfErr r (IsRefusedImage sources)
image_layer sources ms r read are cause = err_as r (AreUnlinked ms) (IsRefusedImage sources) (λ e u. no_image ms are u) (cause (modules_within are.meanings.meanings) (never_for_a_name sources ms read are))
