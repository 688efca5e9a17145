-- A copy that is entered, with the names that are put: at the root those that it exports, below it none.
use Rattle.std.proofs.Common.{◌≡◌, ◌-◌, List, [], ◌∷◌, ◌++◌, length, Some, None, refl, sym, subst, ◌∙◌}
use Rattle.std.specs.Prelude.{slice_get}
use Rattle.lp_module.specs.Making.{IsMade}
use Rattle.lp_module.specs.Program.{Next, IsRoot, IsBelow, exported_kinds, exported_constants, exported_schemes}
use Rattle.lp_module.specs.declared.copies.Making.{Making}
use Rattle.lp_module.specs.declared.module.Module.{Module}
use Rattle.lp_module.specs.declared.numbers.Open.{Open}
use Rattle.lp_module.specs.inner.Assembling.{copy_of, AddsNames, Enters, EntersNames}
use Rattle.lp_module.proofs.Adding.{last_none, opens_root, opens_below}
use Rattle.lp_module.proofs.Tabled.{adds_none, adds_root}

pub enters_root : (a b c : Making) (old new l : List Open) (o : Open) (m : Module) (from : Next) → l ≡ old → None ≡ slice_get l (length l - 1) → new ≡ old ++ o ∷ [] → o.module.now ≡ m → IsRoot m from (copy_of 0 o) → IsMade a b →
    AddsNames a b (exported_kinds o.module.now) [] [] → AddsNames b c [] (exported_constants o.module.now) (exported_schemes (copy_of 0 o) o.module.now) → Enters a c old new m from
unfolding opens_root
enters_root a b c old new l o m from same none is of root made x y = record {
  opens = opens_root old new l o m from same none is of root;
  names = subst (λ os. EntersNames os a c o) (sym (last_none l none) ∙ same) (adds_root a b c o made x y);
}

pub enters_below : (a : Making) (old new l : List Open) (o p : Open) (m : Module) (from : Next) → l ≡ old → Some p ≡ slice_get l (length l - 1) → new ≡ old ++ o ∷ [] → o.module.now ≡ m → IsBelow p.module.now (copy_of 0 p) m from (copy_of 0 o) → Enters a a old new m from
unfolding opens_below
enters_below a old new l o p m from same some is of below = record {
  opens = opens_below old new l o p m from same some is of below;
  names = by old (λ e. none_some l p (same ∙ e) some);
}
  where
    none_some : (l : List Open) (p : Open) → l ≡ [] → Some p ≡ slice_get l (length l - 1) → ⊥
    none_some [] p e f = absurd (cc)
    none_some (x ∷ xs) p e f = absurd (cc)

    by : (os : List Open) → (os ≡ [] → ⊥) → EntersNames os a a o
    by [] f = absurd (f refl)
    by (q ∷ os) f = adds_none a
