-- Two searches in step: where each look of the one is the image of the other's and none denies a goal, so is each run.
use Rattle.std.proofs.Common.{◌≡◌, ℕ, map, refl, ◌∙◌}
use Rattle.std.specs.Prelude.{Bool, false}
use Rattle.lp_model.specs.Skeleton.{View, Gives, Opens, Parts, Takes, Cuts, Denies, Halts, Lacks, State, Inner, inner, run}
pub use Rattle.lp_search_laws.proofs.Stack.Alongside.{state_map, told_map, oldest_map}
use Rattle.lp_search_laws.proofs.Stack.Alongside.{images, Agree, alongside}

-- no goal is denied
abbrev pub HasNoDenial : {T A : Type 0} → View T A → Type 0
HasNoDenial (Denies t is_final ts) = ⊥
HasNoDenial v = Unit {0}

module _ {T A T0 A0 : Type 0} (f : T → T0) (g : A → A0) where
  abbrev pub view_map : View T A → View T0 A0
  view_map (Gives a) = Gives (g a)
  view_map (Opens ts) = Opens (map f ts)
  view_map (Parts ts) = Parts (map f ts)
  view_map (Takes name ts) = Takes name (map f ts)
  view_map (Cuts m ts) = Cuts m (map f ts)
  view_map (Denies t is_final ts) = Lacks
  view_map (Halts e) = Halts e
  view_map Lacks = Lacks

  none_final : (A → Bool) → A0 → Bool
  none_final p a = false

  same_image : (w : View T A) → HasNoDenial w → view_map w ≡ images f g f none_final w
  same_image (Gives a) h = refl
  same_image (Opens ts) h = refl
  same_image (Parts ts) h = refl
  same_image (Takes name ts) h = refl
  same_image (Cuts m ts) h = refl
  same_image (Denies t is_final ts) h = absurd h
  same_image (Halts e) h = refl
  same_image Lacks h = refl

  none_denied : (go : (A → Bool) → State T → Inner) (go0 : (A0 → Bool) → State T0 → Inner) (w : View T A) → HasNoDenial w → Agree f g f none_final go go0 w
  none_denied go go0 (Gives a) h = tt
  none_denied go go0 (Opens ts) h = tt
  none_denied go go0 (Parts ts) h = tt
  none_denied go go0 (Takes name ts) h = tt
  none_denied go go0 (Cuts m ts) h = tt
  none_denied go go0 (Denies t is_final ts) h = absurd h
  none_denied go go0 (Halts e) h = tt
  none_denied go go0 Lacks h = tt

  module _ (look : ℕ → T → View T A) (look0 : ℕ → T0 → View T0 A0) (same : (height : ℕ) (t : T) → look0 height (f t) ≡ view_map (look height t)) (plain : (height : ℕ) (t : T) → HasNoDenial (look height t)) where
    pub in_step : (j n : ℕ) (s : State T) → run look0 j n (state_map f g s) ≡ told_map f g (run look j n s)
    in_step j n s =
        alongside f g f none_final look look0 (λ height t. same height t ∙ same_image (look height t) (plain height t)) (λ i height t. none_denied (inner look i) (inner look0 i) (look height t) (plain height t)) j n s
