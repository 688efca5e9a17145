-- What the end of a term comes to.
use Rattle.std.proofs.Common.{◌≡◌, ℕ, ◌<◌, List, [], ◌∷◌, ◌++◌, length, Option, Some, None, sym, ap, ◌∙◌}
use Rattle.std.specs.Prelude.{Result, Ok, Err, IfOk}
use Rattle.lp_syntax.specs.declared.held.Held.{Held}
use Rattle.lp_syntax.specs.declared.node.Node.{Node}
use Rattle.lp_syntax.specs.Symbols.{Tree}
use Rattle.lp_syntax.specs.Machine.{finish}
use Rattle.lp_syntax.specs.Nodes.{trees, at, Grows}
use Rattle.lp_syntax.specs.Views.{frame_of, frames_of, EachBelow, Finishes}
use Rattle.lp_syntax.proofs.Arena.{grows_on}
use Rattle.lp_syntax.proofs.Views.{frames_kept}
use Rattle.lp_syntax.proofs.Stepping.{on_top}

pub waits_finished : (now new : List Node) (ks hs : List Held) (h : Held) (x x' : ℕ) (m : Option Tree) (u : Tree) → ks ≡ hs ++ h ∷ [] → Grows now new
    → EachBelow (length now) hs → at (trees new) x' ≡ u → finish (frame_of (trees now) h ∷ frames_of (trees now) hs) (at (trees now) x) ≡ finish
    (frames_of (trees now) hs) u → finish (frames_of (trees now) ks) (at (trees now) x) ≡ m → finish (frames_of (trees new) hs) (at (trees new) x') ≡
    m
waits_finished now new ks hs h x x' m u e g b t k s =
    (λ i. finish (frames_kept now new hs g b i) (t i)) ∙ sym k ∙ on_top (λ fs. finish fs (at (trees now) x)) (trees now) ks hs h e ∙ s

-- a bracket is open
pub stays_open : (old now : List Node) (ks hs : List Held) (h : Held) (x : ℕ) (m : Option Tree) → Grows old now → ks ≡ hs ++ h ∷ [] → None ≡ finish
    (frame_of (trees now) h ∷ frames_of (trees now) hs) (at (trees now) x) → finish (frames_of (trees now) ks) (at (trees now) x) ≡ m → Finishes old
    now None m
stays_open old now ks hs h x m g e n s = record { is = n ∙ on_top (λ fs. finish fs (at (trees now) x)) (trees now) ks hs h e ∙ s; grows = g; below = tt }

-- nothing waits
pub is_whole : (old now : List Node) (ks : List Held) (x : ℕ) (m : Option Tree) → Grows old now → x < length now → ks ≡ [] → finish (frames_of (trees now) ks) (at (trees now) x) ≡ m → Finishes old now (Some x) m
is_whole old now ks x m g l e s = record { is = ap (λ k. finish (frames_of (trees now) k) (at (trees now) x)) (sym e) ∙ s; grows = g; below = l }

pub finishes_after : (old mid new : List Node) (hs : List Held) (x : ℕ) (t : Tree) → Grows old mid → EachBelow (length old) hs → at (trees mid) x ≡ t
    → {E : Type 0} → (r : Result (Option ℕ) E) → IfOk r (λ o. Finishes mid new o (finish (frames_of (trees mid) hs) (at (trees mid) x))) → IfOk r
    (λ o. Finishes old new o (finish (frames_of (trees old) hs) t))
finishes_after old mid new hs x t g b e (Ok o) i = record { is = i.is ∙ (λ k. finish (frames_kept old mid hs g b k) (e k)); grows = grows_on old mid new g i.grows; below = i.below }
finishes_after old mid new hs x t g b e (Err f) i = tt
