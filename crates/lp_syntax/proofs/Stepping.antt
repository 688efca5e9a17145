-- What one symbol comes to, from the parts of the step.
use Rattle.std.proofs.Common.{◌≡◌, ℕ, ◌<◌, List, [], ◌∷◌, ◌++◌, length, Option, None, true, false, refl, sym, ap, ◌∙◌}
use Rattle.std.specs.Prelude.{Result, IfOk}
use Rattle.lp_syntax.specs.declared.held.Held.{Held}
use Rattle.lp_syntax.specs.declared.held.Held.TheVariants as held
use Rattle.lp_syntax.specs.declared.held.Doing.TheVariants as doing
use Rattle.lp_syntax.specs.declared.held.Step.{Step}
use Rattle.lp_syntax.specs.declared.held.Step.TheVariants as step
use Rattle.lp_syntax.specs.declared.node.Node.{Node}
use Rattle.lp_syntax.specs.declared.symbol.Sym.{Sym}
use Rattle.lp_syntax.specs.declared.symbol.Sym.TheVariants as sym_of
use Rattle.lp_syntax.specs.declared.symbol.Oper.{Oper}
use Rattle.lp_syntax.specs.declared.symbol.Fault.{Fault}
use Rattle.lp_syntax.specs.Symbols.{Tree, Leaf, Nil, Whole, fits_left, is_prefix}
use Rattle.lp_syntax.specs.Machine.{Frame, Move, Stops, attach, wants, fresh_list, closes_name, named_else, operator}
use Rattle.lp_syntax.specs.Nodes.{trees, at, Grows}
use Rattle.lp_syntax.specs.Views.{frame_of, frames_of, EachBelow, Steps}
use Rattle.lp_syntax.proofs.Arena.{grows_none}
use Rattle.lp_syntax.proofs.Views.{Items, frames_push, frames_kept, popped, if_ok}
use Rattle.lp_syntax.proofs.Closing.{has_list}

-- what the newest frame decides
pub on_top : {M : Type 0} (f : List Frame → M) (ts : List Tree) (ks hs : List Held) (h : Held) → ks ≡ hs ++ h ∷ [] → f (frame_of ts h ∷ frames_of ts hs) ≡ f (frames_of ts ks)
on_top f ts ks hs h e = ap f (sym (ap (frames_of ts) e ∙ frames_push ts hs h))

pub stops_on : (f : List Frame → Move) (ns : List Node) (ks hs hs' : List Held) (h : Held) (why : Fault) → ks ≡ hs ++ h ∷ [] → Stops why ≡ f (frame_of (trees ns) h ∷ frames_of (trees ns) hs) → Steps ns ns hs' (step.Stops why) (f (frames_of (trees ns) ks))
stops_on f ns ks hs hs' h why e s = record { is = s ∙ on_top f (trees ns) ks hs h e; grows = grows_none ns; below = tt }

pub stops_empty : (f : List Frame → Move) (ns : List Node) (ks hs' : List Held) (why : Fault) → ks ≡ [] → Stops why ≡ f [] → Steps ns ns hs' (step.Stops why) (f (frames_of (trees ns) ks))
stops_empty f ns ks hs' why e s = record { is = s ∙ ap (λ k. f (frames_of (trees ns) k)) (sym e); grows = grows_none ns; below = tt }

pub named_closed : (old new : List Node) (ks hs : List Held) (fn : Option ℕ) (o : Oper) (i : ℕ) → ks ≡ hs ++ held.Inside fn ∷ [] → Grows old new →
    EachBelow (length old) ks → i < length new → at (trees new) i ≡ Leaf o.spot → Steps old new hs (step.Goes (doing.Has fn i None))
    (closes_name (frames_of (trees old) ks) o)
named_closed old new ks hs fn o i e g b l t =
    let p = popped (length old) ks hs (held.Inside fn) e b in
    let s = has_list old new hs fn i (Leaf o.spot) g p.0 p.1 l t in
    record { is = s.is ∙ on_top (λ fs. closes_name fs o) (trees old) ks hs (held.Inside fn) e; grows = s.grows; below = s.below }

pub empty_closed : (old new : List Node) (ks hs : List Held) (v : ℕ) (fn : Option ℕ) (done : Items) (c i : ℕ) → ks ≡ hs ++ held.Item v fn done ∷ [] →
    Grows old new → EachBelow (length old) ks → i < length new → at (trees new) i ≡ Nil c → Steps old new hs (step.Goes (doing.Has fn i None))
    (fresh_list (frames_of (trees old) ks) (sym_of.ClosesList c))
empty_closed old new ks hs v fn done c i e g b l t =
    let p = popped (length old) ks hs (held.Item v fn done) e b in
    let s = has_list old new hs fn i (Nil c) g p.0 p.1.0 l t in
    record { is = s.is ∙ on_top (λ fs. fresh_list fs (sym_of.ClosesList c)) (trees old) ks hs (held.Item v fn done) e; grows = s.grows; below = s.below }

-- an operator behind a whole application is attached
whole_operates : (fs : List Frame) (t : Tree) (o : Oper) → is_prefix o.fixity ≡ false → attach fs t o ≡ operator fs Whole t o
unfolding fits_left
whole_operates fs t o p = rw p refl

-- a step behind a node that was made first
pub after_node : (f : List Frame → Tree → Move) (old mid new : List Node) (hs hs' : List Held) (x : ℕ) (t : Tree) (m : Move) → Grows old mid →
    EachBelow (length old) hs → at (trees mid) x ≡ t → f (frames_of (trees old) hs) t ≡ m → {E : Type 0} → (r : Result Step E) → IfOk r
    (λ s. Steps mid new hs' s (f (frames_of (trees mid) hs) (at (trees mid) x))) → IfOk r (λ s. Steps old new hs' s m)
after_node f old mid new hs hs' x t m g b e s r i = if_ok old mid new hs' _ m g ((λ k. f (frames_kept old mid hs g b k) (e k)) ∙ s) r i

pub operates_after : (old mid new : List Node) (hs hs' : List Held) (x : ℕ) (t : Tree) (o : Oper) → Grows old mid → EachBelow (length old) hs → at
    (trees mid) x ≡ t → is_prefix o.fixity ≡ false → {E : Type 0} → (r : Result Step E) → IfOk r
    (λ s. Steps mid new hs' s (attach (frames_of (trees mid) hs) (at (trees mid) x) o)) → IfOk r
    (λ s. Steps old new hs' s (operator (frames_of (trees old) hs) Whole t o))
operates_after old mid new hs hs' x t o g b e p r i = after_node (λ fs u. attach fs u o) old mid new hs hs' x t _ g b e (whole_operates (frames_of (trees old) hs) t o p) r i

pub waits_else : (ns new : List Node) (hs hs' hs'' : List Held) (o : Oper) (c : Sym) → hs' ≡ hs ++ held.Waits o None ∷ [] → is_prefix o.fixity ≡ true
    → {E : Type 0} → (r : Result Step E) → IfOk r (λ s. Steps ns new hs'' s (wants (frames_of (trees ns) hs') c)) → IfOk r
    (λ s. Steps ns new hs'' s (named_else (frames_of (trees ns) hs) o c))
waits_else ns new hs hs' hs'' o c e p r i = if_ok ns ns new hs'' _ _ (grows_none ns) (ap (λ fs. wants fs c) (ap (frames_of (trees ns)) e ∙ frames_push (trees ns) hs (held.Waits o None)) ∙ rw p refl) r i
