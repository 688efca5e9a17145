-- What closing a bracket or a list comes to.
use Rattle.std.proofs.Common.{◌≡◌, ℕ, ◌<◌, ◌≤◌, List, [], ◌∷◌, ◌++◌, length, Option, None, sym, ap, ◌∙◌, subst}
use Rattle.std.specs.Prelude.{Result, IfOk}
use Rattle.lp_syntax.specs.declared.held.Held.{Held}
use Rattle.lp_syntax.specs.declared.held.Held.TheVariants as held
use Rattle.lp_syntax.specs.declared.held.Doing.TheVariants as doing
use Rattle.lp_syntax.specs.declared.held.Step.{Step}
use Rattle.lp_syntax.specs.declared.held.Step.TheVariants as step
use Rattle.lp_syntax.specs.declared.node.Node.{Node}
use Rattle.lp_syntax.specs.declared.symbol.Sym.{Sym}
use Rattle.lp_syntax.specs.declared.symbol.Sym.TheVariants.{Bar}
use Rattle.lp_syntax.specs.declared.held.Doing.{Doing}
use Rattle.lp_syntax.specs.declared.symbol.Oper.{Oper}
use Rattle.lp_standard.specs.declared.fixity.Fixity.{Fixity}
use Rattle.lp_syntax.specs.declared.symbol.Fault.TheVariants.{Unexpected}
use Rattle.std.proofs.Common.{refl, true, false, Bool, get_or, zero, suc, ◌+◌, length-append, arith}
use Rattle.std.specs.Prelude.{if◌then◌else◌}
use Rattle.lp_syntax.specs.Symbols.{Form, By, is_prefix, Tree}
use Rattle.lp_syntax.specs.Machine.{Frame, Inside, Under, Waits, Stops, Item, Tail, Wants, Has, Move, Goes, st, close, wrap, FreshList, admits, prefixed, at as at_move}
use Rattle.lp_syntax.specs.Nodes.{trees, at, maybe, IsMaybeBelow, Grows}
use Rattle.lp_syntax.specs.Views.{done_of, frame_of, frames_of, AreItemsBelow, EachBelow, AdmitsAs, Steps, mode_of, IsDoingBelow, IsHeldBelow}
use Rattle.lp_syntax.proofs.Arena.{grows_none}
use Rattle.lp_syntax.proofs.Views.{Items, frames_push, done_push, each_more, items_push, items_more, maybe_more, maybe_kept, done_kept, frames_kept, pushed_below, if_ok}

pub has_list : (old new : List Node) (hs : List Held) (fn : Option ℕ) (i : ℕ) (u : Tree) → Grows old new → EachBelow (length old) hs → IsMaybeBelow
    (length old) fn → i < length new → at (trees new) i ≡ u → Steps old new hs (step.Goes (doing.Has fn i None))
    (Goes (st (frames_of (trees old) hs) (Has (maybe (trees old) fn) u None)))
has_list old new hs fn i u g b f l t = record {
  is = λ k. Goes (st (frames_kept old new hs g b k) (Has (maybe_kept old new fn g f k) (t k) None));
  grows = g;
  below = (each_more (length old) (length new) hs g.longer b, (maybe_more (length old) (length new) fn g.longer f, l));
}

pub pushed_items : (n m : ℕ) (is js : List (ℕ × ℕ)) (i : ℕ × ℕ) → js ≡ is ++ i ∷ [] → n ≤ m → AreItemsBelow n is → i.1 < n → AreItemsBelow m js
pushed_items n m is js i e l b h = items_more n m js l (subst (AreItemsBelow n) (sym e) (items_push n is i b h))

pub list_tree : (old mid : List Node) (is js : List (ℕ × ℕ)) (v x : ℕ) (t u w : Tree) → js ≡ is ++ (v, x) ∷ [] → Grows old mid → AreItemsBelow (length old) is → x < length old → t ≡ w → u ≡ wrap (done_of (trees mid) js) t → u ≡ wrap ((v, at (trees old) x) ∷ done_of (trees old) is) w
list_tree old mid is js v x t u w e g b l f h =
    let b' = subst (AreItemsBelow (length old)) (sym e) (items_push (length old) is (v, x) b l) in
    h ∙ (λ k. wrap (done_kept old mid js g b' k) (f k)) ∙ ap (λ d. wrap d w) (ap (done_of (trees old)) e ∙ done_push (trees old) is (v, x))

pub bar_steps : (old : List Node) (hs hs' : List Held) (v : ℕ) (fn : Option ℕ) (done done' : Items) (x : ℕ) → done'.items ≡ done.items ++ (v, x) ∷ []
    → hs' ≡ hs ++ held.Tail fn done' ∷ [] → EachBelow (length old) hs → IsMaybeBelow (length old) fn → AreItemsBelow (length old) done.items → x <
    length old → Steps old old hs' (step.Goes doing.Wants) (close (Item v (maybe (trees old) fn) (done_of (trees old) done.items) ∷ frames_of
    (trees old) hs) (at (trees old) x) Bar)
bar_steps old hs hs' v fn done done' x d q e f b l = record {
  is = ap (λ k. Goes (st (frames_of (trees old) k) Wants)) q ∙ ap (λ fs. Goes (st fs Wants)) (frames_push (trees old) hs (held.Tail fn done')) ∙ ap
      (λ is. Goes (st (Tail (maybe (trees old) fn) is ∷ frames_of (trees old) hs) Wants))
      (ap (done_of (trees old)) d ∙ done_push (trees old) done.items (v, x));
  grows = grows_none old;
  below = (pushed_below (length old) hs hs' (held.Tail fn done') q e (f, subst (AreItemsBelow (length old)) (sym d) (items_push (length old) done.items (v, x) b l)), tt);
}

pub close_top : (ts : List Tree) (ks hs : List Held) (h : Held) (t : Tree) (c : Sym) (m : Move) → ks ≡ hs ++ h ∷ [] → close (frames_of ts ks) t c ≡ m → close (frame_of ts h ∷ frames_of ts hs) t c ≡ m
close_top ts ks hs h t c m e s = ap (λ fs. close fs t c) (sym (ap (frames_of ts) e ∙ frames_push ts hs h)) ∙ s

pub waits_closed : (now new : List Node) (ks hs : List Held) (h : Held) (x x' : ℕ) (c : Sym) (m : Move) (u : Tree) → ks ≡ hs ++ h ∷ [] → Grows now new
    → EachBelow (length now) hs → at (trees new) x' ≡ u → close (frame_of (trees now) h ∷ frames_of (trees now) hs) (at (trees now) x) c ≡ close
    (frames_of (trees now) hs) u c → close (frames_of (trees now) ks) (at (trees now) x) c ≡ m → close (frames_of (trees new) hs) (at (trees new) x')
    c ≡ m
waits_closed now new ks hs h x x' c m u e g b t k s = (λ i. close (frames_kept now new hs g b i) (t i) c) ∙ sym k ∙ close_top (trees now) ks hs h (at (trees now) x) c m e s

pub closes_with : (old now new : List Node) (ks hs hs'' : List Held) (h : Held) (x : ℕ) (c : Sym) (m : Move) → Grows old now → ks ≡ hs ++ h ∷ [] →
    close (frames_of (trees now) ks) (at (trees now) x) c ≡ m → {E : Type 0} → (r : Result Step E) → IfOk r
    (λ s. Steps now new hs'' s (close (frame_of (trees now) h ∷ frames_of (trees now) hs) (at (trees now) x) c)) → IfOk r
    (λ s. Steps old new hs'' s m)
closes_with old now new ks hs hs'' h x c m g e s r i = if_ok old now new hs'' _ m g (close_top (trees now) ks hs h (at (trees now) x) c m e s) r i

pub closes_bracket : (old now : List Node) (ks hs : List Held) (h : Held) (x : ℕ) (c : Sym) (m : Move) (s : Step) → Grows old now → ks ≡ hs ++ h ∷ []
    → close (frames_of (trees now) ks) (at (trees now) x) c ≡ m → Steps now now hs s
    (close (frame_of (trees now) h ∷ frames_of (trees now) hs) (at (trees now) x) c) → Steps old now hs s m
closes_bracket old now ks hs h x c m s g e k i = record { is = i.is ∙ close_top (trees now) ks hs h (at (trees now) x) c m e k; grows = g; below = i.below }

pub has_steps : (old new : List Node) (hs : List Held) (fn : Option ℕ) (i : ℕ) (w : Option ℕ) (u : Tree) → Grows old new → EachBelow (length old) hs →
    IsMaybeBelow (length old) fn → i < length new → at (trees new) i ≡ u → Steps old new hs (step.Goes (doing.Has fn i w))
    (Goes (st (frames_of (trees old) hs) (Has (maybe (trees old) fn) u w)))
has_steps old new hs fn i w u g b f l t = record {
  is = λ k. Goes (st (frames_kept old new hs g b k) (Has (maybe_kept old new fn g f k) (t k) w));
  grows = g;
  below = (each_more (length old) (length new) hs g.longer b, (maybe_more (length old) (length new) fn g.longer f, l));
}

pub push_steps : (old : List Node) (hs hs' : List Held) (h : Held) (m : Doing) → hs' ≡ hs ++ h ∷ [] → EachBelow (length old) hs → IsHeldBelow
    (length old) h → IsDoingBelow (length old) m → Steps old old hs' (step.Goes m) (Goes
    (st (frame_of (trees old) h ∷ frames_of (trees old) hs) (mode_of (trees old) m)))
push_steps old hs hs' h m q e i j = record {
  is = ap (λ k. Goes (st (frames_of (trees old) k) (mode_of (trees old) m))) q ∙ ap (λ fs. Goes (st fs (mode_of (trees old) m))) (frames_push (trees old) hs h);
  grows = grows_none old;
  below = (pushed_below (length old) hs hs' h q e i, j);
}

pub list_steps : (old : List Node) (hs hs' : List Held) (v : ℕ) (fn : Option ℕ) (done : Items) → done.items ≡ [] → hs' ≡ hs ++ held.Item v fn done ∷
    [] → EachBelow (length old) hs → IsMaybeBelow (length old) fn → Steps old old hs' (step.Goes doing.FreshList)
    (Goes (st (Item v (maybe (trees old) fn) [] ∷ frames_of (trees old) hs) FreshList))
list_steps old hs hs' v fn done d q e f =
    let s = push_steps old hs hs' (held.Item v fn done) doing.FreshList q e (f, subst (AreItemsBelow (length old)) (sym d) tt) tt in
    record { is = s.is ∙ ap (λ is. Goes (st (Item v (maybe (trees old) fn) is ∷ frames_of (trees old) hs) FreshList)) (ap (done_of (trees old)) d); grows = s.grows; below = s.below }

pub prefixed_steps : (old : List Node) (hs hs' : List Held) (o : Oper) → hs' ≡ hs ++ held.Waits o None ∷ [] → EachBelow (length old) hs → is_prefix o.fixity ≡ true → AdmitsAs hs o.fixity o.number true → Steps old old hs' (step.Goes doing.Wants) (prefixed (frames_of (trees old) hs) o)
prefixed_steps old hs hs' o q e p a = rw (p, a.is (trees old)) (push_steps old hs hs' (held.Waits o None) doing.Wants q e tt tt)

pub prefixed_stops : (old : List Node) (hs : List Held) (o : Oper) → AdmitsAs hs o.fixity o.number false → Steps old old hs (step.Stops Unexpected) (prefixed (frames_of (trees old) hs) o)
prefixed_stops old hs o a = record { is = go (is_prefix o.fixity); grows = grows_none old; below = tt }
  where
    go : (b : Bool) → Stops Unexpected ≡ (if b then (if admits (frames_of (trees old) hs) (By o.fixity o.number) then at_move (Waits o None ∷ frames_of (trees old) hs) Wants else Stops Unexpected) else Stops Unexpected)
    go true = rw (a.is (trees old)) refl
    go false = refl

frames_last : (ts : List Tree) (hs : List Held) (h : Held) (i : ℕ) → i + 1 ≡ length hs → h ≡ get_or hs i h → (f : Form) → admits (frames_of ts hs) f ≡ admits (frame_of ts h ∷ []) f
frames_last ts [] h i e g f = absurd (omega arith)
frames_last ts (x ∷ []) h zero e g f = ap (λ y. admits (frame_of ts y ∷ []) f) (sym g)
frames_last ts (x ∷ []) h (suc i) e g f = absurd (omega arith)
frames_last ts (x ∷ y ∷ hs) h zero e g f = absurd (omega arith)
frames_last ts (x ∷ y ∷ hs) h (suc i) e g f = admits_front (frames_of ts (y ∷ hs)) (frame_of ts x) f (frames_some ts y hs) ∙ frames_last ts (y ∷ hs) h i (omega arith) g f
  where
    frames_some : (ts : List Tree) (y : Held) (hs : List Held) → 0 < length (frames_of ts (y ∷ hs))
    frames_some ts y hs = let l = length-append (frames_of ts hs) (frame_of ts y ∷ []) in omega (arith, l)

    admits_front : (fs : List Frame) (z : Frame) (f : Form) → 0 < length fs → admits (fs ++ z ∷ []) f ≡ admits fs f
    admits_front [] z f l = absurd (omega arith)
    admits_front (Waits o w ∷ fs) z f l = refl
    admits_front (Under v y w ∷ fs) z f l = refl
    admits_front (Inside w ∷ fs) z f l = refl
    admits_front (Item v w d ∷ fs) z f l = refl
    admits_front (Tail w d ∷ fs) z f l = refl

pub admits_as : (hs : List Held) (h : Held) (i : ℕ) (g : Fixity) (k : ℕ) (b : Bool) → i + 1 ≡ length hs → h ≡ get_or hs i h → ((ts : List Tree) → admits (frame_of ts h ∷ []) (By g k) ≡ b) → AdmitsAs hs g k b
admits_as hs h i g k b e q a = record { is = λ ts. frames_last ts hs h i e q (By g k) ∙ a ts }
