-- The reader's state as it changes.
use Rattle.std.proofs.Common.{Vec, Global}
use Rattle.std.proofs.Common.{◌≡◌, ℕ, true, false, ◌<◌, ◌≤◌, List, [], ◌∷◌, ◌++◌, length, Option, Some, None, refl, sym, ap, ◌∙◌, arith, subst, take, get_or, zero, suc, ◌+◌}
use Rattle.std.specs.Prelude.{Result, Ok, Err, IfOk}
use Rattle.lp_syntax.specs.declared.held.Held.{Held}
use Rattle.lp_syntax.specs.declared.held.Held.TheVariants as held
use Rattle.lp_syntax.specs.declared.held.Doing.TheVariants as doing
use Rattle.lp_syntax.specs.declared.held.Step.{Step}
use Rattle.lp_syntax.specs.declared.held.Step.TheVariants as step
use Rattle.lp_syntax.specs.declared.node.Node.{Node}
use Rattle.lp_syntax.specs.declared.symbol.Oper.{Oper}
use Rattle.lp_syntax.specs.declared.symbol.Fault.TheVariants.{Ambiguous}
use Rattle.lp_syntax.specs.Symbols.{Tree, Leaf, App, cons, By, is_postfix, fits_left, fits_right, is_item, separates}
use Rattle.lp_syntax.specs.Machine.{Frame, Waits, Under, Inside, Item, Tail, Wants, Formed, Move, Goes, Stops, st, takes, attach, operated, wrap}
use Rattle.lp_syntax.specs.Nodes.{trees, at, maybe, IsMaybeBelow, Grows}
use Rattle.lp_syntax.specs.Views.{done_of, frame_of, frames_of, AreItemsBelow, IsHeldBelow, EachBelow, Steps}
use Rattle.lp_syntax.proofs.Arena.{grows_none, grows_on}

abbrev pub Items : Type 0
Items = Vec (ℕ × ℕ) Global

pub frames_push : (ts : List Tree) (hs : List Held) (h : Held) → frames_of ts (hs ++ h ∷ []) ≡ frame_of ts h ∷ frames_of ts hs
frames_push ts [] h = refl
frames_push ts (x ∷ hs) h = ap (λ l. l ++ frame_of ts x ∷ []) (frames_push ts hs h)

pub done_push : (ts : List Tree) (is : List (ℕ × ℕ)) (i : ℕ × ℕ) → done_of ts (is ++ i ∷ []) ≡ (i.0, at ts i.1) ∷ done_of ts is
done_push ts [] i = refl
done_push ts (x ∷ is) i = ap (λ l. l ++ (x.0, at ts x.1) ∷ []) (done_push ts is i)

pub each_push : (n : ℕ) (hs : List Held) (h : Held) → EachBelow n hs → IsHeldBelow n h → EachBelow n (hs ++ h ∷ [])
each_push n [] h e i = (i, tt)
each_push n (x ∷ hs) h e i = (e.0, each_push n hs h e.1 i)

pub each_pop : (n : ℕ) (hs : List Held) (h : Held) → EachBelow n (hs ++ h ∷ []) → EachBelow n hs × IsHeldBelow n h
each_pop n [] h e = (tt, e.0)
each_pop n (x ∷ hs) h e = let r = each_pop n hs h e.1 in ((e.0, r.0), r.1)

pub items_push : (n : ℕ) (is : List (ℕ × ℕ)) (i : ℕ × ℕ) → AreItemsBelow n is → i.1 < n → AreItemsBelow n (is ++ i ∷ [])
items_push n [] i e h = (h, tt)
items_push n (x ∷ is) i e h = (e.0, items_push n is i e.1 h)

pub maybe_more : (n m : ℕ) (o : Option ℕ) → n ≤ m → IsMaybeBelow n o → IsMaybeBelow m o
maybe_more n m None l h = tt
maybe_more n m (Some i) l h = omega (arith, l, h)

pub items_more : (n m : ℕ) (is : List (ℕ × ℕ)) → n ≤ m → AreItemsBelow n is → AreItemsBelow m is
items_more n m [] l h = tt
items_more n m (i ∷ is) l h = (let a = h.0 in omega (arith, l, a), items_more n m is l h.1)

held_more : (n m : ℕ) (h : Held) → n ≤ m → IsHeldBelow n h → IsHeldBelow m h
held_more n m (held.Waits o x) l h = maybe_more n m x l h
held_more n m (held.Under v y x) l h = maybe_more n m x l h
held_more n m (held.Inside x) l h = maybe_more n m x l h
held_more n m (held.Item v x done) l h = (maybe_more n m x l h.0, items_more n m done.items l h.1)
held_more n m (held.Tail x done) l h = (maybe_more n m x l h.0, items_more n m done.items l h.1)

pub each_more : (n m : ℕ) (hs : List Held) → n ≤ m → EachBelow n hs → EachBelow m hs
each_more n m [] l h = tt
each_more n m (x ∷ hs) l h = (held_more n m x l h.0, each_more n m hs l h.1)

pub maybe_kept : (old new : List Node) (o : Option ℕ) → Grows old new → IsMaybeBelow (length old) o → maybe (trees new) o ≡ maybe (trees old) o
maybe_kept old new None g h = refl
maybe_kept old new (Some i) g h = ap Some (g.kept i h)

pub done_kept : (old new : List Node) (is : List (ℕ × ℕ)) → Grows old new → AreItemsBelow (length old) is → done_of (trees new) is ≡ done_of (trees old) is
done_kept old new [] g h = refl
done_kept old new (i ∷ is) g h = λ k. done_kept old new is g h.1 k ++ (i.0, g.kept i.1 h.0 k) ∷ []

frame_kept : (old new : List Node) (h : Held) → Grows old new → IsHeldBelow (length old) h → frame_of (trees new) h ≡ frame_of (trees old) h
frame_kept old new (held.Waits o x) g h = ap (Waits o) (maybe_kept old new x g h)
frame_kept old new (held.Under v y x) g h = ap (Under v y) (maybe_kept old new x g h)
frame_kept old new (held.Inside x) g h = ap Inside (maybe_kept old new x g h)
frame_kept old new (held.Item v x done) g h = λ k. Item v (maybe_kept old new x g h.0 k) (done_kept old new done.items g h.1 k)
frame_kept old new (held.Tail x done) g h = λ k. Tail (maybe_kept old new x g h.0 k) (done_kept old new done.items g h.1 k)

pub frames_kept : (old new : List Node) (hs : List Held) → Grows old new → EachBelow (length old) hs → frames_of (trees new) hs ≡ frames_of (trees old) hs
frames_kept old new [] g h = refl
frames_kept old new (x ∷ hs) g h = λ k. frames_kept old new hs g h.1 k ++ frame_kept old new x g h.0 k ∷ []

-- `takes`
pub took_postfix : (old new : List Node) (hs : List Held) (x i : ℕ) (o : Oper) → is_postfix o.fixity ≡ true → EachBelow (length old) hs → Grows old
    new → i < length new → at (trees new) i ≡ App (Leaf o.spot) (at (trees old) x) → Steps old new hs (step.Goes (doing.Formed o.fixity o.number i))
    (takes (frames_of (trees old) hs) (at (trees old) x) o)
took_postfix old new hs x i o p e g l t = record {
  is = (λ k. Goes (st (frames_kept old new hs g e k) (Formed o.fixity o.number (t k)))) ∙ rw p refl;
  grows = g;
  below = (each_more (length old) (length new) hs g.longer e, l);
}

pub took_infix : (old : List Node) (hs : List Held) (x : ℕ) (o : Oper) → is_postfix o.fixity ≡ false → EachBelow (length old) hs → x < length old → Steps old old (hs ++ held.Waits o (Some x) ∷ []) (step.Goes doing.Wants) (takes (frames_of (trees old) hs) (at (trees old) x) o)
took_infix old hs x o p e l = record {
  is = ap (λ fs. Goes (st fs Wants)) (frames_push (trees old) hs (held.Waits o (Some x))) ∙ rw p refl;
  grows = grows_none old;
  below = (each_push (length old) hs _ e l, tt);
}

pub took_form : (old mid new : List Node) (hs : List Held) (x j i : ℕ) (o : Oper) → is_postfix o.fixity ≡ true → EachBelow (length old) hs → x <
    length old → Grows old mid → Grows mid new → at (trees mid) j ≡ Leaf o.spot → i < length new → at (trees new) i ≡ App (at (trees mid) j)
    (at (trees mid) x) → Steps old new hs (step.Goes (doing.Formed o.fixity o.number i)) (takes (frames_of (trees old) hs) (at (trees old) x) o)
took_form old mid new hs x j i o p e h g g' f l t = took_postfix old new hs x i o p e (grows_on old mid new g g') l (t ∙ (λ k. App (f k) (g.kept x h k)))

pub took_waiting : (old : List Node) (hs hs' : List Held) (x : ℕ) (o : Oper) → hs' ≡ hs ++ held.Waits o (Some x) ∷ [] → is_postfix o.fixity ≡ false → EachBelow (length old) hs → x < length old → Steps old old hs' (step.Goes doing.Wants) (takes (frames_of (trees old) hs) (at (trees old) x) o)
took_waiting old hs hs' x o q p e l = rw q (took_infix old hs x o p e l)

pub pushed_below : (n : ℕ) (hs hs' : List Held) (h : Held) → hs' ≡ hs ++ h ∷ [] → EachBelow n hs → IsHeldBelow n h → EachBelow n hs'
pushed_below n hs hs' h q e i = rw q (each_push n hs h e i)

pub item_takes : (ts : List Tree) (hs hs' : List Held) (v : ℕ) (fn : Option ℕ) (done : Items) (t : Tree) (o : Oper) → hs' ≡ hs ++ held.Item v fn done
    ∷ [] → is_item (By o.fixity o.number) ≡ true → takes (frames_of ts hs') t o ≡ attach
    (Item v (maybe ts fn) (done_of ts done.items) ∷ frames_of ts hs) t o
item_takes ts hs hs' v fn done t o q i = ap (λ l. takes (frames_of ts l) t o) q ∙ ap (λ fs. takes fs t o) (frames_push ts hs (held.Item v fn done)) ∙ rw i refl

pub item_separates : (old : List Node) (hs hs' : List Held) (v : ℕ) (fn : Option ℕ) (done done' : Items) (x : ℕ) (o : Oper) → done'.items ≡ done.items
    ++ (v, x) ∷ [] → hs' ≡ hs ++ held.Item o.spot fn done' ∷ [] → is_item (By o.fixity o.number) ≡ false → separates o ≡ true → EachBelow (length old)
    hs → IsMaybeBelow (length old) fn → AreItemsBelow (length old) done.items → x < length old → Steps old old hs' (step.Goes doing.Wants)
    (attach (Item v (maybe (trees old) fn) (done_of (trees old) done.items) ∷ frames_of (trees old) hs) (at (trees old) x) o)
item_separates old hs hs' v fn done done' x o d q i p e f g l = record {
  is = ap (λ l. Goes (st (frames_of (trees old) l) Wants)) q ∙ ap (λ fs. Goes (st fs Wants)) (frames_push (trees old) hs (held.Item o.spot fn done'))
      ∙ ap (λ is. Goes (st (Item o.spot (maybe (trees old) fn) is ∷ frames_of (trees old) hs) Wants))
      (ap (done_of (trees old)) d ∙ done_push (trees old) done.items (v, x)) ∙ rw (i, p) refl;
  grows = grows_none old;
  below = (pushed_below (length old) hs hs' (held.Item o.spot fn done') q e (f, subst (AreItemsBelow (length old)) (sym d) (items_push (length old) done.items (v, x) g l)), tt);
}

steps_from : (old now new : List Node) (hs : List Held) (r : Step) (m m' : Move) → Grows old now → m ≡ m' → Steps now new hs r m → Steps old new hs r m'
steps_from old now new hs r m m' g e s = record { is = s.is ∙ e; grows = grows_on old now new g s.grows; below = s.below }

pub if_ok : (old now new : List Node) (hs : List Held) (m m' : Move) → Grows old now → m ≡ m' → {E : Type 0} → (r : Result Step E) → IfOk r (λ s. Steps now new hs s m) → IfOk r (λ s. Steps old new hs s m')
if_ok old now new hs m m' g e (Ok s) h = steps_from old now new hs s m m' g e h
if_ok old now new hs m m' g e (Err f) h = tt

frames_top : (ts : List Tree) (ks hs : List Held) (h : Held) (t : Tree) (o : Oper) (m : Move) → ks ≡ hs ++ h ∷ [] → attach (frames_of ts ks) t o ≡ m → attach (frame_of ts h ∷ frames_of ts hs) t o ≡ m
frames_top ts ks hs h t o m e s = ap (λ fs. attach fs t o) (sym (ap (frames_of ts) e ∙ frames_push ts hs h)) ∙ s

-- an operator is taken above what stands on the stack
pub ends_takes : (old now new : List Node) (ks hs hs' hs'' : List Held) (h : Held) (x : ℕ) (o : Oper) (m : Move) → Grows old now → ks ≡ hs ++ h ∷ [] →
    hs' ≡ hs ++ h ∷ [] → attach (frame_of (trees now) h ∷ frames_of (trees now) hs) (at (trees now) x) o ≡ takes
    (frame_of (trees now) h ∷ frames_of (trees now) hs) (at (trees now) x) o → attach (frames_of (trees now) ks) (at (trees now) x) o ≡ m →
    {E : Type 0} → (r : Result Step E) → IfOk r (λ s. Steps now new hs'' s (takes (frames_of (trees now) hs') (at (trees now) x) o)) → IfOk r
    (λ s. Steps old new hs'' s m)
ends_takes old now new ks hs hs' hs'' h x o m g e e' t s r i =
    if_ok old now new hs'' _ m g (ap (λ fs. takes fs (at (trees now) x) o) (ap (frames_of (trees now)) e' ∙ frames_push (trees now) hs h) ∙ sym t ∙ frames_top (trees now) ks hs h (at (trees now) x) o m e s) r i

pub waits_takes : (fs : List Frame) (p : Oper) (l : Option Tree) (t : Tree) (o : Oper) → fits_right (By o.fixity o.number) p.fixity p.number ≡ true → attach (Waits p l ∷ fs) t o ≡ takes (Waits p l ∷ fs) t o
waits_takes fs p l t o h = rw h refl

pub ends_item : (old now new : List Node) (ks hs hs'' : List Held) (v : ℕ) (fn : Option ℕ) (done : Items) (x : ℕ) (o : Oper) (m : Move) → Grows old
    now → ks ≡ hs ++ held.Item v fn done ∷ [] → attach (frames_of (trees now) ks) (at (trees now) x) o ≡ m → {E : Type 0} → (r : Result Step E) → IfOk
    r (λ s. Steps now new hs'' s (attach (Item v (maybe (trees now) fn) (done_of (trees now) done.items) ∷ frames_of (trees now) hs)
    (at (trees now) x) o)) → IfOk r (λ s. Steps old new hs'' s m)
ends_item old now new ks hs hs'' v fn done x o m g e s r i = if_ok old now new hs'' _ m g (frames_top (trees now) ks hs (held.Item v fn done) (at (trees now) x) o m e s) r i

waits_reduces : (fs : List Frame) (p : Oper) (l : Option Tree) (t : Tree) (o : Oper) → fits_right (By o.fixity o.number) p.fixity p.number ≡ false → fits_left (By p.fixity p.number) o.fixity o.number ≡ true → attach (Waits p l ∷ fs) t o ≡ attach fs (operated p l t) o
waits_reduces fs p l t o h k = rw (h, k) refl

waits_stops : (fs : List Frame) (p : Oper) (l : Option Tree) (t : Tree) (o : Oper) → fits_right (By o.fixity o.number) p.fixity p.number ≡ false → fits_left (By p.fixity p.number) o.fixity o.number ≡ false → attach (Waits p l ∷ fs) t o ≡ Stops Ambiguous
waits_stops fs p l t o h k = rw (h, k) refl

pub reduced : (now new : List Node) (ks hs : List Held) (p : Oper) (l : Option ℕ) (x x' : ℕ) (o : Oper) (m : Move) → ks ≡ hs ++ held.Waits p l ∷ [] →
    Grows now new → EachBelow (length now) hs → fits_right (By o.fixity o.number) p.fixity p.number ≡ false → fits_left (By p.fixity p.number)
    o.fixity o.number ≡ true → at (trees new) x' ≡ operated p (maybe (trees now) l) (at (trees now) x) → attach (frames_of (trees now) ks)
    (at (trees now) x) o ≡ m → attach (frames_of (trees new) hs) (at (trees new) x') o ≡ m
reduced now new ks hs p l x x' o m e g b h k t s =
    (λ i. attach (frames_kept now new hs g b i) (t i) o)
    ∙ sym (waits_reduces (frames_of (trees now) hs) p (maybe (trees now) l) (at (trees now) x) o h k)
    ∙ frames_top (trees now) ks hs (held.Waits p l) (at (trees now) x) o m e s

pub stopped : (old now : List Node) (ks hs : List Held) (p : Oper) (l : Option ℕ) (x : ℕ) (o : Oper) (m : Move) → Grows old now → ks ≡ hs ++
    held.Waits p l ∷ [] → fits_right (By o.fixity o.number) p.fixity p.number ≡ false → fits_left (By p.fixity p.number) o.fixity o.number ≡ false →
    attach (frames_of (trees now) ks) (at (trees now) x) o ≡ m → Steps old now hs (step.Stops Ambiguous) m
stopped old now ks hs p l x o m g e h k s = record {
  is = sym (waits_stops (frames_of (trees now) hs) p (maybe (trees now) l) (at (trees now) x) o h k) ∙ frames_top (trees now) ks hs (held.Waits p l) (at (trees now) x) o m e s;
  grows = g;
  below = tt;
}

pub popped : (n : ℕ) (ks hs : List Held) (h : Held) → ks ≡ hs ++ h ∷ [] → EachBelow n ks → EachBelow n hs × IsHeldBelow n h
popped n ks hs h e b = each_pop n hs h (subst (EachBelow n) e b)

take_more : (is : List (ℕ × ℕ)) (n : ℕ) → n < length is → take (n + 1) is ≡ take n is ++ get_or is n (0, 0) ∷ []
take_more [] n h = absurd (omega arith)
take_more (i ∷ is) zero h = refl
take_more (i ∷ is) (suc n) h = let e : suc n + 1 ≡ suc (n + 1) = omega arith in rw e (ap (λ l. i ∷ l) (take_more is n (omega arith)))

pub items_take : (m : ℕ) (is : List (ℕ × ℕ)) (n : ℕ) → AreItemsBelow m is → AreItemsBelow m (take n is)
items_take m [] zero h = tt
items_take m [] (suc n) h = tt
items_take m (i ∷ is) zero h = tt
items_take m (i ∷ is) (suc n) h = (h.0, items_take m is n h.1)

pub item_below : (m : ℕ) (is : List (ℕ × ℕ)) (n : ℕ) → n < length is → AreItemsBelow m is → (get_or is n (0, 0)).1 < m
item_below m [] n l h = absurd (omega arith)
item_below m (i ∷ is) zero l h = h.0
item_below m (i ∷ is) (suc n) l h = item_below m is n (omega arith) h.1

-- one item in front
pub wrapped : (old now new : List Node) (is : List (ℕ × ℕ)) (n t t' : ℕ) (x : ℕ × ℕ) (m : Tree) → n < length is → x ≡ get_or is n (0, 0) → Grows old
    now → Grows now new → AreItemsBelow (length old) is → at (trees new) t' ≡ cons x.0 (at (trees now) x.1) (at (trees now) t) → wrap
    (done_of (trees now) (take (n + 1) is)) (at (trees now) t) ≡ m → wrap (done_of (trees new) (take n is)) (at (trees new) t') ≡ m
wrapped old now new is n t t' x m l e g g' b h s =
    (λ k. wrap (done_kept now new (take n is) g' (items_take (length now) is n (items_more (length old) (length now) is g.longer b)) k) (h k))
    ∙ sym (ap (λ l. wrap l (at (trees now) t)) (ap (done_of (trees now)) (take_more is n l) ∙ done_push (trees now) (take n is) (get_or is n (0, 0)) ∙ ap (λ y. (y.0, at (trees now) y.1) ∷ done_of (trees now) (take n is)) (sym e)))
    ∙ s

-- nothing waits
pub none_takes : (old now new : List Node) (ks hs hs'' : List Held) (x : ℕ) (o : Oper) (m : Move) → Grows old now → ks ≡ [] → hs ≡ [] → attach
    (frames_of (trees now) ks) (at (trees now) x) o ≡ m → {E : Type 0} → (r : Result Step E) → IfOk r
    (λ s. Steps now new hs'' s (takes (frames_of (trees now) hs) (at (trees now) x) o)) → IfOk r (λ s. Steps old new hs'' s m)
none_takes old now new ks hs hs'' x o m g e f s r i =
    if_ok old now new hs'' _ m g (ap (λ l. takes (frames_of (trees now) l) (at (trees now) x) o) f ∙ sym (ap (λ l. attach (frames_of (trees now) l) (at (trees now) x) o) e) ∙ s) r i
