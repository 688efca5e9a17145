-- The nodes of the reader of types and their trees.
use Rattle.std.proofs.Common.{◌≡◌, ◌≢◌, ℕ, zero, suc, ◌+◌, ◌<◌, ◌≤◌, List, [], ◌∷◌, ◌++◌, length, refl, sym, ap, ◌∙◌, subst, arith, length-append}
use Rattle.std.specs.Prelude.{Some, slice_get}
use Rattle.std.specs.Global.{Global}
use Rattle.std.specs.Prelude.{Vec}
use Rattle.lp_base.specs.declared.place.Spot.{Spot}
use Rattle.lp_syntax.specs.declared.class.Class.TheVariants.{Lower, Upper, Open, Close, Arrow}
use Rattle.lp_syntax.specs.declared.text.RawTypeNode.{RawTypeNode}
use Rattle.lp_syntax.specs.declared.text.RawTypeNode.TheVariants as raw
use Rattle.std.specs.Prelude.{Result, Ok, Err, IfOk}
use Rattle.std.proofs.lemmas.List.{same_from_push}
use Rattle.std.proofs.Math.Numerals.{suc-eq-add-one}
use Rattle.lp_lemmas.proofs.Lists.{get_push}
use Rattle.lp_syntax.specs.declared.types.Turn.{Turn}
use Rattle.lp_syntax.specs.declared.types.Turn.TheVariants as turn
use Rattle.lp_syntax.specs.declared.types.Due.TheVariants as due
use Rattle.lp_syntax.specs.declared.types.Waiting.{Waiting}
use Rattle.lp_syntax.specs.declared.types.Waiting.TheVariants as waiting
use Rattle.lp_syntax.specs.Tokens.{class_at}
use Rattle.lp_syntax.specs.Types.{TypeTree, Named, Applied, Arrows, Argument, Head, Side, Whole, IsType, variable, group, head, applied, side_head, side_argument, target, arrow}
use Rattle.lp_syntax.specs.RawTypes.{Part, Node, OnNodes, AreBelow, ShowsType, on_none, on_more, word_node, arrow_node}
use Rattle.lp_syntax.specs.TypeHeld.{TypeText, AreKept, IsHeld, at_none, at_arrow, at_group, at_argument, IsApplied, IsBuilt, IsWhole, IsRoot, IsGrouped, IsInner, IsTurned}
use Rattle.lp_syntax.specs.TypeMachine.{Wait, left, type_has, type_applies}
use Rattle.lp_syntax.specs.declared.class.Class.{Class}
use Rattle.lp_syntax.specs.declared.class.Class.TheVariants.{Symbol, Comma, Colon, Number, Text, OpenList, CloseList, Bar, Dot, Backslash, Keyword, Unsupported, End}

pub snoc_some : {A : Type 0} (xs : List A) (x : A) → [] ≡ xs ++ x ∷ [] → ⊥
snoc_some xs x e = let n = ap length e in let m = length-append xs (x ∷ []) in omega (arith, n, m)

pub kept_none : (ns : List RawTypeNode) → AreKept ns ns
kept_none ns = record { longer = omega arith; kept = λ i n e. e }

pub kept_on : (ks bs cs : List RawTypeNode) → AreKept ks bs → AreKept bs cs → AreKept ks cs
kept_on ks bs cs g h = record { longer = let a = g.longer in let b = h.longer in omega (arith, a, b); kept = λ i n e. h.kept i n (g.kept i n e) }

get_front : (ns : List RawTypeNode) (m n : RawTypeNode) (i : ℕ) → slice_get ns i ≡ Some n → slice_get (ns ++ m ∷ []) i ≡ Some n
get_front [] m n i e = cc
get_front (x ∷ ns) m n zero e = e
get_front (x ∷ ns) m n (suc i) e = get_front ns m n i e

pub kept_push : (old new : List RawTypeNode) (n : RawTypeNode) → new ≡ old ++ n ∷ [] → AreKept old new
kept_push old new n e = subst (AreKept old) (sym e) (record { longer = let l = length-append old (n ∷ []) in omega (arith, l); kept = λ i m. get_front old n m i })

pub pushed_node : (old new : List RawTypeNode) (n : RawTypeNode) (i : ℕ) → new ≡ old ++ n ∷ [] → i ≡ length old → slice_get new i ≡ Some n
pushed_node old new n i e f = ap (λ ns. slice_get ns i) e ∙ ap (slice_get (old ++ n ∷ [])) f ∙ get_push old n

pub below_more : (n m : ℕ) (xs : List ℕ) → n ≤ m → AreBelow n xs → AreBelow m xs
below_more n m [] l h = tt
below_more n m (x ∷ xs) l h = (let a = h.0 in omega (arith, a, l), below_more n m xs l h.1)

below_push : (n : ℕ) (xs : List ℕ) (a : ℕ) → AreBelow n xs → a < n → AreBelow n (xs ++ a ∷ [])
below_push n [] a h l = (l, tt)
below_push n (x ∷ xs) a h l = (h.0, below_push n xs a h.1 l)

pub kept_shows : (spot : ℕ → Spot) (old new : List RawTypeNode) → AreKept old new → (p : Part) (t : TypeTree) → ShowsType spot old p t → ShowsType spot new p t
kept_shows spot old new k p t (on_none w xs e) = on_none w xs e
kept_shows spot old new k p t (on_more w a xs ys u v e d f) = on_more w a xs ys u v e (kept_shows spot old new k _ u d) (kept_shows spot old new k _ v f)
kept_shows spot old new k p t (word_node i w xs _ e b d) = word_node i w xs t (k.kept i _ e) b (kept_shows spot old new k _ t d)
kept_shows spot old new k p t (arrow_node i l r u v e a b d f) = arrow_node i l r u v (k.kept i _ e) a b (kept_shows spot old new k _ u d) (kept_shows spot old new k _ v f)

pub kept_held : (x : TypeText) (old new : List RawTypeNode) → AreKept old new → (hs : List Waiting) (i : ℕ) → IsHeld x old hs i → IsHeld x new hs i
kept_held x old new k ks i (at_none _ _ e f) = at_none ks i e f
kept_held x old new k ks i (at_arrow _ hs l m j t e h s b d a) = at_arrow ks hs l m j t e (kept_held x old new k hs m h) (kept_shows x.spot old new k _ t s) (let g = k.longer in omega (arith, b, g)) d a
kept_held x old new k ks i (at_group _ hs m e h o) = at_group ks hs m e (kept_held x old new k hs m h) o
kept_held x old new k ks i (at_argument _ hs w m j xs t e h s b d o) = at_argument ks hs w m j xs t e (kept_held x old new k hs m h) (kept_shows x.spot old new k _ t s) (below_more (length old) (length new) xs.items k.longer b) d o

-- what is newest
arrow_top : (x : TypeText) (ns : List RawTypeNode) (ks hs : List Waiting) (l i : ℕ) → ks ≡ hs ++ waiting.Arrow l ∷ [] → IsHeld x ns ks i → (j : ℕ) ×
    (m : ℕ) × (t : TypeTree) × (i ≡ suc j) × IsHeld x ns hs m × ShowsType x.spot ns (Node l) t × (l < length ns) × IsType x.lexemes Side m j t ×
    (class_at x.lexemes j ≡ Arrow)
arrow_top x ns ks hs l i e (at_none _ _ f g) = absurd (snoc_some hs _ (sym f ∙ e))
arrow_top x ns ks hs l i e (at_arrow _ gs k m j t f h s b d a) =
    let r = same_from_push gs hs _ _ (sym f ∙ e) in
    let z : k ≡ l = same_arrow k l r.1 in
    (j, m, t, refl, subst (λ g. IsHeld x ns g m) r.0 h, subst (λ q. ShowsType x.spot ns (Node q) t) z s, subst (λ q. q < length ns) z b, d, a)
  where
    same_arrow : (a b : ℕ) → waiting.Arrow a ≡ waiting.Arrow b → a ≡ b
    same_arrow a b q = cc
arrow_top x ns ks hs l i e (at_group _ gs m f h o) = let r = same_from_push gs hs _ _ (sym f ∙ e) in let q = r.1 in absurd (cc)
arrow_top x ns ks hs l i e (at_argument _ gs w m j xs t f h s b d o) = let r = same_from_push gs hs _ _ (sym f ∙ e) in let q = r.1 in absurd (cc)

pub fold_arrow : (x : TypeText) (old new : List RawTypeNode) (ks hs : List Waiting) (l node n at : ℕ) → ks ≡ hs ++ waiting.Arrow l ∷ [] → IsWhole x old ks at node → AreKept old new → slice_get new n ≡ Some (raw.Arrow l node) → n ≡ length old → n < length new → IsWhole x new hs at n
fold_arrow x old new ks hs l node n at e w k g f b =
    let r = arrow_top x old ks hs l w.start e w.held in
    let below = w.below in
    let lb = r.6 in
    record {
      start = r.1;
      tree = Arrows r.2 w.tree;
      held = kept_held x old new k hs r.1 r.4;
      shows = arrow_node n l node r.2 w.tree g (omega (arith, lb, f)) (omega (arith, below, f)) (kept_shows x.spot old new k _ r.2 r.5) (kept_shows x.spot old new k _ w.tree w.shows);
      below = b;
      type_is = arrow r.1 r.0 at r.2 w.tree r.7 r.8 (subst (λ i. IsType x.lexemes Whole i at w.tree) r.3 w.type_is);
    }

pub fold_none : (x : TypeText) (ns : List RawTypeNode) (ks : List Waiting) (node at : ℕ) → ks ≡ [] → IsWhole x ns ks at node → IsRoot x ns at node
fold_none x ns ks node at e w = record { tree = w.tree; shows = w.shows; type_is = subst (λ i. IsType x.lexemes Whole i at w.tree) (go w.start w.held) w.type_is }
  where
    go : (i : ℕ) → IsHeld x ns ks i → i ≡ x.from
    go i (at_none _ _ f g) = g
    go i (at_arrow _ hs l m j t f h s b d a) = absurd (snoc_some hs _ (sym e ∙ f))
    go i (at_group _ hs m f h o) = absurd (snoc_some hs _ (sym e ∙ f))
    go i (at_argument _ hs v m j xs t f h s b d o) = absurd (snoc_some hs _ (sym e ∙ f))

pub fold_group : (x : TypeText) (ns : List RawTypeNode) (ks hs : List Waiting) (node at : ℕ) → ks ≡ hs ++ waiting.Group ∷ [] → IsWhole x ns ks at node → IsGrouped x ns hs at node
fold_group x ns ks hs node at e w = go w.start w.held w.type_is
  where
    go : (i : ℕ) → IsHeld x ns ks i → IsType x.lexemes Whole i at w.tree → IsGrouped x ns hs at node
    go i (at_none _ _ f g) y = absurd (snoc_some hs _ (sym f ∙ e))
    go i (at_arrow _ gs l m j t f h s b d a) y = let r = same_from_push gs hs _ _ (sym f ∙ e) in let q = r.1 in absurd (cc)
    go i (at_group _ gs m f h o) y = let r = same_from_push gs hs _ _ (sym f ∙ e) in record { start = m; tree = w.tree; held = subst (λ g. IsHeld x ns g m) r.0 h; mark = o; shows = w.shows; below = w.below; type_is = y }
    go i (at_argument _ gs v m j xs t f h s b d o) y = let r = same_from_push gs hs _ _ (sym f ∙ e) in let q = r.1 in absurd (cc)

pub fold_argument : (x : TypeText) (ns : List RawTypeNode) (ks hs : List Waiting) (s : Spot) (xs : Vec ℕ Global) (node at : ℕ) → ks ≡ hs ++ waiting.Argument s xs ∷ [] → IsWhole x ns ks at node → IsInner x ns hs at s xs node
fold_argument x ns ks hs s xs node at e w = go w.start w.held w.type_is
  where
    same_argument : (a b : Spot) (v u : Vec ℕ Global) → waiting.Argument a v ≡ waiting.Argument b u → (b ≡ a) × (v ≡ u)
    same_argument a b v u q = (let f : b ≡ a = cc in f, let g : v ≡ u = cc in g)

    go : (i : ℕ) → IsHeld x ns ks i → IsType x.lexemes Whole i at w.tree → IsInner x ns hs at s xs node
    go i (at_none _ _ f g) y = absurd (snoc_some hs _ (sym f ∙ e))
    go i (at_arrow _ gs l m j t f h z b d a) y = let r = same_from_push gs hs _ _ (sym f ∙ e) in let q = r.1 in absurd (cc)
    go i (at_group _ gs m f h o) y = let r = same_from_push gs hs _ _ (sym f ∙ e) in let q = r.1 in absurd (cc)
    go i (at_argument _ gs v m j ys t f h z b d o) y =
        let r = same_from_push gs hs _ _ (sym f ∙ e) in
        let q = same_argument (x.spot v) s ys xs r.1 in
        record {
          open_at = j;
          applied = record { start = m; word = v; tree = t; held = subst (λ g. IsHeld x ns g m) r.0 h; spot_is = q.0; shows = subst (λ u. ShowsType x.spot ns (OnNodes v u.items) t) q.1 z; below = subst (λ u. AreBelow (length ns) u.items) q.1 b; type_is = d };
          mark = o;
          tree = w.tree;
          shows = w.shows;
          below = w.below;
          type_is = y;
        }

-- a closing bracket
pub closes_group : (x : TypeText) (ns : List RawTypeNode) (hs : List Waiting) (node at : ℕ) → class_at x.lexemes at ≡ Close → IsGrouped x ns hs at node → IsBuilt x ns hs (at + 1) node
closes_group x ns hs node at c g = record { start = g.start; tree = g.tree; held = g.held; shows = g.shows; below = g.below; type_is = subst (λ j. IsType x.lexemes Side g.start j g.tree) (suc-eq-add-one at) (side_argument g.start (suc at) g.tree (group g.start at g.tree g.mark g.type_is c)) }

more_applied : (x : TypeText) (ns : List RawTypeNode) (hs : List Waiting) (s : Spot) (xs ys : Vec ℕ Global) (j k node : ℕ) (u : TypeTree) → IsApplied
    x ns hs j s xs → ShowsType x.spot ns (Node node) u → node < length ns → IsType x.lexemes Argument j k u → ys.items ≡ xs.items ++ node ∷ [] →
    IsApplied x ns hs k s ys
more_applied x ns hs s xs ys j k node u a w b d e = record {
  start = a.start;
  word = a.word;
  tree = Applied a.tree u;
  held = a.held;
  spot_is = a.spot_is;
  shows = on_more a.word node xs.items ys.items a.tree u e a.shows w;
  below = subst (AreBelow (length ns)) (sym e) (below_push (length ns) xs.items node a.below b);
  type_is = applied a.start j k a.tree u a.type_is d;
}

pub closes_argument : (x : TypeText) (ns : List RawTypeNode) (hs : List Waiting) (s : Spot) (xs ys : Vec ℕ Global) (node at : ℕ) → class_at x.lexemes at ≡ Close → IsInner x ns hs at s xs node → ys.items ≡ xs.items ++ node ∷ [] → IsApplied x ns hs (at + 1) s ys
closes_argument x ns hs s xs ys node at c g e = more_applied x ns hs s xs ys g.open_at (at + 1) node g.tree g.applied g.shows g.below (subst (λ j. IsType x.lexemes Argument g.open_at j g.tree) (suc-eq-add-one at) (group g.open_at at g.tree g.mark g.type_is c)) e

pub kept_applied : (x : TypeText) (old new : List RawTypeNode) (hs : List Waiting) (at : ℕ) (s : Spot) (xs : Vec ℕ Global) → AreKept old new → IsApplied x old hs at s xs → IsApplied x new hs at s xs
kept_applied x old new hs at s xs k a = record {
  start = a.start;
  word = a.word;
  tree = a.tree;
  held = kept_held x old new k hs a.start a.held;
  spot_is = a.spot_is;
  shows = kept_shows x.spot old new k _ a.tree a.shows;
  below = below_more (length old) (length new) xs.items k.longer a.below;
  type_is = a.type_is;
}

-- a word as a node
node_of_word : (x : TypeText) (old new : List RawTypeNode) (w n : ℕ) (s : Spot) (xs : Vec ℕ Global) (t : TypeTree) → s ≡ x.spot w → ShowsType x.spot
    old (OnNodes w xs.items) t → AreBelow (length old) xs.items → AreKept old new → slice_get new n ≡ Some (raw.Word s xs) → n ≡ length old →
    ShowsType x.spot new (Node n) t
node_of_word x old new w n s xs t e d b k g f = word_node n w xs t (g ∙ ap (λ z. Some (raw.Word z xs)) e) (subst (λ m. AreBelow m xs.items) (sym f) b) (kept_shows x.spot old new k _ t d)

-- an argument that is one word
pub one_word : (x : TypeText) (old new : List RawTypeNode) (hs : List Waiting) (at n : ℕ) (s a : Spot) (xs ys none : Vec ℕ Global) → IsApplied x old
    hs at s xs → AreKept old new → slice_get new n ≡ Some (raw.Word a none) → n ≡ length old → n < length new → a ≡ x.spot at → none.items ≡ [] →
    IsType x.lexemes Argument at (suc at) (Named at) → ys.items ≡ xs.items ++ n ∷ [] → IsApplied x new hs (at + 1) s ys
one_word x old new hs at n s a xs ys none d k g f b q z y e =
    more_applied x new hs s xs ys at (at + 1) n (Named at) (kept_applied x old new hs at s xs k d)
    (node_of_word x old new at n a none (Named at) q (on_none at none.items z) (subst (AreBelow (length old)) (sym z) tt) k g f)
    b (subst (λ j. IsType x.lexemes Argument at j (Named at)) (suc-eq-add-one at) y) e

-- a word with its arguments becomes a node
pub built_word : (x : TypeText) (old new : List RawTypeNode) (hs : List Waiting) (at n : ℕ) (s : Spot) (xs : Vec ℕ Global) → IsApplied x old hs at s xs → AreKept old new → slice_get new n ≡ Some (raw.Word s xs) → n ≡ length old → n < length new → IsBuilt x new hs at n
built_word x old new hs at n s xs a k g f b = record { start = a.start; tree = a.tree; held = kept_held x old new k hs a.start a.held; shows = node_of_word x old new a.word n s xs a.tree a.spot_is a.shows a.below k g f; below = b; type_is = side_head a.start at a.tree a.type_is }

-- a word where a type is due
pub begins_word : (x : TypeText) (ns : List RawTypeNode) (hs : List Waiting) (at : ℕ) (s : Spot) (xs : Vec ℕ Global) → IsHeld x ns hs at → class_at x.lexemes at ≡ Lower → s ≡ x.spot at → xs.items ≡ [] → IsApplied x ns hs (at + 1) s xs
begins_word x ns hs at s xs h c e f = record { start = at; word = at; tree = Named at; held = h; spot_is = e; shows = on_none at xs.items f; below = subst (AreBelow (length ns)) (sym f) tt; type_is = subst (λ j. IsType x.lexemes Head at j (Named at)) (suc-eq-add-one at) (head at c) }

pub begins_variable : (x : TypeText) (old new : List RawTypeNode) (hs : List Waiting) (at n : ℕ) (s : Spot) (none : Vec ℕ Global) → IsHeld x old hs at
    → class_at x.lexemes at ≡ Upper → s ≡ x.spot at → none.items ≡ [] → AreKept old new → slice_get new n ≡ Some (raw.Word s none) → n ≡ length old →
    n < length new → IsBuilt x new hs (at + 1) n
begins_variable x old new hs at n s none h c e z k g f b = record {
  start = at;
  tree = Named at;
  held = kept_held x old new k hs at h;
  shows = node_of_word x old new at n s none (Named at) e (on_none at none.items z) (subst (AreBelow (length old)) (sym z) tt) k g f;
  below = b;
  type_is = subst (λ j. IsType x.lexemes Side at j (Named at)) (suc-eq-add-one at) (side_argument at (suc at) (Named at) (variable at c));
}

-- brackets and arrows
pub opens_group : (x : TypeText) (ns : List RawTypeNode) (hs ks : List Waiting) (at : ℕ) → IsHeld x ns hs at → class_at x.lexemes at ≡ Open → ks ≡ hs ++ waiting.Group ∷ [] → IsHeld x ns ks (at + 1)
opens_group x ns hs ks at h c e = subst (IsHeld x ns ks) (suc-eq-add-one at) (at_group ks hs at e h c)

pub opens_argument : (x : TypeText) (ns : List RawTypeNode) (hs ks : List Waiting) (at : ℕ) (s : Spot) (xs : Vec ℕ Global) → IsApplied x ns hs at s xs → class_at x.lexemes at ≡ Open → ks ≡ hs ++ waiting.Argument s xs ∷ [] → IsHeld x ns ks (at + 1)
opens_argument x ns hs ks at s xs a c e = subst (IsHeld x ns ks) (suc-eq-add-one at) (at_argument ks hs a.word a.start at xs a.tree (e ∙ ap (λ z. hs ++ waiting.Argument z xs ∷ []) a.spot_is) a.held a.shows a.below a.type_is c)

pub takes_arrow : (x : TypeText) (ns : List RawTypeNode) (hs ks : List Waiting) (at n : ℕ) → IsBuilt x ns hs at n → class_at x.lexemes at ≡ Arrow → ks ≡ hs ++ waiting.Arrow n ∷ [] → IsHeld x ns ks (at + 1)
takes_arrow x ns hs ks at n b c e = subst (IsHeld x ns ks) (suc-eq-add-one at) (at_arrow ks hs n b.start at b.tree e b.held b.shows b.below b.type_is c)

pub whole_of : (x : TypeText) (ns : List RawTypeNode) (hs : List Waiting) (at n : ℕ) → IsBuilt x ns hs at n → IsWhole x ns hs at n
whole_of x ns hs at n b = record { start = b.start; tree = b.tree; held = b.held; shows = b.shows; below = b.below; type_is = target b.start at b.tree b.type_is }

-- a bracket or an arrow that was pushed
pub turned_due : {E : Type 0} (x : TypeText) (old new : Vec RawTypeNode Global) (hs ks : List Waiting) (h : Waiting) (at : ℕ) (r : Result Turn E) →
    new ≡ old → IfOk r (λ t. ks ≡ hs ++ h ∷ []) → IfOk r (λ t. t ≡ turn.Goes due.Wants) → (ks ≡ hs ++ h ∷ [] → IsHeld x old.items ks (at + 1)) → IfOk
    r (IsTurned x new.items ks at)
turned_due x old new hs ks h at (Ok t) e p g f = subst (IsTurned x new.items ks at) (sym g) (subst (λ v. IsHeld x v.items ks (at + 1)) (sym e) (f p))
turned_due x old new hs ks h at (Err f') e p g f = tt

pub has_left : (ws : List Wait) (c : Class) → c ≢ Arrow → c ≢ Close → left ws ≡ type_has ws c
has_left ws Lower a b = refl
has_left ws Upper a b = refl
has_left ws Symbol a b = refl
has_left ws Comma a b = refl
has_left ws Colon a b = refl
has_left ws Arrow a b = absurd (a refl)
has_left ws (Number n) a b = refl
has_left ws Text a b = refl
has_left ws Open a b = refl
has_left ws Close a b = absurd (b refl)
has_left ws OpenList a b = refl
has_left ws CloseList a b = refl
has_left ws Bar a b = refl
has_left ws Dot a b = refl
has_left ws Backslash a b = refl
has_left ws (Keyword k) a b = refl
has_left ws Unsupported a b = refl
has_left ws End a b = refl

pub applies_has : (ws : List Wait) (c : Class) → c ≢ Lower → c ≢ Upper → c ≢ Open → type_has ws c ≡ type_applies ws c
applies_has ws Lower a b d = absurd (a refl)
applies_has ws Upper a b d = absurd (b refl)
applies_has ws Symbol a b d = refl
applies_has ws Comma a b d = refl
applies_has ws Colon a b d = refl
applies_has ws Arrow a b d = refl
applies_has ws (Number n) a b d = refl
applies_has ws Text a b d = refl
applies_has ws Open a b d = absurd (d refl)
applies_has ws Close a b d = refl
applies_has ws OpenList a b d = refl
applies_has ws CloseList a b d = refl
applies_has ws Bar a b d = refl
applies_has ws Dot a b d = refl
applies_has ws Backslash a b d = refl
applies_has ws (Keyword k) a b d = refl
applies_has ws Unsupported a b d = refl
applies_has ws End a b d = refl
