-- What the code counts for a node is how deep the tree is that it shows, as far as 64 bits go.
use Rattle.std.proofs.Common.{◌≡◌, ℕ, ◌+◌, ◌-◌, ◌^◌, ◌<◌, ◌≤◌, max, min, Bool, true, false, List, [], ◌∷◌, ◌++◌, length, refl, sym, ap, ◌∙◌, subst, arith, length-append, get_or}
use Rattle.std.specs.Global.{Global}
use Rattle.std.specs.Prelude.{Vec}
use Rattle.std.proofs.lemmas.List.{get_or_append_left, same_from_push}
use Rattle.std.proofs.Math.Seq.{get_or-append_seam}
use Rattle.std.specs.Prelude.{ℤ, Option, Some, None, Result, Ok, Err, IfOk, slice_get}
use Rattle.lp_base.specs.declared.place.Spot.{Spot}
use Rattle.std.specs.Prelude.{codes, if◌then◌else◌}
use Rattle.std.specs.Str.{bytes_eq}
use Rattle.std.proofs.lemmas.Option.{slice_get_within}
use Rattle.lp_syntax.specs.declared.class.Class.{Class}
use Rattle.lp_syntax.specs.declared.class.Class.TheVariants as class
use Rattle.lp_syntax.specs.declared.text.RawNode.{RawNode}
use Rattle.lp_syntax.specs.declared.text.RawNode.TheVariants as raw
use Rattle.lp_syntax.specs.declared.text.RawType.{RawType}
use Rattle.lp_syntax.specs.declared.text.RawTypeNode.{RawTypeNode}
use Rattle.lp_syntax.specs.declared.text.RawTypeNode.TheVariants.{Word, Arrow}
use Rattle.lp_syntax.specs.Symbols.{Tree, App, Lam}
use Rattle.lp_syntax.specs.Tokens.{Lexeme, class_at, bytes_at}
use Rattle.lp_syntax.specs.Types.{TypeTree, Arrows}
use Rattle.lp_syntax.specs.Raw.{IsNoted, Shows, leaf_in, leaf, leaf_node, cons_node, nil_node, app_node, abs_node}
use Rattle.lp_syntax.specs.RawTypes.{Node, OnNodes, AreBelow, ShowsType, on_none, on_more, word_node, arrow_node}
use Rattle.lp_syntax.specs.Depth.{as_target, type_depth, as_head, binds, leaf as leaf_depth, cons, nil, applied, abstracted, annotated, TermFits, TermTooDeep, counted, IsDepth, AreTypeDepths, AreDepths, IsNoteDepth}
use Rattle.lp_syntax.proofs.TypeTrees.{snoc_some}
use Rattle.lp_syntax.proofs.TypeFaults.{Compared, less, same, more, compared}

-- counts
pub counted_more : (d n : ℕ) → d ≡ counted n → min (d + 1) (2 ^ 64 - 1) ≡ counted (n + 1)
counted_more d n e = omega (arith, e)

pub counted_both : (d e m n : ℕ) → d ≡ counted m → e ≡ counted n → max d e ≡ counted (max m n)
counted_both d e m n p q = omega (arith, p, q)

pub counted_low : (d n k : ℕ) → d ≡ counted n → d ≤ k → k < 2 ^ 64 - 1 → n ≤ k
counted_low d n k e l h = omega (arith, e, l, h)

pub counted_high : (d n k : ℕ) → d ≡ counted n → k < d → k < n
counted_high d n k e l = omega (arith, e, l)

pub term_fits : (ls : List Lexeme) (t : Tree) (d : ℕ) → IsDepth ls t d → d ≤ 2000 → TermFits ls t
term_fits ls t d h l = (h.0, h.1, counted_low d h.0 2000 h.2 l (omega arith))

pub term_deep : (ls : List Lexeme) (t : Tree) (d : ℕ) → IsDepth ls t d → 2000 < d → TermTooDeep ls t
term_deep ls t d h l = (h.0, h.1, counted_high d h.0 2000 h.2 l)

pub type_within : (spot : ℕ → Spot) (nodes : List RawTypeNode) (i : ℕ) (t : TypeTree) → ShowsType spot nodes (Node i) t → i < length nodes
type_within spot nodes i t (word_node _ w xs _ e b s) = slice_get_within nodes i _ e
type_within spot nodes i t (arrow_node _ l r u v e a b s q) = slice_get_within nodes i _ e

pub no_type_depth : (nodes : List RawTypeNode) (ds : List ℕ) → ds ≡ [] → AreTypeDepths nodes ds
no_type_depth nodes ds e spot i t l s = let z = ap length e in absurd (omega (arith, l, z))

pub type_depth_more : (nodes : List RawTypeNode) (ds es : List ℕ) (d : ℕ) → AreTypeDepths nodes ds → ((spot : ℕ → Spot) (i : ℕ) (t : TypeTree) → i ≡ length ds → ShowsType spot nodes (Node i) t → d ≡ counted (type_depth t)) → es ≡ ds ++ d ∷ [] → AreTypeDepths nodes es
type_depth_more nodes ds es d h k e spot i t l s = go (compared i (length ds))
  where
    go : Compared i (length ds) → get_or es i 0 ≡ counted (type_depth t)
    go (less m) = ap (λ z. get_or z i 0) e ∙ get_or_append_left ds (d ∷ []) 0 i m ∙ h spot i t m s
    go (same m) = (λ j. get_or (e j) (m j) 0) ∙ get_or-append_seam ds d [] 0 ∙ k spot i t m s
    go (more m) = let z = ap length e in let w = length-append ds (d ∷ []) in absurd (omega (arith, l, m, z, w))

-- a word on no argument, and on one more
pub no_argument_depth : (spot : ℕ → Spot) (nodes : List RawTypeNode) (w : ℕ) (xs : List ℕ) (t : TypeTree) → xs ≡ [] → ShowsType spot nodes (OnNodes w xs) t → 1 ≡ counted (type_depth t)
no_argument_depth spot nodes w xs t e (on_none _ _ f) = omega arith
no_argument_depth spot nodes w xs t e (on_more _ a zs _ u v f p q) = absurd (snoc_some zs a (sym e ∙ f))

below_front : (n : ℕ) (xs : List ℕ) (a : ℕ) → AreBelow n (xs ++ a ∷ []) → AreBelow n xs × (a < n)
below_front n [] a h = (tt, h.0)
below_front n (x ∷ xs) a h = let r = below_front n xs a h.1 in ((h.0, r.0), r.1)

pub argument_depth : (spot : ℕ → Spot) (nodes : List RawTypeNode) (ds : List ℕ) (w d a : ℕ) (xs ys : List ℕ) (t : TypeTree) → AreTypeDepths nodes ds →
    AreBelow (length ds) ys → ys ≡ xs ++ a ∷ [] → ((u : TypeTree) → AreBelow (length ds) xs → ShowsType spot nodes (OnNodes w xs) u → d ≡ counted
    (type_depth u)) → ShowsType spot nodes (OnNodes w ys) t → max d (min (get_or ds a 0 + 1) (2 ^ 64 - 1)) ≡ counted (type_depth t)
argument_depth spot nodes ds w d a xs ys t h b e k (on_none _ _ f) = absurd (snoc_some xs a (sym f ∙ e))
argument_depth spot nodes ds w d a xs ys t h b e k (on_more _ c zs _ u v f p q) =
    let r = same_from_push zs xs c a (sym f ∙ e) in
    let s = below_front (length ds) xs a (subst (AreBelow (length ds)) e b) in
    let m = k u s.0 (subst (λ l. ShowsType spot nodes (OnNodes w l) u) r.0 p) in
    let n = counted_more (get_or ds a 0) (type_depth v) (h spot a v s.1 (subst (λ i. ShowsType spot nodes (Node i) v) r.1 q)) in
    counted_both d (min (get_or ds a 0 + 1) (2 ^ 64 - 1)) (type_depth u) (type_depth v + 1) m n

pub right_of_arrow : (d n : ℕ) (t u : TypeTree) (e : ℕ) → (d ≡ counted (type_depth t)) → e ≡ counted (as_target u (type_depth u)) → n ≡ max (min (d + 1) (2 ^ 64 - 1)) e → n ≡ counted (type_depth (Arrows t u))
right_of_arrow d n t u e h k f = f ∙ counted_both (min (d + 1) (2 ^ 64 - 1)) e (type_depth t + 1) (as_target u (type_depth u)) (counted_more d (type_depth t) h) k

-- what stands at the right side of an arrow
pub right_chain : (spot : ℕ → Spot) (nodes : List RawTypeNode) (i l r : ℕ) (t : TypeTree) (n : ℕ) → slice_get nodes i ≡ Some (Arrow l r) → ShowsType spot nodes (Node i) t → as_target t n ≡ n
right_chain spot nodes i l r t n e (word_node _ w xs _ f b s) = let z = sym f ∙ e in absurd (cc)
right_chain spot nodes i l r t n e (arrow_node _ l' r' u v f a b s q) = refl

word_target : (spot : ℕ → Spot) (nodes : List RawTypeNode) (w : ℕ) (xs : List ℕ) (t : TypeTree) (n : ℕ) → ShowsType spot nodes (OnNodes w xs) t → as_target t n ≡ n + 1
word_target spot nodes w xs t n (on_none _ _ e) = refl
word_target spot nodes w xs t n (on_more _ a zs _ u v f p q) = refl

pub right_target : (spot : ℕ → Spot) (nodes : List RawTypeNode) (i : ℕ) (t : TypeTree) (n : ℕ) → ((l r : ℕ) → slice_get nodes i ≡ Some (Arrow l r) → ⊥) → ShowsType spot nodes (Node i) t → as_target t n ≡ n + 1
right_target spot nodes i t n h (word_node _ w xs _ f b s) = word_target spot nodes w xs.items t n s
right_target spot nodes i t n h (arrow_node _ l r u v f a b s q) = absurd (h l r f)

-- the nodes of a type
pub word_count : (spot : ℕ → Spot) (nodes : List RawTypeNode) (ds : List ℕ) (i d : ℕ) (s : Spot) (xs : Vec ℕ Global) (t : TypeTree) → slice_get nodes
    i ≡ Some (Word s xs) → i ≡ length ds → ((w : ℕ) → AreBelow (length ds) xs.items → ShowsType spot nodes (OnNodes w xs.items) t → d ≡ counted
    (type_depth t)) → ShowsType spot nodes (Node i) t → d ≡ counted (type_depth t)
word_count spot nodes ds i d s xs t e m k (word_node _ w ys _ f b p) =
    let z : ys ≡ xs = same_arguments (sym f ∙ e) in
    k w (subst (λ j. AreBelow j xs.items) m (subst (λ l. AreBelow i l.items) z b)) (subst (λ l. ShowsType spot nodes (OnNodes w l.items) t) z p)
  where
    same_arguments : {r q : Spot} {ys zs : Vec ℕ Global} → ◌≡◌ {A = Option RawTypeNode} (Some (Word r ys)) (Some (Word q zs)) → ys ≡ zs
    same_arguments e = cc
word_count spot nodes ds i d s xs t e m k (arrow_node _ l r u v f a b p q) = let z = sym f ∙ e in absurd (cc)

pub arrow_count : (spot : ℕ → Spot) (nodes : List RawTypeNode) (ds : List ℕ) (i l r d : ℕ) (t : TypeTree) → slice_get nodes i ≡ Some (Arrow l r) → i ≡
    length ds → ((u v : TypeTree) → l < length ds → r < length ds → ShowsType spot nodes (Node l) u → ShowsType spot nodes (Node r) v → d ≡ counted
    (type_depth (Arrows u v))) → ShowsType spot nodes (Node i) t → d ≡ counted (type_depth t)
arrow_count spot nodes ds i l r d t e m k (word_node _ w xs _ f b s) = let z = sym f ∙ e in absurd (cc)
arrow_count spot nodes ds i l r d t e m k (arrow_node _ l' r' u v f a b p q) =
    let z = same_sides (sym f ∙ e) in
    k u v (let y = z.0 in omega (arith, m, a, y)) (let y = z.1 in omega (arith, m, b, y)) (subst (λ j. ShowsType spot nodes (Node j) u) z.0 p) (subst (λ j. ShowsType spot nodes (Node j) v) z.1 q)
  where
    same_sides : {a b c d : ℕ} → ◌≡◌ {A = Option RawTypeNode} (Some (Arrow a b)) (Some (Arrow c d)) → (a ≡ c) × (b ≡ d)
    same_sides e = let x : _ ≡ _ = e in (cc, cc)

-- terms
same_node : {m n : RawNode} → ◌≡◌ {A = Option RawNode} (Some m) (Some n) → m ≡ n
same_node e = cc

abbrev pub is_leaf : RawNode → Bool
is_leaf (raw.App f x) = false
is_leaf (raw.Abs s y x) = false
is_leaf _ = true

-- what all that a leaf may be has in common
leaf_in_like : (f : RawNode → Bool) (v : Bool) (s : Spot) (text : List ℕ) (c : Class) → ((n : ℤ) → f (raw.Number n s) ≡ v) → f (raw.Text s) ≡ v → ((b : Bool) → f (if b then raw.Known 0 s else raw.Name s) ≡ v) → f (leaf_in s text c) ≡ v
leaf_in_like f v s text (class.Number n) p q r = p n
leaf_in_like f v s text class.Text p q r = q
leaf_in_like f v s text class.Lower p q r = r (bytes_eq text (codes "&"))
leaf_in_like f v s text class.Upper p q r = r (bytes_eq text (codes "&"))
leaf_in_like f v s text class.Symbol p q r = r (bytes_eq text (codes "&"))
leaf_in_like f v s text class.Comma p q r = r (bytes_eq text (codes "&"))
leaf_in_like f v s text class.Colon p q r = r (bytes_eq text (codes "&"))
leaf_in_like f v s text class.Arrow p q r = r (bytes_eq text (codes "&"))
leaf_in_like f v s text class.Open p q r = r (bytes_eq text (codes "&"))
leaf_in_like f v s text class.Close p q r = r (bytes_eq text (codes "&"))
leaf_in_like f v s text class.OpenList p q r = r (bytes_eq text (codes "&"))
leaf_in_like f v s text class.CloseList p q r = r (bytes_eq text (codes "&"))
leaf_in_like f v s text class.Bar p q r = r (bytes_eq text (codes "&"))
leaf_in_like f v s text class.Dot p q r = r (bytes_eq text (codes "&"))
leaf_in_like f v s text class.Backslash p q r = r (bytes_eq text (codes "&"))
leaf_in_like f v s text (class.Keyword k) p q r = r (bytes_eq text (codes "&"))
leaf_in_like f v s text class.Unsupported p q r = r (bytes_eq text (codes "&"))
leaf_in_like f v s text class.End p q r = r (bytes_eq text (codes "&"))

named_leaf : (s : Spot) (b : Bool) → is_leaf (if b then raw.Known 0 s else raw.Name s) ≡ true
named_leaf s true = refl
named_leaf s false = refl

named_binds : (s : Spot) (b : Bool) → binds (if b then raw.Known 0 s else raw.Name s) ≡ false
named_binds s true = refl
named_binds s false = refl

leaf_is : (spot : ℕ → Spot) (ls : List Lexeme) (i : ℕ) → is_leaf (leaf spot ls i) ≡ true
unfolding leaf
leaf_is spot ls i = leaf_in_like is_leaf true (spot i) (bytes_at ls i) (class_at ls i) (λ n. refl) refl (named_leaf (spot i))

leaf_binds : (spot : ℕ → Spot) (ls : List Lexeme) (i : ℕ) → binds (leaf spot ls i) ≡ false
unfolding leaf
leaf_binds spot ls i = leaf_in_like binds false (spot i) (bytes_at ls i) (class_at ls i) (λ n. refl) refl (named_binds (spot i))

pub term_within : (spot : ℕ → Spot) (ls : List Lexeme) (nodes : List RawNode) (i : ℕ) (t : Tree) → Shows spot ls nodes i t → i < length nodes
term_within spot ls nodes i t (leaf_node _ s e) = slice_get_within nodes i _ e
term_within spot ls nodes i t (cons_node _ s e) = slice_get_within nodes i _ e
term_within spot ls nodes i t (nil_node _ s e) = slice_get_within nodes i _ e
term_within spot ls nodes i t (app_node _ f x u v e a b p q) = slice_get_within nodes i _ e
term_within spot ls nodes i t (abs_node _ x v y n u e a b p) = slice_get_within nodes i _ e

pub no_depth : (nodes : List RawNode) (ds : List ℕ) → ds ≡ [] → AreDepths nodes ds
no_depth nodes ds e spot ls i t l s = let z = ap length e in absurd (omega (arith, l, z))

pub depth_more : (nodes : List RawNode) (ds es : List ℕ) (d : ℕ) → AreDepths nodes ds → ((spot : ℕ → Spot) (ls : List Lexeme) (i : ℕ) (t : Tree) → i ≡ length ds → Shows spot ls nodes i t → IsDepth ls t d) → es ≡ ds ++ d ∷ [] → AreDepths nodes es
depth_more nodes ds es d h k e spot ls i t l s = go (compared i (length ds))
  where
    go : Compared i (length ds) → IsDepth ls t (get_or es i 0)
    go (less m) = subst (IsDepth ls t) (sym (ap (λ z. get_or z i 0) e ∙ get_or_append_left ds (d ∷ []) 0 i m)) (h spot ls i t m s)
    go (same m) = subst (IsDepth ls t) (sym ((λ j. get_or (e j) (m j) 0) ∙ get_or-append_seam ds d [] 0)) (k spot ls i t m s)
    go (more m) = let z = ap length e in let w = length-append ds (d ∷ []) in absurd (omega (arith, l, m, z, w))

-- the nodes of a term
pub leaf_count : (spot : ℕ → Spot) (ls : List Lexeme) (nodes : List RawNode) (i : ℕ) (t : Tree) (node : RawNode) → slice_get nodes i ≡ Some node → is_leaf node ≡ true → Shows spot ls nodes i t → IsDepth ls t 1
leaf_count spot ls nodes i t node e h (leaf_node _ s f) = (1, leaf_depth s, omega arith)
leaf_count spot ls nodes i t node e h (cons_node _ s f) = (1, cons s, omega arith)
leaf_count spot ls nodes i t node e h (nil_node _ s f) = (1, nil s, omega arith)
leaf_count spot ls nodes i t node e h (app_node _ f x u v g a b p q) = let z : false ≡ true = ap is_leaf (same_node (sym g ∙ e)) ∙ h in absurd (cc)
leaf_count spot ls nodes i t node e h (abs_node _ x v y n u g a b p) = let z : false ≡ true = ap is_leaf (same_node (sym g ∙ e)) ∙ h in absurd (cc)

no_leaf_there : (spot : ℕ → Spot) (ls : List Lexeme) (nodes : List RawNode) (i s : ℕ) (node : RawNode) → slice_get nodes i ≡ Some node → is_leaf node ≡ false → slice_get nodes i ≡ Some (leaf spot ls s) → ⊥
no_leaf_there spot ls nodes i s node e h f = let z : true ≡ false = sym (leaf_is spot ls s) ∙ ap is_leaf (same_node (sym f ∙ e)) ∙ h in cc

pub application_count : (spot : ℕ → Spot) (ls : List Lexeme) (nodes : List RawNode) (ds : List ℕ) (i f x d : ℕ) (t : Tree) → slice_get nodes i ≡ Some
    (raw.App f x) → i ≡ length ds → ((u v : Tree) → f < length ds → x < length ds → Shows spot ls nodes f u → Shows spot ls nodes x v → IsDepth ls
    (App u v) d) → Shows spot ls nodes i t → IsDepth ls t d
application_count spot ls nodes ds i f x d t e m k (leaf_node _ s g) = absurd (no_leaf_there spot ls nodes i s _ e refl g)
application_count spot ls nodes ds i f x d t e m k (cons_node _ s g) = let z = sym g ∙ e in absurd (cc)
application_count spot ls nodes ds i f x d t e m k (nil_node _ s g) = let z = sym g ∙ e in absurd (cc)
application_count spot ls nodes ds i f x d t e m k (app_node _ f' x' u v g a b p q) =
    let z = same_parts (sym g ∙ e) in
    k u v (let y = z.0 in omega (arith, m, a, y)) (let y = z.1 in omega (arith, m, b, y)) (subst (λ j. Shows spot ls nodes j u) z.0 p) (subst (λ j. Shows spot ls nodes j v) z.1 q)
  where
    same_parts : {a b c d : ℕ} → ◌≡◌ {A = Option RawNode} (Some (raw.App a b)) (Some (raw.App c d)) → (a ≡ c) × (b ≡ d)
    same_parts e = (cc, cc)
application_count spot ls nodes ds i f x d t e m k (abs_node _ x' v y n u g a b p) = let z = sym g ∙ e in absurd (cc)

pub applied_depth : (ls : List Lexeme) (t u : Tree) (a b d : ℕ) → IsDepth ls t a → IsDepth ls u b → ((n : ℕ) → as_head t n ≡ n) → d ≡ max a (min (b + 1) (2 ^ 64 - 1)) → IsDepth ls (App t u) d
applied_depth ls t u a b d h k e f = (max (as_head t h.0) (k.0 + 1), applied t u _ h.0 k.0 h.1 k.1 refl, f ∙ counted_both a (min (b + 1) (2 ^ 64 - 1)) (as_head t h.0) (k.0 + 1) (h.2 ∙ ap counted (sym (e h.0))) (counted_more b k.0 k.2))

pub abstraction_applied : (ls : List Lexeme) (t u : Tree) (a b d : ℕ) → IsDepth ls t a → IsDepth ls u b → ((n : ℕ) → as_head t n ≡ n + 1) → d ≡ max (min (a + 1) (2 ^ 64 - 1)) (min (b + 1) (2 ^ 64 - 1)) → IsDepth ls (App t u) d
abstraction_applied ls t u a b d h k e f = (max (as_head t h.0) (k.0 + 1), applied t u _ h.0 k.0 h.1 k.1 refl, f ∙ counted_both (min (a + 1) (2 ^ 64 - 1)) (min (b + 1) (2 ^ 64 - 1)) (as_head t h.0) (k.0 + 1) (counted_more a h.0 h.2 ∙ ap counted (sym (e h.0))) (counted_more b k.0 k.2))

plain_body : (d x m n : ℕ) → n ≡ 0 → x ≡ counted m → d ≡ counted (max x n + 1) → d ≡ counted (m + 1)
plain_body d x m n e h k = omega (arith, e, h, k)

noted_body : (d x m n k : ℕ) → n ≡ counted k → x ≡ counted m → d ≡ counted (max x n + 1) → d ≡ counted (max m k + 1)
noted_body d x m n k e h f = omega (arith, e, h, f)

under_binder : (spot : ℕ → Spot) (ls : List Lexeme) (v x d n : ℕ) (y : Option ℕ) (ann : Option RawType) (b : Tree) → IsNoted spot ls y ann → IsDepth ls b x → IsNoteDepth ann n → d ≡ counted (max x n + 1) → IsDepth ls (Lam v y b) d
under_binder spot ls v x d n None None b w h k e = (h.0 + 1, abstracted v b _ h.0 h.1 refl, plain_body d x h.0 n k h.2 e)
under_binder spot ls v x d n None (Some ty) b w h k e = absurd w
under_binder spot ls v x d n (Some c) None b w h k e = absurd w
under_binder spot ls v x d n (Some c) (Some ty) b w h k e =
    let m = type_depth w.tree in
    (max h.0 m + 1, annotated v c w.end b w.tree _ h.0 h.1 w.type_is w.mark refl, noted_body d x h.0 n m (k spot w.tree w.nodes) h.2 e)

pub abstraction_count : (spot : ℕ → Spot) (ls : List Lexeme) (nodes : List RawNode) (ds : List ℕ) (i x d n : ℕ) (s : Spot) (ann : Option RawType)
    (t : Tree) → AreDepths nodes ds → slice_get nodes i ≡ Some (raw.Abs s ann x) → i ≡ length ds → IsNoteDepth ann n → d ≡ counted
    (max (get_or ds x 0) n + 1) → Shows spot ls nodes i t → IsDepth ls t d
abstraction_count spot ls nodes ds i x d n s ann t h e m k g (leaf_node _ r f) = absurd (no_leaf_there spot ls nodes i r _ e refl f)
abstraction_count spot ls nodes ds i x d n s ann t h e m k g (cons_node _ r f) = let z = sym f ∙ e in absurd (cc)
abstraction_count spot ls nodes ds i x d n s ann t h e m k g (nil_node _ r f) = let z = sym f ∙ e in absurd (cc)
abstraction_count spot ls nodes ds i x d n s ann t h e m k g (app_node _ a b u v f p q r w) = let z = sym f ∙ e in absurd (cc)
abstraction_count spot ls nodes ds i x d n s ann t h e m k g (abs_node _ x' v y y' b f l w p) =
    let z = same_abs (sym f ∙ e) in
    let y' = z.0 in
    under_binder spot ls v (get_or ds x 0) d n y ann b (subst (IsNoted spot ls y) z.1 w) (h spot ls x b (omega (arith, l, m, y')) (subst (λ j. Shows spot ls nodes j b) z.0 p)) k g
  where
    same_abs : {r q : Spot} {m n : Option RawType} {a b : ℕ} → ◌≡◌ {A = Option RawNode} (Some (raw.Abs r m a)) (Some (raw.Abs q n b)) → (a ≡ b) × (m ≡ n)
    same_abs e = (cc, cc)

-- what a node at its head is
pub head_depth : (spot : ℕ → Spot) (ls : List Lexeme) (nodes : List RawNode) (i : ℕ) (t : Tree) (n : ℕ) (node : RawNode) → slice_get nodes i ≡ Some node → Shows spot ls nodes i t → as_head t n ≡ (if binds node then n + 1 else n)
head_depth spot ls nodes i t n node e (leaf_node _ s f) = ap (λ b. if b then n + 1 else n) (sym (leaf_binds spot ls s) ∙ ap binds (same_node (sym f ∙ e)))
head_depth spot ls nodes i t n node e (cons_node _ s f) = ap (λ m. if binds m then n + 1 else n) (same_node (sym f ∙ e))
head_depth spot ls nodes i t n node e (nil_node _ s f) = ap (λ m. if binds m then n + 1 else n) (same_node (sym f ∙ e))
head_depth spot ls nodes i t n node e (app_node _ a b u v f p q r w) = ap (λ m. if binds m then n + 1 else n) (same_node (sym f ∙ e))
head_depth spot ls nodes i t n node e (abs_node _ x v y ann b f l w p) = ap (λ m. if binds m then n + 1 else n) (same_node (sym f ∙ e))

pub head_is : (spot : ℕ → Spot) (ls : List Lexeme) (nodes : List RawNode) (i : ℕ) (node : RawNode) (b c : Bool) → slice_get nodes i ≡ Some node → b ≡ binds node → b ≡ c → (t : Tree) → Shows spot ls nodes i t → (n : ℕ) → as_head t n ≡ (if c then n + 1 else n)
head_is spot ls nodes i node b c e f g t s n = head_depth spot ls nodes i t n node e s ∙ ap (λ z. if z then n + 1 else n) (sym f ∙ g)

pub abstraction_told : {E : Type 0} (r : Result ℕ E) (nodes : List RawNode) (ds : List ℕ) (node : RawNode) (s : Spot) (ann : Option RawType) (x : ℕ) →
    node ≡ raw.Abs s ann x → IfOk r (λ d. (n : ℕ) × IsNoteDepth ann n × (d ≡ counted (max (get_or ds x 0) n + 1))) → IfOk r
    (λ d. (spot : ℕ → Spot) (ls : List Lexeme) (i : ℕ) (t : Tree) → AreDepths nodes ds → i ≡ length ds → slice_get nodes i ≡ Some node → Shows spot ls
    nodes i t → IsDepth ls t d)
abstraction_told (Ok d) nodes ds node s ann x is k = λ spot ls i t h m e q. abstraction_count spot ls nodes ds i x d k.0 s ann t h (e ∙ ap Some is) m k.1 k.2 q
abstraction_told (Err f) nodes ds node s ann x is k = tt
