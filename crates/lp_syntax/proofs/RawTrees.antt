-- The nodes that are handed out show the tree of the nodes that were built.
use Rattle.std.proofs.Common.{◌≡◌, ℕ, zero, suc, ◌+◌, ◌<◌, ◌≤◌, inl, inr, List, [], ◌∷◌, ◌++◌, length, take, refl, sym, ap, ◌∙◌, subst, arith, append_assoc, length-append, get_or}
use Rattle.std.specs.Prelude.{Option, Some, None, slice_get}
use Rattle.std.proofs.lemmas.List.{take_more}
use Rattle.lp_lemmas.proofs.Lists.{get_below}
use Rattle.lp_base.specs.declared.place.Spot.{Spot}
use Rattle.lp_syntax.specs.declared.class.Class.TheVariants.{Colon, Backslash}
use Rattle.lp_syntax.specs.declared.node.Node.{Node}
use Rattle.lp_syntax.specs.declared.node.Node.TheVariants as node
use Rattle.lp_syntax.specs.declared.symbol.Sym.{Sym}
use Rattle.lp_syntax.specs.declared.symbol.Sym.TheVariants as symbol
use Rattle.lp_syntax.specs.declared.text.RawNode.{RawNode}
use Rattle.lp_syntax.specs.declared.text.RawType.{RawType}
use Rattle.lp_syntax.specs.Symbols.{Tree, Leaf, Cons, Nil, App, Lam}
use Rattle.lp_syntax.specs.Grammar.{Kind, Derives, word, atom, parens, named, empty, listed, last, tail, more, single, applied, abstracted, bound, between, before, behind}
use Rattle.lp_syntax.specs.Nodes.{trees, trees_from, node_tree, at, IsNodeBelow, IsOrdered}
use Rattle.lp_standard.specs.declared.fixity.Fixity.{Fixity}
use Rattle.lp_syntax.specs.declared.class.Class.{Class}
use Rattle.lp_syntax.specs.declared.class.Class.TheVariants as class
use Rattle.lp_syntax.specs.Tokens.{Lexeme, Operators, class_at, bytes_at, symbol_of, symbol_at}
use Rattle.lp_syntax.specs.Types.{TypeTree, IsType, Whole}
use Rattle.lp_syntax.specs.TypeMachine.{Ends, Stops, IsHalt}
use Rattle.lp_syntax.specs.Terms.{Spells, done, token, note, TermAt}
use Rattle.lp_syntax.specs.Raw.{IsNoted, Shows, leaf_node, cons_node, nil_node, app_node, abs_node, IsReadNote, IsRaw, AreRaw}
use Rattle.lp_syntax.proofs.Arena.{at_front, at_end, trees_more, longer_from, length_trees}
use Rattle.lp_syntax.proofs.Tokens.{past_end}
use Rattle.lp_syntax.proofs.TypeFaults.{Compared, less, same, more as further, compared, type_end}

-- each annotation of a tree, by its colon, and each annotation of symbols
abbrev pub Notes : (ℕ → Type 0) → Tree → Type 0
Notes P (Leaf i) = Unit {0}
Notes P (Cons i) = Unit {0}
Notes P (Nil i) = Unit {0}
Notes P (App t u) = Notes P t × Notes P u
Notes P (Lam v None t) = Notes P t
Notes P (Lam v (Some c) t) = P c × Notes P t

abbrev pub Binders : (ℕ → Type 0) → List Sym → Type 0
Binders P [] = Unit {0}
Binders P (symbol.Binds (Some c) ∷ cs) = P c × Binders P cs
Binders P (_ ∷ cs) = Binders P cs

binders_split : (P : ℕ → Type 0) (cs ds : List Sym) → Binders P (cs ++ ds) → Binders P cs × Binders P ds
binders_split P [] ds h = (tt, h)
binders_split P (symbol.Binds (Some c) ∷ cs) ds h = let r = binders_split P cs ds h.1 in ((h.0, r.0), r.1)
binders_split P ((symbol.Word v) ∷ cs) ds h = binders_split P cs ds h
binders_split P ((symbol.Atom v) ∷ cs) ds h = binders_split P cs ds h
binders_split P ((symbol.Op o) ∷ cs) ds h = binders_split P cs ds h
binders_split P (symbol.Opens ∷ cs) ds h = binders_split P cs ds h
binders_split P (symbol.Closes ∷ cs) ds h = binders_split P cs ds h
binders_split P ((symbol.OpensList v) ∷ cs) ds h = binders_split P cs ds h
binders_split P ((symbol.ClosesList v) ∷ cs) ds h = binders_split P cs ds h
binders_split P (symbol.Bar ∷ cs) ds h = binders_split P cs ds h
binders_split P (symbol.Other ∷ cs) ds h = binders_split P cs ds h
binders_split P ((symbol.Binds None) ∷ cs) ds h = binders_split P cs ds h

notes_lam : (P : ℕ → Type 0) (v : ℕ) (y : Option ℕ) (t : Tree) (cs : List Sym) → (Binders P cs → Notes P t) → Binders P (symbol.Binds y ∷ cs) → Notes P (Lam v y t)
notes_lam P v None t cs f h = f h
notes_lam P v (Some c) t cs f h = (h.0, f h.1)

-- the annotations of a tree are those of its symbols
notes_of : (P : ℕ → Type 0) (k : Kind) (cs : List Sym) (t : Tree) → Derives k cs t → Binders P cs → Notes P t
notes_of P k cs t (word v) h = tt
notes_of P k cs t (atom v) h = tt
notes_of P k cs t (parens b f us u d) h = notes_of P _ us u d (binders_split P us (symbol.Closes ∷ []) h).0
notes_of P k cs t (named o) h = tt
notes_of P k cs t (empty v c) h = tt
notes_of P k cs t (listed v us u d) h = notes_of P _ us u d h
notes_of P k cs t (last v c b f us u i d) h = ((tt, notes_of P _ us u d (binders_split P us (symbol.ClosesList c ∷ []) h).0), tt)
notes_of P k cs t (tail v c b f us u b' f' vs w i d e) h =
    let r = binders_split P us (symbol.Bar ∷ (vs ++ symbol.ClosesList c ∷ [])) h in
    ((tt, notes_of P _ us u d r.0), notes_of P _ vs w e (binders_split P vs (symbol.ClosesList c ∷ []) r.1).0)
notes_of P k cs t (more v o f us u vs w q i d e) h = let r = binders_split P us (symbol.Op o ∷ vs) h in ((tt, notes_of P _ us u d r.0), notes_of P _ vs w e r.1)
notes_of P k cs t (single us u d) h = notes_of P _ us u d h
notes_of P k cs t (applied us u vs w d e) h = let r = binders_split P us vs h in (notes_of P _ us u d r.0, notes_of P _ vs w e r.1)
notes_of P k cs t (abstracted v y b f us u d) h = notes_lam P v y u us (notes_of P _ us u d) h
notes_of P k cs t (bound v y b f us u vs w d e) h = let r = binders_split P us (symbol.Word v ∷ symbol.Binds y ∷ vs) h in (notes_of P _ us u d r.0, notes_lam P v y w vs (notes_of P _ vs w e) r.1)
notes_of P k cs t (between o b f g us u vs w p q l m d e) h = let r = binders_split P us (symbol.Op o ∷ vs) h in ((tt, notes_of P _ us u d r.0), notes_of P _ vs w e r.1)
notes_of P k cs t (before o b f us u p m d) h = (tt, notes_of P _ us u d h)
notes_of P k cs t (behind o f us u q l d) h = (tt, notes_of P _ us u d (binders_split P us (symbol.Op o ∷ []) h).0)

-- an annotation stands behind this colon
pub record IsNoteAt (ls : List Lexeme) (c : ℕ) : Type 0 where
  pub tree : TypeTree
  pub end : ℕ
  pub type_is : IsType ls Whole (suc c) end tree
  pub mark : class_at ls end ≡ Backslash
  pub low : c < length ls

plain_binders : (P : ℕ → Type 0) (i : ℕ) (c : Class) (e : Option (Fixity × ℕ)) (cs : List Sym) → Binders P cs → Binders P (symbol_of i c e ∷ cs)
plain_binders P i class.Lower None cs h = h
plain_binders P i class.Lower (Some e) cs h = h
plain_binders P i class.Upper e cs h = h
plain_binders P i class.Symbol None cs h = h
plain_binders P i class.Symbol (Some e) cs h = h
plain_binders P i class.Comma None cs h = h
plain_binders P i class.Comma (Some e) cs h = h
plain_binders P i class.Colon e cs h = h
plain_binders P i class.Arrow e cs h = h
plain_binders P i (class.Number n) e cs h = h
plain_binders P i class.Text e cs h = h
plain_binders P i class.Open e cs h = h
plain_binders P i class.Close e cs h = h
plain_binders P i class.OpenList e cs h = h
plain_binders P i class.CloseList e cs h = h
plain_binders P i class.Bar e cs h = h
plain_binders P i class.Dot e cs h = h
plain_binders P i class.Backslash e cs h = h
plain_binders P i (class.Keyword k) e cs h = h
plain_binders P i class.Unsupported e cs h = h
plain_binders P i class.End e cs h = h

symbol_binders : (P : ℕ → Type 0) (ops : Operators) (ls : List Lexeme) (i : ℕ) (cs : List Sym) → Binders P cs → Binders P (symbol_at ops ls i ∷ cs)
unfolding symbol_at
symbol_binders P ops ls i cs h = plain_binders P i (class_at ls i) (ops (bytes_at ls i)) cs h

colon_there : (ls : List Lexeme) (i : ℕ) → class_at ls i ≡ Colon → i < length ls
colon_there ls i e = go (compared i (length ls))
  where
    past : length ls ≤ i → ⊥
    past l = let g = sym (past_end ls i l) ∙ e in cc

    go : Compared i (length ls) → i < length ls
    go (less l) = l
    go (same f) = absurd (past (omega (arith, f)))
    go (further l) = absurd (past (omega (arith, l)))

spelled_notes : (ops : Operators) (ls : List Lexeme) (i j : ℕ) (cs : List Sym) → Spells ops ls i j cs → Binders (IsNoteAt ls) cs
spelled_notes ops ls i j cs (done _) = tt
spelled_notes ops ls i j cs (token _ _ ds c d) = symbol_binders (IsNoteAt ls) ops ls i ds (spelled_notes ops ls (suc i) j ds d)
spelled_notes ops ls i j cs (note _ k _ t ds c y b d) = (record { tree = t; end = k; type_is = y; mark = b; low = colon_there ls i c }, spelled_notes ops ls (suc k) j ds d)

pub term_notes : (ops : Operators) (ls : List Lexeme) (from to : ℕ) (t : Tree) → TermAt ops ls from to t → Notes (IsNoteAt ls) t
term_notes ops ls from to t d = notes_of (IsNoteAt ls) _ d.symbols t d.is.derives (spelled_notes ops ls from to d.symbols d.spells)

-- the tree of a node is made of the trees of the nodes that it names
kept_tree : (ts us : List Tree) (n : Node) → IsNodeBelow (length ts) n → node_tree (ts ++ us) n ≡ node_tree ts n
kept_tree ts us (node.Leaf i) b = refl
kept_tree ts us (node.Cons i) b = refl
kept_tree ts us (node.Nil i) b = refl
kept_tree ts us (node.App f x) b = λ k. App (at_front ts us f b.0 k) (at_front ts us x b.1 k)
kept_tree ts us (node.Lam v y x) b = ap (Lam v y) (at_front ts us x b)

record Split (ns : List Node) (i : ℕ) (n : Node) : Type 0 where
  front : List Node
  back : List Node
  are : ns ≡ front ++ n ∷ back
  long : i ≡ length front

split : (ns : List Node) (i : ℕ) (n : Node) → slice_get ns i ≡ Some n → Split ns i n
split [] i n e = cc
split (m ∷ ns) zero n e = let f : m ≡ n = cc in record { front = []; back = ns; are = ap (λ z. z ∷ ns) f; long = refl }
split (m ∷ ns) (suc i) n e = let r = split ns i n e in record { front = m ∷ r.front; back = r.back; are = ap (λ l. m ∷ l) r.are; long = ap suc r.long }

tree_at : (ns : List Node) (i : ℕ) (n : Node) → IsNodeBelow i n → slice_get ns i ≡ Some n → at (trees ns) i ≡ node_tree (trees ns) n
unfolding trees
tree_at ns i n b e =
    let s = split ns i n e in
    let ts = trees_from [] s.front in
    let l : length s.front ≡ length ts = sym (length_trees s.front) in
    let r = longer_from (ts ++ node_tree ts n ∷ []) s.back in
    let w : trees_from [] ns ≡ ts ++ (node_tree ts n ∷ r.behind) = ap (trees_from []) s.are ∙ trees_more [] s.front (n ∷ s.back) ∙ r.same ∙ append_assoc ts (node_tree ts n ∷ []) r.behind in
    let k = s.long in
    let p = length-append ts (node_tree ts n ∷ []) in
    ap (at (trees_from [] ns)) (k ∙ l)
    ∙ ap (λ z. at z (length ts)) (ap (trees_from []) s.are ∙ trees_more [] s.front (n ∷ s.back) ∙ r.same)
    ∙ at_front (ts ++ node_tree ts n ∷ []) r.behind (length ts) (omega (arith, p))
    ∙ at_end ts (node_tree ts n)
    ∙ sym (kept_tree ts (node_tree ts n ∷ r.behind) n (subst (λ j. IsNodeBelow j n) (k ∙ l) b))
    ∙ ap (λ z. node_tree z n) (sym w)

-- the node that is handed out for a node
raw_at : (spot : ℕ → Spot) (ls : List Lexeme) (ns : List Node) (rs : List RawNode) (i : ℕ) (n : Node) → AreRaw spot ls ns rs → slice_get ns i ≡ Some n → (r : RawNode) × (slice_get rs i ≡ Some r) × IsRaw spot ls n r
raw_at spot ls [] rs i n a e = cc
raw_at spot ls (m ∷ ns) [] i n a e = absurd a
raw_at spot ls (m ∷ ns) (r ∷ rs) zero n a e = let f : m ≡ n = cc in (r, refl, subst (λ z. IsRaw spot ls z r) f a.0)
raw_at spot ls (m ∷ ns) (r ∷ rs) (suc i) n a e = raw_at spot ls ns rs i n a.1 e

noted : (spot : ℕ → Spot) (ls : List Lexeme) (c : ℕ) (w : Option RawType) → IsNoteAt ls c → IsReadNote spot ls (Some c) w → IsNoted spot ls (Some c) w
noted spot ls c (Some ty) n r =
    let z : suc c ≡ c + 1 = omega arith in
    let q = r.1 in
    let e = type_end ls (c + 1) r.0 n.end q.state n.tree q.runs (subst IsHalt (sym q.moves) tt) (subst (λ j. IsType ls Whole j n.end n.tree) z n.type_is) n.mark in
    record { end = r.0; tree = r.2.tree; type_is = subst (λ j. IsType ls Whole j r.0 r.2.tree) (sym z) r.2.type_is; mark = ap (class_at ls) e.0 ∙ n.mark; nodes = r.2.shows }
noted spot ls c None n (inl l) = let h = n.low in absurd (omega (arith, l, h))
noted spot ls c None n (inr r) =
    let z : suc c ≡ c + 1 = omega arith in
    let q = r.1 in
    let e = type_end ls (c + 1) r.0 n.end q.state n.tree q.runs (subst IsHalt (sym q.moves) tt) (subst (λ j. IsType ls Whole j n.end n.tree) z n.type_is) n.mark in
    let g : Stops ≡ Ends = sym q.moves ∙ e.1 in
    absurd (cc)

noted_lam : (spot : ℕ → Spot) (ls : List Lexeme) (v : ℕ) (y : Option ℕ) (t : Tree) (w : Option RawType) → Notes (IsNoteAt ls) (Lam v y t) → IsReadNote spot ls y w → IsNoted spot ls y w × Notes (IsNoteAt ls) t
noted_lam spot ls v None t w h r = (subst (IsNoted spot ls None) (sym r) tt, h)
noted_lam spot ls v (Some c) t w h r = (noted spot ls c w h.0 r, h.1)

show_from : (spot : ℕ → Spot) (ls : List Lexeme) (ns : List Node) (rs : List RawNode) → AreRaw spot ls ns rs → IsOrdered ns → (k i : ℕ) → i < k → i < length ns → Notes (IsNoteAt ls) (at (trees ns) i) → Shows spot ls rs i (at (trees ns) i)
show_from spot ls ns rs a o zero i l m h = absurd (omega (arith, l))
show_from spot ls ns rs a o (suc k) i l m h =
    let g = get_below ns i m in
    let r = raw_at spot ls ns rs i g.0 a g.1 in
    let b = o i g.0 g.1 in
    let e = tree_at ns i g.0 b g.1 in
    subst (Shows spot ls rs i) (sym e) (go g.0 b r.0 r.1 r.2 (subst (Notes (IsNoteAt ls)) e h) (λ j u. show_from spot ls ns rs a o k j (omega (arith, l, u)) (omega (arith, m, u))))
  where
    go : (n : Node) → IsNodeBelow i n → (r : RawNode) → slice_get rs i ≡ Some r → IsRaw spot ls n r → Notes (IsNoteAt ls) (node_tree (trees ns) n) → ((j : ℕ) → j < i → Notes (IsNoteAt ls) (at (trees ns) j) → Shows spot ls rs j (at (trees ns) j)) → Shows spot ls rs i (node_tree (trees ns) n)
    go (node.Leaf t) b r e w z on = leaf_node i t (e ∙ ap Some w)
    go (node.Cons t) b r e w z on = cons_node i t (e ∙ ap Some w)
    go (node.Nil t) b r e w z on = nil_node i t (e ∙ ap Some w)
    go (node.App f x) b r e w z on = app_node i f x _ _ (e ∙ ap Some w) b.0 b.1 (on f b.0 z.0) (on x b.1 z.1)
    go (node.Lam v y x) b r e w z on = let q = noted_lam spot ls v y (at (trees ns) x) w.0 z w.2 in abs_node i x v y w.0 _ (e ∙ ap Some w.1) b q.0 (on x b q.1)

pub shows : (spot : ℕ → Spot) (ls : List Lexeme) (ns : List Node) (rs : List RawNode) (i : ℕ) (t : Tree) → AreRaw spot ls ns rs → IsOrdered ns → i < length ns → at (trees ns) i ≡ t → Notes (IsNoteAt ls) t → Shows spot ls rs i t
shows spot ls ns rs i t a o m e h = subst (Shows spot ls rs i) e (show_from spot ls ns rs a o (suc i) i (omega arith) m (subst (Notes (IsNoteAt ls)) (sym e) h))

raw_push : (spot : ℕ → Spot) (ls : List Lexeme) (ns : List Node) (rs : List RawNode) (n : Node) (r : RawNode) → AreRaw spot ls ns rs → IsRaw spot ls n r → AreRaw spot ls (ns ++ n ∷ []) (rs ++ r ∷ [])
raw_push spot ls [] [] n r a w = (w, tt)
raw_push spot ls [] (x ∷ rs) n r a w = absurd a
raw_push spot ls (m ∷ ns) [] n r a w = absurd a
raw_push spot ls (m ∷ ns) (x ∷ rs) n r a w = (a.0, raw_push spot ls ns rs n r a.1 w)

pub one_more_raw : (spot : ℕ → Spot) (ls : List Lexeme) (ns : List Node) (rs new : List RawNode) (i : ℕ) (d : Node) (r : RawNode) → i < length ns → AreRaw spot ls (take i ns) rs → IsRaw spot ls (get_or ns i d) r → new ≡ rs ++ r ∷ [] → AreRaw spot ls (take (i + 1) ns) new
one_more_raw spot ls ns rs new i d r l a w e = subst (AreRaw spot ls (take (i + 1) ns)) (sym e) (subst (λ ms. AreRaw spot ls ms (rs ++ r ∷ [])) (sym (take_more ns i d l)) (raw_push spot ls (take i ns) rs (get_or ns i d) r a w))
