-- The trees of nodes, as nodes are added.
use Rattle.std.proofs.Common.{◌≡◌, ℕ, zero, suc, ◌+◌, ◌<◌, List, [], ◌∷◌, ◌++◌, length, refl, sym, ap, ◌∙◌, subst, ◌⊎◌, inl, inr, arith, append_assoc, append-nil, length-append}
use Rattle.std.specs.Prelude.{Some, slice_get, Result, Ok, Err, OnOk}
use Rattle.lp_syntax.specs.declared.node.Node.{Node}
use Rattle.lp_syntax.specs.Symbols.{Tree}
use Rattle.lp_syntax.specs.Nodes.{at, node_tree, trees_from, trees, IsNodeBelow, IsOrdered, Grows}

pub trees_more : (ts : List Tree) (ns ms : List Node) → trees_from ts (ns ++ ms) ≡ trees_from (trees_from ts ns) ms
trees_more ts [] ms = refl
trees_more ts (n ∷ ns) ms = trees_more (ts ++ node_tree ts n ∷ []) ns ms

-- the trees of the new nodes stand behind the older ones
pub record Longer (ts us : List Tree) : Type 0 where
  pub behind : List Tree
  pub same : us ≡ ts ++ behind

pub longer_from : (ts : List Tree) (ns : List Node) → Longer ts (trees_from ts ns)
longer_from ts [] = record { behind = []; same = sym (append-nil ts) }
longer_from ts (n ∷ ns) = let r = longer_from (ts ++ node_tree ts n ∷ []) ns in record { behind = node_tree ts n ∷ r.behind; same = r.same ∙ append_assoc ts (node_tree ts n ∷ []) r.behind }

length_from : (ts : List Tree) (ns : List Node) → length (trees_from ts ns) ≡ length ts + length ns
length_from ts [] = omega arith
length_from ts (n ∷ ns) = let h = length_from (ts ++ node_tree ts n ∷ []) ns in let l = length-append ts (node_tree ts n ∷ []) in omega arith

pub length_trees : (ns : List Node) → length (trees ns) ≡ length ns
unfolding trees
length_trees ns = let h = length_from [] ns in omega (arith, h)

pub at_front : (ts us : List Tree) (i : ℕ) → i < length ts → at (ts ++ us) i ≡ at ts i
at_front [] us i h = absurd (omega arith)
at_front (t ∷ ts) us zero h = refl
at_front (t ∷ ts) us (suc i) h = at_front ts us i (omega arith)

pub at_end : (ts : List Tree) (t : Tree) → at (ts ++ t ∷ []) (length ts) ≡ t
at_end [] t = refl
at_end (x ∷ ts) t = at_end ts t

get_front : (ns : List Node) (m n : Node) (i : ℕ) → slice_get (ns ++ m ∷ []) i ≡ Some n → ((i ≡ length ns) × (m ≡ n)) ⊎ (slice_get ns i ≡ Some n)
get_front [] m n zero e = let f : m ≡ n = cc in inl (refl, f)
get_front [] m n (suc i) e = cc
get_front (x ∷ ns) m n zero e = inr e
get_front (x ∷ ns) m n (suc i) e = go (get_front ns m n i e)
  where
    go : ((i ≡ length ns) × (m ≡ n)) ⊎ (slice_get ns i ≡ Some n) → ((suc i ≡ suc (length ns)) × (m ≡ n)) ⊎ (slice_get ns i ≡ Some n)
    go (inl p) = inl (ap suc p.0, p.1)
    go (inr q) = inr q

ordered_one : (ns : List Node) (m : Node) → IsNodeBelow (length ns) m → IsOrdered ns → IsOrdered (ns ++ m ∷ [])
ordered_one ns m b o = λ i n e. go i n (get_front ns m n i e)
  where
    go : (i : ℕ) (n : Node) → ((i ≡ length ns) × (m ≡ n)) ⊎ (slice_get ns i ≡ Some n) → IsNodeBelow i n
    go i n (inl p) = subst (λ z. IsNodeBelow z n) (sym p.0) (subst (IsNodeBelow (length ns)) p.1 b)
    go i n (inr q) = o i n q

-- a node's tree stays
pub grows_one : (old : List Node) (n : Node) → IsNodeBelow (length old) n → Grows old (old ++ n ∷ [])
unfolding trees
grows_one old n b = record {
  longer = let l = length-append old (n ∷ []) in omega (arith, l);
  kept = λ i h.
      let r = longer_from (trees_from [] old) (n ∷ []) in
      let l = length_from [] old in
      ap (λ ts. at ts i) (trees_more [] old (n ∷ []) ∙ r.same) ∙ at_front (trees_from [] old) r.behind i (omega (arith, l, h));
  ordered = ordered_one old n b;
}

pub at_new : (old : List Node) (n : Node) → at (trees (old ++ n ∷ [])) (length old) ≡ node_tree (trees old) n
unfolding trees
at_new old n =
    let l : length old ≡ length (trees_from [] old) = sym (length_trees' old) in
    ap (λ ts. at ts (length old)) (trees_more [] old (n ∷ [])) ∙ ap (at (trees_from [] old ++ node_tree (trees_from [] old) n ∷ [])) l ∙ at_end (trees_from [] old) _
  where
    length_trees' : (ns : List Node) → length (trees_from [] ns) ≡ length ns
    length_trees' ns = let h = length_from [] ns in omega (arith, h)

pub grows_none : (ns : List Node) → Grows ns ns
grows_none ns = record { longer = omega arith; kept = λ i h. refl; ordered = λ o. o }

pub grows_on : (ks bs cs : List Node) → Grows ks bs → Grows bs cs → Grows ks cs
grows_on ks bs cs g h = record {
  longer = let a = g.longer in let b = h.longer in omega (arith, a, b);
  kept = λ i l. let a = g.longer in h.kept i (omega (arith, a, l)) ∙ g.kept i l;
  ordered = λ o. h.ordered (g.ordered o);
}

-- what a new node gives
pub added_tree : (old new : List Node) (n : Node) (i : ℕ) → new ≡ old ++ n ∷ [] → i ≡ length old → at (trees new) i ≡ node_tree (trees old) n
added_tree old new n i e f = rw (e, f) (at_new old n)

pub added_grows : (old new : List Node) (n : Node) → IsNodeBelow (length old) n → new ≡ old ++ n ∷ [] → Grows old new
added_grows old new n b e = subst (Grows old) (sym e) (grows_one old n b)

pub after_grows : {T E : Type 0} (ks bs cs : List Node) (r : Result T E) → Grows ks bs → OnOk r (Grows bs cs) → OnOk r (Grows ks cs)
after_grows ks bs cs (Ok x) g h = grows_on ks bs cs g h
after_grows ks bs cs (Err e) g h = tt
