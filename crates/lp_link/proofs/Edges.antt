-- The copies below the root, each with the one above it, as they are left one behind the other.
use Rattle.std.proofs.Common.{◌≡◌, ℕ, ◌+◌, ◌-◌, ◌<◌, List, [], ◌∷◌, ◌++◌, length, map, reverse, drop, get_or, refl, sym, ap, ◌∙◌, subst, arith, append_assoc, append-nil}
use Rattle.std.specs.Prelude.{All, Option, Some, None, slice_get}
use Rattle.std.proofs.lemmas.List.{reverse-append, reverse-reverse, length-reverse, length-append}
use Rattle.std.proofs.lemmas.List.Elements.{All-nil, All-cons, All-append}
use Rattle.lp_copies.specs.Copies.{Copies, no_copy, copy, IsOpened, IsClosed}
use Rattle.lp_link.specs.declared.places.Member.{Member}
use Rattle.lp_link.specs.declared.fault.Part.{Part}
use Rattle.lp_link.specs.declared.fault.LinkRefusal.{LinkRefusal}
use Rattle.lp_link.specs.declared.fault.LinkRefusal.TheVariants as refusal
use Rattle.lp_link.specs.Edges.{Edges, no_edge, edge}
use Rattle.lp_link.specs.inner.Members.{AreSameMembers, RestOfEdges, IsComparing, IsOther, IsOtherMember, IsCompareRefusal, Differing, AreAllCompared}

abbrev Frame : Type 0
Frame = ℕ × ℕ

abbrev head_of : ℕ → List ℕ → ℕ
head_of d [] = d
head_of d (x ∷ xs) = x

-- the copies of an order have their edges
pub edges_of : (uses : List (List ℕ)) (above : ℕ) (entries all : List ℕ) → Copies uses entries all → (edges : List (ℕ × ℕ)) × Edges uses above entries edges
edges_of uses above entries all no_copy = ([], no_edge above)
edges_of uses above entries all (copy m rest below others x b o is) =
    let (inner, i) = edges_of uses m (get_or uses m []) below b in
    let (more, e) = edges_of uses above rest others o in
    (inner ++ (m, above) ∷ more, edge above m rest inner more (inner ++ (m, above) ∷ more) i e refl)

-- those below the one copy
pub copies_below : (uses : List (List ℕ)) (root : ℕ) (todo all : List ℕ) → todo ≡ root ∷ [] → Copies uses todo all → (below : List ℕ) × Copies uses (get_or uses root []) below
copies_below uses root todo all e no_copy = absurd (let n = ap length e in omega (arith, n))
copies_below uses root todo all e (copy m rest below others x b o is) = (below, subst (λ n. Copies uses (get_or uses n []) below) (ap (head_of m) e) b)

none_below : (uses : List (List ℕ)) (above : ℕ) (todo : List ℕ) (all : List (ℕ × ℕ)) → todo ≡ [] → Edges uses above todo all → all ≡ []
none_below uses above todo all e (no_edge a) = refl
none_below uses above todo all e (edge a m rest inner others x i o is) = absurd (let n = ap length e in omega (arith, n))

abbrev tail_of : List ℕ → List ℕ
tail_of [] = []
tail_of (x ∷ xs) = xs

one_below : (uses : List (List ℕ)) (above m : ℕ) (rest todo : List ℕ) (all : List (ℕ × ℕ)) → todo ≡ m ∷ rest → Edges uses above todo all →
    (inner : List (ℕ × ℕ)) × (others : List (ℕ × ℕ)) × Edges uses m (get_or uses m []) inner × Edges uses above rest others × (all ≡ inner ++ (m, above) ∷ others)
one_below uses above m rest todo all e (no_edge a) = absurd (let n = ap length e in omega (arith, n))
one_below uses above m rest todo all e (edge a k r inner others x i o is) =
    let at : k ≡ m = ap (head_of k) e in
    let on : r ≡ rest = ap tail_of e in
    (inner, others, subst (λ n. Edges uses n (get_or uses n []) inner) at i, subst (λ l. Edges uses above l others) on o, is ∙ ap (λ n. inner ++ (n, above) ∷ others) at)

regroup : (done inner others : List (ℕ × ℕ)) (p : ℕ × ℕ) → (done ++ (inner ++ p ∷ [])) ++ others ≡ done ++ (inner ++ p ∷ others)
regroup done inner others p = simp append_assoc

regroup_more : (done inner others : List (ℕ × ℕ)) (p q : ℕ × ℕ) → (done ++ (inner ++ p ∷ [])) ++ (others ++ q ∷ []) ≡ done ++ ((inner ++ p ∷ others) ++ q ∷ [])
regroup_more done inner others p q = simp append_assoc

-- a copy of the next entry is opened: what was left in a list is those below that copy, and the rest
opened : (uses : List (List ℕ)) (done : List (ℕ × ℕ)) (at next m : ℕ) (fs : List Frame) (all : List (ℕ × ℕ)) → drop next (get_or uses at []) ≡ m ∷ drop (next + 1) (get_or uses at []) →
    RestOfEdges uses done ((at, next) ∷ fs) all → RestOfEdges uses done ((m, 0) ∷ (at, next + 1) ∷ fs) all
opened uses done at next m [] all e (below, b, is) =
    let (inner, others, i, o, q) = one_below uses at m (drop (next + 1) (get_or uses at [])) (drop next (get_or uses at [])) below e b in
    (inner, i, (others, o, regroup done inner others (m, at) ∙ ap (λ l. done ++ l) (sym q) ∙ is))
opened uses done at next m (g ∷ fs) all e (below, b, r) =
    let (inner, others, i, o, q) = one_below uses at m (drop (next + 1) (get_or uses at [])) (drop next (get_or uses at [])) below e b in
    (inner, i, (others, o, subst (λ l. RestOfEdges uses l (g ∷ fs) all) (ap (λ l. done ++ (l ++ (at, g.0) ∷ [])) q ∙ sym (regroup_more done inner others (m, at) (at, g.0))) r))

-- the innermost copy, whose list has no more entries, is left
closed : (uses : List (List ℕ)) (done : List (ℕ × ℕ)) (at next : ℕ) (g : Frame) (fs : List Frame) (all : List (ℕ × ℕ)) → drop next (get_or uses at []) ≡ [] →
    RestOfEdges uses done ((at, next) ∷ g ∷ fs) all → RestOfEdges uses (done ++ (at, g.0) ∷ []) (g ∷ fs) all
closed uses done at next g fs all e (inner, i, r) =
    subst (λ l. RestOfEdges uses (done ++ (l ++ (at, g.0) ∷ [])) (g ∷ fs) all) (none_below uses at (drop next (get_or uses at [])) inner e i) r

-- nothing but the root is left
all_done : (uses : List (List ℕ)) (done : List (ℕ × ℕ)) (at next : ℕ) (all : List (ℕ × ℕ)) → drop next (get_or uses at []) ≡ [] → RestOfEdges uses done ((at, next) ∷ []) all → done ≡ all
all_done uses done at next all e (inner, i, is) = sym (append-nil done) ∙ ap (λ l. done ++ l) (sym (none_below uses at (drop next (get_or uses at [])) inner e i)) ∙ is

-- what is done are the first edges of all
begins : (uses : List (List ℕ)) (done : List (ℕ × ℕ)) (fs : List Frame) (all : List (ℕ × ℕ)) → RestOfEdges uses done fs all → (after : List (ℕ × ℕ)) × (all ≡ done ++ after)
begins uses done [] all e = ([], sym (append-nil done ∙ e))
begins uses done (f ∷ []) all (inner, i, is) = (inner, sym is)
begins uses done (f ∷ g ∷ fs) all (inner, i, r) =
    let (after, is) = begins uses (done ++ (inner ++ (f.0, g.0) ∷ [])) (g ∷ fs) all r in
    ((inner ++ (f.0, g.0) ∷ []) ++ after, is ∙ append_assoc done (inner ++ (f.0, g.0) ∷ []) after)

pub some_same : (a b : ℕ) → Some a ≡ Some b → a ≡ b
some_same a b e = cc

pub some_is : (a : ℕ) → None ≡ Some a → ⊥
some_is a e = cc

module _ (members : List Member) (uses : List (List ℕ)) (root : ℕ) where
  pub comparing_begins : (frames : List Frame) (around : List ℕ) → frames ≡ (root, 0) ∷ [] → around ≡ root ∷ [] → IsComparing members uses root frames around
  comparing_begins frames around f a = record {
    done = [];
    same = All-nil (AreSameMembers members);
    rest = λ all e. subst (λ l. RestOfEdges uses [] l all) (sym f) (all, e, refl);
    stack = ap (map (λ f. f.0)) f ∙ ap reverse (sym a);
  }

  pub comparing_opens : (old new : List Frame) (around more : List ℕ) (m : ℕ) → IsOpened uses old m new → more ≡ around ++ m ∷ [] → IsComparing
      members uses root old around → IsComparing members uses root new more
  comparing_opens old new around more m o a c = record {
    done = c.done;
    same = c.same;
    rest = λ all e. subst (λ l. RestOfEdges uses c.done l all) (sym o.after) (opened uses c.done o.at o.next m o.around all o.entry
        (subst (λ l. RestOfEdges uses c.done l all) o.before (c.rest all e)));
    stack = ap (map (λ f. f.0)) o.after ∙ ap (λ l. m ∷ l) (sym (ap (map (λ f. f.0)) o.before) ∙ c.stack) ∙ sym (reverse-append around (m ∷ [])) ∙ ap reverse (sym a);
  }

  tails : (x y : ℕ) (xs ys : List ℕ) → x ∷ xs ≡ y ∷ ys → xs ≡ ys
  tails x y xs ys e = ap tail_of e

  heads : (x y : ℕ) (xs ys : List ℕ) → x ∷ xs ≡ y ∷ ys → x ≡ y
  heads x y xs ys e = ap (head_of x) e

  -- a copy is left, with the one above it
  module _ (old : List Frame) (m : ℕ) (g : Frame) (fs : List Frame) (left : IsClosed uses old m (g ∷ fs)) (around : List ℕ) (now : IsComparing members uses root old around) where
    open_now : m ∷ g.0 ∷ map (λ f. f.0) fs ≡ reverse around
    open_now = sym (ap (map (λ f. f.0)) left.before) ∙ now.stack

    still : (rest : List ℕ) (x : ℕ) → around ≡ rest ++ x ∷ [] → g.0 ∷ map (λ f. f.0) fs ≡ reverse rest
    still rest x p = tails m x (g.0 ∷ map (λ f. f.0) fs) (reverse rest) (open_now ∙ ap reverse p ∙ reverse-append rest (x ∷ []))

    pub some_open : 0 < length around
    some_open = let n = ap length open_now in let r = length-reverse around in omega (arith, n, r)

    -- the copy above is the last one that is open then
    pub last_is : (rest : List ℕ) (x : ℕ) (last : Option ℕ) → around ≡ rest ++ x ∷ [] → last ≡ slice_get rest (length rest - 1) → last ≡ Some g.0
    last_is rest x last p is = is ∙ ap (λ l. slice_get l (length l - 1)) (sym (reverse-reverse rest) ∙ ap reverse (sym (still rest x p)) ∙
        reverse-append (g.0 ∷ []) (map (λ f. f.0) fs)) ∙ at_end (reverse (map (λ f. f.0) fs)) g.0
      where
        place : (xs : List ℕ) (y : ℕ) → slice_get (xs ++ y ∷ []) (length xs) ≡ Some y
        place [] y = refl
        place (z ∷ xs) y = place xs y

        at_end : (xs : List ℕ) (y : ℕ) → slice_get (xs ++ y ∷ []) (length (xs ++ y ∷ []) - 1) ≡ Some y
        at_end xs y = ap (slice_get (xs ++ y ∷ [])) (let n = length-append xs (y ∷ []) in omega (arith, n)) ∙ place xs y

    edge_left : (all : List (ℕ × ℕ)) → Edges uses root (get_or uses root []) all → RestOfEdges uses (now.done ++ (m, g.0) ∷ []) (g ∷ fs) all
    edge_left all e = closed uses now.done m left.next g fs all left.entry (subst (λ l. RestOfEdges uses now.done l all) left.before (now.rest all e))

    pub comparing_closes : (rest : List ℕ) (x : ℕ) → around ≡ rest ++ x ∷ [] → AreSameMembers members (m, g.0) → IsComparing members uses root (g ∷ fs) rest
    comparing_closes rest x p same = record {
      done = now.done ++ (m, g.0) ∷ [];
      same = All-append (AreSameMembers members) now.done ((m, g.0) ∷ []) now.same (All-cons (AreSameMembers members) (m, g.0) [] same (All-nil (AreSameMembers members)));
      rest = edge_left;
      stack = still rest x p;
    }

    pub differs_first : (number : ℕ) (part : Part) → IsOther members m g.0 number part → (all : List (ℕ × ℕ)) → Edges uses root (get_or uses root []) all → Differing members all number part
    differs_first number part o all e =
        let (after, is) = begins uses (now.done ++ (m, g.0) ∷ []) (g ∷ fs) all (edge_left all e) in
        record { before = now.done; after = after; below = m; above = g.0; place = is ∙ append_assoc now.done ((m, g.0) ∷ []) after; same = now.same; is_other = o }

    pub refused_first : (e : LinkRefusal) → IsOtherMember members m g.0 e → IsCompareRefusal members uses root e
    refused_first (refusal.Differ n p) o = differs_first n p o
    refused_first refusal.Memory o = tt
    refused_first (refusal.Limit l) o = absurd o

  pub all_compared : (old : List Frame) (m : ℕ) (around : List ℕ) → IsClosed uses old m [] → IsComparing members uses root old around → AreAllCompared members uses root
  all_compared old m around left now = λ all e.
      subst (All (AreSameMembers members)) (all_done uses now.done m left.next all left.entry (subst (λ l. RestOfEdges uses now.done l all) left.before (now.rest all e))) now.same
