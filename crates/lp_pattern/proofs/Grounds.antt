-- Ground terms of first order stay as they are under closings and openings; a look sees their heads at once, a scan counts their nodes, and they are settled.
use Rattle.std.proofs.Common.{◌≡◌, ℕ, zero, suc, ◌+◌, ◌<◌, List, [], ◌∷◌, ◌++◌, map, reverse, length, refl, sym, ap, ◌∙◌, subst as transport, arith, Bool, true, false, Option, Some, None, ◌||◌}
use Rattle.std.specs.Prelude.{All, option_map, not}
use Rattle.std.proofs.lemmas.List.{reverse-append}
use Rattle.std.proofs.lemmas.List.Elements.{All-push}
use Rattle.lp_lemmas.specs.Each.{EachOf}
use Rattle.lp_calculus.specs.Term.{Term, Atom, index, atom, abs, app, apply, constant, integer, text, eigen, logic, param}
use Rattle.lp_calculus.specs.Convert.{option_term}
use Rattle.lp_calculus.specs.Fill.{fill, at_eigens}
use Rattle.lp_calculus.specs.Normal.{nodes}
use Rattle.lp_calculus.proofs.Sigma.{subst}
use Rattle.lp_term.specs.Facts.{IsFixed, IsGround}
use Rattle.lp_term.specs.Nodes.{Nodes, tree}
use Rattle.lp_term.specs.declared.node.TermId.{TermId}
use Rattle.lp_model.specs.Look.{Look, an_abs, rigid, flexible, looked, weak_step, top_normal}
use Rattle.lp_model.specs.Pair.{Closing, closed}
use Rattle.lp_model.specs.Scan.{Side, allows_head, Scanned, broken, whole, above, beside}
use Rattle.lp_pattern.specs.declared.bindings.Bindings.{Bindings}
use Rattle.lp_pattern.specs.declared.fault.PatternRefusal.TheVariants.{Deep}
use Rattle.lp_pattern.specs.declared.opened.Opened.{Opened}
use Rattle.lp_pattern.specs.declared.scan.Scanned.{Scanned as Noted}
use Rattle.lp_pattern.specs.declared.settle.Task.{Task}
use Rattle.lp_pattern.specs.Settling.{Settles, settles_abs, settles_rigid, settles_pattern, settles_open, SettleAll, settle_none, settle_more, indexed_in, Ends, Moves}
use Rattle.lp_pattern.specs.Stripping.{opens, read_at}
use Rattle.lp_pattern.specs.TopLooks.{top_look, scan_top, scan_tops, scan_seen}
use Rattle.lp_pattern.specs.Under.{under}
use Rattle.lp_pattern.specs.Visiting.{Part, scan_parts, Merged, IsRestOf, IsStopped, Exceeds}
use Rattle.lp_pattern.proofs.Compares.{from_bind, from_map}

fixed_closed : (c : Closing) (a : Atom) → IsFixed a → IsGround (closed c (atom a)) × (nodes (closed c (atom a)) ≡ 1)
fixed_closed c (constant k ts) g = (tt, refl)
fixed_closed c (integer z) g = (tt, refl)
fixed_closed c (text s) g = (tt, refl)
fixed_closed c (eigen k) g = absurd g
fixed_closed c (logic x l) g = absurd g
fixed_closed c (param k t) g = (tt, refl)

pub ground_closed : (c : Closing) (t : Term) → IsGround t → IsGround (closed c t)
ground_closed c (index i) g = absurd g
ground_closed c (atom a) g = (fixed_closed c a g).0
ground_closed c (abs b) g = absurd g
ground_closed c (app t u) g = (ground_closed c t g.0, ground_closed c u g.1)

pub nodes_closed : (c : Closing) (t : Term) → IsGround t → nodes (closed c t) ≡ nodes t
nodes_closed c (index i) g = absurd g
nodes_closed c (atom a) g = (fixed_closed c a g).1
nodes_closed c (abs b) g = absurd g
nodes_closed c (app t u) g = let n = nodes_closed c t g.0 in let m = nodes_closed c u g.1 in omega (arith, n, m)

both_parts : (t t' u u' : Term) → t ≡ t' → u ≡ u' → app t u ≡ app t' u'
both_parts t t' u u' e f = ap (λ x. app x u) e ∙ ap (app t') f

pub ground_opened : (σ : ℕ → Term) (t : Term) → IsGround t → subst σ t ≡ t
ground_opened σ (index i) g = absurd g
ground_opened σ (atom a) g = refl
ground_opened σ (abs b) g = absurd g
ground_opened σ (app t u) g = both_parts (subst σ t) t (subst σ u) u (ground_opened σ t g.0) (ground_opened σ u g.1)

pub ground_read : (b : Nodes) (c : Closing) (l d : ℕ) (t : TermId) → IsGround (tree b t.0) → IsGround (read_at b c l d t) × (nodes (read_at b c l d t) ≡ nodes (tree b t.0))
ground_read b c l d t g =
    let u = ground_closed c (tree b t.0) g in
    let e = ground_opened (opens l d) (under b c t) u in
    (transport IsGround (sym e) u, ap nodes e ∙ nodes_closed c (tree b t.0) g)

fixed_indexed : (ε : ℕ → Term) (a : Atom) → IsFixed a → at_eigens ε a ≡ atom a
fixed_indexed ε (constant k ts) g = refl
fixed_indexed ε (integer z) g = refl
fixed_indexed ε (text s) g = refl
fixed_indexed ε (eigen k) g = absurd g
fixed_indexed ε (logic x l) g = absurd g
fixed_indexed ε (param k t) g = refl

pub ground_indexed : (ε : ℕ → Term) (t : Term) → IsGround t → fill (at_eigens ε) t ≡ t
ground_indexed ε (index i) g = absurd g
ground_indexed ε (atom a) g = fixed_indexed ε a g
ground_indexed ε (abs b) g = absurd g
ground_indexed ε (app t u) g = both_parts (fill (at_eigens ε) t) t (fill (at_eigens ε) u) u (ground_indexed ε t g.0) (ground_indexed ε u g.1)

-- looks
ground_weak : (t : Term) → IsGround t → weak_step t ≡ None
ground_weak (index i) g = absurd g
ground_weak (atom a) g = refl
ground_weak (abs b) g = absurd g
ground_weak (app (index i) u) g = absurd g.0
ground_weak (app (atom a) u) g = refl
ground_weak (app (abs b) u) g = absurd g.0
ground_weak (app (app t v) u) g = ap (option_term (λ s. app s u)) (ground_weak (app t v) g.0)

abbrev nodes_all : List Term → ℕ
nodes_all [] = 0
nodes_all (t ∷ ts) = nodes t + nodes_all ts

-- the head of a ground term on ground terms, and all of its arguments
record Headed (t : Term) (ts : List Term) : Type 0 where
  head : Term
  arguments : List Term
  seen : looked t ts ≡ rigid head arguments
  same : apply head arguments ≡ apply t ts
  ground : EachOf IsGround arguments
  count : suc (nodes_all arguments) ≡ nodes t + nodes_all ts
  allowed : (s : Side) → allows_head s head ≡ true

by_fixed : (a : Atom) (ts : List Term) → IsFixed a → EachOf IsGround ts → Headed (atom a) ts
by_fixed (constant k us) ts g e = record { head = atom (constant k us); arguments = ts; seen = refl; same = refl; ground = e; count = omega arith; allowed = λ s. refl }
by_fixed (integer z) ts g e = record { head = atom (integer z); arguments = ts; seen = refl; same = refl; ground = e; count = omega arith; allowed = λ s. refl }
by_fixed (text z) ts g e = record { head = atom (text z); arguments = ts; seen = refl; same = refl; ground = e; count = omega arith; allowed = λ s. refl }
by_fixed (eigen k) ts g e = absurd g
by_fixed (logic x l) ts g e = absurd g
by_fixed (param k t) ts g e = record { head = atom (param k t); arguments = ts; seen = refl; same = refl; ground = e; count = omega arith; allowed = λ s. refl }

headed : (t : Term) (ts : List Term) → IsGround t → EachOf IsGround ts → Headed t ts
headed (index i) ts g e = absurd g
headed (atom a) ts g e = by_fixed a ts g e
headed (abs b) ts g e = absurd g
headed (app t u) ts g e =
    let h = headed t (u ∷ ts) g.0 (g.1, e) in
    record { head = h.head; arguments = h.arguments; seen = h.seen; same = h.same; ground = h.ground; count = let n : suc (nodes_all h.arguments) ≡ nodes t + (nodes u + nodes_all ts) = h.count in omega (arith, n); allowed = h.allowed }

look_is : (m : ℕ) (t : Term) (v : Look) → IsGround t → top_look m t ≡ Some v → v ≡ looked t []
look_is zero t v g e = absurd (cc)
look_is (suc m) t v g e = sym (first (looked t []) v (sym (ap (λ o. option_map (λ s. looked s []) (elim o as (λ z. Option Term) [ None ↦ Some t | Some s ↦ top_normal m s ])) (ground_weak t g)) ∙ e))
  where
    first : (x y : Look) → Some x ≡ Some y → x ≡ y
    first x y q = cc

seen_as : (m : ℕ) (t : Term) (v : Look) (h : Headed t []) → IsGround t → top_look m t ≡ Some v → v ≡ rigid h.head h.arguments
seen_as m t v h g e = look_is m t v g e ∙ h.seen

looked_on : (m n : ℕ) (s : Side) (inside : Bool) (k : ℕ) (v : Look) (h : Term) (us : List Term) (r : Scanned) → v ≡ rigid h us → scan_seen m n s inside k v ≡ Some r → scan_seen m n s inside k (rigid h us) ≡ Some r
looked_on m n s inside k v h us r q e = transport (λ w. scan_seen m n s inside k w ≡ Some r) q e

behind : (m n : ℕ) (s : Side) (inside : Bool) (k : ℕ) (h : Term) (us : List Term) (r : Scanned) → ((x : Scanned) → scan_tops m n s inside k us ≡ Some x → x ≡ whole (nodes_all us) false []) → allows_head s h ≡ true →
    scan_seen m n s inside k (rigid h us) ≡ Some r → r ≡ whole (suc (nodes_all us)) false []
behind m n s inside k h us r all a e =
    let w = from_map (above false) (scan_tops m n s inside k us) r (transport (λ x. (elim (x || inside) as (λ z. Option Scanned) [ true ↦ option_map (above (not x)) (scan_tops m n s inside k us) | false ↦ Some (broken 1) ]) ≡ Some r) a e) in
    w.2 ∙ ap (above false) (all w.0 w.1)

mutual
  pub scan_ground : (m n : ℕ) (s : Side) (inside : Bool) (k : ℕ) (t : Term) (r : Scanned) → IsGround t → scan_top m n s inside k t ≡ Some r → r ≡ whole (nodes t) false []
  scan_ground m zero s inside k t r g e = absurd (cc)
  scan_ground m (suc n) s inside k t r g e =
      let h = headed t [] g tt in
      let v = from_bind _ (top_look m t) r e in
      behind m n s inside k h.head h.arguments r (λ x q. scans_ground m n s inside k h.arguments x h.ground q) (h.allowed s) (looked_on m n s inside k v.0 h.head h.arguments r (seen_as m t v.0 h g v.1) v.2) ∙ ap (λ c. whole c false []) (let c = h.count in omega (arith, c))

  pub scans_ground : (m n : ℕ) (s : Side) (inside : Bool) (k : ℕ) (ts : List Term) (r : Scanned) → EachOf IsGround ts → scan_tops m n s inside k ts ≡ Some r → r ≡ whole (nodes_all ts) false []
  scans_ground m zero s inside k ts r g e = absurd (cc)
  scans_ground m (suc n) s inside k [] r g e = cc
  scans_ground m (suc n) s inside k (t ∷ ts) r g e =
      let w = from_bind _ (scan_top m n s inside k t) r e in
      let x = scan_ground m n s inside k t w.0 g.0 w.1 in
      let y = from_map (beside (nodes t) false []) (scan_tops m n s inside k ts) r (transport (λ q. (elim q as (λ z. Option Scanned) [ broken u ↦ Some (broken u) | whole u d ps ↦ option_map (beside u d ps) (scan_tops m n s inside k ts) ]) ≡ Some r) x w.2) in
      y.2 ∙ ap (beside (nodes t) false []) (scans_ground m n s inside k ts y.0 g.1 y.1)

-- a ground part in front of others
module _ (m n : ℕ) (s : Side) (p : Part) (ps : List Part) (g : IsGround p.term) where
  split : (r : Scanned) → scan_parts m n s (p ∷ ps) ≡ Some r → (q : Scanned) × (scan_parts m n s ps ≡ Some q) × (r ≡ beside (nodes p.term) false [] q)
  split r e =
      let w = from_bind _ (scan_top m n s p.inside p.last p.term) r e in
      let x = scan_ground m n s p.inside p.last p.term w.0 g w.1 in
      from_map (beside (nodes p.term) false []) (scan_parts m n s ps) r (transport (λ q. (elim q as (λ z. Option Scanned) [ broken u ↦ Some (broken u) | whole u d qs ↦ option_map (beside u d qs) (scan_parts m n s ps) ]) ≡ Some r) x w.2)

  pub ground_rest : (f : Noted) (u v : ℕ) → u ≡ v + nodes p.term → IsRestOf s u v f f (scan_parts m n s (p ∷ ps)) (scan_parts m n s ps)
  ground_rest f u v e = λ r h. let w = split r h in (w.0, w.1, transport (λ x. Merged s u v f f x w.0) (sym w.2) (merged w.0))
    where
      merged : (q : Scanned) → Merged s u v f f (beside (nodes p.term) false [] q) q
      merged (broken k) = omega (arith, e)
      merged (whole k d qs) = (omega (arith, e), refl, λ x. refl)

  pub ground_stopped : (u : ℕ) → u < nodes p.term → IsStopped m Deep u (scan_parts m n s (p ∷ ps))
  ground_stopped u l = λ few r h. let w = split r h in transport (Exceeds u) (sym w.2) (exceeds w.0)
    where
      exceeds : (q : Scanned) → Exceeds u (beside (nodes p.term) false [] q)
      exceeds (broken k) = omega (arith, l)
      exceeds (whole k d qs) = omega (arith, l)

-- settling
abbrev head_of : Look → Term
head_of (an_abs b) = b
head_of (rigid h ts) = h
head_of (flexible x l ts) = index 0

abbrev arguments_of : Look → List Term
arguments_of (an_abs b) = []
arguments_of (rigid h ts) = ts
arguments_of (flexible x l ts) = ts

mutual
  pub settles_ground : (limit k : ℕ) (t v : Term) → IsGround t → Settles limit k t v → v ≡ t
  settles_ground limit k t v g (settles_abs b u e s is) = let h = headed t [] g tt in let q = seen_as limit t (an_abs b) h g e in absurd (cc)
  settles_ground limit k t v g (settles_rigid h ts us e s is) =
      let w = headed t [] g tt in
      let q = seen_as limit t (rigid h ts) w g e in
      let a : h ≡ w.head = ap head_of q in
      let b : ts ≡ w.arguments = ap arguments_of q in
      is ∙ ap (apply h) (all_settled limit k ts us (transport (EachOf IsGround) (sym b) w.ground) s) ∙ ap (λ x. apply x ts) a ∙ ap (apply w.head) b ∙ w.same
  settles_ground limit k t v g (settles_pattern y m ts ks e p is) = let h = headed t [] g tt in let q = seen_as limit t (flexible y m ts) h g e in absurd (cc)
  settles_ground limit k t v g (settles_open y m ts us e p s is) = let h = headed t [] g tt in let q = seen_as limit t (flexible y m ts) h g e in absurd (cc)

  all_settled : (limit k : ℕ) (ts us : List Term) → EachOf IsGround ts → SettleAll limit k ts us → us ≡ ts
  all_settled limit k [] us g settle_none = refl
  all_settled limit k (t ∷ ts) (v ∷ vs) g (settle_more s a) = ap (λ x. x ∷ vs) (settles_ground limit k t v g.0 s) ∙ ap (λ l. t ∷ l) (all_settled limit k ts vs g.1 a)

-- a ground part is settled as it stands
pub ground_moves : (b : Nodes) (s : Bindings) (cs : List ℕ) (t : TermId) (o : Opened) (tasks : List Task) (made new : List TermId) → IsGround (tree b t.0) → new ≡ made ++ t ∷ [] → Moves b b s cs (tasks ++ Task.Visit t o ∷ []) made tasks new
ground_moves b s cs t o tasks made new g is = λ c i h limit r w.
    let ends = transport (λ l. Ends limit b c cs l (map (under b c) (reverse made)) r) (reverse-append tasks (Task.Visit t o ∷ [])) w.ends in
    let u = ground_closed c (tree b t.0) g in
    let opened = ground_opened (opens o.level o.depth) (under b c t) u in
    let settled : ends.0 ≡ under b c t = settles_ground limit (o.level + o.depth) (read_at b c o.level o.depth t) ends.0 (transport IsGround (sym opened) u) ends.2 ∙ opened in
    let indexed : indexed_in cs o.level o.depth ends.0 ≡ under b c t = ap (indexed_in cs o.level o.depth) settled ∙ ground_indexed _ (under b c t) u in
    record {
      known = transport (All (λ t. t.0 < length b.terms)) (sym is) (All-push (λ t. t.0 < length b.terms) made t w.known ends.1);
      ends = transport (λ l. Ends limit b c cs (reverse tasks) (map (under b c) l) r) (sym (ap reverse is ∙ reverse-append made (t ∷ [])))
          (transport (λ x. Ends limit b c cs (reverse tasks) (x ∷ map (under b c) (reverse made)) r) indexed ends.3);
    }
