-- The parts of a scan on the stack, and what the code does with each.
use Rattle.std.proofs.Common.{◌≡◌, ℕ, zero, suc, ◌+◌, ◌-◌, ◌<◌, ◌≤◌, List, [], ◌∷◌, ◌++◌, map, reverse, length, ◌∙◌, refl, sym, ap, subst as transport, arith, Bool, true, false, Option, Some, None, ◌||◌, if◌then◌else◌, inl}
use Rattle.std.specs.Prelude.{not, nat_le, nat_lt, All, option_map, option_and_then, IsSome}
use Rattle.std.proofs.lemmas.Bool.Decides.{nat_tests}
use Rattle.lp_term.proofs.Frames.{some_of}
use Rattle.std.proofs.lemmas.List.{append-nil, map-append, reverse-append, reverse-reverse}
use Rattle.std.proofs.lemmas.List.Elements.{All-nil, All-head, All-tail, All-cons, All-append, All-weaker, All-push}
use Rattle.lp_calculus.specs.Term.{Term, index, atom, abs, app, substitute, constant, integer, text, eigen, logic, param}
use Rattle.lp_calculus.specs.Convert.{steps}
use Rattle.lp_calculus.proofs.Sigma.{up, subst}
use Rattle.lp_term.specs.Node.{TermBelow}
use Rattle.lp_term.specs.Shapes.{term_shape}
use Rattle.lp_term.specs.declared.node.TermNode.{TermNode}
use Rattle.lp_term.specs.Nodes.{Nodes, Extends, tree, node_tree}
use Rattle.lp_lemmas.proofs.Lists.{map_reverse}
use Rattle.lp_model.specs.Look.{weak_step, top_normal}
use Rattle.lp_pattern.proofs.Names.{kind, node_kind, kind_of}
use Rattle.lp_term.specs.declared.node.TermId.{TermId}
use Rattle.lp_term.specs.declared.reduce.TermRefusal.{TermRefusal}
use Rattle.lp_term.proofs.Openings.{all_reverse}
use Rattle.lp_model.specs.Pair.{Closing, closed}
use Rattle.lp_model.specs.Patterns.{member}
use Rattle.lp_model.specs.Scan.{is_side, allows, allows_head, Scanned, broken, whole, beside, scan, scanned_pattern}
use Rattle.lp_model.specs.Scan.{Side as Seen}
use Rattle.lp_pattern.specs.declared.bindings.Bindings.{Bindings}
use Rattle.lp_pattern.specs.declared.fault.PatternRefusal.{PatternRefusal}
use Rattle.lp_pattern.specs.declared.fault.PatternRefusal.TheVariants.{Deep}
use Rattle.lp_pattern.specs.declared.fault.PatternRefusal.TheVariants as refusal
use Rattle.lp_pattern.specs.declared.look.Head.{Head}
use Rattle.lp_pattern.specs.declared.look.Looked.{Looked}
use Rattle.lp_pattern.specs.declared.patterns.Arguments.{Arguments}
use Rattle.lp_pattern.specs.declared.scan.Scanned.{Scanned as Noted}
use Rattle.lp_pattern.specs.declared.scan.Visit.{Visit}
use Rattle.lp_pattern.specs.declared.side.Side.{Side}
use Rattle.lp_pattern.specs.Reading.{side_of}
use Rattle.lp_pattern.specs.Refusing.{IsOfTerm}
use Rattle.lp_pattern.specs.Scanning.{Adds, IsBroken, all_fit, visits}
use Rattle.lp_pattern.specs.Seen.{IsRigid, IsHead, IsLooked, IsReachedWithin, IsDeepWhere}
use Rattle.lp_pattern.specs.Stripping.{opens, IsShut, IsPattern, HasNoPattern, read_at}
use Rattle.lp_pattern.specs.Under.{IsReading, under}
use Rattle.lp_pattern.specs.Visiting.{Part, scan_parts, part_at, part_of, parts_of, IsVisitOf, IsRestOf, IsStopped, IsScanned, Merged}
use Rattle.lp_unify_laws.proofs.MoreSteps.Scans.{Below, below_none, below_same, below_then, below_map}
use Rattle.lp_pattern.specs.TopLooks.{top_look, scan_top, scan_seen}
use Rattle.lp_pattern.proofs.TopScans.{scan_of, top_is}
use Rattle.lp_pattern.proofs.Naming.{weak_named, steps_named}
use Rattle.lp_pattern.proofs.Opening.{opens_leaves, read_reached, read_kept, read_none, rigid_at, variable_at, abstraction_at, opened_once}
use Rattle.lp_pattern.proofs.Visits.{args_of}
use Rattle.lp_pattern.proofs.VisitSteps.{opened_rest, rigid_rest, rigid_fails, open_rest, pattern_rest, pattern_fails, none_left, too_far, pattern_too_far, rest_then, rest_stopped, all_scanned}

-- what is allowed as a head does not change where it is opened
or_true : (a b : Bool) → (a || b || true) ≡ true
or_true true b = refl
or_true false true = refl
or_true false false = refl

allows_local : (s : Seen) (k : ℕ) → s.pair < k → allows s k ≡ true
allows_local s k l = let e : nat_lt s.pair k ≡ true = grind (arith, nat_tests) in ap (λ b. nat_le k s.level || member k s.arguments || b) e ∙ or_true (nat_le k s.level) (member k s.arguments)

allows_index : (s : Seen) (d i : ℕ) (b : Bool) → nat_lt i d ≡ b → allows_head s (if b then atom (eigen (s.pair + (d - i))) else index (i - d)) ≡ true
allows_index s d i true e = let l : i < d = grind (arith, nat_tests) in allows_local s (s.pair + (d - i)) (omega (arith, l))
allows_index s d i false e = refl

allows_read : (s : Seen) (c : Closing) (d : ℕ) (t : Term) → IsRigid t → allows_head s (subst (opens s.pair d) (closed c t)) ≡ allows_head s t
allows_read s c d (index i) h = allows_index s d i (nat_lt i d) refl
allows_read s c d (atom (constant k us)) h = refl
allows_read s c d (atom (integer z)) h = refl
allows_read s c d (atom (text x)) h = refl
allows_read s c d (atom (eigen k)) h = refl
allows_read s c d (atom (logic x l)) h = absurd h
allows_read s c d (atom (param k u)) h = refl
allows_read s c d (abs b) h = absurd h
allows_read s c d (app t u) h = absurd h

allows_top : (b : Nodes) (s : Bindings) (c : Closing) (t : Seen) (l d : ℕ) (r : Looked) → IsLooked b s r → r.head ≡ Head.Rigid → l ≡ t.pair → allows_head t (read_at b c l d r.top) ≡ allows_head t (tree b r.top.0)
allows_top b s c t l d r k h q =
    let i : IsRigid (tree b r.top.0) = transport (λ x. IsHead b s x (tree b r.top.0) r.arguments.items) h k.head in
    ap (λ x. allows_head t (subst (opens x d) (closed c (tree b r.top.0)))) q ∙ allows_read t c d (tree b r.top.0) i

-- the stack
visited : (b : Nodes) (c : Closing) (v : Visit) (inside : Bool) (ids : List TermId) →
    map (part_of b c) (visits v inside ids) ≡ args_of inside (v.opened.level + v.opened.depth) (map (read_at b c v.opened.level v.opened.depth) ids)
visited b c v inside [] = refl
visited b c v inside (t ∷ ids) = ap (λ l. record { inside = inside; last = v.opened.level + v.opened.depth; term = read_at b c v.opened.level v.opened.depth t } ∷ l) (visited b c v inside ids)

pushed_parts : (b : Nodes) (c : Closing) (v : Visit) (inside : Bool) (ids : List TermId) (old new : List Visit) → new ≡ old ++ reverse (visits v inside ids) →
    args_of inside (v.opened.level + v.opened.depth) (map (read_at b c v.opened.level v.opened.depth) ids) ++ parts_of b c old ≡ parts_of b c new
pushed_parts b c v inside ids old new q =
    sym (ap (parts_of b c) q ∙ ap (map (part_of b c)) (reverse-append old (reverse (visits v inside ids)) ∙ ap (λ l. l ++ reverse old) (reverse-reverse (visits v inside ids))) ∙
    map-append (part_of b c) (visits v inside ids) (reverse old) ∙ ap (λ l. l ++ parts_of b c old) (visited b c v inside ids))

pub one_pushed : (b : Nodes) (c : Closing) (v : Visit) (old new : List Visit) → new ≡ old ++ v ∷ [] → part_of b c v ∷ parts_of b c old ≡ parts_of b c new
one_pushed b c v old new q = sym (ap (parts_of b c) q ∙ ap (map (part_of b c)) (reverse-append old (v ∷ [])))

part_kept : (b d : Nodes) (c : Closing) (n : ℕ) (v : Visit) → Extends b d → IsVisitOf (length b.terms) n v → part_of d c v ≡ part_of b c v
part_kept b d c n v e h = λ i. record { inside = v.is_inside; last = v.opened.level + v.opened.depth; term = read_kept b d c v.opened.level v.opened.depth v.term e h.0 i }

map_parts : (b d : Nodes) (c : Closing) (n : ℕ) (vs : List Visit) → Extends b d → All (IsVisitOf (length b.terms) n) vs → map (part_of d c) vs ≡ map (part_of b c) vs
map_parts b d c n [] e a = refl
map_parts b d c n (v ∷ vs) e a = λ i. part_kept b d c n v e (All-head (IsVisitOf (length b.terms) n) v vs a) i ∷ map_parts b d c n vs e (All-tail (IsVisitOf (length b.terms) n) v vs a) i

pub parts_kept : (b d : Nodes) (c : Closing) (n : ℕ) (vs : List Visit) → Extends b d → All (IsVisitOf (length b.terms) n) vs → parts_of d c vs ≡ parts_of b c vs
parts_kept b d c n vs e a = map_parts b d c n (reverse vs) e (all_reverse (IsVisitOf (length b.terms) n) vs a)

pub visits_kept : (b d : Nodes) (n : ℕ) (vs : List Visit) → Extends b d → All (IsVisitOf (length b.terms) n) vs → All (IsVisitOf (length d.terms) n) vs
visits_kept b d n vs e a = All-weaker (IsVisitOf (length b.terms) n) (IsVisitOf (length d.terms) n) (λ v h. (omega (arith, h.0, e.more_terms), h.1)) vs a

known_visits : (n p : ℕ) (v : Visit) (inside : Bool) (ids : List TermId) → v.opened.level ≡ p → All (λ t. t.0 < n) ids → All (IsVisitOf n p) (visits v inside ids)
known_visits n p v inside [] q a = All-nil (IsVisitOf n p)
known_visits n p v inside (t ∷ ids) q a =
    All-cons (IsVisitOf n p) (record { term = t; opened = v.opened; is_inside = inside }) (visits v inside ids) (All-head (λ t. t.0 < n) t ids a, q) (known_visits n p v inside ids q (All-tail (λ t. t.0 < n) t ids a))

pub pushed_known : (n p : ℕ) (v : Visit) (inside : Bool) (ids : List TermId) (old new : List Visit) → v.opened.level ≡ p → All (λ t. t.0 < n) ids → All (IsVisitOf n p) old → new ≡ old ++ reverse (visits v inside ids) →
    All (IsVisitOf n p) new
pushed_known n p v inside ids old new q a k e =
    transport (All (IsVisitOf n p)) (sym e) (All-append (IsVisitOf n p) old (reverse (visits v inside ids)) k (all_reverse (IsVisitOf n p) (visits v inside ids) (known_visits n p v inside ids q a)))

pub one_known : (n p : ℕ) (v : Visit) (old new : List Visit) → IsVisitOf n p v → All (IsVisitOf n p) old → new ≡ old ++ v ∷ [] → All (IsVisitOf n p) new
one_known n p v old new h k e = transport (All (IsVisitOf n p)) (sym e) (All-push (IsVisitOf n p) old v k h)

-- a rigid head
module _ (b : Nodes) (s : Bindings) (c : Closing) (t : Side) (v : Visit) (r : Looked) (old : List Visit) (k : IsLooked b s r) (p : IsVisitOf (length b.terms) t.pair v) where
  abbrev here : List Part
  here = part_at b c v r.whole ∷ parts_of b c old

  pub rigid_goes : (m n u w : ℕ) (f g : Noted) (a : Bool) (new : List Visit) → r.head ≡ Head.Rigid → a ≡ allows_head (side_of t) (tree b r.top.0) → (a || v.is_inside) ≡ true → u ≡ suc w → g.is_delayed ≡ (f.is_delayed || not a) →
      g.has_misfit ≡ f.has_misfit → new ≡ old ++ reverse (visits v v.is_inside r.arguments.items) → IsRestOf (side_of t) u w f g (scan_parts m n (side_of t) here) (scan_parts m n (side_of t) (parts_of b c new))
  rigid_goes m n u w f g a new h e i z d x q =
      transport (λ l. IsRestOf (side_of t) u w f g (scan_parts m n (side_of t) here) (scan_parts m n (side_of t) l)) (pushed_parts b c v v.is_inside r.arguments.items old new q)
      (rigid_rest m n (side_of t) u w f g (part_at b c v r.whole) (parts_of b c old) 0 (read_at b c v.opened.level v.opened.depth r.whole) (read_at b c v.opened.level v.opened.depth r.top)
      (map (read_at b c v.opened.level v.opened.depth) r.arguments.items) a refl (rigid_at b s c v.opened.level v.opened.depth r k h)
      (allows_top b s c (side_of t) v.opened.level v.opened.depth r k h p.1 ∙ sym e) i z d x)

  pub rigid_breaks : (m n u w : ℕ) (a : Bool) (e : PatternRefusal) → r.head ≡ Head.Rigid → a ≡ allows_head (side_of t) (tree b r.top.0) → (a || v.is_inside) ≡ false → u ≡ suc w → e ≡ refusal.Fails →
      IsStopped m e u (scan_parts m n (side_of t) here)
  rigid_breaks m n u w a e h q i z d =
      transport (λ x. IsStopped m x u (scan_parts m n (side_of t) here)) (sym d)
      (λ o x.
      rigid_fails m n (side_of t) u w (part_at b c v r.whole) (parts_of b c old) 0 (read_at b c v.opened.level v.opened.depth r.whole) (read_at b c v.opened.level v.opened.depth r.top)
      (map (read_at b c v.opened.level v.opened.depth) r.arguments.items) a refl (rigid_at b s c v.opened.level v.opened.depth r k h)
      (allows_top b s c (side_of t) v.opened.level v.opened.depth r k h p.1 ∙ sym q) i z o x)

  pub rigid_spent : (m n u : ℕ) (e : PatternRefusal) → r.head ≡ Head.Rigid → u ≡ 0 → e ≡ Deep → IsStopped m e u (scan_parts m n (side_of t) here)
  rigid_spent m n u e h z d =
      none_left m n (side_of t) u e (part_at b c v r.whole) (parts_of b c old) 0 (read_at b c v.opened.level v.opened.depth r.whole) _ z d refl (rigid_at b s c v.opened.level v.opened.depth r k h) tt

  -- a variable
  pub variable_spent : (m n u x l : ℕ) (e : PatternRefusal) → IsReading b s c → r.head ≡ Head.Variable x l → u ≡ 0 → e ≡ Deep → IsStopped m e u (scan_parts m n (side_of t) here)
  variable_spent m n u x l e i h z d =
      none_left m n (side_of t) u e (part_at b c v r.whole) (parts_of b c old) 0 (read_at b c v.opened.level v.opened.depth r.whole) _ z d refl (variable_at b s c v.opened.level v.opened.depth r x l i k h) tt

  pub variable_far : (m n u x l : ℕ) (e : TermRefusal) (y : PatternRefusal) → IsReading b s c → r.head ≡ Head.Variable x l → IsOfTerm e y →
      (m ≤ 1000000 → HasNoPattern m l (map (read_at b c v.opened.level v.opened.depth) r.arguments.items) e) → IsStopped m y u (scan_parts m n (side_of t) here)
  variable_far m n u x l e y i h o d =
      pattern_too_far m n (side_of t) u e y (part_at b c v r.whole) (parts_of b c old) 0 (read_at b c v.opened.level v.opened.depth r.whole) x l (map (read_at b c v.opened.level v.opened.depth) r.arguments.items) o refl
      (variable_at b s c v.opened.level v.opened.depth r x l i k h) d

  pub open_goes : (d : Nodes) (m n u w x l : ℕ) (f g : Noted) (new : List Visit) → Extends b d → IsReading b s c → r.head ≡ Head.Variable x l → IsPattern m l (map (read_at b c v.opened.level v.opened.depth) r.arguments.items) None → u ≡ suc w →
      g.is_delayed ≡ (f.is_delayed || (is_side (side_of t) x l || nat_lt t.level l)) → g.has_misfit ≡ f.has_misfit → new ≡ old ++ reverse (visits v true r.arguments.items) → All (IsVisitOf (length b.terms) t.pair) new →
      IsRestOf (side_of t) u w f g (scan_parts m n (side_of t) here) (scan_parts m n (side_of t) (parts_of d c new))
  open_goes d m n u w x l f g new y i h a z e o q j =
      transport (λ ls. IsRestOf (side_of t) u w f g (scan_parts m n (side_of t) here) (scan_parts m n (side_of t) ls)) (pushed_parts b c v true r.arguments.items old new q ∙ sym (parts_kept b d c t.pair new y j))
      (open_rest m n (side_of t) u w f g (part_at b c v r.whole) (parts_of b c old) 0 (read_at b c v.opened.level v.opened.depth r.whole) x l (map (read_at b c v.opened.level v.opened.depth) r.arguments.items) refl
      (variable_at b s c v.opened.level v.opened.depth r x l i k h) a z e o)

  pub pattern_goes : (d : Nodes) (m n u w x l : ℕ) (f g : Noted) (a : Arguments) → Extends b d → IsReading b s c → r.head ≡ Head.Variable x l → IsPattern m l (map (read_at b c v.opened.level v.opened.depth) r.arguments.items) (Some a) → u ≡ suc w →
      Adds (side_of t) f g (scanned_pattern (side_of t) v.is_inside x l a.eigens.items) → All (IsVisitOf (length b.terms) t.pair) old →
      IsRestOf (side_of t) u w f g (scan_parts m n (side_of t) here) (scan_parts m n (side_of t) (parts_of d c old))
  pattern_goes d m n u w x l f g a y i h j z o q =
      transport (λ ls. IsRestOf (side_of t) u w f g (scan_parts m n (side_of t) here) (scan_parts m n (side_of t) ls)) (sym (parts_kept b d c t.pair old y q))
      (pattern_rest m n (side_of t) u w f g (part_at b c v r.whole) (parts_of b c old) 0 (read_at b c v.opened.level v.opened.depth r.whole) x l (map (read_at b c v.opened.level v.opened.depth) r.arguments.items) a refl
      (variable_at b s c v.opened.level v.opened.depth r x l i k h) j z o)

  pub pattern_breaks : (m n u w x l : ℕ) (a : Arguments) (e : PatternRefusal) → IsReading b s c → r.head ≡ Head.Variable x l → IsPattern m l (map (read_at b c v.opened.level v.opened.depth) r.arguments.items) (Some a) → u ≡ suc w →
      IsBroken (scanned_pattern (side_of t) v.is_inside x l a.eigens.items) → e ≡ refusal.Fails → IsStopped m e u (scan_parts m n (side_of t) here)
  pattern_breaks m n u w x l a e i h j z o d =
      transport (λ y. IsStopped m y u (scan_parts m n (side_of t) here)) (sym d)
      (λ q y.
      pattern_fails m n (side_of t) u w (part_at b c v r.whole) (parts_of b c old) 0 (read_at b c v.opened.level v.opened.depth r.whole) x l (map (read_at b c v.opened.level v.opened.depth) r.arguments.items) a refl
      (variable_at b s c v.opened.level v.opened.depth r x l i k h) j z o q y)

  -- an abstraction
  pub body_goes : (m n u : ℕ) (f : Noted) (body : TermId) (inner : Visit) (new : List Visit) → IsShut c → r.head ≡ Head.Abstraction body → inner.term ≡ body → inner.opened.level ≡ v.opened.level → inner.opened.depth ≡ suc v.opened.depth →
      inner.is_inside ≡ v.is_inside → new ≡ old ++ inner ∷ [] → IsRestOf (side_of t) u u f f (scan_parts m n (side_of t) here) (scan_parts m n (side_of t) (parts_of b c new))
  body_goes m n u f body inner new i h e x y z q =
      transport (λ l. IsRestOf (side_of t) u u f f (scan_parts m n (side_of t) here) (scan_parts m n (side_of t) l)) (one_pushed b c inner old new q)
      (opened_rest m n (side_of t) u f f (part_at b c v r.whole) (part_of b c inner) (parts_of b c old) 0 (read_at b c v.opened.level v.opened.depth r.whole) (subst (up (opens v.opened.level v.opened.depth)) (under b c body)) refl refl refl
      (abstraction_at b s c v.opened.level v.opened.depth r body i k h) same_part)
    where
      last_is : inner.opened.level + inner.opened.depth ≡ suc (v.opened.level + v.opened.depth)
      last_is = omega (arith, x, y)

      term_is : read_at b c inner.opened.level inner.opened.depth inner.term ≡ substitute (atom (eigen (suc (v.opened.level + v.opened.depth)))) (subst (up (opens v.opened.level v.opened.depth)) (under b c body))
      term_is = (λ j. read_at b c (x j) (y j) (e j)) ∙ sym (opened_once v.opened.level v.opened.depth (v.opened.level + v.opened.depth) (under b c body) refl)

      same_part : part_of b c inner ≡ record { inside = v.is_inside; last = suc (v.opened.level + v.opened.depth); term = substitute (atom (eigen (suc (v.opened.level + v.opened.depth)))) (subst (up (opens v.opened.level v.opened.depth)) (under b c body)) }
      same_part = λ j. record { inside = z j; last = last_is j; term = term_is j }

-- a look at a term some steps further
top_normal_more : (n m : ℕ) → n ≤ m → (t : Term) → Below (top_normal n t) (top_normal m t)
top_normal_more zero m h t = below_none (top_normal m t)
top_normal_more (suc n) zero h t = absurd (omega (arith, h))
top_normal_more (suc n) (suc m) h t = elim (weak_step t) as (λ o. Below (elim o [ None ↦ Some t | Some s ↦ top_normal n s ]) (elim o [ None ↦ Some t | Some s ↦ top_normal m s ])) [
  | None ↦ below_same (Some t)
  | Some s ↦ top_normal_more n m (omega (arith, h)) s
]

pub top_behind : (j m : ℕ) (t s : Term) → steps weak_step j t ≡ Some s → Below (top_normal m t) (top_normal m s)
top_behind zero m t s e = λ x q. let i : t ≡ s = cc in ap (top_normal m) (sym i) ∙ q
top_behind (suc j) zero t s e = below_none (top_normal zero s)
top_behind (suc j) (suc m) t s e = go (weak_step t) refl e (λ u q. top_behind j m u s q)
  where
    go : (o : Option Term) → weak_step t ≡ o → (elim o as (λ z. Option Term) [ None ↦ None | Some u ↦ steps weak_step j u ]) ≡ Some s → ((u : Term) → steps weak_step j u ≡ Some s → Below (top_normal m u) (top_normal m s)) →
        Below (elim o as (λ z. Option Term) [ None ↦ Some t | Some u ↦ top_normal m u ]) (top_normal (suc m) s)
    go None p q f = absurd (cc)
    go (Some u) p q f = λ x h. top_normal_more m (suc m) (omega arith) s x (f u q x h)

pub scan_behind : (m n : ℕ) (s : Seen) (inside : Bool) (k j : ℕ) (t u : Term) → steps weak_step j t ≡ Some u → Below (scan_top m n s inside k t) (scan_top m n s inside k u)
scan_behind m zero s inside k j t u e = below_none (scan_top m zero s inside k u)
scan_behind m (suc n) s inside k j t u e = λ r q.
    top_is m n s inside k u ∙
    below_then (top_look m t) (top_look m u) (scan_seen m n s inside k) (scan_seen m n s inside k) (below_map (top_normal m t) (top_normal m u) _ (top_behind j m t u e)) (λ v. below_same _) r (sym (top_is m n s inside k t) ∙ q)

part_behind : (m n : ℕ) (s : Seen) (inside : Bool) (k j : ℕ) (t u : Term) (ps : List Part) → steps weak_step j t ≡ Some u →
    Below (scan_parts m n s (record { inside = inside; last = k; term = t } ∷ ps)) (scan_parts m n s (record { inside = inside; last = k; term = u } ∷ ps))
part_behind m n s inside k j t u ps e = below_then (scan_top m n s inside k t) (scan_top m n s inside k u) _ _ (scan_behind m n s inside k j t u e) (λ r. below_same _)

visit_below : (m n : ℕ) (s : Seen) (b₀ b₁ : Nodes) (c : Closing) (v : Visit) (id : TermId) (old : List Visit) (limit p : ℕ) → Extends b₀ b₁ → All (IsVisitOf (length b₀.terms) p) old →
    IsReachedWithin limit (under b₀ c v.term) (under b₁ c id) → Below (scan_parts m n s (part_of b₀ c v ∷ parts_of b₀ c old)) (scan_parts m n s (part_at b₁ c v id ∷ parts_of b₁ c old))
visit_below m n s b₀ b₁ c v id old limit p e a h =
    transport (λ l. Below (scan_parts m n s (part_of b₀ c v ∷ parts_of b₀ c old)) (scan_parts m n s (part_at b₁ c v id ∷ l))) (sym (parts_kept b₀ b₁ c p old e a))
    (part_behind m n s v.is_inside (v.opened.level + v.opened.depth) h.0 (read_at b₀ c v.opened.level v.opened.depth v.term) (read_at b₁ c v.opened.level v.opened.depth id) (parts_of b₀ c old)
    (read_reached b₀ b₁ c v.opened.level v.opened.depth h.0 v.term id h.2))

noted_before : (s : Seen) (u w : ℕ) (e f g : Noted) (r q : Scanned) → f.is_delayed ≡ e.is_delayed → f.has_misfit ≡ e.has_misfit → Merged s u w f g r q → Merged s u w e g r q
noted_before s u w e f g (broken i) (broken j) x y h = h
noted_before s u w e f g (broken i) (whole j d ps) x y h = h
noted_before s u w e f g (whole i d ps) (broken j) x y h = h
noted_before s u w e f g (whole i d ps) (whole j d' qs) x y h = (h.0, ap (λ b. b || d) (sym x) ∙ h.1, λ z. ap (λ b. b || not (all_fit s ps)) (sym y) ∙ h.2 z)

pub visit_goes : (m n : ℕ) (s : Seen) (b₀ b₁ : Nodes) (c : Closing) (v : Visit) (id : TermId) (old : List Visit) (limit p u w : ℕ) (e f g : Noted) (o : Option Scanned) → Extends b₀ b₁ → All (IsVisitOf (length b₀.terms) p) old →
    IsReachedWithin limit (under b₀ c v.term) (under b₁ c id) → f.is_delayed ≡ e.is_delayed → f.has_misfit ≡ e.has_misfit → IsRestOf s u w f g (scan_parts m n s (part_at b₁ c v id ∷ parts_of b₁ c old)) o →
    IsRestOf s u w e g (scan_parts m n s (part_of b₀ c v ∷ parts_of b₀ c old)) o
visit_goes m n s b₀ b₁ c v id old limit p u w e f g o x a h d y k = λ r q.
    let z = k r (visit_below m n s b₀ b₁ c v id old limit p x a h r q) in
    (z.0, z.1, noted_before s u w e f g r z.0 d y z.2)

pub visit_stops : (m n : ℕ) (s : Seen) (b₀ b₁ : Nodes) (c : Closing) (v : Visit) (id : TermId) (old : List Visit) (limit p u : ℕ) (e : PatternRefusal) → Extends b₀ b₁ → All (IsVisitOf (length b₀.terms) p) old →
    IsReachedWithin limit (under b₀ c v.term) (under b₁ c id) → IsStopped m e u (scan_parts m n s (part_at b₁ c v id ∷ parts_of b₁ c old)) → IsStopped m e u (scan_parts m n s (part_of b₀ c v ∷ parts_of b₀ c old))
visit_stops m n s b₀ b₁ c v id old limit p u refusal.Fails x a h k = λ r q. k r (visit_below m n s b₀ b₁ c v id old limit p x a h r q)
visit_stops m n s b₀ b₁ c v id old limit p u Deep x a h k = λ l r q. k l r (visit_below m n s b₀ b₁ c v id old limit p x a h r q)
visit_stops m n s b₀ b₁ c v id old limit p u refusal.Memory x a h k = tt

some_is : (o : Option Term) (x : Term) → o ≡ Some x → IsSome o
some_is o x e = rw e refl

pub visit_far : (m n : ℕ) (s : Seen) (b : Nodes) (c : Closing) (v : Visit) (old : List Visit) (u : ℕ) (e : TermRefusal) (y : PatternRefusal) → IsOfTerm e y → IsDeepWhere 1000000 (under b c v.term) e →
    IsStopped m y u (scan_parts m n s (part_of b c v ∷ parts_of b c old))
visit_far m n s b c v old u e y i d = too_far m n s u e y (part_of b c v) (parts_of b c old) i (deep_read b c v.opened.level v.opened.depth v.term e d)
  where
    deep_read : (b : Nodes) (c : Closing) (l k : ℕ) (t : TermId) (e : TermRefusal) → IsDeepWhere 1000000 (under b c t) e → IsDeepWhere 1000000 (read_at b c l k t) e
    deep_read b c l k t (TermRefusal.Deep n) h =
        let w = some_of (steps weak_step 1000001 (under b c t)) h in
        let q = steps_named weak_step (opens l k) (weak_named (opens l k) (opens_leaves l k)) 1000001 (under b c t) w.0 w.1 in
        some_is (steps weak_step 1000001 (read_at b c l k t)) (subst (opens l k) w.0) q
    deep_read b c l k t TermRefusal.Memory h = tt

-- the start
beside_none : (u : ℕ) (d : Bool) (ps : List _) → beside u d ps (whole 0 false []) ≡ whole u d ps
beside_none u d ps =
    let q : u + 0 ≡ u = omega arith in
    λ i. whole (q i) (or_none d i) (append-nil ps i)
  where
    or_none : (b : Bool) → (b || false) ≡ b
    or_none true = refl
    or_none false = refl

alone_part : (m n : ℕ) (s : Seen) (p : Part) → Below (scan_top m n s p.inside p.last p.term) (scan_parts m n s (p ∷ []))
alone_part m n s p = λ r e. ap (option_and_then (λ x. behind_all x)) e ∙ go r
  where
    behind_all : Scanned → Option Scanned
    behind_all x = elim x [ broken u ↦ Some (broken u) | whole u d qs ↦ option_map (beside u d qs) (Some (whole 0 false [])) ]

    go : (r : Scanned) → behind_all r ≡ Some r
    go (broken u) = refl
    go (whole u d qs) = ap (λ x. Some x) (beside_none u d qs)

first_scan : (n : ℕ) (s : Seen) (t : Term) → Below (scan n s false s.pair t) (scan_parts n n s (record { inside = false; last = s.pair; term = t } ∷ []))
first_scan zero s t = below_none (scan_parts zero zero s (record { inside = false; last = s.pair; term = t } ∷ []))
first_scan (suc n) s t = λ r e. alone_part (suc n) (suc n) s (record { inside = false; last = s.pair; term = t }) r (scan_of (suc n) (suc n) (omega arith) s false s.pair t t 0 (inl refl) (omega arith) refl r e)

first_part : (b : Nodes) (c : Closing) (v : Visit) (l : ℕ) (t : TermId) → v.term ≡ t → v.is_inside ≡ false → v.opened.level ≡ l → v.opened.depth ≡ 0 → part_of b c v ≡ record { inside = false; last = l; term = under b c t }
first_part b c v l t e i p d =
    let q : v.opened.level + v.opened.depth ≡ l = omega (arith, p, d) in
    λ j. record { inside = i j; last = q j; term = ((λ k. read_at b c (p k) (d k) (e k)) ∙ read_none b c l t) j }

pub scan_starts : (n : ℕ) (s : Seen) (b : Nodes) (c : Closing) (v : Visit) (t : TermId) (items : List Visit) → items ≡ v ∷ [] → v.term ≡ t → v.is_inside ≡ false → v.opened.level ≡ s.pair → v.opened.depth ≡ 0 →
    Below (scan n s false s.pair (under b c t)) (scan_parts n n s (parts_of b c items))
scan_starts n s b c v t items q e i p d = λ r x.
    ap (λ l. scan_parts n n s (map (part_of b c) (reverse l))) q ∙ ap (λ y. scan_parts n n s (y ∷ [])) (first_part b c v s.pair t e i p d) ∙ first_scan n s (under b c t) r x

same_part : (s : Seen) (u : ℕ) (f : Noted) (r : Scanned) → Merged s u u f f r r
same_part s u f (broken m) = refl
same_part s u f (whole m d ps) = (refl, refl, λ h. refl)

pub scan_first : (n : ℕ) (s : Seen) (b : Nodes) (c : Closing) (v : Visit) (t : TermId) (items : List Visit) (u : ℕ) (f : Noted) → items ≡ v ∷ [] → v.term ≡ t → v.is_inside ≡ false → v.opened.level ≡ s.pair → v.opened.depth ≡ 0 →
    IsRestOf s u u f f (scan n s false s.pair (under b c t)) (scan_parts n n s (parts_of b c items))
scan_first n s b c v t items u f q e i p d = λ r x. (r, scan_starts n s b c v t items q e i p d r x, same_part s u f r)

pub scan_next : (n : ℕ) (s : Seen) (b d : Nodes) (c : Closing) (items rest new : List Visit) (v : Visit) (u w z : ℕ) (f g h : Noted) (o : Option Scanned) → items ≡ rest ++ v ∷ [] → IsRestOf s u w f g o (scan_parts n n s (parts_of b c items)) →
    IsRestOf s w z g h (scan_parts n n s (part_of b c v ∷ parts_of b c rest)) (scan_parts n n s (parts_of d c new)) → IsRestOf s u z f h o (scan_parts n n s (parts_of d c new))
scan_next n s b d c items rest new v u w z f g h o q a e =
    rest_then s u w z f g h o (scan_parts n n s (parts_of b c items)) (scan_parts n n s (parts_of d c new)) a
    (transport (λ l. IsRestOf s w z g h (scan_parts n n s l) (scan_parts n n s (parts_of d c new))) (one_pushed b c v rest items q) e)

pub scan_stops : (n : ℕ) (s : Seen) (b : Nodes) (c : Closing) (items rest : List Visit) (v : Visit) (u w : ℕ) (f g : Noted) (e : PatternRefusal) (o : Option Scanned) → items ≡ rest ++ v ∷ [] →
    IsRestOf s u w f g o (scan_parts n n s (parts_of b c items)) → IsStopped n e w (scan_parts n n s (part_of b c v ∷ parts_of b c rest)) → IsStopped n e u o
scan_stops n s b c items rest v u w f g e o q a x =
    rest_stopped s n u w f g e o (scan_parts n n s (parts_of b c items)) a (transport (λ l. IsStopped n e w (scan_parts n n s l)) (one_pushed b c v rest items q) x)

pub scan_done : (n : ℕ) (s : Seen) (b : Nodes) (c : Closing) (items : List Visit) (u w : ℕ) (f g : Noted) (o : Option Scanned) → f.is_delayed ≡ false → f.has_misfit ≡ false → items ≡ [] →
    IsRestOf s u w f g o (scan_parts n n s (parts_of b c items)) → (r : Scanned) → o ≡ Some r → IsScanned s u w g r
scan_done n s b c items u w f g o d e q a = all_scanned s n n u w f g o d e (transport (λ l. IsRestOf s u w f g o (scan_parts n n s (parts_of b c l))) q a)

pub reversed_visits : (v : Visit) (inside : Bool) (ids : List TermId) → visits v inside (reverse ids) ≡ reverse (visits v inside ids)
reversed_visits v inside ids = map_reverse (λ t. record { term = t; opened = v.opened; is_inside = inside }) ids

-- heads that are no eigenconstants
other_head : (s : Seen) (t : Term) → (kind t ≡ 4 → ⊥) → true ≡ allows_head s t
other_head s (index i) h = refl
other_head s (atom (constant c ts)) h = refl
other_head s (atom (integer z)) h = refl
other_head s (atom (text x)) h = refl
other_head s (atom (eigen k)) h = absurd (h refl)
other_head s (atom (logic x l)) h = refl
other_head s (atom (param k t)) h = refl
other_head s (abs b) h = refl
other_head s (app t u) h = refl

pub allowed_other : (b : Nodes) (n m : ℕ) (s : Seen) (t : Term) (x : TermNode) → TermBelow n m (term_shape x) → node_tree b (term_shape x) ≡ t → (node_kind x ≡ 4 → ⊥) → true ≡ allows_head s t
allowed_other b n m s t x l e h = other_head s t (λ q. h (sym (kind_of b n m x l) ∙ ap kind e ∙ q))

pub body_visit : (b : Nodes) (s : Bindings) (r : Looked) (body : TermId) (p : ℕ) (inner v : Visit) → IsLooked b s r → r.head ≡ Head.Abstraction body → inner.term ≡ body → inner.opened.level ≡ v.opened.level → v.opened.level ≡ p → IsVisitOf (length b.terms) p inner
body_visit b s r body p inner v k h e q l =
    let w : IsHead b s (Head.Abstraction body) (tree b r.top.0) r.arguments.items = transport (λ y. IsHead b s y (tree b r.top.0) r.arguments.items) h k.head in
    (transport (λ t. t.0 < length b.terms) (sym e) w.1, q ∙ l)
