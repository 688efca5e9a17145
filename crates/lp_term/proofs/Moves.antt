-- The moves of leftmost reduction: what each leaves of the open terms and of the whole.
use Rattle.std.proofs.Common.{◌≡◌, ℕ, suc, ◌+◌, ◌-◌, ◌<◌, ◌≤◌, ◌^◌, List, [], ◌∷◌, ◌++◌, length, map, refl, sym, ap, ◌∙◌, subst as transport, arith, Some, None, Vec, Global, Result, Ok, Err}
use Rattle.std.specs.Prelude.{All, IsSome, IfErr}
use Rattle.std.specs.Result.{IsErrAnd}
use Rattle.std.proofs.lemmas.List.Elements.{All-push, All-weaker, All-nil, All-head, All-tail, All-cons}
use Rattle.lp_calculus.specs.Term.{Term, app, apply}
use Rattle.lp_calculus.specs.Convert.{head_step, leftmost_step, steps}
use Rattle.lp_term.specs.Nodes.{Nodes, tree, Extends}
use Rattle.lp_term.specs.Walk.{trees}
use Rattle.lp_term.specs.Spine.{abstractions, LooseBelow, whole}
use Rattle.lp_term.specs.Answer.{IsDeepAfter, IsSpine}
use Rattle.lp_term.specs.Frame.{in_order, with_hole, closed, plug, standing, IsFrame, IsSpent}
use Rattle.lp_term.specs.declared.node.TermId.{TermId}
use Rattle.lp_term.specs.declared.normal.Frame.{Frame}
use Rattle.lp_term.specs.declared.reduce.Spine.{Spine}
use Rattle.lp_term.specs.declared.reduce.TermRefusal.{TermRefusal}
use Rattle.lp_term.specs.declared.reduce.TermRefusal.TheVariants.{Deep, Memory}
use Rattle.lp_term.proofs.Walks.{trees-push, All-front, All-back, All-unreverse}
use Rattle.lp_term.proofs.Loose.{loose_abstractions, loose_in}
use Rattle.lp_term.proofs.Frames.{head_steps_leftmost, steps_more, normal_apply, normal_under, firm_no, firm_normal, all_in_order, some_of, plug_steps, plug-append, standing-push, hole_stays, plug_stays}

-- `?` passes a refusal up as it is
pub passed_up : {T E : Type 0} (r : Result T E) (e : E) (P : E → Type 0) → IsErrAnd r (λ y. y ≡ e) → P e → IfErr r P
passed_up (Ok x) e P is p = tt
passed_up (Err y) e P is p = transport P (sym is) p

abbrev pub with_left : Frame → Vec TermId Global → Frame
with_left f v = record { base = f.base; depth = f.depth; head = f.head; done = f.done; left = v }

abbrev pub with_done : Frame → Vec TermId Global → Frame
with_done f v = record { base = f.base; depth = f.depth; head = f.head; done = v; left = f.left }

pub nothing : {X : Type 0} (xs : List X) → length xs ≡ 0 → xs ≡ []
nothing [] e = refl
nothing (x ∷ xs) e = absurd (omega arith)

nil : {X : Type 0} (xs : List X) → xs ++ [] ≡ xs
nil [] = refl
nil (x ∷ xs) = ap (λ l. x ∷ l) (nil xs)

pub spent_head : (limit left : ℕ) (t : Term) (e : TermRefusal) → IsDeepAfter limit left t e → IsSpent limit left t e
spent_head limit left t (Deep n) h = let k = some_of (steps head_step (suc left) t) h.1 in (h.0, rw (head_steps_leftmost (suc left) t k.0 k.1) refl)
spent_head limit left t Memory h = tt

loose_args : (limit d : ℕ) (h : Term) (xs : List Term) → LooseBelow limit d (apply h xs) → LooseBelow limit d h × All (LooseBelow limit d) xs
loose_args limit d h [] l = (l, All-nil (LooseBelow limit d))
loose_args limit d h (x ∷ xs) l = let r = loose_args limit d (app h x) xs l in (r.0.0, All-cons (LooseBelow limit d) x xs r.0.1 r.1)

all_unmap : {X : Type 0} (P : Term → Type 0) (f : X → Term) (xs : List X) → All P (map f xs) → All (λ x. P (f x)) xs
all_unmap P f [] a = All-nil (λ x. P (f x))
all_unmap P f (x ∷ xs) a = All-cons (λ x. P (f x)) x xs (All-head P (f x) (map f xs) a) (all_unmap P f xs (All-tail P (f x) (map f xs) a))

-- what holds of the trees of arguments holds of each
by_trees : (b : Nodes) (P : Term → Type 0) (ids : List TermId) → All P (trees b ids) → All (λ t. P (tree b t.0)) ids
by_trees b P ids a = all_unmap P (λ t. tree b t.0) ids (All-unreverse P (map (λ t. tree b t.0) ids) a)

-- a term that is opened
pub frame_open : (base : ℕ) (b : Nodes) (s : Spine) (v : Vec TermId Global) → v.items ≡ [] → IsSpine base b s → IsFrame b (record { base = base; depth = s.depth; head = s.head; done = v; left = s.args })
frame_open base b s v e i = record {
  head = i.head;
  firm = i.normal;
  done = transport (All (λ t. t.0 < length b.terms)) (sym e) (All-nil (λ t. t.0 < length b.terms));
  normal = transport (All (λ t. leftmost_step (tree b t.0) ≡ None)) (sym e) (All-nil (λ t. leftmost_step (tree b t.0) ≡ None));
  left = i.args;
  loose =
      let l = loose_args (2 ^ 32 + base) (0 + s.depth) (tree b s.head.0) (trees b s.args.items) (loose_abstractions (2 ^ 32 + base) s.depth 0 (apply (tree b s.head.0) (trees b s.args.items)) i.loose) in
      let q : 2 ^ 32 + base + s.depth ≡ 2 ^ 32 + (base + s.depth) = omega arith in
      All-weaker (λ t. LooseBelow (2 ^ 32 + base) (0 + s.depth) (tree b t.0)) (λ t. LooseBelow (2 ^ 32 + (base + s.depth)) 0 (tree b t.0))
      (λ t h. transport (λ n. LooseBelow n 0 (tree b t.0)) q (loose_in (2 ^ 32 + base) s.depth 0 (tree b t.0) h)) s.args.items
      (by_trees b (LooseBelow (2 ^ 32 + base) (0 + s.depth)) s.args.items l.1);
  deep = i.depth;
}

pub opened : (base : ℕ) (b : Nodes) (s : Spine) (v : Vec TermId Global) (n : ℕ) (t : Term) → v.items ≡ [] → steps head_step n t ≡ Some (whole b s.depth s.head s.args.items) →
    steps leftmost_step n t ≡ Some (closed b (record { base = base; depth = s.depth; head = s.head; done = v; left = s.args }))
opened base b s v n t e h =
    head_steps_leftmost n t (whole b s.depth s.head s.args.items) h ∙
    ap (λ l. Some (abstractions s.depth (apply (tree b s.head.0) (in_order b l ++ trees b s.args.items)))) (sym e)

-- an open term without arguments that are left
pub closed_done : (b : Nodes) (f : Frame) → f.left.items ≡ [] → abstractions f.depth (apply (tree b f.head.0) (in_order b f.done.items)) ≡ closed b f
closed_done b f e = ap (λ l. abstractions f.depth (apply (tree b f.head.0) l)) (sym (nil (in_order b f.done.items)) ∙ ap (λ l. in_order b f.done.items ++ trees b l) (sym e))

pub closed_normal : (b : Nodes) (f : Frame) → IsFrame b f → f.left.items ≡ [] → leftmost_step (closed b f) ≡ None
closed_normal b f i e =
    ap leftmost_step (sym (closed_done b f e)) ∙
    normal_under f.depth (apply (tree b f.head.0) (in_order b f.done.items))
    (normal_apply (tree b f.head.0) (in_order b f.done.items) (firm_no (tree b f.head.0) i.firm) (firm_normal (tree b f.head.0) i.firm) (all_in_order b f.done.items i.normal))

-- the next argument is taken
module _ (b : Nodes) (f : Frame) (v : Vec TermId Global) (arg : TermId) (q : f.left.items ≡ v.items ++ arg ∷ []) where
  pub taken_closed : closed b f ≡ with_hole b (with_left f v) (tree b arg.0)
  taken_closed = ap (λ l. abstractions f.depth (apply (tree b f.head.0) (in_order b f.done.items ++ l))) (ap (trees b) q ∙ trees-push b v.items arg)

  pub taken_frame : IsFrame b f → IsFrame b (with_left f v)
  taken_frame i = record {
    head = i.head;
    firm = i.firm;
    done = i.done;
    normal = i.normal;
    left = All-front (λ t. t.0 < length b.terms) v.items (arg ∷ []) (transport (All (λ t. t.0 < length b.terms)) q i.left);
    loose = All-front (λ t. LooseBelow (2 ^ 32 + (f.base + f.depth)) 0 (tree b t.0)) v.items (arg ∷ []) (transport (All (λ t. LooseBelow (2 ^ 32 + (f.base + f.depth)) 0 (tree b t.0))) q i.loose);
    deep = i.deep;
  }

  pub taken_argument : IsFrame b f → (arg.0 < length b.terms) × LooseBelow (2 ^ 32 + (f.base + f.depth)) 0 (tree b arg.0)
  taken_argument i = (
    All-head (λ t. t.0 < length b.terms) arg [] (All-back (λ t. t.0 < length b.terms) v.items (arg ∷ []) (transport (All (λ t. t.0 < length b.terms)) q i.left)),
    All-head (λ t. LooseBelow (2 ^ 32 + (f.base + f.depth)) 0 (tree b t.0)) arg []
        (All-back (λ t. LooseBelow (2 ^ 32 + (f.base + f.depth)) 0 (tree b t.0)) v.items (arg ∷ []) (transport (All (λ t. LooseBelow (2 ^ 32 + (f.base + f.depth)) 0 (tree b t.0))) q i.loose)),
  )

-- and is done
in_order_push : (b : Nodes) (ds : List TermId) (t : TermId) (k : List Term) → in_order b (ds ++ t ∷ []) ++ k ≡ in_order b ds ++ tree b t.0 ∷ k
in_order_push b [] t k = refl
in_order_push b (d ∷ ds) t k = ap (λ l. tree b d.0 ∷ l) (in_order_push b ds t k)

module _ (b : Nodes) (f : Frame) (v : Vec TermId Global) (arg : TermId) (q : v.items ≡ f.done.items ++ arg ∷ []) where
  pub done_closed : with_hole b f (tree b arg.0) ≡ closed b (with_done f v)
  done_closed = ap (λ l. abstractions f.depth (apply (tree b f.head.0) l)) (sym (in_order_push b f.done.items arg (trees b f.left.items)) ∙ ap (λ l. in_order b l ++ trees b f.left.items) (sym q))

  pub done_frame : IsFrame b f → arg.0 < length b.terms → leftmost_step (tree b arg.0) ≡ None → IsFrame b (with_done f v)
  done_frame i l n = record {
    head = i.head;
    firm = i.firm;
    done = transport (All (λ t. t.0 < length b.terms)) (sym q) (All-push (λ t. t.0 < length b.terms) f.done.items arg i.done l);
    normal = transport (All (λ t. leftmost_step (tree b t.0) ≡ None)) (sym q) (All-push (λ t. leftmost_step (tree b t.0) ≡ None) f.done.items arg i.normal n);
    left = i.left;
    loose = i.loose;
    deep = i.deep;
  }

-- the whole, with its innermost open term apart
pub standing_is : (b : Nodes) (all fs : List Frame) (f : Frame) → all ≡ fs ++ f ∷ [] → standing b all ≡ plug b fs (closed b f)
standing_is b all fs f e = ap (standing b) e ∙ standing-push b fs f

pub innermost : (b : Nodes) (all fs : List Frame) (f : Frame) → all ≡ fs ++ f ∷ [] → All (IsFrame b) all → All (IsFrame b) fs × IsFrame b f
innermost b all fs f e a =
    let k : All (IsFrame b) (fs ++ f ∷ []) = transport (All (IsFrame b)) e a in
    (All-front (IsFrame b) fs (f ∷ []) k, All-head (IsFrame b) f [] (All-back (IsFrame b) fs (f ∷ []) k))

pub put_back : (b : Nodes) (all fs : List Frame) (f : Frame) → all ≡ fs ++ f ∷ [] → All (IsFrame b) fs → IsFrame b f → (0 < length all) × All (IsFrame b) all
put_back b all fs f e a i = (transport (λ l. 0 < length l) (sym e) (some fs), transport (All (IsFrame b)) (sym e) (All-push (IsFrame b) fs f a i))
  where
    some : (l : List Frame) → 0 < length (l ++ f ∷ [])
    some [] = omega arith
    some (g ∷ l) = omega arith

pub unmoved : (n : ℕ) (t s : Term) → n ≡ 0 → t ≡ s → steps leftmost_step n t ≡ Some s
unmoved n t s e q = ap (λ m. steps leftmost_step m t) e ∙ ap (λ x. Some x) q

-- an argument that is normal already is done at once
pub skipped : (b : Nodes) (all fs after : List Frame) (f : Frame) (v w : Vec TermId Global) (arg : TermId) → all ≡ fs ++ f ∷ [] → f.left.items ≡ v.items ++ arg ∷ [] →
    w.items ≡ f.done.items ++ arg ∷ [] → after ≡ fs ++ with_done (with_left f v) w ∷ [] → standing b all ≡ standing b after
skipped b all fs after f v w arg e q r k =
    standing_is b all fs f e ∙ ap (plug b fs) (taken_closed b f v arg q ∙ done_closed b (with_left f v) w arg r) ∙ sym (standing_is b after fs (with_done (with_left f v) w) k)

-- an open term that is closed is an argument that is done
pub shut : (b c : Nodes) (all fs gs after : List Frame) (f outer : Frame) (v w : Vec TermId Global) (id : TermId) → all ≡ fs ++ f ∷ [] → f.left.items ≡ v.items ++ [] →
    fs ≡ gs ++ outer ∷ [] → Extends b c → All (IsFrame b) fs → tree c id.0 ≡ closed b (with_left f v) → w.items ≡ outer.done.items ++ id ∷ [] →
    after ≡ gs ++ with_done outer w ∷ [] → standing b all ≡ standing c after
shut b c all fs gs after f outer v w id e q g x a t r k =
    let i = innermost b fs gs outer g a in
    standing_is b all fs f e ∙
    ap (plug b fs) (ap (λ l. abstractions f.depth (apply (tree b f.head.0) (in_order b f.done.items ++ trees b l))) (q ∙ nil v.items) ∙ sym t) ∙
    ap (λ l. plug b l (tree c id.0)) g ∙ plug-append b gs (outer ∷ []) (tree c id.0) ∙
    sym (plug_stays b c gs (with_hole b outer (tree c id.0)) x i.0) ∙
    ap (plug c gs) (sym (hole_stays b c outer (tree c id.0) x i.1) ∙ done_closed c outer w id r) ∙
    sym (standing_is c after gs (with_done outer w) k)

-- an argument that is opened
pub deeper : (b : Nodes) (all fs mid : List Frame) (f : Frame) (v : Vec TermId Global) (arg : TermId) → all ≡ fs ++ f ∷ [] → f.left.items ≡ v.items ++ arg ∷ [] →
    mid ≡ fs ++ with_left f v ∷ [] → standing b all ≡ plug b mid (tree b arg.0)
deeper b all fs mid f v arg e q k =
    standing_is b all fs f e ∙ ap (plug b fs) (taken_closed b f v arg q) ∙ sym (plug-append b fs (with_left f v ∷ []) (tree b arg.0)) ∙ ap (λ l. plug b l (tree b arg.0)) (sym k)

pub went_in : (b c : Nodes) (all mid after : List Frame) (inner : Frame) (arg : TermId) (n : ℕ) → standing b all ≡ plug b mid (tree b arg.0) → All (IsFrame b) mid → Extends b c →
    steps leftmost_step n (tree b arg.0) ≡ Some (closed c inner) → after ≡ mid ++ inner ∷ [] → steps leftmost_step n (standing b all) ≡ Some (standing c after)
went_in b c all mid after inner arg n e a x s k =
    ap (steps leftmost_step n) e ∙ plug_steps b mid n (tree b arg.0) (closed c inner) a s ∙
    ap (λ y. Some y) (sym (plug_stays b c mid (closed c inner) x a) ∙ sym (standing_is c after mid inner k))

spent_plug : (b : Nodes) (fs : List Frame) (limit left : ℕ) (t : Term) (e : TermRefusal) → All (IsFrame b) fs → IsSpent limit left t e → IsSpent limit left (plug b fs t) e
spent_plug b fs limit left t (Deep n) a h = let k = some_of (steps leftmost_step (suc left) t) h.1 in (h.0, rw (plug_steps b fs (suc left) t k.0 a k.1) refl)
spent_plug b fs limit left t Memory a h = tt

pub spent_inside : (b : Nodes) (all mid : List Frame) (arg : TermId) (limit left : ℕ) (e : TermRefusal) → standing b all ≡ plug b mid (tree b arg.0) → All (IsFrame b) mid → IsSpent limit left (tree b arg.0) e →
    IsSpent limit left (standing b all) e
spent_inside b all mid arg limit left e q a h = transport (λ t. IsSpent limit left t e) (sym q) (spent_plug b mid limit left (tree b arg.0) e a h)

-- the whole way
pub spent_later : (limit left : ℕ) (t s : Term) (e : TermRefusal) → left ≤ limit → steps leftmost_step (limit - left) t ≡ Some s → IsSpent limit left s e → IsSpent limit limit t e
spent_later limit left t s (Deep n) l h k =
    let q : limit - left + suc left ≡ suc limit = omega arith in
    let r : steps leftmost_step (suc limit) t ≡ steps leftmost_step (suc left) s = ap (λ m. steps leftmost_step m t) (sym q) ∙ steps_more (limit - left) (suc left) t s h in
    (k.0, transport IsSome (sym r) k.1)
spent_later limit left t s Memory l h k = tt

pub steps_on : (limit left now : ℕ) (t s r : Term) → now ≤ left → left ≤ limit → steps leftmost_step (limit - left) t ≡ Some s → steps leftmost_step (left - now) s ≡ Some r → steps leftmost_step (limit - now) t ≡ Some r
steps_on limit left now t s r l m h k =
    let q : limit - left + (left - now) ≡ limit - now = omega arith in
    ap (λ n. steps leftmost_step n t) (sym q) ∙ steps_more (limit - left) (left - now) t s h ∙ k
