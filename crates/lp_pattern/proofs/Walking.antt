-- The moves of a look: what is at hand is followed under each reading of the bindings.
use Rattle.std.proofs.Common.{◌≡◌, ℕ, suc, ◌+◌, ◌-◌, ◌<◌, ◌≤◌, List, [], ◌∷◌, ◌++◌, map, reverse, length, ◌∙◌, refl, sym, ap, subst as transport, arith, Option, Some, None, nat_eq}
use Rattle.std.specs.Prelude.{All, IsSome, IfSome}
use Rattle.indexmap.specs.IndexMap.{get}
use Rattle.lp_calculus.specs.Types.{Ty, instance}
use Rattle.lp_calculus.specs.Term.{Term, index, atom, abs, app, apply, constant, integer, text, eigen, logic, param}
use Rattle.lp_calculus.specs.Convert.{steps}
use Rattle.lp_term.specs.Nodes.{Nodes, Extends, tree}
use Rattle.lp_term.specs.Walk.{trees}
use Rattle.lp_term.specs.declared.node.TermId.{TermId}
use Rattle.lp_term.specs.declared.node.TypeId.{TypeId}
use Rattle.lp_term.specs.declared.reduce.TermRefusal.{TermRefusal}
use Rattle.lp_term.specs.declared.reduce.TermRefusal.TheVariants.{Deep, Memory}
use Rattle.lp_term.proofs.Frames.{some_of}
use Rattle.lp_term.proofs.Openings.{all_reverse}
use Rattle.std.proofs.lemmas.List.Elements.{All-nil, All-weaker, All-head, All-tail}
use Rattle.lp_term.proofs.Spines.{unwound_application}
use Rattle.lp_term.proofs.Several.{steps_then}
use Rattle.lp_term.proofs.Contract.{last_of}
use Rattle.lp_term.proofs.Walks.{trees-push, trees_stay, map_map}
use Rattle.lp_model.specs.Pair.{Closing, closed}
use Rattle.lp_model.specs.Look.{rigid, look, weak_step}
use Rattle.lp_lemmas.proofs.Options.{IsSome_from}
use Rattle.lp_lemmas.proofs.Lists.{map_reverse}
use Rattle.lp_pattern.specs.declared.bindings.Bindings.{Bindings}
use Rattle.lp_pattern.specs.declared.look.Head.{Head}
use Rattle.lp_pattern.specs.declared.look.Looked.{Looked}
use Rattle.lp_pattern.specs.declared.look.Spine.{Spine}
use Rattle.lp_pattern.specs.Under.{ValueIs, TypeIs, AreTypes, IsReading, under, below}
use Rattle.lp_pattern.specs.Seen.{IsRigid, IsHead, IsLooked, Stands, IsReachedWithin, IsDeepWhere, IsEndedHead, IsEnded, seen, Sees, at_hand, Follows}
use Rattle.lp_pattern.specs.Turning.{IsOpenReading}
use Rattle.lp_pattern.proofs.Looking.{closed_apply, closed_redex, closed_value, one_step, look_later, look_abs, look_ended}

-- a reading in a bank that has grown
value_kept : (b d : Nodes) (c : Closing) (x : ℕ) (o : Option TermId) → Extends b d → ValueIs b c x o → ValueIs d c x o
value_kept b d c x None e v = v
value_kept b d c x (Some t) e v = (omega (arith, v.0, e.more_terms), λ l. v.1 l ∙ ap (closed c) (sym (e.same_terms t.0 v.0)))

type_kept : (b d : Nodes) (θ : ℕ → Ty) (x : ℕ) (o : Option TypeId) → Extends b d → TypeIs b θ x o → TypeIs d θ x o
type_kept b d θ x None e v = v
type_kept b d θ x (Some t) e v = (omega (arith, v.0, e.more_types), v.1 ∙ ap (instance θ) (sym (e.same_types t.0 v.0)))

pub types_kept : (b d : Nodes) (s : Bindings) (θ : ℕ → Ty) → Extends b d → AreTypes b s θ → AreTypes d s θ
types_kept b d s θ e r x = type_kept b d θ x (get nat_eq s.types x) e (r x)

pub reading_kept : (b d : Nodes) (s : Bindings) (c : Closing) → Extends b d → IsReading b s c → IsReading d s c
reading_kept b d s c e r = record {
  terms = λ x. value_kept b d c x (get nat_eq s.terms x) e (r.terms x);
  types = types_kept b d s c.types e r.types;
}

pub open_kept : (b d : Nodes) (s : Bindings) (next : ℕ) (c : Closing) → Extends b d → IsOpenReading b s next c → IsOpenReading d s next c
open_kept b d s next c e i = record { reading = reading_kept b d s c e i.reading; shut = i.shut; still = i.still; unbound = i.unbound }

-- a contraction
redex_shape : (b : Nodes) (top body arg : TermId) (args rest : List TermId) → tree b top.0 ≡ abs (tree b body.0) → args ≡ rest ++ arg ∷ [] →
    apply (tree b top.0) (trees b args) ≡ apply (abs (tree b body.0)) (tree b arg.0 ∷ trees b rest)
redex_shape b top body arg args rest q p =
    ap (λ h. apply h (trees b args)) q ∙ ap (apply (abs (tree b body.0))) (ap (trees b) p ∙ trees-push b rest arg)

-- a contraction where none is left
pub too_deep : (c : Closing) (b : Nodes) (top body : TermId) (args : List TermId) (n : ℕ) → n ≡ 0 → tree b top.0 ≡ abs (tree b body.0) → 0 < length args →
    IsSome (steps weak_step (suc n) (closed c (apply (tree b top.0) (trees b args))))
too_deep c b top body args n z q l =
    let k = last_of args l in
    let e = ap (λ t. weak_step (closed c t)) (redex_shape b top body k.1 args k.0 q k.2) ∙ closed_redex c (tree b body.0) (tree b k.1.0) (trees b k.0) in
    let s = one_step weak_step (closed c (apply (tree b top.0) (trees b args))) _ e in
    IsSome_from (steps weak_step (suc n) (closed c (apply (tree b top.0) (trees b args)))) _ (ap (λ m. steps weak_step (suc m) (closed c (apply (tree b top.0) (trees b args)))) z ∙ s)

pub whole_alone : (d : Nodes) (top : TermId) (args : List TermId) (o : Option TermId) → top.0 < length d.terms → IfSome o (λ id. (id ≡ top) × (args ≡ [])) →
    IfSome o (λ id. (id.0 < length d.terms) × (tree d id.0 ≡ apply (tree d top.0) (trees d args)))
whole_alone d top args None l h = tt
whole_alone d top args (Some id) l h =
    (transport (λ t. t.0 < length d.terms) (sym h.0) l, ap (λ t. tree d t.0) h.0 ∙ sym (ap (λ ts. apply (tree d top.0) (trees d ts)) h.1))

-- a value
pub value_follows : (c : Closing) (b : Nodes) (s : Bindings) (x l : ℕ) (value : TermId) (t : Term) (ts : List Term) → IsReading b s c → get nat_eq s.terms x ≡ Some value → t ≡ atom (logic x l) →
    closed c (apply t ts) ≡ closed c (apply (tree b value.0) ts)
value_follows c b s x l value t ts r e q =
    let v : ValueIs b c x (Some value) = transport (ValueIs b c x) e (r.terms x) in
    ap (λ h. closed c (apply h ts)) q ∙ closed_value c x l (tree b value.0) ts (v.1 l)

pub value_goes : (c : Closing) (b d : Nodes) (s : Bindings) (x l : ℕ) (value top : TermId) (t : Term) (args : List TermId) → IsReading b s c → get nat_eq s.terms x ≡ Some value → t ≡ atom (logic x l) →
    Extends b d → All (λ a. a.0 < length b.terms) args → tree d top.0 ≡ tree b value.0 → closed c (apply t (trees b args)) ≡ closed c (apply (tree d top.0) (trees d args))
value_goes c b d s x l value top t args r e q E a h =
    value_follows c b s x l value t (trees b args) r e q ∙ ap (λ u. closed c (apply u (trees b args))) (sym h) ∙ ap (λ l. closed c (apply (tree d top.0) l)) (sym (trees_stay b d args E a))

-- a value on the arguments
pub value_stands : (b d : Nodes) (s : Spine) → Extends b d → All (λ a. a.0 < length b.terms) s.arguments.items → s.top.0 < length d.terms →
    IfSome s.whole (λ id. (id ≡ s.top) × (s.arguments.items ≡ [])) → Stands d s
value_stands b d s E a l h = record {
  top = l;
  arguments = All-weaker (λ x. x.0 < length b.terms) (λ x. x.0 < length d.terms) (λ x k. omega (arith, k, E.more_terms)) s.arguments.items a;
  whole = whole_alone d s.top s.arguments.items s.whole l h;
}

-- the term itself, before any step
pub start_stands : (d : Nodes) (s : Spine) → s.top.0 < length d.terms → s.whole ≡ Some s.top → s.arguments.items ≡ [] → Stands d s
start_stands d s l w q = record {
  top = l;
  arguments = transport (All (λ x. x.0 < length d.terms)) (sym q) (All-nil (λ x. x.0 < length d.terms));
  whole = transport (λ o. IfSome o (λ id. (id.0 < length d.terms) × (tree d id.0 ≡ at_hand d s))) (sym w) (whole_alone d s.top s.arguments.items (Some s.top) l (refl, q));
}

pub start_follows : (c : Closing) (b d : Nodes) (term : TermId) (s : Spine) (limit : ℕ) → tree d s.top.0 ≡ tree b term.0 → s.arguments.items ≡ [] →
    steps weak_step (limit - limit) (under b c term) ≡ Some (closed c (at_hand d s))
start_follows c b d term s limit h q =
    let none : limit - limit ≡ 0 = omega arith in
    ap (λ n. steps weak_step n (under b c term)) none ∙ ap (λ u. Some (closed c u)) (sym (ap (λ l. apply (tree d s.top.0) (trees d l)) q ∙ h))

-- steps so far and one move more
pub moved_on : (limit left next k : ℕ) (t s r : Term) → left ≤ limit → k + next ≡ left → steps weak_step (limit - left) t ≡ Some s → steps weak_step k s ≡ Some r →
    steps weak_step (limit - next) t ≡ Some r
moved_on limit left next k t s r l e f g = steps_then weak_step (limit - left) k (limit - next) t s r (omega arith) f g

pub deep_later : (limit left : ℕ) (t s : Term) (e : TermRefusal) → left ≤ limit → steps weak_step (limit - left) t ≡ Some s → IsDeepWhere left s e → IsDeepWhere limit t e
deep_later limit left t s (Deep n) l f d =
    let k = some_of (steps weak_step (suc left) s) d in
    IsSome_from (steps weak_step (suc limit) t) k.0 (steps_then weak_step (limit - left) (suc left) (suc limit) t s k.0 (omega arith) f k.1)
deep_later limit left t s Memory l f d = tt

pub follows_on : (c : Closing) (limit : ℕ) (t : Term) (b d : Nodes) (s r : Spine) → s.left ≤ limit → steps weak_step (limit - s.left) t ≡ Some (closed c (at_hand b s)) → Follows c b s d r →
    steps weak_step (limit - r.left) t ≡ Some (closed c (at_hand d r))
follows_on c limit t b d s r l f w = moved_on limit s.left r.left w.0 t (closed c (at_hand b s)) (closed c (at_hand d r)) l w.1 f w.2

pub ended_within : (c : Closing) (limit : ℕ) (t : Term) (b d : Nodes) (s : Spine) (whole : TermId) → s.left ≤ limit → steps weak_step (limit - s.left) t ≡ Some (closed c (at_hand b s)) →
    tree d whole.0 ≡ at_hand b s → IsReachedWithin limit t (under d c whole)
ended_within c limit t b d s whole l f e = (limit - s.left, omega arith, f ∙ ap (λ x. Some (closed c x)) (sym e))

-- arguments that are taken off the head
pub taken_off : (b : Nodes) (head next : TermId) (more args news : List TermId) → apply (tree b next.0) (map (tree b) (map (λ t. t.0) more)) ≡ tree b head.0 → news ≡ args ++ reverse more →
    apply (tree b next.0) (trees b news) ≡ apply (tree b head.0) (trees b args)
taken_off b head next more args news e q = unwound_application b 0 head next more args news e q

pub whole_stays : (b : Nodes) (o : Option TermId) (t s : Term) → s ≡ t → IfSome o (λ id. (id.0 < length b.terms) × (tree b id.0 ≡ t)) → IfSome o (λ id. (id.0 < length b.terms) × (tree b id.0 ≡ s))
whole_stays b None t s e h = h
whole_stays b (Some id) t s e h = (h.0, h.1 ∙ sym e)

-- the arguments in their order
pub reversed_trees : (b : Nodes) (ids : List TermId) → map (λ t. tree b t.0) (reverse ids) ≡ trees b ids
reversed_trees b ids = map_reverse (λ t. tree b t.0) ids

pub spine_ordered : (b : Nodes) (top : TermId) (args items : List TermId) → items ≡ reverse args → apply (tree b top.0) (map (λ t. tree b t.0) items) ≡ apply (tree b top.0) (trees b args)
spine_ordered b top args items q = ap (apply (tree b top.0)) (ap (map (λ t. tree b t.0)) q ∙ reversed_trees b args)

pub made_in : (b d : Nodes) (top : TermId) (args items : List TermId) (t : Term) → Extends b d → top.0 < length b.terms → All (λ x. x.0 < length b.terms) args → items ≡ reverse args →
    t ≡ apply (tree b top.0) (trees b args) → t ≡ apply (tree d top.0) (map (λ x. tree d x.0) items)
made_in b d top args items t e l a q h =
    h ∙ ap (apply (tree b top.0)) (sym (trees_stay b d args e a)) ∙ ap (λ x. apply x (trees d args)) (sym (e.same_terms top.0 l)) ∙ sym (spine_ordered d top args items q)

pub known_in : (b d : Nodes) (args items : List TermId) → Extends b d → All (λ x. x.0 < length b.terms) args → items ≡ reverse args → All (λ x. x.0 < length d.terms) items
known_in b d args items e a q =
    transport (All (λ x. x.0 < length d.terms)) (sym q)
    (all_reverse (λ x. x.0 < length d.terms) args (All-weaker (λ x. x.0 < length b.terms) (λ x. x.0 < length d.terms) (λ x l. omega (arith, e.more_terms)) args a))

pub head_kept : (b d : Nodes) (s : Bindings) (h : Head) (top : TermId) (args : List TermId) → Extends b d → top.0 < length b.terms → IsHead b s h (tree b top.0) args →
    IsHead d s h (tree d top.0) (reverse args)
head_kept b d s (Head.Abstraction body) top args e l h =
    (e.same_terms top.0 l ∙ h.0 ∙ ap abs (sym (e.same_terms body.0 h.1)), omega (arith, h.1, e.more_terms), ap reverse h.2)
head_kept b d s (Head.Variable id level) top args e l h = (e.same_terms top.0 l ∙ h.0, h.1)
head_kept b d s Head.Rigid top args e l h = transport IsRigid (sym (e.same_terms top.0 l)) h

-- what was seen in a bank that has grown
pub head_stays : (b d : Nodes) (s : Bindings) (h : Head) (top : TermId) (args : List TermId) → Extends b d → top.0 < length b.terms → IsHead b s h (tree b top.0) args →
    IsHead d s h (tree d top.0) args
head_stays b d s (Head.Abstraction body) top args e l h = (e.same_terms top.0 l ∙ h.0 ∙ ap abs (sym (e.same_terms body.0 h.1)), omega (arith, h.1, e.more_terms), h.2)
head_stays b d s (Head.Variable id level) top args e l h = (e.same_terms top.0 l ∙ h.0, h.1)
head_stays b d s Head.Rigid top args e l h = transport IsRigid (sym (e.same_terms top.0 l)) h

arguments_stay : (b d : Nodes) (ids : List TermId) → Extends b d → All (λ x. x.0 < length b.terms) ids → map (λ x. tree b x.0) ids ≡ map (λ x. tree d x.0) ids
arguments_stay b d [] e a = refl
arguments_stay b d (t ∷ ids) e a = λ i. sym (e.same_terms t.0 (All-head (λ x. x.0 < length b.terms) t ids a)) i ∷ arguments_stay b d ids e (All-tail (λ x. x.0 < length b.terms) t ids a) i

pub looked_stays : (b d : Nodes) (s : Bindings) (r : Looked) → Extends b d → IsLooked b s r → IsLooked d s r
looked_stays b d s r e k = record {
  known = omega (arith, k.known, e.more_terms);
  top = omega (arith, k.top, e.more_terms);
  arguments = All-weaker (λ x. x.0 < length b.terms) (λ x. x.0 < length d.terms) (λ x l. omega (arith, e.more_terms)) r.arguments.items k.arguments;
  made =
      e.same_terms r.whole.0 k.known ∙ k.made ∙ ap (apply (tree b r.top.0)) (arguments_stay b d r.arguments.items e k.arguments) ∙
      ap (λ x. apply x (map (λ y. tree d y.0) r.arguments.items)) (sym (e.same_terms r.top.0 k.top));
  head = head_stays b d s r.head r.top r.arguments.items e k.top k.head;
}

-- a term that was looked at ends at its head
ended_on : (s : Bindings) (ts : List Term) (h : Term) → IsEndedHead s h → IsEndedHead s (apply h ts)
ended_on s [] h e = e
ended_on s (t ∷ ts) h e = ended_on s ts (app h t) e

ended_head : (s : Bindings) (t : Term) → IsEndedHead s t → IsEnded s t
ended_head s (index i) e = tt
ended_head s (atom a) e = e
ended_head s (abs b) e = tt
ended_head s (app t u) e = e

rigid_head : (s : Bindings) (t : Term) → IsRigid t → IsEndedHead s t
rigid_head s (index i) h = tt
rigid_head s (atom (constant k us)) h = tt
rigid_head s (atom (integer z)) h = tt
rigid_head s (atom (text bytes)) h = tt
rigid_head s (atom (eigen k)) h = tt
rigid_head s (atom (logic x l)) h = absurd h
rigid_head s (atom (param k u)) h = tt
rigid_head s (abs b) h = absurd h
rigid_head s (app t u) h = absurd h

ends_at : (b : Nodes) (s : Bindings) (h : Head) (t : Term) (args : List TermId) → IsHead b s h t args → IsEnded s (apply t (map (λ x. tree b x.0) args))
ends_at b s (Head.Abstraction body) t args h = transport (λ l. IsEnded s (apply t (map (λ x. tree b x.0) l))) (sym h.2) (transport (IsEnded s) (sym h.0) tt)
ends_at b s (Head.Variable id level) t args h =
    ended_head s (apply t (map (λ x. tree b x.0) args)) (ended_on s (map (λ x. tree b x.0) args) t (transport (IsEndedHead s) (sym h.0) h.1))
ends_at b s Head.Rigid t args h = ended_head s (apply t (map (λ x. tree b x.0) args)) (ended_on s (map (λ x. tree b x.0) args) t (rigid_head s t h))

pub looked_ends : (b : Nodes) (s : Bindings) (r : Looked) → IsLooked b s r → IsEnded s (tree b r.whole.0)
looked_ends b s r k = transport (IsEnded s) (sym k.made) (ends_at b s r.head (tree b r.top.0) r.arguments.items k.head)

-- what the definition sees
rigid_look : (c : Closing) (n : ℕ) (ts : List Term) (t : Term) → IsRigid t → look (suc n) (apply (closed c t) ts) ≡ Some (rigid (closed c t) ts)
rigid_look c n ts (index i) h = look_ended n (index i) ts tt
rigid_look c n ts (atom (constant k us)) h = look_ended n (closed c (atom (constant k us))) ts tt
rigid_look c n ts (atom (integer z)) h = look_ended n (atom (integer z)) ts tt
rigid_look c n ts (atom (text bytes)) h = look_ended n (atom (text bytes)) ts tt
rigid_look c n ts (atom (eigen k)) h = look_ended n (atom (eigen k)) ts tt
rigid_look c n ts (atom (logic x l)) h = absurd h
rigid_look c n ts (atom (param k u)) h = look_ended n (closed c (atom (param k u))) ts tt
rigid_look c n ts (abs b) h = absurd h
rigid_look c n ts (app t u) h = absurd h

seen_is : (n : ℕ) (b : Nodes) (s : Bindings) (c : Closing) (h : Head) (top : TermId) (args : List TermId) → IsReading b s c → IsHead b s h (tree b top.0) args →
    look (suc n) (apply (under b c top) (map (under b c) args)) ≡ seen (suc n) b c h top args
seen_is n b s c (Head.Abstraction body) top args r h =
    ap (λ l. look (suc n) (apply (under b c top) (map (under b c) l))) h.2 ∙ ap (λ x. look (suc n) (closed c x)) h.0 ∙ look_abs (suc n) (below c (tree b body.0))
seen_is n b s c (Head.Variable id level) top args r h =
    let v : ValueIs b c id None = transport (ValueIs b c id) h.1 (r.terms id) in
    ap (λ x. look (suc n) (apply x (map (under b c) args))) (ap (closed c) h.0 ∙ v level) ∙ look_ended n (atom (logic id level)) (map (under b c) args) tt
seen_is n b s c Head.Rigid top args r h = rigid_look c n (map (under b c) args) (tree b top.0) h

pub sees : (limit : ℕ) (b : Nodes) (s : Bindings) (c : Closing) (r : Looked) (t : Term) → IsReading b s c → IsLooked b s r → IsReachedWithin limit t (under b c r.whole) → Sees limit b c r t
sees limit b s c r t i k w = (
  w.0,
  w.1,
  λ n m q.
      look_later w.0 (suc n) m t (under b c r.whole) q w.2 ∙
      ap (look (suc n)) (ap (closed c) k.made ∙ closed_apply c (map (λ t. tree b t.0) r.arguments.items) (tree b r.top.0) ∙ ap (apply (under b c r.top)) (map_map (closed c) (λ t. tree b t.0) r.arguments.items)) ∙
      seen_is n b s c r.head r.top r.arguments.items i k.head,
)
