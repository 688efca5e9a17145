-- What is left of a copy goes on going.
use Rattle.std.proofs.Common.{◌≡◌, ℕ, zero, suc, ◌+◌, ◌<◌, List, [], ◌∷◌, ◌++◌, length, take, get_or, map, reverse, arith, Option, Some, Bool, true, false, refl, sym, ap, subst, ◌∙◌, inl, inr}
use Rattle.std.specs.Prelude.{◌⊎◌, All, nat_eq, is_some, if◌then◌else◌}
use Rattle.std.proofs.lemmas.Bool.{eq-eqb}
use Rattle.std.proofs.lemmas.List.{map-append, reverse-append, reverse-reverse, take_more}
use Rattle.std.proofs.lemmas.List.Elements.{All-nil, All-head, All-tail, All-cons, All-weaker}
use Rattle.lp_lemmas.proofs.Lists.{map_reverse}
use Rattle.lp_term.specs.Node.{TypeShape, var_node, param_node, con_node, arrow_node}
use Rattle.lp_term.specs.Nodes.{Nodes, type_at}
use Rattle.lp_term.specs.declared.node.TypeId.{TypeId}
use Rattle.lp_sig.specs.declared.interned.Task.{Task}
use Rattle.lp_sig.specs.declared.interned.Task.TheVariants.{Visit, Build}
use Rattle.lp_sig.specs.inner.Tasks.{AreParts, AllGo}

parts_weaker : (P Q : ℕ → Type 0) → ((i : ℕ) → P i → Q i) → (s : TypeShape) → AreParts P s → AreParts Q s
parts_weaker P Q f (var_node i) h = h
parts_weaker P Q f (param_node k) h = h
parts_weaker P Q f (con_node c ids) h = All-weaker P Q f ids h
parts_weaker P Q f (arrow_node a b) h = (f a h.0, f b h.1)

or_this : (P Q : ℕ → Type 0) (t : ℕ) → ((i : ℕ) → P i → Q i) → (i : ℕ) → P i ⊎ (i ≡ t) → Q i ⊎ (i ≡ t)
or_this P Q t f i (inl h) = inl (f i h)
or_this P Q t f i (inr e) = inr e

-- where more have copies, they go
pub go_weaker : (b : Nodes) (root : ℕ) (P Q : ℕ → Type 0) → ((i : ℕ) → P i → Q i) → (ts : List Task) → AllGo b root P ts → AllGo b root Q ts
go_weaker b root P Q f [] h = f root h
go_weaker b root P Q f (Visit t ∷ ts) h = go_weaker b root (λ i. P i ⊎ (i ≡ t.0)) (λ i. Q i ⊎ (i ≡ t.0)) (or_this P Q t.0 f) ts h
go_weaker b root P Q f (Build t ∷ ts) h = (parts_weaker P Q f (type_at b t.0) h.0, go_weaker b root (λ i. P i ⊎ (i ≡ t.0)) (λ i. Q i ⊎ (i ≡ t.0)) (or_this P Q t.0 f) ts h.1)

visits_go : (b : Nodes) (root : ℕ) (rest : List Task) (ids : List TypeId) (P : ℕ → Type 0) →
    ((Q : ℕ → Type 0) → ((i : ℕ) → P i → Q i) → All Q (map (λ t. t.0) ids) → AllGo b root Q rest) → AllGo b root P (map (λ t. Visit t) ids ++ rest)
visits_go b root rest [] P f = f P (λ i h. h) (All-nil P)
visits_go b root rest (t ∷ ts) P f =
    visits_go b root rest ts (λ i. P i ⊎ (i ≡ t.0)) (λ Q up all. f Q (λ i h. up i (inl h)) (All-cons Q t.0 (map (λ t. t.0) ts) (up t.0 (inr refl)) all))

-- a node whose parts come first
pub con_goes : (b : Nodes) (root : ℕ) (P : ℕ → Type 0) (id : TypeId) (k : ℕ) (ids : List TypeId) (old mid new : List Task) → con_node k (map (λ t. t.0) ids) ≡ type_at b id.0 →
    mid ≡ old ++ Build id ∷ [] → new ≡ mid ++ map (λ t. Visit t) (reverse ids) → AllGo b root P (Visit id ∷ reverse old) → AllGo b root P (reverse new)
con_goes b root P id k ids old mid new is one two go = subst (AllGo b root P) (sym turned) (visits_go b root (Build id ∷ reverse old) ids P (λ Q up all. (
  subst (AreParts Q) is all,
  go_weaker b root (λ i. P i ⊎ (i ≡ id.0)) (λ i. Q i ⊎ (i ≡ id.0)) (or_this P Q id.0 up) (reverse old) go,
)))
  where
    turned : reverse new ≡ map (λ t. Visit t) ids ++ (Build id ∷ reverse old)
    turned = ap reverse two ∙ reverse-append mid (map (λ t. Visit t) (reverse ids)) ∙
        ap (λ l. l ++ reverse mid) (ap reverse (map_reverse (λ t. Visit t) ids) ∙ reverse-reverse (map (λ t. Visit t) ids)) ∙
        ap (λ l. map (λ t. Visit t) ids ++ l) (ap reverse one ∙ reverse-append old (Build id ∷ []))

pub arrow_goes : (b : Nodes) (root : ℕ) (P : ℕ → Type 0) (id f t : TypeId) (old one two new : List Task) → arrow_node f.0 t.0 ≡ type_at b id.0 →
    one ≡ old ++ Build id ∷ [] → two ≡ one ++ Visit t ∷ [] → new ≡ two ++ Visit f ∷ [] → AllGo b root P (Visit id ∷ reverse old) → AllGo b root P (reverse new)
arrow_goes b root P id f t old one two new is first second third go = subst (AllGo b root P) (sym turned) (
  subst (AreParts (λ i. (P i ⊎ (i ≡ f.0)) ⊎ (i ≡ t.0))) is (inl (inr refl), inr refl),
  go_weaker b root (λ i. P i ⊎ (i ≡ id.0)) (λ i. ((P i ⊎ (i ≡ f.0)) ⊎ (i ≡ t.0)) ⊎ (i ≡ id.0)) (or_this P (λ i. (P i ⊎ (i ≡ f.0)) ⊎ (i ≡ t.0)) id.0 (λ i h. inl (inl h))) (reverse old) go,
)
  where
    turned : reverse new ≡ Visit f ∷ Visit t ∷ Build id ∷ reverse old
    turned = ap reverse third ∙ reverse-append two (Visit f ∷ []) ∙
        ap (λ l. Visit f ∷ l) (ap reverse second ∙ reverse-append one (Visit t ∷ []) ∙ ap (λ l. Visit t ∷ l) (ap reverse first ∙ reverse-append old (Build id ∷ [])))

-- a copy that is kept, and one that there is already
pub copy_kept : (old new : ℕ → Option ℕ) (x v : ℕ) → ((y : ℕ) → new y ≡ (if nat_eq x y then Some v else old y)) → (i : ℕ) → (is_some (old i) ≡ true) ⊎ (i ≡ x) → is_some (new i) ≡ true
copy_kept old new x v put i (inl h) = ap is_some (put i) ∙ by (nat_eq x i)
  where
    by : (t : Bool) → is_some (if t then Some v else old i) ≡ true
    by true = refl
    by false = h
copy_kept old new x v put i (inr e) = ap is_some (put i ∙ ap (λ t. if t then Some v else old i) (eq-eqb x i (sym e)))

pub copy_there : (P : ℕ → Type 0) (x : ℕ) → P x → (i : ℕ) → P i ⊎ (i ≡ x) → P i
copy_there P x h i (inl p) = p
copy_there P x h i (inr e) = subst P (sym e) h

-- the next task
pub next_goes : (b : Nodes) (root : ℕ) (P : ℕ → Type 0) (id : TypeId) (t : Task) (rest : List Task) → t ≡ Build id → AllGo b root P (t ∷ rest) → AreParts P (type_at b id.0)
next_goes b root P id t rest is go = (subst (λ t. AllGo b root P (t ∷ rest)) is go).0

-- the copies of parts, one by one
pub copy_of_part : (P : ℕ → Type 0) (ids : List TypeId) (i : ℕ) (d : TypeId) → i < length ids → All P (map (λ t. t.0) ids) → P (get_or ids i d).0
copy_of_part P [] i d l all = absurd (omega (arith, l))
copy_of_part P (x ∷ xs) zero d l all = All-head P x.0 (map (λ t. t.0) xs) all
copy_of_part P (x ∷ xs) (suc i) d l all = copy_of_part P xs i d (omega (arith, l)) (All-tail P x.0 (map (λ t. t.0) xs) all)

pub one_more : (find : ℕ → Option ℕ) (ids : List TypeId) (i : ℕ) (d copy : TypeId) (old new : List TypeId) → i < length ids → find (get_or ids i d).0 ≡ Some copy.0 → new ≡ old ++ copy ∷ [] →
    map (λ t. find t.0) (take i ids) ≡ map (λ c. Some c.0) old → map (λ t. find t.0) (take (i + 1) ids) ≡ map (λ c. Some c.0) new
one_more find ids i d copy old new l found more so =
    ap (map (λ t. find t.0)) (take_more ids i d l) ∙ map-append (λ t. find t.0) (take i ids) (get_or ids i d ∷ []) ∙
    (λ j. so j ++ found j ∷ []) ∙ sym (map-append (λ c. Some c.0) old (copy ∷ [])) ∙ ap (map (λ c. Some c.0)) (sym more)
