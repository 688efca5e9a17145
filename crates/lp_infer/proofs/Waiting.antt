-- What is built has its parts read: each task that is done keeps what `Serves` says.
use Rattle.std.proofs.Common.{◌≡◌, ℕ, ◌<◌, List, [], ◌∷◌, ◌++◌, map, length, refl, sym, ap, subst, ◌∙◌, Option, Some, None, Bool, true, false, inl, inr}
use Rattle.std.specs.Prelude.{◌⊎◌, All, nat_eq, if◌then◌else◌}
use Rattle.std.proofs.lemmas.Bool.{eqb-true, eq-eqb}
use Rattle.std.proofs.lemmas.List.Elements.{All-nil, All-cons, All-head, All-tail, All-weaker}
use Rattle.indexmap.specs.IndexMap.{get}
use Rattle.lp_calculus.specs.Types.{Ty}
use Rattle.lp_term.specs.Node.{TypeShape, var_node, param_node, con_node, arrow_node}
use Rattle.lp_term.specs.Nodes.{Nodes, type_at}
use Rattle.lp_term.specs.declared.node.TypeId.{TypeId}
use Rattle.lp_infer.specs.inner.Waiting.{WasRead, IsPut, IsRead, PartsRead, Serves}
use Rattle.lp_infer.specs.declared.reading.Reading.{Reading}
use Rattle.lp_infer.specs.declared.reading.Task.{Task}
use Rattle.lp_infer.specs.declared.reading.Task.TheVariants as task

-- what is kept

pub put_since : (id top j : ℕ) (old now new : Reading) → now.made ≡ old.made → IsPut id top j now new → IsPut id top j old new
put_since id top j old now new e p = record { here = p.here; each = λ i. go i (p.each i) } where
  go : (i : ℕ) → (get nat_eq new.made i ≡ get nat_eq now.made i) ⊎ (((i ≡ id) ⊎ (i ≡ top)) × (get nat_eq new.made i ≡ Some j)) → (get nat_eq new.made i ≡ get nat_eq old.made i) ⊎ (((i ≡ id) ⊎ (i ≡ top)) × (get nat_eq new.made i ≡ Some j))
  go i (inl f) = inl (f ∙ ap (λ m. get nat_eq m i) e)
  go i (inr f) = inr f

pub put_twice : (id top j : ℕ) (old mid new : Reading) → ((i : ℕ) → get nat_eq mid.made i ≡ (if nat_eq top i then Some j else get nat_eq old.made i)) →
    ((i : ℕ) → get nat_eq new.made i ≡ (if nat_eq id i then Some j else get nat_eq mid.made i)) → IsPut id top j old new
put_twice id top j old mid new first last = record {
  here = last id ∙ ap (λ t. if t then Some j else get nat_eq mid.made id) (eq-eqb id id refl);
  each = λ i. by_id i (nat_eq id i) refl;
} where
  by_top : (i : ℕ) (t : Bool) → nat_eq top i ≡ t → get nat_eq new.made i ≡ get nat_eq mid.made i → (get nat_eq new.made i ≡ get nat_eq old.made i) ⊎ (((i ≡ id) ⊎ (i ≡ top)) × (get nat_eq new.made i ≡ Some j))
  by_top i true e h = inr (inr (sym (eqb-true top i e)), h ∙ first i ∙ ap (λ t. if t then Some j else get nat_eq old.made i) e)
  by_top i false e h = inl (h ∙ first i ∙ ap (λ t. if t then Some j else get nat_eq old.made i) e)

  by_id : (i : ℕ) (t : Bool) → nat_eq id i ≡ t → (get nat_eq new.made i ≡ get nat_eq old.made i) ⊎ (((i ≡ id) ⊎ (i ≡ top)) × (get nat_eq new.made i ≡ Some j))
  by_id i true e = inr (inl (sym (eqb-true id i e)), last i ∙ ap (λ t. if t then Some j else get nat_eq mid.made i) e)
  by_id i false e = by_top i (nat_eq top i) refl (last i ∙ ap (λ t. if t then Some j else get nat_eq mid.made i) e)

pub put_reads : (id top j : ℕ) (old new : Reading) → IsPut id top j old new → IsRead id old new
put_reads id top j old new p = record { here = λ e. some j (get nat_eq new.made id) e p.here; stay = λ i w. go i w (p.each i) } where
  some : (j : ℕ) (o : Option ℕ) → o ≡ None → o ≡ Some j → ⊥
  some j o e f = let g : Some j ≡ None = sym f ∙ e in absurd (cc)

  go : (i : ℕ) → WasRead old i → (get nat_eq new.made i ≡ get nat_eq old.made i) ⊎ (((i ≡ id) ⊎ (i ≡ top)) × (get nat_eq new.made i ≡ Some j)) → WasRead new i
  go i w (inl f) = λ e. w (sym f ∙ e)
  go i w (inr f) = λ e. some j (get nat_eq new.made i) e f.1

-- tasks

abbrev Or : ℕ → (ℕ → Type 0) → ℕ → Type 0
Or n was i = (i ≡ n) ⊎ was i

or_more : (n : ℕ) (P Q : ℕ → Type 0) → ((i : ℕ) → P i → Q i) → (i : ℕ) → Or n P i → Or n Q i
or_more n P Q f i (inl e) = inl e
or_more n P Q f i (inr p) = inr (f i p)

parts_more : (P Q : ℕ → Type 0) → ((i : ℕ) → P i → Q i) → (s : TypeShape) → PartsRead P s → PartsRead Q s
parts_more P Q f (var_node x) h = h
parts_more P Q f (param_node k) h = h
parts_more P Q f (con_node c ids) h = All-weaker P Q f ids h
parts_more P Q f (arrow_node l r) h = (f l h.0, f r h.1)

module _ (A : ℕ → Ty) (b : Nodes) (root : ℕ) where
  serves_more : (P Q : ℕ → Type 0) → ((i : ℕ) → P i → Q i) → (ts : List Task) → Serves A b root P ts → Serves A b root Q ts
  serves_more P Q f [] s = f root s
  serves_more P Q f (task.Visit id ∷ ts) s = (s.0, serves_more (Or id.0 P) (Or id.0 Q) (or_more id.0 P Q f) ts s.1)
  serves_more P Q f (task.Build id top ∷ ts) s = (s.0, parts_more P Q f (type_at b top.0) s.1, serves_more (Or id.0 P) (Or id.0 Q) (or_more id.0 P Q f) ts s.2)

  -- a type that waited was read
  was_read : (n : ℕ) (old new : Reading) → IsRead n old new → (i : ℕ) → Or n (WasRead old) i → WasRead new i
  was_read n old new R i (inl e) = subst (WasRead new) (sym e) R.here
  was_read n old new R i (inr w) = R.stay i w

  pub visit_serves : (old new : Reading) (id : TypeId) (ts : List Task) → IsRead id.0 old new → Serves A b root (WasRead old) (task.Visit id ∷ ts) → Serves A b root (WasRead new) ts
  visit_serves old new id ts R s = serves_more (Or id.0 (WasRead old)) (WasRead new) (was_read id.0 old new R) ts s.1

  pub build_serves : (old new : Reading) (id top : TypeId) (ts : List Task) → IsRead id.0 old new → Serves A b root (WasRead old) (task.Build id top ∷ ts) → Serves A b root (WasRead new) ts
  build_serves old new id top ts R s = serves_more (Or id.0 (WasRead old)) (WasRead new) (was_read id.0 old new R) ts s.2

  -- the parts of a type are visited, and then it is built
  abbrev Among : List TypeId → (ℕ → Type 0) → ℕ → Type 0
  Among [] was i = was i
  Among (x ∷ xs) was i = Among xs (Or x.0 was) i

  among_later : (xs : List TypeId) (P Q : ℕ → Type 0) → ((i : ℕ) → P i → Q i) → (i : ℕ) → Among xs P i → Among xs Q i
  among_later [] P Q f i h = f i h
  among_later (x ∷ xs) P Q f i h = among_later xs (Or x.0 P) (Or x.0 Q) (or_more x.0 P Q f) i h

  among_known : (xs : List TypeId) (P : ℕ → Type 0) (i : ℕ) → P i → Among xs P i
  among_known [] P i h = h
  among_known (x ∷ xs) P i h = among_known xs (Or x.0 P) i (inr h)

  all_among : (xs : List TypeId) (P : ℕ → Type 0) → All (Among xs P) (map (λ t. t.0) xs)
  all_among [] P = All-nil (Among [] P)
  all_among (x ∷ xs) P = All-cons (Among xs (Or x.0 P)) x.0 (map (λ t. t.0) xs) (among_known xs (Or x.0 P) x.0 (inl refl)) (all_among xs (Or x.0 P))

  visits_serve : (xs : List TypeId) (P : ℕ → Type 0) (ts : List Task) → All (λ t. t.0 < length b.types) xs → Serves A b root (Among xs P) ts → Serves A b root P (map task.Visit xs ++ ts)
  visits_serve [] P ts known s = s
  visits_serve (x ∷ xs) P ts known s =
      (All-head (λ t. t.0 < length b.types) x xs known, visits_serve xs (Or x.0 P) ts (All-tail (λ t. t.0 < length b.types) x xs known) s)

  or_among : (n : ℕ) (xs : List TypeId) (P : ℕ → Type 0) (i : ℕ) → Or n P i → Or n (Among xs P) i
  or_among n xs P i (inl e) = inl e
  or_among n xs P i (inr p) = inr (among_known xs P i p)

  pub parts_serve : (r : Reading) (id top : TypeId) (ids : List TypeId) (ts todo : List Task) → A top.0 ≡ A id.0 → All (λ t. t.0 < length b.types) ids → PartsRead (Among ids (WasRead r)) (type_at b top.0) →
      todo ≡ map task.Visit ids ++ (task.Build id top ∷ ts) → Serves A b root (WasRead r) (task.Visit id ∷ ts) → Serves A b root (WasRead r) todo
  parts_serve r id top ids ts todo same known parts e s =
      subst (Serves A b root (WasRead r)) (sym e)
      (visits_serve ids (WasRead r) (task.Build id top ∷ ts) known
      (sym same, parts, serves_more (Or id.0 (WasRead r)) (Or id.0 (Among ids (WasRead r))) (or_among id.0 ids (WasRead r)) ts s.1))

  -- a constructor on types, and a function type
  pub con_serves : (r : Reading) (id top : TypeId) (c : ℕ) (ids : List TypeId) (ts todo : List Task) → A top.0 ≡ A id.0 → All (λ i. i < length b.types) (map (λ t. t.0) ids) → con_node c (map (λ t. t.0) ids) ≡ type_at b top.0 →
      todo ≡ map task.Visit ids ++ (task.Build id top ∷ ts) → Serves A b root (WasRead r) (task.Visit id ∷ ts) → Serves A b root (WasRead r) todo
  con_serves r id top c ids ts todo same known node e s =
      parts_serve r id top ids ts todo same (All-unmapped ids known) (subst (PartsRead (Among ids (WasRead r))) node (all_among ids (WasRead r))) e s where
        All-unmapped : (xs : List TypeId) → All (λ i. i < length b.types) (map (λ t. t.0) xs) → All (λ t. t.0 < length b.types) xs
        All-unmapped [] h = All-nil (λ t. t.0 < length b.types)
        All-unmapped (x ∷ xs) h = All-cons (λ t. t.0 < length b.types) x xs (All-head (λ i. i < length b.types) x.0 (map (λ t. t.0) xs) h) (All-unmapped xs (All-tail (λ i. i < length b.types) x.0 (map (λ t. t.0) xs) h))

  pub arrow_serves : (r : Reading) (id top left right : TypeId) (ts todo : List Task) → A top.0 ≡ A id.0 → (left.0 < length b.types) × (right.0 < length b.types) → arrow_node left.0 right.0 ≡ type_at b top.0 →
      todo ≡ task.Visit left ∷ task.Visit right ∷ task.Build id top ∷ ts → Serves A b root (WasRead r) (task.Visit id ∷ ts) → Serves A b root (WasRead r) todo
  arrow_serves r id top left right ts todo same known node e s =
      parts_serve r id top (left ∷ right ∷ []) ts todo same
      (All-cons (λ t. t.0 < length b.types) left (right ∷ []) known.0 (All-cons (λ t. t.0 < length b.types) right [] known.1 (All-nil (λ t. t.0 < length b.types))))
      (subst (PartsRead (Among (left ∷ right ∷ []) (WasRead r))) node (inr (inl refl), inl refl)) e s

pub each_read : (r : Reading) (ids : List TypeId) → All (WasRead r) (map (λ t. t.0) ids) → All (λ t. WasRead r t.0) ids
each_read r [] h = All-nil (λ t. WasRead r t.0)
each_read r (x ∷ xs) h = All-cons (λ t. WasRead r t.0) x xs (All-head (WasRead r) x.0 (map (λ t. t.0) xs) h) (each_read r xs (All-tail (WasRead r) x.0 (map (λ t. t.0) xs) h))
